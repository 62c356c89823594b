-- The values of a section in range as words, and what tells sections and networks apart.
use Rattle.std.proofs.Common.{◌≡◌, ℕ, ◌-◌, ◌^◌, ◌<◌, true, ◌&&◌, cond, eqb, leb, ltb, List, ◌∷◌, length, get_or, ℤ, pos, negsuc, neg_ℤ, ◌≤ℤ◌, sym, refl, ◌∙◌, arith, w32, SFits, to_z}
use mir.ValLaws.{of_z_fits}
use Rattle.std.specs.List.{AllByRecursion}
use Rattle.std.proofs.ByRecursion.{All-weaker}
use Rattle.std.proofs.lemmas.Int.{ints, to_z-of_z}
use Rattle.std.proofs.lemmas.Bool.{and_parts, ltb-true}
use Rattle.sections.specs.Range.{within}
use Rattle.sections.specs.Stroke.{reach}
use Rattle.sections.specs.Ranges.{within_true}
use Rattle.drivefile.specs.Record.{DriveRecord, RecordRange, values_in}
use Rattle.drivefile.specs.File.{network_number, section_number, value_words}
use Rattle.drivefile.specs.declared.header.NetworkChoice.{NetworkChoice}
use Rattle.drivefile.specs.declared.header.NetworkChoice.TheVariants as network
use Rattle.drivefile.specs.declared.header.SectionChoice.{SectionChoice}
use Rattle.drivefile.specs.declared.header.SectionChoice.TheVariants as section

-- a number in the range of a signed word is one
in_word : (z : ℤ) → neg_ℤ (pos (2 ^ 31)) ≤ℤ z → z ≤ℤ pos (2 ^ 31 - 1) → SFits w32 z
in_word (pos n) l h = record { sfits = omega (arith, ints, h) }
in_word (negsuc n) l h = record { sfits = omega (arith, ints, l) }

pub word_within : (z : ℤ) → SFits w32 z → within (neg_ℤ (pos (2 ^ 31))) (pos (2 ^ 31 - 1)) z ≡ true
word_within (pos n) f = let l = f.sfits in grind (arith, ints)
word_within (negsuc n) f = let l = f.sfits in grind (arith, ints)

-- a stop, or a start state of the integrator
reached : (lo z : ℤ) → neg_ℤ (pos reach) ≤ℤ lo → within lo (pos reach) z ≡ true → SFits w32 z
reached lo z l e = let w = within_true lo (pos reach) z e in in_word z (omega (arith, ints, l, w.from)) (omega (arith, ints, w.to))

-- the integrator's values in range are signed words
pub record StrokeIn (start lower upper : ℤ) : Type 0 where
  pub start_in : within (neg_ℤ (pos reach)) (pos reach) start ≡ true
  pub lower_in : within (neg_ℤ (pos reach)) (pos reach) lower ≡ true
  pub upper_in : within lower (pos reach) upper ≡ true
  pub start_word : SFits w32 start
  pub lower_word : SFits w32 lower
  pub upper_word : SFits w32 upper

pub stroke_in : (start lower upper : ℤ) → values_in (section.Stroke start lower upper) ≡ true → StrokeIn start lower upper
stroke_in start lower upper h =
    let p = and_parts (within (neg_ℤ (pos reach)) (pos reach) start) _ h in
    let q = and_parts (within (neg_ℤ (pos reach)) (pos reach) lower) (within lower (pos reach) upper) p.1 in
    record {
      start_in = p.0;
      lower_in = q.0;
      upper_in = q.1;
      start_word = reached (neg_ℤ (pos reach)) start (omega (arith, ints)) p.0;
      lower_word = reached (neg_ℤ (pos reach)) lower (omega (arith, ints)) q.0;
      upper_word = reached lower upper (within_true (neg_ℤ (pos reach)) (pos reach) lower q.0).from q.1;
    }

-- so is the envelope's start state
pub record EnvelopeIn (start : ℤ) (d : ℕ) : Type 0 where
  pub start_word : SFits w32 start
  pub decay_in : ltb d (2 ^ 31) ≡ true

pub envelope_in : (start : ℤ) (d : ℕ) → values_in (section.Envelope start d) ≡ true → EnvelopeIn start d
envelope_in start d h =
    let p = and_parts (within (neg_ℤ (pos (2 ^ 31))) (pos (2 ^ 31 - 1)) start) (ltb d (2 ^ 31)) h in
    let w = within_true _ _ start p.0 in
    record { start_word = in_word start w.from w.to; decay_in = p.1 }

-- the values of a section in range are words
pub value_fit : (s : SectionChoice) → values_in s ≡ true → AllByRecursion (λ x. x < 2 ^ 32) (value_words s)
value_fit (section.Stroke start lower upper) h =
    let v = stroke_in start lower upper h in
    ((of_z_fits w32 start v.start_word).fits, ((of_z_fits w32 lower v.lower_word).fits, ((of_z_fits w32 upper v.upper_word).fits, tt)))
value_fit (section.Roll start c) h =
    let p = and_parts (ltb start (2 ^ 32)) (ltb c (2 ^ 32)) h in
    (ltb-true _ _ p.0, (ltb-true _ _ p.1, (omega arith, tt)))
value_fit (section.Envelope start d) h =
    let v = envelope_in start d h in
    ((of_z_fits w32 start v.start_word).fits, (omega (arith, ltb-true d (2 ^ 31) v.decay_in), (omega arith, tt)))

-- and the numbers of samples and of turns before them
abbrev pub numbers : DriveRecord → List ℕ
numbers r = length r.samples ∷ length r.turns ∷ value_words r.section

pub numbers_fit : (r : DriveRecord) → RecordRange r → AllByRecursion (λ x. x < 2 ^ 32) (numbers r)
numbers_fit r p = (omega (arith, p.samples_to), (omega (arith, p.turns_to), value_fit r.section p.section_values))

-- each turn of a record in range is a byte
pub turn_bytes : (r : DriveRecord) → RecordRange r → AllByRecursion (λ x. x < 256) r.turns
turn_bytes r p = All-weaker (λ x. x < r.workers) (λ x. x < 256) (λ x l. omega (arith, p.workers_to)) r.turns p.turn_workers

-- sections and networks have numbers that are known
pub section_known : (s : SectionChoice) → (leb 1 (section_number s) && leb (section_number s) 3) ≡ true
section_known (section.Stroke start lower upper) = refl
section_known (section.Roll start c) = refl
section_known (section.Envelope start d) = refl

pub network_known : (t : NetworkChoice) → (leb 1 (network_number t) && leb (network_number t) 2) ≡ true
network_known network.Serial = refl
network_known network.KoggeStone = refl

-- networks, and sections in range, are told apart by their bytes
pub network_same : (a b : NetworkChoice) → network_number a ≡ network_number b → a ≡ b
network_same network.Serial network.Serial e = refl
network_same network.Serial network.KoggeStone e = absurd (omega arith)
network_same network.KoggeStone network.Serial e = absurd (omega arith)
network_same network.KoggeStone network.KoggeStone e = refl

-- a section in range by its number and its words
abbrev section_at : ℕ → List ℕ → SectionChoice
section_at n ws =
    cond (eqb n 1) (section.Stroke (to_z w32 (get_or ws 0 0)) (to_z w32 (get_or ws 1 0)) (to_z w32 (get_or ws 2 0)))
    (cond (eqb n 2) (section.Roll (get_or ws 0 0) (get_or ws 1 0)) (section.Envelope (to_z w32 (get_or ws 0 0)) (get_or ws 1 0)))

section_back : (s : SectionChoice) → values_in s ≡ true → section_at (section_number s) (value_words s) ≡ s
section_back (section.Stroke a b c) h =
    let v = stroke_in a b c h in λ i. section.Stroke (to_z-of_z w32 a v.start_word i) (to_z-of_z w32 b v.lower_word i) (to_z-of_z w32 c v.upper_word i)
section_back (section.Roll a b) h = refl
section_back (section.Envelope a b) h = λ i. section.Envelope (to_z-of_z w32 a (envelope_in a b h).start_word i) b

pub section_same : (s t : SectionChoice) → values_in s ≡ true → values_in t ≡ true → section_number s ≡ section_number t → value_words s ≡ value_words t → s ≡ t
section_same s t h k e v = sym (section_back s h) ∙ (λ i. section_at (e i) (v i)) ∙ section_back t k
