-- The laws of the thrust envelope.
use Rattle.std.specs.Prelude.{◌≡◌, ℕ, ◌-◌, ◌^◌, ◌<◌, ℤ, pos, neg_ℤ, FitsSigned, refl}
use Rattle.std.proofs.Common.{arith, of_z}
use Rattle.std.specs.Int.{w32}
use Rattle.std.proofs.lemmas.Int.{clamps, ints}
use Rattle.sections.specs.Envelope.{envelope, joined, moved, next, read_map, read_state, rest, word}
use Rattle.sections.specs.declared.envelope.Decay.{Decay}
use Rattle.sections.specs.declared.envelope.EnvelopeMap.{EnvelopeMap}
use Rattle.sections.specs.Lawful.{Kept, Sound, kept}
use Rattle.sections.specs.Ranges.{Within, true_within, within_true}

-- a level of the envelope
abbrev pub Level : ℤ → Type 0
Level = Within (neg_ℤ (pos (2 ^ 31))) (pos (2 ^ 31 - 1))

-- a map in range
pub record Falling (f : EnvelopeMap) : Type 0 where
  pub fall_in : Within (neg_ℤ (pos (2 ^ 32))) (pos 0) f.fall
  pub floor_in : Level f.floor

-- states are read by their range test
states : Kept Level read_state
states = kept Level _ (pos 0) (within_true _ _) (true_within _ _) (grind (arith, ints))

-- rest is in range
rest_in : Falling rest
rest_in = grind (arith, ints)

-- maps are read by theirs
maps : Kept Falling read_map
maps = kept Falling _ rest (λ f e. grind (arith, ints)) (λ f h. grind (arith, ints)) rest_in

-- a map in range takes a level to a level
moved_in : (f : EnvelopeMap) (s : ℤ) → Falling f → Level s → Level (moved f s)
moved_in f s f_in s_in = grind (arith, ints, clamps)

-- a join of maps in range is in range
joined_in : (f g : EnvelopeMap) → Falling f → Falling g → Falling (joined f g)
joined_in f g f_in g_in = grind (arith, ints, clamps)

-- from a level every state falls below the floor by -2 ^ 32, so the sum may be held there
joined_moved : (f g : EnvelopeMap) (s : ℤ) → Falling f → Falling g → Level s → moved (joined f g) s ≡ moved g (moved f s)
joined_moved f g s f_in g_in s_in = omega (arith, ints, clamps)

-- a word's map is in range
word_in : (d : Decay) (x : ℕ) → x < 2 ^ 32 → Falling (word d x)
word_in d x below = grind (arith, ints)

-- rest leaves a level as it is
rest_moved : (s : ℤ) → Level s → moved rest s ≡ s
rest_moved s s_in = omega (arith, ints, clamps)

-- the recursion names the word first, the map the state
word_moved : (d : Decay) (x : ℕ) (s : ℤ) → moved (word d x) (read_state s) ≡ next d s x
word_moved d x s = omega (arith, ints, clamps)

-- what the laws follow from
pub sound : Sound envelope Level Falling read_map moved joined (of_z w32)
sound = record {
  states = states;
  tested = true_within _ _;
  zero_in = states.inside (pos 0);
  maps = maps;
  effect_is = λ f s. refl;
  join_is = λ f g. refl;
  shown_is = λ s. refl;
  moved_in = moved_in;
  joined_in = joined_in;
  joined_moved = joined_moved;
  rest_in = rest_in;
  rest_moved = rest_moved;
  word_in = word_in;
  word_moved = λ d x s _. word_moved d x s;
}

-- a signed 32-bit state is read as itself
pub read_fits : (s : ℤ) → FitsSigned w32 s → read_state s ≡ s
read_fits s fits = grind (arith, ints)
