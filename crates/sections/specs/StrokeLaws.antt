-- The laws of the stroke integrator.
use Rattle.std.specs.Prelude.{◌≡◌, ℕ, ◌^◌, ◌<◌, true, ℤ, pos, ◌+ℤ◌, neg_ℤ, ◌≤ℤ◌, FitsSigned, refl}
use Rattle.std.proofs.Common.{sym, ap, ◌∙◌, arith, of_z, to_z}
use Rattle.std.specs.Int.{w32, w64}
use Rattle.std.proofs.lemmas.Int.{clamps, ints, to_z-of_z}
use Rattle.sections.specs.Range.{held}
use Rattle.sections.specs.Stroke.{joined, moved, numbers, ordered, read_map, read_state, reach, rest, stroke, stroke_map, word}
use Rattle.sections.specs.declared.stroke.Checked.{Checked}
use Rattle.sections.specs.declared.stroke.Stops.{Stops}
use Rattle.sections.specs.declared.stroke.StrokeMap.{StrokeMap}
use Rattle.sections.specs.Lawful.{Kept, Sound, kept}
use Rattle.sections.specs.Ranges.{Within, carried, held_moved, held_order, held_twice, held_within, true_within, within_true}

-- a position
abbrev pub Position : ℤ → Type 0
Position = Within (neg_ℤ (pos reach)) (pos reach)

-- a map in range
pub record Ordered (m : StrokeMap) : Type 0 where
  pub add_in : Within (neg_ℤ (pos (2 ^ 31))) (pos (2 ^ 31)) m.add
  pub low_from : neg_ℤ (pos reach) ≤ℤ m.low
  pub low_to : m.low ≤ℤ m.high
  pub high_to : m.high ≤ℤ pos reach

-- states are read by their range test
states : Kept Position read_state
states = kept Position _ (pos 0) (within_true _ _) (true_within _ _) (grind (arith, ints))

-- rest is in range
rest_in : Ordered rest
rest_in = grind (arith, ints)

-- the test for a map's range says what it tests, and the other way round
ordered_true : (m : StrokeMap) → ordered m ≡ true → Ordered m
ordered_true m e = grind (arith, ints)

true_ordered : (m : StrokeMap) → Ordered m → ordered m ≡ true
true_ordered m h = grind (arith, ints)

-- maps are read by that test
maps : Kept Ordered read_map
maps = kept Ordered ordered rest ordered_true true_ordered rest_in

-- a map in range takes every number to a position between its ends
moved_in : (f : StrokeMap) (s : ℤ) → Ordered f → Position (moved f s)
moved_in f s h = grind (arith, ints, clamps)

-- an order stands when both sides are moved
shifted : (y z a : ℤ) → y ≤ℤ z → (y +ℤ a) ≤ℤ (z +ℤ a)
shifted y z a h = omega (arith, ints)

-- a join of maps in range is in range
pub joined_in : (f g : StrokeMap) → Ordered f → Ordered g → Ordered (joined f g)
joined_in f g f_in g_in = record {
  add_in = held_within _ _ (f.add +ℤ g.add) (omega (arith, ints));
  low_from = (moved_in g f.low g_in).from;
  low_to = held_order _ _ _ _ (shifted _ _ g.add f_in.low_to);
  high_to = (moved_in g f.high g_in).to;
}

-- from a position to a position the sum may be held to -2R .. 2R
held_sum : (low high s a : ℤ) → Position s → neg_ℤ (pos reach) ≤ℤ low → low ≤ℤ high → high ≤ℤ pos reach
    → held low high (s +ℤ held (neg_ℤ (pos (2 ^ 31))) (pos (2 ^ 31)) a) ≡ held low high (s +ℤ a)
held_sum low high s a s_in p q r = omega (arith, ints, clamps)

-- the join does what both maps do in turn: the ends are held as the numbers between them are
joined_moved : (f g : StrokeMap) (s : ℤ) → Ordered f → Ordered g → Position s → moved (joined f g) s ≡ moved g (moved f s)
joined_moved f g s f_in g_in s_in =
    let both = joined_in f g f_in g_in in
    let sum : s +ℤ (f.add +ℤ g.add) ≡ (s +ℤ f.add) +ℤ g.add = omega (arith, ints) in
    held_sum _ _ s (f.add +ℤ g.add) s_in both.low_from both.low_to both.high_to
    ∙ ap (held _ _) sum
    ∙ sym (held_twice g.low g.high _ _ _)
    ∙ sym (ap (held g.low g.high) (held_moved f.low f.high (s +ℤ f.add) g.add))

-- a checked map is in range
pub checked_in : (m : Checked) → Ordered (numbers m)
checked_in m = record {
  add_in = record { from = m.add_from; to = m.add_to };
  low_from = m.stops.lower_from;
  low_to = m.stops.lower_to;
  high_to = m.stops.upper_to;
}

-- the join as it is computed: its parts go through their bits
pub joined_is : (m n : Checked) (a l h : ℤ)
    → a ≡ held (neg_ℤ (pos (2 ^ 31))) (pos (2 ^ 31)) (to_z w64 (of_z w64 (to_z w64 (of_z w64 m.add) +ℤ to_z w64 (of_z w64 n.add))))
    → l ≡ moved (numbers n) (to_z w32 (of_z w32 m.stops.lower))
    → h ≡ moved (numbers n) (to_z w32 (of_z w32 m.stops.upper))
    → FitsSigned w64 a → FitsSigned w32 l → FitsSigned w32 h
    → stroke_map (to_z w64 (of_z w64 a)) (to_z w32 (of_z w32 l)) (to_z w32 (of_z w32 h)) ≡ joined (numbers m) (numbers n)
joined_is m n a l h a_is l_is h_is a_fits l_fits h_fits =
    let m_in = checked_in m in
    let n_in = checked_in n in
    let sum : to_z w64 (of_z w64 (to_z w64 (of_z w64 m.add) +ℤ to_z w64 (of_z w64 n.add))) ≡ m.add +ℤ n.add = omega (arith, ints) in
    let add : to_z w64 (of_z w64 a) ≡ (joined (numbers m) (numbers n)).add = to_z-of_z w64 a a_fits ∙ a_is ∙ ap (held _ _) sum in
    let low = carried w32 (moved (numbers n)) l m.stops.lower l_is l_fits (omega (arith, ints)) in
    let high = carried w32 (moved (numbers n)) h m.stops.upper h_is h_fits (omega (arith, ints)) in
    (λ i. stroke_map (add i) (low i) (high i))

-- a word's map is in range
word_in : (p : Stops) (x : ℕ) → x < 2 ^ 32 → Ordered (word p x)
word_in p x below = grind (arith, ints)

-- rest leaves a position as it is
rest_moved : (s : ℤ) → Position s → moved rest s ≡ s
rest_moved s s_in = omega (arith, ints, clamps)

-- what the laws follow from
pub sound : Sound stroke Position Ordered read_map moved joined (of_z w32)
sound = record {
  states = states;
  tested = true_within _ _;
  zero_in = states.inside (pos 0);
  maps = maps;
  effect_is = λ f s. refl;
  join_is = λ f g. refl;
  shown_is = λ s. refl;
  moved_in = λ f s f_in _. moved_in f s f_in;
  joined_in = joined_in;
  joined_moved = joined_moved;
  rest_in = rest_in;
  rest_moved = rest_moved;
  word_in = word_in;
  word_moved = λ p x s _. refl;
}
