-- The stroke integrator: a sum of signed words that stops at a lower and an upper stop.
use Rattle.std.specs.Prelude.{ℕ, ◌^◌, Bool, true, cond, ◌&&◌, ℤ, pos, ◌+ℤ◌, neg_ℤ, Some, None, Option, int_le}
use Rattle.std.specs.Int.{w32}
use Rattle.std.proofs.Common.{of_z, to_z}
use Rattle.faults.specs.declared.record.Value.{Value}
use Rattle.faults.specs.declared.record.Value.TheVariants.{First, Second}
use Rattle.sections.specs.Meaning.{Meaning}
use Rattle.sections.specs.Range.{held, within}
use Rattle.sections.specs.declared.stroke.Checked.{Checked}
use Rattle.sections.specs.declared.stroke.Stops.{Stops}
use Rattle.sections.specs.declared.stroke.StrokeMap.{StrokeMap}

-- R is 2 ^ 30; a state is from -R to R
abbrev pub reach : ℕ
reach = 2 ^ 30

abbrev pub position : ℤ → Bool
position s = within (neg_ℤ (pos reach)) (pos reach) s

-- a kept number out of range is read as the state 0
abbrev pub read_state : ℤ → ℤ
read_state s = cond (position s) s (pos 0)

-- the next state for the signed word x is min(upper, max(lower, s + x))
abbrev pub step : ℤ → ℤ → ℤ → ℕ → ℤ
step lower upper s x = held lower upper (read_state s +ℤ to_z w32 x)

abbrev pub next : Stops → ℤ → ℕ → ℤ
next p = step p.lower p.upper

abbrev pub stroke_map : ℤ → ℤ → ℤ → StrokeMap
stroke_map a l h = record { add = a; low = l; high = h }

-- rest is (0, -R, R)
abbrev pub rest : StrokeMap
rest = stroke_map (pos 0) (neg_ℤ (pos reach)) (pos reach)

-- a map keeps -R ≤ l ≤ h ≤ R and -2R ≤ a ≤ 2R; kept numbers that do not are read as rest
abbrev pub ordered : StrokeMap → Bool
ordered m = within (neg_ℤ (pos (2 ^ 31))) (pos (2 ^ 31)) m.add
    && (int_le (neg_ℤ (pos reach)) m.low && (int_le m.low m.high && int_le m.high (pos reach)))

abbrev pub read_map : StrokeMap → StrokeMap
read_map m = cond (ordered m) m rest

-- the word's map is (x, lower, upper)
abbrev pub word : Stops → ℕ → StrokeMap
word p x = stroke_map (to_z w32 x) p.lower p.upper

-- the numbers of a map that is known to be in range
abbrev pub numbers : Checked → StrokeMap
numbers m = stroke_map m.add m.stops.lower m.stops.upper

-- a map (a, l, h) takes s to min(h, max(l, s + a))
abbrev pub moved : StrokeMap → ℤ → ℤ
moved m s = held m.low m.high (s +ℤ m.add)

abbrev pub effect : StrokeMap → ℤ → ℤ
effect m s = moved (read_map m) (read_state s)

-- the join has the sum of both a, held to -2R .. 2R, and as its l and h the second map's effects on the first's
abbrev pub joined : StrokeMap → StrokeMap → StrokeMap
joined f g = stroke_map (held (neg_ℤ (pos (2 ^ 31))) (pos (2 ^ 31)) (f.add +ℤ g.add)) (moved g f.low) (moved g f.high)

abbrev pub join : StrokeMap → StrokeMap → StrokeMap
join f g = joined (read_map f) (read_map g)

-- a state shows itself, in two's complement
abbrev pub shown : ℤ → ℕ
shown s = of_z w32 (read_state s)

abbrev pub stroke : Meaning Stops ℤ StrokeMap
stroke = record { next = next; rest = rest; word = word; join = join; effect = effect; shown = shown; signed = true; inside = position; zero = pos 0 }

-- the first stop out of its range: the lower from -R to R, the upper from the lower to R
abbrev pub stops_fault : ℤ → ℤ → Option Value
stops_fault l u = cond (within (neg_ℤ (pos reach)) (pos reach) l) (cond (within l (pos reach) u) None (Some Second)) (Some First)
