-- The roll section: a first-order recursion modulo 2 ^ 32.
use Rattle.std.specs.Prelude.{ℕ, ◌+◌, ◌*◌, ◌%◌, ◌^◌, Bool, false, cond, ◌&&◌, nat_lt}
use Rattle.sections.specs.Meaning.{Meaning}
use Rattle.sections.specs.declared.roll.Coefficient.{Coefficient}
use Rattle.sections.specs.declared.roll.RollMap.{RollMap}

-- a state is a word
abbrev pub is_word : ℕ → Bool
is_word s = nat_lt s (2 ^ 32)

-- a kept number out of range is read as the state 0
abbrev pub read_state : ℕ → ℕ
read_state s = cond (is_word s) s 0

-- the next state is (c × s + x) modulo 2 ^ 32
abbrev pub step : ℕ → ℕ → ℕ → ℕ
step c s x = (c * read_state s + x) % 2 ^ 32

abbrev pub next : Coefficient → ℕ → ℕ → ℕ
next p = step p.value

abbrev pub roll_map : ℕ → ℕ → RollMap
roll_map m b = record { factor = m; add = b }

-- rest is (1, 0)
abbrev pub rest : RollMap
rest = roll_map 1 0

-- both numbers of a map are words; kept numbers that are not are read as rest
abbrev pub read_map : RollMap → RollMap
read_map f = cond (is_word f.factor && is_word f.add) f rest

-- the word's map is (c, x)
abbrev pub word : Coefficient → ℕ → RollMap
word c x = roll_map c.value x

-- a map (m, b) takes s to (m × s + b) modulo 2 ^ 32
abbrev pub moved : RollMap → ℕ → ℕ
moved f s = (f.factor * s + f.add) % 2 ^ 32

abbrev pub effect : RollMap → ℕ → ℕ
effect f s = moved (read_map f) (read_state s)

-- the join is (m1 × m2, m2 × b1 + b2), both modulo 2 ^ 32
abbrev pub joined : RollMap → RollMap → RollMap
joined f g = roll_map ((f.factor * g.factor) % 2 ^ 32) ((g.factor * f.add + g.add) % 2 ^ 32)

abbrev pub join : RollMap → RollMap → RollMap
join f g = joined (read_map f) (read_map g)

-- a state shows itself
abbrev pub roll : Meaning Coefficient ℕ RollMap
roll = record { next = next; rest = rest; word = word; join = join; effect = effect; shown = read_state; signed = false; inside = is_word; zero = 0 }
