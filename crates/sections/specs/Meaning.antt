-- What a section means, and the three laws that belong to its interface.
use Rattle.std.specs.Prelude.{◌≡◌, ℕ, ◌^◌, ◌<◌, Bool, true, cond, ℤ, pos}
use Rattle.std.specs.Int.{w32}
use Rattle.std.proofs.Common.{to_z}

-- A section by its operations. A word is a number below 2 ^ 32.
pub record Meaning (Params State Map : Type 0) : Type 0 where
  -- the recursion: the next state for a state and a word
  pub next : Params → State → ℕ → State
  -- the rest map, the map of a word, the join of a first and a second map
  pub rest : Map
  pub word : Params → ℕ → Map
  pub join : Map → Map → Map
  -- the effect of a map on a state
  pub effect : Map → State → State
  -- the word that a state shows, and whether words are read signed
  pub shown : State → ℕ
  pub signed : Bool
  -- whether a kept number is a state of the section, and the state that others stand for
  pub inside : State → Bool
  pub zero : State

-- The state that a kept number stands for: itself in range, else 0.
abbrev pub read : {Params State Map : Type 0} → Meaning Params State Map → State → State
read m s = cond (m.inside s) s m.zero

-- The three laws.
pub record Laws {Params State Map : Type 0} (m : Meaning Params State Map) : Type 0 where
  -- the rest map's effect on a state is that state, as it is read
  pub rest_law : (s : State) → m.effect m.rest s ≡ read m s
  -- the effect of a join is the effect of the second map on the effect of the first
  pub join_law : (f g : Map) (s : State) → m.effect (m.join f g) s ≡ m.effect g (m.effect f s)
  -- the effect of a word's map is the recursion's next state
  pub word_law : (p : Params) (x : ℕ) (s : State) → x < 2 ^ 32 → m.effect (m.word p x) s ≡ m.next p s x

-- Not a law of sections, but what it is to read a kept number: a map's effect and a state's word do not change when
-- the number is replaced by the state that it stands for, and 0 and every effect are states in range.
pub record Reading {Params State Map : Type 0} (m : Meaning Params State Map) : Type 0 where
  pub effect_read : (f : Map) (s : State) → m.effect f (read m s) ≡ m.effect f s
  pub shown_read : (s : State) → m.shown (read m s) ≡ m.shown s
  pub zero_inside : m.inside m.zero ≡ true
  pub effect_inside : (f : Map) (s : State) → m.inside (m.effect f s) ≡ true

-- A word as a number: two's complement where words are read signed.
abbrev pub number_of : Bool → ℕ → ℤ
number_of signed x = cond signed (to_z w32 x) (pos x)
