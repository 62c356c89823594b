-- The sample-by-sample recursion over a list of words.
use Rattle.std.specs.Prelude.{ℕ, List, [], ◌∷◌}
use Rattle.sections.specs.Meaning.{Meaning}

-- s(0) is the start s, s(i + 1) the next state for s(i) and sample i, and word i is the one that s(i + 1) shows
abbrev pub words : {State : Type 0} → (State → ℕ → State) → (State → ℕ) → State → List ℕ → List ℕ
words next shown s [] = []
words next shown s (x ∷ xs) = shown (next s x) ∷ words next shown (next s x) xs

-- the words of a section with its parameters
abbrev pub words_of : {Params State Map : Type 0} → Meaning Params State Map → Params → State → List ℕ → List ℕ
words_of m p = words (m.next p) m.shown
