-- What holds of every element of lists in a row.
use Rattle.std.proofs.Common.{◌≡◌, ◌∙◌, ℕ, zero, suc, ◌+◌, ◌-◌, ◌<◌, ◌≤◌, List, [], ◌∷◌, ◌++◌, map, subst, arith}
use Rattle.std.specs.List.{range_with_len, flat_map, AllByRecursion}
use Rattle.std.proofs.ByRecursion.{All-append, All-get_or, All-map}
use Rattle.std.proofs.lemmas.List.FromFn.{get_or-map-range_with_len, get_or-range_with_len, length-map-range_with_len, length-range_with_len}

-- of the numbers of a stretch
pub counted : (P : ℕ → Type 0) (a n : ℕ) → ((i : ℕ) → a ≤ i → i < a + n → P i) → AllByRecursion P (range_with_len a n)
counted P a zero h = tt
counted P a (suc n) h = (h a (omega arith) (omega arith), counted P (a + 1) n (λ i l m. h i (omega arith) (omega arith)))

module _ {X : Type 0} (P : X → Type 0) where
  -- of two lists in a row
  pub all_split : (xs ys : List X) → AllByRecursion P (xs ++ ys) → AllByRecursion P xs × AllByRecursion P ys
  all_split [] ys h = (tt, h)
  all_split (x ∷ xs) ys h = let s = all_split xs ys h.1 in ((h.0, s.0), s.1)

  -- of a list for each element of another
  pub all_flat : {Y : Type 0} (f : Y → List X) (ys : List Y) → AllByRecursion (λ y. AllByRecursion P (f y)) ys → AllByRecursion P (flat_map f ys)
  all_flat f [] h = tt
  all_flat f (y ∷ ys) h = All-append P (f y) (flat_map f ys) h.0 (all_flat f ys h.1)

  flat_all : {Y : Type 0} (f : Y → List X) (ys : List Y) → AllByRecursion P (flat_map f ys) → AllByRecursion (λ y. AllByRecursion P (f y)) ys
  flat_all f [] h = tt
  flat_all f (y ∷ ys) h = let s = all_split (f y) (flat_map f ys) h in (s.0, flat_all f ys s.1)

  -- of the values over a stretch of numbers
  pub all_counting : (f : ℕ → X) (a n : ℕ) → ((i : ℕ) → a ≤ i → i < a + n → P (f i)) → AllByRecursion P (map f (range_with_len a n))
  all_counting f a n h = All-map P f (range_with_len a n) (counted (λ i. P (f i)) a n h)

  pub counting_all : (f : ℕ → X) (a n : ℕ) → AllByRecursion P (map f (range_with_len a n)) → (i : ℕ) → a ≤ i → i < a + n → P (f i)
  counting_all f a n h i l m =
      subst P (get_or-map-range_with_len f a n (i - a) i (f a) (omega arith) (omega arith)) (All-get_or P (map f (range_with_len a n)) (i - a) (f a) (omega (arith, length-map-range_with_len f a n)) h)

  -- of a list for each number of a stretch
  pub all_joined : (f : ℕ → List X) (a n : ℕ) → ((b : ℕ) → a ≤ b → b < a + n → AllByRecursion P (f b)) → AllByRecursion P (flat_map f (range_with_len a n))
  all_joined f a n h = all_flat f (range_with_len a n) (counted (λ b. AllByRecursion P (f b)) a n h)

  pub joined_all : (f : ℕ → List X) (a n : ℕ) → AllByRecursion P (flat_map f (range_with_len a n)) → (b : ℕ) → a ≤ b → b < a + n → AllByRecursion P (f b)
  joined_all f a n h b l m =
      let e : a + (b - a) ≡ b = omega arith in
      subst (λ k. AllByRecursion P (f k)) (get_or-range_with_len a n (b - a) 0 (omega arith) ∙ e) (All-get_or (λ b. AllByRecursion P (f b)) (range_with_len a n) (b - a) 0 (omega (arith, length-range_with_len a n)) (flat_all f (range_with_len a n) h))
