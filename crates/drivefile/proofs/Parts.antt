-- Lists cut into parts of one length, and put together again.
use Rattle.std.proofs.Common.{◌≡◌, ℕ, zero, suc, ◌+◌, ◌-◌, ◌*◌, ◌<◌, ◌≤◌, min, List, ◌++◌, map, length, drop, sym, refl, ap, ◌∙◌, arith}
use Rattle.std.specs.List.{range_with_len, flat_map, AllByRecursion}
use Rattle.std.proofs.ByRecursion.{All-drop, All-take}
use Rattle.std.proofs.lemmas.List.{drop_all, drop_at, drop-drop, get_or_append_left, get_or-append_right, length-append, length-drop, length-take, same_lists, take_at}
use Rattle.std.proofs.lemmas.List.Concat.{flat_map-append}
use Rattle.std.proofs.lemmas.List.FromFn.{get_or-map-range_with_len, get_or-range_with_len, length-map-range_with_len, length-range_with_len}
use Rattle.std.proofs.lemmas.Simd.{chunk-drop, get_or-chunk}
use Rattle.drivefile.specs.File.{part}

-- lists that agree at each number of a stretch are the same in a row
pub joined_same : (f g : ℕ → List ℕ) (a n : ℕ) → ((b : ℕ) → a ≤ b → b < a + n → f b ≡ g b) → flat_map f (range_with_len a n) ≡ flat_map g (range_with_len a n)
joined_same f g a zero h = refl
joined_same f g a (suc n) h = λ i. h a (omega arith) (omega arith) i ++ joined_same f g (a + 1) n (λ b p q. h b (omega arith) (omega arith)) i

-- a row in two
counting_split : (a m n : ℕ) → range_with_len a (m + n) ≡ range_with_len a m ++ range_with_len (a + m) n
counting_split a m n =
    same_lists _ _ (grind (arith, length-append, length-range_with_len)) (λ k d h. grind (arith, get_or_append_left, get_or-append_right, length-append, length-range_with_len, get_or-range_with_len))

pub joined_counting : (f : ℕ → List ℕ) (a m n : ℕ) → flat_map f (range_with_len a (m + n)) ≡ flat_map f (range_with_len a m) ++ flat_map f (range_with_len (a + m) n)
joined_counting f a m n = ap (flat_map f) (counting_split a m n) ∙ flat_map-append f (range_with_len a m) (range_with_len (a + m) n)

-- the parts of a list in a row, from part j on, are the list from there
parts_on : (per : ℕ) (xs : List ℕ) (from j n : ℕ) → length xs ≤ per * (j + n) → flat_map (λ b. part per xs (b - from)) (range_with_len (from + j) n) ≡ drop (per * j) xs
parts_on per xs from j zero long = sym (drop_all (per * j) xs (omega arith))
parts_on per xs from j (suc n) long =
    let here : from + j - from ≡ j = omega arith in
    let one : from + j + 1 ≡ from + (j + 1) = omega arith in
    let next : per * (j + 1) ≡ per * j + per = omega arith in
    rw (here, one, parts_on per xs from (j + 1) n (omega arith), next) (sym (chunk-drop (per * j) per xs))

pub parts_from : (per : ℕ) (xs : List ℕ) (from a n : ℕ) → from ≤ a → length xs ≤ per * (a - from + n) → flat_map (λ b. part per xs (b - from)) (range_with_len a n) ≡ drop (per * (a - from)) xs
parts_from per xs from a n le long = let e : from + (a - from) ≡ a = omega arith in rw e at (parts_on per xs from (a - from) n long)

-- all the parts are all of it
pub parts_all : (per : ℕ) (xs : List ℕ) (from n : ℕ) → length xs ≤ per * n → flat_map (λ b. part per xs (b - from)) (range_with_len from n) ≡ xs
parts_all per xs from n long =
    let first : from + 0 ≡ from = omega arith in
    let none : per * 0 ≡ 0 = omega arith in
    rw (first, none) at (parts_on per xs from 0 n (omega arith))

-- a part of the values of a function, one after another
pub part_counting : (f : ℕ → ℕ) (per n j : ℕ) → part per (map f (range_with_len 0 n)) j ≡ map f (range_with_len (per * j) (min per (n - per * j)))
part_counting f per n j = same_lists _ _ (grind (arith, length-take, length-drop, length-map-range_with_len)) (λ k d h. grind (arith, length-take, length-drop, get_or-chunk, get_or-map-range_with_len, length-map-range_with_len))

pub length_part : (per : ℕ) (xs : List ℕ) (j : ℕ) → length (part per xs j) ≡ min per (length xs - per * j)
length_part per xs j = length-take per (drop (per * j) xs) ∙ ap (min per) (length-drop (per * j) xs)

pub all_part : (P : ℕ → Type 0) (per : ℕ) (xs : List ℕ) (j : ℕ) → AllByRecursion P xs → AllByRecursion P (part per xs j)
all_part P per xs j h = All-take P per (drop (per * j) xs) (All-drop P (per * j) xs h)

module _ (f : ℕ → List ℕ) (per : ℕ) (long : (b : ℕ) → length (f b) ≡ per) where
  -- rows of one length: how long they are together
  pub length_rows : (a n : ℕ) → length (flat_map f (range_with_len a n)) ≡ per * n
  length_rows a zero = omega arith
  length_rows a (suc n) = omega (arith, length-append (f a) (flat_map f (range_with_len (a + 1) n)), long a, length_rows (a + 1) n)

  -- and each of them
  pub part_rows : (a n j : ℕ) → j < n → part per (flat_map f (range_with_len a n)) j ≡ f (a + j)
  part_rows a zero j h = absurd (omega arith)
  part_rows a (suc n) zero h =
      let e : per * 0 ≡ 0 = omega arith in
      let k : a + 0 ≡ a = omega arith in
      rw (e, k) (take_at (f a) _ per (long a))
  part_rows a (suc n) (suc j) h =
      let e : per * suc j ≡ per + per * j = omega arith in
      let k : a + suc j ≡ a + 1 + j = omega arith in
      rw (e, k, ← drop-drop (per * j) per (f a ++ flat_map f (range_with_len (a + 1) n)), drop_at (f a) _ per (long a)) (part_rows (a + 1) n j (omega arith))
