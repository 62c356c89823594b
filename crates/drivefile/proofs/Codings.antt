-- Numbers as bytes and back, over the width: words of four bytes, turns of one.
use Rattle.std.proofs.Common.{◌≡◌, ℕ, zero, suc, ◌+◌, ◌*◌, ◌^◌, ◌<◌, ◌≤◌, List, [], ◌∷◌, ◌++◌, map, length, get_or, take, drop, ⊎_elim, sym, refl, ap, ◌∙◌, w16, w32, arith}
use Rattle.std.specs.List.{range_with_len, flat_map, AllByRecursion}
use Rattle.std.specs.Int.{from_le_bytes}
use Rattle.std.proofs.lemmas.Nat.{from_le_bytes-to_le_bytes_4, le_bytes_2, le_bytes_4}
use Rattle.std.proofs.ByRecursion.{All-get_or, All-weaker}
use Rattle.std.proofs.lemmas.List.{append_assoc, drop_at, drop_more, get_or_past, length-append, places}
use Rattle.std.proofs.lemmas.Simd.{chunk-drop, get_or-chunk, length-chunk}
use Rattle.std.proofs.lemmas.Bool.{cases_lt}
use Rattle.drivefile.specs.Bytes.{bytes2, bytes4, le16, le32}
use Rattle.drivefile.proofs.Rows.{all_flat}

-- every number of a list is a byte
abbrev pub Bytes : List ℕ → Type 0
Bytes bs = (i : ℕ) → get_or bs i 0 < 256

pub all_bytes : (bs : List ℕ) → AllByRecursion (λ b. b < 256) bs → Bytes bs
all_bytes bs h i = ⊎_elim (λ l. All-get_or (λ b. b < 256) bs i 0 l h) (λ l. grind (arith, get_or_past)) (cases_lt i (length bs))

-- a part of a list of bytes is one
pub bytes_part : (bs : List ℕ) (i n : ℕ) → Bytes bs → Bytes (take n (drop i bs))
bytes_part bs i n fit k = ⊎_elim (λ l. grind (arith, places, fit)) (λ l. grind (arith, places, get_or_past)) (cases_lt k n)

-- the bytes from a place on, two and four at a time
pub taken2 : (bs : List ℕ) (i : ℕ) → Bytes bs → i + 2 ≤ length bs → drop i bs ≡ bytes2 (le16 bs i) ++ drop (i + 2) bs
taken2 bs i fit le =
    let read : le16 bs i ≡ from_le_bytes w16 (take 2 (drop i bs)) = grind (arith, get_or-chunk i 2 bs 0 0 (omega arith), get_or-chunk i 2 bs 1 0 (omega arith)) in
    chunk-drop i 2 bs ∙ ap (λ r. r ++ drop (i + 2) bs) (sym (le_bytes_2 (take 2 (drop i bs)) (le16 bs i) (length-chunk i 2 bs le) (bytes_part bs i 2 fit) read))

pub taken4 : (bs : List ℕ) (i : ℕ) → Bytes bs → i + 4 ≤ length bs → drop i bs ≡ bytes4 (le32 bs i) ++ drop (i + 4) bs
taken4 bs i fit le =
    let at : (k : ℕ) → k < 4 → get_or (take 4 (drop i bs)) k 0 ≡ get_or bs (i + k) 0 = λ k l. get_or-chunk i 4 bs k 0 l in
    let read : le32 bs i ≡ from_le_bytes w32 (take 4 (drop i bs)) = grind (arith, at 0 (omega arith), at 1 (omega arith), at 2 (omega arith), at 3 (omega arith)) in
    chunk-drop i 4 bs ∙ ap (λ r. r ++ drop (i + 4) bs) (sym (le_bytes_4 (take 4 (drop i bs)) (le32 bs i) (length-chunk i 4 bs le) (bytes_part bs i 4 fit) read))

-- how a number of `q` bytes is read and written: reading takes what was written, and writing tells numbers below `most` apart
pub record Coding (q most : ℕ) (read : List ℕ → ℕ → ℕ) (write : ℕ → List ℕ) : Type 0 where
  pub long : (x : ℕ) → length (write x) ≡ q
  pub taken : (bs : List ℕ) (i : ℕ) → Bytes bs → i + q ≤ length bs → drop i bs ≡ write (read bs i) ++ drop (i + q) bs
  pub back : (x : ℕ) (rest : List ℕ) → x < most → read (write x ++ rest) 0 ≡ x
  pub below : (bs : List ℕ) (i : ℕ) → Bytes bs → read bs i < most
  pub fit : (x : ℕ) → x < most → AllByRecursion (λ b. b < 256) (write x)

pub byte : Coding 1 256 (λ bs i. get_or bs i 0) (λ w. w ∷ [])
byte = record {
  long = λ x. refl;
  taken = λ bs i fit le. drop_more bs i 0 (omega arith);
  back = λ x rest h. refl;
  below = λ bs i fit. fit i;
  fit = λ x h. (h, tt);
}

-- a number of four bytes is the one that they make
pub whole : (n : ℕ) → n < 2 ^ 32 → le32 (bytes4 n) 0 ≡ n
whole n h = omega (arith, from_le_bytes-to_le_bytes_4 n h)

pub word : Coding 4 (2 ^ 32) le32 bytes4
word = record {
  long = λ x. refl;
  taken = taken4;
  back = λ x rest h. whole x h;
  below = λ bs i fit. let a = fit i in let b = fit (i + 1) in let c = fit (i + 2) in let d = fit (i + 3) in omega arith;
  fit = λ x h. search arith;
}

module _ {q most : ℕ} {read : List ℕ → ℕ → ℕ} {write : ℕ → List ℕ} (c : Coding q most read write) where
  -- numbers written one after another, read at places that follow one another
  pub run_taken : (bs : List ℕ) (at : ℕ → ℕ) (s a n : ℕ) → Bytes bs → s + q * n ≤ length bs → ((k : ℕ) → a ≤ k → k < a + n → at k + q * a ≡ s + q * k)
      → drop s bs ≡ flat_map write (map (λ k. read bs (at k)) (range_with_len a n)) ++ drop (s + q * n) bs
  run_taken bs at s a zero fit le h = let e : s + q * 0 ≡ s = omega arith in rw e refl
  run_taken bs at s a (suc n) fit le h =
      let here : at a ≡ s = omega (arith, h a (omega arith) (omega arith)) in
      let on : s + q * suc n ≡ s + q + q * n = omega arith in
      let rest = run_taken bs at (s + q) (a + 1) n fit (omega arith) (λ k l m. omega (arith, h k (omega arith) (omega arith))) in
      rw (here, on, c.taken bs s fit (omega arith), rest) (sym (append_assoc (write (read bs s)) _ _))

  -- so long are numbers in a row
  pub length_written : (xs : List ℕ) → length (flat_map write xs) ≡ q * length xs
  length_written [] = omega arith
  length_written (x ∷ xs) = omega (arith, length-append (write x) (flat_map write xs), c.long x, length_written xs)

  -- numbers in a row are told apart by their bytes
  pub written_same : (xs ys : List ℕ) → AllByRecursion (λ x. x < most) xs → AllByRecursion (λ x. x < most) ys → length xs ≡ length ys → flat_map write xs ≡ flat_map write ys → xs ≡ ys
  written_same [] [] p r l e = refl
  written_same [] (y ∷ ys) p r l e = absurd (omega arith)
  written_same (x ∷ xs) [] p r l e = absurd (omega arith)
  written_same (x ∷ xs) (y ∷ ys) p r l e =
      let first : x ≡ y = sym (c.back x (flat_map write xs) p.0) ∙ ap (λ bs. read bs 0) e ∙ c.back y (flat_map write ys) r.0 in
      let rest : flat_map write xs ≡ flat_map write ys =
      sym (drop_at (write x) (flat_map write xs) q (c.long x)) ∙ ap (drop q) e ∙ drop_at (write y) (flat_map write ys) q (c.long y) in
      λ i. first i ∷ written_same xs ys p.1 r.1 (omega arith) rest i

  -- numbers in a row are bytes
  pub written_fit : (xs : List ℕ) → AllByRecursion (λ x. x < most) xs → AllByRecursion (λ b. b < 256) (flat_map write xs)
  written_fit xs p = all_flat (λ b. b < 256) write xs (All-weaker (λ x. x < most) (λ x. AllByRecursion (λ b. b < 256) (write x)) c.fit xs p)
