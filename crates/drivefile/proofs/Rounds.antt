-- The steps of the loops over blocks and samples.
use Rattle.std.proofs.Common.{◌≡◌, ℕ, zero, suc, ◌+◌, ◌-◌, ◌*◌, ◌<◌, ◌≤◌, List, [], ◌++◌, length, take, drop, get_or, Ok, Err, Result, sym, refl, ap, ◌∙◌, ⊎_elim, arith}
use borrow.Rule.Slice.PartMut.{put_mid}
use Rattle.std.proofs.lemmas.Bool.{cases_lt}
use Rattle.std.proofs.lemmas.Nat.{div-mul-add, mod-mul-add}
use Rattle.std.proofs.lemmas.List.{get_or-append_right, get_or_append_left, get_or-take, length-append, length-drop, length-take}
use Rattle.std.proofs.lemmas.List.FromFn.{fill_by_all, get_or-map-range_with_len, length-map-range_with_len}
use Rattle.drivefile.specs.Bytes.{le32}
use Rattle.drivefile.specs.Items.{block_words, sample_in, samples_in}
use Rattle.drivefile.specs.Tests.{and_then, each_of}

module _ {E : Type 0} (t : ℕ → Result (Unit {0}) E) (b n : ℕ) where
  -- a test that passes leaves the rest
  pub each_more : b < n → t b ≡ Ok tt → each_of t b (n - b) ≡ each_of t (b + 1) (n - (b + 1))
  each_more more passed = let e : n - b ≡ suc (n - (b + 1)) = omega arith in rw (e, passed)

  -- a test that fails is the first fault
  pub each_here : (e : E) → b < n → t b ≡ Err e → each_of t b (n - b) ≡ Err e
  each_here fault more failed = let e : n - b ≡ suc (n - (b + 1)) = omega arith in rw (e, failed)

-- tests that answer the same have the same first fault
pub each_same : {E : Type 0} (t u : ℕ → Result (Unit {0}) E) (b n : ℕ) → ((i : ℕ) → b ≤ i → i < b + n → t i ≡ u i) → each_of t b n ≡ each_of u b n
each_same t u b zero same = refl
each_same t u b (suc n) same = λ i. and_then (same b (omega arith) (omega arith) i) (λ _. each_same t u (b + 1) n (λ j l m. same j (omega arith) (omega arith)) i)

-- the samples of the blocks, copied block by block
module _ (blocks : List (List ℕ)) where
  -- the first n places hold the first n samples
  abbrev pub Copied : List ℕ → ℕ → Type 0
  Copied out n = (k : ℕ) → k < n → get_or out k 0 ≡ sample_in blocks k

  -- sample i of block b
  sample_here : (b i : ℕ) → i < 125 → sample_in blocks (125 * b + i) ≡ le32 (get_or blocks b []) (8 + 4 * i)
  sample_here b i less =
      let e : 125 * b + i ≡ b * 125 + i = omega arith in
      rw (e, div-mul-add b 125 i less, mod-mul-add b 125 i less) refl

  -- a list of n places that holds the first n samples is these
  pub copied_all : (out : List ℕ) (m n : ℕ) → Copied out m → m ≡ n → length out ≡ n → out ≡ samples_in blocks n
  copied_all out m n all e long = fill_by_all (sample_in blocks) out n 0 long (λ k less. all k (omega arith))

  module _ (out words : List ℕ) (b s m : ℕ) (most : m ≤ 125) (room : 125 * b + m ≤ length out) (is : words ≡ take m (block_words (get_or blocks b []))) (before : Copied out (125 * b)) where
    abbrev word : ℕ → ℕ
    word i = le32 (get_or blocks b []) (8 + 4 * i)

    words_long : length words ≡ m
    words_long = let e = length-map-range_with_len word 0 125 in ap length is ∙ omega (arith, length-take m (block_words (get_or blocks b [])))

    -- m words of block b, put after the samples of the blocks before it
    pub copied_more : (n : ℕ) → n ≡ 125 * b + m → Copied (put_mid (125 * b) s out words) n
    copied_more n e k less =
        let front : length (take (125 * b) out) ≡ 125 * b = omega (arith, length-take (125 * b) out) in
        ⊎_elim
        (λ l. get_or_append_left (take (125 * b) out) _ 0 k (omega (arith, front)) ∙ get_or-take (125 * b) out k 0 l ∙ before k l)
        (λ l. let i = k - 125 * b in
        let back : 125 * b + i ≡ k = omega arith in
        get_or-append_right (take (125 * b) out) _ (125 * b) k 0 front l
        ∙ get_or_append_left words _ 0 i (omega (arith, words_long))
        ∙ ap (λ (w : List ℕ). get_or w i 0) is
        ∙ get_or-take m (block_words (get_or blocks b [])) i 0 (omega arith)
        ∙ get_or-map-range_with_len word 0 125 i i 0 (omega arith) (omega arith)
        ∙ sym (sample_here b i (omega arith))
        ∙ ap (sample_in blocks) back)
        (cases_lt k (125 * b))

    -- where they come to the end, the list holds the samples
    pub copied_last : 125 * b + m ≡ length out → s ≡ m → put_mid (125 * b) s out words ≡ samples_in blocks (length out)
    copied_last whole rest =
        let front = length-take (125 * b) out in
        let after = length-drop s (drop (125 * b) out) in
        let tail = length-drop (125 * b) out in
        let long : length (put_mid (125 * b) s out words) ≡ length out =
        length-append (take (125 * b) out) (words ++ drop s (drop (125 * b) out)) ∙ ap (λ n. length (take (125 * b) out) + n) (length-append words (drop s (drop (125 * b) out)))
        ∙ omega (arith, front, after, tail, words_long) in
        fill_by_all (sample_in blocks) (put_mid (125 * b) s out words) (length out) 0 long (copied_more (length out) (sym whole))

-- a loop that copied all has copied the samples
pub ruleset copied_whole = (copied_all, length-take)
