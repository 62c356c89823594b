-- A block passes its tests exactly when it is the block of its kind, number, item count and payload.
use Rattle.std.proofs.Common.{◌≡◌, ℕ, zero, suc, ◌+◌, ◌-◌, ◌*◌, ◌%◌, ◌<◌, ◌≤◌, eqb, List, ◌++◌, length, get_or, take, drop, replicate, sym, refl, ap, ◌∙◌, arith}
use Rattle.std.proofs.lemmas.Simd.{chunk-drop, get_or-chunk, length-chunk}
use Rattle.std.proofs.lemmas.List.{append_assoc, drop_all, ext_get_or, get_or-append_right, get_or_append_left, get_or-replicate, length-append, length-drop, length-replicate, length-take, take_at}
use Rattle.std.proofs.lemmas.Bool.{eq-eqb, eqb-true}
use Rattle.drivefile.specs.Block.{check_of, weighted, weighted_sum, kind_number}
use Rattle.drivefile.specs.Bytes.{bytes2, le16}
use Rattle.drivefile.specs.File.{sealed, unsealed}
use Rattle.drivefile.specs.Order.{Passed, Passes, block_tests, test}
use Rattle.drivefile.specs.declared.block.Due.{Due}
use Rattle.drivefile.proofs.Codings.{Bytes, taken2}
use Rattle.drivefile.proofs.Rows.{all_counting, counting_all}

-- the weighted sum looks at no byte after the numbers that it counts
weighted_front : (xs ys : List ℕ) (n : ℕ) → 2 * n ≤ length xs → weighted (xs ++ ys) n ≡ weighted xs n
weighted_front xs ys zero h = refl
weighted_front xs ys (suc n) h =
    let x = get_or_append_left xs ys 0 (2 * n) (omega arith) in
    let y = get_or_append_left xs ys 0 (2 * n + 1) (omega arith) in
    λ i. weighted_front xs ys n (omega arith) i + suc n * (x i + 256 * y i)

pub check_front : (xs ys : List ℕ) → length xs ≡ 510 → check_of (xs ++ ys) ≡ check_of xs
unfolding weighted_sum
check_front xs ys h = ap (λ s. s % 65521) (weighted_front xs ys 255 (omega arith))

-- a run of zero bytes
zeros_taken : (bs : List ℕ) (i n : ℕ) → i + n ≤ length bs → ((k : ℕ) → i ≤ k → k < i + n → get_or bs k 0 ≡ 0) → drop i bs ≡ replicate n 0 ++ drop (i + n) bs
zeros_taken bs i n le h =
    let zeros : take n (drop i bs) ≡ replicate n 0 = ext_get_or 0 _ _ (length-chunk i n bs le ∙ sym (length-replicate n 0)) (λ k l. grind (arith, get_or-chunk, get_or-replicate, length-chunk i n bs le, h (i + k))) in
    chunk-drop i n bs ∙ ap (λ r. r ++ drop (i + n) bs) zeros

pub length_unsealed : (kind b count : ℕ) (payload : List ℕ) → length payload ≤ 502 → length (unsealed kind b count payload) ≡ 510
length_unsealed kind b count payload le =
    omega (arith, length-append payload (replicate (502 - length payload) 0), length-replicate {A = ℕ} (502 - length payload) 0)

module _ (b : ℕ) (due : Due) (bs : List ℕ) (long : length bs ≡ 512) (fit : Bytes bs) (room : due.used ≤ 502) (p : Passed (block_tests b due bs)) where
  abbrev payload : List ℕ
  payload = take due.used (drop 8 bs)

  abbrev body : List ℕ
  body = unsealed (kind_number due.kind) b due.count payload

  length_payload : length payload ≡ due.used
  length_payload = omega (arith, length-take due.used (drop 8 bs), length-drop 8 bs)

  -- the last two bytes
  ends : drop 510 bs ≡ bytes2 (le16 bs 510)
  ends = taken2 bs 510 fit (omega arith) ∙ ap (λ r. bytes2 (le16 bs 510) ++ r) (drop_all 512 bs (omega arith))

  -- the payload, the filling, the last two bytes
  after_frame : drop 8 bs ≡ (payload ++ replicate (502 - length payload) 0) ++ bytes2 (le16 bs 510)
  after_frame =
      let e : 8 + due.used + (502 - due.used) ≡ 510 = omega arith in
      let zero_bytes = counting_all Passes (λ i. test (eqb (get_or bs i 0) 0) _) (8 + due.used) (502 - due.used) p.1.1.1.1.1 in
      let rest = zeros_taken bs (8 + due.used) (502 - due.used) (omega arith) (λ k l m. eqb-true (get_or bs k 0) 0 (zero_bytes k l m)) in
      let filled : drop (8 + due.used) bs ≡ replicate (502 - length payload) 0 ++ bytes2 (le16 bs 510) = rw (length_payload, ← ends, ← e) rest in
      chunk-drop 8 due.used bs ∙ ap (λ r. payload ++ r) filled ∙ sym (append_assoc payload (replicate (502 - length payload) 0) (bytes2 (le16 bs 510)))

  -- the block up to its check, then its last two bytes
  framed : bs ≡ body ++ bytes2 (le16 bs 510)
  framed =
      let kind : le16 bs 0 ≡ (kind_number due.kind) = eqb-true _ _ p.1.0 in
      let number : le16 bs 2 ≡ b = eqb-true _ _ p.1.1.0 in
      let count : le16 bs 4 ≡ due.count = eqb-true _ _ p.1.1.1.0 in
      let none : le16 bs 6 ≡ 0 = eqb-true _ _ p.1.1.1.1.0 in
      taken2 bs 0 fit (omega arith)
      ∙ rw (kind, taken2 bs 2 fit (omega arith), number, taken2 bs 4 fit (omega arith), count, taken2 bs 6 fit (omega arith), none)
      (ap (λ r. bytes2 (kind_number due.kind) ++ (bytes2 b ++ (bytes2 due.count ++ (bytes2 0 ++ r)))) after_frame)

  -- a block that passes is the block of what it holds
  pub passed_sealed : bs ≡ sealed (kind_number due.kind) b due.count (take due.used (drop 8 bs))
  passed_sealed =
      let long_body = length_unsealed (kind_number due.kind) b due.count payload (omega (arith, length_payload)) in
      let stored : le16 bs 510 ≡ check_of body = sym (eqb-true _ _ p.0) ∙ ap check_of framed ∙ check_front body (bytes2 (le16 bs 510)) long_body in
      framed ∙ ap (λ c. body ++ bytes2 c) stored

-- a number of two bytes is the one that they make
half : (n : ℕ) → n < 65536 → le16 (bytes2 n) 0 ≡ n
half n h = omega arith

module _ (kind b count : ℕ) (payload : List ℕ) (room : length payload ≤ 502) where
  abbrev front : List ℕ
  front = unsealed kind b count payload

  abbrev block : List ℕ
  block = sealed kind b count payload

  long_front : length front ≡ 510
  long_front = length_unsealed kind b count payload room

  pub length_sealed : length block ≡ 512
  length_sealed = omega (arith, long_front, length-append front (bytes2 (check_of front)))

  -- the payload lies from byte 8 on
  pub payload_sealed : take (length payload) (drop 8 block) ≡ payload
  payload_sealed =
      ap (take (length payload)) (append_assoc payload (replicate (502 - length payload) 0) (bytes2 (check_of front)))
      ∙ take_at payload _ (length payload) refl

  stored : le16 block 510 ≡ check_of front
  stored =
      let a = get_or-append_right front (bytes2 (check_of front)) 510 510 0 long_front (omega arith) in
      let c = get_or-append_right front (bytes2 (check_of front)) 510 511 0 long_front (omega arith) in
      (λ i. a i + 256 * c i) ∙ half (check_of front) (omega arith)

  -- the bytes after the payload, up to the check, are zero
  blank : (i : ℕ) → 8 + length payload ≤ i → i < 510 → get_or block i 0 ≡ 0
  blank i l m =
      let fill : List ℕ = replicate (502 - length payload) 0 in
      let e : i ≡ 8 + (i - 8) = omega arith in
      (λ j. get_or block (e j) 0) ∙ grind (arith, get_or_append_left (payload ++ fill) (bytes2 (check_of front)) 0 (i - 8), get_or-append_right payload fill (length payload) (i - 8) 0, length-append payload fill, length-replicate, get_or-replicate)

  -- the block of a kind, number, item count and payload passes
  pub sealed_passed : (due : Due) → kind ≡ (kind_number due.kind) → count ≡ due.count → length payload ≡ due.used → kind < 65536 → b < 65536 → count < 65536 → Passed (block_tests b due block)
  sealed_passed due k c u lk lb lc =
      let checked = check_front front (bytes2 (check_of front)) long_front ∙ sym stored in
      let kind_is = half kind lk ∙ k in
      let number_is = half b lb in
      let count_is = half count lc ∙ c in
      let filled = all_counting Passes (λ i. test (eqb (get_or block i 0) 0) _) (8 + due.used) (502 - due.used) (λ i l m. eq-eqb (get_or block i 0) 0 (blank i (omega arith) (omega arith))) in
      (eq-eqb _ _ checked, (eq-eqb _ _ kind_is, (eq-eqb _ _ number_is, (eq-eqb _ _ count_is, (eq-eqb (le16 block 6) 0 refl, filled)))))

-- payloads of one length are told apart by their blocks
pub same_payload : (kind b c d : ℕ) (xs ys : List ℕ) → length xs ≤ 502 → length xs ≡ length ys → sealed kind b c xs ≡ sealed kind b d ys → xs ≡ ys
same_payload kind b c d xs ys room long e =
    sym (payload_sealed kind b c xs room) ∙ (λ i. take (long i) (drop 8 (e i))) ∙ payload_sealed kind b d ys (omega arith)
