-- Blocks of items, over the width of an item: samples of four bytes, turns of one.
use Rattle.std.proofs.Common.{◌≡◌, ℕ, ◌+◌, ◌-◌, ◌*◌, ◌/◌, ◌%◌, ◌<◌, ◌≤◌, min, List, map, length, take, drop, sym, refl, ap, ◌∙◌, arith}
use Rattle.std.specs.List.{range_with_len, flat_map, AllByRecursion}
use Rattle.std.proofs.lemmas.Nat.{div-mul-add, mod-mul-add, mul-le}
use Rattle.std.proofs.lemmas.Grind.{div_ceil_times}
use Rattle.std.proofs.lemmas.List.FromFn.{length-map-range_with_len}
use Rattle.std.proofs.lemmas.List.{drop-drop, drop-take, take_at, take-take}
use Rattle.std.proofs.lemmas.Simd.{length-chunk}
use Rattle.drivefile.specs.Bytes.{block_at}
use Rattle.drivefile.specs.Header.{blocks_for}
use Rattle.drivefile.specs.File.{items_block, part, sealed}
use Rattle.drivefile.specs.Order.{Passed, block_tests}
use Rattle.drivefile.specs.Block.{kind_number}
use Rattle.drivefile.specs.declared.block.Due.{Due}
use Rattle.drivefile.specs.declared.block.Kind.{Kind as BlockKind}
use Rattle.drivefile.proofs.Codings.{Bytes, Coding, bytes_part, length_written, run_taken, written_same}
use Rattle.drivefile.proofs.Parts.{all_part, joined_same, length_part, part_counting, parts_all}
use Rattle.drivefile.proofs.Sealed.{length_sealed, passed_sealed, same_payload, sealed_passed}

module _ {q most : ℕ} {read : List ℕ → ℕ → ℕ} {write : ℕ → List ℕ} (c : Coding q most read write) (kind : BlockKind) (per from : ℕ) (room : q * per ≤ 500) where
  -- what is due in block b of n items
  abbrev pub items_in : ℕ → ℕ → ℕ
  items_in n b = min per (n - per * (b - from))

  abbrev pub items_due : ℕ → ℕ → ℕ → Due
  items_due n b u = record { kind = kind; count = items_in n b; used = u }

  abbrev bytes_in : List ℕ → ℕ → List ℕ
  bytes_in xs b = flat_map write (part per xs (b - from))

  length_bytes_in : (xs : List ℕ) (b : ℕ) → length (bytes_in xs b) ≡ q * items_in (length xs) b
  length_bytes_in xs b = length_written c (part per xs (b - from)) ∙ ap (λ n. q * n) (length_part per xs (b - from))

  few : (n b : ℕ) → q * items_in n b ≤ 500
  few n b = omega (arith, room, mul-le q (items_in n b) q per (omega arith) (omega arith))

  fits : (xs : List ℕ) (b : ℕ) → length (bytes_in xs b) ≤ 502
  fits xs b = omega (arith, length_bytes_in xs b, few (length xs) b)

  pub length_items : (xs : List ℕ) (b : ℕ) → length (items_block (kind_number kind) per write from xs b) ≡ 512
  length_items xs b = length_sealed (kind_number kind) b (length (part per xs (b - from))) (bytes_in xs b) (fits xs b)

  -- a block of items passes as it is due
  pub items_passed : (xs : List ℕ) (b u : ℕ) → u ≡ q * items_in (length xs) b → kind_number kind < 65536 → b < 65536 → per < 65536
      → Passed (block_tests b (items_due (length xs) b u) (items_block (kind_number kind) per write from xs b))
  items_passed xs b u e lk lb lp =
      let count = length_part per xs (b - from) in
      sealed_passed (kind_number kind) b (length (part per xs (b - from))) (bytes_in xs b) (fits xs b) (items_due (length xs) b u) refl count (length_bytes_in xs b ∙ sym e) lk lb (omega arith)

  -- blocks of as many items that are the same hold the same items
  pub items_same : (xs ys : List ℕ) (b : ℕ) → AllByRecursion (λ x. x < most) xs → AllByRecursion (λ x. x < most) ys → length xs ≡ length ys
      → items_block (kind_number kind) per write from xs b ≡ items_block (kind_number kind) per write from ys b → part per xs (b - from) ≡ part per ys (b - from)
  items_same xs ys b p r l e =
      let m = length_part per xs (b - from) in
      let n = length_part per ys (b - from) in
      let same_length : length (part per xs (b - from)) ≡ length (part per ys (b - from)) = cc in
      let k = length_bytes_in xs b in
      let o = length_bytes_in ys b in
      let long : length (bytes_in xs b) ≡ length (bytes_in ys b) = cc in
      written_same c (part per xs (b - from)) (part per ys (b - from)) (all_part _ per xs (b - from) p) (all_part _ per ys (b - from) r) same_length
      (same_payload (kind_number kind) b _ _ (bytes_in xs b) (bytes_in ys b) (fits xs b) long e)

  -- all of them, where each block does
  pub all_same : (xs ys : List ℕ) → 0 < per → AllByRecursion (λ x. x < most) xs → AllByRecursion (λ x. x < most) ys → length xs ≡ length ys
      → ((b : ℕ) → from ≤ b → b < from + blocks_for (length xs) per → items_block (kind_number kind) per write from xs b ≡ items_block (kind_number kind) per write from ys b) → xs ≡ ys
  all_same xs ys some p r l h =
      let n = blocks_for (length xs) per in
      sym (parts_all per xs from n (omega (arith, div_ceil_times (length xs) per some)))
      ∙ joined_same (λ b. part per xs (b - from)) (λ b. part per ys (b - from)) from n (λ b u v. items_same xs ys b p r l (h b u v))
      ∙ parts_all per ys from n (omega (arith, div_ceil_times (length xs) per some))

  module _ (file : List ℕ) (fit : Bytes file) (at : ℕ → ℕ) (placed : (i : ℕ) → at i ≡ 512 * (from + i / per) + 8 + q * (i % per)) where
    -- n items of a file, in order
    abbrev pub items : ℕ → List ℕ
    items n = map (λ i. read file (at i)) (range_with_len 0 n)

    -- the places of a block's items follow one another
    in_row : (n b : ℕ) → from ≤ b → (k : ℕ) → per * (b - from) ≤ k → k < per * (b - from) + items_in n b → at k + q * (per * (b - from)) ≡ 512 * b + 8 + q * k
    in_row n b le k l m =
        let j = b - from in
        let r = k - per * j in
        let e : k ≡ j * per + r = omega arith in
        let below : r < per = omega arith in
        let quotient : k / per ≡ j = ap (λ i. i / per) e ∙ div-mul-add j per r below in
        let rest : k % per ≡ r = ap (λ i. i % per) e ∙ mod-mul-add j per r below in
        let whole : q * k ≡ q * (per * j) + q * r = ap (λ i. q * i) e ∙ omega arith in
        let place : at k ≡ 512 * (from + j) + 8 + q * r = rw (placed k, quotient, rest) refl in
        omega arith

    -- the bytes of a block's items
    payload_items : (n b : ℕ) → from ≤ b → 512 * b + 512 ≤ length file → take (q * items_in n b) (drop 8 (block_at file b)) ≡ bytes_in (items n) b
    payload_items n b le long =
        let row = map (λ i. read file (at i)) (range_with_len (per * (b - from)) (items_in n b)) in
        let m = few n b in
        let wide : length (flat_map write row) ≡ q * items_in n b = length_written c row ∙ ap (λ k. q * k) (length-map-range_with_len (λ i. read file (at i)) (per * (b - from)) (items_in n b)) in
        let taken = run_taken c file at (512 * b + 8) (per * (b - from)) (items_in n b) fit (omega arith) (in_row n b le) in
        rw (drop-take 8 504 (drop (512 * b) file), drop-drop 8 (512 * b) file, take-take (q * items_in n b) 504 (drop (512 * b + 8) file) (omega arith), taken, take_at (flat_map write row) _ _ wide, part_counting (λ i. read file (at i)) per n (b - from)) refl

    -- a block that passes as it is due is the block of its items
    pub passed_items : (n b u : ℕ) → u ≡ q * items_in n b → from ≤ b → 512 * b + 512 ≤ length file → Passed (block_tests b (items_due n b u) (block_at file b)) → block_at file b ≡ items_block (kind_number kind) per write from (items n) b
    passed_items n b u e le long p =
        let m = few n b in
        let l = length-map-range_with_len (λ i. read file (at i)) 0 n in
        let k = length_part per (items n) (b - from) in
        let count : items_in n b ≡ length (part per (items n) (b - from)) = cc in
        passed_sealed b (items_due n b u) (block_at file b) (length-chunk (512 * b) 512 file long) (bytes_part file (512 * b) 512 fit) (omega arith) p
        ∙ (λ i. sealed (kind_number kind) b (count i) ((ap (λ k. take k (drop 8 (block_at file b))) e ∙ payload_items n b le long) i))
