-- The weighted sum of a block by columns: the algebra of it, and the bounds that keep it in 32 bits.
use Rattle.std.proofs.Common.{◌≡◌, ℕ, zero, suc, ◌+◌, ◌*◌, ◌^◌, ◌/◌, ◌<◌, ◌≤◌, List, [], get_or, length, refl, ap, ◌∙◌, add-one, arith}
use Rattle.std.specs.Simd.{first_chunks}
use Rattle.std.proofs.lemmas.Simd.{get_or-chunk}
use Rattle.std.proofs.lemmas.Nat.{mul-le}
use Rattle.drivefile.specs.Block.{weighted, weighted_sum}
use Rattle.drivefile.specs.Bytes.{le16}
use Rattle.drivefile.specs.Columns.{column, with_number}
use Rattle.drivefile.specs.declared.check.Column.{Column}
use Rattle.drivefile.proofs.Chunks.{chunk_at}

-- number j of row k
pub number_at : (bs : List ℕ) (rows : List (List ℕ)) (k j : ℕ) → length bs ≡ 512 → rows ≡ first_chunks 16 (length bs / 16) bs → k < 32 → j < 8 → le16 (get_or rows k []) (2 * j) ≡ le16 bs (16 * k + 2 * j)
number_at bs rows k j long is h l =
    let rows_are : rows ≡ first_chunks 16 32 bs = rw long at is in
    let e : 16 * k + (2 * j + 1) ≡ 16 * k + 2 * j + 1 = omega arith in
    rw (rows_are, chunk_at 16 32 k bs [] h, get_or-chunk (16 * k) 16 bs (2 * j) 0 (omega arith), get_or-chunk (16 * k) 16 bs (2 * j + 1) 0 (omega arith), e) refl

-- one more row
pub column_more : (bs : List ℕ) (k j : ℕ) → column bs (k + 1) j ≡ with_number (column bs k j) (le16 bs (16 * k + 2 * j))
column_more bs k j = rw (add-one k) refl

pub total_more : (bs : List ℕ) (k j : ℕ) → (column bs (k + 1) j).total ≡ (column bs k j).total + (column bs (k + 1) j).sum
total_more bs k j = rw (add-one k) refl

-- the terms of column j over the first k rows
pub lane : List ℕ → ℕ → ℕ → ℕ
lane bs zero j = 0
lane bs (suc k) j = lane bs k j + (8 * k + j + 1) * le16 bs (2 * (8 * k + j))

-- those of the first j columns
unfoldable pub lanes : List ℕ → ℕ → ℕ → ℕ
lanes bs k zero = 0
lanes bs k (suc j) = lanes bs k j + lane bs k j

-- the columns of one more row have that row's terms
one_row : (bs : List ℕ) (k j : ℕ) → lanes bs (suc k) j + weighted bs (8 * k) ≡ lanes bs k j + weighted bs (8 * k + j)
unfolding lanes lane
one_row bs k zero = let e : 8 * k + 0 ≡ 8 * k = omega arith in rw e refl
one_row bs k (suc j) = let e : 8 * k + suc j ≡ suc (8 * k + j) = omega arith in rw e (omega (arith, one_row bs k j))

-- the columns' terms are all terms
all_rows : (bs : List ℕ) (k : ℕ) → lanes bs k 8 ≡ weighted bs (8 * k)
unfolding lanes lane
all_rows bs zero = refl
all_rows bs (suc k) = let e : 8 * suc k ≡ 8 * k + 8 = omega arith in rw e (omega (arith, all_rows bs k, one_row bs k 8))

-- a column's terms, by its sum and its total
pub by_column : (bs : List ℕ) (k j : ℕ) → (8 * k + j + 1) * (column bs k j).sum ≡ lane bs k j + 8 * (column bs k j).total
unfolding lane
by_column bs zero j = omega arith
by_column bs (suc k) j = let p : 2 * (8 * k + j) ≡ 16 * k + 2 * j = omega arith in rw p (omega (arith, by_column bs k j))

module _ (bs : List ℕ) (bytes : (i : ℕ) → get_or bs i 0 < 256) where
  number_fits : (i : ℕ) → le16 bs i ≤ 65535
  number_fits i = omega (arith, bytes i, bytes (i + 1))

  pub column_fits : (k j : ℕ) → (column bs k j).sum ≤ 65535 * k
  column_fits zero j = omega arith
  column_fits (suc k) j = omega (arith, column_fits k j, number_fits (16 * k + 2 * j))

  pub total_fits : (k j : ℕ) → k ≤ 32 → (column bs k j).total ≤ 2097120 * k
  total_fits zero j h = omega arith
  total_fits (suc k) j h = omega (arith, total_fits k j (omega arith), column_fits k j, number_fits (16 * k + 2 * j))

  pub lane_fits : (k j : ℕ) → k ≤ 32 → j < 8 → lane bs k j ≤ 16776960 * k
  unfolding lane
  lane_fits zero j h l = omega arith
  lane_fits (suc k) j h l =
      omega (arith, lane_fits k j (omega arith) l, mul-le (8 * k + j + 1) (le16 bs (2 * (8 * k + j))) 256 65535 (omega arith) (number_fits (2 * (8 * k + j))))

  lanes_fit : (j : ℕ) → j ≤ 8 → lanes bs 32 j ≤ 536862720 * j
  unfolding lanes
  lanes_fit zero h = omega arith
  lanes_fit (suc j) h = omega (arith, lanes_fit j (omega arith), lane_fits 32 j (omega arith) (omega arith))

-- what is known of column j when all rows are in
pub record Whole (bs : List ℕ) (j : ℕ) (all : Column) : Type 0 where
  pub parts : (257 + j) * all.sum + lanes bs 32 j ≡ lanes bs 32 (j + 1) + 8 * all.total
  pub above : lanes bs 32 j ≤ lanes bs 32 (j + 1)
  pub fits : lanes bs 32 (j + 1) < 2 ^ 32
  pub part_fits : (257 + j) * all.sum < 2 ^ 32

pub whole_column : (bs : List ℕ) (k j : ℕ) (all : Column) → ((i : ℕ) → get_or bs i 0 < 256) → k ≡ 32 → j < 8 → all ≡ column bs k j → Whole bs j all
unfolding lanes
whole_column bs k j all bytes last h is =
    let e : 257 + j ≡ 8 * 32 + j + 1 = omega arith in
    let p : (257 + j) * (column bs 32 j).sum ≡ lane bs 32 j + 8 * (column bs 32 j).total = rw e (by_column bs 32 j) in
    let more : lanes bs 32 (j + 1) ≡ lanes bs 32 j + lane bs 32 j = rw (add-one j) refl in
    let f = column_fits bs bytes 32 j in
    rw (is, last) (record {
      parts = omega (arith, p, more);
      above = omega (arith, more);
      fits = omega (arith, lanes_fit bs bytes (j + 1) (omega arith));
      part_fits = omega (arith, mul-le (257 + j) (column bs 32 j).sum 264 2097120 (omega arith) (omega (arith, f)));
    })

-- all columns have all terms, and that of the check too
pub whole_sum : (bs : List ℕ) (j : ℕ) → j ≡ 8 → lanes bs 32 j ≡ weighted_sum bs + 256 * le16 bs 510
unfolding weighted_sum
whole_sum bs j e = ap (lanes bs 32) e ∙ all_rows bs 32
