use Rattle.std.proofs.Common.{◌≡◌, ◌+◌, ◌<◌, ◌≤◌, ℕ, get_or, length}
use Rattle.drivefile.specs.Columns.{column}
use Rattle.drivefile.proofs.Columns.{Whole, lanes}
use Rattle.drivefile.proofs.check.weighted_sum.Given as goal

-- each column has the rows so far
abbrev pub invariant-loop-row : goal.invariant-loop-row
invariant-loop-row l = record {
  eight : length l.columns ≡ 8;
  summed : (i : ℕ) → i < 8 → get_or l.columns i (column l.block 0 0) ≡ column l.block l.row-index i;
}

-- the columns so far have this row too
abbrev pub invariant-loop-j : goal.invariant-loop-j
invariant-loop-j l = record {
  eight : length l.column-items ≡ 8;
  summed : (i : ℕ) → i < l.j → get_or l.column-items i (column l.block 0 0) ≡ column l.block (l.row-index + 1) i;
  left : (i : ℕ) → l.j ≤ i → i < 8 → get_or l.column-items i (column l.block 0 0) ≡ column l.block l.row-index i;
}

-- the sum has the terms of the columns so far
abbrev pub invariant-loop-j-2 : goal.invariant-loop-j-2
invariant-loop-j-2 l = record {
  summed : l.sum ≡ lanes l.block 32 l.j;
  whole : (i : ℕ) → i < 8 → Whole l.block i (get_or l.column-items i (column l.block 0 0));
}
