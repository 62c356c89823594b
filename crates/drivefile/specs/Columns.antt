-- A block as rows of 8 16-bit numbers: w(8 r + j) stands in row r and column j. For the steps of the code's sum; no public
-- contract cites these.
use Rattle.std.specs.Prelude.{ℕ, zero, suc, ◌+◌, ◌*◌, List}
use Rattle.drivefile.specs.Bytes.{le16}
use Rattle.drivefile.specs.declared.check.Column.{Column}

-- a column and one more number
abbrev pub with_number : Column → ℕ → Column
with_number column n = record { sum = column.sum + n; total = column.total + (column.sum + n) }

-- column j over the first k rows
abbrev pub column : List ℕ → ℕ → ℕ → Column
column bs zero j = record { sum = 0; total = 0 }
column bs (suc k) j = with_number (column bs k j) (le16 bs (16 * k + 2 * j))
