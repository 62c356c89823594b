-- One block of a drive file: its check, its frame, its filling.
use Rattle.std.specs.Prelude.{ℕ, zero, suc, ◌+◌, ◌-◌, ◌*◌, ◌%◌, cond, List, Some, None, Ok, Err, Option, Result, ◌==◌, nat_lt, slice_index}
use Rattle.faults.specs.declared.block.BlockFault.{BlockFault}
use Rattle.faults.specs.declared.block.BlockFault.TheVariants.{Check, Frame, Filling}
use Rattle.faults.specs.declared.block.Field.TheVariants.{Kind, Number, Count, Zero}
use Rattle.drivefile.specs.Bytes.{le16}
use Rattle.drivefile.specs.Tests.{and_then, expect}
use Rattle.drivefile.specs.declared.block.Due.{Due}
use Rattle.drivefile.specs.declared.block.Kind.{Kind as BlockKind}
use Rattle.drivefile.specs.declared.block.Kind.TheVariants as kind

-- the sum of (i + 1) × w(i) over the first n 16-bit numbers w of a block
abbrev pub weighted : List ℕ → ℕ → ℕ
weighted bs zero = 0
weighted bs (suc i) = weighted bs i + suc i * le16 bs (2 * i)

-- that sum over w(0) to w(254), all the numbers before the check
unfoldable pub weighted_sum : List ℕ → ℕ
weighted_sum bs = weighted bs 255

-- the check: the sum modulo 65,521
abbrev pub check_of : List ℕ → ℕ
check_of bs = weighted_sum bs % 65521

-- the kinds of blocks by number
abbrev pub kind_number : BlockKind → ℕ
kind_number kind.Header = 1
kind_number kind.Samples = 2
kind_number kind.Turns = 3

-- kind, number, item count and the two zero bytes are those due
abbrev pub frame : ℕ → Due → List ℕ → Result (Unit {0}) BlockFault
frame b due bs =
    expect (le16 bs 0 == kind_number due.kind) (Frame b Kind)
    (expect (le16 bs 2 == b) (Frame b Number)
    (expect (le16 bs 4 == due.count) (Frame b Count)
    (expect (le16 bs 6 == 0) (Frame b Zero) (Ok tt))))

-- the first of n bytes from place i on that is at or above a limit
unfoldable pub first_from : ℕ → List ℕ → ℕ → ℕ → Option ℕ
first_from limit bs i zero = None
first_from limit bs i (suc n) = cond (nat_lt (slice_index bs i) limit) (first_from limit bs (i + 1) n) (Some i)

-- a filling byte found that is not zero, as a fault
abbrev pub filled : ℕ → Option ℕ → Result (Unit {0}) BlockFault
filled b None = Ok tt
filled b (Some i) = Err (Filling b i)

-- every payload byte after those used, up to byte 509, is zero
abbrev pub filling : ℕ → Due → List ℕ → Result (Unit {0}) BlockFault
filling b due bs = filled b (first_from 1 bs (8 + due.used) (502 - due.used))

-- block b: its check at byte 510, its frame, its filling
abbrev pub block_test : ℕ → Due → List ℕ → Result (Unit {0}) BlockFault
block_test b due bs =
    expect (check_of bs == le16 bs 510) (Check b)
    (and_then (frame b due bs) (λ _. filling b due bs))
