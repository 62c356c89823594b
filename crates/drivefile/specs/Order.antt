-- The tests of a file in their order, as one list: each with the fault that it names. That this is the order of `reading` is
-- proved, so a reader may believe either.
use Rattle.std.specs.Prelude.{◌≡◌, ℕ, ◌+◌, ◌-◌, ◌*◌, ◌/◌, min, ◌^◌, Bool, true, false, cond, ◌&&◌, List, [], ◌∷◌, ◌++◌, map, length, ℤ, pos, neg_ℤ, ◌==◌, nat_le, nat_lt, slice_index}
use Rattle.std.specs.Int.{w32}
use Rattle.std.proofs.Common.{to_z}
use Rattle.std.specs.List.{range_with_len, flat_map, AllByRecursion}
use Rattle.faults.specs.declared.block.BlockFault.TheVariants.{Length, Check, Frame, Filling}
use Rattle.faults.specs.declared.block.Field.TheVariants.{Kind, Number, Count, Zero}
use Rattle.faults.specs.declared.record.Choice.TheVariants as choice
use Rattle.faults.specs.declared.record.Counter.TheVariants as counter
use Rattle.faults.specs.declared.record.Value.TheVariants.{Start, First, Second}
use Rattle.faults.specs.declared.record.RecordFault.{RecordFault}
use Rattle.faults.specs.declared.record.RecordFault.TheVariants as fault
use Rattle.sections.specs.Range.{within}
use Rattle.sections.specs.Stroke.{reach}
use Rattle.drivefile.specs.Block.{check_of, kind_number}
use Rattle.drivefile.specs.Bytes.{block_at, le16, le32}
use Rattle.drivefile.specs.Header.{blocks_for, header_due, needed}
use Rattle.drivefile.specs.Reading.{legal_length, samples_due, turns_due}
use Rattle.drivefile.specs.declared.block.Due.{Due}

pub record Test : Type 0 where
  pub passes : Bool
  pub names : RecordFault

abbrev pub test : Bool → RecordFault → Test
test p f = record { passes = p; names = f }

-- block b as it is due: its check, kind, number, item count, bytes 6 and 7, then each filling byte
abbrev pub block_tests : ℕ → Due → List ℕ → List Test
block_tests b due bs =
    test (check_of bs == le16 bs 510) (fault.Block (Check b))
    ∷ test (le16 bs 0 == kind_number due.kind) (fault.Block (Frame b Kind))
    ∷ test (le16 bs 2 == b) (fault.Block (Frame b Number))
    ∷ test (le16 bs 4 == due.count) (fault.Block (Frame b Count))
    ∷ test (le16 bs 6 == 0) (fault.Block (Frame b Zero))
    ∷ map (λ i. test (slice_index bs i == 0) (fault.Block (Filling b i))) (range_with_len (8 + due.used) (502 - due.used))

-- section 1: the start state, the lower stop, the upper stop, whose range starts at the lower
abbrev pub stroke_tests : ℤ → ℤ → ℤ → List Test
stroke_tests start lower upper =
    test (within (neg_ℤ (pos reach)) (pos reach) start) (fault.Value Start)
    ∷ test (within (neg_ℤ (pos reach)) (pos reach) lower) (fault.Value First)
    ∷ test (within lower (pos reach) upper) (fault.Value Second)
    ∷ []

-- the values of a section by its number: in section 2 only the last, which is 0; in section 3 the decay too (a number that
-- is no section's has failed its own test before these)
abbrev pub value_tests : ℕ → ℕ → ℕ → ℕ → List Test
value_tests section start first second =
    cond (section == 1) (stroke_tests (to_z w32 start) (to_z w32 first) (to_z w32 second))
    (cond (section == 2) (test (second == 0) (fault.Value Second) ∷ [])
    (test (nat_lt first (2 ^ 31)) (fault.Value First) ∷ test (second == 0) (fault.Value Second) ∷ []))

-- the header's values, bytes 8 to 31, then the number of blocks
abbrev pub header_tests : ℕ → List ℕ → List Test
header_tests blocks bs =
    test (nat_le 1 (slice_index bs 8) && nat_le (slice_index bs 8) 3) (fault.Choice choice.Section)
    ∷ test (nat_le 2 (slice_index bs 9) && nat_le (slice_index bs 9) 6) (fault.Choice choice.Exponent)
    ∷ test (nat_le 1 (slice_index bs 10) && nat_le (slice_index bs 10) 2) (fault.Choice choice.Network)
    ∷ test (nat_le 1 (slice_index bs 11) && nat_le (slice_index bs 11) 8) (fault.Choice choice.Workers)
    ∷ test (nat_le (le32 bs 12) 65536) (fault.Counter counter.Samples)
    ∷ test (nat_le (le32 bs 16) 65536) (fault.Counter counter.Turns)
    ∷ value_tests (slice_index bs 8) (le32 bs 20) (le32 bs 24) (le32 bs 28)
    ++ test (blocks == needed (le32 bs 12) (le32 bs 16)) fault.Blocks
    ∷ []

-- how many of n samples block b of the file holds, b from 1
abbrev pub samples_in_block : ℕ → ℕ → ℕ
samples_in_block n b = min 125 (n - 125 * (b - 1))

-- how many of m turns block b of the file holds, after the blocks of n samples
abbrev pub turns_in_block : ℕ → ℕ → ℕ → ℕ
turns_in_block n m b = min 500 (m - 500 * (b - (1 + blocks_for n 125)))

-- block b of samples
abbrev pub sample_block_tests : ℕ → ℕ → List ℕ → List Test
sample_block_tests n b bs = block_tests b (samples_due (samples_in_block n b)) bs

-- block b of turns: as a block, then each turn's worker below W
abbrev pub turn_block_tests : ℕ → ℕ → ℕ → ℕ → List ℕ → List Test
turn_block_tests n m w b bs =
    block_tests b (turns_due (turns_in_block n m b)) bs
    ++ map (λ i. test (nat_lt (slice_index bs i) w) (fault.Worker b i)) (range_with_len 8 (turns_in_block n m b))

-- block b after the header, of n samples, m turns and w workers
abbrev pub later_tests : ℕ → ℕ → ℕ → ℕ → List ℕ → List Test
later_tests n m w b bs = cond (nat_le b (blocks_for n 125)) (sample_block_tests n b bs) (turn_block_tests n m w b bs)

-- the length; block 0 as a block, then its values; each later block in turn, by the counts and W in block 0, which have
-- passed their own tests before
abbrev pub tests : List ℕ → List Test
tests file =
    test (legal_length (length file)) (fault.Block Length)
    ∷ block_tests 0 header_due (block_at file 0)
    ++ header_tests (length file / 512) (block_at file 0)
    ++ flat_map
    (λ b. later_tests (le32 (block_at file 0) 12) (le32 (block_at file 0) 16) (slice_index (block_at file 0) 11) b (block_at file b))
    (range_with_len 1 (length file / 512 - 1))

-- a test, and every test of a list, passes
abbrev pub Passes : Test → Type 0
Passes t = t.passes ≡ true

abbrev pub Passed : List Test → Type 0
Passed = AllByRecursion Passes

-- a fault is the first of a list: the test that names it fails, and every test before it passes
pub record FirstOf (ts : List Test) (f : RecordFault) : Type 0 where
  pub before : List Test
  pub after : List Test
  pub here : ts ≡ before ++ test false f ∷ after
  pub held : Passed before
