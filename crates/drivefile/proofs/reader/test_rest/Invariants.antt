use Rattle.std.proofs.Common.{◌≡◌, ◌+◌, ◌-◌, [], length, slice_index_or}
use Rattle.drivefile.specs.Reading.{later_block, rest_test}
use Rattle.drivefile.specs.Tests.{each_of}
use Rattle.drivefile.proofs.reader.test_rest.Given as goal

-- the blocks that are left give the answer of them all
abbrev pub invariant-loop-i : goal.invariant-loop-i
invariant-loop-i l =
    each_of (λ b. later_block l.header b (slice_index_or l.blocks b [])) (l.i + 1) (length l.blocks - (l.i + 1)) ≡ rest_test l.header l.blocks
