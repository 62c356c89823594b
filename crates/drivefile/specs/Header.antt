-- The header: block 0, its values and their ranges, in the order of the tests.
use Rattle.std.specs.Prelude.{◌≡◌, ℕ, ◌+◌, ◌/◌, ◌%◌, ◌≤◌, min, cond, ◌&&◌, List, ℤ, pos, neg_ℤ, Some, None, Ok, Err, Option, Result, ◌==◌, nat_le, slice_index}
use Rattle.std.specs.Int.{w32}
use Rattle.std.proofs.Common.{to_z}
use Rattle.faults.specs.declared.record.Choice.TheVariants as choice
use Rattle.faults.specs.declared.record.Counter.TheVariants as counter
use Rattle.faults.specs.declared.record.Value.{Value}
use Rattle.faults.specs.declared.record.Value.TheVariants.{Start, Second}
use Rattle.faults.specs.declared.record.RecordFault.{RecordFault}
use Rattle.faults.specs.declared.record.RecordFault.TheVariants as fault
use Rattle.sections.specs.Range.{within}
use Rattle.sections.specs.Stroke.{reach, stops_fault}
use Rattle.sections.specs.Envelope.{decay_fault}
use Rattle.drivefile.specs.Bytes.{le32}
use Rattle.drivefile.specs.Tests.{and_then, expect, lifted}
use Rattle.drivefile.specs.Block.{block_test}
use Rattle.drivefile.specs.declared.block.Due.{Due}
use Rattle.drivefile.specs.declared.block.Kind.TheVariants as block_kind
use Rattle.drivefile.specs.declared.header.Header.{Header}
use Rattle.drivefile.specs.declared.header.SectionKind.{SectionKind}
use Rattle.drivefile.specs.declared.header.SectionKind.TheVariants as kind
use Rattle.drivefile.specs.declared.header.NetworkChoice.{NetworkChoice}
use Rattle.drivefile.specs.declared.header.NetworkChoice.TheVariants as network
use Rattle.drivefile.specs.declared.header.SectionChoice.{SectionChoice}
use Rattle.drivefile.specs.declared.header.SectionChoice.TheVariants as section

-- byte 8: 1 stroke integrator, 2 roll section, 3 thrust envelope
abbrev pub kind_of : ℕ → Result SectionKind RecordFault
kind_of n = cond (n == 1) (Ok kind.Stroke) (cond (n == 2) (Ok kind.Roll) (cond (n == 3) (Ok kind.Envelope) (Err (fault.Choice choice.Section))))

-- byte 10: 1 serial, 2 Kogge–Stone
abbrev pub network_of : ℕ → Result NetworkChoice RecordFault
network_of n = cond (n == 1) (Ok network.Serial) (cond (n == 2) (Ok network.KoggeStone) (Err (fault.Choice choice.Network)))

-- the fault of a value out of range, if there is one
abbrev pub none_at_fault : {T : Type 0} → Option Value → Result T RecordFault → Result T RecordFault
none_at_fault None rest = rest
none_at_fault (Some v) rest = Err (fault.Value v)

-- the stroke integrator's first value out of its range: the start state from -R to R, then the stops
abbrev pub stroke_fault : ℤ → ℤ → ℤ → Option Value
stroke_fault start lower upper = cond (within (neg_ℤ (pos reach)) (pos reach) start) (stops_fault lower upper) (Some Start)

-- a section's first value out of its range
abbrev pub values_fault : SectionChoice → Option Value
values_fault (section.Stroke start lower upper) = stroke_fault start lower upper
values_fault (section.Roll start c) = None
values_fault (section.Envelope start d) = decay_fault d

-- a section whose values are in range, or the fault of the first that is not
abbrev pub in_range : SectionChoice → Result SectionChoice RecordFault
in_range s = none_at_fault (values_fault s) (Ok s)

-- a section with no second parameter has 0 in its place
abbrev pub without_second : SectionChoice → ℕ → Result SectionChoice RecordFault
without_second s second = and_then (in_range s) (λ t. expect (second == 0) (fault.Value Second) (Ok t))

-- the words at bytes 20, 24 and 28: start state, lower stop or c or d, upper stop or 0
abbrev pub section_of : SectionKind → ℕ → ℕ → ℕ → Result SectionChoice RecordFault
section_of kind.Stroke start first second = in_range (section.Stroke (to_z w32 start) (to_z w32 first) (to_z w32 second))
section_of kind.Roll start first second = without_second (section.Roll start first) second
section_of kind.Envelope start first second = without_second (section.Envelope (to_z w32 start) first) second

-- what holds of every header that the reader answers
pub record InRange (h : Header) : Type 0 where
  pub exponent_from : 2 ≤ h.exponent
  pub exponent_to : h.exponent ≤ 6
  pub workers_from : 1 ≤ h.workers
  pub workers_to : h.workers ≤ 8
  pub samples_to : h.samples ≤ 65536
  pub turns_to : h.turns ≤ 65536
  pub values_in : values_fault h.section ≡ None

-- how many blocks n items take, `per` items a block: the quotient, and one more for a remainder
abbrev pub blocks_for : ℕ → ℕ → ℕ
blocks_for n per = n / per + min 1 (n % per)

-- the header, 125 samples a block and 500 turns a block
abbrev pub needed : ℕ → ℕ → ℕ
needed samples turns = 1 + blocks_for samples 125 + blocks_for turns 500

-- the values of block 0 in the order of their tests, then the number of blocks
abbrev pub header_values : ℕ → List ℕ → Result Header RecordFault
header_values blocks bs =
    and_then (kind_of (slice_index bs 8)) (λ kind.
    expect (nat_le 2 (slice_index bs 9) && nat_le (slice_index bs 9) 6) (fault.Choice choice.Exponent)
    (and_then (network_of (slice_index bs 10)) (λ network.
    expect (nat_le 1 (slice_index bs 11) && nat_le (slice_index bs 11) 8) (fault.Choice choice.Workers)
    (expect (nat_le (le32 bs 12) 65536) (fault.Counter counter.Samples)
    (expect (nat_le (le32 bs 16) 65536) (fault.Counter counter.Turns)
    (and_then (section_of kind (le32 bs 20) (le32 bs 24) (le32 bs 28)) (λ section.
    expect (blocks == needed (le32 bs 12) (le32 bs 16)) fault.Blocks
    (Ok (record { section = section; exponent = slice_index bs 9; network = network; workers = slice_index bs 11; samples = le32 bs 12; turns = le32 bs 16 })))))))))

-- kind 1, no items, 24 bytes of payload used
abbrev pub header_due : Due
header_due = record { kind = block_kind.Header; count = 0; used = 24 }

-- the header of a file of so many blocks, from its first block
abbrev pub header_of : ℕ → List ℕ → Result Header RecordFault
header_of blocks bs = and_then (lifted (block_test 0 header_due bs)) (λ _. header_values blocks bs)
