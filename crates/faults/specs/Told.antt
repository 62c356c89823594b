-- What each fault tells: its number, its layer, and the block and byte that it names.
-- Every contract that speaks of a refusal gives the fault, and this table gives the fault its number and place.
use Rattle.std.specs.Prelude.{ℕ}
use Rattle.faults.specs.declared.refusal.Layer.{Layer}
use Rattle.faults.specs.declared.refusal.Layer.TheVariants as layer
use Rattle.faults.specs.declared.refusal.Refusal.{Refusal}
use Rattle.faults.specs.declared.block.Field.{Field}
use Rattle.faults.specs.declared.block.Field.TheVariants as field
use Rattle.faults.specs.declared.block.BlockFault.{BlockFault}
use Rattle.faults.specs.declared.block.BlockFault.TheVariants as block
use Rattle.faults.specs.declared.record.Choice.TheVariants as choice
use Rattle.faults.specs.declared.record.Counter.TheVariants as counter
use Rattle.faults.specs.declared.record.Value.TheVariants as value
use Rattle.faults.specs.declared.record.RecordFault.{RecordFault}
use Rattle.faults.specs.declared.record.RecordFault.TheVariants as record_fault
use Rattle.faults.specs.declared.run.RunFault.{RunFault}
use Rattle.faults.specs.declared.run.RunFault.TheVariants as run

abbrev pub refusal : ℕ → Layer → ℕ → ℕ → Refusal
refusal n l b i = record { code = n; layer = l; block = b; byte = i }

-- where a field of a block's frame begins
abbrev pub field_byte : Field → ℕ
field_byte field.Kind = 0
field_byte field.Number = 2
field_byte field.Count = 4
field_byte field.Zero = 6

-- block layer: 1 length, 2 check at byte 510, 3 frame at its field, 4 filling at its byte
abbrev pub block_told : BlockFault → Refusal
block_told block.Length = refusal 1 layer.Block 0 0
block_told (block.Check b) = refusal 2 layer.Block b 510
block_told (block.Frame b f) = refusal 3 layer.Block b (field_byte f)
block_told (block.Filling b i) = refusal 4 layer.Block b i

-- a byte of the header, which is block 0
abbrev pub at_header : ℕ → ℕ → Refusal
at_header n i = refusal n layer.Record 0 i

-- record layer: 5 choices, 6 counts, 7 start and parameters, 8 number of blocks, 9 a turn's worker
abbrev pub record_told : RecordFault → Refusal
record_told (record_fault.Block f) = block_told f
record_told (record_fault.Choice choice.Section) = at_header 5 8
record_told (record_fault.Choice choice.Exponent) = at_header 5 9
record_told (record_fault.Choice choice.Network) = at_header 5 10
record_told (record_fault.Choice choice.Workers) = at_header 5 11
record_told (record_fault.Counter counter.Samples) = at_header 6 12
record_told (record_fault.Counter counter.Turns) = at_header 6 16
record_told (record_fault.Value value.Start) = at_header 7 20
record_told (record_fault.Value value.First) = at_header 7 24
record_told (record_fault.Value value.Second) = at_header 7 28
record_told record_fault.Blocks = at_header 8 12
record_told (record_fault.Worker b i) = refusal 9 layer.Record b i

-- run layer: 10 memory, 11 worker, 12 not a run's memory; they name no place
abbrev pub run_told : RunFault → Refusal
run_told (run.Record f) = record_told f
run_told run.Memory = refusal 10 layer.Run 0 0
run_told run.Worker = refusal 11 layer.Run 0 0
run_told run.Board = refusal 12 layer.Run 0 0
