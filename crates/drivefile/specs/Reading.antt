-- A whole file: its length, its header, then each later block, in the order of the tests.
use Rattle.std.specs.Prelude.{ℕ, ◌+◌, ◌-◌, ◌*◌, ◌/◌, ◌%◌, min, Bool, cond, ◌&&◌, List, [], length, slice_index_or, Some, None, Ok, Err, Option, Result, ◌==◌, nat_le}
use Rattle.faults.specs.declared.block.BlockFault.TheVariants.{Length}
use Rattle.faults.specs.declared.record.RecordFault.{RecordFault}
use Rattle.faults.specs.declared.record.RecordFault.TheVariants.{Block, Worker}
use Rattle.drivefile.specs.Block.{block_test, first_from}
use Rattle.drivefile.specs.Bytes.{block_at}
use Rattle.drivefile.specs.Header.{blocks_for, header_of}
use Rattle.drivefile.specs.Tests.{and_then, each_of, expect, lifted}
use Rattle.drivefile.specs.declared.block.Due.{Due}
use Rattle.drivefile.specs.declared.block.Kind.TheVariants as kind
use Rattle.drivefile.specs.declared.header.Header.{Header}

-- a whole number of blocks, from 1 to 658
abbrev pub legal_length : ℕ → Bool
legal_length n = nat_le 1 (n / 512) && (nat_le (n / 512) 658 && n % 512 == 0)

-- kind 2, up to 125 samples of 4 bytes
abbrev pub samples_due : ℕ → Due
samples_due count = record { kind = kind.Samples; count = count; used = 4 * count }

-- kind 3, up to 500 turns of a byte
abbrev pub turns_due : ℕ → Due
turns_due count = record { kind = kind.Turns; count = count; used = count }

-- a turn found whose worker is not below W, as a fault
abbrev pub workers_known : ℕ → Option ℕ → Result (Unit {0}) RecordFault
workers_known b None = Ok tt
workers_known b (Some i) = Err (Worker b i)

-- block b of the samples, b from 1
abbrev pub sample_block : Header → ℕ → List ℕ → Result (Unit {0}) RecordFault
sample_block h b bs = lifted (block_test b (samples_due (min 125 (h.samples - 125 * (b - 1)))) bs)

-- how many turns block b of the file holds
abbrev pub turns_in : Header → ℕ → ℕ
turns_in h b = min 500 (h.turns - 500 * (b - (1 + blocks_for h.samples 125)))

-- block b of the file, which holds turns, each of a worker below W
abbrev pub turn_block : Header → ℕ → List ℕ → Result (Unit {0}) RecordFault
turn_block h b bs =
    and_then (lifted (block_test b (turns_due (turns_in h b)) bs)) (λ _.
    workers_known b (first_from h.workers bs 8 (turns_in h b)))

-- block b, after the header: the samples' blocks first
abbrev pub later_block : Header → ℕ → List ℕ → Result (Unit {0}) RecordFault
later_block h b bs = cond (nat_le b (blocks_for h.samples 125)) (sample_block h b bs) (turn_block h b bs)

-- block b of the file, as it is due there
abbrev pub later_test : Header → List ℕ → ℕ → Result (Unit {0}) RecordFault
later_test h file b = later_block h b (block_at file b)

-- every block after the first of a list of blocks, in order
abbrev pub rest_test : Header → List (List ℕ) → Result (Unit {0}) RecordFault
rest_test h blocks = each_of (λ b. later_block h b (slice_index_or blocks b [])) 1 (length blocks - 1)

-- the file's header, where every test passes; else the first fault
abbrev pub reading : List ℕ → Result Header RecordFault
reading file =
    expect (legal_length (length file)) (Block Length)
    (and_then (header_of (length file / 512) (block_at file 0)) (λ h.
    and_then (each_of (later_test h file) 1 (length file / 512 - 1)) (λ _. Ok h)))
