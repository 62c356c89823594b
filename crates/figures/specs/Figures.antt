-- Worked figures: what the definitions give for cases that were worked out by hand.
use Rattle.std.specs.Prelude.{◌≡◌, ℕ, ◌-◌, ◌^◌, List, [], ◌∷◌, ◌++◌, take, replicate, pos, neg_ℤ, Err, slice_set}
use Rattle.faults.specs.declared.block.BlockFault.TheVariants.{Check}
use Rattle.faults.specs.declared.record.RecordFault.TheVariants as fault
use Rattle.drivefile.specs.Block.{check_of}
use Rattle.drivefile.specs.Bytes.{bytes4}
use Rattle.drivefile.specs.Exact.{record_of}
use Rattle.drivefile.specs.File.{file_of, header_payload, unsealed}
use Rattle.drivefile.specs.Record.{DriveRecord, RecordRange}
use Rattle.drivefile.specs.declared.header.NetworkChoice.TheVariants as network
use Rattle.drivefile.specs.declared.header.SectionChoice.TheVariants as section

-- the tunnel case: stroke integrator, k 2, serial, two workers, start 0, stops -10 and 10
abbrev pub tunnel : DriveRecord
tunnel = record {
  section = section.Stroke (pos 0) (neg_ℤ (pos 10)) (pos 10);
  exponent = 2;
  network = network.Serial;
  workers = 2;
  samples = 7 ∷ 6 ∷ (2 ^ 32 - 15) ∷ (2 ^ 32 - 9) ∷ 4 ∷ [];
  turns = 0 ∷ 1 ∷ 1 ∷ 1 ∷ 0 ∷ 1 ∷ 1 ∷ 1 ∷ 1 ∷ 0 ∷ 0 ∷ 0 ∷ [];
}

-- its file, byte by byte: header, samples, turns
abbrev pub tunnel_file : List ℕ
tunnel_file =
    (1 ∷ 0 ∷ 0 ∷ 0 ∷ 0 ∷ 0 ∷ 0 ∷ 0 ∷ 1 ∷ 2 ∷ 1 ∷ 2 ∷ 5 ∷ 0 ∷ 0 ∷ 0 ∷ 12 ∷ 0 ∷ 0 ∷ 0 ∷ 0 ∷ 0 ∷ 0 ∷ 0 ∷ 246 ∷ 255 ∷ 255 ∷ 255 ∷ 10 ∷ 0 ∷ 0 ∷ 0 ∷ [])
    ++ replicate 478 0 ++ (54 ∷ 24 ∷ [])
    ++ (2 ∷ 0 ∷ 1 ∷ 0 ∷ 5 ∷ 0 ∷ 0 ∷ 0 ∷ 7 ∷ 0 ∷ 0 ∷ 0 ∷ 6 ∷ 0 ∷ 0 ∷ 0 ∷ 241 ∷ 255 ∷ 255 ∷ 255 ∷ 247 ∷ 255 ∷ 255 ∷ 255 ∷ 4 ∷ 0 ∷ 0 ∷ 0 ∷ [])
    ++ replicate 482 0 ++ (10 ∷ 2 ∷ [])
    ++ (3 ∷ 0 ∷ 2 ∷ 0 ∷ 12 ∷ 0 ∷ 0 ∷ 0 ∷ 0 ∷ 1 ∷ 1 ∷ 1 ∷ 0 ∷ 1 ∷ 1 ∷ 1 ∷ 1 ∷ 0 ∷ 0 ∷ 0 ∷ [])
    ++ replicate 490 0 ++ (66 ∷ 26 ∷ [])

-- a record of the roll section with the Kogge–Stone network: c 3, start 1, k 6, eight workers, two samples
abbrev pub rolling : DriveRecord
rolling = record { section = section.Roll 1 3; exponent = 6; network = network.KoggeStone; workers = 8; samples = 5 ∷ 4294967295 ∷ []; turns = [] }

-- a record of the thrust envelope: d 2, start -1, k 3, one worker, no samples, one turn
abbrev pub pushing : DriveRecord
pushing = record { section = section.Envelope (neg_ℤ (pos 1)) 2; exponent = 3; network = network.Serial; workers = 1; samples = []; turns = 0 ∷ [] }

-- the table
pub record Figures : Type 0 where
  -- block 1 holding the single sample 7 has the check 42
  pub check : check_of (unsealed 2 1 1 (bytes4 7)) ≡ 42
  -- the tunnel case is in range, and this is its file
  pub tunnel_range : RecordRange tunnel
  pub tunnel_bytes : file_of tunnel ≡ tunnel_file
  -- bytes 8 to 31 of the other two headers
  pub rolling_header : header_payload rolling ≡ 2 ∷ 6 ∷ 2 ∷ 8 ∷ 2 ∷ 0 ∷ 0 ∷ 0 ∷ 0 ∷ 0 ∷ 0 ∷ 0 ∷ 1 ∷ 0 ∷ 0 ∷ 0 ∷ 3 ∷ 0 ∷ 0 ∷ 0 ∷ 0 ∷ 0 ∷ 0 ∷ 0 ∷ []
  pub pushing_header : header_payload pushing ≡ 3 ∷ 3 ∷ 1 ∷ 1 ∷ 0 ∷ 0 ∷ 0 ∷ 0 ∷ 1 ∷ 0 ∷ 0 ∷ 0 ∷ 255 ∷ 255 ∷ 255 ∷ 255 ∷ 2 ∷ 0 ∷ 0 ∷ 0 ∷ 0 ∷ 0 ∷ 0 ∷ 0 ∷ []
  -- the tunnel case with its first sample changed is refused for the check of block 1, and without its last block for the
  -- number of blocks
  pub damaged : record_of (slice_set tunnel_file 520 8) ≡ Err (fault.Block (Check 1))
  pub cut : record_of (take 1024 tunnel_file) ≡ Err fault.Blocks
