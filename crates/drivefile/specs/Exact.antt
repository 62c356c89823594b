-- What holds of the reader, for any bytes: a file is accepted exactly when it is the file of a record in range.
use Rattle.std.specs.Prelude.{◌≡◌, ℕ, ◌<◌, List, Ok, Err, Result, ◌≢◌}
use Rattle.std.specs.List.{AllByRecursion}
use Rattle.faults.specs.declared.record.RecordFault.{RecordFault}
use Rattle.drivefile.specs.Order.{FirstOf, Passed, tests}
use Rattle.drivefile.specs.Reading.{reading}
use Rattle.drivefile.specs.Record.{DriveRecord, RecordRange, headed, recorded}
use Rattle.drivefile.specs.Tests.{and_then}
use Rattle.drivefile.specs.File.{file_of}
use Rattle.drivefile.specs.declared.header.Header.{Header}

-- the record of a file, where every test passes; else the first fault
abbrev pub record_of : List ℕ → Result DriveRecord RecordFault
record_of file = and_then (reading file) (λ h. Ok (recorded file h))

-- An accepted file is the file of the record answered, which is in range, and of no other record in range. It passes every
-- test, and the header answered has the record's values.
pub record Accepted (file : List ℕ) (h : Header) (answered : DriveRecord) : Type 0 where
  pub defined : record_of file ≡ Ok answered
  pub header_is : h ≡ headed answered
  pub in_range : RecordRange answered
  pub its_file : file ≡ file_of answered
  pub no_other : (r : DriveRecord) → RecordRange r → file ≡ file_of r → r ≡ answered
  pub passes : Passed (tests file)

-- A refused file is the file of no record in range; the test that names the fault fails, and all before it pass.
pub record Refused (file : List ℕ) (fault : RecordFault) : Type 0 where
  pub defined : record_of file ≡ Err fault
  pub of_none : (r : DriveRecord) → RecordRange r → file ≢ file_of r
  pub first : FirstOf (tests file) fault

-- Each record in range has one file: it is made of bytes, and reading it gives the record; two records in range with the
-- same file are the same record.
pub record OneFile : Type 0 where
  pub bytes : (r : DriveRecord) → RecordRange r → AllByRecursion (λ b. b < 256) (file_of r)
  pub read_back : (r : DriveRecord) → RecordRange r → record_of (file_of r) ≡ Ok r
  pub apart : (r s : DriveRecord) → RecordRange r → RecordRange s → file_of r ≡ file_of s → r ≡ s

-- The reader's answer r to a file: where it is a record, the file is accepted; where it is a fault, the file is refused.
pub record Exact {T : Type 0} (file : List ℕ) (header : T → Header) (answered : T → DriveRecord) (r : Result T RecordFault) : Type 0 where
  pub accepted : (t : T) → r ≡ Ok t → Accepted file (header t) (answered t)
  pub refused : (f : RecordFault) → r ≡ Err f → Refused file f
  pub one_file : OneFile
