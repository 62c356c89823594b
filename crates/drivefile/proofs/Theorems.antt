-- The reader's theorems: accepted and refused files, and one file for each record.
use Rattle.std.proofs.Common.{◌≡◌, ℕ, true, false, List, ◌∷◌, None, Ok, Err, Result, sym, refl, ap, ◌∙◌, subst, rules}
use Rattle.std.proofs.lemmas.Result.{IfErr-at_err, IfOk-at_ok}
use Rattle.std.proofs.lemmas.Bool.{false≢true}
use Rattle.faults.specs.declared.record.RecordFault.{RecordFault}
use Rattle.drivefile.specs.Header.{InRange, values_fault}
use Rattle.drivefile.specs.Exact.{Accepted, Exact, OneFile, Refused, record_of}
use Rattle.drivefile.specs.Order.{FirstOf, Passed, Passes, Test, test, tests}
use Rattle.drivefile.specs.Reading.{reading}
use Rattle.drivefile.specs.Record.{DriveRecord, RecordRange, headed, recorded, values_in}
use Rattle.drivefile.specs.declared.header.SectionChoice.{SectionChoice}
use Rattle.drivefile.specs.declared.header.SectionChoice.TheVariants as section
use Rattle.drivefile.specs.Tests.{and_then}
use Rattle.drivefile.specs.File.{file_of}
use Rattle.drivefile.specs.declared.header.Header.{Header}
use Rattle.drivefile.proofs.Accepted.{file_passed}
use Rattle.drivefile.proofs.Apart.{same_record}
use Rattle.drivefile.proofs.Codings.{Bytes, all_bytes}
use Rattle.drivefile.proofs.Exact.{file_is, range_is, samples_length, turns_length}
use Rattle.drivefile.proofs.FileBytes.{file_fit}
use Rattle.drivefile.proofs.Ordered.{ordered, ordered_err, ordered_ok}
use Rattle.drivefile.proofs.Rows.{all_split}
use Rattle.drivefile.proofs.Runs.{Ordered}
use Rattle.drivefile.proofs.SectionWords.{envelope_in, stroke_in}

-- tests that all pass name no fault
no_first : (ts : List Test) (f : RecordFault) → Passed ts → FirstOf ts f → ⊥
no_first ts f p s = false≢true (all_split Passes s.before (test false f ∷ s.after) (subst Passed s.here p)).1.0

-- and give a value
passed_known : (r : Result Header RecordFault) (ts : List Test) → Ordered r ts → Passed ts → (h : Header) × (r ≡ Ok h)
passed_known (Ok h) ts o p = (h, refl)
passed_known (Err f) ts o p = absurd (no_first ts f p o)

-- the header of the record that a file gives is the one answered
headed_recorded : (file : List ℕ) (h : Header) → headed (recorded file h) ≡ h
headed_recorded file h = rw (samples_length file h, turns_length file h) refl

pub accepted : (file : List ℕ) → Bytes file → (h : Header) → reading file ≡ Ok h → Accepted file h (recorded file h)
accepted file fit h read = record {
  defined = ap (λ t. and_then t (λ k. Ok (recorded file k))) read;
  in_range = range_is file fit h read;
  header_is = sym (headed_recorded file h);
  its_file = file_is file fit h read;
  no_other = λ r p same. same_record r (recorded file h) p (range_is file fit h read) (sym same ∙ file_is file fit h read);
  passes = ordered_ok file h read;
}

-- the values of a section in range are not at fault
no_value_at_fault : (s : SectionChoice) → values_in s ≡ true → values_fault s ≡ None
no_value_at_fault (section.Stroke start lower upper) h = let v = stroke_in start lower upper h in rw (v.start_in, v.lower_in, v.upper_in) refl
no_value_at_fault (section.Roll start c) h = refl
no_value_at_fault (section.Envelope start d) h = rw (envelope_in start d h).decay_in refl

-- the header of an accepted file is in range
pub header_range : (file : List ℕ) (h : Header) (r : DriveRecord) → Accepted file h r → InRange h
header_range file h r a =
    let p = a.in_range in
    let v = no_value_at_fault r.section p.section_values in
    rw a.header_is (search rules)

pub header_read : (file : List ℕ) → Bytes file → (h : Header) → reading file ≡ Ok h → InRange h
header_read file fit h read = header_range file h (recorded file h) (accepted file fit h read)

pub refused : (file : List ℕ) (f : RecordFault) → reading file ≡ Err f → Refused file f
refused file f read = record {
  defined = ap (λ t. and_then t (λ k. Ok (recorded file k))) read;
  of_none = λ r p same. no_first (tests file) f (subst (λ l. Passed (tests l)) (sym same) (file_passed r p)) (ordered_err file f read);
  first = ordered_err file f read;
}

module _ (r : DriveRecord) (p : RecordRange r) where
  known : (h : Header) × (reading (file_of r) ≡ Ok h)
  known = passed_known (reading (file_of r)) (tests (file_of r)) (ordered (file_of r)) (file_passed r p)

  -- what is answered for the file of a record is the record
  same_again : r ≡ recorded (file_of r) known.0
  same_again = (accepted (file_of r) (all_bytes (file_of r) (file_fit r p)) known.0 known.1).no_other r p refl

  pub read_again : record_of (file_of r) ≡ Ok r
  read_again = ap (λ t. and_then t (λ h. Ok (recorded (file_of r) h))) known.1 ∙ ap Ok (sym same_again)

pub one_file : OneFile
one_file = record { bytes = file_fit; read_back = read_again; apart = same_record }

-- what an answer says, for a record that is answered and for a fault
module _ {T : Type 0} (file : List ℕ) where
  pub exact_ok : Bytes file → (header : T → Header) (answered : T → DriveRecord) (t : T) → reading file ≡ Ok (header t) → answered t ≡ recorded file (header t) → Exact file header answered (Ok t)
  exact_ok fit header answered t read same = record {
    accepted = λ s e. IfOk-at_ok (λ s. Accepted file (header s) (answered s)) e (rw same (accepted file fit (header t) read));
    refused = λ f e. IfErr-at_err (Refused file) e tt;
    one_file = one_file;
  }

  pub exact_err : (header : T → Header) (answered : T → DriveRecord) (f : RecordFault) → reading file ≡ Err f → Exact file header answered (Err f)
  exact_err header answered f read = record {
    accepted = λ t e. IfOk-at_ok (λ t. Accepted file (header t) (answered t)) e tt;
    refused = λ g e. IfErr-at_err (Refused file) e (refused file f read);
    one_file = one_file;
  }
