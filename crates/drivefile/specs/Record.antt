-- A drive record, apart from any file: what it holds, and its ranges.
use Rattle.std.specs.Prelude.{◌≡◌, ℕ, ◌-◌, ◌^◌, ◌<◌, ◌≤◌, Bool, true, cond, ◌&&◌, List, length, pos, neg_ℤ, Some, None, Option, Result, nat_lt, slice_index}
use Rattle.std.specs.List.{AllByRecursion}
use Rattle.faults.specs.declared.run.RunFault.{RunFault}
use Rattle.sections.specs.Range.{within}
use Rattle.sections.specs.Stroke.{reach}
use Rattle.drivefile.specs.Items.{put_front, room_for, samples_of, turns_of}
use Rattle.drivefile.specs.declared.header.Header.{Header}
use Rattle.drivefile.specs.declared.header.NetworkChoice.{NetworkChoice}
use Rattle.drivefile.specs.declared.header.SectionChoice.{SectionChoice}
use Rattle.drivefile.specs.declared.header.SectionChoice.TheVariants as section

-- the section with its start state and parameters, k, the network, W, the samples, the turns
pub record DriveRecord : Type 0 where
  pub section : SectionChoice
  pub exponent : ℕ
  pub network : NetworkChoice
  pub workers : ℕ
  pub samples : List ℕ
  pub turns : List ℕ

-- start state and parameters in their ranges
abbrev pub values_in : SectionChoice → Bool
values_in (section.Stroke start lower upper) =
    within (neg_ℤ (pos reach)) (pos reach) start && (within (neg_ℤ (pos reach)) (pos reach) lower && within lower (pos reach) upper)
values_in (section.Roll start c) = nat_lt start (2 ^ 32) && nat_lt c (2 ^ 32)
values_in (section.Envelope start d) = within (neg_ℤ (pos (2 ^ 31))) (pos (2 ^ 31 - 1)) start && nat_lt d (2 ^ 31)

-- a record in range: every value in its range, each sample a word, each turn a worker below W
pub record RecordRange (r : DriveRecord) : Type 0 where
  pub exponent_from : 2 ≤ r.exponent
  pub exponent_to : r.exponent ≤ 6
  pub workers_from : 1 ≤ r.workers
  pub workers_to : r.workers ≤ 8
  pub samples_to : length r.samples ≤ 65536
  pub turns_to : length r.turns ≤ 65536
  pub section_values : values_in r.section ≡ true
  pub sample_words : AllByRecursion (λ x. x < 2 ^ 32) r.samples
  pub turn_workers : AllByRecursion (λ w. w < r.workers) r.turns

-- the header's values of a record
abbrev pub headed : DriveRecord → Header
headed r = record { section = r.section; exponent = r.exponent; network = r.network; workers = r.workers; samples = length r.samples; turns = length r.turns }

-- the record that a file's bytes give under a header
abbrev pub recorded : List ℕ → Header → DriveRecord
recorded file h = record { section = h.section; exponent = h.exponent; network = h.network; workers = h.workers; samples = samples_of file h.samples; turns = turns_of file h.samples h.turns }

-- copying a record's samples to a list: refused where it has fewer places than there are samples
abbrev pub copying_record : DriveRecord → List ℕ → Result (Unit {0}) RunFault
copying_record r out = room_for (length r.samples) out

-- the list after that: the samples at its front and its other places as they were, or all as it was
abbrev pub copied_record : DriveRecord → List ℕ → List ℕ
copied_record r out = put_front (length r.samples) r.samples out

-- the worker of turn i, or none from the number of turns on
abbrev pub turn_of : DriveRecord → ℕ → Option ℕ
turn_of r i = cond (nat_lt i (length r.turns)) (Some (slice_index r.turns i)) None
