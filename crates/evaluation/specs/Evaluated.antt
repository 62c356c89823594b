-- What the evaluation of a drive file answers, and what it leaves in the list of words.
use Rattle.std.specs.Prelude.{ℕ, cond, List, ◌++◌, length, drop, Ok, Err, Result, nat_le}
use Rattle.faults.specs.declared.record.RecordFault.{RecordFault}
use Rattle.faults.specs.declared.run.RunFault.{RunFault}
use Rattle.faults.specs.declared.run.RunFault.TheVariants.{Memory, Record}
use Rattle.sections.specs.Recursion.{words}
use Rattle.sections.specs.Stroke as stroke
use Rattle.sections.specs.Roll as roll
use Rattle.sections.specs.Envelope as envelope
use Rattle.drivefile.specs.Items.{samples_of}
use Rattle.drivefile.specs.declared.header.Header.{Header}
use Rattle.drivefile.specs.declared.header.SectionChoice.{SectionChoice}
use Rattle.drivefile.specs.declared.header.SectionChoice.TheVariants as section

-- the words of the chosen section over a list of samples, by its sample-by-sample recursion from its start state on
abbrev pub section_words : SectionChoice → List ℕ → List ℕ
section_words (section.Stroke start lower upper) = words (stroke.step lower upper) stroke.shown start
section_words (section.Roll start c) = words (roll.step c) roll.read_state start
section_words (section.Envelope start d) = words (envelope.step d) envelope.shown start

-- the reader's answer, or its fault; and 10 where the list has fewer places than the record has samples
abbrev pub answer : Result Header RecordFault → List ℕ → Result Header RunFault
answer (Ok h) out = cond (nat_le h.samples (length out)) (Ok h) (Err Memory)
answer (Err f) out = Err (Record f)

-- the list after that: the record's words at its front and its other places as they were, or all as it was
abbrev pub worded : Header → List ℕ → List ℕ → List ℕ
worded h file out =
    cond (nat_le h.samples (length out)) (section_words h.section (samples_of file h.samples) ++ drop h.samples out) out

abbrev pub left_in : Result Header RecordFault → List ℕ → List ℕ → List ℕ
left_in (Ok h) file out = worded h file out
left_in (Err f) file out = out
