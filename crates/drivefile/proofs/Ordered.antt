-- The parts of a file against their tests: a block, the header's values, a later block, all of it.
use Rattle.std.proofs.Common.{◌≡◌, ℕ, ◌+◌, ◌-◌, ◌/◌, ◌&&◌, eqb, ltb, leb, List, [], ◌∷◌, length, get_or, None, Ok, Err, Option, sym, refl, subst, arith, w32, to_z}
use Rattle.std.specs.List.{range_with_len, flat_map}
use Rattle.std.proofs.lemmas.Bool.{eqb-true}
use Rattle.std.proofs.lemmas.Result.{IfOk-at_ok, MatchResult-at_err, MatchResult-at_ok}
use Rattle.std.proofs.lemmas.Bool.Decides.{nat_tests}
use Rattle.faults.specs.declared.block.BlockFault.TheVariants.{Check, Frame, Filling}
use Rattle.faults.specs.declared.block.Field.TheVariants.{Kind, Number, Count, Zero}
use Rattle.faults.specs.declared.record.Choice.TheVariants as choice
use Rattle.faults.specs.declared.record.Value.{Value}
use Rattle.faults.specs.declared.record.Value.TheVariants.{Start, First, Second}
use Rattle.faults.specs.declared.record.RecordFault.{RecordFault}
use Rattle.faults.specs.declared.record.RecordFault.TheVariants as fault
use Rattle.drivefile.specs.Tests.{each_of, lifted}
use Rattle.drivefile.specs.Block.{block_test, filled}
use Rattle.drivefile.specs.Bytes.{block_at, le32}
use Rattle.drivefile.specs.File.{network_number}
use Rattle.drivefile.specs.Header.{header_due, header_values, kind_of, network_of, none_at_fault, section_of}
use Rattle.drivefile.specs.Order.{FirstOf, Passed, Test, block_tests, header_tests, later_tests, samples_in_block, test, tests, turns_in_block, value_tests}
use Rattle.drivefile.specs.Reading.{later_block, later_test, reading, samples_due, turns_due, workers_known}
use Rattle.drivefile.specs.declared.block.Due.{Due}
use Rattle.drivefile.specs.declared.header.Header.{Header}
use Rattle.drivefile.specs.declared.header.SectionKind.{SectionKind}
use Rattle.drivefile.specs.declared.header.SectionKind.TheVariants as kind
use Rattle.drivefile.specs.declared.header.NetworkChoice.TheVariants as network
use Rattle.drivefile.specs.declared.header.SectionChoice.{SectionChoice}
use Rattle.drivefile.specs.declared.header.SectionChoice.TheVariants as section
use Rattle.drivefile.proofs.Runs.{Any, Ordered, Runs, runs_chosen, runs_cond, runs_each, runs_expect, runs_fails, runs_found, runs_kept, runs_lifted, runs_made, runs_ok, runs_ordered, runs_scan, runs_then, runs_unless, unless}

-- the one number below 1 is 0
below_one : (n : ℕ) → ltb n 1 ≡ eqb n 0
below_one n = grind (arith, nat_tests)

-- a block against its tests
runs_block : (b : ℕ) (due : Due) (bs : List ℕ) → Runs Any (λ f. f) (lifted (block_test b due bs)) (block_tests b due bs)
runs_block b due bs =
    runs_lifted
    (runs_expect _ (Check b)
    (runs_then Any _
    (runs_expect _ (Frame b Kind)
    (runs_expect _ (Frame b Number)
    (runs_expect _ (Frame b Count)
    (runs_expect _ (Frame b Zero) (runs_ok tt)))))
    (λ _ _. runs_found (filled b) tt (Filling b) _ tt refl (λ _. refl) (runs_scan (λ i. fault.Block (Filling b i)) 1 bs (λ n. eqb n 0) below_one (8 + due.used) (502 - due.used)))))

-- the number of a section
abbrev pub number_of : SectionKind → ℕ
number_of kind.Stroke = 1
number_of kind.Roll = 2
number_of kind.Envelope = 3

-- byte 8 against its test, with the number of the section that it chooses
runs_kind : (n : ℕ) → Runs (λ k. n ≡ number_of k) (λ f. f) (kind_of n) (test (leb 1 n && leb n 3) (fault.Choice choice.Section) ∷ [])
runs_kind n =
    runs_chosen (eqb n 1) _ kind.Stroke _ (λ e. (eqb-true n 1 e, grind (arith, nat_tests))) (λ a.
    runs_chosen (eqb n 2) _ kind.Roll _ (λ e. (eqb-true n 2 e, grind (arith, nat_tests))) (λ b.
    runs_chosen (eqb n 3) _ kind.Envelope _ (λ e. (eqb-true n 3 e, grind (arith, nat_tests))) (λ c.
    runs_fails _ _ [] (grind (arith, nat_tests)))))

-- byte 10 against its test, with the network that it chooses
runs_network : (n : ℕ) → Runs (λ t. network_number t ≡ n) (λ f. f) (network_of n) (test (leb 1 n && leb n 2) (fault.Choice choice.Network) ∷ [])
runs_network n =
    runs_chosen (eqb n 1) _ network.Serial _ (λ e. (sym (eqb-true n 1 e), grind (arith, nat_tests))) (λ a.
    runs_chosen (eqb n 2) _ network.KoggeStone _ (λ e. (sym (eqb-true n 2 e), grind (arith, nat_tests))) (λ b.
    runs_fails _ _ [] (grind (arith, nat_tests))))

-- the section of a kind with the words of its values, in range or not
abbrev pub section_by : SectionKind → ℕ → ℕ → ℕ → SectionChoice
section_by kind.Stroke start first second = section.Stroke (to_z w32 start) (to_z w32 first) (to_z w32 second)
section_by kind.Roll start first second = section.Roll start first
section_by kind.Envelope start first second = section.Envelope (to_z w32 start) first

-- a section is in range where no value of it is out of its own
runs_range : (s : SectionChoice) (o : Option Value) {ts : List Test} → Runs Any fault.Value (unless o) ts → Runs (λ t. t ≡ s) (λ f. f) (none_at_fault o (Ok s)) ts
runs_range s o h = runs_found (λ o. none_at_fault o (Ok s)) s fault.Value o refl refl (λ _. refl) h

-- the values of a section against its tests
runs_section : (n : ℕ) (k : SectionKind) (start first second : ℕ) → n ≡ number_of k → Runs (λ s. s ≡ section_by k start first second) (λ f. f) (section_of k start first second) (value_tests n start first second)
runs_section n kind.Stroke start first second e = rw e (runs_range _ _ (runs_unless _ Start _ (runs_unless _ First _ (runs_unless _ Second None (runs_ok tt)))))
runs_section n kind.Roll start first second e = rw e (runs_expect _ _ (runs_ok refl))
runs_section n kind.Envelope start first second e =
    rw e (runs_then (λ s. s ≡ section_by kind.Envelope start first second) _ (runs_range _ _ (runs_unless _ First None (runs_ok tt))) (λ _ h. runs_expect _ _ (runs_ok h)))

-- a header has the values of its block
pub record OfBlock (bs : List ℕ) (h : Header) : Type 0 where
  pub kind_of_section : SectionKind
  pub kind_is : get_or bs 8 0 ≡ number_of kind_of_section
  pub section_is : h.section ≡ section_by kind_of_section (le32 bs 20) (le32 bs 24) (le32 bs 28)
  pub exponent_is : h.exponent ≡ get_or bs 9 0
  pub network_is : network_number h.network ≡ get_or bs 10 0
  pub workers_are : h.workers ≡ get_or bs 11 0
  pub samples_are : h.samples ≡ le32 bs 12
  pub turns_are : h.turns ≡ le32 bs 16

-- the header's values against their tests
runs_values : (blocks : ℕ) (bs : List ℕ) → Runs (OfBlock bs) (λ f. f) (header_values blocks bs) (header_tests blocks bs)
runs_values blocks bs =
    runs_then (λ k. get_or bs 8 0 ≡ number_of k) _ (runs_kind (get_or bs 8 0)) (λ k e.
    runs_expect _ _
    (runs_then (λ t. network_number t ≡ get_or bs 10 0) _ (runs_network (get_or bs 10 0)) (λ t f.
    runs_expect _ _ (runs_expect _ _ (runs_expect _ _
    (runs_then (λ s. s ≡ section_by k (le32 bs 20) (le32 bs 24) (le32 bs 28)) _ (runs_section (get_or bs 8 0) k (le32 bs 20) (le32 bs 24) (le32 bs 28) e) (λ s d.
    runs_expect _ _ (runs_ok (record {
      kind_of_section = k;
      kind_is = e;
      section_is = d;
      exponent_is = refl;
      network_is = f;
      workers_are = refl;
      samples_are = refl;
      turns_are = refl;
    })))))))))

-- a later block against its tests
runs_later : (h : Header) (b : ℕ) (bs : List ℕ) → Runs Any (λ f. f) (later_block h b bs) (later_tests h.samples h.turns h.workers b bs)
runs_later h b bs =
    runs_cond _ (runs_block b (samples_due (samples_in_block h.samples b)) bs)
    (runs_then Any _ (runs_block b (turns_due (turns_in_block h.samples h.turns b)) bs) (λ _ _.
    runs_found (workers_known b) tt (fault.Worker b) _ tt refl (λ _. refl) (runs_scan (fault.Worker b) h.workers bs (λ n. ltb n h.workers) (λ _. refl) 8 (turns_in_block h.samples h.turns b))))

-- the blocks after the header against their tests, by the counts in block 0
runs_rest : (file : List ℕ) (h : Header) (n : ℕ) → OfBlock (block_at file 0) h → Runs Any (λ f. f) (each_of (later_test h file) 1 n) (flat_map (λ b. later_tests (le32 (block_at file 0) 12) (le32 (block_at file 0) 16) (get_or (block_at file 0) 11 0) b (block_at file b)) (range_with_len 1 n))
runs_rest file h n c =
    subst (Runs Any (λ f. f) (each_of (later_test h file) 1 n))
    (λ k. flat_map (λ b. later_tests (c.samples_are k) (c.turns_are k) (c.workers_are k) b (block_at file b)) (range_with_len 1 n))
    (runs_each (later_test h file) _ (λ b. runs_later h b (block_at file b)) 1 n)

-- a whole file against its tests
runs_file : (file : List ℕ) → Runs (OfBlock (block_at file 0)) (λ f. f) (reading file) (tests file)
runs_file file =
    runs_expect _ _
    (runs_then (OfBlock (block_at file 0)) _
    (runs_then Any _ (runs_block 0 header_due (block_at file 0)) (λ _ _. runs_values (length file / 512) (block_at file 0)))
    (λ h c. runs_kept h c (runs_rest file h (length file / 512 - 1) c)))

-- a file is read in the order of its tests
pub ordered : (file : List ℕ) → Ordered (reading file) (tests file)
ordered file = runs_ordered (runs_file file)

-- a file with a header passes them all
pub ordered_ok : (file : List ℕ) (h : Header) → reading file ≡ Ok h → Passed (tests file)
ordered_ok file h e = MatchResult-at_ok (λ _. Passed (tests file)) (FirstOf (tests file)) h e (ordered file)

-- a file with a fault fails first at the test that names it
pub ordered_err : (file : List ℕ) (f : RecordFault) → reading file ≡ Err f → FirstOf (tests file) f
ordered_err file f e = MatchResult-at_err (λ _. Passed (tests file)) (FirstOf (tests file)) f e (ordered file)

-- and its header has the values of block 0
pub header_of_block : (file : List ℕ) (h : Header) → reading file ≡ Ok h → OfBlock (block_at file 0) h
header_of_block file h e = IfOk-at_ok (OfBlock (block_at file 0)) e (runs_made (runs_file file))
