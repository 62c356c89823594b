-- The file of a record in range passes every test.
use Rattle.std.proofs.Common.{◌≡◌, ℕ, ◌+◌, ◌-◌, ◌/◌, ◌^◌, ◌<◌, ◌≤◌, true, ◌&&◌, ltb, leb, List, [], ◌∷◌, ◌++◌, length, get_or, ℤ, sym, refl, ap, ◌∙◌, subst, ⊎_elim, arith, w32, SFits, to_z, of_z}
use mir.ValLaws.{of_z_fits}
use Rattle.std.specs.List.{flat_map}
use Rattle.std.proofs.ByRecursion.{All-append, All-get_or}
use Rattle.std.proofs.lemmas.List.{map-id}
use Rattle.std.proofs.lemmas.Simd.{get_or-chunk}
use Rattle.std.proofs.lemmas.Bool.Decides.{nat_tests}
use Rattle.std.proofs.lemmas.List.Concat.{flat_map_single}
use Rattle.std.proofs.lemmas.Int.{to_z-of_z}
use Rattle.std.proofs.lemmas.Bool.{and_from, cases_lt, eq-eqb, le-leb, lt-leb, lt-ltb, ltb-true}
use Rattle.faults.specs.declared.record.RecordFault.TheVariants as fault
use Rattle.drivefile.specs.Bytes.{block_at, bytes4, le32}
use Rattle.drivefile.specs.Header.{header_due}
use Rattle.drivefile.specs.Order.{Passed, Passes, Test, block_tests, header_tests, later_tests, sample_block_tests, test, tests, turn_block_tests, turns_in_block, value_tests}
use Rattle.drivefile.specs.Reading.{legal_length, turns_due}
use Rattle.drivefile.specs.Record.{DriveRecord, RecordRange, values_in}
use Rattle.drivefile.specs.File.{file_of, header_payload, part, section_number, value_words}
use Rattle.drivefile.specs.declared.header.SectionChoice.{SectionChoice}
use Rattle.drivefile.specs.declared.header.SectionChoice.TheVariants as section
use Rattle.drivefile.proofs.Codings.{byte, whole, word}
use Rattle.drivefile.proofs.ItemBlocks.{items_passed}
use Rattle.drivefile.proofs.Numbered.{block_file, block_first, block_of, block_sample, block_turn, blocks, header_block, length_file, length_header_payload, sample_blocks, turn_block}
use Rattle.drivefile.proofs.Parts.{all_part, length_part}
use Rattle.drivefile.proofs.SectionWords.{envelope_in, network_known, section_known, stroke_in}
use Rattle.drivefile.proofs.Sealed.{payload_sealed, sealed_passed}
use Rattle.drivefile.proofs.Rows.{all_counting, all_joined}
use Rattle.drivefile.specs.declared.block.Kind.TheVariants as block_kind

-- the words of a section's values pass as its values
values_passed : (s : SectionChoice) (zs cs : List ℕ) → values_in s ≡ true
    → let bs = (flat_map bytes4 (value_words s) ++ zs) ++ cs in Passed (value_tests (section_number s) (le32 bs 0) (le32 bs 4) (le32 bs 8))
values_passed (section.Stroke start lower upper) zs cs h =
    let v = stroke_in start lower upper h in
    let back : (z : ℤ) → SFits w32 z → to_z w32 (le32 (bytes4 (of_z w32 z)) 0) ≡ z = λ z f. ap (to_z w32) (whole (of_z w32 z) (of_z_fits w32 z f).fits) ∙ to_z-of_z w32 z f in
    rw (back start v.start_word, back lower v.lower_word, back upper v.upper_word) (v.start_in, (v.lower_in, (v.upper_in, tt)))
values_passed (section.Roll start c) zs cs h = (refl, tt)
values_passed (section.Envelope start d) zs cs h =
    let v = envelope_in start d h in
    rw (whole d (omega (arith, ltb-true d (2 ^ 31) v.decay_in))) (v.decay_in, (refl, tt))

-- a number of a range passes the test for it
between : (a n b : ℕ) → a ≤ n → n ≤ b → (leb a n && leb n b) ≡ true
between a n b l m = and_from (leb a n) (leb n b) (le-leb a n l) (le-leb n b m)

-- the parts of a file's tests, together
abbrev pub rest_tests : List ℕ → ℕ → List Test
rest_tests file b = later_tests (le32 (block_at file 0) 12) (le32 (block_at file 0) 16) (get_or (block_at file 0) 11 0) b (block_at file b)

all_parts : (file : List ℕ) → legal_length (length file) ≡ true → Passed (block_tests 0 header_due (block_at file 0)) → Passed (header_tests (length file / 512) (block_at file 0))
    → ((b : ℕ) → 1 ≤ b → b < length file / 512 → Passed (rest_tests file b)) → Passed (tests file)
all_parts file long first values later = (
  long,
  All-append Passes (block_tests 0 header_due (block_at file 0) ++ header_tests (length file / 512) (block_at file 0)) _
      (All-append Passes (block_tests 0 header_due (block_at file 0)) (header_tests (length file / 512) (block_at file 0)) first values)
      (all_joined Passes (rest_tests file) 1 (length file / 512 - 1) (λ b l m. later b l (omega arith))),
)

module _ (r : DriveRecord) (p : RecordRange r) where
  abbrev n : ℕ
  n = length r.samples

  abbrev m : ℕ
  m = length r.turns

  header_passed : Passed (block_tests 0 header_due (header_block r))
  header_passed =
      let e = length_header_payload r in
      sealed_passed 1 0 0 (header_payload r) (omega (arith, e)) header_due refl refl e (omega arith) (omega arith) (omega arith)

  samples_read : le32 (header_block r) 12 ≡ n
  samples_read = whole n (omega (arith, p.samples_to))

  turns_read : le32 (header_block r) 16 ≡ m
  turns_read = whole m (omega (arith, p.turns_to))

  header_values_passed : Passed (header_tests (blocks r) (header_block r))
  header_values_passed =
      let section = section_known r.section in
      let exponent = between 2 r.exponent 6 p.exponent_from p.exponent_to in
      let network = network_known r.network in
      let workers = between 1 r.workers 8 p.workers_from p.workers_to in
      let last = All-append Passes _ _ (values_passed r.section _ _ p.section_values) (eq-eqb (blocks r) (blocks r) refl, tt) in
      rw (samples_read, turns_read) (section, (exponent, (network, (workers, (le-leb n 65536 p.samples_to, (le-leb m 65536 p.turns_to, last))))))

  -- a block of samples, and one of turns
  sample_passed : (b : ℕ) → 1 ≤ b → b ≤ sample_blocks r → b < 65536 → Passed (later_tests n m r.workers b (block_of r b))
  sample_passed b l h small =
      rw (le-leb b (sample_blocks r) h)
      (subst (λ bs. Passed (sample_block_tests n b bs)) (sym (block_sample r b l h))
      (items_passed word block_kind.Samples 125 1 (omega arith) r.samples b _ refl (omega arith) small (omega arith)))

  -- the turns of a block lie from byte 8 on
  turn_read : (b i : ℕ) → i < turns_in_block n m b → get_or (turn_block r b) (8 + i) 0 < r.workers
  turn_read b i h =
      let here = part 500 r.turns (b - (1 + sample_blocks r)) in
      let row = flat_map (λ w. w ∷ []) here in
      let same = flat_map_single (λ w. w) here ∙ map-id here in
      let long = length_part 500 r.turns (b - (1 + sample_blocks r)) in
      let wide : length row ≡ length here = ap length same in
      let read : get_or here i 0 ≡ get_or (turn_block r b) (8 + i) 0 =
      ap (λ l. get_or l i 0) (sym same ∙ sym (payload_sealed 3 b (length here) row (omega arith))) ∙ get_or-chunk 8 (length row) (turn_block r b) i 0 (omega arith) in
      subst (λ w. w < r.workers) read (All-get_or (λ w. w < r.workers) here i 0 (omega arith) (all_part _ 500 r.turns (b - (1 + sample_blocks r)) p.turn_workers))

  turn_passed : (b : ℕ) → 1 + sample_blocks r ≤ b → b < 65536 → Passed (later_tests n m r.workers b (block_of r b))
  turn_passed b l small =
      rw (lt-leb b (sample_blocks r) (omega arith))
      (subst (λ bs. Passed (turn_block_tests n m r.workers b bs)) (sym (block_turn r b l))
      (All-append Passes (block_tests b (turns_due (turns_in_block n m b)) (turn_block r b)) _
      (items_passed byte block_kind.Turns 500 (1 + sample_blocks r) (omega arith) r.turns b (turns_in_block n m b) (omega arith) (omega arith) small (omega arith))
      (all_counting Passes (λ i. test (ltb (get_or (turn_block r b) i 0) r.workers) (fault.Worker b i)) 8 (turns_in_block n m b)
      (λ i u v. let e : 8 + (i - 8) ≡ i = omega arith in lt-ltb _ _ (rw e at (turn_read b (i - 8) (omega arith)))))))

  later_passed : (b : ℕ) → 1 ≤ b → b < blocks r → Passed (later_tests n m r.workers b (block_of r b))
  later_passed b l h =
      let small : b < 65536 = omega (arith, p.samples_to, p.turns_to) in
      ⊎_elim (λ u. turn_passed b (omega arith) small) (λ u. sample_passed b l u small) (cases_lt (sample_blocks r) b)

  abbrev file : List ℕ
  file = file_of r

  in_blocks : length file / 512 ≡ blocks r
  in_blocks = omega (arith, length_file r)

  length_passed : legal_length (length file) ≡ true
  length_passed =
      let long = length_file r in
      let small : blocks r ≤ 658 = omega (arith, p.samples_to, p.turns_to) in
      grind (arith, nat_tests)

  first_block : block_at file 0 ≡ header_block r
  first_block = block_file r 0 (omega arith) ∙ block_first r

  same_tests : (b : ℕ) → b < blocks r → rest_tests file b ≡ later_tests n m r.workers b (block_of r b)
  same_tests b h = λ i. later_tests ((ap (λ bs. le32 bs 12) first_block ∙ samples_read) i) ((ap (λ bs. le32 bs 16) first_block ∙ turns_read) i) (get_or (first_block i) 11 0) b (block_file r b h i)

  -- all tests of the file
  pub file_passed : Passed (tests file)
  file_passed =
      all_parts file length_passed
      (rw first_block header_passed)
      (rw (in_blocks, first_block) header_values_passed)
      (λ b l h. let small : b < blocks r = omega (arith, in_blocks) in subst Passed (sym (same_tests b small)) (later_passed b l small))
