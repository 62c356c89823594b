-- A file that is accepted is the file of the record that it gives, and that record is in range.
use Rattle.std.proofs.Common.{◌≡◌, ℕ, ◌+◌, ◌-◌, ◌*◌, ◌/◌, ◌%◌, ◌^◌, ◌<◌, ◌≤◌, true, leb, ltb, List, [], ◌∷◌, ◌++◌, map, length, get_or, take, drop, Ok, sym, refl, ap, ◌∙◌, subst, ⊎_elim, arith, w32, to_z}
use mir.ValLaws.{to_z-Fits}
use Rattle.std.specs.List.{range_with_len, flat_map}
use Rattle.std.proofs.lemmas.List.FromFn.{length-map-range_with_len}
use Rattle.std.proofs.lemmas.Simd.{get_or-chunk, length-chunk}
use Rattle.std.proofs.lemmas.Int.{of_z-to_z}
use Rattle.std.proofs.lemmas.Bool.{and_from, and_parts, cases_lt, eqb-true, le-leb, leb-true, lt-leb, lt-ltb, ltb-true}
use Rattle.faults.specs.declared.record.RecordFault.TheVariants as fault
use Rattle.drivefile.specs.Bytes.{block_at, bytes4, le32}
use Rattle.drivefile.specs.Header.{blocks_for, header_due, needed}
use Rattle.drivefile.specs.Items.{sample_place, turn_place}
use Rattle.drivefile.specs.Order.{Passed, Passes, block_tests, header_tests, later_tests, test, tests, turn_block_tests, turns_in_block, value_tests}
use Rattle.drivefile.specs.Reading.{legal_length, reading, turns_due}
use Rattle.drivefile.specs.Record.{DriveRecord, RecordRange, recorded, values_in}
use Rattle.drivefile.specs.File.{file_of, header_payload, items_block, part, sealed, section_number, value_words}
use Rattle.drivefile.specs.declared.header.Header.{Header}
use Rattle.drivefile.specs.declared.header.SectionKind.{SectionKind}
use Rattle.drivefile.specs.declared.header.SectionKind.TheVariants as kind
use Rattle.drivefile.proofs.Accepted.{rest_tests}
use Rattle.drivefile.proofs.Codings.{Bytes, byte, bytes_part, run_taken, word}
use Rattle.drivefile.proofs.Counted.{counted}
use Rattle.drivefile.proofs.ItemBlocks.{passed_items}
use Rattle.drivefile.proofs.Lengths.{legal}
use Rattle.drivefile.proofs.Numbered.{block_first, block_of, block_sample, block_turn, blocks, header_block, numbered, sample_block, sample_blocks, turn_block}
use Rattle.drivefile.proofs.Ordered.{OfBlock, header_of_block, number_of, ordered_ok, section_by}
use Rattle.drivefile.proofs.Parts.{joined_same, parts_all}
use Rattle.drivefile.proofs.Rows.{all_counting, all_split, counting_all, joined_all}
use Rattle.drivefile.proofs.SectionWords.{word_within}
use Rattle.drivefile.proofs.Sealed.{passed_sealed}
use Rattle.drivefile.specs.declared.block.Kind.TheVariants as block_kind

-- a section whose values pass, from its words
record SectionRead (k : SectionKind) (start first second : ℕ) : Type 0 where
  number_read : section_number (section_by k start first second) ≡ number_of k
  words_read : value_words (section_by k start first second) ≡ start ∷ first ∷ second ∷ []
  range_read : values_in (section_by k start first second) ≡ true

section_read : (k : SectionKind) (start first second : ℕ) → start < 2 ^ 32 → first < 2 ^ 32 → second < 2 ^ 32
    → Passed (value_tests (number_of k) start first second) → SectionRead k start first second
section_read kind.Stroke start first second a b c p = record {
  number_read = refl;
  words_read = λ i. of_z-to_z w32 start a i ∷ of_z-to_z w32 first b i ∷ of_z-to_z w32 second c i ∷ [];
  range_read = and_from _ _ p.0 (and_from _ _ p.1.0 p.1.1.0);
}
section_read kind.Roll start first second a b c p = record {
  number_read = refl;
  words_read = λ i. start ∷ first ∷ sym (eqb-true second 0 p.0) i ∷ [];
  range_read = and_from _ _ (lt-ltb start (2 ^ 32) a) (lt-ltb first (2 ^ 32) b);
}
section_read kind.Envelope start first second a b c p = record {
  number_read = refl;
  words_read = λ i. of_z-to_z w32 start a i ∷ first ∷ sym (eqb-true second 0 p.1.0) i ∷ [];
  range_read = and_from _ _ (word_within (to_z w32 start) (to_z-Fits w32 start (record { fits = a }))) p.0;
}

-- the bytes of a header's values: four bytes, then five words
header_bytes : (bs : List ℕ) → length bs ≡ 512 → Bytes bs
    → take 24 (drop 8 bs) ≡ get_or bs 8 0 ∷ get_or bs 9 0 ∷ get_or bs 10 0 ∷ get_or bs 11 0 ∷ flat_map bytes4 (le32 bs 12 ∷ le32 bs 16 ∷ le32 bs 20 ∷ le32 bs 24 ∷ le32 bs 28 ∷ [])
header_bytes bs long fit =
    let four = run_taken byte bs (λ k. 8 + k) 8 0 4 fit (omega arith) (λ k l m. omega arith) in
    let five = run_taken word bs (λ k. 12 + 4 * k) 12 0 5 fit (omega arith) (λ k l m. omega arith) in
    ap (take 24) (four ∙ ap (λ l. get_or bs 8 0 ∷ get_or bs 9 0 ∷ get_or bs 10 0 ∷ get_or bs 11 0 ∷ l) five)

-- the numbers of samples and turns are the header's
module _ (file : List ℕ) (h : Header) where
  pub samples_length : length (recorded file h).samples ≡ h.samples
  samples_length = length-map-range_with_len (λ i. le32 file (sample_place i)) 0 h.samples

  pub turns_length : length (recorded file h).turns ≡ h.turns
  turns_length = length-map-range_with_len (λ i. get_or file (turn_place h.samples i) 0) 0 h.turns

module _ (file : List ℕ) (fit : Bytes file) (h : Header) (read : reading file ≡ Ok h) where
  abbrev here : List ℕ
  here = block_at file 0

  abbrev d : DriveRecord
  d = recorded file h

  values : OfBlock here h
  values = header_of_block file h read

  passed : Passed (tests file)
  passed = ordered_ok file h read

  abbrev count : ℕ
  count = length file / 512

  -- the parts of the tests, apart
  long : legal_length (length file) ≡ true
  long = passed.0

  halves : Passed (block_tests 0 header_due here ++ header_tests count here) × Passed (flat_map (rest_tests file) (range_with_len 1 (count - 1)))
  halves = all_split Passes (block_tests 0 header_due here ++ header_tests count here) (flat_map (rest_tests file) (range_with_len 1 (count - 1))) passed.1

  front : Passed (block_tests 0 header_due here) × Passed (header_tests count here)
  front = all_split Passes (block_tests 0 header_due here) (header_tests count here) halves.0

  later_passed : (b : ℕ) → 1 ≤ b → b < count → Passed (later_tests h.samples h.turns h.workers b (block_at file b))
  later_passed b l m =
      subst (λ t. t) (λ i. Passed (later_tests (sym values.samples_are i) (sym values.turns_are i) (sym values.workers_are i) b (block_at file b)))
      (joined_all Passes (rest_tests file) 1 (count - 1) halves.1 b l (omega arith))

  -- the section's values
  values_passed : Passed (value_tests (get_or here 8 0) (le32 here 20) (le32 here 24) (le32 here 28))
  values_passed = (all_split Passes (value_tests (get_or here 8 0) (le32 here 20) (le32 here 24) (le32 here 28)) _ front.1.1.1.1.1.1.1).0

  first_bytes : Bytes here
  first_bytes = bytes_part file (512 * 0) 512 fit

  read_section : SectionRead values.kind_of_section (le32 here 20) (le32 here 24) (le32 here 28)
  read_section =
      section_read values.kind_of_section (le32 here 20) (le32 here 24) (le32 here 28)
      (word.below here 20 first_bytes) (word.below here 24 first_bytes) (word.below here 28 first_bytes)
      (subst (λ n. Passed (value_tests n (le32 here 20) (le32 here 24) (le32 here 28))) values.kind_is values_passed)

  samples_read : le32 here 12 ≡ length d.samples
  samples_read = sym values.samples_are ∙ sym (samples_length file h)

  turns_read : le32 here 16 ≡ length d.turns
  turns_read = sym values.turns_are ∙ sym (turns_length file h)

  count_is : count ≡ blocks d
  count_is = counted file h read ∙ (λ i. needed (sym (samples_length file h) i) (sym (turns_length file h) i))

  whole_blocks : length file ≡ 512 * count
  whole_blocks = (legal (length file) long).long

  length_first : length here ≡ 512
  length_first = let s = (legal (length file) long).some in length-chunk (512 * 0) 512 file (omega (arith, whole_blocks))

  -- block 0 is the header of the record
  payload : take 24 (drop 8 here) ≡ header_payload d
  payload =
      let s = values.section_is in
      let number : get_or here 8 0 ≡ section_number h.section = values.kind_is ∙ sym read_section.number_read ∙ ap section_number (sym s) in
      let words : le32 here 20 ∷ le32 here 24 ∷ le32 here 28 ∷ [] ≡ value_words h.section = sym read_section.words_read ∙ ap value_words (sym s) in
      header_bytes here length_first first_bytes
      ∙ (λ i. number i ∷ sym values.exponent_is i ∷ sym values.network_is i ∷ sym values.workers_are i ∷ flat_map bytes4 (samples_read i ∷ turns_read i ∷ words i))

  first_is : here ≡ header_block d
  first_is = passed_sealed 0 header_due here length_first first_bytes (omega arith) front.0 ∙ ap (λ l. sealed 1 0 0 l) payload

  same_sample_blocks : sample_blocks d ≡ blocks_for h.samples 125
  same_sample_blocks = ap (λ n. blocks_for n 125) (samples_length file h)

  -- a block of samples
  sample_is : (b : ℕ) → 1 ≤ b → b ≤ blocks_for h.samples 125 → b < count → block_at file b ≡ sample_block d b
  sample_is b l m k =
      passed_items word block_kind.Samples 125 1 (omega arith) file fit sample_place (λ i. refl) h.samples b _ refl l (omega (arith, whole_blocks))
      (rw (le-leb b (blocks_for h.samples 125) m) at (later_passed b l k))

  -- a block of turns passes as a block, and each of its turns
  turn_tests : (b : ℕ) → 1 + blocks_for h.samples 125 ≤ b → b < count → Passed (turn_block_tests h.samples h.turns h.workers b (block_at file b))
  turn_tests b l k = rw (lt-leb b (blocks_for h.samples 125) (omega arith)) at (later_passed b (omega arith) k)

  abbrev turns_here : ℕ → ℕ
  turns_here b = turns_in_block h.samples h.turns b

  turn_parts : (b : ℕ) → 1 + blocks_for h.samples 125 ≤ b → b < count
      → Passed (block_tests b (turns_due (turns_here b)) (block_at file b)) × Passed (map (λ i. test (ltb (get_or (block_at file b) i 0) h.workers) (fault.Worker b i)) (range_with_len 8 (turns_here b)))
  turn_parts b l k =
      all_split Passes (block_tests b (turns_due (turns_here b)) (block_at file b)) (map (λ i. test (ltb (get_or (block_at file b) i 0) h.workers) (fault.Worker b i)) (range_with_len 8 (turns_here b))) (turn_tests b l k)

  turn_is : (b : ℕ) → 1 + blocks_for h.samples 125 ≤ b → b < count → block_at file b ≡ turn_block d b
  turn_is b l k =
      passed_items byte block_kind.Turns 500 (1 + blocks_for h.samples 125) (omega arith) file fit (turn_place h.samples) (λ i. omega arith) h.turns b (turns_here b) (omega arith) l (omega (arith, whole_blocks))
      (turn_parts b l k).0
      ∙ (λ i. items_block 3 500 (λ w. w ∷ []) (1 + sym same_sample_blocks i) d.turns b)

  -- each block is the record's
  block_is : (b : ℕ) → b < count → block_at file b ≡ block_of d b
  block_is b k =
      ⊎_elim
      (λ l. ⊎_elim
      (λ m. turn_is b (omega arith) k ∙ sym (block_turn d b (omega (arith, same_sample_blocks))))
      (λ m. sample_is b (omega arith) m k ∙ sym (block_sample d b (omega arith) (omega (arith, same_sample_blocks))))
      (cases_lt (blocks_for h.samples 125) b))
      (λ l. let e : b ≡ 0 = omega arith in rw e (first_is ∙ sym (block_first d)))
      (cases_lt 0 b)

  -- so the file is the record's
  pub file_is : file ≡ file_of d
  file_is =
      sym (parts_all 512 file 0 count (omega (arith, whole_blocks)))
      ∙ joined_same (λ b. part 512 file (b - 0)) (block_of d) 0 count (λ b l m. let e : b - 0 ≡ b = omega arith in rw e (block_is b (omega arith)))
      ∙ (λ i. flat_map (block_of d) (range_with_len 0 (count_is i)))
      ∙ sym (numbered d)

  -- a turn of the file names a worker below W
  turn_below : (i : ℕ) → i < h.turns → get_or file (turn_place h.samples i) 0 < h.workers
  turn_below i l =
      let b = 1 + blocks_for h.samples 125 + i / 500 in
      let j = 8 + i % 500 in
      let inside : b < count = omega (arith, counted file h read) in
      let some : i % 500 < turns_here b = omega arith in
      let passes = counting_all Passes (λ k. test (ltb (get_or (block_at file b) k 0) h.workers) (fault.Worker b k)) 8 (turns_here b) (turn_parts b (omega arith) inside).1 j (omega arith) (omega arith) in
      let place : 512 * b + j ≡ turn_place h.samples i = omega arith in
      subst (λ x. x < h.workers)
      (get_or-chunk (512 * b) 512 file j 0 (omega arith) ∙ (λ k. get_or file (place k) 0))
      (ltb-true _ _ passes)

  -- and the record is in range
  pub range_is : RecordRange d
  range_is =
      let t = front.1 in
      let exponent = and_parts (leb 2 (get_or here 9 0)) (leb (get_or here 9 0) 6) t.1.0 in
      let workers = and_parts (leb 1 (get_or here 11 0)) (leb (get_or here 11 0) 8) t.1.1.1.0 in
      record {
        exponent_from = omega (arith, values.exponent_is, leb-true 2 (get_or here 9 0) exponent.0);
        exponent_to = omega (arith, values.exponent_is, leb-true (get_or here 9 0) 6 exponent.1);
        workers_from = omega (arith, values.workers_are, leb-true 1 (get_or here 11 0) workers.0);
        workers_to = omega (arith, values.workers_are, leb-true (get_or here 11 0) 8 workers.1);
        samples_to = omega (arith, samples_length file h, values.samples_are, leb-true (le32 here 12) 65536 t.1.1.1.1.0);
        turns_to = omega (arith, turns_length file h, values.turns_are, leb-true (le32 here 16) 65536 t.1.1.1.1.1.0);
        section_values = ap values_in values.section_is ∙ read_section.range_read;
        sample_words = all_counting (λ x. x < 2 ^ 32) (λ i. le32 file (sample_place i)) 0 h.samples (λ i l m. word.below file (sample_place i) fit);
        turn_workers = all_counting (λ w. w < h.workers) (λ i. get_or file (turn_place h.samples i) 0) 0 h.turns (λ i l m. turn_below i (omega arith));
      }
