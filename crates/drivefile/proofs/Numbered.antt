-- The file of a record by the numbers of its blocks.
use Rattle.std.proofs.Common.{◌≡◌, ℕ, ◌+◌, ◌*◌, ◌<◌, ◌≤◌, cond, eqb, leb, List, [], ◌∷◌, length, sym, refl, ap, ◌∙◌, append-nil, zero-add, arith}
use Rattle.std.specs.List.{range_with_len, flat_map}
use Rattle.std.proofs.lemmas.Bool.{cond_both, le-leb, lt-leb, ne_eqb}
use Rattle.drivefile.specs.Bytes.{block_at, bytes4}
use Rattle.drivefile.specs.Header.{blocks_for, needed}
use Rattle.drivefile.specs.Record.{DriveRecord}
use Rattle.drivefile.specs.File.{file_of, header_payload, items_block, sealed, value_words}
use Rattle.drivefile.specs.declared.header.SectionChoice.{SectionChoice}
use Rattle.drivefile.specs.declared.header.SectionChoice.TheVariants as section
use Rattle.drivefile.proofs.Codings.{byte, length_written, word}
use Rattle.drivefile.proofs.ItemBlocks.{length_items}
use Rattle.drivefile.proofs.Parts.{joined_counting, joined_same, length_rows, part_rows}
use Rattle.drivefile.proofs.Sealed.{length_sealed}
use Rattle.drivefile.specs.declared.block.Kind.TheVariants as block_kind

-- a section has three words of values
pub length_values : (s : SectionChoice) → length (value_words s) ≡ 3
length_values (section.Stroke start lower upper) = refl
length_values (section.Roll start c) = refl
length_values (section.Envelope start d) = refl

pub length_header_payload : (r : DriveRecord) → length (header_payload r) ≡ 24
length_header_payload r =
    let e = length_written word (value_words r.section) in
    omega (arith, e, length_values r.section)

module _ (r : DriveRecord) where
  abbrev pub sample_blocks : ℕ
  sample_blocks = blocks_for (length r.samples) 125

  abbrev pub turn_blocks : ℕ
  turn_blocks = blocks_for (length r.turns) 500

  abbrev pub header_block : List ℕ
  header_block = sealed 1 0 0 (header_payload r)

  abbrev pub sample_block : ℕ → List ℕ
  sample_block = items_block 2 125 bytes4 1 r.samples

  abbrev pub turn_block : ℕ → List ℕ
  turn_block = items_block 3 500 (λ w. w ∷ []) (1 + sample_blocks) r.turns

  -- block b
  pub block_of : ℕ → List ℕ
  block_of b = cond (eqb b 0) header_block (cond (leb b sample_blocks) (sample_block b) (turn_block b))

  pub block_first : block_of 0 ≡ header_block
  unfolding block_of
  block_first = refl

  pub block_sample : (b : ℕ) → 1 ≤ b → b ≤ sample_blocks → block_of b ≡ sample_block b
  unfolding block_of
  block_sample b l m = rw (ne_eqb b 0 (λ e. omega arith), le-leb b sample_blocks m) refl

  pub block_turn : (b : ℕ) → 1 + sample_blocks ≤ b → block_of b ≡ turn_block b
  unfolding block_of
  block_turn b l = rw (ne_eqb b 0 (λ e. omega arith), lt-leb b sample_blocks (omega arith)) refl

  -- the file is its blocks in a row
  pub numbered : file_of r ≡ flat_map block_of (range_with_len 0 (needed (length r.samples) (length r.turns)))
  numbered =
      let samples_row = joined_same block_of sample_block 1 sample_blocks (λ b l m. block_sample b l (omega arith)) in
      let turns_row = joined_same block_of turn_block (1 + sample_blocks) turn_blocks (λ b l m. block_turn b l) in
      sym
      (joined_counting block_of 0 (1 + sample_blocks) turn_blocks
      ∙ rw (joined_counting block_of 0 1 sample_blocks, zero-add (1 + sample_blocks), samples_row, turns_row, append-nil (block_of 0), block_first) refl)

  -- what holds of the header's block and of all others holds of each
  pub block_of_both : (P : List ℕ → Type 0) → P header_block → ((b : ℕ) → P (sample_block b)) → ((b : ℕ) → P (turn_block b)) → (b : ℕ) → P (block_of b)
  unfolding block_of
  block_of_both P first samples turns b =
      cond_both (eqb b 0) header_block _ P (λ _. first) (λ _. cond_both (leb b sample_blocks) (sample_block b) (turn_block b) P (λ _. samples b) (λ _. turns b))

  pub length_block_of : (b : ℕ) → length (block_of b) ≡ 512
  length_block_of =
      block_of_both (λ l. length l ≡ 512)
      (length_sealed 1 0 0 (header_payload r) (omega (arith, length_header_payload r)))
      (length_items word block_kind.Samples 125 1 (omega arith) r.samples)
      (length_items byte block_kind.Turns 500 (1 + sample_blocks) (omega arith) r.turns)

  abbrev pub blocks : ℕ
  blocks = needed (length r.samples) (length r.turns)

  pub length_file : length (file_of r) ≡ 512 * blocks
  length_file = ap length numbered ∙ length_rows block_of 512 length_block_of 0 blocks

  -- and each of them
  pub block_file : (b : ℕ) → b < blocks → block_at (file_of r) b ≡ block_of b
  block_file b h =
      ap (λ l. block_at l b) numbered ∙ part_rows block_of 512 length_block_of 0 blocks b h ∙ ap block_of (zero-add b)
