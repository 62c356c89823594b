-- Records in range with the same file are the same record.
use Rattle.std.proofs.Common.{◌≡◌, ℕ, ◌+◌, ◌<◌, [], ◌∷◌, length, get_or, drop, sym, ap, ◌∙◌, arith}
use Rattle.drivefile.specs.Bytes.{block_at}
use Rattle.drivefile.specs.Header.{blocks_for}
use Rattle.drivefile.specs.Record.{DriveRecord, RecordRange}
use Rattle.drivefile.specs.File.{file_of, header_payload, items_block}
use Rattle.drivefile.proofs.Codings.{byte, word, written_same}
use Rattle.drivefile.proofs.ItemBlocks.{all_same}
use Rattle.drivefile.proofs.Numbered.{block_file, block_first, block_of, block_sample, block_turn, blocks, length_header_payload, length_values, sample_blocks}
use Rattle.drivefile.proofs.Sealed.{same_payload}
use Rattle.drivefile.proofs.SectionWords.{network_same, numbers, numbers_fit, section_same, turn_bytes}
use Rattle.drivefile.specs.declared.block.Kind.TheVariants as block_kind

module _ (r s : DriveRecord) (p : RecordRange r) (q : RecordRange s) (same : file_of r ≡ file_of s) where
  -- a block of both files
  block_same : (b : ℕ) → b < blocks r → b < blocks s → block_of r b ≡ block_of s b
  block_same b h k = sym (block_file r b h) ∙ ap (λ f. block_at f b) same ∙ block_file s b k

  payload_same : header_payload r ≡ header_payload s
  payload_same =
      let m = length_header_payload r in
      let n = length_header_payload s in
      same_payload 1 0 0 0 (header_payload r) (header_payload s) (omega (arith, m)) (omega (arith, m, n)) (sym (block_first r) ∙ block_same 0 (omega arith) (omega arith) ∙ block_first s)

  numbers_same : numbers r ≡ numbers s
  numbers_same =
      written_same word (numbers r) (numbers s) (numbers_fit r p) (numbers_fit s q)
      (omega (arith, length_values r.section, length_values s.section))
      (ap (drop 4) payload_same)

  samples_count : length r.samples ≡ length s.samples
  samples_count = λ i. get_or (numbers_same i) 0 0

  turns_count : length r.turns ≡ length s.turns
  turns_count = λ i. get_or (numbers_same i) 1 0

  samples_same : r.samples ≡ s.samples
  samples_same =
      all_same word block_kind.Samples 125 1 (omega arith) r.samples s.samples (omega arith) p.sample_words q.sample_words samples_count
      (λ b l m. sym (block_sample r b l (omega arith)) ∙ block_same b (omega arith) (omega (arith, samples_count)) ∙ block_sample s b l (omega (arith, samples_count)))

  turns_same : r.turns ≡ s.turns
  turns_same =
      let n : sample_blocks r ≡ sample_blocks s = ap (λ k. blocks_for k 125) samples_count in
      all_same byte block_kind.Turns 500 (1 + sample_blocks r) (omega arith) r.turns s.turns (omega arith) (turn_bytes r p) (turn_bytes s q) turns_count
      (λ b l m. sym (block_turn r b l) ∙ block_same b (omega arith) (omega (arith, n, turns_count)) ∙ block_turn s b (omega (arith, n)) ∙ (λ i. items_block 3 500 (λ w. w ∷ []) (1 + sym n i) s.turns b))

  pub same_record : r ≡ s
  same_record = λ i. record {
    section = section_same r.section s.section p.section_values q.section_values (λ j. get_or (payload_same j) 0 0) (λ j. drop 2 (numbers_same j)) i;
    exponent = get_or (payload_same i) 1 0;
    network = network_same r.network s.network (λ j. get_or (payload_same j) 2 0) i;
    workers = get_or (payload_same i) 3 0;
    samples = samples_same i;
    turns = turns_same i;
  }
