-- The file of a record in range is made of bytes.
use Rattle.std.proofs.Common.{ℕ, ◌+◌, ◌-◌, ◌<◌, List, ◌++◌, length, replicate, sym, subst, arith}
use Rattle.std.specs.List.{flat_map, AllByRecursion}
use Rattle.std.proofs.ByRecursion.{All-append}
use Rattle.std.proofs.lemmas.List.Elements.{All-replicate, recursion_from_All}
use Rattle.drivefile.specs.Bytes.{bytes2}
use Rattle.drivefile.specs.Block.{check_of}
use Rattle.drivefile.specs.Record.{DriveRecord, RecordRange}
use Rattle.drivefile.specs.File.{file_of, header_payload, items_block, part, sealed, unsealed}
use Rattle.drivefile.proofs.Codings.{Coding, byte, word, written_fit}
use Rattle.drivefile.proofs.Numbered.{block_of, block_of_both, blocks, numbered, sample_blocks}
use Rattle.drivefile.proofs.Parts.{all_part}
use Rattle.drivefile.proofs.Rows.{all_joined}
use Rattle.drivefile.proofs.SectionWords.{network_known, numbers, numbers_fit, section_known, turn_bytes}
use Rattle.std.proofs.lemmas.Bool.Decides.{nat_tests}

abbrev Byte : ℕ → Type 0
Byte b = b < 256

zeros_fit : (n : ℕ) → AllByRecursion Byte (replicate n 0)
zeros_fit n = recursion_from_All Byte (replicate n 0) (All-replicate Byte n 0 (omega arith))

half_fit : (n : ℕ) → AllByRecursion Byte (bytes2 n)
half_fit n = (omega arith, (omega arith, tt))

-- a block whose payload is bytes
sealed_fit : (kind b count : ℕ) (payload : List ℕ) → AllByRecursion Byte payload → AllByRecursion Byte (sealed kind b count payload)
sealed_fit kind b count payload h =
    let rest =
    All-append Byte (payload ++ replicate (502 - length payload) 0) (bytes2 (check_of (unsealed kind b count payload)))
    (All-append Byte payload (replicate (502 - length payload) 0) h (zeros_fit (502 - length payload))) (half_fit (check_of (unsealed kind b count payload))) in
    search arith

module _ (r : DriveRecord) (p : RecordRange r) where
  payload_fit : AllByRecursion Byte (header_payload r)
  payload_fit =
      let section = section_known r.section in
      let network = network_known r.network in
      (grind (arith, nat_tests), (omega (arith, p.exponent_to), (grind (arith, nat_tests), (omega (arith, p.workers_to), written_fit word (numbers r) (numbers_fit r p)))))

  items_fit : {q most : ℕ} {read : List ℕ → ℕ → ℕ} {write : ℕ → List ℕ} → Coding q most read write → (kind per from : ℕ) (xs : List ℕ) → AllByRecursion (λ x. x < most) xs → (b : ℕ) → AllByRecursion Byte (items_block kind per write from xs b)
  items_fit {write = write} c kind per from xs h b =
      sealed_fit kind b (length (part per xs (b - from))) (flat_map write (part per xs (b - from)))
      (written_fit c (part per xs (b - from)) (all_part _ per xs (b - from) h))

  block_fit : (b : ℕ) → AllByRecursion Byte (block_of r b)
  block_fit = block_of_both r (AllByRecursion Byte)
      (sealed_fit 1 0 0 (header_payload r) payload_fit)
      (items_fit word 2 125 1 r.samples p.sample_words)
      (items_fit byte 3 500 (1 + sample_blocks r) r.turns (turn_bytes r p))

  pub file_fit : AllByRecursion Byte (file_of r)
  file_fit = subst (AllByRecursion Byte) (sym (numbered r)) (all_joined Byte (block_of r) 0 (blocks r) (λ b l m. block_fit b))
