-- The file of a record, byte by byte.
use Rattle.std.specs.Prelude.{ℕ, ◌+◌, ◌-◌, ◌*◌, List, [], ◌∷◌, ◌++◌, length, take, drop, replicate}
use Rattle.std.specs.Int.{w32}
use Rattle.std.proofs.Common.{of_z}
use Rattle.std.specs.List.{range_with_len, flat_map}
use Rattle.drivefile.specs.Block.{check_of}
use Rattle.drivefile.specs.Bytes.{bytes2, bytes4}
use Rattle.drivefile.specs.Header.{blocks_for}
use Rattle.drivefile.specs.Record.{DriveRecord}
use Rattle.drivefile.specs.declared.header.NetworkChoice.{NetworkChoice}
use Rattle.drivefile.specs.declared.header.NetworkChoice.TheVariants as network
use Rattle.drivefile.specs.declared.header.SectionChoice.{SectionChoice}
use Rattle.drivefile.specs.declared.header.SectionChoice.TheVariants as section

-- a block up to its check: kind, number, item count, two zero bytes, the payload, zeros up to byte 509
abbrev pub unsealed : ℕ → ℕ → ℕ → List ℕ → List ℕ
unsealed kind b count payload =
    bytes2 kind ++ bytes2 b ++ bytes2 count ++ bytes2 0 ++ payload ++ replicate (502 - length payload) 0

-- a block: the check is its last two bytes
abbrev pub sealed : ℕ → ℕ → ℕ → List ℕ → List ℕ
sealed kind b count payload = unsealed kind b count payload ++ bytes2 (check_of (unsealed kind b count payload))

-- byte 8, and byte 10, of the header
abbrev pub section_number : SectionChoice → ℕ
section_number (section.Stroke start lower upper) = 1
section_number (section.Roll start c) = 2
section_number (section.Envelope start d) = 3

abbrev pub network_number : NetworkChoice → ℕ
network_number network.Serial = 1
network_number network.KoggeStone = 2

-- the start state, the lower stop or c or d, the upper stop or 0
abbrev pub value_words : SectionChoice → List ℕ
value_words (section.Stroke start lower upper) = of_z w32 start ∷ of_z w32 lower ∷ of_z w32 upper ∷ []
value_words (section.Roll start c) = start ∷ c ∷ 0 ∷ []
value_words (section.Envelope start d) = of_z w32 start ∷ d ∷ 0 ∷ []

-- bytes 8 to 31 of block 0: section, k, network, W, N, the number of turns, the section's values
abbrev pub header_payload : DriveRecord → List ℕ
header_payload r =
    section_number r.section ∷ r.exponent ∷ network_number r.network ∷ r.workers
    ∷ flat_map bytes4 (length r.samples ∷ length r.turns ∷ value_words r.section)

-- the items from number j × `per` on, `per` of them or those that are left
abbrev pub part : ℕ → List ℕ → ℕ → List ℕ
part per items j = take per (drop (per * j) items)

-- block b of a kind whose blocks start with block `from`
abbrev pub items_block : ℕ → ℕ → (ℕ → List ℕ) → ℕ → List ℕ → ℕ → List ℕ
items_block kind per bytes from items b =
    sealed kind b (length (part per items (b - from))) (flat_map bytes (part per items (b - from)))

-- the blocks of a kind, `per` items a block: none where there is no item
abbrev pub items_blocks : ℕ → ℕ → (ℕ → List ℕ) → ℕ → List ℕ → List ℕ
items_blocks kind per bytes from items =
    flat_map (items_block kind per bytes from items) (range_with_len from (blocks_for (length items) per))

-- the header, the samples of four bytes, 125 a block, then the turns of one byte, 500 a block
abbrev pub file_of : DriveRecord → List ℕ
file_of r =
    sealed 1 0 0 (header_payload r)
    ++ items_blocks 2 125 bytes4 1 r.samples
    ++ items_blocks 3 500 (λ w. w ∷ []) (1 + blocks_for (length r.samples) 125) r.turns
