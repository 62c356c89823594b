-- Numbers in bytes, little-endian. A byte past the end of a list counts as 0.
use Rattle.std.specs.Prelude.{ℕ, ◌+◌, ◌*◌, ◌/◌, ◌%◌, List, [], ◌∷◌, take, drop, slice_index}

-- the 16-bit number at place i
abbrev pub le16 : List ℕ → ℕ → ℕ
le16 bs i = slice_index bs i + 256 * slice_index bs (i + 1)

-- the 32-bit number at place i
abbrev pub le32 : List ℕ → ℕ → ℕ
le32 bs i = slice_index bs i + 256 * slice_index bs (i + 1) + 65536 * slice_index bs (i + 2) + 16777216 * slice_index bs (i + 3)

-- block b of a file: its 512 bytes from 512 × b on
abbrev pub block_at : List ℕ → ℕ → List ℕ
block_at file b = take 512 (drop (512 * b) file)

-- a number as its two, and as its four, lowest bytes
abbrev pub bytes2 : ℕ → List ℕ
bytes2 n = n % 256 ∷ n / 256 % 256 ∷ []

abbrev pub bytes4 : ℕ → List ℕ
bytes4 n = n % 256 ∷ n / 256 % 256 ∷ n / 65536 % 256 ∷ n / 16777216 % 256 ∷ []
