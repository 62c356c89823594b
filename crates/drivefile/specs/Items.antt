-- Where a record's samples and turns lie in its file.
use Rattle.std.specs.Prelude.{ℕ, ◌+◌, ◌*◌, ◌/◌, ◌%◌, cond, List, [], ◌++◌, map, length, drop, Some, None, Ok, Err, Option, Result, nat_le, nat_lt, slice_index, slice_index_or}
use Rattle.std.specs.List.{range_with_len}
use Rattle.faults.specs.declared.run.RunFault.{RunFault}
use Rattle.faults.specs.declared.run.RunFault.TheVariants.{Memory}
use Rattle.drivefile.specs.Bytes.{le32}
use Rattle.drivefile.specs.Header.{blocks_for}
use Rattle.drivefile.specs.declared.header.Header.{Header}

-- sample i: the word i modulo 125 of the payload of block 1 + i / 125
abbrev pub sample_place : ℕ → ℕ
sample_place i = 512 * (1 + i / 125) + 8 + 4 * (i % 125)

abbrev pub sample_at : List ℕ → ℕ → ℕ
sample_at file i = le32 file (sample_place i)

-- all n samples, in order
abbrev pub samples_of : List ℕ → ℕ → List ℕ
samples_of file n = map (sample_at file) (range_with_len 0 n)

-- the words of a block's payload; sample i, and n samples, by the blocks that hold them. For the steps of copying; no public
-- contract cites these.
abbrev pub block_words : List ℕ → List ℕ
block_words bs = map (λ i. le32 bs (8 + 4 * i)) (range_with_len 0 125)

abbrev pub sample_in : List (List ℕ) → ℕ → ℕ
sample_in blocks i = le32 (slice_index_or blocks (i / 125) []) (8 + 4 * (i % 125))

abbrev pub samples_in : List (List ℕ) → ℕ → List ℕ
samples_in blocks n = map (sample_in blocks) (range_with_len 0 n)

-- a list is long enough for the samples, or refused
abbrev pub copying : Header → List ℕ → Result (Unit {0}) RunFault
copying h out = cond (nat_le h.samples (length out)) (Ok tt) (Err Memory)

-- the list after that: the samples at its front and its other places as they were, or all as it was
abbrev pub copied : Header → List ℕ → List ℕ → List ℕ
copied h file out = cond (nat_le h.samples (length out)) (samples_of file h.samples ++ drop h.samples out) out

-- a list has n places, or is refused
abbrev pub room_for : ℕ → List ℕ → Result (Unit {0}) RunFault
room_for n out = cond (nat_le n (length out)) (Ok tt) (Err Memory)

-- the list after that: n words at its front and its other places as they were, or all as it was
abbrev pub put_front : ℕ → List ℕ → List ℕ → List ℕ
put_front n words out = cond (nat_le n (length out)) (words ++ drop n out) out

-- turn i: the byte i modulo 500 of the payload of block i / 500 after the samples' blocks
abbrev pub turn_place : ℕ → ℕ → ℕ
turn_place samples i = 512 * (1 + blocks_for samples 125 + i / 500) + 8 + i % 500

-- all n turns after the blocks of so many samples, in order
abbrev pub turns_of : List ℕ → ℕ → ℕ → List ℕ
turns_of file samples n = map (λ i. slice_index file (turn_place samples i)) (range_with_len 0 n)

-- the worker of turn i, or none from the number of turns on
abbrev pub turn_at : List ℕ → Header → ℕ → Option ℕ
turn_at file h i = cond (nat_lt i h.turns) (Some (slice_index file (turn_place h.samples i))) None
