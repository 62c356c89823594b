-- What a record's calls read in the blocks is what its definitions read in the file; and what they give by its header's
-- counts is what they give by the record.
use Rattle.std.proofs.Common.{◌≡◌, ℕ, cond, nat_lt, Some, None, ◌+◌, ◌*◌, ◌/◌, ◌%◌, ◌<◌, ◌≤◌, List, [], ◌++◌, length, take, drop, get_or, sym, ap, ◌∙◌, arith}
use Rattle.std.specs.Simd.{first_chunks}
use Rattle.std.proofs.lemmas.List.{get_or-drop, get_or-take, length-take}
use Rattle.std.proofs.lemmas.List.FromFn.{fill_by_all, get_or-map-range_with_len, length-map-range_with_len}
use Rattle.std.proofs.lemmas.Bool.{cond-true, cond_below, le-leb}
use Rattle.std.proofs.lemmas.Bool.Decides.{nat_tests}
use Rattle.drivefile.specs.Bytes.{le32}
use Rattle.drivefile.specs.Header.{blocks_for}
use Rattle.drivefile.specs.Items.{copied, put_front, room_for, sample_at, sample_in, samples_in, samples_of, turn_at, turn_place, turns_of}
use Rattle.drivefile.specs.Record.{copied_record, copying_record, recorded, turn_of}
use Rattle.drivefile.specs.declared.header.Header.{Header}
use Rattle.drivefile.proofs.Blocks.{block_is, count_is}

module _ (file : List ℕ) (blocks : List (List ℕ)) (is : blocks ≡ first_chunks 512 (length file / 512) file) where
  -- byte i of block b
  pub byte_is : (b i p : ℕ) → b < length blocks → i < 512 → 512 * b + i ≡ p → get_or (get_or blocks b []) i 0 ≡ get_or file p 0
  byte_is b i p inside less place =
      ap (λ bs. get_or bs i 0) (block_is file blocks is b [] (omega (arith, inside, count_is file blocks is)))
      ∙ get_or-take 512 (drop (512 * b) file) i 0 less
      ∙ get_or-drop (512 * b) file i 0
      ∙ ap (λ k. get_or file k 0) place

  -- the word there
  word_is : (b i p : ℕ) → b < length blocks → i + 4 ≤ 512 → 512 * b + i ≡ p → le32 (get_or blocks b []) i ≡ le32 file p
  word_is b i p inside less place =
      let byte = λ (k : ℕ) (l : k < 4). byte_is b (i + k) (p + k) inside (omega arith) (omega arith) in
      λ j. byte_is b i p inside (omega arith) place j + 256 * byte 1 (omega arith) j + 65536 * byte 2 (omega arith) j + 16777216 * byte 3 (omega arith) j

  -- n samples, from the blocks that hold them, or more
  pub samples_are : (n m : ℕ) → blocks_for n 125 ≤ m → 1 + blocks_for n 125 ≤ length blocks → samples_in (take m (drop 1 blocks)) n ≡ samples_of file n
  samples_are n m enough inside =
      let part = take m (drop 1 blocks) in
      fill_by_all (sample_at file) (samples_in part n) n 0 (length-map-range_with_len (sample_in part) 0 n) (λ i less.
      get_or-map-range_with_len (sample_in part) 0 n i i 0 less (omega arith)
      ∙ ap (λ bs. le32 bs (8 + 4 * (i % 125))) (get_or-take m (drop 1 blocks) (i / 125) [] (omega arith) ∙ get_or-drop 1 blocks (i / 125) [])
      ∙ word_is (1 + i / 125) (8 + 4 * (i % 125)) _ (omega arith) (omega arith) (omega arith))

  module _ (n m : ℕ) (out got : List ℕ) (is_got : got ≡ samples_in (take m (drop 1 blocks)) (length (take n out))) (long : n ≤ length out) (enough : blocks_for n 125 ≤ m) (inside : 1 + blocks_for n 125 ≤ length blocks) where
    -- what is copied is put to the front of a list
    pub copied_are : got ++ drop n out ≡ put_front n (samples_of file n) out
    copied_are =
        let count : length (take n out) ≡ n = omega (arith, length-take n out) in
        ap (λ s. s ++ drop n out) (is_got ∙ ap (samples_in (take m (drop 1 blocks))) count ∙ samples_are n m enough inside) ∙ sym (cond-true _ _ _ (le-leb n (length out) long))

    pub copied_record_are : got ++ drop n out ≡ put_front (length (samples_of file n)) (samples_of file n) out
    copied_record_are = copied_are ∙ ap (λ k. put_front k (samples_of file n) out) (sym (length-map-range_with_len (sample_at file) 0 n))

  module _ (n turns i b p : ℕ) (block_there : b ≡ 1 + blocks_for n 125 + i / 500) (inside : b < length blocks) (place : p ≡ 8 + i % 500) (counted : i < turns) where
    -- what is read is the turn of that number
    pub turn_read : Some (get_or (get_or blocks b []) p 0) ≡ cond (nat_lt i turns) (Some (get_or file (turn_place n i) 0)) None
    turn_read = ap Some (byte_is b p _ inside (omega arith) (omega arith)) ∙ cond_below i turns _ _ counted

    pub turn_record_read : Some (get_or (get_or blocks b []) p 0) ≡ cond (nat_lt i (length (turns_of file n turns))) (Some (get_or (turns_of file n turns) i 0)) None
    turn_record_read =
        turn_read
        ∙ ap (λ t. cond (nat_lt i turns) (Some t) None) (sym (get_or-map-range_with_len (λ k. get_or file (turn_place n k) 0) 0 turns i i 0 counted (omega arith)))
        ∙ ap (λ k. cond (nat_lt i k) (Some (get_or (turns_of file n turns) i 0)) None) (sym (length-map-range_with_len (λ k. get_or file (turn_place n k) 0) 0 turns))

-- a record's lists have as many items as its header counts
pub ruleset counts = (nat_tests, length-map-range_with_len)

-- and copying gives its samples
pub ruleset copies = (counts, copied_are, copied_record_are)

-- and its turns are read
pub ruleset reads = (counts, turn_read, turn_record_read)

module _ (file : List ℕ) (h : Header) where
  pub same_copying : (out : List ℕ) → room_for h.samples out ≡ copying_record (recorded file h) out
  same_copying out = ap (λ n. room_for n out) (sym (length-map-range_with_len (sample_at file) 0 h.samples))

  pub same_copied : (out : List ℕ) → copied h file out ≡ copied_record (recorded file h) out
  same_copied out = ap (λ n. put_front n (samples_of file h.samples) out) (sym (length-map-range_with_len (sample_at file) 0 h.samples))

  pub same_turn : (i : ℕ) → turn_at file h i ≡ turn_of (recorded file h) i
  same_turn i = grind (arith, counts, get_or-map-range_with_len)
