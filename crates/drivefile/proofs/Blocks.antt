-- A file as the list of its blocks: the same tests in the same order.
use Rattle.std.proofs.Common.{◌≡◌, ℕ, ◌-◌, ◌/◌, ◌<◌, true, List, [], length, get_or, Ok, sym, ap, ◌∙◌, arith}
use Rattle.std.specs.Simd.{first_chunks}
use Rattle.drivefile.specs.Bytes.{block_at}
use Rattle.drivefile.specs.Header.{header_of}
use Rattle.drivefile.specs.Reading.{later_block, later_test, legal_length, reading, rest_test}
use Rattle.drivefile.specs.Tests.{and_then, each_of}
use Rattle.drivefile.specs.declared.header.Header.{Header}
use Rattle.drivefile.proofs.Chunks.{chunk_at, length_chunks}
use Rattle.drivefile.proofs.Lengths.{legal}
use Rattle.drivefile.proofs.Rounds.{each_same}

module _ (file : List ℕ) (blocks : List (List ℕ)) (is : blocks ≡ first_chunks 512 (length file / 512) file) where
  pub count_is : length blocks ≡ length file / 512
  count_is = ap length is ∙ length_chunks 512 (length file / 512) file

  pub block_is : (b : ℕ) (d : List ℕ) → b < length file / 512 → get_or blocks b d ≡ block_at file b
  block_is b d less = ap (λ bs. get_or bs b d) is ∙ chunk_at 512 (length file / 512) b file d less

  -- the tests of a file of a legal length are those of its blocks
  pub reading_is : legal_length (length file) ≡ true → reading file ≡ and_then (header_of (length blocks) (get_or blocks 0 [])) (λ h. and_then (rest_test h blocks) (λ _. Ok h))
  reading_is e =
      let some = (legal (length file) e).some in
      let header : header_of (length blocks) (get_or blocks 0 []) ≡ header_of (length file / 512) (block_at file 0) = λ i. header_of (count_is i) (block_is 0 [] (omega arith) i) in
      let rest : (h : Header) → rest_test h blocks ≡ each_of (later_test h file) 1 (length file / 512 - 1) = λ h.
      ap (λ n. each_of (λ b. later_block h b (get_or blocks b [])) 1 (n - 1)) count_is
      ∙ each_same _ (later_test h file) 1 (length file / 512 - 1) (λ b l m. ap (later_block h b) (block_is b [] (omega arith))) in
      rw e (λ i. and_then (sym header i) (λ h. and_then (sym (rest h) i) (λ _. Ok h)))
