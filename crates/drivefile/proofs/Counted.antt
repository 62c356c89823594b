-- A file that is read has as many blocks as its header's counts need.
use Rattle.std.proofs.Common.{◌≡◌, ℕ, ◌-◌, ◌/◌, List, ◌++◌, length, get_or, Ok, sym, ◌∙◌}
use Rattle.std.specs.List.{range_with_len, flat_map}
use Rattle.std.proofs.lemmas.Bool.{eqb-true}
use Rattle.drivefile.specs.Bytes.{block_at, le32}
use Rattle.drivefile.specs.Header.{header_due, needed}
use Rattle.drivefile.specs.Order.{Passes, block_tests, header_tests, later_tests, value_tests}
use Rattle.drivefile.specs.Reading.{reading}
use Rattle.drivefile.specs.declared.header.Header.{Header}
use Rattle.drivefile.proofs.Ordered.{header_of_block, ordered_ok}
use Rattle.drivefile.proofs.Rows.{all_split}

pub counted : (file : List ℕ) (h : Header) → reading file ≡ Ok h → length file / 512 ≡ needed h.samples h.turns
counted file h read =
    let here = block_at file 0 in
    let blocks = length file / 512 in
    let values = header_of_block file h read in
    let later = flat_map (λ b. later_tests (le32 here 12) (le32 here 16) (get_or here 11 0) b (block_at file b)) (range_with_len 1 (blocks - 1)) in
    let front = all_split Passes (block_tests 0 header_due here ++ header_tests blocks here) later (ordered_ok file h read).1 in
    let header = all_split Passes (block_tests 0 header_due here) (header_tests blocks here) front.0 in
    let last = all_split Passes (value_tests (get_or here 8 0) (le32 here 20) (le32 here 24) (le32 here 28)) _ header.1.1.1.1.1.1.1 in
    eqb-true _ _ last.1.0 ∙ (λ i. needed (sym values.samples_are i) (sym values.turns_are i))
