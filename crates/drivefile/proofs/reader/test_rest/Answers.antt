use Rattle.std.proofs.Common.{◌≡◌, ℕ, ◌+◌, ◌-◌, ◌<◌, List, [], length, take, drop, slice_index_or, get_or, Result, sym, ap, ◌∙◌, arith, rules}
use Rattle.std.proofs.lemmas.Simd.{get_or-chunk}
use Rattle.faults.specs.declared.record.RecordFault.{RecordFault}
use Rattle.drivefile.specs.Reading.{later_block}
use Rattle.drivefile.specs.declared.header.Header.{Header}
use Rattle.drivefile.proofs.Rounds.{each_here, each_more}
use Rattle.drivefile.proofs.reader.test_rest.Goals as goal

-- the test of block b of a list
abbrev of_block : Header → List (List ℕ) → ℕ → Result (Unit {0}) RecordFault
of_block h blocks b = later_block h b (slice_index_or blocks b [])

-- a block of the rest is the next one of all
tail : (h : Header) (blocks : List (List ℕ)) (i : ℕ) → i < length blocks - 1
    → later_block h (i + 1) (slice_index_or (take (length blocks - 1) (drop 1 blocks)) i []) ≡ of_block h blocks (i + 1)
tail h blocks i less = ap (later_block h (i + 1)) (get_or-chunk 1 (length blocks - 1) blocks i [] less ∙ ap (λ k. get_or blocks k []) (omega arith))

pub returns-in_err-test_later : goal.returns-in_err-test_later
returns-in_err-test_later c =
    let e = tail c.args.header c.args.blocks.now c.loop-i.i (omega arith) in
    let f = each_here (of_block c.args.header c.args.blocks.now) (c.loop-i.i + 1) (length c.args.blocks.now) c.in_err-test_later.field-0.0 (omega arith) (sym (c.in_err-test_later.ensures ∙ e)) in
    search rules

pub loop-i-preserved : goal.loop-i-preserved
loop-i-preserved c =
    let e = tail c.args.header c.args.blocks.now c.loop-i.i (omega arith) in
    sym (each_more (of_block c.args.header c.args.blocks.now) (c.loop-i.i + 1) (length c.args.blocks.now) (omega arith) (sym (c.in_ok-test_later.ensures ∙ e))) ∙ c.loop-i.invariant
