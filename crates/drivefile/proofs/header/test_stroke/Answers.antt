use Rattle.std.proofs.Common.{◌≡◌, true, ℤ, ◌≤ℤ◌, pos, neg_ℤ, is_le, int_cmp, w32, arith, rules}
use Rattle.std.proofs.lemmas.Grind.{common_steps}
use Rattle.std.proofs.lemmas.Int.{ints, to_z-of_z}
use Rattle.sections.specs.Range.{within}
use Rattle.sections.specs.Ranges.{true_within}
use Rattle.sections.specs.Stroke.{reach}
use Rattle.drivefile.proofs.Values.{no_fault}
use Rattle.drivefile.proofs.header.test_stroke.Goals as goal

-- a bound that the range test lets through holds
bound : (a b : ℤ) → is_le (int_cmp a b) ≡ true → a ≤ℤ b
bound a b h = grind (arith, ints)

pub returns-in_err-new : goal.returns-in_err-new
returns-in_err-new c = grind (arith, common_steps)

pub returns : goal.returns
returns c =
    let h = simp (to_z-of_z w32 c.args.lower c.ranges.lower, to_z-of_z w32 c.args.upper c.ranges.upper) at c.in_ok-new.ensures in
    let r = simp (to_z-of_z w32 c.args.start c.ranges.start) at c.if-not-contains.ensures.cases in
    let from = bound c.new.result.start c.args.start r.0 in
    let to = bound c.args.start c.new.result.end r.1 in
    let w : within (neg_ℤ (pos reach)) (pos reach) c.args.start ≡ true = true_within (neg_ℤ (pos reach)) (pos reach) c.args.start (record { from = omega (arith, ints); to = omega (arith, ints) }) in
    search (rules, no_fault)
