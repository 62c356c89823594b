use Rattle.std.proofs.Common.{◌≡◌, arith, w32, w64, to_z, of_z}
use Rattle.std.proofs.lemmas.Int.{clamps, ints}
use Rattle.sections.specs.Stroke.{joined, numbers}
use Rattle.sections.proofs.stroke.Checked.join.Goals as goal

pub invariant_of-result : goal.invariant_of-result
invariant_of-result c = record { lower_from = omega (arith, ints, clamps); lower_to = omega (arith, ints, clamps); upper_to = omega (arith, ints, clamps) }

pub returns : goal.returns
returns c =
    let both = joined (numbers c.args.self) (numbers c.args.second) in
    let add : to_z w64 (of_z w64 c.held.result) ≡ both.add = omega (arith, ints, clamps) in
    let low : to_z w32 (of_z w32 c.moved.result) ≡ both.low = omega (arith, ints, clamps) in
    let high : to_z w32 (of_z w32 c.moved-2.result) ≡ both.high = omega (arith, ints, clamps) in
    cc

pub invariant_of-result-2 : goal.invariant_of-result-2
invariant_of-result-2 c = record { add_from = omega (arith, ints, clamps); add_to = omega (arith, ints, clamps) }
