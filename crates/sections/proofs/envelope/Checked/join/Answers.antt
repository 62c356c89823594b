use Rattle.std.proofs.Common.{◌≡◌, arith, w32, w64, to_z, of_z}
use Rattle.std.proofs.lemmas.Int.{clamps, ints}
use Rattle.sections.specs.Envelope.{joined}
use Rattle.sections.proofs.envelope.Checked.join.Goals as goal

pub invariant_of-result : goal.invariant_of-result
invariant_of-result c = record { fall_from = omega (arith, ints, clamps); fall_to = omega (arith, ints, clamps) }

pub returns : goal.returns
returns c =
    let both = joined c.args.self.map c.args.second.map in
    let fall : to_z w64 (of_z w64 c.max.result) ≡ both.fall = omega (arith, ints, clamps) in
    let floor : to_z w32 (of_z w32 c.moved.result) ≡ both.floor = omega (arith, ints, clamps) in
    cc
