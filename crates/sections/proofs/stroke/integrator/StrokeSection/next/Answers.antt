use Rattle.std.proofs.Common.{arith}
use Rattle.std.proofs.lemmas.Int.{clamps, ints, to_z-of_z}
use Rattle.sections.proofs.stroke.integrator.StrokeSection.next.Goals as goal

pub returns : goal.returns
returns c = let fits = c.ranges.state in let state = simp to_z-of_z at c.read_state.ensures in omega (arith, ints, clamps)
