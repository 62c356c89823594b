use Rattle.std.proofs.Common.{arith}
use Rattle.std.proofs.lemmas.Int.{clamps, ints}
use Rattle.sections.proofs.stroke.Checked.moved.Goals as goal

pub returns : goal.returns
returns c = omega (arith, ints, clamps)
