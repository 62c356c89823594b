use Rattle.std.proofs.Common.{arith}
use Rattle.std.proofs.lemmas.Int.{clamps, ints}
use Rattle.sections.specs.EnvelopeLaws.{read_fits}
use Rattle.sections.proofs.envelope.section.EnvelopeSection.next.Goals as goal

pub returns : goal.returns
returns c = let state = read_fits c.args.state c.ranges.state in omega (arith, ints, clamps)
