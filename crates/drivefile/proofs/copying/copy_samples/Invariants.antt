use Rattle.std.proofs.Common.{◌*◌}
use Rattle.drivefile.proofs.Rounds.{Copied}
use Rattle.drivefile.proofs.copying.copy_samples.Given as goal

-- each place so far holds its sample
abbrev pub invariant-loop-number : goal.invariant-loop-number
invariant-loop-number l = Copied l.blocks l.out (125 * l.number)
