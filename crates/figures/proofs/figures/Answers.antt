use Rattle.std.proofs.Common.{refl, arith}
use Rattle.drivefile.specs.Block.{first_from, weighted_sum}
use Rattle.drivefile.specs.Record.{RecordRange}
use Rattle.figures.specs.Figures.{tunnel}
use Rattle.figures.proofs.figures.Goals as goal

in_range : RecordRange tunnel
in_range = record {
  exponent_from = omega arith;
  exponent_to = omega arith;
  workers_from = omega arith;
  workers_to = omega arith;
  samples_to = omega arith;
  turns_to = omega arith;
  section_values = refl;
  sample_words = (omega arith, (omega arith, (omega arith, (omega arith, (omega arith, tt)))));
  turn_workers = (omega arith, (omega arith, (omega arith, (omega arith, (omega arith, (omega arith, (omega arith, (omega arith, (omega arith, (omega arith, (omega arith, (omega arith, tt))))))))))));
}

pub returns : goal.returns
unfolding weighted_sum first_from
returns c = record {
  check = refl;
  tunnel_range = in_range;
  tunnel_bytes = refl;
  rolling_header = refl;
  pushing_header = refl;
  damaged = refl;
  cut = refl;
}
