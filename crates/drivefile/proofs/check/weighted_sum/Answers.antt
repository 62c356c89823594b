use Rattle.std.proofs.Common.{refl, arith}
use Rattle.std.proofs.lemmas.Grind.{common_steps}
use Rattle.drivefile.proofs.Columns.{column_fits, column_more, lanes, number_at, total_fits, whole_column, whole_sum}
use Rattle.drivefile.proofs.check.weighted_sum.Goals as goal

pub add-requires : goal.add-requires
add-requires c =
    let sums = column_fits c.args.block.now c.fits-block c.loop-row.row-index c.loop-j.j in
    let totals = total_fits c.args.block.now c.fits-block c.loop-row.row-index c.loop-j.j (omega arith) in
    grind (arith, common_steps)

pub loop-j-preserved : goal.loop-j-preserved
loop-j-preserved c =
    let number = number_at c.args.block.now c.as_chunks.result.0.now c.loop-row.row-index c.loop-j.j c.told-block c.as_chunks.ensures.front (omega arith) c.loop-j-test.true in
    grind (arith, common_steps, column_more)

pub loop-j-2-init : goal.loop-j-2-init
unfolding lanes
loop-j-2-init c = record {
  summed = refl;
  whole = λ i h. whole_column c.args.block.now c.loop-row.row-index i _ c.fits-block (omega arith) h (c.loop-row.invariant.summed i h);
}

pub overflow_sub-result : goal.overflow_sub-result
overflow_sub-result c = omega (arith, whole_sum)

pub returns : goal.returns
returns c = omega (arith, whole_sum)
