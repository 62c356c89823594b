use Rattle.std.proofs.Common.{length, refl, arith}
use Rattle.std.proofs.lemmas.Result.{err_from_is_err_and}
use Rattle.drivefile.proofs.Blocks.{count_is, reading_is}
use Rattle.drivefile.proofs.Lengths.{legal}
use Rattle.drivefile.proofs.reader.test_file.Goals as goal

pub test_rest-requires-clause-most : goal.test_rest-requires-clause-most
test_rest-requires-clause-most c =
    let ok = c.in_ok-blocks.ensures in
    omega (arith, count_is _ _ ok.1, (legal (length c.args.file.now) ok.0).most)

pub returns-in_err-header-clause-value : goal.returns-in_err-header-clause-value
returns-in_err-header-clause-value c =
    let p = err_from_is_err_and c.from_residual-in_err-header.result c.from_residual-in_err-header.ensures.1 in
    rw (p.1, p.2, reading_is _ _ c.in_ok-blocks.ensures.1 c.in_ok-blocks.ensures.0, ← c.in_err-header.ensures.value) refl

pub returns-in_err-test_rest-clause-value : goal.returns-in_err-test_rest-clause-value
returns-in_err-test_rest-clause-value c =
    let p = err_from_is_err_and c.from_residual-in_err-test_rest.result c.from_residual-in_err-test_rest.ensures.1 in
    rw (p.1, p.2, reading_is _ _ c.in_ok-blocks.ensures.1 c.in_ok-blocks.ensures.0, ← c.in_ok-header.ensures.value, ← c.in_err-test_rest.ensures) refl

pub returns-clause-value : goal.returns-clause-value
returns-clause-value c = rw (reading_is _ _ c.in_ok-blocks.ensures.1 c.in_ok-blocks.ensures.0, ← c.in_ok-header.ensures.value, ← c.in_ok-test_rest.ensures) refl
