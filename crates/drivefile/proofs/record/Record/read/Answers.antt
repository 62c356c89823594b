use Rattle.std.proofs.Common.{◌≡◌, Ok, Err, sym, refl}
use Rattle.std.proofs.lemmas.Result.{err_from_is_err_and}
use Rattle.drivefile.specs.Reading.{reading}
use Rattle.drivefile.proofs.Theorems.{exact_err, exact_ok, header_read}
use Rattle.drivefile.proofs.record.Record.read.Goals as goal

pub returns-in_err-header : goal.returns-in_err-header
returns-in_err-header c =
    let p = err_from_is_err_and c.from_residual.result c.from_residual.ensures.1 in
    let read : reading c.args.file.now ≡ Err c.in_err-header.field-0.0 = sym c.in_err-header.ensures.value in
    rw (p.1, p.2) (record { cases = read; range = tt; exact = exact_err c.args.file.now _ _ _ read })

pub invariant_of-result : goal.invariant_of-result
invariant_of-result c =
    let read : reading c.args.file.now ≡ Ok c.in_ok-header.header = sym c.in_ok-header.ensures.value in
    record { is_read = read; in_range = header_read c.args.file.now (λ i. (c.type_inv.file i).fits) c.in_ok-header.header read }

pub returns : goal.returns
returns c =
    let read : reading c.args.file.now ≡ Ok c.in_ok-header.header = sym c.in_ok-header.ensures.value in
    record {
      cases = (refl, read);
      range = header_read c.args.file.now (λ i. (c.type_inv.file i).fits) c.in_ok-header.header read;
      exact = exact_ok c.args.file.now (λ i. (c.type_inv.file i).fits) _ _ _ read refl;
    }
