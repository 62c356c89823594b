use Rattle.std.proofs.Common.{◌≡◌, Ok, sym, ap, ◌∙◌}
use Rattle.drivefile.specs.Items.{copied, copying}
use Rattle.evaluation.specs.Evaluated.{worded}
use Rattle.evaluation.proofs.Lists.{words_left}
use Rattle.evaluation.proofs.words.put_words.Goals as goal

pub returns : goal.returns
returns c =
    let h = c.header-header.result in
    let file = c.args.source.now.file.now in
    let out = c.args.out.now in
    let same = sym c.header-header.ensures in
    let room : Ok tt ≡ copying h out = c.in_ok-samples.ensures.value ∙ ap (λ k. copying k out) same in
    let mid = c.samples.ensures.after ∙ ap (λ k. copied k file out) same in
    let words = words_left h out room file c.samples.new.out c.run_section.new.samples mid c.run_section.ensures.after in
    record {
      value = c.in_ok-samples.ensures.value;
      after = words ∙ ap (λ k. worded k file out) (sym same);
    }
