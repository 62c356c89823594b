use Rattle.std.proofs.Common.{◌≡◌, ◌∙◌, w32, SFits, rules}
use Rattle.std.proofs.lemmas.Int.{to_z-of_z}
use Rattle.sections.specs.Recursion.{words}
use Rattle.sections.specs.Stroke.{shown, step, stops_fault}
use Rattle.sections.specs.declared.stroke.Stops.{Stops}
use Rattle.sections.specs.Made.{made_is}
use Rattle.evaluation.proofs.words.run_section.Goals as goal

pub returns-in_ok-new-in-Stroke-clause-after : goal.returns-in_ok-new-in-Stroke-clause-after
returns-in_ok-new-in-Stroke-clause-after c =
    let s : SFits w32 c.in-Stroke.start = search rules in
    let l : SFits w32 c.in-Stroke.lower = search rules in
    let u : SFits w32 c.in-Stroke.upper = search rules in
    let made = simp (to_z-of_z w32 _ l, to_z-of_z w32 _ u) at c.in_ok-new-in-Stroke.ensures in
    let stops = made_is (stops_fault c.in-Stroke.lower c.in-Stroke.upper) c.in_ok-new-in-Stroke.field-0
    (λ (p : Stops). (p.lower ≡ c.in-Stroke.lower) × (p.upper ≡ c.in-Stroke.upper)) made in
    let ran = simp (to_z-of_z w32 _ s) at c.run.ensures in
    rw c.in-Stroke.is (ran ∙ (λ i. words (step (stops.0 i) (stops.1 i)) shown c.in-Stroke.start c.args.samples.now))
