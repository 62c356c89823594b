use Rattle.std.proofs.Common.{◌≡◌, ◌++◌, take, drop}
use Rattle.sections.specs.Recursion.{words_of}
use Rattle.sections.proofs.recursion.run.Given as goal

-- the words so far, and then those of the samples to come, are all the words
abbrev pub invariant-loop-sample : goal.invariant-loop-sample
invariant-loop-sample g l =
    let words = words_of g.S.Section.meaning l.params in
    take l.sample-index l.samples ++ words l.state (drop l.sample-index l.samples) ≡ words l.initial.state l.initial.samples
