use Rattle.std.proofs.Common.{◌≡◌, ℕ, List, length, ◌+◌, ◌-◌, ◌*◌, ◌<◌, ◌/◌, [], get_or, sym, refl, subst, ap, ◌∙◌, arith, take, drop}
use Rattle.std.proofs.lemmas.List.{get_or-take, length-drop, length-take, take_all}
use Rattle.drivefile.specs.Items.{block_words, samples_in}
use Rattle.drivefile.proofs.Rounds.{Copied, copied_last, copied_more}
use Rattle.drivefile.proofs.copying.copy_samples.Goals as goal

pub loop-number-preserved : goal.loop-number-preserved
loop-number-preserved c =
    let blocks = c.args.blocks.now in
    let b = c.loop-number.number in
    let full = length c.args.out.now / 125 in
    let within : b < full = omega (arith, c.loop-number-test.true, length-take full blocks) in
    let words = block_words (get_or blocks b []) in
    copied_more blocks c.loop-number.out c.copy_from_slice.new.self b _ 125 (omega arith) (omega (arith, within, c.loop-number.auto.out))
    (c.copy_from_slice.ensures.after ∙ c.block_words.ensures ∙ ap block_words (get_or-take full blocks b [] within) ∙ sym (take_all 125 words (omega arith)))
    c.loop-number.invariant (125 * (b + 1)) (omega arith)

-- the words of block i, where i is b
words_at : (blocks : List (List ℕ)) (block words : List ℕ) (i b : ℕ) → words ≡ block_words block → block ≡ get_or blocks i [] → i ≡ b → words ≡ block_words (get_or blocks b [])
words_at blocks block words i b is here e = is ∙ ap block_words (here ∙ ap (λ k. get_or blocks k []) e)

pub returns-in-Some : goal.returns-in-Some
returns-in-Some c =
    let blocks = c.args.blocks.now in
    let out = c.loop-number.out in
    let full = length c.args.out.now / 125 in
    let long = c.loop-number.auto.out in
    let rest = length out - 125 * full in
    let all : c.loop-number.number ≡ full = omega (arith, c.requires, c.loop-number.auto.number-end, c.loop-number-test.false, length-take full blocks) in
    let count : length (take rest (drop (125 * full) out)) ≡ rest = omega (arith, length-take rest (drop (125 * full) out), length-drop (125 * full) out) in
    copied_last blocks out c.copy_from_slice-in-Some.new.self full rest rest (omega (arith, long)) (omega (arith, long))
    (c.copy_from_slice-in-Some.ensures.after
    ∙ ap (λ k. take k c.block_words-in-Some.result) count
    ∙ ap (take rest) (words_at blocks _ _ _ full c.block_words-in-Some.ensures (c.in-Some.ensures.lookup.3.1 []) (omega (arith, c.requires, c.in-Some.ensures.lookup.3))))
    (subst (λ b. Copied blocks out (125 * b)) all c.loop-number.invariant) (omega (arith, long)) refl
    ∙ ap (samples_in blocks) long
