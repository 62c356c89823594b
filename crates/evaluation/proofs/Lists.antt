-- The list of words after an evaluation: the samples are copied to its front, then replaced by their words.
use Rattle.std.proofs.Common.{◌≡◌, ℕ, Bool, true, false, cond, leb, List, ◌++◌, length, take, drop, Ok, Err, refl, ap, ◌∙◌, arith}
use Rattle.std.proofs.lemmas.List.FromFn.{length-map-range_with_len}
use Rattle.std.proofs.lemmas.List.{drop_at, take_at}
use Rattle.faults.specs.declared.run.RunFault.{RunFault}
use Rattle.drivefile.specs.Items.{copied, copying, sample_at, samples_of}
use Rattle.drivefile.specs.declared.header.Header.{Header}
use Rattle.evaluation.specs.Evaluated.{section_words, worded}

passed : (b : Bool) (e : RunFault) (u : Unit {0}) → Ok u ≡ cond b (Ok u) (Err e) → b ≡ true
passed true e u h = refl
passed false e u h = absurd (let z : ◌≡◌ {A = ℕ} 0 1 = cc in omega arith)

module _ (h : Header) (out : List ℕ) (room : Ok tt ≡ copying h out) where
  long_enough : leb h.samples (length out) ≡ true
  long_enough = passed (leb h.samples (length out)) _ tt room

  -- the words in the place of the samples, and the places after them
  pub words_left : (file mid ws : List ℕ) → mid ≡ copied h file out → ws ≡ section_words h.section (take h.samples mid)
      → ws ++ drop h.samples mid ≡ worded h file out
  words_left file mid ws mid_is ws_is =
      let n = h.samples in
      let filled : mid ≡ samples_of file n ++ drop n out = rw long_enough at mid_is in
      let long = length-map-range_with_len (sample_at file) 0 n in
      let front : take n mid ≡ samples_of file n = ap (take n) filled ∙ take_at (samples_of file n) (drop n out) n long in
      let back : drop n mid ≡ drop n out = ap (drop n) filled ∙ drop_at (samples_of file n) (drop n out) n long in
      rw long_enough ((λ i. ws_is i ++ drop n mid) ∙ (λ i. section_words h.section (front i) ++ back i))
