use Rattle.std.proofs.Common.{rules, ◌≡◌, ◌≤◌, ◌<◌, get_or, ℕ, zero, suc, ◌+◌, ◌*◌, List, map, arith, refl, sym, subst, ◌∙◌, ⊎_elim}
use denote.Param.Members.{Mut, Called}
use Rattle.std.specs.Array.{IsFromFnResult, IsFromFnResultFrom}
use Rattle.std.specs.List.{range_with_len}
use Rattle.std.proofs.lemmas.List.FromFn.{fill_by_all}
use Rattle.std.proofs.lemmas.Bool.{cases_eq}
use Rattle.drivefile.specs.Bytes.{le32}
use Rattle.drivefile.proofs.copying.block_words.Goals as goal

-- what a closure made, of which each call gives h of its argument while P holds of the closure
module _ {F : Type 0} {g : Mut F (ℕ × Unit {0}) ℕ} (P : F → Type 0) (h : ℕ → ℕ) (step : (f q : F) (i y : ℕ) → P f → Called g f (i, tt) y q → (y ≡ h i) × P q) where
  made_each : (ys : List ℕ) (f : F) (i n : ℕ) → P f → IsFromFnResultFrom g f ys i n → (k : ℕ) → i ≤ k → k < i + n → get_or ys k 0 ≡ h k
  made_each ys f i zero p m k from below = absurd (omega (arith, from, below))
  made_each ys f i (suc n) p (q, y, at, called, more) k from below =
      let here = step f q i y p called in
      ⊎_elim
      (λ e. subst (λ j. get_or ys j 0 ≡ h j) (sym e) (at.1 0 ∙ here.0))
      (λ e. made_each ys q (i + 1) n here.1 more k (omega (arith, from, e)) (omega (arith, below)))
      (cases_eq k i)

  made_by : {f : F} {ys : List ℕ} {n : ℕ} → P f → IsFromFnResult g f ys n → ys ≡ map h (range_with_len 0 n)
  made_by {f} {ys} {n} p m = fill_by_all h ys n 0 m.long (λ k l. made_each ys f 0 n p m.each k (omega arith) (omega (arith, l)))

pub returns : goal.returns
returns c = made_by (λ f. f.0.now ≡ c.args.block.now) (λ i. le32 c.args.block.now (8 + 4 * i)) (λ f q i y p e. search (rules, p, e.met)) refl c.from_fn.ensures.items
