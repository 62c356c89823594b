-- The nested tests of a result as one list: all pass, or the first that fails names the fault.
use Rattle.std.proofs.Common.{◌≡◌, ℕ, zero, suc, ◌+◌, Bool, true, false, cond, ltb, List, [], ◌∷◌, ◌++◌, map, get_or, IfOk, MatchResult, Some, None, Ok, Err, Option, Result, sym, refl, ap, ◌∙◌}
use Rattle.std.specs.List.{range_with_len, flat_map}
use Rattle.std.proofs.ByRecursion.{All-append}
use Rattle.std.proofs.lemmas.List.{append_assoc}
use Rattle.faults.specs.declared.block.BlockFault.{BlockFault}
use Rattle.faults.specs.declared.record.RecordFault.{RecordFault}
use Rattle.faults.specs.declared.record.RecordFault.TheVariants as fault
use Rattle.drivefile.specs.Block.{first_from}
use Rattle.drivefile.specs.Tests.{and_then, each_of, expect, lifted}
use Rattle.drivefile.specs.Order.{FirstOf, Passed, Passes, Test, test}

-- a result against a list of tests: all pass where it is Ok, and its fault is the first that fails
abbrev pub Ordered : {T : Type 0} → Result T RecordFault → List Test → Type 0
Ordered r ts = MatchResult r (λ _. Passed ts) (FirstOf ts)

-- all tests pass and P holds of the value, or the fault, as g names it, is the first
pub data Runs {T E : Type 0} (P : T → Type 0) (g : E → RecordFault) : Result T E → List Test → Type 0 where
  passed : {t : T} {ts : List Test} → P t → Passed ts → Runs P g (Ok t) ts
  failed : {e : E} {ts : List Test} → FirstOf ts (g e) → Runs P g (Err e) ts

-- of a value there is nothing to say
abbrev pub Any : {T : Type 0} → T → Type 0
Any t = Unit {0}

module _ {T E : Type 0} {P : T → Type 0} {g : E → RecordFault} where
  -- with no test there is only a value
  pub runs_ok : {t : T} → P t → Runs P g (Ok t) []
  runs_ok p = passed p tt

  -- tests that pass may stand before
  pub after_passed : {r : Result T E} {us : List Test} (ts : List Test) → Passed ts → Runs P g r us → Runs P g r (ts ++ us)
  after_passed ts h (passed {ts = us} p q) = passed p (All-append Passes ts us h q)
  after_passed ts h (failed {e} s) = failed (record {
    before = ts ++ s.before;
    after = s.after;
    here = ap (λ (l : List Test). ts ++ l) s.here ∙ sym (append_assoc ts s.before (test false (g e) ∷ s.after));
    held = All-append Passes ts s.before h s.held;
  })

  -- a test that fails names the fault, whatever comes after it
  pub runs_fails : (p : Bool) (e : E) (ts : List Test) → p ≡ false → Runs P g (Err e) (test p (g e) ∷ ts)
  runs_fails p e ts h = rw h (failed (record { before = []; after = ts; here = refl; held = tt }))

  -- one test more, in front
  pub runs_expect : (p : Bool) (e : E) {r : Result T E} {ts : List Test} → Runs P g r ts → Runs P g (expect p e r) (test p (g e) ∷ ts)
  runs_expect true e s = after_passed (test true (g e) ∷ []) (refl, tt) s
  runs_expect false e {ts = ts} s = runs_fails false e ts refl

  -- where p chooses a value, the test q passes
  pub runs_chosen : (p q : Bool) (t : T) (e : E) {r : Result T E} → (p ≡ true → P t × (q ≡ true)) → (p ≡ false → Runs P g r (test q (g e) ∷ [])) → Runs P g (cond p (Ok t) r) (test q (g e) ∷ [])
  runs_chosen true q t e h k = passed (h refl).0 ((h refl).1, tt)
  runs_chosen false q t e h k = k refl

  -- two results, and the tests of each
  pub runs_cond : (p : Bool) {r s : Result T E} {ts us : List Test} → Runs P g r ts → Runs P g s us → Runs P g (cond p r s) (cond p ts us)
  runs_cond true h k = h
  runs_cond false h k = k

  -- a result's tests, then those of what comes after it
  pub runs_then : {S : Type 0} (Q : S → Type 0) {r : Result S E} {ts us : List Test} (f : S → Result T E) → Runs Q g r ts → ((s : S) → Q s → Runs P g (f s) us) → Runs P g (and_then r f) (ts ++ us)
  runs_then Q f (passed {t = s} {ts = ts} p q) k = after_passed ts q (k s p)
  runs_then Q {us = us} f (failed {e} h) k = failed (record {
    before = h.before;
    after = h.after ++ us;
    here = ap (λ (l : List Test). l ++ us) h.here ∙ append_assoc h.before (test false (g e) ∷ h.after) us;
    held = h.held;
  })

-- n results, one after another
pub runs_each : {E : Type 0} {g : E → RecordFault} (t : ℕ → Result (Unit {0}) E) (us : ℕ → List Test) → ((b : ℕ) → Runs Any g (t b) (us b)) → (b n : ℕ) → Runs Any g (each_of t b n) (flat_map us (range_with_len b n))
runs_each t us h b zero = passed tt tt
runs_each t us h b (suc n) = runs_then Any (λ _. each_of t (b + 1) n) (h b) (λ _ _. runs_each t us h (b + 1) n)

-- a block's fault as a record's
pub runs_lifted : {T : Type 0} {P : T → Type 0} {r : Result T BlockFault} {ts : List Test} → Runs P fault.Block r ts → Runs P (λ f. f) (lifted r) ts
runs_lifted (passed p q) = passed p q
runs_lifted (failed h) = failed h

-- what runs in the order of tests is ordered
pub runs_ordered : {T : Type 0} {P : T → Type 0} {r : Result T RecordFault} {ts : List Test} → Runs P (λ f. f) r ts → Ordered r ts
runs_ordered (passed p q) = q
runs_ordered (failed h) = h

-- another value in place of the one answered
pub runs_kept : {S T E : Type 0} {P : T → Type 0} {g : E → RecordFault} {r : Result S E} {ts : List Test} (t : T) → P t → Runs Any g r ts → Runs P g (and_then r (λ _. Ok t)) ts
runs_kept t h (passed p q) = passed h q
runs_kept t h (failed s) = failed s

-- a fault found or not, as a result
abbrev pub unless : {E : Type 0} → Option E → Result (Unit {0}) E
unless None = Ok tt
unless (Some e) = Err e

-- one test more in front of those that find a fault
pub runs_unless : {E : Type 0} {g : E → RecordFault} (p : Bool) (e : E) (o : Option E) {ts : List Test} → Runs Any g (unless o) ts → Runs Any g (unless (cond p o (Some e))) (test p (g e) ∷ ts)
runs_unless true e o s = runs_expect true e s
runs_unless false e o s = runs_expect false e s

-- what F makes of a fault found or not runs as the tests that find it
pub runs_found : {A T E : Type 0} {P : T → Type 0} {g : E → RecordFault} (F : Option A → Result T E) (t : T) (name : A → E) (o : Option A) {ts : List Test} → P t → F None ≡ Ok t → ((a : A) → F (Some a) ≡ Err (name a)) → Runs Any (λ a. g (name a)) (unless o) ts → Runs P g (F o) ts
runs_found F t name None held h k (passed p q) = rw h (passed held q)
runs_found F t name (Some a) held h k (failed s) = rw (k a) (failed s)

-- the scan of n bytes from place i on, each against a limit by a test p
pub runs_scan : (g : ℕ → RecordFault) (limit : ℕ) (bs : List ℕ) (p : ℕ → Bool) → ((n : ℕ) → ltb n limit ≡ p n) → (i n : ℕ) → Runs Any g (unless (first_from limit bs i n)) (map (λ j. test (p (get_or bs j 0)) (g j)) (range_with_len i n))
unfolding first_from
runs_scan g limit bs p same i zero = passed tt tt
runs_scan g limit bs p same i (suc n) =
    rw (← same (get_or bs i 0)) (runs_unless (ltb (get_or bs i 0) limit) i (first_from limit bs (i + 1) n) (runs_scan g limit bs p same (i + 1) n))

-- what holds of the value answered
pub runs_made : {T E : Type 0} {P : T → Type 0} {g : E → RecordFault} {r : Result T E} {ts : List Test} → Runs P g r ts → IfOk r P
runs_made (passed p q) = p
runs_made (failed s) = tt
