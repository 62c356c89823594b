-- Ranges of integers: the tests for them, what it is to hold a number to one, and numbers read from their bits.
use Rattle.std.specs.Prelude.{◌≡◌, true, ℤ, ◌+ℤ◌, ◌≤ℤ◌, FitsSigned, int_le}
use Rattle.std.proofs.Common.{ap, ◌∙◌, arith, of_z, to_z}
use Rattle.std.specs.Int.{Width, w32, w64}
use Rattle.std.proofs.lemmas.Int.{by_lt_z, clamps, ints, to_z-of_z}
use Rattle.std.proofs.lemmas.Bool.{and_from, and_parts}
use Rattle.sections.specs.Range.{held, within}

-- the test of order says what it tests, and the other way round
pub le_z_true : (a b : ℤ) → int_le a b ≡ true → a ≤ℤ b
le_z_true a b e = omega (arith, ints)

pub true_le_z : (a b : ℤ) → a ≤ℤ b → int_le a b ≡ true
true_le_z a b h = grind (arith, ints)

-- z is from lo to hi
pub record Within (lo hi z : ℤ) : Type 0 where
  pub from : lo ≤ℤ z
  pub to : z ≤ℤ hi

-- the test for a range says that z is in it, and the other way round
pub within_true : (lo hi z : ℤ) → within lo hi z ≡ true → Within lo hi z
within_true lo hi z e = let both = and_parts _ _ e in record { from = le_z_true _ _ both.0; to = le_z_true _ _ both.1 }

pub true_within : (lo hi z : ℤ) → Within lo hi z → within lo hi z ≡ true
true_within lo hi z h = and_from _ _ (true_le_z _ _ h.from) (true_le_z _ _ h.to)

-- a number held to a range is in it
pub held_within : (lo hi z : ℤ) → lo ≤ℤ hi → Within lo hi (held lo hi z)
held_within lo hi z h = grind (arith, ints, clamps)

-- and a larger one is held to a larger one
pub held_order : (lo hi y z : ℤ) → y ≤ℤ z → held lo hi y ≤ℤ held lo hi z
held_order lo hi y z h = omega (arith, ints, clamps)

-- a range and a number may be moved together
pub held_moved : (lo hi z a : ℤ) → held lo hi z +ℤ a ≡ held (lo +ℤ a) (hi +ℤ a) (z +ℤ a)
held_moved lo hi z a = omega (arith, ints, clamps)

-- a number is held to the low end, not at all, or to the high end
cut : (P : ℤ → Type 0) (l h z : ℤ) → l ≤ℤ h → (z ≤ℤ l → P l) → (l ≤ℤ z → z ≤ℤ h → P z) → (h ≤ℤ z → P h) → P (held l h z)
cut P l h z order low inside high =
    by_lt_z z l
    (λ a. let e : held l h z ≡ l = omega (arith, ints, clamps) in rw e (low (omega (arith, ints))))
    (λ a. by_lt_z h z
    (λ b. let e : held l h z ≡ h = omega (arith, ints, clamps) in rw e (high (omega (arith, ints))))
    (λ b. let e : held l h z ≡ z = omega (arith, ints, clamps) in rw e (inside a b)))

-- a range held to another
pub held_twice : (lo hi l h z : ℤ) → held lo hi (held l h z) ≡ held (held lo hi l) (held lo hi h) z
held_twice lo hi l h z = omega (arith, ints, clamps)

-- a signed result that was computed from a number's bits, read from its own bits
pub carried : (w : Width) (f : ℤ → ℤ) (r z : ℤ) → r ≡ f (to_z w (of_z w z)) → FitsSigned w r → FitsSigned w z → to_z w (of_z w r) ≡ f z
carried w f r z e r_fits z_fits = to_z-of_z w r r_fits ∙ e ∙ ap f (to_z-of_z w z z_fits)

-- the same of a number held to a range
pub carried_held : (r lo hi v z : ℤ) → r ≡ held (to_z w32 (of_z w32 lo)) (to_z w32 (of_z w32 hi)) v → v ≡ z
    → FitsSigned w32 r → FitsSigned w32 lo → FitsSigned w32 hi → to_z w32 (of_z w32 r) ≡ held lo hi z
carried_held r lo hi v z e v_is r_fits lo_fits hi_fits =
    to_z-of_z w32 r r_fits ∙ e ∙ (λ i. held (to_z-of_z w32 lo lo_fits i) (to_z-of_z w32 hi hi_fits i) (v_is i))

-- a 64-bit result that fits 32 bits, read from its bits
pub shortened : (r : ℤ) → FitsSigned w32 (to_z w64 (of_z w64 r)) → FitsSigned w64 r → to_z w32 (of_z w32 (to_z w64 (of_z w64 r))) ≡ r
shortened r short long = to_z-of_z w32 _ short ∙ to_z-of_z w64 r long
