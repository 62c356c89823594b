-- The laws of the roll section: sums and products may be taken modulo 2 ^ 32 on the way.
use Rattle.std.specs.Prelude.{◌≡◌, ℕ, ◌+◌, ◌*◌, ◌%◌, ◌^◌, ◌<◌, refl}
use Rattle.std.proofs.Common.{sym, ap, ◌∙◌, mod-eq_of_lt, mod-lt, mul-add, mul_assoc, mul_comm, arith}
use Rattle.std.proofs.Math.Nat.{add-mod, mod-add-mod, mod-mod}
use Rattle.std.proofs.lemmas.Bool.{lt-ltb, ltb-true}
use Rattle.std.proofs.lemmas.Nat.{mul-mod_first, mul-mod_second}
use Rattle.sections.specs.Roll.{joined, moved, read_map, read_state, rest, roll}
use Rattle.sections.specs.declared.roll.RollMap.{RollMap}
use Rattle.sections.specs.Lawful.{Kept, Sound, kept}

-- a word
abbrev Word : ℕ → Type 0
Word x = x < 2 ^ 32

-- a map of words
abbrev Words : RollMap → Type 0
Words f = Word f.factor × Word f.add

-- states are read by their range test
states : Kept Word read_state
states = kept Word _ 0 (λ s. ltb-true s (2 ^ 32)) (λ s. lt-ltb s (2 ^ 32)) (omega arith)

-- rest is in range
rest_in : Words rest
rest_in = (omega arith, omega arith)

-- maps are read by theirs
maps : Kept Words read_map
maps = kept Words _ rest (λ f e. grind arith) (λ f h. grind arith) rest_in

-- a factor may be taken modulo n first
mul_mod : (a b n : ℕ) → (a % n * b) % n ≡ (a * b) % n
mul_mod a b n = mul-mod_first a b n

-- so may the factor and the summand of a map
affine_mod : (a b s n : ℕ) → (a % n * s + b % n) % n ≡ (a * s + b) % n
affine_mod a b s n =
    add-mod (a % n * s) (b % n) n
    ∙ (λ i. (mul_mod a s n i + mod-mod b n i) % n)
    ∙ sym (add-mod (a * s) b n)

-- and so may the state that a map is applied to
affine_of_mod : (a b s n : ℕ) → (a * (s % n) + b) % n ≡ (a * s + b) % n
affine_of_mod a b s n = sym (mod-add-mod (a * (s % n)) n b) ∙ ap (λ x. (x + b) % n) (mul-mod_second a s n) ∙ mod-add-mod (a * s) n b

-- two maps in turn, before the modulus
affine_twice : (m1 b1 m2 b2 s : ℕ) → m1 * m2 * s + (m2 * b1 + b2) ≡ m2 * (m1 * s + b1) + b2
affine_twice m1 b1 m2 b2 s =
    let factor : m1 * m2 * s ≡ m2 * (m1 * s) = ap (λ x. x * s) (mul_comm m1 m2) ∙ mul_assoc m2 m1 s in
    omega (arith, factor, mul-add m2 (m1 * s) b1)

-- so the join of two maps does what they do in turn
joined_moved : (f g : RollMap) (s : ℕ) → moved (joined f g) s ≡ moved g (moved f s)
joined_moved f g s = grind (arith, affine_mod, affine_of_mod)

-- what is taken modulo 2 ^ 32 is a word
word_mod : (n : ℕ) → Word (n % 2 ^ 32)
word_mod n = mod-lt n (omega arith)

-- what the laws follow from
pub sound : Sound roll Word Words read_map moved joined (λ s. s)
sound = record {
  states = states;
  tested = λ s. lt-ltb s (2 ^ 32);
  zero_in = omega arith;
  maps = maps;
  effect_is = λ f s. refl;
  join_is = λ f g. refl;
  shown_is = λ s. refl;
  moved_in = λ f s _ _. word_mod (f.factor * s + f.add);
  joined_in = λ f g _ _. (word_mod (f.factor * g.factor), word_mod (g.factor * f.add + g.add));
  joined_moved = λ f g s _ _ _. joined_moved f g s;
  rest_in = rest_in;
  rest_moved = λ s below. ap (λ x. x % 2 ^ 32) (omega arith) ∙ mod-eq_of_lt below;
  word_in = λ p x below. (p.fits, below);
  word_moved = λ p x s _. refl;
}
