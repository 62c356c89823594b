-- A list cut into parts of one length: part i is what lies there.
use Rattle.std.proofs.Common.{◌≡◌, ℕ, zero, suc, ◌+◌, ◌*◌, ◌<◌, List, length, get_or, take, drop, refl, ap, ◌∙◌, arith}
use Rattle.std.specs.Simd.{first_chunks}
use Rattle.std.proofs.lemmas.List.{drop-drop}

pub chunk_at : {X : Type 0} (n k i : ℕ) (xs : List X) (d : List X) → i < k → get_or (first_chunks n k xs) i d ≡ take n (drop (n * i) xs)
chunk_at n zero i xs d less = absurd (omega (arith, less))
chunk_at n (suc k) zero xs d less = let e : n * 0 ≡ 0 = omega arith in rw e refl
chunk_at n (suc k) (suc i) xs d less =
    let e : n + n * i ≡ n * suc i = omega arith in
    chunk_at n k i (drop n xs) d (omega (arith, less))
    ∙ ap (take n) (drop-drop (n * i) n xs ∙ ap (λ j. drop j xs) e)

pub length_chunks : {X : Type 0} (n k : ℕ) (xs : List X) → length (first_chunks n k xs) ≡ k
length_chunks n zero xs = refl
length_chunks n (suc k) xs = ap suc (length_chunks n k (drop n xs))
