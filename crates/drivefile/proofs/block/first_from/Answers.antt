use Rattle.std.proofs.Common.{◌≡◌, ℕ, zero, suc, ◌+◌, ◌-◌, ◌≤◌, nat_le, List, length, take, drop, option_map, refl, ap, ◌∙◌, arith, rules}
use Rattle.std.specs.List.{position, position_from}
use Rattle.std.proofs.lemmas.Iterator.Adapters.{position_from-zero}
use Rattle.std.proofs.lemmas.List.{drop_more}
use Rattle.std.proofs.lemmas.Bool.Decides.{nat_tests}
use Rattle.drivefile.specs.Block.{first_from}
use Rattle.drivefile.proofs.block.first_from.Goals as goal

-- the first place by its bytes, counted from place `from` on
first_at : (limit : ℕ) (bs : List ℕ) (from j n : ℕ) → from + j + n ≤ length bs
    → option_map (λ k. from + k) (position_from (nat_le limit) j (take n (drop (from + j) bs))) ≡ first_from limit bs (from + j) n
unfolding first_from
first_at limit bs from j zero h = refl
first_at limit bs from j (suc n) h =
    let e : from + j + 1 ≡ from + (j + 1) = omega arith in
    let rest = first_at limit bs from (j + 1) n (omega arith) in
    rw (drop_more bs (from + j) 0 (omega arith), e) (grind (arith, nat_tests))

first_by_place : (limit : ℕ) (bs : List ℕ) (from n : ℕ) → from + n ≤ length bs → option_map (λ k. from + k) (position (nat_le limit) (take n (drop from bs))) ≡ first_from limit bs from n
first_by_place limit bs from n h =
    let e : from + 0 ≡ from = omega arith in
    ap (option_map (λ k. from + k)) (position_from-zero (nat_le limit) (take n (drop from bs))) ∙ rw e at (first_at limit bs from 0 n (omega arith))

pub returns-in_err-place : goal.returns-in_err-place
returns-in_err-place c = let e = first_by_place c.args.limit c.args.bytes.now c.args.places.start (c.args.places.end - c.args.places.start) (omega arith) in search rules

pub returns : goal.returns
returns c = let e = first_by_place c.args.limit c.args.bytes.now c.args.places.start (c.args.places.end - c.args.places.start) (omega arith) in search rules
