use Rattle.std.proofs.Common.{◌≡◌, ℕ, ◌+◌, Bool, false, ◌||◌, nat_le, List, [], ◌∷◌, None, sym, refl, ◌∙◌}
use Rattle.std.specs.List.{fold, position, position_from}
use Rattle.std.proofs.lemmas.Iterator.Adapters.{position_from-zero}
use Rattle.std.proofs.lemmas.Bool.{or_parts}
use Rattle.drivefile.proofs.block.place_from.Goals as goal

-- none is found where none is seen
none_from : (limit : ℕ) (a : Bool) (i : ℕ) (xs : List ℕ) → fold (λ any x. any || nat_le limit x) a xs ≡ false → (a ≡ false) × (position_from (nat_le limit) i xs ≡ None)
none_from limit a i [] e = (e, refl)
none_from limit a i (x ∷ xs) e =
    let rest = none_from limit (a || nat_le limit x) (i + 1) xs e in
    let here = or_parts a (nat_le limit x) rest.0 in
    (here.0, rw here.1 rest.1)

none_seen : (limit : ℕ) (xs : List ℕ) → fold (λ any x. any || nat_le limit x) false xs ≡ false → position (nat_le limit) xs ≡ None
none_seen limit xs e = position_from-zero (nat_le limit) xs ∙ (none_from limit false 0 xs e).1

pub returns-else-any_from : goal.returns-else-any_from
returns-else-any_from c = sym (none_seen c.args.limit c.args.bytes.now (sym c.if-any_from.ensures))
