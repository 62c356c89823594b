-- What a legal length says.
use Rattle.std.proofs.Common.{◌≡◌, ℕ, ◌*◌, ◌/◌, ◌≤◌, true, arith}
use Rattle.std.proofs.lemmas.Bool.Decides.{nat_tests}
use Rattle.drivefile.specs.Reading.{legal_length}

pub record Legal (n : ℕ) : Type 0 where
  pub long : n ≡ 512 * (n / 512)
  pub some : 1 ≤ n / 512
  pub most : n / 512 ≤ 658

pub legal : (n : ℕ) → legal_length n ≡ true → Legal n
legal n e = record { long = grind (arith, nat_tests); some = grind (arith, nat_tests); most = grind (arith, nat_tests) }
