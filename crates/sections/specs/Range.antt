-- Ranges of integers.
use Rattle.std.specs.Prelude.{Bool, ◌&&◌, ℤ, int_le}
use Rattle.std.specs.Int.{int_max, int_min}

-- z is from lo to hi
abbrev pub within : ℤ → ℤ → ℤ → Bool
within lo hi z = int_le lo z && int_le z hi

-- z held to lo .. hi
abbrev pub held : ℤ → ℤ → ℤ → ℤ
held lo hi z = int_min hi (int_max lo z)
