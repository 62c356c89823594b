-- Tests one after another: the first that fails is the fault that is answered.
use Rattle.std.specs.Prelude.{ℕ, zero, suc, ◌+◌, Bool, cond, Ok, Err, Result}
use Rattle.faults.specs.declared.block.BlockFault.{BlockFault}
use Rattle.faults.specs.declared.record.RecordFault.{RecordFault}
use Rattle.faults.specs.declared.record.RecordFault.TheVariants as fault

-- the fault where the test fails, else what comes after it
abbrev pub expect : {T E : Type 0} → Bool → E → Result T E → Result T E
expect passed e rest = cond passed rest (Err e)

-- what comes after a result, or its fault
abbrev pub and_then : {T U E : Type 0} → Result T E → (T → Result U E) → Result U E
and_then (Ok t) f = f t
and_then (Err e) f = Err e

-- a fault of a block as a fault of the record that holds it
abbrev pub lifted : {T : Type 0} → Result T BlockFault → Result T RecordFault
lifted (Ok t) = Ok t
lifted (Err e) = Err (fault.Block e)

-- the first fault of n tests, from test b on
abbrev pub each_of : {E : Type 0} → (ℕ → Result (Unit {0}) E) → ℕ → ℕ → Result (Unit {0}) E
each_of t b zero = Ok tt
each_of t b (suc n) = and_then (t b) (λ _. each_of t (b + 1) n)
