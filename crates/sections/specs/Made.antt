-- What a call answers that makes a value in range, or names the header value that is not.
use Rattle.std.specs.Prelude.{◌≡◌, Some, None, Ok, Err, Option, Result}
use Rattle.faults.specs.declared.record.Value.{Value}
use Rattle.faults.specs.declared.record.RecordFault.{RecordFault}
use Rattle.faults.specs.declared.record.RecordFault.TheVariants as fault

-- where no value is at fault, a value of which P holds; else the fault of the value named
abbrev pub Made : {T : Type 0} → Option Value → Result T RecordFault → (T → Type 0) → Type 0
Made None (Ok t) P = P t
Made None (Err f) P = ⊥
Made (Some v) (Ok t) P = ⊥
Made (Some v) (Err f) P = f ≡ fault.Value v

-- of what was made, P holds
pub made_is : {T : Type 0} (o : Option Value) (t : T) (P : T → Type 0) → Made o (Ok t) P → P t
made_is None t P h = h
made_is (Some v) t P h = absurd h
