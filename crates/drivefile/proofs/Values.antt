-- What a parameter that is not refused gives, where the definition goes on by its fault.
use Rattle.std.proofs.Common.{◌≡◌, Some, None, Ok, Option, Result, refl}
use Rattle.faults.specs.declared.record.Value.{Value}
use Rattle.faults.specs.declared.record.RecordFault.{RecordFault}
use Rattle.sections.specs.Made.{Made}
use Rattle.drivefile.specs.Header.{none_at_fault}

-- where no parameter is refused, the definition goes on
pub no_fault : {T U : Type 0} (o : Option Value) (t : T) (P : T → Type 0) (rest : Result U RecordFault) → Made o (Ok t) P → none_at_fault o rest ≡ rest
no_fault None t P rest h = refl
no_fault (Some v) t P rest h = absurd h
