-- Parameters made from values that are not at fault.
use Rattle.std.proofs.Common.{◌≡◌, ℕ, Bool, true, false, cond, ℤ, pos, neg_ℤ, Some, None, Err, Option, arith}
use Rattle.faults.specs.declared.record.Value.{Value}
use Rattle.faults.specs.declared.record.RecordFault.{RecordFault}
use Rattle.sections.specs.Made.{Made}
use Rattle.sections.specs.Range.{within}
use Rattle.sections.specs.Stroke.{reach, stops_fault}
use Rattle.drivefile.specs.Header.{stroke_fault}

-- where nothing is at fault nothing is refused
pub not_refused : {T : Type 0} (o : Option Value) (f : RecordFault) (P : T → Type 0) → o ≡ None → Made o (Err f) P → ⊥
not_refused None f P e h = h
not_refused (Some v) f P e h = let z : ◌≡◌ {A = ℕ} 0 1 = cc in omega arith

second_none : (b : Bool) (o : Option Value) (v : Value) → cond b o (Some v) ≡ None → o ≡ None
second_none true o v e = e
second_none false o v e = absurd (let z : ◌≡◌ {A = ℕ} 0 1 = cc in omega arith)

-- where no value of the stroke integrator is at fault, no stop is
pub stops_in_range : (start lower upper : ℤ) → stroke_fault start lower upper ≡ None → stops_fault lower upper ≡ None
stops_in_range start lower upper e = second_none (within (neg_ℤ (pos reach)) (pos reach) start) (stops_fault lower upper) _ e
