-- What an answer that is Ok says of the steps that gave it.
use Rattle.std.proofs.Common.{◌≡◌, ℕ, Bool, true, false, cond, List, Some, None, Ok, Err, Option, Result, refl, arith}
use Rattle.field.specs.Chains.{then}
use Rattle.trailer.specs.declared.layout.Trailer.{Trailer}
use Rattle.filing.specs.declared.faults.VolumeFault.{VolumeFault}
use Rattle.filing.specs.Volumes.{Part, after_trailer}

pub ok_same : {T E : Type 0} {x y : T} → ◌≡◌ {A = Result T E} (Ok x) (Ok y) → x ≡ y
ok_same e = cc

pub err_not_ok : {T E : Type 0} {x : T} {e : E} → ◌≡◌ {A = Result T E} (Err e) (Ok x) → ⊥
err_not_ok h = let z : ◌≡◌ {A = ℕ} 0 1 = cc in omega arith

pub then_ok : {T U E : Type 0} (r : Result T E) (f : T → Result U E) (y : U) → then r f ≡ Ok y → (x : T) × (r ≡ Ok x) × (f x ≡ Ok y)
then_ok (Ok x) f y e = (x, refl, e)
then_ok (Err e') f y e = absurd (err_not_ok e)

pub cond_ok : {T E : Type 0} (b : Bool) (r : Result T E) (e : E) (y : T) → cond b r (Err e) ≡ Ok y → (b ≡ true) × (r ≡ Ok y)
cond_ok true r e y h = (refl, h)
cond_ok false r e y h = absurd (err_not_ok h)

pub after_ok : (o : Option Trailer) (e : VolumeFault) (f : Trailer → Result (List Part) VolumeFault) (ps : List Part)
    → after_trailer o e f ≡ Ok ps → (t : Trailer) × (o ≡ Some t) × (f t ≡ Ok ps)
after_ok (Some t) e f ps h = (t, refl, h)
after_ok None e f ps h = absurd (err_not_ok h)
