-- One reading after another, where each may come to nothing.
use Rattle.std.specs.Prelude.{Some, None, Ok, Err, Option, Result}

-- what f makes of the value, where there is one
abbrev pub and_then : {T U : Type 0} → Option T → (T → Option U) → Option U
and_then None f = None
and_then (Some x) f = f x

-- the same where a failure says why
abbrev pub then : {T U E : Type 0} → Result T E → (T → Result U E) → Result U E
then (Ok x) f = f x
then (Err e) f = Err e
