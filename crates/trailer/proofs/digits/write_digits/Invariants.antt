use Rattle.std.proofs.Common.{◌≡◌, ◌++◌, length, drop}
use Rattle.trailer.specs.Digits.{digits_of}
use Rattle.trailer.proofs.digits.write_digits.Given as goal

abbrev pub invariant-loop-i : goal.invariant-loop-i
invariant-loop-i l = digits_of l.left l.i ++ drop l.i l.part ≡ digits_of l.n (length l.initial.part)
