use Rattle.std.proofs.Common.{◌≡◌, ◌^◌, ◌<◌, drop}
use Rattle.trailer.specs.Digits.{value_after}
use Rattle.trailer.proofs.digits.value_of.Given as goal

abbrev pub invariant-loop-b : goal.invariant-loop-b
invariant-loop-b l = (value_after l.n (drop l.b-index l.part) ≡ value_after 0 l.part) × (l.n < 10 ^ l.b-index)
