use Rattle.std.proofs.Common.{◌≡◌, ◌%◌, ◌<◌, drop}
use Rattle.trailer.specs.Digits.{value_after}
use Rattle.trailer.proofs.digits.remainder.Given as goal

abbrev pub invariant-loop-b : goal.invariant-loop-b
invariant-loop-b l = (value_after l.rest (drop l.b-index l.front) % 97 ≡ value_after 0 l.front % 97) × (l.rest < 97)
