use Rattle.std.proofs.Common.{◌≡◌, ◌^◌, ◌<◌, drop}
use Rattle.field.specs.Numbers.{number_after}
use Rattle.field.proofs.numbers.read_number.Given as goal

abbrev pub invariant-loop-b : goal.invariant-loop-b
invariant-loop-b l = (number_after l.n (drop l.b-index l.part) ≡ number_after 0 l.part) × (l.n < 10 ^ l.b-index)
