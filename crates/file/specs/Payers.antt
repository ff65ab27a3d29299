-- What every way of knowing payers owes of its meaning.
use Rattle.std.specs.Prelude.{◌≡◌}
use Rattle.manual.specs.Judging.{Mode}

pub record PayerLaws {P : Type 0} (mode : P → Mode) (same : P → P → Type 0) : Type 0 where
  -- a state is the same as itself
  pub same_refl : (p : P) → same p p
  -- and goes on from call to call
  pub same_trans : (p q r : P) → same p q → same q r → same p r
  -- whether payers are judged, and in how many rows, stays
  pub same_mode : (p q : P) → same p q → mode q ≡ mode p
