-- What the equality of a kind of key obeys. Assumes nothing.
use Rattle.std.specs.Prelude.{◌≡◌, Bool, true}

-- same is an equivalence: each key equals itself, equality holds both ways round, and it is passed on
pub record Lawful {K : Type 0} (same : K → K → Bool) : Type 0 where
  pub self : (x : K) → same x x ≡ true
  pub turned : (x y : K) → same x y ≡ true → same y x ≡ true
  pub chained : (x y z : K) → same x y ≡ true → same y z ≡ true → same x z ≡ true
