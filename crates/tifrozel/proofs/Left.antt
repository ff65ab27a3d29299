-- What is left of an archive, and of a seat with it.
use Rattle.std.proofs.Common.{◌⊎◌, inl, inr, Option, Some, None}
use Rattle.std.specs.Prelude.{MatchOption}

-- two facts of one option, each by whether it holds a value
pub joined : {A P R : Type 0} {Q T : A → Type 0} (left : Option A) → MatchOption left P Q → MatchOption left R T → (R × P) ⊎ ((x : A) × (T x × Q x))
joined None p r = inl (r, p)
joined (Some x) q t = inr (x, (t, q))
