-- What add leaves where there is a place, and what copy gives where a record has the number.
use Rattle.std.proofs.Common.{◌≡◌, ℕ, ◌-◌, ◌<◌, ◌≤◌, List, [], ◌∷◌, ◌++◌, length, get_or, arith}
use Rattle.std.proofs.lemmas.Bool.{cond-true, lt-ltb}
use Rattle.std.proofs.lemmas.Bool.Decides.{nat_tests}
use Rattle.shelf.specs.Answers.{added, copied}

pub added_is : (rs : List (List ℕ)) (limit : ℕ) (item : List ℕ) → length rs < limit → added rs limit item ≡ rs ++ item ∷ []
added_is rs limit item h = cond-true _ _ _ (lt-ltb (length rs) limit h)

pub copied_is : (rs : List (List ℕ)) (n : ℕ) (d : List ℕ) → 0 < n → n ≤ length rs → copied rs n d ≡ get_or rs (n - 1) d
copied_is rs n d l h = grind (arith, nat_tests)
