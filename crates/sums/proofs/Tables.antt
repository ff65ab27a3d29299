-- What the terms of a table obey, as the loops and the writes of the code need it. Assumes nothing.
use Rattle.std.proofs.Common.{◌≡◌, ℕ, suc, ◌<◌, ◌≤◌, Bool, true, false, cond, leb, List, [], ◌∷◌, ◌++◌, length, get_or, set, Some, None, Option, refl, ap, arith}
use Rattle.std.proofs.lemmas.Bool.{le-leb, lt-leb}
use Rattle.std.proofs.lemmas.List.{length_push, length-set}
use Rattle.std.specs.Option.{option_map}
use Rattle.std.specs.List.{position}
use Rattle.sums.specs.declared.Row.{Row}
use Rattle.sums.specs.Table.{place, grown, entered, enter}

-- `place` is std's `position`, by recursion
module _ {K : Type 0} (same : K → K → Bool) (k : K) where
  pub place_position : (rows : List (Row K)) → position (λ r. same r.key k) rows ≡ place same rows k
  place_position [] = refl
  place_position (r ∷ rs) = grind (arith, place_position rs)

-- what `place` says of `entered`
abbrev Placed : {K : Type 0} → List (Row K) → K → ℕ → ℕ → List (Row K) → Option ℕ → Type 0
Placed rows k a t after None = after ≡ rows ++ record { key = k; added = a; taken = t } ∷ []
Placed rows k a t after (Some i) = (d : Row _) → after ≡ set rows i (grown (get_or rows i d) a t)

module _ {K : Type 0} (same : K → K → Bool) (k : K) (a t : ℕ) where
  placed : (rows : List (Row K)) → Placed rows k a t (entered same rows k a t) (place same rows k)
  placed [] = refl
  placed (r ∷ rs) =
      elim (same r.key k) as (λ b. Placed (r ∷ rs) k a t (cond b (grown r a t ∷ rs) (r ∷ entered same rs k a t)) (cond b (Some 0) (option_map suc (place same rs k)))) [
        | true ↦ λ d. refl
        | false ↦
            (elim (place same rs k) as (λ o. Placed rs k a t (entered same rs k a t) o → Placed (r ∷ rs) k a t (r ∷ entered same rs k a t) (option_map suc o)) [
              | None ↦ λ h. ap (λ l. r ∷ l) h
              | Some i ↦ λ h d. ap (λ l. r ∷ l) (h d)
            ]) (placed rs)
      ]

  module _ (cap : ℕ) (rows : List (Row K)) where
    pub enter_new : None ≡ place same rows k → length rows < cap → enter same cap rows k a t ≡ Some (rows ++ record { key = k; added = a; taken = t } ∷ [])
    unfolding enter
    enter_new e room =
        let p : entered same rows k a t ≡ rows ++ record { key = k; added = a; taken = t } ∷ [] = rw (← e) at (placed rows) in
        let fit : leb (length (rows ++ record { key = k; added = a; taken = t } ∷ [])) cap ≡ true = le-leb _ _ (simp length_push (omega arith)) in
        rw (p, fit)

    pub enter_full : None ≡ place same rows k → cap ≤ length rows → enter same cap rows k a t ≡ None
    unfolding enter
    enter_full e full =
        let p : entered same rows k a t ≡ rows ++ record { key = k; added = a; taken = t } ∷ [] = rw (← e) at (placed rows) in
        let fit : leb (length (rows ++ record { key = k; added = a; taken = t } ∷ [])) cap ≡ false = lt-leb _ _ (simp length_push (omega arith)) in
        rw (p, fit)

    pub enter_at : (i : ℕ) (d : Row K) → Some i ≡ place same rows k → length rows ≤ cap → enter same cap rows k a t ≡ Some (set rows i (grown (get_or rows i d) a t))
    unfolding enter
    enter_at i d e room =
        let p : entered same rows k a t ≡ set rows i (grown (get_or rows i d) a t) = (rw (← e) at (placed rows)) d in
        let fit : leb (length (set rows i (grown (get_or rows i d) a t))) cap ≡ true = le-leb _ _ (simp length-set (omega arith)) in
        rw (p, fit)
