-- Lists side by side: the records left in twins, with what is read of them, and numbers that follow.
use Rattle.std.proofs.Common.{◌≡◌, ℕ, suc, Bool, List, [], ◌∷◌, ◌++◌, map, length, Some, slice_get, refl, ap, inl, arith}
use Rattle.report.specs.Listing.{records_in}
use Rattle.twins.specs.Twins.{Twins, Left, left, FollowIn}
use Rattle.twins.specs.Agreeing.{Each, none, more}
use Rattle.twins.proofs.Aligning.{Blind, reads_alike}

module _ {X : Type 0} (R : X → X → Type 0) where
  pub each_append : (xs ys zs ws : List X) → Each R xs ys → Each R zs ws → Each R (xs ++ zs) (ys ++ ws)
  each_append _ _ zs ws none k = k
  each_append _ _ zs ws (more x y xs ys r h) k = more x y (xs ++ zs) (ys ++ ws) r (each_append xs ys zs ws h k)

  pub each_length : (xs ys : List X) → Each R xs ys → length xs ≡ length ys
  each_length _ _ none = refl
  each_length _ _ (more x y xs ys r h) = ap suc (each_length xs ys h)

-- two records left: the same is read of both, and F relates their numbers
pub record Beside {X : Type 0} (reads : List ℕ → X) (F : ℕ → ℕ → Type 0) (x y : Left) : Type 0 where
  pub read : reads x.bytes ≡ reads y.bytes
  pub number : F x.number y.number

abbrev number_in : Left → ℕ
number_in l = l.number

module _ {X : Type 0} (reads : List ℕ → X) (F : ℕ → ℕ → Type 0) where
  beside_from : (xs ys : List Left) → map (λ (l : Left). reads l.bytes) xs ≡ map (λ (l : Left). reads l.bytes) ys
      → ((k m n : ℕ) → slice_get (map number_in xs) k ≡ Some m → slice_get (map number_in ys) k ≡ Some n → F m n) → Each (Beside reads F) xs ys
  beside_from [] [] h f = none
  beside_from [] (y ∷ ys) h f = let z : ◌≡◌ {A = ℕ} 0 1 = cc in absurd (omega arith)
  beside_from (x ∷ xs) [] h f = let z : ◌≡◌ {A = ℕ} 0 1 = cc in absurd (omega arith)
  beside_from (x ∷ xs) (y ∷ ys) h f =
      let p : reads x.bytes ≡ reads y.bytes = cc in
      let q : map (λ (l : Left). reads l.bytes) xs ≡ map (λ (l : Left). reads l.bytes) ys = cc in
      more x y xs ys (record { read = p; number = f 0 x.number y.number refl refl }) (beside_from xs ys q (λ k m n. f (suc k) m n))

-- the records left in twins are beside each other
pub beside : (spare : ℕ → Bool) {X : Type 0} (reads : List ℕ → X) → Blind reads → (a b : List ℕ) → Twins spare a b
    → Each (Beside reads (FollowIn spare a b)) (left spare (records_in a)) (left spare (records_in b))
beside spare reads blind a b t =
    beside_from reads (FollowIn spare a b) (left spare (records_in a)) (left spare (records_in b)) (reads_alike spare _ reads blind a b t) (λ k m n p q. inl (k, p, q))
