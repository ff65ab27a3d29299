-- What twins enter for a balance: unknown records enter nothing, and the others have the same classes.
use Rattle.std.proofs.Common.{◌≡◌, ℕ, suc, Bool, true, false, cond, List, [], ◌∷◌, ◌++◌, map, refl, ap, ◌∙◌, sym}
use Rattle.record.specs.declared.classes.Class.{Class}
use Rattle.record.specs.declared.classes.Class.TheVariants as class
use Rattle.record.specs.Editions.{bare}
use Rattle.record.specs.Classes.{class_of}
use Rattle.sums.specs.declared.Row.{Row}
use Rattle.report.specs.declared.pairs.Pair.{Pair}
use Rattle.report.specs.Balances.{move_class, pair_class, move_then, moves_from}
use Rattle.report.specs.Listing.{records_in}
use Rattle.twins.specs.Twins.{Passes, is_spare, Twins, Left, numbered, left_from, left}
use Rattle.twins.proofs.Aligning.{reads_alike}
use Rattle.twins.proofs.Checking.{class_blind, spare_unknown}

-- a class in front of others, unless the record is unknown
abbrev pub solid_then : Class → List Class → List Class
solid_then class.BadCode cs = class.BadCode ∷ cs
solid_then (class.Core k read) cs = class.Core k read ∷ cs
solid_then (class.Rider x) cs = class.Rider x ∷ cs
solid_then class.Unknown cs = cs

abbrev pub solid : List (List ℕ) → List Class
solid [] = []
solid (r ∷ rs) = solid_then (class_of bare r) (solid rs)

abbrev solid_in : List Class → List Class
solid_in [] = []
solid_in (c ∷ cs) = solid_then c (solid_in cs)

then_append : (c : Class) (cs ds : List Class) → solid_then c (cs ++ ds) ≡ solid_then c cs ++ ds
then_append class.BadCode cs ds = refl
then_append (class.Core k read) cs ds = refl
then_append (class.Rider x) cs ds = refl
then_append class.Unknown cs ds = refl

pub solid-append : (rs qs : List (List ℕ)) → solid (rs ++ qs) ≡ solid rs ++ solid qs
solid-append [] qs = refl
solid-append (r ∷ rs) qs = ap (solid_then (class_of bare r)) (solid-append rs qs) ∙ then_append (class_of bare r) (solid rs) (solid qs)

-- all that is entered depends on them
abbrev moves_by : Pair → List Class → List (Row Pair)
moves_by p [] = []
moves_by p (c ∷ cs) = move_then (move_class p c) (moves_by (pair_class p c) cs)

moves_then : (p : Pair) (c : Class) (cs : List Class) → move_then (move_class p c) (moves_by (pair_class p c) cs) ≡ moves_by p (solid_then c cs)
moves_then p class.BadCode cs = refl
moves_then p (class.Core k read) cs = refl
moves_then p (class.Rider x) cs = refl
moves_then p class.Unknown cs = refl

moves_solid : (rs : List (List ℕ)) (p : Pair) → moves_from p rs ≡ moves_by p (solid rs)
moves_solid [] p = refl
moves_solid (r ∷ rs) p = ap (move_then (move_class p (class_of bare r))) (moves_solid rs (pair_class p (class_of bare r))) ∙ moves_then p (class_of bare r) (solid rs)

pub moves_same : (rs qs : List (List ℕ)) → solid rs ≡ solid qs → (p : Pair) → moves_from p rs ≡ moves_from p qs
moves_same rs qs e p = moves_solid rs p ∙ ap (moves_by p) e ∙ sym (moves_solid qs p)

abbrev class_in : Left → Class
class_in l = class_of bare l.bytes

module _ (spare : ℕ → Bool) (pass : Passes spare bare) where
  solid_later : (rs : List (List ℕ)) (n : ℕ) → solid rs ≡ solid_in (map class_in (left_from spare n rs))
  solid_later [] n = refl
  solid_later (r ∷ rs) n = by (is_spare spare r) refl (solid_later rs (suc n))
    where
      by : (b : Bool) → is_spare spare r ≡ b → solid rs ≡ solid_in (map class_in (left_from spare (suc n) rs))
          → solid_then (class_of bare r) (solid rs) ≡ solid_in (map class_in (cond b (left_from spare (suc n) rs) (numbered n r ∷ left_from spare (suc n) rs)))
      by true e h = ap (λ c. solid_then c (solid rs)) (spare_unknown spare bare pass r e) ∙ h
      by false e h = ap (solid_then (class_of bare r)) h

  solid_all : (rs : List (List ℕ)) → solid rs ≡ solid_in (map class_in (left spare rs))
  solid_all [] = refl
  solid_all (r ∷ rs) = ap (solid_then (class_of bare r)) (solid_later rs 2)

  pub solid_alike : (a b : List ℕ) → Twins spare a b → solid (records_in a) ≡ solid (records_in b)
  solid_alike a b t = solid_all (records_in a) ∙ ap solid_in (reads_alike spare Class (class_of bare) (class_blind bare) a b t) ∙ sym (solid_all (records_in b))

  pub moves : (a b : List ℕ) → Twins spare a b → (p : Pair) → moves_from p (records_in a) ≡ moves_from p (records_in b)
  moves a b t p = moves_same (records_in a) (records_in b) (solid_alike a b t) p
