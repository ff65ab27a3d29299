-- Rows and rider faults of twins.
use Rattle.std.proofs.Common.{◌≡◌, ℕ, suc, Bool, true, false, cond, List, [], ◌∷◌, Some, None, Ok, Err, Option, Result, sym, refl, ap, ◌∙◌, subst, subst₂}
use Rattle.record.specs.declared.fields.Core.{Core}
use Rattle.record.specs.declared.fields.Core.TheVariants as core
use Rattle.record.specs.declared.fields.Field.{Field}
use Rattle.record.specs.declared.editions.Level.{Level}
use Rattle.record.specs.declared.rows.Row.{Row}
use Rattle.record.specs.declared.classes.Class.{Class}
use Rattle.record.specs.declared.classes.Class.TheVariants as class
use Rattle.record.specs.Classes.{class_of}
use Rattle.record.specs.Editions.{Meaning}
use Rattle.record.specs.Rows.{bare_row, row_of}
use Rattle.manual.specs.declared.faults.Cause.{Cause}
use Rattle.manual.specs.declared.faults.FileFault.{FileFault}
use Rattle.report.specs.Rows.{row_read, row_in, row_then, rows_from, rows_of}
use Rattle.report.specs.Faults.{fault_or, fault_from, first_fault}
use Rattle.report.proofs.Sorting.{cause_of, level_past}
use Rattle.report.specs.Listing.{records_in}
use Rattle.twins.specs.Twins.{Passes, is_spare, Twins, Left, numbered, left_from, left, FollowIn}
use Rattle.twins.specs.Agreeing.{Each, none, more, FaultAlike, neither, both, RowAlike}
use Rattle.twins.proofs.Levels.{Beside, beside}
use Rattle.twins.proofs.Checking.{class_blind, spare_unknown}

module _ (m : Meaning) where
  -- by the records left
  abbrev rows_left : List Left → List Row
  rows_left [] = []
  rows_left (l ∷ ls) = row_then (row_in l.number (class_of m l.bytes)) (rows_left ls)

  abbrev fault_left : Option Level → List Left → Option FileFault
  fault_left o [] = None
  fault_left o (l ∷ ls) = fault_or l.number (cause_of o (class_of m l.bytes)) (fault_left (level_past o (class_of m l.bytes)) ls)

  module _ (spare : ℕ → Bool) (pass : Passes spare m) where
    rows_later : (rs : List (List ℕ)) (n : ℕ) → rows_from m n rs ≡ rows_left (left_from spare n rs)
    rows_later [] n = refl
    rows_later (r ∷ rs) n = by (is_spare spare r) refl (rows_later rs (suc n))
      where
        by : (b : Bool) → is_spare spare r ≡ b → rows_from m (suc n) rs ≡ rows_left (left_from spare (suc n) rs)
            → row_then (row_in n (class_of m r)) (rows_from m (suc n) rs) ≡ rows_left (cond b (left_from spare (suc n) rs) (numbered n r ∷ left_from spare (suc n) rs))
        by true e h = ap (λ c. row_then (row_in n c) (rows_from m (suc n) rs)) (spare_unknown spare m pass r e) ∙ h
        by false e h = ap (row_then (row_in n (class_of m r))) h

    rows_all : (rs : List (List ℕ)) → rows_of m rs ≡ rows_left (left spare rs)
    rows_all [] = refl
    rows_all (r ∷ rs) = ap (row_then (row_in 1 (class_of m r))) (rows_later rs 2)

    fault_later : (rs : List (List ℕ)) (n : ℕ) (o : Option Level) → fault_from m o n rs ≡ fault_left o (left_from spare n rs)
    fault_later [] n o = refl
    fault_later (r ∷ rs) n o = by (is_spare spare r) refl (fault_later rs (suc n))
      where
        by : (b : Bool) → is_spare spare r ≡ b → ((p : Option Level) → fault_from m p (suc n) rs ≡ fault_left p (left_from spare (suc n) rs))
            → fault_or n (cause_of o (class_of m r)) (fault_from m (level_past o (class_of m r)) (suc n) rs)
            ≡ fault_left o (cond b (left_from spare (suc n) rs) (numbered n r ∷ left_from spare (suc n) rs))
        by true e h = ap (λ c. fault_or n (cause_of o c) (fault_from m (level_past o c) (suc n) rs)) (spare_unknown spare m pass r e) ∙ h o
        by false e h = ap (fault_or n (cause_of o (class_of m r))) (h (level_past o (class_of m r)))

    fault_all : (rs : List (List ℕ)) → first_fault m rs ≡ fault_left None (left spare rs)
    fault_all [] = refl
    fault_all (r ∷ rs) = ap (fault_or 1 (cause_of None (class_of m r))) (fault_later rs 2 (level_past None (class_of m r)))

  module _ (F : ℕ → ℕ → Type 0) where
    fields_alike : (c : Core) (i j : ℕ) → F i j → RowAlike F (row_of i c) (row_of j c)
    fields_alike (core.Start x) i j f = record { number = f; code = refl; party = refl; money = refl; serial = refl; reference = refl }
    fields_alike (core.Opening x) i j f = record { number = f; code = refl; party = refl; money = refl; serial = refl; reference = refl }
    fields_alike (core.Deposit x) i j f = record { number = f; code = refl; party = refl; money = refl; serial = refl; reference = refl }
    fields_alike (core.Payment x) i j f = record { number = f; code = refl; party = refl; money = refl; serial = refl; reference = refl }
    fields_alike (core.Deduction x) i j f = record { number = f; code = refl; party = refl; money = refl; serial = refl; reference = refl }
    fields_alike (core.ExtraReference x) i j f = record { number = f; code = refl; party = refl; money = refl; serial = refl; reference = refl }
    fields_alike (core.NegativeReference x) i j f = record { number = f; code = refl; party = refl; money = refl; serial = refl; reference = refl }
    fields_alike core.Information i j f = record { number = f; code = refl; party = refl; money = refl; serial = refl; reference = refl }
    fields_alike core.Name i j f = record { number = f; code = refl; party = refl; money = refl; serial = refl; reference = refl }
    fields_alike core.AddressOne i j f = record { number = f; code = refl; party = refl; money = refl; serial = refl; reference = refl }
    fields_alike core.AddressTwo i j f = record { number = f; code = refl; party = refl; money = refl; serial = refl; reference = refl }
    fields_alike (core.CompanyNumber x) i j f = record { number = f; code = refl; party = refl; money = refl; serial = refl; reference = refl }
    fields_alike (core.End x) i j f = record { number = f; code = refl; party = refl; money = refl; serial = refl; reference = refl }

    module _ (xs ys : List Row) (h : Each (RowAlike F) xs ys) where
      read_alike : (read : Result Core Field) (i j : ℕ) → F i j → Each (RowAlike F) (row_then (row_read i read) xs) (row_then (row_read j read) ys)
      read_alike (Ok c) i j f = more (row_of i c) (row_of j c) xs ys (fields_alike c i j f) h
      read_alike (Err e) i j f = h

      class_alike : (c : Class) (i j : ℕ) → F i j → Each (RowAlike F) (row_then (row_in i c) xs) (row_then (row_in j c) ys)
      class_alike class.BadCode i j f = h
      class_alike (class.Core k read) i j f = read_alike read i j f
      class_alike (class.Rider x) i j f =
          more (bare_row i x.code) (bare_row j x.code) xs ys (record { number = f; code = refl; party = refl; money = refl; serial = refl; reference = refl }) h
      class_alike class.Unknown i j f = h

    rows_alike : (xs ys : List Left) → Each (Beside (class_of m) F) xs ys → Each (RowAlike F) (rows_left xs) (rows_left ys)
    rows_alike _ _ none = none
    rows_alike _ _ (more x y xs ys b h) =
        subst (λ c. Each (RowAlike F) (rows_left (x ∷ xs)) (row_then (row_in y.number c) (rows_left ys))) b.read
        (class_alike (rows_left xs) (rows_left ys) (rows_alike xs ys h) (class_of m x.bytes) x.number y.number b.number)

    or_alike : (o : Option Cause) (i j : ℕ) → F i j → (x y : Option FileFault) → FaultAlike F x y → FaultAlike F (fault_or i o x) (fault_or j o y)
    or_alike None i j f x y h = h
    or_alike (Some c) i j f x y h = both c i j f

    fault_alike : (xs ys : List Left) → Each (Beside (class_of m) F) xs ys → (o : Option Level) → FaultAlike F (fault_left o xs) (fault_left o ys)
    fault_alike _ _ none o = neither
    fault_alike _ _ (more x y xs ys b h) o =
        subst (λ c. FaultAlike F (fault_left o (x ∷ xs)) (fault_or y.number (cause_of o c) (fault_left (level_past o c) ys))) b.read
        (or_alike (cause_of o (class_of m x.bytes)) x.number y.number b.number _ _ (fault_alike xs ys h (level_past o (class_of m x.bytes))))

module _ (spare : ℕ → Bool) (m : Meaning) (pass : Passes spare m) (a b : List ℕ) (t : Twins spare a b) where
  pub twin_rows : Each (RowAlike (FollowIn spare a b)) (rows_of m (records_in a)) (rows_of m (records_in b))
  twin_rows =
      subst₂ (Each (RowAlike (FollowIn spare a b))) (sym (rows_all m spare pass (records_in a))) (sym (rows_all m spare pass (records_in b)))
      (rows_alike m (FollowIn spare a b) (left spare (records_in a)) (left spare (records_in b)) (beside spare (class_of m) (class_blind m) a b t))

  pub twin_fault : FaultAlike (FollowIn spare a b) (first_fault m (records_in a)) (first_fault m (records_in b))
  twin_fault =
      subst₂ (FaultAlike (FollowIn spare a b)) (sym (fault_all m spare pass (records_in a))) (sym (fault_all m spare pass (records_in b)))
      (fault_alike m (FollowIn spare a b) (left spare (records_in a)) (left spare (records_in b)) (beside spare (class_of m) (class_blind m) a b t) None)
