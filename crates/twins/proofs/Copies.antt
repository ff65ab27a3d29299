-- The plain copies of twins are the same bytes.
use Rattle.std.proofs.Common.{◌≡◌, ℕ, suc, ◌≤◌, Bool, true, false, cond, List, [], ◌∷◌, ◌++◌, map, replicate, set, ◌-◌, Some, None, Option, sym, refl, ap, ◌∙◌, arith}
use Rattle.std.proofs.lemmas.List.{take-set-le}
use Rattle.record.specs.declared.kinds.Kind.{Kind}
use Rattle.record.specs.declared.classes.Class.{Class}
use Rattle.record.specs.Classes.{class_of}
use Rattle.record.specs.Editions.{Meaning}
use Rattle.record.specs.Laws.{kind_at}
use Rattle.record.specs.Reserve.{used, blanked}
use Rattle.record.specs.Sorts.{sort_of, sort_at}
use Rattle.manual.proofs.Classes as classes
use Rattle.manual.proofs.Classes.{Seen, seen}
use Rattle.report.specs.Copies.{record_then, plain_records, crlf_lines, copied}
use Rattle.report.specs.Listing.{records_in}
use Rattle.report.specs.Sorts.{plain_of}
use Rattle.twins.specs.Twins.{Passes, is_spare, Twins, Left, numbered, left_from, left}
use Rattle.twins.proofs.Aligning.{Blind, reads_alike}
use Rattle.twins.proofs.Checking.{class_blind, spare_unknown}

-- what the copy has of a record
abbrev plain_in : Meaning → List ℕ → Option (List ℕ)
plain_in m r = plain_of (sort_at m r) r

none_some : {A : Type 0} {x : A} → ◌≡◌ {A = Option A} None (Some x) → ⊥
none_some h = let z : ◌≡◌ {A = ℕ} 0 1 = cc in omega arith

module _ (m : Meaning) (r : List ℕ) (k : Kind) (i b : ℕ) (g : kind_at r ≡ Some k) (past : used k ≤ i) where
  -- a reserve position does not come into the copy
  blank_same : (j : Kind) → j ≡ k → blanked j (set r i b) ≡ blanked j r
  blank_same j e = ap (λ l. l ++ replicate (80 - used j) 32) (take-set-le (used j) r i b (omega (arith, past, ap used e)))

  by_class : (c : Class) → Seen m r c → plain_of (sort_of c) (set r i b) ≡ plain_of (sort_of c) r
  by_class _ (classes.bad e) = refl
  by_class _ (classes.core c j e h u) = let same : j ≡ k = cc in ap (λ l. Some l) (blank_same j same)
  by_class _ (classes.rider c v e h l) = absurd (none_some (sym h ∙ g))
  by_class _ (classes.unknown c e h u) = refl

plain_blind : (m : Meaning) → Blind (plain_in m)
plain_blind m r k i b w g past within t =
    ap (λ c. plain_of (sort_of c) (set r i b)) (class_blind m r k i b w g past within t) ∙ by_class m r k i b g past (class_of m r) (seen m r)

-- the records that are there
abbrev there : List (Option (List ℕ)) → List (List ℕ)
there [] = []
there (o ∷ os) = record_then o (there os)

module _ (spare : ℕ → Bool) (m : Meaning) (pass : Passes spare m) where
  abbrev copies : List Left → List (List ℕ)
  copies ls = there (map (λ (l : Left). plain_in m l.bytes) ls)

  later : (rs : List (List ℕ)) (n : ℕ) → plain_records m rs ≡ copies (left_from spare n rs)
  later [] n = refl
  later (r ∷ rs) n = by (is_spare spare r) refl (later rs (suc n))
    where
      by : (b : Bool) → is_spare spare r ≡ b → plain_records m rs ≡ copies (left_from spare (suc n) rs)
          → record_then (plain_in m r) (plain_records m rs) ≡ copies (cond b (left_from spare (suc n) rs) (numbered n r ∷ left_from spare (suc n) rs))
      by true e h = ap (λ c. record_then (plain_of (sort_of c) r) (plain_records m rs)) (spare_unknown spare m pass r e) ∙ h
      by false e h = ap (record_then (plain_in m r)) h

  all : (rs : List (List ℕ)) → plain_records m rs ≡ copies (left spare rs)
  all [] = refl
  all (r ∷ rs) = ap (record_then (plain_in m r)) (later rs 2)

  pub twin_copies : (a b : List ℕ) → Twins spare a b → copied m (records_in a) ≡ copied m (records_in b)
  twin_copies a b t =
      ap crlf_lines
      (all (records_in a) ∙ ap there (reads_alike spare (Option (List ℕ)) (plain_in m) (plain_blind m) a b t) ∙ sym (all (records_in b)))
