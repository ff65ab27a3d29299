-- The rows of a file that follows the manual are those of its reading's leaves and of its riders.
use Rattle.std.proofs.Common.{◌≡◌, ℕ, suc, true, List, [], ◌∷◌, map, length, is_some, Some, None, Ok, Err, Option, Result, sym, refl, ap, ◌∙◌, subst, arith}
use Rattle.std.specs.List.{between, AllByRecursion}
use Rattle.std.proofs.lemmas.Bool.{false≢true}
use Rattle.field.specs.Chains.{then, and_then}
use Rattle.record.specs.declared.kinds.Kind.{Kind}
use Rattle.record.specs.declared.fields.Core.{Core}
use Rattle.record.specs.declared.editions.Level.{Level}
use Rattle.record.specs.declared.rows.Row.{Row}
use Rattle.record.specs.declared.classes.Class.{Class}
use Rattle.record.specs.Kinds.{kind_of}
use Rattle.record.specs.Codes.{code_in}
use Rattle.record.specs.Layouts.{read_core}
use Rattle.record.specs.Reserve.{used}
use Rattle.record.specs.Classes.{class_of}
use Rattle.record.specs.Editions.{Meaning}
use Rattle.record.specs.Laws.{kind_at}
use Rattle.record.specs.Rows.{bare_row, row_of}
use Rattle.manual.specs.Manual.{records, Read, RiderAt, Reading, leaf, leaves, read_by, core_then, cores, riders_from, riders_of, Follows}
use Rattle.manual.proofs.Classes as classes
use Rattle.manual.proofs.Classes.{Seen, seen}
use Rattle.report.specs.Rows.{row_read, row_in, row_then, rows_from, rows_of}
use Rattle.report.specs.Listing.{records_in, RowsStand, Lists, none, core, rider, unknown}
use Rattle.manual.proofs.Accepting.{front_lines}
use Rattle.manual.proofs.Ridden.{riders_by, riders_seen}

then_ok : {A B E : Type 0} (o : Result A E) (go : A → Result B E) (y : B) → then o go ≡ Ok y → (x : A) × (o ≡ Ok x) × (go x ≡ Ok y)
then_ok (Ok x) go y h = (x, refl, h)
then_ok (Err e) go y h = let z : ◌≡◌ {A = ℕ} 0 1 = cc in absurd (omega arith)

module _ (m : Meaning) where
  -- a record, number n and behind j core records, in front of others whose rows are listed
  module _ (n j : ℕ) (r : List ℕ) (rs : List (List ℕ))
      (go : (i : ℕ) (ys : List (Read Core)) → cores rs ≡ map Ok ys → Lists m (suc n) i rs ys (riders_from m i rs) (rows_from m (suc n) rs)) where
    core_row : (k : Kind) (ls : List (Read Core)) → kind_at r ≡ Some k → read_by k r ∷ cores rs ≡ map Ok ls
        → Lists m n j (r ∷ rs) ls (riders_from m (suc j) rs) (row_then (row_read n (read_core k (between 2 (length r) r))) (rows_from m (suc n) rs))
    core_row k [] g h = let z : ◌≡◌ {A = ℕ} 0 1 = cc in absurd (omega arith)
    core_row k (l ∷ ls) g h =
        let first : read_by k r ≡ Ok l = cc in
        let rest : cores rs ≡ map Ok ls = cc in
        let by = then_ok (read_core k (between 2 (length r) r)) (λ c. Ok (leaf c (between 2 (used k) r))) l first in
        let q = by.2 in
        let same_leaf : leaf by.0 (between 2 (used k) r) ≡ l = cc in
        let same : by.0 ≡ l.fields = ap (λ (x : Read Core). x.fields) same_leaf in
        let read : read_core k (between 2 (length r) r) ≡ Ok l.fields = by.1 ∙ ap Ok same in
        subst (λ o. Lists m n j (r ∷ rs) (l ∷ ls) (riders_from m (suc j) rs) (row_then (row_read n o) (rows_from m (suc n) rs))) (sym read)
        (core n j r rs k l ls (riders_from m (suc j) rs) (rows_from m (suc n) rs) g first (go (suc j) ls rest))

    by_class : (x : Class) → Seen m r x → is_some (code_in r) ≡ true → (ls : List (Read Core)) → cores (r ∷ rs) ≡ map Ok ls
        → Lists m n j (r ∷ rs) ls (riders_by x j r (λ i. riders_from m i rs)) (row_then (row_in n x) (rows_from m (suc n) rs))
    by_class _ (classes.bad e) coded ls h = absurd (false≢true (sym (ap is_some e) ∙ coded))
    by_class _ (classes.core c k e g u) coded ls h = core_row k ls g (sym (ap (λ y. core_then y r (cores rs)) g) ∙ h)
    by_class _ (classes.rider c v e g l) coded ls h =
        rider n j r rs c v ls (record { behind = j; bytes = r }) (riders_from m j rs) (rows_from m (suc n) rs) e l refl refl (go j ls (sym (ap (λ y. core_then y r (cores rs)) g) ∙ h))
    by_class _ (classes.unknown c e g u) coded ls h =
        unknown n j r rs c ls (riders_from m j rs) (rows_from m (suc n) rs) e g u (go j ls (sym (ap (λ y. core_then y r (cores rs)) g) ∙ h))

  along : (rs : List (List ℕ)) (n j : ℕ) (ls : List (Read Core)) → AllByRecursion (λ x. is_some (code_in x) ≡ true) rs → cores rs ≡ map Ok ls
      → Lists m n j rs ls (riders_from m j rs) (rows_from m n rs)
  along [] n j [] coded h = none n j
  along [] n j (l ∷ ls) coded h = let z : ◌≡◌ {A = ℕ} 0 1 = cc in absurd (omega arith)
  along (r ∷ rs) n j ls coded h =
      subst (λ xs. Lists m n j (r ∷ rs) ls xs (rows_from m n (r ∷ rs))) (sym (riders_seen m j r rs))
      (by_class n j r rs (λ i ys. along rs (suc n) i ys coded.1) (class_of m r) (seen m r) coded.0 ls h)

-- and no others are
none_some : {A : Type 0} {x : A} → ◌≡◌ {A = Option A} None (Some x) → ⊥
none_some h = let z : ◌≡◌ {A = ℕ} 0 1 = cc in omega arith

module _ (m : Meaning) (n : ℕ) (r : List ℕ) where
  core_is : (k : Kind) (l : Read Core) → kind_at r ≡ Some k → read_by k r ≡ Ok l → (x : Class) → Seen m r x → row_in n x ≡ Some (row_of n l.fields)
  core_is k l g h _ (classes.bad e) = absurd (none_some (sym (ap (λ o. and_then o kind_of) e) ∙ g))
  core_is k l g h _ (classes.core c j e f u) =
      let same : j ≡ k = cc in
      let by = then_ok (read_core k (between 2 (length r) r)) (λ c. Ok (leaf c (between 2 (used k) r))) l h in
      let q = by.2 in
      let same_leaf : leaf by.0 (between 2 (used k) r) ≡ l = cc in
      ap (λ x. row_read n (read_core x (between 2 (length r) r))) same ∙ ap (row_read n) by.1 ∙ ap (λ (x : Read Core). Some (row_of n x.fields)) same_leaf
  core_is k l g h _ (classes.rider c v e f u) = absurd (none_some (sym f ∙ g))
  core_is k l g h _ (classes.unknown c e f u) = absurd (none_some (sym f ∙ g))

  rider_is : (c : ℕ) (v : Level) → code_in r ≡ Some c → m.level c ≡ Some v → (x : Class) → Seen m r x → row_in n x ≡ Some (bare_row n c)
  rider_is c v g h _ (classes.bad e) = absurd (none_some (sym e ∙ g))
  rider_is c v g h _ (classes.core d k e f u) = let same : d ≡ c = cc in absurd (none_some (sym u ∙ ap m.level same ∙ h))
  rider_is c v g h _ (classes.rider d w e f u) = let same : d ≡ c = cc in ap (λ x. Some (bare_row n x)) same
  rider_is c v g h _ (classes.unknown d e f u) = let same : d ≡ c = cc in absurd (none_some (sym u ∙ ap m.level same ∙ h))

  unknown_is : (c : ℕ) → code_in r ≡ Some c → kind_at r ≡ None → m.level c ≡ None → (x : Class) → Seen m r x → row_in n x ≡ None
  unknown_is c g k h _ (classes.bad e) = refl
  unknown_is c g k h _ (classes.core d j e f u) = absurd (none_some (sym k ∙ f))
  unknown_is c g k h _ (classes.rider d w e f u) = let same : c ≡ d = cc in absurd (none_some (sym h ∙ ap m.level same ∙ u))
  unknown_is c g k h _ (classes.unknown d e f u) = refl

rows_are : (m : Meaning) (n j : ℕ) (rs : List (List ℕ)) (ls : List (Read Core)) (xs : List RiderAt) (rows : List Row) → Lists m n j rs ls xs rows → rows_from m n rs ≡ rows
rows_are m _ _ _ _ _ _ (none n j) = refl
rows_are m _ _ _ _ _ _ (core n j r rs k l ls xs rows g h on) = λ i. row_then (core_is m n r k l g h (class_of m r) (seen m r) i) (rows_are m (suc n) (suc j) rs ls xs rows on i)
rows_are m _ _ _ _ _ _ (rider n j r rs c v ls x xs rows g h e b on) = λ i. row_then (rider_is m n r c v g h (class_of m r) (seen m r) i) (rows_are m (suc n) j rs ls xs rows on i)
rows_are m _ _ _ _ _ _ (unknown n j r rs c ls xs rows g k h on) = λ i. row_then (unknown_is m n r c g k h (class_of m r) (seen m r) i) (rows_are m (suc n) j rs ls xs rows on i)

pub rows_stand : (m : Meaning) (rs : List (List ℕ)) → RowsStand m rs
rows_stand m rs = record {
  read = λ file r is f.
      let lies : records f.lines ≡ rs = sym (front_lines m file r f) ∙ is in
      subst (λ xs. Lists m 1 0 rs (leaves r.tree) xs (rows_of m rs)) (sym (ap (riders_of m) lies) ∙ f.ridden) (taken m file r is f);
  taken = taken;
  entry = λ t coded read. along m rs 1 0 (leaves t) coded read;
  only = λ ls ks xs ys rows others f g. sym (rows_are m 1 0 rs ls xs rows f) ∙ rows_are m 1 0 rs ks ys others g;
}
  where
    taken : (other : Meaning) (file : List ℕ) (r : Reading) → records_in file ≡ rs → Follows other file r → Lists m 1 0 rs (leaves r.tree) (riders_of m rs) (rows_of m rs)
    taken other file r is f =
        let lies : records f.lines ≡ rs = sym (front_lines other file r f) ∙ is in
        subst (λ x. Lists m 1 0 x (leaves r.tree) (riders_of m x) (rows_of m x)) lies (along m (records f.lines) 1 0 (leaves r.tree) f.reads.coded f.reads.read)
