-- The records of a copy beside those that it copies.
use Rattle.std.proofs.Common.{◌≡◌, ℕ, suc, ◌+◌, ◌-◌, ◌*◌, List, [], ◌∷◌, ◌++◌, map, length, get_or, drop, replicate, Some, None, Ok, Option, ◌≢◌, sym, refl, ap, ◌∙◌, subst, append_assoc, arith, length-append}
use Rattle.std.specs.List.{between, AllByRecursion}
use Rattle.std.proofs.Math.Seq.{get_or-append_seam}
use Rattle.record.specs.declared.kinds.Kind.{Kind}
use Rattle.record.specs.declared.fields.Core.{Core}
use Rattle.record.specs.declared.fields.Core.TheVariants as fields
use Rattle.record.specs.declared.classes.Class.{Class}
use Rattle.record.specs.declared.classes.Class.TheVariants as class
use Rattle.record.specs.declared.classes.Rider.{Rider}
use Rattle.record.specs.declared.rows.Row.{Row}
use Rattle.record.specs.Layouts.{read_core}
use Rattle.record.specs.Reserve.{used, blanked}
use Rattle.record.specs.Rows.{row_of, bare_row}
use Rattle.record.specs.Classes.{class_of}
use Rattle.record.specs.Editions.{Meaning, Whole}
use Rattle.record.specs.Laws.{kind_at}
use Rattle.manual.proofs.Classes as classes
use Rattle.manual.proofs.Classes.{Seen, seen}
use Rattle.report.specs.Rows.{row_in, row_then, rows_from}
use Rattle.report.proofs.Sorting.{plain_by}
use Rattle.report.specs.Copies.{record_then, plain_records, crlf_lines}
use Rattle.report.specs.Stands.{ReserveBlank, number_then, kept_from, with_number, numbered_from, named_in, plain_or, plain_at}
use Rattle.report.proofs.Blanked.{blank_kind, blank_class, blank_rest, blank_again}
use Rattle.report.proofs.Same.{All-whole, of_class}

-- a core record can be read
abbrev pub Readable : List ℕ → Type 0
Readable r = (k : Kind) → kind_at r ≡ Some k → (f : Core) × (read_core k (between 2 (length r) r) ≡ Ok f)

abbrev pub All-readable : List (List ℕ) → Type 0
All-readable rs = AllByRecursion Readable rs

-- records, and those of their copy
pub data Copying (m : Meaning) : List (List ℕ) → List (List ℕ) → Type 0 where
  none : Copying m [] []
  core : (k : Kind) (f : Core) (r : List ℕ) (rs ps : List (List ℕ)) → Whole r → kind_at r ≡ Some k → class_of m r ≡ class.Core k (Ok f) → class_of m (blanked k r) ≡ class.Core k (Ok f)
      → Copying m rs ps → Copying m (r ∷ rs) (blanked k r ∷ ps)
  rider : (x : Rider) (r : List ℕ) (rs ps : List (List ℕ)) → Whole r → kind_at r ≡ None → class_of m r ≡ class.Rider x → Copying m rs ps → Copying m (r ∷ rs) (r ∷ ps)
  bad : (r : List ℕ) (rs ps : List (List ℕ)) → class_of m r ≡ class.BadCode → Copying m rs ps → Copying m (r ∷ rs) ps
  unknown : (r : List ℕ) (rs ps : List (List ℕ)) → class_of m r ≡ class.Unknown → Copying m rs ps → Copying m (r ∷ rs) ps

module _ (m : Meaning) where
  copying_one : (r : List ℕ) (rs : List (List ℕ)) (l : Class) → class_of m r ≡ l → Seen m r l → Whole r → Readable r → Copying m rs (plain_records m rs)
      → Copying m (r ∷ rs) (record_then (plain_by l r) (plain_records m rs))
  copying_one r rs _ h (classes.bad e) w d on = bad r rs (plain_records m rs) h on
  copying_one r rs _ h (classes.core c k e g u) w d on =
      let f = d k g in
      let is : class_of m r ≡ class.Core k (Ok f.0) = h ∙ ap (class.Core k) f.1 in
      core k f.0 r rs (plain_records m rs) w g is (blank_class k r w m g ∙ is) on
  copying_one r rs _ h (classes.rider c v e g k) w d on = rider _ r rs (plain_records m rs) w g h on
  copying_one r rs _ h (classes.unknown c e g u) w d on = unknown r rs (plain_records m rs) h on

  pub copying : (rs : List (List ℕ)) → All-whole rs → All-readable rs → Copying m rs (plain_records m rs)
  copying [] w d = none
  copying (r ∷ rs) w d = copying_one r rs (class_of m r) refl (seen m r) w.0 d.0 (copying rs w.1 d.1)

-- Rows.

row_number : (n : ℕ) (f : Core) → (row_of n f).number ≡ n
row_number n (fields.Start x) = refl
row_number n (fields.Opening x) = refl
row_number n (fields.Deposit x) = refl
row_number n (fields.Payment x) = refl
row_number n (fields.Deduction x) = refl
row_number n (fields.ExtraReference x) = refl
row_number n (fields.NegativeReference x) = refl
row_number n fields.Information = refl
row_number n fields.Name = refl
row_number n fields.AddressOne = refl
row_number n fields.AddressTwo = refl
row_number n (fields.CompanyNumber x) = refl
row_number n (fields.End x) = refl

row_but_number : (n j : ℕ) (f : Core) → row_of n f ≡ with_number n (row_of j f)
row_but_number n j (fields.Start x) = refl
row_but_number n j (fields.Opening x) = refl
row_but_number n j (fields.Deposit x) = refl
row_but_number n j (fields.Payment x) = refl
row_but_number n j (fields.Deduction x) = refl
row_but_number n j (fields.ExtraReference x) = refl
row_but_number n j (fields.NegativeReference x) = refl
row_but_number n j fields.Information = refl
row_but_number n j fields.Name = refl
row_but_number n j fields.AddressOne = refl
row_but_number n j fields.AddressTwo = refl
row_but_number n j (fields.CompanyNumber x) = refl
row_but_number n j (fields.End x) = refl

none_some : {A : Type 0} {x : A} → ◌≡◌ {A = Option A} None (Some x) → ⊥
none_some h = let z : ◌≡◌ {A = ℕ} 0 1 = cc in omega arith

some_same : {A : Type 0} {x y : A} → ◌≡◌ {A = Option A} (Some x) (Some y) → x ≡ y
some_same h = cc

-- THE PROMISES, record by record.

module _ (m : Meaning) where
  pub known_all : (rs ps : List (List ℕ)) → Copying m rs ps → AllByRecursion (λ r. class_of m r ≢ class.Unknown) ps
  known_all _ _ none = tt
  known_all _ _ (core k f r rs ps w g c b on) = ((λ h. let q : class.Core k (Ok f) ≡ class.Unknown = sym b ∙ h in let z : ◌≡◌ {A = ℕ} 0 1 = cc in omega arith), known_all rs ps on)
  known_all _ _ (rider x r rs ps w g c on) = ((λ h. let q : class.Rider x ≡ class.Unknown = sym c ∙ h in let z : ◌≡◌ {A = ℕ} 0 1 = cc in omega arith), known_all rs ps on)
  known_all _ _ (bad r rs ps c on) = known_all rs ps on
  known_all _ _ (unknown r rs ps c on) = known_all rs ps on

  pub blank_all : (rs ps : List (List ℕ)) → Copying m rs ps → AllByRecursion ReserveBlank ps
  blank_all _ _ none = tt
  blank_all _ _ (core k f r rs ps w g c b on) = (
    (λ j h.
        let same : k ≡ j = some_same (sym (blank_kind k r w ∙ g) ∙ h) in
        subst (λ i. drop (used i) (blanked k r) ≡ replicate (80 - used i) 32) same (blank_rest k r w)),
    blank_all rs ps on,
  )
  blank_all _ _ (rider x r rs ps w g c on) = ((λ j h. absurd (none_some (sym g ∙ h))), blank_all rs ps on)
  blank_all _ _ (bad r rs ps c on) = blank_all rs ps on
  blank_all _ _ (unknown r rs ps c on) = blank_all rs ps on

  -- the row of a record that has one, and those behind it
  row_first : (n : ℕ) (r : List ℕ) (rs : List (List ℕ)) (l : Class) → class_of m r ≡ l → rows_from m n (r ∷ rs) ≡ row_then (row_in n l) (rows_from m (suc n) rs)
  row_first n r rs l e = ap (λ x. row_then (row_in n x) (rows_from m (suc n) rs)) e

  pub same_rows : (rs ps : List (List ℕ)) → Copying m rs ps → (n j : ℕ) → rows_from m n ps ≡ numbered_from n (rows_from m j rs)
  same_rows _ _ none n j = refl
  same_rows _ _ (core k f r rs ps w g c b on) n j =
      row_first n (blanked k r) ps (class.Core k (Ok f)) b ∙ (λ i. row_but_number n j f i ∷ same_rows rs ps on (suc n) (suc j) i) ∙ sym (ap (numbered_from n) (row_first j r rs (class.Core k (Ok f)) c))
  same_rows _ _ (rider x r rs ps w g c on) n j =
      row_first n r ps (class.Rider x) c ∙ ap (λ l. bare_row n x.code ∷ l) (same_rows rs ps on (suc n) (suc j)) ∙ sym (ap (numbered_from n) (row_first j r rs (class.Rider x) c))
  same_rows _ _ (bad r rs ps c on) n j = same_rows rs ps on n (suc j) ∙ sym (ap (numbered_from n) (row_first j r rs class.BadCode c))
  same_rows _ _ (unknown r rs ps c on) n j = same_rows rs ps on n (suc j) ∙ sym (ap (numbered_from n) (row_first j r rs class.Unknown c))

  -- the rows have the numbers of the records that the copy keeps
  kept_first : (n : ℕ) (r : List ℕ) (rs : List (List ℕ)) (l : Class) → class_of m r ≡ l → kept_from m n (r ∷ rs) ≡ number_then (plain_by l r) n (kept_from m (suc n) rs)
  kept_first n r rs l e = ap (λ x. number_then (plain_by x r) n (kept_from m (suc n) rs)) e

  pub same_places : (rs ps : List (List ℕ)) → Copying m rs ps → (n : ℕ) → map (λ (x : Row). x.number) (rows_from m n rs) ≡ kept_from m n rs
  same_places _ _ none n = refl
  same_places _ _ (core k f r rs ps w g c b on) n =
      ap (map (λ (x : Row). x.number)) (row_first n r rs (class.Core k (Ok f)) c) ∙ (λ i. row_number n f i ∷ same_places rs ps on (suc n) i) ∙ sym (kept_first n r rs (class.Core k (Ok f)) c)
  same_places _ _ (rider x r rs ps w g c on) n =
      ap (map (λ (y : Row). y.number)) (row_first n r rs (class.Rider x) c) ∙ ap (λ l. n ∷ l) (same_places rs ps on (suc n)) ∙ sym (kept_first n r rs (class.Rider x) c)
  same_places _ _ (bad r rs ps c on) n =
      ap (map (λ (x : Row). x.number)) (row_first n r rs class.BadCode c) ∙ same_places rs ps on (suc n) ∙ sym (kept_first n r rs class.BadCode c)
  same_places _ _ (unknown r rs ps c on) n =
      ap (map (λ (x : Row). x.number)) (row_first n r rs class.Unknown c) ∙ same_places rs ps on (suc n) ∙ sym (kept_first n r rs class.Unknown c)

  pub as_many : (rs ps : List (List ℕ)) → Copying m rs ps → (n : ℕ) → length ps ≡ length (rows_from m n rs)
  as_many _ _ none n = refl
  as_many _ _ (core k f r rs ps w g c b on) n = ap suc (as_many rs ps on (suc n)) ∙ sym (ap length (row_first n r rs (class.Core k (Ok f)) c))
  as_many _ _ (rider x r rs ps w g c on) n = ap suc (as_many rs ps on (suc n)) ∙ sym (ap length (row_first n r rs (class.Rider x) c))
  as_many _ _ (bad r rs ps c on) n = as_many rs ps on (suc n) ∙ sym (ap length (row_first n r rs class.BadCode c))
  as_many _ _ (unknown r rs ps c on) n = as_many rs ps on (suc n) ∙ sym (ap length (row_first n r rs class.Unknown c))

  -- a copy is its own copy
  pub self_copy : (rs ps : List (List ℕ)) → Copying m rs ps → plain_records m ps ≡ ps
  self_copy _ _ none = refl
  self_copy _ _ (core k f r rs ps w g c b on) = of_class m (blanked k r) ps (class.Core k (Ok f)) b ∙ (λ i. blank_again k r w i ∷ self_copy rs ps on i)
  self_copy _ _ (rider x r rs ps w g c on) = of_class m r ps (class.Rider x) c ∙ ap (λ l. r ∷ l) (self_copy rs ps on)
  self_copy _ _ (bad r rs ps c on) = self_copy rs ps on
  self_copy _ _ (unknown r rs ps c on) = self_copy rs ps on

-- each record with its line end takes 82 bytes
pub eighty_two : (rs : List (List ℕ)) → All-whole rs → length (crlf_lines rs) ≡ 82 * length rs
eighty_two [] w = refl
eighty_two (r ∷ rs) w = omega (arith, length-append r (13 ∷ 10 ∷ crlf_lines rs), w.0.0, eighty_two rs w.1)

-- Numbers: row by row, the record that the row names.

module _ (m : Meaning) (all : List (List ℕ)) where
  abbrev named_copy : Row → List ℕ
  named_copy x = plain_at m (named_in all x)

  at_place : (before : List (List ℕ)) (r : List ℕ) (rs : List (List ℕ)) (n j : ℕ) → all ≡ before ++ r ∷ rs → n ≡ length before + 1 → j ≡ n → get_or all (j - 1) [] ≡ r
  at_place before r rs n j e is same =
      let i : j - 1 ≡ length before = omega (arith, is, same) in
      (λ t. get_or (e t) (i t) []) ∙ get_or-append_seam before r rs []

  further : (before : List (List ℕ)) (r : List ℕ) (rs : List (List ℕ)) → all ≡ before ++ r ∷ rs → all ≡ (before ++ r ∷ []) ++ rs
  further before r rs e = e ∙ sym (append_assoc before (r ∷ []) rs)

  longer : (before : List (List ℕ)) (r : List ℕ) (n : ℕ) → n ≡ length before + 1 → suc n ≡ length (before ++ r ∷ []) + 1
  longer before r n is = omega (arith, is, length-append before (r ∷ []))

  copy_at : (r : List ℕ) (l : Class) (p x : List ℕ) → class_of m r ≡ l → plain_or (plain_by l r) ≡ p → x ≡ r → p ≡ plain_at m x
  copy_at r l p x c is same = sym (ap (plain_at m) same ∙ ap (λ y. plain_or (plain_by y r)) c ∙ is)

  pub named_copies : (rs ps : List (List ℕ)) → Copying m rs ps → (before : List (List ℕ)) (n : ℕ) → all ≡ before ++ rs → n ≡ length before + 1 → ps ≡ map named_copy (rows_from m n rs)
  named_copies _ _ none before n e is = refl
  named_copies _ _ (core k f r rs ps w g c b on) before n e is =
      (λ i. copy_at r (class.Core k (Ok f)) (blanked k r) (named_in all (row_of n f)) c refl (at_place before r rs n (row_of n f).number e is (row_number n f)) i
      ∷ named_copies rs ps on (before ++ r ∷ []) (suc n) (further before r rs e) (longer before r n is) i)
      ∙ sym (ap (map named_copy) (row_first m n r rs (class.Core k (Ok f)) c))
  named_copies _ _ (rider x r rs ps w g c on) before n e is =
      (λ i. copy_at r (class.Rider x) r (get_or all (n - 1) []) c refl (at_place before r rs n n e is refl) i
      ∷ named_copies rs ps on (before ++ r ∷ []) (suc n) (further before r rs e) (longer before r n is) i)
      ∙ sym (ap (map named_copy) (row_first m n r rs (class.Rider x) c))
  named_copies _ _ (bad r rs ps c on) before n e is =
      named_copies rs ps on (before ++ r ∷ []) (suc n) (further before r rs e) (longer before r n is) ∙ sym (ap (map named_copy) (row_first m n r rs class.BadCode c))
  named_copies _ _ (unknown r rs ps c on) before n e is =
      named_copies rs ps on (before ++ r ∷ []) (suc n) (further before r rs e) (longer before r n is) ∙ sym (ap (map named_copy) (row_first m n r rs class.Unknown c))
