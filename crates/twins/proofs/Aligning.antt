-- What twins have in common: whatever is read of a record without its reserve positions is the same of the records left, and so is what
-- stands behind the whole records.
use Rattle.std.proofs.Common.{◌≡◌, ℕ, suc, ◌<◌, ◌≤◌, Bool, true, false, cond, List, [], ◌∷◌, map, get_or, set, Some, sym, refl, ap, ◌∙◌, get_or-set_other, arith}
use Rattle.std.proofs.lemmas.Bool.{cond-true}
use Rattle.field.specs.Bytes.{is_text}
use Rattle.record.specs.declared.kinds.Kind.{Kind}
use Rattle.record.specs.declared.lines.LineEnd.{LineEnd}
use Rattle.record.specs.Reserve.{used}
use Rattle.record.specs.Editions.{Whole}
use Rattle.record.specs.Codes.{code_at, code_in}
use Rattle.record.specs.Laws.{kind_at}
use Rattle.record.proofs.Refilling.{whole_set, names_code}
use Rattle.manual.specs.Slots.{Slot, whole, broken, slots, front}
use Rattle.manual.specs.Manual.{Line, laid}
use Rattle.manual.proofs.Lines.{slots-one}
use Rattle.report.specs.Listing.{records_in}
use Rattle.twins.specs.Twins.{spare_code, is_spare, one_line, Change, put_in, refill, end_by, Twins, same, change, back, join, Left, numbered, left_from, left}

-- whether bytes are left behind the whole records
abbrev pub cut_short : List Slot → Bool
cut_short [] = false
cut_short (whole r ∷ ss) = cut_short ss
cut_short (broken ∷ ss) = true

-- the records of lines in front of others
abbrev behind : List Line → List Slot → List Slot
behind [] ss = ss
behind (l ∷ ls) ss = whole l.bytes ∷ behind ls ss

slots-behind : (ls : List Line) (rest : List ℕ) → slots (laid ls rest) ≡ behind ls (slots rest)
slots-behind [] rest = refl
slots-behind (l ∷ ls) rest = slots-one l.bytes l.ending (laid ls rest) l.is_whole ∙ ap (λ t. whole l.bytes ∷ t) (slots-behind ls rest)

slots_place : (ls : List Line) (r : List ℕ) (e : LineEnd) (rest : List ℕ) → Whole r → slots (laid ls (one_line r e rest)) ≡ behind ls (whole r ∷ slots rest)
slots_place ls r e rest w = slots-behind ls (one_line r e rest) ∙ ap (behind ls) (slots-one r e rest w)

short_behind : (ls : List Line) (ss : List Slot) → cut_short (behind ls ss) ≡ cut_short ss
short_behind [] ss = refl
short_behind (l ∷ ls) ss = short_behind ls ss

-- a reserve position is not among the two code digits
same_code : (r : List ℕ) (k : Kind) (i b : ℕ) → used k ≤ i → code_in (set r i b) ≡ code_in r
same_code r k i b h =
    let p : 2 ≤ used k = (names_code k).0 in
    let x : get_or (set r i b) 0 0 ≡ get_or r 0 0 = get_or-set_other r i 0 b 0 (λ e. omega arith) in
    let y : get_or (set r i b) 1 0 ≡ get_or r 1 0 = get_or-set_other r i 1 b 0 (λ e. omega arith) in
    λ j. code_at (x j) (y j)

-- what is read of a record, whatever its reserve positions hold
abbrev pub Blind : {X : Type 0} → (List ℕ → X) → Type 0
Blind reads = (r : List ℕ) (k : Kind) (i b : ℕ) → Whole r → kind_at r ≡ Some k → used k ≤ i → i < 80 → is_text b ≡ true → reads (set r i b) ≡ reads r

module _ (spare : ℕ → Bool) (X : Type 0) (reads : List ℕ → X) (blind : Blind reads) where
  -- what is read of the records left, behind the first
  abbrev later : List (List ℕ) → List X
  later [] = []
  later (r ∷ rs) = cond (is_spare spare r) (later rs) (reads r ∷ later rs)

  abbrev all : List (List ℕ) → List X
  all [] = []
  all (r ∷ rs) = reads r ∷ later rs

  later_left : (rs : List (List ℕ)) (n : ℕ) → map (λ (l : Left). reads l.bytes) (left_from spare n rs) ≡ later rs
  later_left [] n = refl
  later_left (r ∷ rs) n = by (is_spare spare r) (later_left rs (suc n))
    where
      by : (b : Bool) → map (λ (l : Left). reads l.bytes) (left_from spare (suc n) rs) ≡ later rs
          → map (λ (l : Left). reads l.bytes) (cond b (left_from spare (suc n) rs) (numbered n r ∷ left_from spare (suc n) rs)) ≡ cond b (later rs) (reads r ∷ later rs)
      by true h = h
      by false h = ap (λ t. reads r ∷ t) h

  all_left : (rs : List (List ℕ)) → map (λ (l : Left). reads l.bytes) (left spare rs) ≡ all rs
  all_left [] = refl
  all_left (r ∷ rs) = ap (λ t. reads r ∷ t) (later_left rs 2)

  later_behind : (ls : List Line) (ss ts : List Slot) → later (front ss) ≡ later (front ts) → later (front (behind ls ss)) ≡ later (front (behind ls ts))
  later_behind [] ss ts h = h
  later_behind (l ∷ ls) ss ts h = ap (λ t. cond (is_spare spare l.bytes) t (reads l.bytes ∷ t)) (later_behind ls ss ts h)

  all_behind : (l : Line) (ls : List Line) (ss ts : List Slot) → later (front ss) ≡ later (front ts) → all (front (behind (l ∷ ls) ss)) ≡ all (front (behind (l ∷ ls) ts))
  all_behind l ls ss ts h = ap (λ t. reads l.bytes ∷ t) (later_behind ls ss ts h)

  -- two records of which the same is read, in one place
  all_place : (ls : List Line) (r q : List ℕ) (ss : List Slot) → reads r ≡ reads q → code_in r ≡ code_in q → all (front (behind ls (whole r ∷ ss))) ≡ all (front (behind ls (whole q ∷ ss)))
  all_place [] r q ss e c = ap (λ x. x ∷ later (front ss)) e
  all_place (l ∷ ls) r q ss e c = all_behind l ls (whole r ∷ ss) (whole q ∷ ss) (λ i. cond (spare_code spare (c i)) (later (front ss)) (e i ∷ later (front ss)))

  pub record Aligned (a b : List ℕ) : Type 0 where
    pub reading : all (records_in a) ≡ all (records_in b)
    pub ending : cut_short (slots a) ≡ cut_short (slots b)

  from_slots : (a b : List ℕ) (ss ts : List Slot) → slots a ≡ ss → slots b ≡ ts → all (front ss) ≡ all (front ts) → cut_short ss ≡ cut_short ts → Aligned a b
  from_slots a b ss ts p q r e = record { reading = ap (λ x. all (front x)) p ∙ r ∙ ap (λ x. all (front x)) (sym q); ending = ap cut_short p ∙ e ∙ ap cut_short (sym q) }

  changed : (a b : List ℕ) → Change spare a b → Aligned a b
  changed _ _ (put_in l ls u rest h) =
      from_slots _ _ (behind (l ∷ ls) (slots rest)) (behind (l ∷ ls) (whole u.bytes ∷ slots rest))
      (slots-behind (l ∷ ls) rest) (slots_place (l ∷ ls) u.bytes u.ending rest u.is_whole)
      (all_behind l ls (slots rest) (whole u.bytes ∷ slots rest) (sym (cond-true _ _ _ h)))
      (short_behind (l ∷ ls) (slots rest) ∙ sym (short_behind (l ∷ ls) (whole u.bytes ∷ slots rest)))
  changed _ _ (refill ls l rest k i b e past within t) =
      from_slots _ _ (behind ls (whole l.bytes ∷ slots rest)) (behind ls (whole (set l.bytes i b) ∷ slots rest))
      (slots_place ls l.bytes l.ending rest l.is_whole) (slots_place ls (set l.bytes i b) l.ending rest (whole_set l.bytes i b l.is_whole t))
      (all_place ls l.bytes (set l.bytes i b) (slots rest) (sym (blind l.bytes k i b l.is_whole e past within t)) (sym (same_code l.bytes k i b past)))
      (short_behind ls (whole l.bytes ∷ slots rest) ∙ sym (short_behind ls (whole (set l.bytes i b) ∷ slots rest)))
  changed _ _ (end_by ls l rest end) =
      from_slots _ _ _ _ (slots_place ls l.bytes l.ending rest l.is_whole) (slots_place ls l.bytes end rest l.is_whole) refl refl

  aligned : (a b : List ℕ) → Twins spare a b → Aligned a b
  aligned _ _ (same a) = record { reading = refl; ending = refl }
  aligned _ _ (change a b c) = changed a b c
  aligned _ _ (back a b t) = let h = aligned a b t in record { reading = sym h.reading; ending = sym h.ending }
  aligned _ _ (join a b c t u) =
      let h = aligned a b t in
      let k = aligned b c u in
      record { reading = h.reading ∙ k.reading; ending = h.ending ∙ k.ending }

  -- the same is read of the records left in twins, in order
  pub reads_alike : (a b : List ℕ) → Twins spare a b → map (λ (l : Left). reads l.bytes) (left spare (records_in a)) ≡ map (λ (l : Left). reads l.bytes) (left spare (records_in b))
  reads_alike a b t = all_left (records_in a) ∙ (aligned a b t).reading ∙ sym (all_left (records_in b))

-- twins both end with their whole records, or neither does
pub ends_alike : (spare : ℕ → Bool) (a b : List ℕ) → Twins spare a b → cut_short (slots a) ≡ cut_short (slots b)
ends_alike spare a b t = (aligned spare ℕ (λ r. 0) (λ r k i b w e past within t. refl) a b t).ending

-- What is read of the first record, if there is one.

abbrev pub first_read : {X : Type 0} → (List ℕ → X) → X → List (List ℕ) → X
first_read reads none [] = none
first_read reads none (r ∷ rs) = reads r

abbrev head_or : {X : Type 0} → X → List X → X
head_or none [] = none
head_or none (x ∷ xs) = x

module _ (spare : ℕ → Bool) (X : Type 0) (reads : List ℕ → X) (blind : Blind reads) (none : X) where
  first_left : (rs : List (List ℕ)) → first_read reads none rs ≡ head_or none (map (λ (l : Left). reads l.bytes) (left spare rs))
  first_left [] = refl
  first_left (r ∷ rs) = refl

  pub firsts_alike : (a b : List ℕ) → Twins spare a b → first_read reads none (records_in a) ≡ first_read reads none (records_in b)
  firsts_alike a b t = first_left (records_in a) ∙ ap (head_or none) (reads_alike spare X reads blind a b t) ∙ sym (first_left (records_in b))
