-- Bytes whose slots are all whole records are lines of these records, and the other way round.
use Rattle.std.proofs.Common.{◌≡◌, ℕ, zero, suc, ◌≤◌, Bool, true, false, cond, leb, List, [], ◌∷◌, ◌++◌, map, length, take, drop, Some, None, Option, sym, refl, ap, ◌∙◌, arith}
use Rattle.std.proofs.lemmas.List.{take-append-drop, drop-drop, length-take-le}
use Rattle.std.proofs.lemmas.Bool.{and_parts, leb-true}
use Rattle.field.specs.Bytes.{is_text, every}
use Rattle.record.specs.declared.lines.LineEnd.{LineEnd}
use Rattle.record.specs.Editions.{Whole}
use Rattle.record.specs.Lines.{line_end, cut, width}
use Rattle.manual.specs.Slots.{Slot, whole, broken, after_cut, slots}
use Rattle.manual.specs.Manual.{Line, end_bytes, laid, records}
use Rattle.manual.proofs.Cutting.{fewer, slots_nil, slots-step}
use Rattle.manual.proofs.Lines.{end-width, slots-one}

-- the slots of lines are their records
pub slots-lines : (ls : List Line) → slots (laid ls []) ≡ map whole (records ls)
slots-lines [] = slots_nil
slots-lines (l ∷ ls) = slots-one l.bytes l.ending (laid ls []) l.is_whole ∙ ap (λ t. whole l.bytes ∷ t) (slots-lines ls)

-- bytes that begin with a line end
end-first : (bs : List ℕ) (e : LineEnd) → line_end bs ≡ Some e → bs ≡ end_bytes e ++ drop (length (end_bytes e)) bs
end-first [] e h = cc
end-first (a ∷ []) e h = grind arith
end-first (a ∷ b ∷ bs) e h = grind arith

-- what is there only if a test passes
tested : {A : Type 0} (b : Bool) (o : Option A) (x : A) → cond b o None ≡ Some x → (b ≡ true) × (o ≡ Some x)
tested true o x h = (refl, h)
tested false o x h = absurd (grind arith)

-- bytes that are cut: a whole record, its line end, and what is left
pub cut_parts : (bs : List ℕ) (e : LineEnd) → cut bs ≡ Some e → Whole (take 80 bs) × (bs ≡ take 80 bs ++ (end_bytes e ++ drop (width e) bs))
cut_parts bs e h =
    let t = tested _ (line_end (drop 80 bs)) e h in
    let p = and_parts (leb 80 (length bs)) (every is_text (take 80 bs)) t.0 in (
      (length-take-le 80 bs (leb-true 80 (length bs) p.0), p.1),
      sym (take-append-drop 80 bs) ∙ ap (λ r. take 80 bs ++ r) (end-first (drop 80 bs) e t.1
          ∙ ap (λ r. end_bytes e ++ r) (drop-drop (length (end_bytes e)) 80 bs ∙ ap (λ n. drop n bs) (end-width e))),
    )

-- a first slot that is a whole record, and those behind it
first_slot : (r : List ℕ) (go : LineEnd → List Slot) (o : Option LineEnd) (rs : List (List ℕ)) → after_cut o (broken ∷ []) (λ e. whole r ∷ go e) ≡ map whole rs
    → (e : LineEnd) × (qs : List (List ℕ)) × (o ≡ Some e) × (rs ≡ r ∷ qs) × (go e ≡ map whole qs)
first_slot r go None [] h = absurd (grind arith)
first_slot r go None (q ∷ qs) h = absurd (grind arith)
first_slot r go (Some e) [] h = absurd (grind arith)
first_slot r go (Some e) (q ∷ qs) h = (e, qs, refl, cc, cc)

-- these bytes are lines of these records
abbrev Lined : List ℕ → List (List ℕ) → Type 0
Lined bs rs = (ls : List Line) × (bs ≡ laid ls []) × (records ls ≡ rs)

-- a whole record with its line end, in front of lines
one_more : (bs r rest : List ℕ) (e : LineEnd) (rs qs : List (List ℕ)) → Whole r → bs ≡ r ++ (end_bytes e ++ rest) → rs ≡ r ∷ qs → Lined rest qs → Lined bs rs
one_more bs r rest e rs qs w p q on =
    (record { bytes = r; ending = e; is_whole = w } ∷ on.0, p ∙ ap (λ t. r ++ (end_bytes e ++ t)) on.1, ap (λ t. r ∷ t) on.2 ∙ sym q)

-- cut by cut, for bytes of a bounded length
lines_in : (n : ℕ) (bs : List ℕ) (rs : List (List ℕ)) → length bs ≤ n → slots bs ≡ map whole rs → Lined bs rs
lines_in n [] [] h e = ([], refl, refl)
lines_in n [] (r ∷ rs) h e = let z : ◌≡◌ {A = ℕ} 0 1 = cc slots_nil in absurd (omega arith)
lines_in zero (b ∷ bs) rs h e = absurd (omega arith)
lines_in (suc n) (b ∷ bs) rs h e =
    let f = first_slot (take 80 (b ∷ bs)) (λ f. slots (drop (width f) (b ∷ bs))) (cut (b ∷ bs)) rs (sym (slots-step b bs) ∙ e) in
    let c = cut_parts (b ∷ bs) f.0 f.2 in
    one_more (b ∷ bs) (take 80 (b ∷ bs)) (drop (width f.0) (b ∷ bs)) f.0 rs f.1 c.0 c.1 f.3
    (lines_in n (drop (width f.0) (b ∷ bs)) f.1 (fewer n b bs h f.0) f.4)

-- every cut shortens the bytes, so their own length is bound enough
pub lines-slots : (bs : List ℕ) (rs : List (List ℕ)) → slots bs ≡ map whole rs → (ls : List Line) × (bs ≡ laid ls []) × (records ls ≡ rs)
lines-slots bs rs e = lines_in (length bs) bs rs (omega arith) e
