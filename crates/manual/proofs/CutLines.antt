-- Bytes are cut into slots line by line.
use Rattle.std.proofs.Common.{◌≡◌, ℕ, ◌⊎◌, List, [], ◌∷◌, ◌++◌, map, take, drop, Some, None, Option, refl, ap, ◌∙◌, inl, inr}
use Rattle.record.specs.declared.lines.LineEnd.{LineEnd}
use Rattle.record.specs.Lines.{cut, width}
use Rattle.manual.specs.Slots.{Slot, whole, broken, after_cut, slots}
use Rattle.manual.specs.Manual.{Line, laid, records}
use Rattle.manual.proofs.Cutting.{slots-step}
use Rattle.manual.proofs.Lines.{in_front, slots-laid}
use Rattle.manual.proofs.Slotting.{cut_parts}

front_records : (ls : List Line) (ss : List Slot) → in_front ls ss ≡ map whole (records ls) ++ ss
front_records [] ss = refl
front_records (l ∷ ls) ss = ap (λ x. whole l.bytes ∷ x) (front_records ls ss)

pub cut_at_lines : (ls : List Line) (rest : List ℕ) → slots (laid ls rest) ≡ map whole (records ls) ++ slots rest
cut_at_lines ls rest = slots-laid ls rest ∙ front_records ls (slots rest)

pub line_or_none : (b : ℕ) (bs : List ℕ) → (slots (b ∷ bs) ≡ broken ∷ []) ⊎ ((l : Line) × (rest : List ℕ) × (b ∷ bs ≡ laid (l ∷ []) rest))
line_or_none b bs = by (cut (b ∷ bs)) refl
  where
    by : (o : Option LineEnd) → cut (b ∷ bs) ≡ o → (slots (b ∷ bs) ≡ broken ∷ []) ⊎ ((l : Line) × (rest : List ℕ) × (b ∷ bs ≡ laid (l ∷ []) rest))
    by None e = inl (slots-step b bs ∙ ap (λ o. after_cut o (broken ∷ []) (λ f. whole (take 80 (b ∷ bs)) ∷ slots (drop (width f) (b ∷ bs)))) e)
    by (Some f) e =
        let p = cut_parts (b ∷ bs) f e in
        inr (record { bytes = take 80 (b ∷ bs); ending = f; is_whole = p.0 }, drop (width f) (b ∷ bs), p.1)
