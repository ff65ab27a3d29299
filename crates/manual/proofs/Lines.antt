-- Lines that are alike one by one, and then the same rest, give one answer.
use Rattle.std.proofs.Common.{◌≡◌, ℕ, suc, ◌+◌, ◌≤◌, true, cond, leb, List, [], ◌∷◌, ◌++◌, length, take, drop, Some, sym, refl, ap, ◌∙◌, arith, length-append}
use Rattle.std.proofs.lemmas.List.{take_at, drop_at, append_assoc}
use Rattle.std.proofs.lemmas.Bool.{cond-true, le-leb, and_from}
use Rattle.field.specs.Bytes.{is_text, every}
use Rattle.record.specs.declared.lines.LineEnd.{LineEnd}
use Rattle.record.specs.declared.lines.LineEnd.TheVariants.{Lf, CrLf}
use Rattle.record.specs.Lines.{line_end, cut, width}
use Rattle.record.specs.Classes.{class_of}
use Rattle.record.specs.Editions.{Meaning, Whole}
use Rattle.record.proofs.ClassLaws.{laws}
use Rattle.manual.specs.declared.faults.Cause.TheVariants as cause
use Rattle.manual.specs.Slots.{Slot, whole, broken, after_cut, slots}
use Rattle.manual.specs.Judging.{Mode, State, step, then_on, at_record, begin, judge, check_of}
use Rattle.manual.specs.Manual.{Line, end_bytes, laid}
use Rattle.manual.specs.Laws.{Alike, equal, refilled, AllAlike, none, more}
use Rattle.manual.proofs.Cutting.{slots-step}

-- The slots of lines and a rest.

ends : (e : LineEnd) (rest : List ℕ) → line_end (end_bytes e ++ rest) ≡ Some e
ends Lf rest = refl
ends CrLf rest = refl

pub end-width : (e : LineEnd) → 80 + length (end_bytes e) ≡ width e
end-width Lf = refl
end-width CrLf = refl

-- a whole record with its line end, in front of a rest: where it is cut, and what is left
module _ (r : List ℕ) (e : LineEnd) (rest : List ℕ) (w : Whole r) where
  cut-one : cut (r ++ (end_bytes e ++ rest)) ≡ Some e
  cut-one =
      let long : 80 ≤ length (r ++ (end_bytes e ++ rest)) = omega (arith, length-append r (end_bytes e ++ rest), w.0) in
      let text : every is_text (take 80 (r ++ (end_bytes e ++ rest))) ≡ true = ap (every is_text) (take_at r (end_bytes e ++ rest) 80 w.0) ∙ w.1 in
      cond-true _ _ _ (and_from _ _ (le-leb _ _ long) text) ∙ ap line_end (drop_at r (end_bytes e ++ rest) 80 w.0) ∙ ends e rest

  drop-one : drop (width e) (r ++ (end_bytes e ++ rest)) ≡ rest
  drop-one =
      ap (drop (width e)) (sym (append_assoc r (end_bytes e) rest))
      ∙ drop_at (r ++ end_bytes e) rest (width e) (length-append r (end_bytes e) ∙ ap (λ n. n + length (end_bytes e)) w.0 ∙ end-width e)

-- its slot, and the slots of the rest
pub slots-one : (r : List ℕ) (e : LineEnd) (rest : List ℕ) → Whole r → slots (r ++ (end_bytes e ++ rest)) ≡ whole r ∷ slots rest
slots-one [] e rest w = absurd (omega (arith, w.0))
slots-one (b ∷ r) e rest w =
    let bs : List ℕ = r ++ (end_bytes e ++ rest) in
    slots-step b bs
    ∙ ap (λ o. after_cut o (broken ∷ []) (λ f. whole (take 80 (b ∷ bs)) ∷ slots (drop (width f) (b ∷ bs)))) (cut-one (b ∷ r) e rest w)
    ∙ (λ i. whole (take_at (b ∷ r) (end_bytes e ++ rest) 80 w.0 i) ∷ slots (drop-one (b ∷ r) e rest w i))

-- the records of lines, in front of other slots
abbrev pub in_front : List Line → List Slot → List Slot
in_front [] ss = ss
in_front (l ∷ ls) ss = whole l.bytes ∷ in_front ls ss

pub slots-laid : (ls : List Line) (rest : List ℕ) → slots (laid ls rest) ≡ in_front ls (slots rest)
slots-laid [] rest = refl
slots-laid (l ∷ ls) rest = slots-one l.bytes l.ending (laid ls rest) l.is_whole ∙ ap (λ t. whole l.bytes ∷ t) (slots-laid ls rest)

-- The judge over them.

module _ (mode : Mode) (m : Meaning) where
  -- records that are alike have one class, which is all that is judged of them
  one_class : (r q : List ℕ) → Whole r → Alike r q → class_of m r ≡ class_of m q
  one_class _ _ w (equal r) = refl
  one_class _ _ w (refilled k r q e run) = sym (laws.refilled m k r q w e run).1

  -- so the steps are equal, and the states behind them
  judged-alike : (ss : List Slot) (ls ks : List Line) → AllAlike ls ks → (n : ℕ) (s : State) → judge mode m n s (in_front ls ss) ≡ judge mode m n s (in_front ks ss)
  judged-alike ss _ _ none n s = refl
  judged-alike ss _ _ (more l k ls ks one others) n s =
      λ i. cond (leb n 50000) (then_on (step mode s (one_class l.bytes k.bytes l.is_whole one i)) n (λ t. judged-alike ss ls ks others (suc n) t i)) (at_record n cause.TooMany)

pub lines_alike : (mode : Mode) (m : Meaning) (ls ks : List Line) (rest : List ℕ) → AllAlike ls ks → check_of mode m (laid ls rest) ≡ check_of mode m (laid ks rest)
lines_alike mode m ls ks rest h =
    ap (judge mode m 1 begin) (slots-laid ls rest) ∙ judged-alike mode m (slots rest) ls ks h 1 begin ∙ ap (judge mode m 1 begin) (sym (slots-laid ks rest))
