-- The first line of bytes, and their slots.
use Rattle.std.proofs.Common.{◌≡◌, ℕ, ◌≤◌, eqb, true, false, List, [], ◌∷◌, length, take, drop, Some, None, Option, sym, ap, ◌∙◌, arith, lit≤}
use Rattle.std.specs.Option.{option_map}
use Rattle.std.proofs.lemmas.List.{take-take}
use Rattle.std.proofs.lemmas.Bool.{eqb-true}
use Rattle.record.specs.declared.lines.LineEnd.{LineEnd}
use Rattle.record.specs.declared.lines.LineEnd.TheVariants.{Lf, CrLf}
use Rattle.record.specs.Lines.{cut, width}
use Rattle.manual.specs.Slots.{whole, broken, after_cut, slots}
use Rattle.manual.proofs.Cutting.{slots_nil, slots-step}
use Rattle.file.specs.Lines.{first_line}

wide : (e : LineEnd) → 80 ≤ width e
wide Lf = lit≤ tt
wide CrLf = lit≤ tt

pub line_is_first : (bs : List ℕ) (e : LineEnd) (w : ℕ) (a line rest : List ℕ) → Some e ≡ cut bs → w ≡ width e → line ≡ take w bs → a ≡ take 80 line → rest ≡ drop w bs → Some (a, rest) ≡ first_line bs
line_is_first bs e w a line rest c q l p r =
    let one : a ≡ take 80 bs = p ∙ ap (take 80) (l ∙ ap (λ n. take n bs) q) ∙ take-take 80 (width e) bs (wide e) in
    let two : rest ≡ drop (width e) bs = r ∙ ap (λ n. drop n bs) q in
    (λ i. Some (one i, two i)) ∙ ap (option_map (λ end. (take 80 bs, drop (width end) bs))) c

pub no_slots : (bs : List ℕ) → true ≡ eqb (length bs) 0 → slots bs ≡ []
no_slots [] e = slots_nil
no_slots (b ∷ bs) e = let z : length (b ∷ bs) ≡ 0 = eqb-true (length (b ∷ bs)) 0 (sym e) in absurd (omega (arith, z))

module _ (b : ℕ) (bs : List ℕ) where
  opened : (a r : List ℕ) (o : Option LineEnd) → ◌≡◌ {A = Option (List ℕ × List ℕ)} (Some (a, r)) (option_map (λ end. (take 80 (b ∷ bs), drop (width end) (b ∷ bs))) o)
      → after_cut o (broken ∷ []) (λ e. whole (take 80 (b ∷ bs)) ∷ slots (drop (width e) (b ∷ bs))) ≡ whole a ∷ slots r
  opened a r None h = let z : ◌≡◌ {A = ℕ} 0 1 = cc in absurd (omega arith)
  opened a r (Some e) h =
      let q : ◌≡◌ {A = List ℕ × List ℕ} (a, r) (take 80 (b ∷ bs), drop (width e) (b ∷ bs)) = cc in
      λ i. whole (sym q i).0 ∷ slots (sym q i).1

  shut : (o : Option LineEnd) → ◌≡◌ {A = Option (List ℕ × List ℕ)} None (option_map (λ end. (take 80 (b ∷ bs), drop (width end) (b ∷ bs))) o)
      → after_cut o (broken ∷ []) (λ e. whole (take 80 (b ∷ bs)) ∷ slots (drop (width e) (b ∷ bs))) ≡ broken ∷ []
  shut None h = cc
  shut (Some e) h = let z : ◌≡◌ {A = ℕ} 0 1 = cc in absurd (omega arith)

-- the slots of bytes whose first line was read, and of bytes that have none
pub slots-line : (bs a r : List ℕ) → Some (a, r) ≡ first_line bs → slots bs ≡ whole a ∷ slots r
slots-line [] a r h = let z : ◌≡◌ {A = ℕ} 0 1 = cc in absurd (omega arith)
slots-line (b ∷ bs) a r h = slots-step b bs ∙ opened b bs a r (cut (b ∷ bs)) h

pub slots-broken : (bs : List ℕ) → false ≡ eqb (length bs) 0 → None ≡ first_line bs → slots bs ≡ broken ∷ slots []
slots-broken [] e h = let z : ◌≡◌ {A = ℕ} 0 1 = cc in absurd (omega arith)
slots-broken (b ∷ bs) e h = slots-step b bs ∙ shut b bs (cut (b ∷ bs)) h ∙ ap (λ l. broken ∷ l) (sym slots_nil)
