-- Entries that were laid: where they lie, and what walking back and judging find of them.
use Rattle.std.proofs.Common.{◌≡◌, ℕ, zero, suc, ◌+◌, ◌-◌, ◌^◌, ◌<◌, ◌≤◌, List, [], ◌∷◌, ◌++◌, map, reverse, length, get_or, take, Some, Ok, Err, Result, sym, refl, ap, ◌∙◌, subst, append_assoc, arith, length-append}
use Rattle.std.proofs.lemmas.List.{take_at, drop_at, get_or_at, length_push, append-nil, reverse-append, length-reverse}
use Rattle.std.proofs.lemmas.Bool.{and_from, cond-true, eq-eqb}
use Rattle.std.specs.List.{between}
use Rattle.field.specs.Chains.{then}
use Rattle.manual.specs.declared.faults.FileFault.{FileFault}
use Rattle.trailer.specs.declared.layout.Totals.{Totals}
use Rattle.trailer.specs.declared.layout.Trailer.{Trailer}
use Rattle.trailer.specs.Trailers.{trailer_of, read_trailer}
use Rattle.trailer.specs.Laws.{Fits, Small, TrailerLaws}
use Rattle.filing.specs.declared.faults.VolumeFault.TheVariants.{NoTrailer, Differs}
use Rattle.filing.specs.Volumes.{Records, Reads, totals_or, trailer_behind, laid, lay, lay_from, Part, after_trailer, before, walk, agrees, compared}
use Rattle.filing.specs.Volumes.{judge, entry_of}
use Rattle.filing.specs.Laws.{Good, All-good}

-- an entry and its trailer between other records
module _ (l e rest : Records) (t : List ℕ) where
  spread : (l ++ (e ++ t ∷ [])) ++ rest ≡ (l ++ e) ++ t ∷ rest
  spread = simp append_assoc

  pub trailer_at : get_or ((l ++ (e ++ t ∷ [])) ++ rest) (length l + length e) [] ≡ t
  trailer_at =
      ap (λ rs. get_or rs (length l + length e) []) spread
      ∙ get_or_at (l ++ e) t rest [] (length l + length e) (length-append l e)

  pub entry_at : between (length l) (length l + length e) ((l ++ (e ++ t ∷ [])) ++ rest) ≡ e
  entry_at =
      let n : length l + length e - length l ≡ length e = omega arith in
      ap (between (length l) (length l + length e)) (spread ∙ append_assoc l e (t ∷ rest))
      ∙ ap (take (length l + length e - length l)) (drop_at l (e ++ t ∷ rest) (length l) refl)
      ∙ take_at e (t ∷ rest) (length l + length e - length l) (sym n)

-- one step back, and one comparison that goes well
walk_step : (rs : Records) (i n : ℕ) (t : Trailer) (ps : List Part) → read_trailer (get_or rs i []) (suc i) ≡ Some t → walk rs t.previous n ≡ Ok ps
    → walk rs (suc i) (suc n) ≡ Ok (record { entry = between t.previous i rs; trailer = t } ∷ ps)
unfolding walk
walk_step rs i n t ps e w =
    ap (λ o. after_trailer o (NoTrailer (suc i)) (λ u. then (walk rs u.previous n) (before rs i u))) e
    ∙ ap (λ r. then r (before rs i t)) w

compared_ok : (k : ℕ) (p : Part) (r : Result Totals FileFault) (t : Totals) → r ≡ Ok t → p.trailer.entry ≡ k → p.trailer.totals ≡ t
    → compared k p r ≡ Ok tt
compared_ok k p r t e a c =
    let same : (f : Totals → ℕ) → f p.trailer.totals ≡ f t = λ f. ap f c in
    ap (compared k p) e
    ∙ cond-true (agrees k p t) (Ok tt) (Err (Differs k))
    (and_from _ _ (eq-eqb _ _ a)
    (and_from _ _ (eq-eqb _ _ (same (λ x. x.payments)))
    (and_from _ _ (eq-eqb _ _ (same (λ x. x.deductions)))
    (and_from _ _ (eq-eqb _ _ (same (λ x. x.sek))) (eq-eqb _ _ (same (λ x. x.eur)))))))

module _ (reads : Reads) where
  -- the parts that these entries are to be found as, the newest first
  abbrev pub parts : List Records → List Part
  parts [] = []
  parts (e ∷ es) = record { entry = e; trailer = trailer_behind reads (length es) (length (laid reads es)) e } ∷ parts es

  pub entries_parts : (es : List Records) → map entry_of (parts es) ≡ es
  entries_parts [] = refl
  entries_parts (e ∷ es) = ap (λ l. e ∷ l) (entries_parts es)

  pub length_parts : (es : List Records) → length (parts es) ≡ length es
  length_parts [] = refl
  length_parts (e ∷ es) = ap suc (length_parts es)

  -- how many records they take
  pub length-laid : (e : Records) (es : List Records) → length (laid reads (e ∷ es)) ≡ suc (length (laid reads es) + length e)
  unfolding laid
  length-laid e es =
      let t = trailer_of (trailer_behind reads (length es) (length (laid reads es)) e) in
      omega (arith, length-append (laid reads es) (e ++ t ∷ []), length_push e t)

  fewer-laid : (es : List Records) → length es ≤ length (laid reads es)
  fewer-laid [] = omega arith
  fewer-laid (e ∷ es) = omega (arith, fewer-laid es, length-laid e es)

  pub fewer : (es : List Records) → length es ≤ length (lay reads es)
  fewer es = omega (arith, fewer-laid (reverse es), length-reverse es)

  -- good entries in another order, or with others, are good
  pub good_append : (es fs : List Records) → All-good reads es → All-good reads fs → All-good reads (es ++ fs)
  good_append [] fs g h = h
  good_append (e ∷ es) fs g h = (g.0, good_append es fs g.1 h)

  pub good-reverse : (es : List Records) → All-good reads es → All-good reads (reverse es)
  good-reverse [] g = tt
  good-reverse (e ∷ es) g =
      let P : List Records → Type 0 = All-good reads in
      subst P (sym (reverse-append (e ∷ []) es)) (good_append (reverse es) (e ∷ []) (good-reverse es g.1) (g.0, tt))

  -- entries are laid one behind the other
  pub one_more : (es : List Records) (e : Records)
      → lay reads (es ++ e ∷ []) ≡ lay reads es ++ (e ++ trailer_of (trailer_behind reads (length es) (length (lay reads es)) e) ∷ [])
  unfolding laid
  one_more es e =
      ap (laid reads) (reverse-append es (e ∷ []))
      ∙ ap (λ n. lay reads es ++ (e ++ trailer_of (trailer_behind reads n (length (lay reads es)) e) ∷ [])) (length-reverse es)

  pub length_more : (es : List Records) (e : Records) → length (lay reads (es ++ e ∷ [])) ≡ length (lay reads es) + length e + 1
  length_more es e =
      let t = trailer_of (trailer_behind reads (length es) (length (lay reads es)) e) in
      ap length (one_more es e) ∙ omega (arith, length-append (lay reads es) (e ++ t ∷ []), length_push e t)

  in_order_behind : (ds es : List Records) → lay reads (ds ++ es) ≡ lay reads ds ++ lay_from reads (length ds) (length (lay reads ds)) es
  unfolding lay_from
  in_order_behind ds [] = ap (lay reads) (append-nil ds) ∙ sym (append-nil (lay reads ds))
  in_order_behind ds (e ∷ es) =
      let l = lay reads ds in
      let t = trailer_of (trailer_behind reads (length ds) (length l) e) in
      ap (lay reads) (sym (append_assoc ds (e ∷ []) es))
      ∙ in_order_behind (ds ++ e ∷ []) es
      ∙ ap (λ n. lay reads (ds ++ e ∷ []) ++ lay_from reads n (length (lay reads (ds ++ e ∷ []))) es) (length_push ds e)
      ∙ ap (λ n. lay reads (ds ++ e ∷ []) ++ lay_from reads (length ds + 1) n es) (length_more ds e)
      ∙ ap (λ x. x ++ lay_from reads (length ds + 1) (length l + length e + 1) es) (one_more ds e)
      ∙ append_assoc l (e ++ t ∷ []) (lay_from reads (length ds + 1) (length l + length e + 1) es)

  pub in_order : (es : List Records) → lay reads es ≡ lay_from reads 0 0 es
  unfolding laid
  in_order es = in_order_behind [] es

  -- judging passes good entries
  pub judge_parts : (es : List Records) → All-good reads es → judge reads (parts es) ≡ Ok tt
  unfolding judge
  judge_parts [] g = refl
  judge_parts (e ∷ es) g =
      let k = suc (length (parts es)) in
      let p : Part = record { entry = e; trailer = trailer_behind reads (length es) (length (laid reads es)) e } in
      ap (λ r. then r (λ _. compared k p (reads e))) (judge_parts es g.1)
      ∙ compared_ok k p (reads e) g.0.totals g.0.is (ap suc (sym (length_parts es))) (ap totals_or g.0.is)

  -- walking back finds the entries, whatever lies behind them
  small_trailer : (e : Records) (es : List Records) → Good reads e → length (laid reads (e ∷ es)) < 10 ^ 8
      → Small (trailer_behind reads (length es) (length (laid reads es)) e)
  small_trailer e es g small =
      let long = length-laid e es in
      let few = fewer-laid es in
      let P : Totals → Type 0 = Fits in
      record { records = omega arith; entry = omega arith; previous = omega arith; totals = subst P (sym (ap totals_or g.is)) g.fits }

  pub walk-laid : TrailerLaws → (es : List Records) (rest : Records) (n : ℕ) → All-good reads es → length (laid reads es) < 10 ^ 8
      → length (laid reads es) ≤ n → walk (laid reads es ++ rest) (length (laid reads es)) n ≡ Ok (parts es)
  unfolding walk laid
  walk-laid laws [] rest n g small h = refl
  walk-laid laws (e ∷ es) rest zero g small h = absurd (omega (arith, length-laid e es))
  walk-laid laws (e ∷ es) rest (suc n) g small h =
      let l = laid reads es in
      let u = trailer_behind reads (length es) (length l) e in
      let t = trailer_of u in
      let rs = (l ++ (e ++ t ∷ [])) ++ rest in
      let i = length l + length e in
      let long = length-laid e es in
      let is : read_trailer (get_or rs i []) (suc i) ≡ Some u =
      ap (λ r. read_trailer r (suc i)) (trailer_at l e rest t) ∙ laws.back u (suc i) (small_trailer e es g.0 small) (omega arith) in
      let below : walk rs (length l) n ≡ Ok (parts es) =
      ap (λ r. walk r (length l) n) (append_assoc l (e ++ t ∷ []) rest)
      ∙ walk-laid laws es ((e ++ t ∷ []) ++ rest) n g.1 (omega arith) (omega arith) in
      ap (λ k. walk rs k (suc n)) long
      ∙ walk_step rs i n u (parts es) is below
      ∙ ap (λ x. Ok (record { entry = x; trailer = u } ∷ parts es)) (entry_at l e rest t)
