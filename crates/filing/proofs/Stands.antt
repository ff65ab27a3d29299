-- The records below a place where walking back and judging went well are entries as they are laid.
use Rattle.std.proofs.Common.{◌≡◌, ℕ, zero, suc, ◌<◌, ◌≤◌, true, eqb, List, [], ◌∷◌, ◌++◌, map, length, get_or, take, drop, Some, Ok, Err, Result, sym, refl, ap, ◌∙◌, subst, append_assoc, add-one, arith}
use Rattle.std.proofs.lemmas.List.{take_more, take-take, take-append-drop, length-take-le, length-map}
use Rattle.std.proofs.lemmas.Slice.{between_is}
use Rattle.std.proofs.lemmas.List.Edits.{length-between}
use Rattle.std.proofs.lemmas.Bool.{and_parts, eqb-true}
use Rattle.std.specs.List.{between}
use Rattle.field.specs.Chains.{then}
use Rattle.manual.specs.declared.faults.FileFault.{FileFault}
use Rattle.shelf.specs.Records.{Whole}
use Rattle.trailer.specs.declared.layout.Totals.{Totals}
use Rattle.trailer.specs.declared.layout.Trailer.{Trailer}
use Rattle.trailer.specs.Trailers.{trailer_of, read_trailer}
use Rattle.trailer.specs.Laws.{TrailerLaws}
use Rattle.filing.specs.declared.faults.VolumeFault.TheVariants.{NoTrailer, Differs}
use Rattle.filing.specs.Volumes.{Records, Reads, totals_or, trailer_behind, laid, Part, before, walk, same_totals, agrees, compared, judge, entry_of}
use Rattle.filing.specs.Laws.{All-good}
use Rattle.filing.proofs.Results.{ok_same, err_not_ok, then_ok, cond_ok, after_ok}

-- a comparison that went well: the entry was read, and its trailer has its number and totals
record Agreed (k : ℕ) (p : Part) (r : Result Totals FileFault) : Type 0 where
  is : r ≡ Ok p.trailer.totals
  entry : p.trailer.entry ≡ k

same_as : (t u : Totals) → same_totals t u ≡ true → u ≡ t
same_as t u h =
    let c1 = and_parts (eqb t.payments u.payments) _ h in
    let c2 = and_parts (eqb t.deductions u.deductions) _ c1.1 in
    let c3 = and_parts (eqb t.sek u.sek) (eqb t.eur u.eur) c2.1 in
    let p = eqb-true _ _ c1.0 in
    let d = eqb-true _ _ c2.0 in
    let s = eqb-true _ _ c3.0 in
    let e = eqb-true _ _ c3.1 in
    sym (λ i. record { payments = p i; deductions = d i; sek = s i; eur = e i })

agreed : (k : ℕ) (p : Part) (r : Result Totals FileFault) → compared k p r ≡ Ok tt → Agreed k p r
agreed k p (Err cause) h = absurd (err_not_ok h)
agreed k p (Ok t) h =
    let c = and_parts (eqb p.trailer.entry k) (same_totals p.trailer.totals t) (cond_ok (agrees k p t) (Ok tt) (Differs k) tt h).0 in
    record { is = ap Ok (same_as p.trailer.totals t c.1); entry = eqb-true _ _ c.0 }

-- a shelf up to a place, from an earlier one
take-between : (rs : Records) (p i : ℕ) → p ≤ i → i < length rs → take (suc i) rs ≡ take p rs ++ (between p i rs ++ get_or rs i [] ∷ [])
take-between rs p i le h =
    let front : take i rs ≡ take p rs ++ between p i rs =
    sym (take-append-drop p (take i rs))
    ∙ ap (λ l. l ++ drop p (take i rs)) (take-take p i rs le)
    ∙ ap (λ l. take p rs ++ l) (sym (between_is rs p i)) in
    rw add-one at (take_more rs i [] h)
    ∙ ap (λ l. l ++ get_or rs i [] ∷ []) front
    ∙ append_assoc (take p rs) (between p i rs) (get_or rs i [] ∷ [])

-- each record of a shelf has 80 bytes
pub whole_at : (rs : Records) (i : ℕ) → Whole rs → i < length rs → length (get_or rs i []) ≡ 80
whole_at [] i w h = absurd (omega arith)
whole_at (r ∷ rs) zero w h = w.0
whole_at (r ∷ rs) (suc i) w h = whole_at rs i w.1 (omega arith)

module _ (laws : TrailerLaws) (reads : Reads) (rs : Records) (whole : Whole rs) where
  -- the records up to a place are the entries of these parts, laid, and they are good
  abbrev pub Lie : ℕ → List Part → Type 0
  Lie top ps = (take top rs ≡ laid reads (map entry_of ps)) × All-good reads (map entry_of ps)

  -- one part more
  step : (i : ℕ) (t : Trailer) (ps : List Part) → i < length rs → read_trailer (get_or rs i []) (suc i) ≡ Some t
      → Agreed (suc (length ps)) (record { entry = between t.previous i rs; trailer = t }) (reads (between t.previous i rs))
      → Lie t.previous ps → Lie (suc i) (record { entry = between t.previous i rs; trailer = t } ∷ ps)
  unfolding laid
  step i t ps h is ag below =
      let r = get_or rs i [] in
      let o = laws.only r (suc i) t (whole_at rs i whole h) is in
      let place = o.2 in
      let p = t.previous in
      let e = between p i rs in
      let es = map entry_of ps in
      let records : t.records ≡ length e = sym (length-between rs p i (omega arith) ∙ omega arith) in
      let number : t.entry ≡ suc (length es) = ag.entry ∙ ap suc (sym (length-map ps entry_of)) in
      let behind : p ≡ length (laid reads es) = sym (length-take-le p rs (omega arith)) ∙ ap length below.0 in
      let sums : t.totals ≡ totals_or (reads e) = sym (ap totals_or ag.is) in
      let same : t ≡ trailer_behind reads (length es) (length (laid reads es)) e =
      λ j. record { records = records j; entry = number j; previous = behind j; totals = sums j } in
      let lies : take (suc i) rs ≡ laid reads es ++ (e ++ trailer_of (trailer_behind reads (length es) (length (laid reads es)) e) ∷ []) =
      take-between rs p i (omega arith) h
      ∙ ap (λ l. l ++ (e ++ r ∷ [])) below.0
      ∙ ap (λ x. laid reads es ++ (e ++ x ∷ [])) (o.0 ∙ ap trailer_of same) in
      (lies, (record { totals = t.totals; is = ag.is; fits = o.1.totals }, below.1))

  -- what walking back found and judging passed lies there
  pub lie : (top n : ℕ) (ps : List Part) → top ≤ length rs → walk rs top n ≡ Ok ps → judge reads ps ≡ Ok tt → Lie top ps
  unfolding walk laid judge
  lie zero n ps h w j = subst (Lie zero) (ok_same w) (refl, tt)
  lie (suc i) zero ps h w j = absurd (err_not_ok w)
  lie (suc i) (suc n) ps h w j =
      let a = after_ok (read_trailer (get_or rs i []) (suc i)) (NoTrailer (suc i)) (λ u. then (walk rs u.previous n) (before rs i u)) ps w in
      let t = a.0 in
      let b = then_ok (walk rs t.previous n) (before rs i t) ps a.2 in
      let qs = b.0 in
      let p : Part = record { entry = between t.previous i rs; trailer = t } in
      let same : p ∷ qs ≡ ps = ok_same b.2 in
      let c = then_ok (judge reads qs) (λ _. compared (suc (length qs)) p (reads p.entry)) tt (ap (judge reads) same ∙ j) in
      let place = (laws.only (get_or rs i []) (suc i) t (whole_at rs i whole (omega arith)) a.1).2 in
      let below = lie t.previous n qs (omega arith) b.1 c.1 in
      subst (Lie (suc i)) same (step i t qs (omega arith) a.1 (agreed (suc (length qs)) p (reads p.entry) c.2) below)
