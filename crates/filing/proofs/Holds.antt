-- Where opening answers, the shelf is the volume of the entries found on it.
use Rattle.std.proofs.Common.{◌≡◌, ℕ, ◌+◌, ◌-◌, ◌<◌, ◌≤◌, true, false, ltb, List, [], ◌∷◌, ◌++◌, map, reverse, length, take, Ok, Result, sym, refl, ap, ◌∙◌, subst, arith}
use Rattle.std.proofs.lemmas.List.{take_all, take_more, length-take-le, length-map, append-nil, reverse-reverse, length-reverse}
use Rattle.std.proofs.lemmas.Bool.{cond-true, cond-false, cond_both, ltb-true, true≢false}
use Rattle.field.specs.Chains.{then}
use Rattle.shelf.specs.Records.{Whole}
use Rattle.trailer.specs.Trailers.{closing_of, right_closing, closing_says}
use Rattle.trailer.specs.Laws.{TrailerLaws}
use Rattle.filing.specs.declared.faults.VolumeFault.{VolumeFault}
use Rattle.filing.specs.declared.faults.VolumeFault.TheVariants.{NoRoom, NoTrailer, ClosingDiffers}
use Rattle.filing.specs.declared.standing.Opened.{Opened}
use Rattle.filing.specs.declared.standing.Standing.TheVariants.{Open, Closed}
use Rattle.filing.specs.Volumes.{Records, Reads, laid, lay, Part, walk, judge, judged, begins_98, last_of, found, ends_open, ends_closed}
use Rattle.filing.specs.Volumes.{opening_open, opening_closed, opening, top_of, parts_or, entry_of, entries_of}
use Rattle.filing.specs.Laws.{All-good, Held}
use Rattle.filing.proofs.Results.{ok_same, then_ok, cond_ok}
use Rattle.filing.proofs.Laid.{good-reverse}
use Rattle.filing.proofs.Stands.{whole_at, lie}

-- these parts were found below a place, and passed
record Passed (reads : Reads) (rs : Records) (top : ℕ) (ps : List Part) : Type 0 where
  walked : walk rs top top ≡ Ok ps
  passes : judge reads ps ≡ Ok tt

-- the two ways to an answer: no closing record, or a right one
data Answered (reads : Reads) (limit : ℕ) (rs : Records) : Opened → Type 0 where
  as_open : (ps : List Part) → begins_98 (last_of rs) ≡ false → Passed reads rs (length rs) ps → length rs < limit
      → Answered reads limit rs (found Open (length rs) ps)
  as_closed : (ps : List Part) → begins_98 (last_of rs) ≡ true → right_closing (last_of rs) (length rs) ≡ true
      → Passed reads rs (length rs - 1) ps → closing_says (last_of rs) (length ps) ≡ true
      → Answered reads limit rs (found Closed (length rs) ps)

-- an answer came one of these ways
module _ (reads : Reads) (limit : ℕ) (rs : Records) (o : Opened) where
  through : (top : ℕ) (end : List Part → Result Opened VolumeFault) → then (walk rs top top) (judged reads end) ≡ Ok o
      → (ps : List Part) × Passed reads rs top ps × (end ps ≡ Ok o)
  through top end e =
      let w = then_ok (walk rs top top) (judged reads end) o e in
      let j = then_ok (judge reads w.0) (λ _. end w.0) o w.2 in
      (w.0, record { walked = w.1; passes = j.1 }, j.2)

  abbrev Way : Opened → Type 0
  Way = Answered reads limit rs

  way_open : begins_98 (last_of rs) ≡ false → opening_open reads limit rs ≡ Ok o → Way o
  way_open b e =
      let t = through (length rs) (ends_open limit rs) e in
      let c = cond_ok (ltb (length rs) limit) (Ok (found Open (length rs) t.0)) NoRoom o t.2 in
      subst Way (ok_same c.1) (as_open t.0 b t.1 (ltb-true (length rs) limit c.0))

  way_closed : begins_98 (last_of rs) ≡ true → opening_closed reads rs ≡ Ok o → Way o
  way_closed b e =
      let r = cond_ok (right_closing (last_of rs) (length rs)) _ (NoTrailer (length rs)) o e in
      let t = through (length rs - 1) (ends_closed rs) r.1 in
      let c = cond_ok (closing_says (last_of rs) (length t.0)) (Ok (found Closed (length rs) t.0)) ClosingDiffers o t.2 in
      subst Way (ok_same c.1) (as_closed t.0 b r.0 t.1 c.0)

  answered : opening reads limit rs ≡ Ok o → Way o
  unfolding opening
  answered =
      let P : Result Opened VolumeFault → Type 0 = λ r. r ≡ Ok o → Way o in
      cond_both (begins_98 (last_of rs)) (opening_closed reads rs) (opening_open reads limit rs) P way_closed way_open

-- an open volume leaves a place free
free : (reads : Reads) (limit : ℕ) (rs : Records) (o : Opened) → Answered reads limit rs o → o.standing ≡ Open → length rs < limit
free reads limit rs _ (as_open ps b p room) h = room
free reads limit rs _ (as_closed ps b right p says) h = let z : ◌≡◌ {A = ℕ} 0 1 = cc in absurd (omega arith)

pub open_room : (reads : Reads) (limit : ℕ) (rs : Records) (o : Opened) → opening reads limit rs ≡ Ok o → o.standing ≡ Open → length rs < limit
open_room reads limit rs o e = free reads limit rs o (answered reads limit rs o e)

-- the walk back from the last trailer found as many parts as were answered
back : (reads : Reads) (limit : ℕ) (rs : Records) (o : Opened) → Answered reads limit rs o
    → (ps : List Part) × (walk rs o.last o.last ≡ Ok ps) × (length ps ≡ o.entries) × (o.last ≤ length rs)
back reads limit rs _ (as_open ps b p room) = (ps, p.walked, refl, omega arith)
back reads limit rs _ (as_closed ps b right p says) = (ps, p.walked, refl, omega arith)

pub walked_back : (reads : Reads) (limit : ℕ) (rs : Records) (o : Opened) → opening reads limit rs ≡ Ok o
    → (ps : List Part) × (walk rs o.last o.last ≡ Ok ps) × (length ps ≡ o.entries) × (o.last ≤ length rs)
walked_back reads limit rs o e = back reads limit rs o (answered reads limit rs o e)

-- a record that begins with `98` is there
some_record : (rs : Records) → begins_98 (last_of rs) ≡ true → 0 < length rs
some_record [] b = absurd (true≢false (sym b))
some_record (r ∷ rs) b = omega arith

module _ (laws : TrailerLaws) (reads : Reads) (rs : Records) (whole : Whole rs) where
  -- the entries found, from the parts below the last trailer
  record Below (top : ℕ) (ps : List Part) : Type 0 where
    lies : take top rs ≡ lay reads (entries_of rs)
    good : All-good reads (entries_of rs)
    many : length (entries_of rs) ≡ length ps
    place : top ≡ length (lay reads (entries_of rs))

  below : (top : ℕ) (ps : List Part) → top_of rs ≡ top → top ≤ length rs → Passed reads rs top ps → Below top ps
  below top ps e le p =
      let es = map entry_of ps in
      let s = lie laws reads rs whole top top ps le p.walked p.passes in
      let is : entries_of rs ≡ reverse es =
      ap (λ n. reverse (map entry_of (parts_or (walk rs n n)))) e ∙ ap (λ r. reverse (map entry_of (parts_or r))) p.walked in
      let lies : take top rs ≡ lay reads (entries_of rs) = s.0 ∙ ap (laid reads) (sym (reverse-reverse es) ∙ ap reverse (sym is)) in
      let Q : List Records → Type 0 = All-good reads in
      record {
        lies = lies;
        good = subst Q (sym is) (good-reverse reads es s.1);
        many = ap length is ∙ length-reverse es ∙ length-map ps entry_of;
        place = sym (length-take-le top rs le) ∙ ap length lies;
      }

  -- the whole shelf: nothing or the closing record is left behind them
  held : (limit : ℕ) (o : Opened) → Answered reads limit rs o → Held reads o rs
  held limit _ (as_open ps b p room) =
      let top = cond-false (begins_98 (last_of rs)) (length rs - 1) (length rs) b in
      let s = below (length rs) ps top (omega arith) p in
      record {
        lies = sym (take_all (length rs) rs (omega arith)) ∙ s.lies ∙ sym (append-nil (lay reads (entries_of rs)));
        good = s.good;
        many = s.many;
        last = s.place;
        top = sym top;
      }
  held limit _ (as_closed ps b right p says) =
      let some = some_record rs b in
      let i = length rs - 1 in
      let top = cond-true (begins_98 (last_of rs)) (length rs - 1) (length rs) b in
      let s = below i ps top (omega arith) p in
      let es = entries_of rs in
      let next : length rs ≡ i + 1 = omega arith in
      let c : last_of rs ≡ closing_of (length ps) i =
      (laws.closing_only (last_of rs) (length ps) i (whole_at rs i whole (omega arith)) (sym (ap (right_closing (last_of rs)) next) ∙ right) says).0 in
      let last : last_of rs ≡ closing_of (length es) (length (lay reads es)) =
      c ∙ ap (λ n. closing_of n i) (sym s.many) ∙ ap (closing_of (length es)) s.place in
      record {
        lies = sym (take_all (i + 1) rs (omega arith)) ∙ take_more rs i [] (omega arith)
            ∙ ap (λ l. l ++ last_of rs ∷ []) s.lies ∙ ap (λ r. lay reads es ++ r ∷ []) last;
        good = s.good;
        many = s.many;
        last = s.place;
        top = sym top;
      }

  pub holds : (limit : ℕ) (o : Opened) → opening reads limit rs ≡ Ok o → Held reads o rs
  holds limit o e = held limit o (answered reads limit rs o e)
