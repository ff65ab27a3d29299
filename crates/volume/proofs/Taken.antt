-- Taking in: the tests beyond checking, and what is then on the shelf.
use Rattle.std.proofs.Common.{◌≡◌, ℕ, ◌+◌, ◌<◌, ◌≤◌, Bool, true, false, cond, leb, List, [], ◌∷◌, ◌++◌, length, Some, None, Ok, Err, Option, sym, refl, ap, ◌∙◌, subst, add-one, arith}
use Rattle.std.proofs.lemmas.List.{append_assoc}
use Rattle.std.proofs.lemmas.Bool.{cond-true, cond-false, leb-true, le-leb, lt-leb}
use Rattle.record.specs.declared.fields.End.{End}
use Rattle.record.specs.declared.fields.Start.{Start}
use Rattle.record.specs.Editions.{Meaning}
use Rattle.shelf.specs.Records.{Whole}
use Rattle.trailer.specs.declared.layout.Totals.{Totals}
use Rattle.trailer.specs.declared.layout.Trailer.{Trailer}
use Rattle.trailer.specs.Trailers.{trailer_of}
use Rattle.manual.specs.Slots.{slots}
use Rattle.manual.specs.Judging.{check_of}
use Rattle.manual.specs.Laws.{judging}
use Rattle.manual.specs.Manual.{records, Follows}
use Rattle.manual.specs.Slots.{front}
use Rattle.manual.proofs.Accepting.{right}
use Rattle.manual.proofs.Slotting.{slots-lines}
use Rattle.filing.specs.declared.deposits.Deposits.{Deposits}
use Rattle.filing.specs.declared.faults.VolumeFault.TheVariants.{Marked, SameStamp, NoRoom}
use Rattle.filing.specs.declared.standing.Standing.TheVariants as standing
use Rattle.filing.specs.Entries.{deposits_from, no_deposits, totals_of, reads}
use Rattle.filing.specs.Volumes.{Records, totals_or, trailer_with, trailer_behind, entries_of}
use Rattle.filing.specs.Laws.{Good, Found, taken}
use Rattle.filing.specs.Taking.{start_of, marked, first_same, unless_same, admitted}
use Rattle.filing.specs.Readings.{EntryReads, Sums}
use Rattle.filing.proofs.Readings.{entry_laws, file_entry}
use Rattle.filing.proofs.Fitting.{fits, file_reads, front-whole}
use Rattle.volume.specs.declared.tokens.OpenVolume.{OpenVolume}
use Rattle.volume.specs.Tokens.{open_says, OwnOpen}
use Rattle.volume.specs.Laws.{Laid}
use Rattle.volume.proofs.Opened.{laws, last-is-count}

-- The tests of the volume, one after another, where a walk finds the entries.
module _ (limit count : ℕ) (es : List Records) (e : Records) (start : Option Start) (first : start ≡ start_of e) (production : false ≡ marked start)
    (walked : List Records) (below : es ≡ walked) (o : Option ℕ) (found : o ≡ first_same start 1 walked) where
  tested : (p : Option ℕ) → o ≡ p → unless_same p (cond (leb (count + length e + 2) limit) (Ok tt) (Err NoRoom)) ≡ admitted limit count es e
  tested p h = sym (cond-false _ _ _ (ap marked (sym first) ∙ sym production) ∙ ap (λ o. unless_same o (cond (leb (count + length e + 2) limit) (Ok tt) (Err NoRoom))) ((λ i. first_same (sym first i) 1 (below i)) ∙ sym found ∙ h))

  pub is_same : (k : ℕ) → o ≡ Some k → Err (SameStamp k) ≡ admitted limit count es e
  is_same k h = tested (Some k) h

  pub has_place : o ≡ None → count + length e + 2 ≤ limit → Ok tt ≡ admitted limit count es e
  has_place h fits = sym (cond-true _ _ _ (le-leb _ _ fits)) ∙ tested None h

  pub has_none : o ≡ None → limit < count + length e + 2 → Err NoRoom ≡ admitted limit count es e
  has_none h full = sym (cond-false _ _ _ (lt-leb _ _ full)) ∙ tested None h

-- what was admitted has room
pub has_room : (limit count : ℕ) (es : List Records) (e : Records) → Ok tt ≡ admitted limit count es e → count + length e + 2 ≤ limit
has_room limit count es e h = by (marked (start_of e)) (first_same (start_of e) 1 es) (leb (count + length e + 2) limit) refl h
  where
    by : (m : Bool) (o : Option ℕ) (b : Bool) → leb (count + length e + 2) limit ≡ b → Ok tt ≡ cond m (Err Marked) (unless_same o (cond b (Ok tt) (Err NoRoom))) → count + length e + 2 ≤ limit
    by true o b w q = let z : ◌≡◌ {A = ℕ} 0 1 = cc in absurd (omega arith)
    by false (Some k) b w q = let z : ◌≡◌ {A = ℕ} 0 1 = cc in absurd (omega arith)
    by false None false w q = let z : ◌≡◌ {A = ℕ} 0 1 = cc in absurd (omega arith)
    by false None true w q = leb-true _ _ w

-- A file that is accepted.
module _ (cap : ℕ) (m : Meaning) (bytes : List ℕ) (counts : End) (ok : Ok counts ≡ check_of (judging cap) m bytes) where
  -- it has at most 50,000 records
  pub few-records : length (front (slots bytes)) ≤ 50000
  few-records =
      let f : Follows m bytes _ = ((right cap m bytes).accepted counts (sym ok)).1 in
      let is : front (slots bytes) ≡ records f.lines = ap (λ b. front (slots b)) f.whole ∙ ap front (slots-lines f.lines) ∙ front-whole (records f.lines) in
      omega (arith, ap length is, f.reads.few)

  -- its records are a good entry
  entry-reads : reads (front (slots bytes)) ≡ Ok (totals_of counts (deposits_from no_deposits (front (slots bytes))))
  entry-reads = file_reads cap m bytes counts (sym ok)

  -- its reading is that of the entry, and what that comes to lies in the trailer
  pub laid_by_reading : (rs : Records) (t : OpenVolume) (after : Records) → after ≡ taken reads t.entries rs (front (slots bytes)) → Laid m bytes t rs (front (slots bytes)) after
  laid_by_reading rs t after is =
      let a = (right cap m bytes).accepted counts (sym ok) in
      let f : Follows m bytes a.0 = a.1 in
      let its : front (slots bytes) ≡ records f.lines = ap (λ b. front (slots b)) f.whole ∙ ap front (slots-lines f.lines) ∙ front-whole (records f.lines) in
      let entry : EntryReads (front (slots bytes)) a.0.tree = subst (λ x. EntryReads x a.0.tree) (sym its) (file_entry m f.lines a.0.tree f.reads) in
      let comes = (entry_laws.comes (front (slots bytes)) _).0 entry-reads in
      let sums : Sums a.0.tree (totals_of counts (deposits_from no_deposits (front (slots bytes)))) = subst (λ r. Sums r (totals_of counts (deposits_from no_deposits (front (slots bytes))))) (entry_laws.once (front (slots bytes)) comes.tree a.0.tree comes.follows entry) comes.sums in
      record {
        reading = a.0;
        follows = f;
        entry = entry;
        totals = totals_of counts (deposits_from no_deposits (front (slots bytes)));
        sums = sums;
        lies = is ∙ ap (λ (x : Totals). rs ++ (front (slots bytes) ++ trailer_of (trailer_with t.entries (length rs) (front (slots bytes)) x) ∷ [])) (ap totals_or entry-reads);
      }

  good : Good reads (front (slots bytes))
  good = record { totals = _; is = entry-reads; fits = fits (front (slots bytes)) _ entry-reads }

  -- taken in behind an open volume
  module _ (rs : Records) (limit : ℕ) (whole-rs : Whole rs) (t : OpenVolume) (own : OwnOpen t rs limit) where
    -- the trailer that is written is the one of the entry
    pub trailer-is : (n : ℕ) (x : Deposits) → n ≡ length (front (slots bytes)) → x ≡ deposits_from no_deposits (front (slots bytes))
        → record { records = n; entry = t.entries + 1; previous = t.last; totals = totals_of counts x } ≡ trailer_behind reads t.entries (length rs) (front (slots bytes))
    trailer-is n x many sums =
        let last = last-is-count rs limit whole-rs t own in
        let sum : totals_of counts x ≡ totals_or (reads (front (slots bytes))) = ap (totals_of counts) sums ∙ sym (ap totals_or entry-reads) in
        λ i. record { records = many i; entry = add-one t.entries i; previous = last i; totals = sum i }

    pub taken_is : (x : Trailer) (laid after : Records) → x ≡ trailer_behind reads t.entries (length rs) (front (slots bytes)) → laid ≡ rs ++ front (slots bytes) → after ≡ laid ++ trailer_of x ∷ []
        → after ≡ taken reads t.entries rs (front (slots bytes))
    taken_is x laid after is lies behind =
        behind ∙ (λ i. lies i ++ trailer_of (is i) ∷ []) ∙ append_assoc rs (front (slots bytes)) (trailer_of (trailer_behind reads t.entries (length rs) (front (slots bytes))) ∷ [])

    pub found : limit ≤ 500000 → length rs + length (front (slots bytes)) + 2 ≤ limit
        → Found reads limit (record { entries = t.entries + 1; last = length rs + length (front (slots bytes)) + 1; standing = standing.Open }) (taken reads t.entries rs (front (slots bytes))) (entries_of rs ++ front (slots bytes) ∷ [])
    found bound room = laws.takes_in reads limit rs (front (slots bytes)) (open_says t) whole-rs own refl good (omega arith) (omega arith)
