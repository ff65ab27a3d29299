-- Opening is exact: the theorem of specs/Laws.
use Rattle.std.proofs.Common.{◌≡◌, ℕ, ◌^◌, ◌<◌, ◌≤◌, true, false, List, ◌++◌, length, IfOk, Ok, Err, Result, sym, refl, ap, ◌∙◌, arith, length-append}
use Rattle.std.proofs.lemmas.Bool.{cond-true, cond-false}
use Rattle.shelf.specs.Records.{Whole}
use Rattle.trailer.proofs.TrailerLaws as trailers
use Rattle.filing.specs.declared.faults.VolumeFault.{VolumeFault}
use Rattle.filing.specs.declared.standing.Opened.{Opened}
use Rattle.filing.specs.declared.standing.Standing.{Standing}
use Rattle.filing.specs.declared.standing.Standing.TheVariants as standing
use Rattle.filing.specs.Entries.{reads}
use Rattle.filing.specs.Volumes.{Records, closing_behind, lay, tail, volume, last_trailer, opening, opening_open, opening_closed, begins_98, last_of, entries_of}
use Rattle.filing.specs.Laws.{All-good, Stands, FilingLaws}
use Rattle.filing.proofs.FilingLaws.{filing_laws}
use Rattle.filing.proofs.Laid.{fewer}
use Rattle.filing.proofs.Opens.{length-volume}
use Rattle.filing.proofs.Results.{ok_same, err_not_ok}
use Rattle.volume.specs.declared.tokens.OpenVolume.{OpenVolume}
use Rattle.volume.specs.declared.tokens.Volume.{Volume}
use Rattle.volume.specs.declared.tokens.Volume.TheVariants.{Open, Closed}
use Rattle.volume.specs.Tokens.{open_says, says, token_by, token_of, with_token, found_on, Own, OwnOpen}
use Rattle.volume.specs.Laws.{Holds, OpensExactly}
use Rattle.filing.proofs.Lies.{lie_laid, laid_lie}

pub laws : FilingLaws
laws = filing_laws trailers.laws

-- Tokens and what opening found say the same.

said_by : (s : Standing) (n l : ℕ) → says (token_by s n l) ≡ record { entries = n; last = l; standing = s }
said_by standing.Open n l = refl
said_by standing.Closed n l = refl

token_says : (v : Volume) → token_of (says v) ≡ v
token_says (Open t) = refl
token_says (Closed t) = refl

own_from : (r : Result Opened VolumeFault) (v : Volume) → with_token r ≡ Ok v → r ≡ Ok (says v)
own_from (Ok o) v e = ap Ok (sym (said_by o.standing o.entries o.last) ∙ ap says (ok_same e))
own_from (Err f) v e = absurd (err_not_ok e)

pub own_made : (rs : Records) (limit : ℕ) (r : Result Volume VolumeFault) → r ≡ with_token (found_on rs limit) → IfOk r (λ v. Own v rs limit)
own_made rs limit (Ok v) e = own_from (found_on rs limit) v (sym e)
own_made rs limit (Err f) e = tt

module _ (rs : Records) (limit : ℕ) (whole : Whole rs) (inside : length rs ≤ limit) (bound : limit ≤ 500000) where
  -- what it holds, as filing lays it
  laid : (v : Volume) (es : List Records) (h : Holds rs limit v es) → rs ≡ volume reads (says v).standing es
  laid v es h = h.lies ∙ ap (λ (p : Records). p ++ closing_behind (says v).standing (length es) (length p)) (lie_laid es h.places h.lie).0

  good : (v : Volume) (es : List Records) → Holds rs limit v es → All-good reads es
  good v es h = (lie_laid es h.places h.lie).1

  last_of_laid : (v : Volume) (es : List Records) → Holds rs limit v es → (says v).last ≡ length (lay reads es)
  last_of_laid v es h = h.last ∙ ap length (lie_laid es h.places h.lie).0

  stands : (v : Volume) (es : List Records) → Holds rs limit v es → Stands reads limit (says v) rs
  stands v es h = record {
    entries = es;
    lies = laid v es h;
    good = good v es h;
    many = h.many;
    last = last_of_laid v es h ∙ sym (length-volume reads (says v).standing es) ∙ ap (λ (x : Records). last_trailer (says v).standing (length x)) (sym (laid v es h));
    room = h.room;
  }

  -- the entries found are those that stand
  holds : (v : Volume) → found_on rs limit ≡ Ok (says v) → Holds rs limit v (entries_of rs)
  holds v own =
      let h = laws.holds reads limit rs (says v) whole own in
      let s = (laws.exactly reads limit rs (says v) whole inside bound).0 own in
      record {
        places = lay reads (entries_of rs);
        lie = laid_lie (entries_of rs) h.good;
        lies = h.lies;
        many = h.many;
        last = h.last;
        room = s.room;
      }

  -- the entries take no more places than the shelf has records
  short : (v : Volume) (es : List Records) → Holds rs limit v es → length (lay reads es) < 10 ^ 8
  short v es h = omega (arith, inside, bound, ap length (laid v es h) ∙ length-append (lay reads es) (tail reads (says v).standing es))

  pub opens-exactly : (r : Result Volume VolumeFault) → r ≡ with_token (found_on rs limit) → OpensExactly rs limit r
  opens-exactly r e = record {
    opened = λ v q. holds v (own_from (found_on rs limit) v (sym e ∙ q));
    opens = λ v es h. e ∙ ap with_token (own v es h) ∙ ap Ok (token_says v);
    once = λ v es h.
        let k = laws.holds reads limit rs (says v) whole (own v es h) in
        let few : length (lay reads (entries_of rs)) < 10 ^ 8 = omega (arith, inside, bound, ap length k.lies ∙ length-append (lay reads (entries_of rs)) (tail reads (says v).standing (entries_of rs))) in
        laws.once reads (says v).standing (says v).standing es (entries_of rs) (good v es h) k.good (short v es h) few (sym (laid v es h) ∙ k.lies);
  }
    where
      own : (v : Volume) (es : List Records) → Holds rs limit v es → found_on rs limit ≡ Ok (says v)
      own v es h = (laws.exactly reads limit rs (says v) whole inside bound).1 (stands v es h)

-- The two ways of opening, by the last record.

pub found-closed : (rs : Records) (limit : ℕ) → begins_98 (last_of rs) ≡ true → opening_closed reads rs ≡ found_on rs limit
unfolding opening
found-closed rs limit h = sym (cond-true (begins_98 (last_of rs)) (opening_closed reads rs) (opening_open reads limit rs) h)

pub found_open : (rs : Records) (limit : ℕ) → begins_98 (last_of rs) ≡ false → opening_open reads limit rs ≡ found_on rs limit
unfolding opening
found_open rs limit h = sym (cond-false (begins_98 (last_of rs)) (opening_closed reads rs) (opening_open reads limit rs) h)

-- The last trailer of an open volume is the shelf's last record.
pub last-is-count : (rs : Records) (limit : ℕ) → Whole rs → (t : OpenVolume) → OwnOpen t rs limit → t.last ≡ length rs
last-is-count rs limit whole t own =
    let h = laws.holds reads limit rs (open_says t) whole own in
    h.last ∙ sym (length-volume reads standing.Open (entries_of rs)) ∙ ap length (sym h.lies)

-- It has no more entries than the shelf has records.
pub few-entries : (rs : Records) (limit : ℕ) → Whole rs → (t : OpenVolume) → OwnOpen t rs limit → t.entries ≤ length rs
few-entries rs limit whole t own =
    let h = laws.holds reads limit rs (open_says t) whole own in
    omega (arith, h.many, h.last, last-is-count rs limit whole t own, fewer reads (entries_of rs))
