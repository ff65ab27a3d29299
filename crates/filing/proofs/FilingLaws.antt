-- The laws of volumes.
use Rattle.std.proofs.Common.{◌≡◌, ℕ, ◌+◌, ◌^◌, ◌<◌, ◌≤◌, List, [], ◌∷◌, ◌++◌, length, Ok, sym, refl, ap, ◌∙◌, arith, length-append}
use Rattle.std.proofs.lemmas.List.{append-nil, length_push}
use Rattle.shelf.specs.Records.{Whole, highest}
use Rattle.trailer.specs.Trailers.{trailer_of, closing_of}
use Rattle.trailer.specs.Laws.{TrailerLaws}
use Rattle.filing.specs.declared.standing.Opened.{Opened}
use Rattle.filing.specs.declared.standing.Standing.{Standing}
use Rattle.filing.specs.declared.standing.Standing.TheVariants.{Open, Closed}
use Rattle.filing.specs.Volumes.{Records, Reads, trailer_behind, lay, tail, volume, last_trailer, opening, entries_of}
use Rattle.filing.specs.Laws.{Good, Room, of_entries, Held, Stands, Found, taken, closed, FilingLaws}
use Rattle.filing.proofs.Laid.{good_append, one_more, in_order}
use Rattle.filing.proofs.Opens.{length-volume, finds, same_entries}
use Rattle.filing.proofs.Holds.{open_room, holds}

-- fewer records leave room too
room_below : (s : Standing) (m n limit : ℕ) → m ≤ n → Room s n limit → Room s m limit
room_below Open m n limit le room = omega arith
room_below Closed m n limit le room = tt

module _ (laws : TrailerLaws) (reads : Reads) (limit : ℕ) where
  -- entries that stand on a shelf take no more records than it has
  fits : (o : Opened) (rs : Records) (s : Stands reads limit o rs) → length (lay reads s.entries) ≤ length rs
  fits o rs s =
      let long = ap length s.lies ∙ length-append (lay reads s.entries) (tail reads o.standing s.entries) in
      omega arith

  -- a volume that stands on a shelf is found
  found : (o : Opened) (rs : Records) (s : Stands reads limit o rs) → length (lay reads s.entries) < 10 ^ 8 → Found reads limit o rs s.entries
  found o rs s small =
      let es = s.entries in
      let room = room_below o.standing (length (lay reads es)) (length rs) limit (fits o rs s) s.room in
      let last : length (lay reads es) ≡ o.last =
      sym (s.last ∙ ap (λ l. last_trailer o.standing (length l)) s.lies ∙ length-volume reads o.standing es) in
      let many = s.many in
      let same : of_entries reads o.standing es ≡ o = λ i. record { entries = many i; last = last i; standing = o.standing } in
      record {
        opens = ap (opening reads limit) s.lies ∙ finds reads laws es s.good small o.standing limit room ∙ ap Ok same;
        entries = ap entries_of s.lies ∙ same_entries reads laws es s.good small o.standing;
      }

  module _ (rs : Records) (o : Opened) (whole : Whole rs) where
    -- opening answers exactly where a volume stands
    stands : opening reads limit rs ≡ Ok o → Stands reads limit o rs
    stands e =
        let h = holds laws reads rs whole limit o e in
        let s = o.standing in
        let last : o.last ≡ last_trailer s (length rs) =
        h.last ∙ sym (length-volume reads s (entries_of rs)) ∙ ap (λ l. last_trailer s (length l)) (sym h.lies) in
        record { entries = entries_of rs; lies = h.lies; good = h.good; many = h.many; last = last; room = room s refl }
      where
        room : (s : Standing) → o.standing ≡ s → Room s (length rs) limit
        room Open q = open_room reads limit rs o e q
        room Closed q = tt

    opens : length rs ≤ limit → limit ≤ highest → Stands reads limit o rs → opening reads limit rs ≡ Ok o
    opens le most s = (found o rs s (omega (arith, fits o rs s))).opens

    -- an open volume with one entry more, or closed, stands again
    module _ (is : opening reads limit rs ≡ Ok o) (q : o.standing ≡ Open) where
      abbrev es : List Records
      es = entries_of rs

      h : Held reads o rs
      h = holds laws reads rs whole limit o is

      laid_open : rs ≡ lay reads es
      laid_open = h.lies ∙ ap (λ s. volume reads s es) q ∙ append-nil (lay reads es)

      takes_in : (e : Records) → Good reads e → length rs + length e + 1 < limit → limit ≤ 10 ^ 8
          → Found reads limit (record { entries = o.entries + 1; last = length rs + length e + 1; standing = Open })
          (taken reads o.entries rs e) (es ++ e ∷ [])
      takes_in e good free most =
          let t = trailer_of (trailer_behind reads o.entries (length rs) e) in
          let more : taken reads o.entries rs e ≡ lay reads (es ++ e ∷ []) =
          ap (λ l. taken reads o.entries l e) laid_open ∙ ap (λ n. taken reads n (lay reads es) e) (sym h.many) ∙ sym (one_more reads es e) in
          let long : length rs + length e + 1 ≡ length (taken reads o.entries rs e) =
          omega (arith, length-append rs (e ++ t ∷ []), length_push e t) in
          found _ (taken reads o.entries rs e) (record {
            entries = es ++ e ∷ [];
            lies = more ∙ sym (append-nil (lay reads (es ++ e ∷ [])));
            good = good_append reads es (e ∷ []) h.good (good, tt);
            many = length_push es e ∙ ap (λ n. n + 1) h.many;
            last = long;
            room = omega arith;
          }) (omega (arith, ap length more))

      closes : length rs < 10 ^ 8
          → Found reads limit (record { entries = o.entries; last = o.last; standing = Closed }) (closed o.entries rs) es
      closes small =
          let long = ap length laid_open in
          found _ (closed o.entries rs) (record {
            entries = es;
            lies = ap (closed o.entries) laid_open ∙ ap (λ n. closed n (lay reads es)) (sym h.many);
            good = h.good;
            many = h.many;
            last = omega (arith, h.last, length_push rs (closing_of o.entries (length rs)));
            room = tt;
          }) (omega arith)

pub filing_laws : TrailerLaws → FilingLaws
filing_laws laws = record {
  finds = λ reads s limit es good small room. finds reads laws es good small s limit room;
  holds = λ reads limit rs o whole is. holds laws reads rs whole limit o is;
  exactly = λ reads limit rs o whole le most. (stands laws reads limit rs o whole, opens laws reads limit rs o whole le most);
  one_more = one_more;
  in_order = in_order;
  once = λ reads s t es fs g h small less e.
      sym (same_entries reads laws es g small s) ∙ ap entries_of e ∙ same_entries reads laws fs h less t;
  takes_in = λ reads limit rs e o whole is q. takes_in laws reads limit rs o whole is q e;
  closes = λ reads limit rs o whole is q. closes laws reads limit rs o whole is q;
  open_room = open_room;
}
