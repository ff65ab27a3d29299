-- What opening finds of a volume.
use Rattle.std.proofs.Common.{◌≡◌, ℕ, ◌+◌, ◌-◌, ◌^◌, ◌<◌, Bool, true, false, ltb, List, [], ◌∷◌, ◌++◌, map, reverse, length, get_or, Ok, Err, Result, sym, refl, ap, ◌∙◌, arith}
use Rattle.std.proofs.lemmas.List.{get_or_at, length_push, append-nil, reverse-reverse, length-reverse}
use Rattle.std.proofs.lemmas.Bool.{cond-true, cond-false, lt-ltb}
use Rattle.field.specs.Chains.{then}
use Rattle.trailer.specs.Trailers.{trailer_of, closing_of, right_closing, closing_says}
use Rattle.trailer.specs.Laws.{TrailerLaws}
use Rattle.filing.specs.declared.faults.VolumeFault.{VolumeFault}
use Rattle.filing.specs.declared.faults.VolumeFault.TheVariants.{NoRoom, NoTrailer, ClosingDiffers}
use Rattle.filing.specs.declared.standing.Opened.{Opened}
use Rattle.filing.specs.declared.standing.Standing.{Standing}
use Rattle.filing.specs.declared.standing.Standing.TheVariants.{Open, Closed}
use Rattle.filing.specs.Volumes.{Records, Reads, trailer_behind, laid, lay, tail, volume, Part, walk, judged, begins_98, last_of, last_trailer, found}
use Rattle.filing.specs.Volumes.{ends_open, ends_closed, opening_open, opening_closed, opening, top_of, parts_or, entry_of, entries_of}
use Rattle.filing.specs.Laws.{All-good, Room, of_entries}
use Rattle.filing.proofs.Codes.{trailer_code, closing_code}
use Rattle.filing.proofs.Laid.{trailer_at, parts, entries_parts, length_parts, length-laid, fewer, good-reverse, judge_parts, walk-laid}

abbrev is-closed : Standing → Bool
is-closed Open = false
is-closed Closed = true

module _ (reads : Reads) where
  -- the last record of entries that were laid is no closing record
  laid_code : (es : List Records) → begins_98 (last_of (laid reads es)) ≡ false
  unfolding laid
  laid_code [] = refl
  laid_code (e ∷ es) =
      let l = laid reads es in
      let u = trailer_behind reads (length es) (length l) e in
      let rs = l ++ (e ++ trailer_of u ∷ []) in
      let at : length rs - 1 ≡ length l + length e = omega (arith, length-laid reads e es) in
      ap (λ n. begins_98 (get_or rs n [])) at
      ∙ ap (λ qs. begins_98 (get_or qs (length l + length e) [])) (sym (append-nil rs))
      ∙ ap begins_98 (trailer_at l e [] (trailer_of u))
      ∙ trailer_code u

  -- the last record of a volume, and where its last trailer is
  pub length-volume : (s : Standing) (es : List Records) → last_trailer s (length (volume reads s es)) ≡ length (lay reads es)
  length-volume Open es = ap length (append-nil (lay reads es))
  length-volume Closed es = omega (arith, length_push (lay reads es) (closing_of (length es) (length (lay reads es))))

  last-closed : (es : List Records) → last_of (volume reads Closed es) ≡ closing_of (length es) (length (lay reads es))
  last-closed es =
      let c = closing_of (length es) (length (lay reads es)) in
      get_or_at (lay reads es) c [] [] (length (volume reads Closed es) - 1) (sym (length-volume Closed es))

  volume_code : (s : Standing) (es : List Records) → begins_98 (last_of (volume reads s es)) ≡ is-closed s
  volume_code Open es = ap (λ rs. begins_98 (last_of rs)) (append-nil (lay reads es)) ∙ laid_code (reverse es)
  volume_code Closed es = ap begins_98 (last-closed es) ∙ closing_code (length es) (length (lay reads es))

  top-volume : (s : Standing) (es : List Records) → top_of (volume reads s es) ≡ length (lay reads es)
  top-volume Open es = let n = length (volume reads Open es) in cond-false _ (n - 1) n (volume_code Open es) ∙ length-volume Open es
  top-volume Closed es = let n = length (volume reads Closed es) in cond-true _ (n - 1) n (volume_code Closed es) ∙ length-volume Closed es

  module _ (laws : TrailerLaws) (es : List Records) (g : All-good reads es) (small : length (lay reads es) < 10 ^ 8) where
    -- walking and judging go through, to the parts that the entries make
    walk-volume : (s : Standing) → walk (volume reads s es) (length (lay reads es)) (length (lay reads es)) ≡ Ok (parts reads (reverse es))
    walk-volume s = walk-laid reads laws (reverse es) (tail reads s es) (length (lay reads es)) (good-reverse reads es g) small (omega arith)

    passes : (s : Standing) (end : List Part → Result Opened VolumeFault) (top : ℕ) → top ≡ length (lay reads es)
        → then (walk (volume reads s es) top top) (judged reads end) ≡ end (parts reads (reverse es))
    passes s end top e =
        ap (λ n. then (walk (volume reads s es) n n) (judged reads end)) e
        ∙ ap (λ w. then w (judged reads end)) (walk-volume s)
        ∙ ap (λ j. then j (λ _. end (parts reads (reverse es)))) (judge_parts reads (reverse es) (good-reverse reads es g))

    -- what is answered of those parts
    many : length (parts reads (reverse es)) ≡ length es
    many = length_parts reads (reverse es) ∙ length-reverse es

    answer : (s : Standing) → found s (length (volume reads s es)) (parts reads (reverse es)) ≡ of_entries reads s es
    answer s = λ i. record { entries = many i; last = length-volume s es i; standing = s }

    -- opening finds the volume
    pub finds : (s : Standing) (limit : ℕ) → Room s (length (lay reads es)) limit → opening reads limit (volume reads s es) ≡ Ok (of_entries reads s es)
    unfolding opening
    finds Open limit room =
        let rs = volume reads Open es in
        let free : length rs < limit = omega (arith, length-volume Open es) in
        cond-false (begins_98 (last_of rs)) (opening_closed reads rs) (opening_open reads limit rs) (volume_code Open es)
        ∙ passes Open (ends_open limit rs) (length rs) (length-volume Open es)
        ∙ cond-true (ltb (length rs) limit) _ (Err NoRoom) (lt-ltb (length rs) limit free)
        ∙ ap Ok (answer Open)
    finds Closed limit room =
        let rs = volume reads Closed es in
        let n = length (lay reads es) in
        let back = laws.closing_back (length es) n (omega (arith, fewer reads es)) small in
        let long : length rs ≡ n + 1 = length_push (lay reads es) (closing_of (length es) n) in
        let right : right_closing (last_of rs) (length rs) ≡ true =
        ap (λ r. right_closing r (length rs)) (last-closed es) ∙ ap (right_closing (closing_of (length es) n)) long ∙ back.0 in
        let says : closing_says (last_of rs) (length (parts reads (reverse es))) ≡ true =
        ap (λ r. closing_says r (length (parts reads (reverse es)))) (last-closed es) ∙ ap (closing_says (closing_of (length es) n)) many ∙ back.1 in
        cond-true (begins_98 (last_of rs)) (opening_closed reads rs) (opening_open reads limit rs) (volume_code Closed es)
        ∙ cond-true (right_closing (last_of rs) (length rs)) _ (Err (NoTrailer (length rs))) right
        ∙ passes Closed (ends_closed rs) (length rs - 1) (length-volume Closed es)
        ∙ cond-true _ _ (Err ClosingDiffers) says
        ∙ ap Ok (answer Closed)

    -- the entries of a volume are those that were laid
    pub same_entries : (s : Standing) → entries_of (volume reads s es) ≡ es
    same_entries s =
        ap (λ n. reverse (map entry_of (parts_or (walk (volume reads s es) n n)))) (top-volume s es)
        ∙ ap (λ w. reverse (map entry_of (parts_or w))) (walk-volume s)
        ∙ ap reverse (entries_parts reads (reverse es))
        ∙ reverse-reverse es
