-- Parts put one behind the other into a table.
use Rattle.std.proofs.Common.{◌≡◌, ℕ, suc, ◌+◌, ◌-◌, ◌<◌, ◌≤◌, List, [], ◌∷◌, ◌++◌, length, set, take, drop, sym, refl, ap, ◌∙◌, subst, append_assoc, append-nil, arith, length-append}
use Rattle.std.proofs.lemmas.List.{take_at, drop_at, drop-drop, take-append-drop, length-take-le, length-drop, set_split}
use Rattle.std.proofs.lemmas.List.Edits.{paste_all, paste-paste}
use Rattle.std.proofs.lemmas.Slice.{put_mid-paste}
use lib.Seq.{paste}
use borrow.Rule.Slice.PartMut.{put_mid}
use Rattle.showing.specs.Showing.{with_part}

-- so many places of a table are filled, the rest of all is to come, and what lies behind is as it was at first
pub record Filling (A : Type 0) (all first table : List A) (filled : ℕ) (rest : List A) : Type 0 where
  pub front : take filled table ++ rest ≡ all
  pub later : drop filled table ≡ drop filled first
  pub long : length table ≡ length first
  pub fits : filled + length rest ≡ length all

pub filling_none : {A : Type 0} (all first : List A) → Filling A all first first 0 all
filling_none all first = record { front = refl; later = refl; long = refl; fits = omega arith }

module _ {A : Type 0} (all first table : List A) (filled : ℕ) (part rest : List A) where
  pub place_for : Filling A all first table filled (part ++ rest) → length all ≤ length first → filled + length part ≤ length table
  place_for h enough = omega (arith, h.fits, h.long, length-append part rest)

  pub filling_more : Filling A all first table filled (part ++ rest) → length all ≤ length first → Filling A all first (with_part table filled part) (filled + length part) rest
  filling_more h enough =
      let inside : filled + length part ≤ length table = place_for h enough in
      let behind = drop (filled + length part) table in
      let one : length (take filled table) ≡ filled = length-take-le filled table (omega (arith, inside)) in
      let long : length (take filled table ++ part) ≡ filled + length part = length-append (take filled table) part ∙ ap (λ n. n + length part) one in
      let is : with_part table filled part ≡ (take filled table ++ part) ++ behind = sym (append_assoc (take filled table) part behind) in
      record {
        front = ap (λ t. take (filled + length part) t ++ rest) is ∙ ap (λ t. t ++ rest) (take_at (take filled table ++ part) behind (filled + length part) long)
            ∙ append_assoc (take filled table) part rest ∙ h.front;
        later = ap (drop (filled + length part)) is ∙ drop_at (take filled table ++ part) behind (filled + length part) long
            ∙ sym (drop-drop (length part) filled table) ∙ ap (drop (length part)) h.later ∙ drop-drop (length part) filled first;
        long = ap length is ∙ length-append (take filled table ++ part) behind ∙ omega (arith, long, inside, h.long, length-drop (filled + length part) table);
        fits = omega (arith, h.fits, length-append part rest);
      }

-- in the words of the code
pub filling_put : {A : Type 0} (all first table after : List A) (filled k : ℕ) (part now rest : List A) → now ≡ part ++ rest → Filling A all first table filled now → length all ≤ length first
    → after ≡ with_part table filled part → k ≡ filled + length part → Filling A all first after k rest
filling_put {A} all first table after filled k part now rest is h enough put long =
    subst (λ t. Filling A all first t k rest) (sym put)
    (subst (λ j. Filling A all first (with_part table filled part) j rest) (sym long)
    (filling_more all first table filled part rest (subst (λ l. Filling A all first table filled l) is h) enough))

pub has_place : {A : Type 0} (all first table : List A) (filled : ℕ) (part now rest : List A) → now ≡ part ++ rest → Filling A all first table filled now → length all ≤ length first
    → filled + length part ≤ length table
has_place {A} all first table filled part now rest is h enough = place_for all first table filled part rest (subst (λ l. Filling A all first table filled l) is h) enough

pub filled_all : {A : Type 0} (all first table : List A) (filled : ℕ) → Filling A all first table filled [] → table ≡ all ++ drop (length all) first
filled_all all first table filled h =
    let n : filled ≡ length all = omega (arith, h.fits) in
    sym (take-append-drop filled table)
    ∙ ap (λ l. l ++ drop filled table) (sym (append-nil (take filled table)) ∙ h.front)
    ∙ ap (λ l. all ++ l) (h.later ∙ ap (λ k. drop k first) n)

-- nothing put in
pub with_nothing : {A : Type 0} (table : List A) (i : ℕ) → table ≡ with_part table i []
with_nothing table i = let n : i + 0 ≡ i = omega arith in sym (ap (λ k. take i table ++ drop k table) n ∙ take-append-drop i table)

-- one row put in
pub with_one : {A : Type 0} (table : List A) (i : ℕ) (x : A) → i < length table → set table i x ≡ with_part table i (x ∷ [])
with_one table i x h = let n : suc i ≡ i + 1 = omega arith in set_split table i x h ∙ ap (λ k. take i table ++ (x ∷ drop k table)) n

-- a record and its line end put in, each into its part of the buffer
pub with_line : (buffer : List ℕ) (i : ℕ) (r p q : List ℕ) → p ≡ r → q ≡ 13 ∷ 10 ∷ [] → length r ≡ 80 → i + 82 ≤ length buffer
    → put_mid (i + 80) ((i + 82) - (i + 80)) (put_mid i ((i + 80) - i) buffer p) q ≡ with_part buffer i (r ++ 13 ∷ 10 ∷ [])
with_line buffer i r p q first second long inside =
    let line : List ℕ = r ++ 13 ∷ 10 ∷ [] in
    let one : put_mid i ((i + 80) - i) buffer p ≡ paste buffer i r 80 = put_mid-paste i ((i + 80) - i) buffer p r 80 first (omega arith) (sym long) in
    let all : 82 ≡ length line = omega (arith, length-append r (13 ∷ 10 ∷ []), long) in
    put_mid-paste (i + 80) ((i + 82) - (i + 80)) (put_mid i ((i + 80) - i) buffer p) q (13 ∷ 10 ∷ []) 2 second (omega arith) refl
    ∙ ap (λ d. paste d (i + 80) (13 ∷ 10 ∷ []) 2) one
    ∙ paste-paste buffer i r (13 ∷ 10 ∷ []) 80 2 (sym long) refl (omega (arith, inside))
    ∙ paste_all buffer i line 82 all
    ∙ ap (λ n. take i buffer ++ (line ++ drop (i + n) buffer)) all
