-- The walk over a shelf, trailer by trailer.
use Rattle.std.proofs.Common.{◌≡◌, ℕ, zero, suc, ◌+◌, ◌-◌, ◌<◌, ◌≤◌, Bool, true, false, cond, ◌&&◌, List, [], ◌∷◌, length, get_or, IfSome, Some, None, Ok, Err, Option, Result, ◌==◌, sym, refl, ap, ◌∙◌, subst, arith}
use Rattle.std.proofs.lemmas.Option.{same_Some, none-some}
use Rattle.std.proofs.lemmas.Bool.{and_parts, eqb-true, eqb-false, false≢true}
use Rattle.trailer.specs.declared.layout.Trailer.{Trailer}
use Rattle.trailer.specs.Trailers.{is_checked, is_placed, fields_of, read_trailer}
use Rattle.filing.specs.declared.faults.VolumeFault.{VolumeFault}
use Rattle.filing.specs.declared.faults.VolumeFault.TheVariants.{NoTrailer}
use Rattle.field.specs.Chains.{then}
use Rattle.std.specs.List.{between, find, AllByRecursion}
use Rattle.std.specs.Option.{option_map}
use Rattle.std.specs.Result.{result_and}
use Rattle.filing.specs.Volumes.{Reads, Records, Part, after_trailer, before, walk, compared, judge, no_totals, parts_or, begins_98, last_of}
use Rattle.filing.proofs.Results.{ok_same, err_not_ok}
use Rattle.entries.specs.Walks.{counted_from, counted, parts_below, numbered, part_of, part_numbered}

-- a right trailer stands where its numbers say
placed_at : (r : List ℕ) (own : ℕ) (t : Trailer) → read_trailer r own ≡ Some t → t.previous + t.records + 1 ≡ own
unfolding read_trailer
placed_at r own t e =
    let P : Bool → Type 0 = λ b. (is_checked 99 r && is_placed (fields_of r) own) ≡ b → cond b (Some (fields_of r)) None ≡ Some t → t.previous + t.records + 1 ≡ own in
    (elim (is_checked 99 r && is_placed (fields_of r) own) as P [
      | true ↦ λ b h. let s : fields_of r ≡ t = same_Some _ _ h in ap (λ (u : Trailer). u.previous + u.records + 1) (sym s) ∙ eqb-true _ _ (and_parts (is_checked 99 r) (is_placed (fields_of r) own) b).1
      | false ↦ λ b h. absurd (none-some t h)
    ]) refl e

pub placed_cases : (o : Option Trailer) (r : List ℕ) (own : ℕ) → o ≡ read_trailer r own → IfSome o (λ t. t.previous + t.records + 1 ≡ own)
placed_cases (Some t) r own e = placed_at r own t (sym e)
placed_cases None r own e = tt

-- any number of steps that reaches down to the start finds the same
steps_enough : (rs : Records) (at n m : ℕ) → at ≤ n → at ≤ m → walk rs at n ≡ walk rs at m
unfolding walk
steps_enough rs zero n m h g = refl
steps_enough rs (suc i) zero m h g = absurd (omega arith)
steps_enough rs (suc i) (suc n) zero h g = absurd (omega arith)
steps_enough rs (suc i) (suc n) (suc m) h g =
    let on : ℕ → Trailer → Result (List Part) VolumeFault = λ k t. then (walk rs t.previous k) (before rs i t) in
    let P : Option Trailer → Type 0 = λ o. read_trailer (get_or rs i []) (suc i) ≡ o → after_trailer o (NoTrailer (suc i)) (on n) ≡ after_trailer o (NoTrailer (suc i)) (on m) in
    (elim (read_trailer (get_or rs i []) (suc i)) as P [
      | Some t ↦ λ e. let place = placed_at (get_or rs i []) (suc i) t e in ap (λ w. then w (before rs i t)) (steps_enough rs t.previous n m (omega arith) (omega arith))
      | None ↦ λ e. refl
    ]) refl

walk_none : (rs : Records) (at : ℕ) → 0 < at → read_trailer (get_or rs (at - 1) []) at ≡ None → walk rs at at ≡ Err (NoTrailer at)
unfolding walk
walk_none rs zero some e = absurd (omega arith)
walk_none rs (suc i) some e =
    let z : i ≡ suc i - 1 = omega arith in
    let is = ap (λ k. read_trailer (get_or rs k []) (suc i)) z ∙ e in
    ap (λ o. after_trailer o (NoTrailer (suc i)) (λ u. then (walk rs u.previous i) (before rs i u))) is

walk_some : (rs : Records) (at : ℕ) (t : Trailer) → 0 < at → read_trailer (get_or rs (at - 1) []) at ≡ Some t → walk rs at at ≡ then (walk rs t.previous t.previous) (before rs (at - 1) t)
unfolding walk
walk_some rs zero t some e = absurd (omega arith)
walk_some rs (suc i) t some e =
    let z : i ≡ suc i - 1 = omega arith in
    let is = ap (λ k. read_trailer (get_or rs k []) (suc i)) z ∙ e in
    let place = placed_at (get_or rs (suc i - 1) []) (suc i) t e in
    ap (λ o. after_trailer o (NoTrailer (suc i)) (λ u. then (walk rs u.previous i) (before rs i u))) is
    ∙ ap (λ w. then w (before rs i t)) (steps_enough rs t.previous i t.previous (omega arith) (omega arith))
    ∙ ap (λ k. then (walk rs t.previous t.previous) (before rs k t)) z

-- Counting: what is left gives the whole.

count-before : (k : ℕ) (w : Result (List Part) VolumeFault) (rs : Records) (i : ℕ) (t : Trailer) → counted_from k (then w (before rs i t)) ≡ counted_from (k + 1) w
count-before k (Ok ps) rs i t = ap Ok (omega arith)
count-before k (Err e) rs i t = refl

module _ (rs : Records) (at entries : ℕ) where
  pub count_bad : 0 < at → read_trailer (get_or rs (at - 1) []) at ≡ None → counted_from entries (walk rs at at) ≡ Err (NoTrailer at)
  count_bad some e = ap (counted_from entries) (walk_none rs at some e)

  pub count_end : at ≡ 0 → counted_from entries (walk rs at at) ≡ Ok entries
  unfolding walk
  count_end z = ap (λ k. counted_from entries (walk rs k k)) z ∙ ap Ok (omega arith)

  pub count_step : (t : Trailer) → 0 < at → read_trailer (get_or rs (at - 1) []) at ≡ Some t → counted_from entries (walk rs at at) ≡ counted_from (entries + 1) (walk rs t.previous t.previous)
  count_step t some e = ap (counted_from entries) (walk_some rs at t some e) ∙ count-before entries (walk rs t.previous t.previous) rs (at - 1) t

pub none_below : (rs : Records) (at : ℕ) → at ≡ 0 → numbered (parts_below rs at) ≡ []
unfolding walk
none_below rs at z = ap (λ k. numbered (parts_below rs k)) z

pub as_many : (w : Result (List Part) VolumeFault) (n : ℕ) → counted w ≡ Ok n → length (parts_or w) ≡ n
as_many (Ok ps) n e = ok_same e
as_many (Err f) n e = absurd (err_not_ok e)

-- A walk where there is a right trailer behind each entry.

pub not_none : (rs : Records) (at left : ℕ) {o : Option Trailer} → (at ≡ 0 → ⊥) → counted (walk rs at at) ≡ Ok left → o ≡ read_trailer (get_or rs (at - 1) []) at → o ≡ None → ⊥
not_none rs at left some walked is none = err_not_ok (ap counted (sym (walk_none rs at (omega (arith, some)) (sym is ∙ none))) ∙ walked)

-- what is known below a trailer that is met
pub record Stepped (rs : Records) (at left : ℕ) (t : Trailer) : Type 0 where
  pub some : 0 < left
  pub walked : counted (walk rs t.previous t.previous) ≡ Ok (left - 1)
  pub trailers : numbered (parts_below rs at) ≡ (left, t) ∷ numbered (parts_below rs t.previous)

module _ {rs : Records} {at left : ℕ} {t : Trailer} (some : at ≡ 0 → ⊥) (walked : counted (walk rs at at) ≡ Ok left) (is : Some t ≡ read_trailer (get_or rs (at - 1) []) at) where
  by_rest : (below : Result (List Part) VolumeFault) → walk rs t.previous t.previous ≡ below → counted (then below (before rs (at - 1) t)) ≡ Ok left → Stepped rs at left t
  by_rest (Err e) b c = absurd (err_not_ok c)
  by_rest (Ok ps) b c =
      let n : suc (length ps) ≡ left = ok_same c in
      let all : parts_below rs at ≡ record { entry = between t.previous (at - 1) rs; trailer = t } ∷ ps = ap parts_or (walk_some rs at t (omega (arith, some)) (sym is)) ∙ ap (λ w. parts_or (then w (before rs (at - 1) t))) b in
      let rest : ps ≡ parts_below rs t.previous = ap parts_or (sym b) in
      let fewer : length ps ≡ left - 1 = omega arith in
      record {
        some = omega arith;
        walked = ap counted b ∙ ap Ok fewer;
        trailers = ap numbered all ∙ ap (λ k. (k, t) ∷ numbered ps) n ∙ ap (λ qs. (left, t) ∷ numbered qs) rest;
      }

  pub stepped : Stepped rs at left t
  stepped = by_rest (walk rs t.previous t.previous) refl (ap counted (sym (walk_some rs at t (omega (arith, some)) (sym is))) ∙ walked)

-- Parts that a walk found, where each is the entry before its trailer, and lies on the shelf.
abbrev pub Listed : Records → List Part → Type 0
Listed rs = AllByRecursion (λ p. (part_of rs p.trailer ≡ p) × (p.trailer.previous + p.trailer.records ≤ length rs))

one_more : (rs : Records) (i : ℕ) (t : Trailer) → t.previous + t.records ≡ i → i ≤ length rs → (w : Result (List Part) VolumeFault) → Listed rs (parts_or w) → Listed rs (parts_or (then w (before rs i t)))
one_more rs i t place h (Ok ps) below = ((ap (λ k. record { entry = between t.previous k rs; trailer = t }) place, omega arith), below)
one_more rs i t place h (Err e) below = tt

listed_within : (rs : Records) (at n : ℕ) → at ≤ length rs → Listed rs (parts_or (walk rs at n))
unfolding walk
listed_within rs zero n h = tt
listed_within rs (suc i) zero h = tt
listed_within rs (suc i) (suc n) h =
    let P : Option Trailer → Type 0 = λ o. read_trailer (get_or rs i []) (suc i) ≡ o → Listed rs (parts_or (after_trailer o (NoTrailer (suc i)) (λ t. then (walk rs t.previous n) (before rs i t)))) in
    (elim (read_trailer (get_or rs i []) (suc i)) as P [
      | Some t ↦ λ e. let place = placed_at (get_or rs i []) (suc i) t e in one_more rs i t (omega arith) (omega arith) (walk rs t.previous n) (listed_within rs t.previous n (omega arith))
      | None ↦ λ e. tt
    ]) refl

pub listed : (rs : Records) (at : ℕ) → at ≤ length rs → Listed rs (parts_below rs at)
listed rs at h = listed_within rs at at h

-- the next trailer of such a list, and what is behind it
pub record Next (rs : Records) (ps : List Part) (k : ℕ) (t : Trailer) (xs : List (ℕ × Trailer)) : Type 0 where
  pub rest : List Part
  pub many : k ≡ suc (length rest)
  pub parts : part_of rs t ∷ rest ≡ ps
  pub inside : t.previous + t.records ≤ length rs
  pub lists : numbered rest ≡ xs
  pub below : Listed rs rest

pub next : (rs : Records) (ps : List Part) (k : ℕ) (t : Trailer) (xs : List (ℕ × Trailer)) → Listed rs ps → numbered ps ≡ (k, t) ∷ xs → Next rs ps k t xs
next rs [] k t xs h e = absurd (omega (arith, ap length e))
next rs (p ∷ ps) k t xs h e =
    let first : ◌≡◌ {A = ℕ × Trailer} (suc (length ps), p.trailer) (k, t) = cc in
    let is : p.trailer ≡ t = ap (λ x. x.1) first in
    record {
      rest = ps;
      many = sym (ap (λ x. x.0) first);
      parts = ap (λ u. part_of rs u ∷ ps) (sym is) ∙ ap (λ q. q ∷ ps) h.0.0;
      inside = omega (arith, ap (λ (u : Trailer). u.previous + u.records) (sym is), h.0.1);
      lists = cc;
      below = h.1;
    }

-- the entry with a number, found by it
pub found_part : (rs : Records) (k : ℕ) (ps : List Part) → Listed rs ps → (o : Option (ℕ × Trailer)) → o ≡ find (λ x. x.0 == k) (numbered ps)
    → (option_map (λ x. part_of rs x.1) o ≡ part_numbered k ps) × IfSome o (λ x. x.1.previous + x.1.records ≤ length rs)
found_part rs k [] h o e = let P : Option (ℕ × Trailer) → Type 0 = λ o. (option_map (λ x. part_of rs x.1) o ≡ None) × IfSome o (λ x. x.1.previous + x.1.records ≤ length rs) in subst P (sym e) (refl, tt)
found_part rs k (p ∷ ps) h o e =
    let rest = find (λ x. x.0 == k) (numbered ps) in
    let below = found_part rs k ps h.1 rest refl in
    let P : Option (ℕ × Trailer) → Type 0 = λ o. (option_map (λ x. part_of rs x.1) o ≡ part_numbered k (p ∷ ps)) × IfSome o (λ x. x.1.previous + x.1.records ≤ length rs) in
    let Q : Bool → Type 0 = λ b.
    (option_map (λ x. part_of rs x.1) (cond b (Some (suc (length ps), p.trailer)) rest) ≡ cond b (Some p) (part_numbered k ps)) × IfSome (cond b (Some (suc (length ps), p.trailer)) rest) (λ x. x.1.previous + x.1.records ≤ length rs) in
    subst P (sym e) (elim (suc (length ps) == k) as Q [ true ↦ (ap Some h.0.0, h.0.1) | false ↦ below ])

abbrev pub no_part : Part
no_part = record { entry = []; trailer = record { records = 0; entry = 0; previous = 0; totals = no_totals } }

-- what the part with a number is among those that have the newest first
pub at_number : (ps : List Part) (k : ℕ) (p : Part) → part_numbered k ps ≡ Some p → (0 < k) × (k ≤ length ps) × (get_or ps (length ps - k) no_part ≡ p)
at_number [] k p e = absurd (none-some p e)
at_number (q ∷ ps) k p e =
    let P : Bool → Type 0 = λ b. (suc (length ps) == k) ≡ b → cond b (Some q) (part_numbered k ps) ≡ Some p → (0 < k) × (k ≤ suc (length ps)) × (get_or (q ∷ ps) (suc (length ps) - k) no_part ≡ p) in
    (elim (suc (length ps) == k) as P [
      | true ↦ λ b h.
          let n = eqb-true _ _ b in
          let z : suc (length ps) - k ≡ 0 = omega (arith, n) in
          (omega (arith, n), omega (arith, n), ap (λ j. get_or (q ∷ ps) j no_part) z ∙ same_Some _ _ h)
      | false ↦ λ b h.
          let below = at_number ps k p h in
          let z : suc (length ps) - k ≡ suc (length ps - k) = omega (arith, below.1) in
          (below.0, omega (arith, below.1), ap (λ j. get_or (q ∷ ps) j no_part) z ∙ below.2)
    ]) refl e

pub not-number : (ps : List Part) (k : ℕ) → part_numbered k ps ≡ None → 0 < k → k ≤ length ps → ⊥
not-number [] k e low high = omega (arith, low, high)
not-number (q ∷ ps) k e low high =
    let P : Bool → Type 0 = λ b. (suc (length ps) == k) ≡ b → cond b (Some q) (part_numbered k ps) ≡ None → ⊥ in
    (elim (suc (length ps) == k) as P [
      | true ↦ λ b h. none-some q (sym h)
      | false ↦ λ b h. let n = eqb-false _ _ b in not-number ps k h low (omega (arith, high, n))
    ]) refl e

-- Parts whose trailers a walk has still to come, and of which P holds.
pub record Ahead (rs : Records) (xs : List (ℕ × Trailer)) (P : List Part → Type 0) : Type 0 where
  pub parts : List Part
  pub lists : numbered parts ≡ xs
  pub listed : Listed rs parts
  pub holds : P parts

pub begun : (rs : Records) (at : ℕ) (P : List Part → Type 0) → at ≤ length rs → P (parts_below rs at) → Ahead rs (numbered (parts_below rs at)) P
begun rs at P h p = record { parts = parts_below rs at; lists = refl; listed = listed rs at h; holds = p }

module _ (rs : Records) (xs : List (ℕ × Trailer)) (P : List Part → Type 0) (a : Ahead rs xs P) where
  pub ended : xs ≡ [] → P []
  ended e = by a.parts (a.lists ∙ e) a.holds where
    by : (ps : List Part) → numbered ps ≡ [] → P ps → P []
    by [] n p = p
    by (q ∷ ps) n p = absurd (omega (arith, ap length n))

  module _ (k : ℕ) (t : Trailer) (ys : List (ℕ × Trailer)) (e : xs ≡ (k, t) ∷ ys) where
    pub inside : t.previous + t.records ≤ length rs
    inside = (next rs a.parts k t ys a.listed (a.lists ∙ e)).inside

    pub step : (Q : List Part → Type 0) → ((ps : List Part) → suc (length ps) ≡ k → P (part_of rs t ∷ ps) → Q ps) → Ahead rs ys Q
    step Q on =
        let n = next rs a.parts k t ys a.listed (a.lists ∙ e) in
        record { parts = n.rest; lists = n.lists; listed = n.below; holds = on n.rest (sym n.many) (subst P (sym n.parts) a.holds) }

-- Judged from the last entry back: what is left, and then what was found, gives the whole.
abbrev pub Judging : Reads → Result (Unit {0}) VolumeFault → Result (Unit {0}) VolumeFault → List Part → Type 0
Judging reads later whole ps = then (judge reads ps) (λ _. later) ≡ whole

then_unit : (r : Result (Unit {0}) VolumeFault) → then r (λ _. Ok tt) ≡ r
then_unit (Ok x) = refl
then_unit (Err e) = refl

pub judging_begun : (reads : Reads) (rs : Records) (at : ℕ) → at ≤ length rs → Ahead rs (numbered (parts_below rs at)) (Judging reads (Ok tt) (judge reads (parts_below rs at)))
judging_begun reads rs at h = begun rs at (Judging reads (Ok tt) (judge reads (parts_below rs at))) h (then_unit (judge reads (parts_below rs at)))

pub judging_ended : (reads : Reads) (later whole : Result (Unit {0}) VolumeFault) → Judging reads later whole [] → later ≡ whole
unfolding judge
judging_ended reads later whole h = h

then_and : (r s t : Result (Unit {0}) VolumeFault) → then r (λ _. result_and s t) ≡ then (then r (λ _. s)) (λ _. t)
then_and (Ok x) (Ok y) t = refl
then_and (Ok x) (Err f) t = refl
then_and (Err e) s t = refl

pub judging_step : (reads : Reads) (k : ℕ) (p : Part) (r later whole : Result (Unit {0}) VolumeFault) → r ≡ compared k p (reads p.entry)
    → (ps : List Part) → suc (length ps) ≡ k → Judging reads later whole (p ∷ ps) → Judging reads (result_and r later) whole ps
unfolding judge
judging_step reads k p r later whole is ps many h =
    then_and (judge reads ps) r later ∙ (λ i. then (then (judge reads ps) (λ _. (is ∙ (λ j. compared (sym many j) p (reads p.entry))) i)) (λ _. later)) ∙ h

pub some_end : (rs : Records) → begins_98 (last_of rs) ≡ true → 0 < length rs
some_end [] h = absurd (false≢true h)
some_end (r ∷ rs) h = omega arith
