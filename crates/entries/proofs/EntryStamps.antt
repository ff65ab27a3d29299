-- The first entry with a time stamp, sought from the last entry back.
use Rattle.std.proofs.Common.{◌≡◌, ℕ, suc, ◌+◌, ◌-◌, ◌≤◌, Bool, true, false, cond, List, [], ◌∷◌, ◌++◌, map, reverse, length, get_or, Some, None, Option, sym, refl, ap, ◌∙◌, arith}
use mathlib.Core.List.{reverse-cons}
use Rattle.std.proofs.lemmas.List.Edits.{length-between, get_or-between, between_none}
use Rattle.std.proofs.lemmas.List.{length-map, length-reverse}
use Rattle.std.proofs.lemmas.Slice.{first_rest}
use Rattle.std.specs.List.{between}
use Rattle.std.specs.Option.{option_or}
use Rattle.record.specs.declared.fields.Start.{Start}
use Rattle.filing.specs.Taking.{start_in, start_of, same_stamp, first_same}
use Rattle.filing.specs.Volumes.{Records, Part, entry_of}
use Rattle.entries.specs.Walks.{parts_below, numbered}
use Rattle.entries.proofs.Walks.{Ahead, begun}

-- what has no start record has no time stamp
same_none : (x : Option Start) → same_stamp x None ≡ false
same_none None = refl
same_none (Some y) = refl

module _ (rs : Records) (before count : ℕ) where
  -- an entry of no records has no start record
  pub no_start : (x : Option Start) → count ≡ 0 → false ≡ same_stamp x (start_of (between before (before + count) rs))
  no_start x none =
      let z : before + count ≡ before = omega arith in
      sym (ap (λ n. same_stamp x (start_of (between before n rs))) z ∙ ap (λ e. same_stamp x (start_of e)) (between_none rs before) ∙ same_none x)

  -- any other entry has its first record behind those that lie before it
  pub start_at : (count ≡ 0 → ⊥) → before + count ≤ length rs → start_of (between before (before + count) rs) ≡ start_in (get_or rs (before + 1 - 1) [])
  start_at some high =
      let e = between before (before + count) rs in
      let long = length-between rs before (before + count) high in
      let z : before + 0 ≡ before + 1 - 1 = omega arith in
      ap start_of (first_rest e [] (omega arith))
      ∙ ap start_in (get_or-between rs before (before + count) 0 [] (omega arith) ∙ ap (λ n. get_or rs n []) z)

-- one more entry behind the others
first-last : (x : Option Start) (k : ℕ) (es : List Records) (e : Records) → first_same x k (es ++ e ∷ []) ≡ option_or (first_same x k es) (cond (same_stamp x (start_of e)) (Some (k + length es)) None)
first-last x k [] e = let z : k ≡ k + 0 = omega arith in ap (λ n. cond (same_stamp x (start_of e)) (Some n) None) z
first-last x k (d ∷ es) e =
    let z : k + 1 + length es ≡ k + suc (length es) = omega arith in
    by (same_stamp x (start_of d)) _ (first_same x (k + 1) es) _ (first-last x (k + 1) es e ∙ ap (λ n. option_or (first_same x (k + 1) es) (cond (same_stamp x (start_of e)) (Some n) None)) z)
  where
    by : (b : Bool) (o p q : Option ℕ) → o ≡ option_or p q → cond b (Some k) o ≡ option_or (cond b (Some k) p) q
    by true o p q h = refl
    by false o p q h = h

or_cond : (o : Option ℕ) (b : Bool) (k : ℕ) (later : Option ℕ) → option_or (option_or o (cond b (Some k) None)) later ≡ option_or o (cond b (Some k) later)
or_cond None true k later = refl
or_cond None false k later = refl
or_cond (Some j) b k later = refl

-- the first among these parts, which have the newest first
abbrev pub first_in : Option Start → List Part → Option ℕ
first_in x ps = first_same x 1 (reverse (map entry_of ps))

first_part : (x : Option Start) (p : Part) (ps : List Part) → first_in x (p ∷ ps) ≡ option_or (first_in x ps) (cond (same_stamp x (start_of p.entry)) (Some (1 + length ps)) None)
first_part x p ps =
    let long = length-reverse (map entry_of ps) ∙ length-map ps entry_of in
    ap (first_same x 1) (reverse-cons p.entry (map entry_of ps))
    ∙ first-last x 1 (reverse (map entry_of ps)) p.entry
    ∙ ap (λ n. option_or (first_in x ps) (cond (same_stamp x (start_of p.entry)) (Some (1 + n)) None)) long

-- Sought from the last entry back: what is left, or else what was found, gives the whole.
abbrev pub Seeking : Option Start → Option ℕ → Option ℕ → List Part → Type 0
Seeking x later whole ps = option_or (first_in x ps) later ≡ whole

or_none : (o : Option ℕ) → option_or o None ≡ o
or_none None = refl
or_none (Some k) = refl

pub seeking_begun : (x : Option Start) (rs : Records) (at : ℕ) → at ≤ length rs → Ahead rs (numbered (parts_below rs at)) (Seeking x None (first_in x (parts_below rs at)))
seeking_begun x rs at h = begun rs at (Seeking x None (first_in x (parts_below rs at))) h (or_none (first_in x (parts_below rs at)))

pub seeking_step : (x : Option Start) (k : ℕ) (p : Part) (here : Bool) (later whole : Option ℕ) → here ≡ same_stamp x (start_of p.entry)
    → (ps : List Part) → suc (length ps) ≡ k → Seeking x later whole (p ∷ ps) → Seeking x (cond here (Some k) later) whole ps
seeking_step x k p here later whole is ps many h =
    let before = first_in x ps in
    let last : 1 + length ps ≡ k = omega (arith, many) in
    let all : first_in x (p ∷ ps) ≡ option_or before (cond here (Some k) None) = first_part x p ps ∙ (λ i. option_or before (cond (sym is i) (Some (last i)) None)) in
    sym (or_cond before here k later) ∙ ap (λ o. option_or o later) (sym all) ∙ h
