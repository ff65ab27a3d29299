-- Entries found by their number.
use Rattle.std.proofs.Common.{◌≡◌, ℕ, ◌+◌, ◌-◌, ◌<◌, ◌≤◌, true, false, leb, List, [], map, reverse, length, get_or, Some, Ok, Err, sym, ap, ◌∙◌, arith}
use Rattle.std.specs.List.{between}
use Rattle.std.proofs.lemmas.List.Edits.{length-between, get_or-between}
use Rattle.std.proofs.lemmas.List.{length-map, length-reverse, get_or-map, get_or-reverse}
use Rattle.std.proofs.lemmas.Bool.{cond-true, cond-false, and_parts, leb-true}
use Rattle.trailer.specs.declared.layout.Trailer.{Trailer}
use Rattle.filing.specs.declared.faults.VolumeFault.TheVariants.{NoEntry}
use Rattle.filing.specs.declared.standing.Opened.{Opened}
use Rattle.filing.specs.Entries.{reads}
use Rattle.filing.specs.Volumes.{Records, walk, entry_of, entries_of}
use Rattle.filing.proofs.Holds.{walked_back}
use Rattle.shelf.specs.Records.{Whole}
use Rattle.entries.specs.Walks.{counted, parts_below, part_of, part_numbered}
use Rattle.entries.proofs.Walks.{no_part, as_many, at_number}
use Rattle.volume.specs.Tokens.{found_on}
use Rattle.volume.specs.Taking.{numbered_in, fetched}
use Rattle.volume.proofs.Opened.{laws}

-- a shelf that was opened, and what opening found
module _ (rs : Records) (limit : ℕ) (whole : Whole rs) (o : Opened) (own : found_on rs limit ≡ Ok o) where
  pub walked : counted (walk rs o.last o.last) ≡ Ok o.entries
  walked = let w = walked_back reads limit rs o own in ap counted w.1 ∙ ap Ok w.2

  pub inside : o.last ≤ length rs
  inside = (walked_back reads limit rs o own).3

  -- the entries are those of the parts below the last trailer
  entries_below : entries_of rs ≡ reverse (map entry_of (parts_below rs o.last))
  entries_below = ap (λ n. reverse (map entry_of (parts_below rs n))) (sym (laws.holds reads limit rs o whole own).top)

  pub many : length (entries_of rs) ≡ o.entries
  many = (laws.holds reads limit rs o whole own).many

  -- entry k, found from the back
  entry_at : (k : ℕ) (t : Trailer) → 0 < k → k ≤ o.entries → get_or (parts_below rs o.last) (o.entries - k) no_part ≡ part_of rs t
      → between t.previous (t.previous + t.records) rs ≡ get_or (entries_of rs) (k - 1) []
  entry_at k t low high is =
      let ps = parts_below rs o.last in
      let es = map entry_of ps in
      let long : length es ≡ o.entries = sym (length-reverse es) ∙ ap length (sym entries_below) ∙ many in
      let place : length es - 1 - (k - 1) ≡ o.entries - k = omega arith in
      ap entry_of (sym is)
      ∙ sym (get_or-map entry_of ps (o.entries - k) no_part [] (omega (arith, length-map ps entry_of)))
      ∙ ap (λ n. get_or es n []) (sym place) ∙ sym (get_or-reverse es (k - 1) [] (omega arith)) ∙ ap (λ l. get_or l (k - 1) []) (sym entries_below)

  module _ (k : ℕ) where
    below_many : length (parts_below rs o.last) ≡ o.entries
    below_many = as_many (walk rs o.last o.last) o.entries walked

    -- the trailer that the walk finds is the one behind the entry with this number
    entry_some : (t : Trailer) → Some (part_of rs t) ≡ part_numbered k (parts_below rs o.last) → between t.previous (t.previous + t.records) rs ≡ get_or (entries_of rs) (k - 1) []
    entry_some t e =
        let found = at_number (parts_below rs o.last) k (part_of rs t) (sym e) in
        let place : length (parts_below rs o.last) - k ≡ o.entries - k = ap (λ n. n - k) below_many in
        entry_at k t found.0 (omega (arith, found.1, below_many)) (ap (λ n. get_or (parts_below rs o.last) n no_part) (sym place) ∙ found.2)

  -- a walk over the same records, from the last trailer
  module _ (walked_over : Records) (at : ℕ) (same : walked_over ≡ rs) (top : at ≡ o.last) where
    pub entries_walked : entries_of rs ≡ reverse (map entry_of (parts_below walked_over at))
    entries_walked = entries_below ∙ sym (λ i. reverse (map entry_of (parts_below (same i) (top i))))

    -- what it finds by a number
    pub entry_found : (k : ℕ) (t : Trailer) → part_numbered k (parts_below walked_over at) ≡ Some (part_of walked_over t) → t.previous + t.records ≤ length walked_over
        → (between t.previous (t.previous + t.records) rs ≡ get_or (entries_of rs) (k - 1) []) × (t.previous + t.records ≤ length rs)
    entry_found k t e h =
        let is : Some (part_of rs t) ≡ part_numbered k (parts_below rs o.last) = sym (ap (λ w. Some (part_of w t)) same) ∙ sym e ∙ (λ i. part_numbered k (parts_below (same i) (top i))) in
        (entry_some k t is, omega (arith, h, ap length same))

-- what fetching finds, by its two tests
module _ (k n : ℕ) (es : List Records) where
  pub no_entry : numbered_in k (length es) ≡ false → Err (NoEntry k) ≡ fetched k n es
  no_entry h = sym (cond-false _ _ _ h)

  module _ (some : numbered_in k (length es) ≡ true) (rs : Records) (t : Trailer) (is : between t.previous (t.previous + t.records) rs ≡ get_or es (k - 1) []) (within : t.previous + t.records ≤ length rs) where
    long : length (get_or es (k - 1) []) ≡ t.records
    long = ap length (sym is) ∙ length-between rs t.previous (t.previous + t.records) within ∙ omega arith

    pub no_record : numbered_in n t.records ≡ false → Err (NoEntry k) ≡ fetched k n es
    no_record h = sym (cond-true _ _ _ some ∙ cond-false _ _ _ (ap (numbered_in n) long ∙ h))

    pub record_found : numbered_in n t.records ≡ true → Ok (get_or rs (t.previous + n - 1) []) ≡ fetched k n es
    record_found h =
        let low : 1 ≤ n = leb-true 1 n (and_parts (leb 1 n) (leb n t.records) h).0 in
        let high : n ≤ t.records = leb-true n t.records (and_parts (leb 1 n) (leb n t.records) h).1 in
        let z : t.previous + n - 1 ≡ t.previous + (n - 1) = omega arith in
        ap (λ i. Ok (get_or rs i [])) z
        ∙ ap Ok (sym (get_or-between rs t.previous (t.previous + t.records) (n - 1) [] (omega arith)) ∙ ap (λ e. get_or e (n - 1) []) is)
        ∙ sym (cond-true _ _ _ some ∙ cond-true _ _ _ (ap (numbered_in n) long ∙ h))
