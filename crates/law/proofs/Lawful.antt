-- The law over lists of calls.
use Rattle.std.proofs.Common.{◌≡◌, ℕ, zero, suc, ◌+◌, ◌-◌, ◌<◌, ◌≤◌, Bool, true, false, cond, ◌&&◌, leb, List, [], ◌∷◌, ◌++◌, map, length, get_or, Some, None, Ok, Err, Option, Result, sym, refl, ap, ◌∙◌, subst, arith}
use Rattle.std.specs.Prelude.{slice_get}
use Rattle.std.specs.List.{AllByRecursion}
use Rattle.std.proofs.lemmas.List.{length-append, length-map, map-append, get_or-map}
use Rattle.std.proofs.lemmas.Option.{slice_get_within, get_or_from_slice_get}
use Rattle.std.proofs.lemmas.Bool.{cond-true, cond-false, le-leb, lt-leb, leb-true, and_from}
use Rattle.field.specs.Chains.{then}
use Rattle.record.specs.declared.fields.End.{End}
use Rattle.record.specs.declared.rows.Row.{Row as Shown}
use Rattle.record.specs.Editions.{Meaning, Extends}
use Rattle.shelf.specs.Records.{highest}
use Rattle.trailer.specs.Trailers.{trailer_of}
use Rattle.manual.specs.declared.faults.FileFault.{FileFault}
use Rattle.manual.specs.Slots.{slots}
use Rattle.manual.specs.Judging.{check_of}
use Rattle.manual.specs.Laws.{judging}
use Rattle.manual.specs.Manual.{Section, Reading, Follows}
use Rattle.manual.specs.Slots.{front}
use Rattle.manual.proofs.Accepting.{right, front_lines}
use Rattle.filing.specs.declared.faults.VolumeFault.{VolumeFault}
use Rattle.filing.specs.declared.standing.Standing.{Standing}
use Rattle.filing.specs.declared.standing.Standing.TheVariants.{Open, Closed}
use Rattle.filing.specs.Entries.{reads}
use Rattle.trailer.proofs.TrailerLaws as trailers
use Rattle.filing.proofs.Opens.{same_entries}
use Rattle.filing.specs.Volumes.{Records, closing_behind, entries_of, lay, lay_from, trailer_behind}
use Rattle.filing.specs.Laws.{All-good, Room, of_entries}
use Rattle.filing.specs.Taking.{by_file, admitted}
use Rattle.filing.proofs.Fitting.{fits, file_reads}
use Rattle.filing.proofs.Laid.{length_more, in_order}
use Rattle.filing.proofs.Lies.{laid_lie}
use Rattle.filing.proofs.Readings.{file_entry}
use Rattle.filing.specs.Readings.{EntryReads}
use Rattle.filing.proofs.Results.{then_ok as volume_ok}
use Rattle.volume.specs.Tokens.{found_on}
use Rattle.volume.specs.Taking.{numbered_in, in_entry, fetched, fetch_answer, fetch_bytes}
use Rattle.volume.proofs.Opened.{laws}
use Rattle.volume.proofs.Taken.{has_room}
use Rattle.report.specs.Pairs.{no_pair}
use Rattle.report.specs.Riders.{Finds}
use Rattle.report.specs.Rows.{rows_of}
use Rattle.report.specs.Faults.{first_fault}
use Rattle.report.specs.Balances.{all_records, moves_of, balance_of}
use Rattle.report.specs.Sections.{pairs}
use Rattle.report.proofs.Listed.{rows_stand}
use Rattle.report.proofs.Riders.{none_found, first_found}
use Rattle.report.proofs.Movements.{moves_few}
use Rattle.balancing.specs.Stands.{SectionsIn}
use Rattle.balancing.specs.Stands as entries_in
use Rattle.balancing.proofs.Standing.{enough, too_few, below}
use Rattle.balancing.proofs.Standing as standing_of
use Rattle.filing.specs.declared.faults.VolumeFault.TheVariants.{Rider, RowsShort}
use Rattle.showing.specs.Showing.{fitting, shown, how_many, filled_in}
use Rattle.showing.proofs.Riders.{never_found}
use Rattle.law.proofs.OneShown.{shown_of}
use Rattle.balancing.specs.Balancing.{balance_answer, balance_table}
use Rattle.law.specs.Archive.{TakenFile, records_of, Archive, empty, entries, places, Call, taking_in, closing, opening_again, showing, fetching, balancing, Answer, rows, bytes, sums, taking, answer, with_file, after, after_all, Allowed, standing_after, AllAllowed}
use Rattle.law.specs.Law.{Sections, none, more, At, NoneAt, Shows, SumsUp, shelf_of, OnShelf, Lawful}

-- WHAT STAYS from call to call.

-- the file was accepted under its edition
abbrev Accepted : TakenFile → Type 0
Accepted t = (cap : ℕ) × (e : End) × (check_of (judging cap) t.edition t.bytes ≡ Ok e)

pub record Sound (files : List TakenFile) (s : Standing) (limit : ℕ) : Type 0 where
  pub accepted : AllByRecursion Accepted files
  pub few : length (lay reads (map records_of files)) ≤ limit
  pub room : Room s (length (lay reads (map records_of files))) limit
  pub bound : limit ≤ highest

all_push : (xs : List TakenFile) (x : TakenFile) → AllByRecursion Accepted xs → Accepted x → AllByRecursion Accepted (xs ++ x ∷ [])
all_push [] x h p = (p, tt)
all_push (y ∷ xs) x h p = (h.0, all_push xs x h.1 p)

-- the places that files take are those of their entries with their trailers
places_from : (files : List TakenFile) (k n : ℕ) → length (lay_from reads k n (map records_of files)) ≡ places files
unfolding lay_from
places_from [] k n = refl
places_from (t ∷ ts) k n =
    let e = records_of t in
    let x = trailer_of (trailer_behind reads k n e) in
    let rest = lay_from reads (k + 1) (n + length e + 1) (map records_of ts) in
    omega (arith, places_from ts (k + 1) (n + length e + 1), length-append (e ++ x ∷ []) rest, length-append e (x ∷ []))

pub places-lie : (files : List TakenFile) → length (lay reads (map records_of files)) ≡ places files
places-lie files = ap length (in_order reads (map records_of files)) ∙ places_from files 0 0

-- a taking in that was not refused
took : (a : Archive) (file : List ℕ) (m : Meaning) (cap k : ℕ) → taking a file m cap ≡ Ok k
    → ((e : End) × (check_of (judging cap) m file ≡ Ok e)) × (places a.files + length (front (slots file)) + 2 ≤ a.limit)
took a file m cap k h =
    let e = front (slots file) in
    let admits = admitted a.limit (places a.files) (entries a) e in
    let x = volume_ok (by_file (check_of (judging cap) m file)) (λ _. then admits (λ _. Ok (length a.files + 1))) k h in
    let y = volume_ok admits (λ _. Ok (length a.files + 1)) k x.2 in
    (checked (check_of (judging cap) m file) x.0 x.1, has_room a.limit (places a.files) (entries a) e (sym y.1))
  where
    checked : (r : Result End FileFault) (e : End) → by_file r ≡ Ok e → (d : End) × (r ≡ Ok d)
    checked (Ok d) e q = (d, refl)
    checked (Err f) e q = let z : ◌≡◌ {A = ℕ} 0 1 = cc in absurd (omega arith)

pub took_number : (a : Archive) (file : List ℕ) (m : Meaning) (cap k : ℕ) → taking a file m cap ≡ Ok k → k ≡ length a.files + 1
took_number a file m cap k h =
    let admits = admitted a.limit (places a.files) (entries a) (front (slots file)) in
    let x = volume_ok (by_file (check_of (judging cap) m file)) (λ _. then admits (λ _. Ok (length a.files + 1))) k h in
    let y = volume_ok admits (λ _. Ok (length a.files + 1)) k x.2 in
    let z = y.2 in
    cc

module _ (files : List TakenFile) (limit : ℕ) (h : Sound files Open limit) (file : List ℕ) (m : Meaning) (cap : ℕ) where
  sound_took : (r : Result ℕ VolumeFault) → taking (record { files = files; standing = Open; limit = limit }) file m cap ≡ r
      → Sound (with_file (record { files = files; standing = Open; limit = limit }) (record { bytes = file; edition = m }) r).files
      (with_file (record { files = files; standing = Open; limit = limit }) (record { bytes = file; edition = m }) r).standing
      (with_file (record { files = files; standing = Open; limit = limit }) (record { bytes = file; edition = m }) r).limit
  sound_took (Err f) q = h
  sound_took (Ok k) q =
      let es = map records_of files in
      let e = front (slots file) in
      let ok = took (record { files = files; standing = Open; limit = limit }) file m cap k q in
      let long : length (lay reads (map records_of (files ++ record { bytes = file; edition = m } ∷ []))) ≡ length (lay reads es) + length e + 1 =
      ap (λ l. length (lay reads l)) (map-append records_of files (record { bytes = file; edition = m } ∷ [])) ∙ length_more reads es e in
      let same : length (lay reads es) ≡ places files = places-lie files in
      record {
        accepted = all_push files (record { bytes = file; edition = m }) h.accepted (cap, ok.0.0, ok.0.1);
        few = omega (arith, long, ok.1, same);
        room = omega (arith, long, ok.1, same);
        bound = h.bound;
      }

abbrev pub Sound-in : Archive → Type 0
Sound-in a = Sound a.files a.standing a.limit

pub sound_after : (files : List TakenFile) (s : Standing) (limit : ℕ) (c : Call) → Allowed s c → Sound files s limit → Sound-in (after (record { files = files; standing = s; limit = limit }) c)
sound_after files Open limit (taking_in file m cap) ok h = sound_took files limit h file m cap (taking (record { files = files; standing = Open; limit = limit }) file m cap) refl
sound_after files Closed limit (taking_in file m cap) ok h = absurd ok
sound_after files s limit closing ok h = record { accepted = h.accepted; few = h.few; room = tt; bound = h.bound }
sound_after files s limit opening_again ok h = h
sound_after files s limit (showing k m table) ok h = h
sound_after files s limit (fetching k n out) ok h = h
sound_after files s limit (balancing table) ok h = h

-- how an archive stands after a call
pub standing_is : (a : Archive) (c : Call) → standing_after a.standing c ≡ (after a c).standing
standing_is a (taking_in file m cap) = by (taking a file m cap)
  where
    by : (r : Result ℕ VolumeFault) → a.standing ≡ (with_file a (record { bytes = file; edition = m }) r).standing
    by (Ok k) = refl
    by (Err f) = refl
standing_is a closing = refl
standing_is a opening_again = refl
standing_is a (showing k m table) = refl
standing_is a (fetching k n out) = refl
standing_is a (balancing table) = refl

-- so that the calls behind an allowed one are allowed
pub allowed_on : (a : Archive) (c : Call) (cs : List Call) → AllAllowed a.standing (c ∷ cs) → AllAllowed (after a c).standing cs
allowed_on a c cs ok = subst (λ s. AllAllowed s cs) (standing_is a c) ok.1

pub sound_all : (a : Archive) (cs : List Call) → AllAllowed a.standing cs → Sound-in a → Sound-in (after_all a cs)
sound_all a [] ok h = h
sound_all a (c ∷ cs) ok h = sound_all (after a c) cs (allowed_on a c cs ok) (sound_after a.files a.standing a.limit c ok.0 h)

pub sound_empty : (limit : ℕ) → 0 < limit → limit ≤ highest → Sound-in (empty limit)
unfolding Rattle.filing.specs.Volumes.laid
sound_empty limit some bound = record { accepted = tt; few = omega arith; room = some; bound = bound }

-- ENTRIES by their number.

pub good : (files : List TakenFile) → AllByRecursion Accepted files → All-good reads (map records_of files)
good [] h = tt
good (t ∷ ts) h =
    let is = file_reads h.0.0 t.edition t.bytes h.0.1 h.0.2 in
    (record { totals = _; is = is; fits = fits (records_of t) _ is }, good ts h.1)

in_numbers : (k n : ℕ) → 0 < k → k ≤ n → numbered_in k n ≡ true
in_numbers k n low high = and_from _ _ (le-leb 1 k (omega arith)) (le-leb k n high)

no_number : {A : Type 0} (k : ℕ) (xs : List A) → NoneAt k xs → numbered_in k (length xs) ≡ false
no_number k xs h = by (leb 1 k) (leb k (length xs)) refl refl
  where
    by : (b c : Bool) → leb 1 k ≡ b → leb k (length xs) ≡ c → (b && c) ≡ false
    by false c e f = refl
    by true false e f = refl
    by true true e f = absurd (h (omega (arith, leb-true 1 k e)) (leb-true k (length xs) f))

module _ (k : ℕ) (t : TakenFile) (files : List TakenFile) (at : At k t files) where
  within : k ≤ length files
  within = omega (arith, at.0, slice_get_within files (k - 1) t at.1)

  is-there : numbered_in k (length (map records_of files)) ≡ true
  is-there = in_numbers k _ at.0 (omega (arith, within, length-map files records_of))

  its_records : get_or (map records_of files) (k - 1) [] ≡ records_of t
  its_records =
      get_or-map records_of files (k - 1) t [] (slice_get_within files (k - 1) t at.1)
      ∙ ap records_of (get_or_from_slice_get files (k - 1) t t at.1)

-- A FILE that was taken in, and riders under an edition that its own extends.

accepted_at : (files : List TakenFile) (i : ℕ) (t : TakenFile) → AllByRecursion Accepted files → slice_get files i ≡ Some t → Accepted t
accepted_at [] i t h q = let z : ◌≡◌ {A = ℕ} 0 1 = cc in absurd (omega arith)
accepted_at (x ∷ xs) zero t h q = let same : x ≡ t = cc in subst Accepted same h.0
accepted_at (x ∷ xs) (suc i) t h q = accepted_at xs i t h.1 q

stands : (t : TakenFile) (r : Reading) → Follows t.edition t.bytes r → (m : Meaning) → Extends t.edition m → Finds m (records_of t) → ⊥
stands t r f m wider finds = never_found m t.edition t.bytes r f wider (subst (λ x. Finds m x) (front_lines t.edition t.bytes r f) finds)

-- a file that was taken in has a reading
its_reading : (files : List TakenFile) (k : ℕ) (t : TakenFile) → AllByRecursion Accepted files → At k t files → (r : Reading) × Follows t.edition t.bytes r
its_reading files k t h at =
    let ok = accepted_at files (k - 1) t h at.1 in
    let f = (right ok.0 t.edition t.bytes).accepted ok.1 ok.2 in
    (f.0, f.1)

-- the tree of its reading is that of its records as an entry
entry_tree : (t : TakenFile) (r : Reading) → Follows t.edition t.bytes r → EntryReads (records_of t) r.tree
entry_tree t r f = subst (λ x. EntryReads x r.tree) (sym (front_lines t.edition t.bytes r f)) (file_entry t.edition f.lines r.tree f.reads)

-- SHOWING.

module _ (k : ℕ) (m : Meaning) (e : Records) where
  some_fault : (o : Option FileFault) (n : ℕ) (table : List Shown) (f : FileFault)
      → ◌≡◌ {A = Answer} (rows (how_many (shown_of k m n o e)) (filled_in (shown_of k m n o e) table)) (rows (Err (Rider k f)) table) → o ≡ Some f
  some_fault (Some g) n table f h = let same : g ≡ f = cc in ap Some same
  some_fault None n table f h = by (leb (length (rows_of m e)) n) h
    where
      by : (b : Bool) → (let r = cond b (Ok (rows_of m e)) (Err (RowsShort (length (rows_of m e)))) in ◌≡◌ {A = Answer} (rows (how_many r) (filled_in r table)) (rows (Err (Rider k f)) table)) → None ≡ Some f
      by true q = let z : ◌≡◌ {A = ℕ} 0 1 = cc in absurd (omega arith)
      by false q = let z : ◌≡◌ {A = ℕ} 0 1 = cc in absurd (omega arith)

module _ (a : Archive) (h : Sound-in a) (k : ℕ) (t : TakenFile) (at : At k t a.files) (m : Meaning) where
  e : Records
  e = records_of t

  -- what is shown, of the file itself
  shown_is : (n : ℕ) → shown m k n (entries a) ≡ shown_of k m n (first_fault m (records_of t)) (records_of t)
  shown_is n =
      ap (λ p. then p (λ x. fitting RowsShort n (rows_of m x))) (cond-true _ _ _ (is-there k t a.files at))
      ∙ ap (λ x. shown_of k m n (first_fault m x) x) (its_records k t a.files at)

  answer_is : (table : List Shown) (o : Option FileFault) → first_fault m (records_of t) ≡ o
      → answer a (showing k m table) ≡ rows (how_many (shown_of k m (length table) o (records_of t))) (filled_in (shown_of k m (length table) o (records_of t)) table)
  answer_is table o q =
      ap (λ r. rows (how_many r) (filled_in r table)) (shown_is (length table) ∙ ap (λ x. shown_of k m (length table) x (records_of t)) q)

  refused_at : (table : List Shown) (f : FileFault) → answer a (showing k m table) ≡ rows (Err (Rider k f)) table → first_fault m (records_of t) ≡ Some f
  refused_at table f q = some_fault k m (records_of t) (first_fault m (records_of t)) (length table) table f (sym (answer_is table (first_fault m (records_of t)) refl) ∙ q)

  no_fault : (o : Option FileFault) → first_fault m (records_of t) ≡ o → (Finds m (records_of t) → ⊥) → first_fault m (records_of t) ≡ None
  no_fault None q none_finds = q
  no_fault (Some f) q none_finds = absurd (none_finds (first_found m (records_of t) f q).found)

  fault_some : (table : List Shown) (o : Option FileFault) → first_fault m (records_of t) ≡ o → Finds m (records_of t) → (f : FileFault) × (answer a (showing k m table) ≡ rows (Err (Rider k f)) table)
  fault_some table None q finds = absurd (none_found m (records_of t) q finds)
  fault_some table (Some f) q finds = (f, answer_is table (Some f) q)

  pub shows : Shows a k t m
  shows = record {
    refused = λ table. (λ r. (first_found m (records_of t) r.0 (refused_at table r.0 r.1)).found, fault_some table (first_fault m (records_of t)) refl);
    first = λ table f q. first_found m (records_of t) f (refused_at table f q);
    fills = λ table none_finds fit.
        answer_is table None (no_fault (first_fault m (records_of t)) refl none_finds)
        ∙ ap (λ r. rows (how_many r) (filled_in r table)) (cond-true (leb (length (rows_of m (records_of t))) (length table)) (Ok (rows_of m (records_of t))) (Err (RowsShort (length (rows_of m (records_of t))))) (le-leb _ _ fit));
    short = λ table none_finds few.
        answer_is table None (no_fault (first_fault m (records_of t)) refl none_finds)
        ∙ ap (λ r. rows (how_many r) (filled_in r table)) (cond-false (leb (length (rows_of m (records_of t))) (length table)) (Ok (rows_of m (records_of t))) (Err (RowsShort (length (rows_of m (records_of t))))) (lt-leb _ _ few));
    right = rows_stand m (records_of t);
    extends = λ wider.
        let f = its_reading a.files k t h.accepted at in
        stands t f.0 f.1 m wider;
  }

-- BALANCING.

-- the sections of files that follow the manual
has_sections : (files : List TakenFile) → AllByRecursion Accepted files → (ss : List Section) × Sections files ss
has_sections [] h = ([], none)
has_sections (t ∷ ts) h =
    let f = (right h.0.0 t.edition t.bytes).accepted h.0.1 h.0.2 in
    let rest = has_sections ts h.1 in
    (f.0.tree.sections ++ rest.0, more t f.0 ts rest.0 f.1 rest.1)

-- they are those of the trees of its entries
in_entries : (files : List TakenFile) (ss : List Section) → Sections files ss → SectionsIn (map records_of files) ss
in_entries _ _ none = entries_in.none
in_entries _ _ (more t r ts ss f rest) = entries_in.more (records_of t) r.tree (map records_of ts) ss (entry_tree t r f) (in_entries ts ss rest)

-- entries have no more records than their volume
many_lie : (es : List Records) (k places : ℕ) → length (all_records es) ≤ length (lay_from reads k places es)
unfolding lay_from
many_lie [] k places = omega arith
many_lie (e ∷ es) k places =
    let x = trailer_of (trailer_behind reads k places e) in
    let rest = lay_from reads (k + 1) (places + length e + 1) es in
    omega (arith, many_lie es (k + 1) (places + length e + 1), length-append (e ++ x ∷ []) rest, length-append e (x ∷ []), length-append e (all_records es))

module _ (a : Archive) (h : Sound-in a) (ss : List Section) (of : Sections a.files ss) where
  of_entries_of : SectionsIn (entries a) ss
  of_entries_of = in_entries a.files ss of

  few_moves : length (moves_of (entries a)) ≤ 500000
  few_moves =
      omega (arith, moves_few no_pair (all_records (entries a)), many_lie (entries a) 0 0, ap length (in_order reads (entries a)), h.few, h.bound)

  as_pairs : length (balance_of (entries a)) ≡ pairs ss
  as_pairs = standing_of.many (entries a) ss of_entries_of few_moves

  pub sums_up : SumsUp a ss
  sums_up = record {
    balance = balance_of (entries a);
    right = standing_of.right (entries a) ss of_entries_of few_moves;
    many = as_pairs;
    below = below (entries a) ss of_entries_of few_moves;
    fills = λ table le.
        ap (λ b. sums (balance_answer b) (balance_table b (length table))) (enough (length table) (entries a) (omega (arith, le, as_pairs)));
    short = λ table lt.
        ap (λ b. sums (balance_answer b) (balance_table b (length table))) (too_few (length table) (entries a) (omega (arith, lt, as_pairs)));
  }

-- FETCHING from an entry is fetching from its file.
in_file : (a : Archive) (k n : ℕ) (t : TakenFile) → At k t a.files → fetched k n (entries a) ≡ in_entry k n (records_of t)
in_file a k n t at = cond-true _ _ _ (is-there k t a.files at) ∙ ap (in_entry k n) (its_records k t a.files at)

-- THE SHELF.

module _ (a : Archive) (h : Sound-in a) where
  many : length (entries a) ≡ length a.files
  many = length-map a.files records_of

  on_shelf : OnShelf a
  on_shelf = record {
    laid = lay reads (entries a);
    lie = laid_lie (entries a) (good a.files h.accepted);
    lies = λ i. lay reads (entries a) ++ closing_behind a.standing (many i) (length (lay reads (entries a)));
  }

  pub entries_there : entries_of (shelf_of a) ≡ entries a
  entries_there = same_entries reads trailers.laws (entries a) (good a.files h.accepted) (omega (arith, h.few, h.bound)) a.standing

  pub found : found_on (shelf_of a) a.limit ≡ Ok (of_entries reads a.standing (entries a))
  found = laws.finds reads a.standing a.limit (entries a) (good a.files h.accepted) (omega (arith, h.few, h.bound)) h.room

-- THE LAW.

pub lawful : (a : Archive) → Sound-in a → Lawful a
lawful a h = record {
  reading = λ k t at. its_reading a.files k t h.accepted at;
  tree = λ k t r at f. entry_tree t r f;
  checks = λ file m payers. right payers m file;
  holds = on_shelf a h;
  entries_found = entries_there a h;
  finds = found a h ∙ (λ i. Ok (record { entries = many a h i; last = places-lie a.files i; standing = a.standing }));
  reopens = refl;
  shows = λ k t at m. shows a h k t at m;
  shows_none = λ k no m table.
      ap (λ p. let r = then p (λ x. fitting RowsShort (length table) (rows_of m x)) in rows (how_many r) (filled_in r table)) (cond-false _ _ _ (ap (numbered_in k) (length-map a.files records_of) ∙ no_number k a.files no));
  fetches = λ k n t r out at line.
      let inside : numbered_in n (length (records_of t)) ≡ true = in_numbers n _ line.0 (omega (arith, line.0, slice_get_within (records_of t) (n - 1) r line.1)) in
      ap (λ f. bytes (fetch_answer f) (fetch_bytes f out)) (in_file a k n t at ∙ cond-true _ _ _ inside ∙ ap Ok (get_or_from_slice_get (records_of t) (n - 1) r [] line.1));
  fetches_none = λ k n t out at no.
      ap (λ f. bytes (fetch_answer f) (fetch_bytes f out)) (in_file a k n t at ∙ cond-false _ _ _ (no_number n (records_of t) no));
  fetches_nowhere = λ k n out no.
      ap (λ f. bytes (fetch_answer f) (fetch_bytes f out)) (cond-false _ _ _ (ap (numbered_in k) (length-map a.files records_of) ∙ no_number k a.files no));
  sections = has_sections a.files h.accepted;
  balances = sums_up a h;
}
