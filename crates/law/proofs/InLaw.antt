-- Each call goes on in the law.
use Rattle.std.proofs.Common.{◌≡◌, ℕ, ◌+◌, ◌^◌, ◌<◌, ◌≤◌, List, [], ◌∷◌, ◌++◌, map, length, IfOk, Ok, Err, Result, sym, refl, ap, ◌∙◌, subst, subst₂, append-nil, arith}
use Rattle.std.proofs.lemmas.List.{length-append, length-map, map-append}
use Rattle.field.specs.Chains.{then}
use Rattle.record.specs.declared.rows.Row.{Row as Shown}
use Rattle.record.specs.Editions.{Meaning}
use Rattle.shelf.specs.Records.{Whole, highest}
use Rattle.sums.specs.declared.Row.{Row}
use Rattle.trailer.specs.Trailers.{closing_of}
use Rattle.manual.specs.Slots.{slots}
use Rattle.manual.specs.Judging.{check_of}
use Rattle.manual.specs.Laws.{judging}
use Rattle.manual.specs.Slots.{front}
use Rattle.filing.specs.declared.faults.VolumeFault.{VolumeFault}
use Rattle.filing.specs.declared.standing.Opened.{Opened}
use Rattle.filing.specs.declared.standing.Standing.{Standing}
use Rattle.filing.specs.declared.standing.Standing.TheVariants.{Open, Closed}
use Rattle.filing.specs.Entries.{reads}
use Rattle.filing.specs.Volumes.{Records, lay, volume, opening, entries_of}
use Rattle.filing.specs.Laws.{of_entries, taken, closed as closed_records}
use Rattle.filing.specs.Taking.{by_file, admitted}
use Rattle.filing.proofs.Results.{ok_same}
use Rattle.volume.specs.declared.tokens.OpenVolume.{OpenVolume}
use Rattle.volume.specs.declared.tokens.Volume.{Volume}
use Rattle.volume.specs.Tokens.{token_by, with_token, says, open_says, found_on, Own, OwnOpen}
use Rattle.volume.specs.Taking.{take_answer, take_records, fetched, fetch_answer, fetch_bytes}
use Rattle.volume.proofs.Opened.{laws}
use Rattle.report.specs.declared.pairs.Pair.{Pair}
use Rattle.showing.specs.Showing.{shown, copying, how_many, filled_in}
use Rattle.balancing.specs.Balancing.{balanced, balance_answer, balance_table}
use Rattle.law.specs.Archive.{records_of, Archive, empty, entries, places, Told, Call, taking_in, closing, opening_again, showing, fetching, balancing, Answer, taken_in, closed, opened, rows, bytes, sums, taking, answer, with_file, after, after_all, OnlyReads, Allowed, AllAllowed}
use Rattle.law.specs.Law.{shelf_of}
use Rattle.law.specs.Runs.{archive, Made, Goes, InLaw, EveryRun, tells, told}
use Rattle.law.specs.Copies.{entry_at, CopyAlike, copy_answer, copy_buffer, CopyInLaw}
use Rattle.twins.specs.Twins.{Follow}
use Rattle.law.proofs.Running.{alike, copies_alike}
use Rattle.law.proofs.Lawful.{places-lie, Sound-in, sound_all, sound_empty, entries_there, found, standing_is, allowed_on, lawful}

-- LISTS with one call more.

after_more : (a : Archive) (cs : List Call) (c : Call) → after_all a (cs ++ c ∷ []) ≡ after (after_all a cs) c
after_more a [] c = refl
after_more a (d ∷ cs) c = after_more (after a d) cs c

allowed_more : (a : Archive) (cs : List Call) (c : Call) → AllAllowed a.standing cs → Allowed (after_all a cs).standing c → AllAllowed a.standing (cs ++ c ∷ [])
allowed_more a [] c h k = (k, tt)
allowed_more a (d ∷ cs) c h k =
    (h.0, subst (λ s. AllAllowed s (cs ++ c ∷ [])) (sym (standing_is a d)) (allowed_more (after a d) cs c (allowed_on a d cs h) k))

-- A SHELF that a list of calls has made.
module _ (limit : ℕ) (past : List Call) (rs : Records) (room : ℕ) (made : Made limit past rs room) where
  a : Archive
  a = archive limit past

  sound : Sound-in (archive limit past)
  sound = sound_all (empty limit) past made.allowed (sound_empty limit made.some made.bound)

  limit_is : (b : Archive) (cs : List Call) → (after_all b cs).limit ≡ b.limit
  limit_is b [] = refl
  limit_is b (c ∷ cs) = limit_is (after b c) cs ∙ one c
    where
      one : (c : Call) → (after b c).limit ≡ b.limit
      one (taking_in file m n) = by (taking b file m n)
        where
          by : (r : Result ℕ VolumeFault) → (with_file b (record { bytes = file; edition = m }) r).limit ≡ b.limit
          by (Ok k) = refl
          by (Err f) = refl
      one closing = refl
      one opening_again = refl
      one (showing k m table) = refl
      one (fetching k n out) = refl
      one (balancing table) = refl

  room_is : (archive limit past).limit ≡ room
  room_is = limit_is (empty limit) past ∙ sym made.same

  small : length (lay reads (entries (archive limit past))) < 10 ^ 8
  small = omega (arith, sound.few, sound.bound)

  -- its entries are those of the archive
  entries_are : entries_of rs ≡ entries (archive limit past)
  entries_are = ap entries_of made.lies ∙ entries_there (archive limit past) sound

  -- and its token says what opening the archive answers
  pub opens : found_on rs room ≡ Ok (of_entries reads (archive limit past).standing (entries (archive limit past)))
  opens =
      (λ i. found_on (made.lies i) (sym room_is i)) ∙ found (archive limit past) sound

  says_is : (v : Volume) → Own v rs room → says v ≡ of_entries reads (archive limit past).standing (entries (archive limit past))
  says_is v own = ok_same (sym own ∙ opens)

  -- any call that answers as the archive does, and leaves what the list with it makes
  pub goes_by : (c : Call) (x : Answer) (after : Records) (later : ℕ) → x ≡ answer (archive limit past) c → Made limit (past ++ c ∷ []) after later → Goes limit past c x after later
  goes_by c x after later is on = record { answers = is; lawful = lawful (archive limit past) sound; later = lawful (archive limit (past ++ c ∷ [])) (sound_all (empty limit) (past ++ c ∷ []) on.allowed (sound_empty limit made.some made.bound)); alike = alike limit past c x made.some made.bound on.allowed is; on = on }

  -- a call that only reads
  module _ (c : Call) (only : OnlyReads c) (same : after (archive limit past) c ≡ archive limit past) where
    reading_allowed : (s : Standing) → Allowed s c
    reading_allowed Open = tt
    reading_allowed Closed = only

    pub reads_on : (x : Answer) → x ≡ answer (archive limit past) c → Goes limit past c x rs room
    reads_on x is = goes_by c x rs room is
        (record {
          some = made.some;
          bound = made.bound;
          allowed = allowed_more (empty limit) past c made.allowed (reading_allowed (archive limit past).standing);
          lies = made.lies ∙ ap shelf_of (sym (after_more (empty limit) past c ∙ same));
          same = made.same;
        })

-- THE CALLS.

pub in_law_shown : (rs : Records) (room k : ℕ) (m : Meaning) (table after : List Shown) (r : Result ℕ VolumeFault) → r ≡ how_many (shown m k (length table) (entries_of rs)) → after ≡ filled_in (shown m k (length table) (entries_of rs)) table
    → InLaw rs room (showing k m table) (rows r after) rs room
in_law_shown rs room k m table after r is left limit past made =
    reads_on limit past rs room made (showing k m table) tt refl (rows r after)
    ((λ i. rows (is i) (left i)) ∙ ap (λ es. let s = shown m k (length table) es in rows (how_many s) (filled_in s table)) (entries_are limit past rs room made))

pub in_law_fetched : (rs : Records) (room k n : ℕ) (out after : List ℕ) (r : Result (Unit {0}) VolumeFault) → r ≡ fetch_answer (fetched k n (entries_of rs)) → after ≡ fetch_bytes (fetched k n (entries_of rs)) out
    → InLaw rs room (fetching k n out) (bytes r after) rs room
in_law_fetched rs room k n out after r is left limit past made =
    reads_on limit past rs room made (fetching k n out) tt refl (bytes r after)
    ((λ i. bytes (is i) (left i)) ∙ ap (λ es. let f = fetched k n es in bytes (fetch_answer f) (fetch_bytes f out)) (entries_are limit past rs room made))

pub in_law_balanced : (rs : Records) (room : ℕ) (table after : List (Row Pair)) (r : Result ℕ VolumeFault) → r ≡ balance_answer (balanced (length table) (entries_of rs)) → after ≡ balance_table (balanced (length table) (entries_of rs)) (length table)
    → InLaw rs room (balancing table) (sums r after) rs room
in_law_balanced rs room table after r is left limit past made =
    reads_on limit past rs room made (balancing table) tt refl (sums r after)
    ((λ i. sums (is i) (left i)) ∙ ap (λ es. let b = balanced (length table) es in sums (balance_answer b) (balance_table b (length table))) (entries_are limit past rs room made))

-- what opening tells
abbrev told_of : Result Opened VolumeFault → Result Told VolumeFault
told_of (Ok o) = Ok (record { entries = o.entries; standing = o.standing })
told_of (Err f) = Err f

-- opening a shelf, for the first time or again
pub in_law_opened : (rs : Records) (room : ℕ) (r : Result Opened VolumeFault) → r ≡ found_on rs room → InLaw rs room opening_again (opened (told_of r)) rs room
in_law_opened rs room r is limit past made =
    reads_on limit past rs room made opening_again tt refl (opened (told_of r))
    (ap (λ o. opened (told_of o)) (is ∙ opens limit past rs room made)
    ∙ (λ i. opened (Ok (record { entries = length-map (archive limit past).files records_of i; standing = (archive limit past).standing }))))

module _ (rs : Records) (room : ℕ) (t : OpenVolume) (own : OwnOpen t rs room) (limit : ℕ) (past : List Call) (made : Made limit past rs room) where
  says_open : open_says t ≡ of_entries reads (archive limit past).standing (entries (archive limit past))
  says_open = ok_same (sym own ∙ opens limit past rs room made)

  is_open : (archive limit past).standing ≡ Open
  is_open = sym (ap (λ (o : Opened). o.standing) says_open)

  many : t.entries ≡ length (entries (archive limit past))
  many = ap (λ (o : Opened). o.entries) says_open

  open_allows : (c : Call) → Allowed (archive limit past).standing c
  open_allows c = subst (λ s. Allowed s c) (sym is_open) tt

  laid_open : rs ≡ lay reads (entries (archive limit past))
  laid_open = made.lies ∙ (λ i. volume reads (is_open i) (entries (archive limit past))) ∙ append-nil (lay reads (entries (archive limit past)))

  pub closes_on : (after : Records) (later : ℕ) → after ≡ closed_records t.entries rs → later ≡ room → Goes limit past closing closed after later
  closes_on after later is kept = goes_by limit past rs room made closing closed after later refl
      (record {
        some = made.some;
        bound = made.bound;
        allowed = allowed_more (empty limit) past closing made.allowed (open_allows closing);
        lies =
            is ∙ (λ i. closed_records (many i) (laid_open i))
            ∙ sym (ap shelf_of (after_more (empty limit) past closing));
        same = kept ∙ made.same;
      })

  module _ (file : List ℕ) (m : Meaning) (payers : ℕ) where
    taking_is : take_answer (check_of (judging payers) m file) room rs t (front (slots file)) ≡ taking (archive limit past) file m payers
    taking_is =
        let checked = by_file (check_of (judging payers) m file) in
        let e = front (slots file) in
        let many_places : length rs ≡ places (archive limit past).files = ap length laid_open ∙ places-lie (archive limit past).files in
        let number : t.entries + 1 ≡ length (archive limit past).files + 1 = ap (λ n. n + 1) (many ∙ length-map (archive limit past).files records_of) in
        λ i. then checked (λ _. then (admitted (sym (room_is limit past rs room made) i) (many_places i) (entries_are limit past rs room made i) e) (λ _. Ok (number i)))

    takes_on : (r : Result ℕ VolumeFault) → r ≡ taking (archive limit past) file m payers → take_records r rs t (front (slots file)) ≡ shelf_of (with_file (archive limit past) (record { bytes = file; edition = m }) r)
    takes_on (Err f) is = made.lies
    takes_on (Ok k) is =
        let e = front (slots file) in
        let es = entries (archive limit past) in
        let more : map records_of ((archive limit past).files ++ record { bytes = file; edition = m } ∷ []) ≡ es ++ e ∷ [] = map-append records_of (archive limit past).files (record { bytes = file; edition = m } ∷ []) in
        (λ i. taken reads (many i) (laid_open i) e)
        ∙ sym (laws.one_more reads es e)
        ∙ sym (append-nil (lay reads (es ++ e ∷ [])))
        ∙ sym (λ i. volume reads (is_open i) (more i))

    pub takes : (r : Result ℕ VolumeFault) (after : Records) (later : ℕ) → r ≡ take_answer (check_of (judging payers) m file) room rs t (front (slots file)) → after ≡ take_records r rs t (front (slots file)) → later ≡ room
        → Goes limit past (taking_in file m payers) (taken_in r) after later
    takes r after later is left kept = goes_by limit past rs room made (taking_in file m payers) (taken_in r) after later (ap taken_in (is ∙ taking_is))
        (record {
          some = made.some;
          bound = made.bound;
          allowed = allowed_more (empty limit) past (taking_in file m payers) made.allowed (open_allows (taking_in file m payers));
          lies =
              left ∙ takes_on r (is ∙ taking_is)
              ∙ ap (λ x. shelf_of (with_file (archive limit past) (record { bytes = file; edition = m }) x)) (is ∙ taking_is)
              ∙ sym (ap shelf_of (after_more (empty limit) past (taking_in file m payers)));
          same = kept ∙ made.same;
        })

-- OPENING, as the code tells it.

said_by : (s : Standing) (n l : ℕ) → says (token_by s n l) ≡ record { entries = n; last = l; standing = s }
said_by Open n l = refl
said_by Closed n l = refl

told_is : (f : Result Opened VolumeFault) → told (with_token f) ≡ told_of f
told_is (Ok o) = ap (λ (s : Opened). Ok (record { entries = s.entries; standing = s.standing })) (said_by o.standing o.entries o.last)
told_is (Err e) = refl

pub in_law_told : (rs : Records) (room : ℕ) (r : Result Volume VolumeFault) → r ≡ with_token (found_on rs room) → InLaw rs room opening_again (opened (told r)) rs room
in_law_told rs room r is limit past made =
    let told-right : told r ≡ told_of (found_on rs room) = ap told is ∙ told_is (found_on rs room) in
    subst (λ x. Goes limit past opening_again (opened x) rs room) (sym told-right) (in_law_opened rs room (found_on rs room) refl limit past made)

pub in_law_again : (rs : Records) (room : ℕ) (v : Volume) → Own v rs room → InLaw rs room opening_again (opened (Ok (tells v))) rs room
in_law_again rs room v own = in_law_opened rs room (Ok (says v)) (sym own)

-- an empty shelf that opens is what no call yet has made
stands_open : (s : Standing) (es : List Records) (rs : Records) → rs ≡ [] → rs ≡ volume reads s es → s ≡ Open
stands_open Open es rs none lies = refl
stands_open Closed es rs none lies =
    let some : 0 < length (volume reads Closed es) = omega (arith, length-append (lay reads es) (closing_of (length es) (length (lay reads es)) ∷ [])) in
    absurd (omega (arith, some, ap length lies, ap length none))

pub first_made : (rs : Records) (room : ℕ) (v : Volume) → Whole rs → room ≤ highest → Own v rs room → rs ≡ [] → Made room [] rs room
unfolding Rattle.filing.specs.Volumes.laid
first_made rs room v whole bound own none =
    let h = laws.holds reads room rs (says v) whole own in
    let free = laws.open_room reads room rs (says v) own (stands_open (says v).standing (entries_of rs) rs none h.lies) in
    record { some = omega (arith, free); bound = bound; allowed = tt; lies = none; same = refl }

pub first_if : (rs : Records) (room : ℕ) (r : Result Volume VolumeFault) → Whole rs → room ≤ highest → IfOk r (λ v. Own v rs room) → IfOk r (λ _. rs ≡ [] → Made room [] rs room)
first_if rs room (Ok v) whole bound own = first_made rs room v whole bound own
first_if rs room (Err f) whole bound own = tt

-- THE PLAIN COPY is no call of the list.

pub in_law_copied : (rs : Records) (room k : ℕ) (m : Meaning) (before after : List ℕ) (r : Result ℕ VolumeFault) → r ≡ how_many (copying m k (length before) (entries_of rs)) → after ≡ filled_in (copying m k (length before) (entries_of rs)) before
    → CopyInLaw rs room m k before r after
in_law_copied rs room k m before after r is left limit past made =
    let es = entries_are limit past rs room made in
    let answers : r ≡ copy_answer (archive limit past) m k before = is ∙ ap (λ x. how_many (copying m k (length before) x)) es in
    let buffer : after ≡ copy_buffer (archive limit past) m k before = left ∙ ap (λ x. filled_in (copying m k (length before) x) before) es in
    record {
      lawful = lawful (archive limit past) (sound limit past rs room made);
      answers = answers;
      buffer = buffer;
      alike = λ spare other others n s e unknown.
          let both = copies_alike limit past made.some made.bound made.allowed m k before spare other others n s e unknown in (
            subst₂ (λ x y. CopyAlike (Follow spare (entry_at (archive limit past) k) (entry_at (archive other others) k)) x y (copy_answer (archive other others) n k before) (copy_buffer (archive other others) n k before)) (sym answers) (sym buffer) both.0,
            both.1,
          );
      on = made;
    }

-- EVERY LIST of calls.
pub every_run : EveryRun
every_run = record { every = λ limit some bound cs ok. lawful (archive limit cs) (sound_all (empty limit) cs ok (sound_empty limit some bound)) }
