-- Two runs, call by call, over archives whose files are twins.
use Rattle.std.proofs.Common.{◌≡◌, ℕ, zero, suc, ◌+◌, ◌-◌, ◌<◌, ◌≤◌, Bool, true, cond, leb, List, [], ◌∷◌, ◌++◌, map, length, get_or, None, Ok, Err, Result, refl, ap, sym, subst, subst₂}
use Rattle.std.specs.List.{AllByRecursion}
use Rattle.field.specs.Chains.{then}
use Rattle.record.specs.Editions.{Meaning, Whole, bare}
use Rattle.shelf.specs.Records.{highest}
use Rattle.sums.specs.declared.Row.{Row}
use Rattle.manual.specs.Laws.{judging}
use Rattle.filing.specs.declared.faults.VolumeFault.{VolumeFault}
use Rattle.filing.specs.declared.faults.VolumeFault.TheVariants.{BalanceShort}
use Rattle.filing.specs.declared.standing.Standing.{Standing}
use Rattle.filing.specs.declared.standing.Standing.TheVariants.{Open, Closed}
use Rattle.filing.specs.Taking.{by_file, admitted}
use Rattle.report.specs.declared.pairs.Pair.{Pair}
use Rattle.report.specs.Listing.{records_in}
use Rattle.showing.specs.Showing.{how_many, filled_in}
use Rattle.balancing.specs.Balancing.{balance_answer, balance_table}
use Rattle.twins.specs.Twins.{Passes, Follow, FollowIn, Partners}
use Rattle.twins.specs.Agreeing.{Each, none, more}
use Rattle.twins.proofs.Following.{paired, partners}
use Rattle.twins.proofs.Levels.{each_append, each_length}
use Rattle.twins.proofs.Sparing.{passes_in, passes_bare}
use Rattle.law.specs.Archive.{TakenFile, records_of, Archive, empty, entries, places, Call, taking_in, closing, opening_again, showing, fetching, balancing, Answer, taken_in, opened, rows, sums, taking, answer, with_file, AllAllowed, Allowed, after, after_all}
use Rattle.law.specs.Copies.{entry_at, CopyAlike, copy_answer, copy_buffer}
use Rattle.law.specs.Runs.{archive, Alike}
use Rattle.law.specs.TwoRuns.{SameEdition, editions, SameCall, takes_in, closes, opens, shows, fetches, balances, AnswerAlike, both_taken, both_refused, both_marked, both_same, both_closed, both_opened, set_aside, both_balanced, NotFull, NeverFull, numbered_records, CallsAlike, RunsAlike, SameCalls, TwoRuns}
use Rattle.law.proofs.Lawful.{Sound-in, sound_after, sound_empty, allowed_on}
use Rattle.law.proofs.SameEditions.{file_whole, check_same, shown_same, copying_same}
use Rattle.law.proofs.TwinEntries.{TwinFile, entries_alike, entry_alike, entry_partners}
use Rattle.law.proofs.TwinBalances.{balances_alike}
use Rattle.law.proofs.TwinCopies.{copying_alike}
use Rattle.law.proofs.TwinTakings.{TakenAlike, accepted, refused, is_marked, is_same, Fits, taken_alike}
use Rattle.law.proofs.TwinShowings.{showing_alike}

-- archives of twins
pub record Beside (spare : ℕ → Bool) (a b : Archive) : Type 0 where
  pub files : Each (TwinFile spare) a.files b.files
  pub standing : a.standing ≡ b.standing

-- Taking in.

taken_answer : (F : ℕ → ℕ → Type 0) (r q : Result ℕ VolumeFault) → TakenAlike F r q → AnswerAlike F (taken_in r) (taken_in q)
taken_answer F _ _ (accepted k) = both_taken k
taken_answer F _ _ (refused c i j f) = both_refused c i j f
taken_answer F _ _ is_marked = both_marked
taken_answer F _ _ (is_same k) = both_same k

fits_from : (r : Result ℕ VolumeFault) → NotFull (taken_in r) → Fits r
fits_from r h = record { few = λ n e. h.few_records n (ap taken_in e); room = λ e. h.has_room (ap taken_in e) }

taken_after : (spare : ℕ → Bool) (a b : Archive) → Beside spare a b → (F : ℕ → ℕ → Type 0) (t u : TakenFile) → TwinFile spare t u → (r q : Result ℕ VolumeFault) → TakenAlike F r q → Beside spare (with_file a t r) (with_file b u q)
taken_after spare a b h F t u w _ _ (accepted k) =
    record { files = each_append (TwinFile spare) a.files b.files (t ∷ []) (u ∷ []) h.files (more t u [] [] w none); standing = h.standing }
taken_after spare a b h F t u w _ _ (refused c i j f) = h
taken_after spare a b h F t u w _ _ is_marked = h
taken_after spare a b h F t u w _ _ (is_same k) = h

-- Opening again: it is never refused.

opened_alike : (spare : ℕ → Bool) (F : ℕ → ℕ → Type 0) (a b : Archive) → Beside spare a b → AnswerAlike F (answer a opening_again) (answer b opening_again)
opened_alike spare F a b h =
    let many : length a.files ≡ length b.files = each_length (TwinFile spare) a.files b.files h.files in
    let same : ◌≡◌ {A = Answer} (answer a opening_again) (answer b opening_again) = λ i. opened (Ok (record { entries = many i; standing = h.standing i })) in
    subst (AnswerAlike F (answer a opening_again)) same (both_opened _)

-- Balancing.

abbrev fits_table : ℕ → List (Row Pair) → Result (List (Row Pair)) VolumeFault
fits_table many xs = cond (leb (length xs) many) (Ok xs) (Err BalanceShort)

abbrev summed : List (Row Pair) → List (Row Pair) → Answer
summed table xs = sums (balance_answer (fits_table (length table) xs)) (balance_table (fits_table (length table) xs) (length table))

balanced_alike : (F : ℕ → ℕ → Type 0) (table xs ys : List (Row Pair)) → xs ≡ ys → AnswerAlike F (summed table xs) (summed table ys)
balanced_alike F table xs ys e = subst (λ zs. AnswerAlike F (summed table xs) (summed table zs)) e (both_balanced _ _)

next_sound : (a : Archive) (c : Call) → Allowed a.standing c → Sound-in a → Sound-in (after a c)
next_sound a c k h = sound_after a.files a.standing a.limit c k h

-- the same calls are allowed
allowed_same : (spare : ℕ → Bool) (cs ds : List Call) → Each (SameCall spare) cs ds → (s : Standing) → AllAllowed s cs → AllAllowed s ds
allowed_same spare _ _ none s x = tt
allowed_same spare _ _ (more _ _ cs ds (takes_in u v m n cap e t) on) s x = (one s x.0, allowed_same spare cs ds on s x.1)
  where
    one : (s : Standing) → Allowed s (taking_in u m cap) → Allowed s (taking_in v n cap)
    one Open h = tt
    one Closed h = absurd h
allowed_same spare _ _ (more _ _ cs ds closes on) s x = (x.0, allowed_same spare cs ds on Closed x.1)
allowed_same spare _ _ (more _ _ cs ds opens on) s x = (x.0, allowed_same spare cs ds on s x.1)
allowed_same spare _ _ (more _ _ cs ds (shows k m n table e) on) s x = (one s x.0, allowed_same spare cs ds on s x.1)
  where
    one : (s : Standing) → Allowed s (showing k m table) → Allowed s (showing k n table)
    one Open h = tt
    one Closed h = tt
allowed_same spare _ _ (more _ _ cs ds (fetches k n out) on) s x = (x.0, allowed_same spare cs ds on s x.1)
allowed_same spare _ _ (more _ _ cs ds (balances table) on) s x = (x.0, allowed_same spare cs ds on s x.1)

-- the editions of a first call, and of the others
first_editions : (P : Meaning → Type 0) (c : Call) (cs : List Call) → AllByRecursion P (editions (c ∷ cs)) → AllByRecursion P (editions (c ∷ [])) × AllByRecursion P (editions cs)
first_editions P (taking_in file m n) cs p = ((p.0, tt), p.1)
first_editions P closing cs p = (tt, p)
first_editions P opening_again cs p = (tt, p)
first_editions P (showing k m table) cs p = ((p.0, tt), p.1)
first_editions P (fetching k n out) cs p = (tt, p)
first_editions P (balancing table) cs p = (tt, p)

-- records of an entry are whole
entry_whole : (files : List TakenFile) (i : ℕ) → AllByRecursion Whole (get_or (map records_of files) i [])
entry_whole [] i = tt
entry_whole (t ∷ ts) zero = file_whole t.bytes
entry_whole (t ∷ ts) (suc i) = entry_whole ts i

module _ (spare : ℕ → Bool) (pass : Passes spare bare) where
  -- one call each
  record Step (a b : Archive) (c d : Call) : Type 0 where
    pub alike : CallsAlike spare a b c d (answer a c) (answer b d)
    pub beside : Beside spare (after a c) (after b d)

  -- one that names no records, and changes nothing
  reads_only : (a b : Archive) (c d : Call) → numbered_records a c ≡ [] → numbered_records b d ≡ [] → after a c ≡ a → after b d ≡ b → Beside spare a b
      → AnswerAlike (Follow spare (numbered_records a c) (numbered_records b d)) (answer a c) (answer b d) → Step a b c d
  reads_only a b c d x y e f h is = record {
    alike = record { answers = is; partners = subst₂ (Partners spare) (sym x) (sym y) (paired spare [] [] refl) };
    beside = subst₂ (Beside spare) (sym e) (sym f) h;
  }

  module _ (a b : Archive) (h : Beside spare a b) (r : Sound-in a) (q : Sound-in b) where
    step : (c d : Call) → SameCall spare c d → AllByRecursion (Passes spare) (editions (c ∷ [])) → NotFull (answer a c) → NotFull (answer b d) → Step a b c d
    step _ _ (takes_in u v m n cap e t) p f g =
        let is : taking b v n cap ≡ taking b v m cap = sym (ap (λ x. then (by_file x) (λ _. then (admitted b.limit (places b.files) (entries b) (records_in v)) (λ _. Ok (length b.files + 1)))) (check_same m n e (judging cap) v)) in
        let taken = taken_alike spare a b h.files m cap u v p.0 t (fits_from (taking a u m cap) f) (fits_from (taking b v m cap) (subst (λ x. NotFull (taken_in x)) is g)) in
        let both : TakenAlike (FollowIn spare u v) (taking a u m cap) (taking b v n cap) = subst (TakenAlike (FollowIn spare u v) (taking a u m cap)) (sym is) taken in
        record {
          alike = record { answers = taken_answer (FollowIn spare u v) (taking a u m cap) (taking b v n cap) both; partners = partners spare u v t };
          beside = taken_after spare a b h (FollowIn spare u v) (record { bytes = u; edition = m }) (record { bytes = v; edition = n }) t (taking a u m cap) (taking b v n cap) both;
        }
    step _ _ closes p f g = record {
      alike = record { answers = both_closed; partners = paired spare [] [] refl };
      beside = record { files = h.files; standing = refl };
    }
    step _ _ opens p f g = reads_only a b opening_again opening_again refl refl refl refl h (opened_alike spare _ a b h)
    step _ _ (shows k m n table e) p f g =
        let x = get_or (entries a) (k - 1) [] in
        let y = get_or (entries b) (k - 1) [] in
        let es = entries_alike spare a.files b.files h.files in
        let is = shown_same m n e k (length table) (entries b) (entry_whole b.files (k - 1)) in
        record {
          alike = record {
            answers = subst (λ s. AnswerAlike (Follow spare x y) (answer a (showing k m table)) (rows (how_many s) (filled_in s table))) is (showing_alike spare k m p.0 table (entries a) (entries b) es);
            partners = entry_partners spare x y (entry_alike spare (entries a) (entries b) es (k - 1));
          };
          beside = h;
        }
    step _ _ (fetches k n out) p f g = reads_only a b (fetching k n out) (fetching k n out) refl refl refl refl h (set_aside _ _ _ _)
    step _ _ (balances table) p f g =
        reads_only a b (balancing table) (balancing table) refl refl refl refl h
        (balanced_alike _ table _ _ (balances_alike spare pass (entries a) (entries b) (entries_alike spare a.files b.files h.files)))

  runs : (cs ds : List Call) → Each (SameCall spare) cs ds → AllByRecursion (Passes spare) (editions cs) → (a b : Archive) → Beside spare a b → Sound-in a → Sound-in b
      → AllAllowed a.standing cs → AllAllowed b.standing ds → NeverFull a cs → NeverFull b ds → RunsAlike spare a b cs ds × Beside spare (after_all a cs) (after_all b ds)
  runs _ _ none p a b h r q x y f g = (tt, h)
  runs _ _ (more c d cs ds same on) p a b h r q x y f g =
      let ps = first_editions (Passes spare) c cs p in
      let one = step a b h r q c d same ps.0 f.0 g.0 in
      let rest = runs cs ds on ps.1 (after a c) (after b d) one.beside (next_sound a c x.0 r) (next_sound b d y.0 q) (allowed_on a c cs x) (allowed_on b d ds y) f.1 g.1 in
      ((one.alike, rest.0), rest.1)

-- two depositors of the same calls
module _ (spare : ℕ → Bool) (limit other : ℕ) (some : 0 < limit) (bound : limit ≤ highest) (cs ds : List Call) (ok : AllAllowed Open cs) (s : SameCalls spare limit cs other ds) where
  pub both : RunsAlike spare (empty limit) (empty other) cs ds × Beside spare (after_all (empty limit) cs) (after_all (empty other) ds)
  both =
      runs spare (passes_bare spare (editions cs) (editions ds) s.spares) cs ds s.same (passes_in spare (editions cs) (editions ds) s.spares) (empty limit) (empty other)
      (record { files = none; standing = refl }) (sound_empty limit some bound) (sound_empty other s.some s.bound) ok (allowed_same spare cs ds s.same Open ok) s.never s.never_other

pub two_runs : TwoRuns
two_runs = record { every = λ spare limit other some bound cs ds ok s. (both spare limit other some bound cs ds ok s).0 }

-- a plain copy behind the same calls
module _ (limit : ℕ) (past : List Call) (some : 0 < limit) (bound : limit ≤ highest) (ok : AllAllowed Open past) (m : Meaning) (k : ℕ) (before : List ℕ) where
  pub copies_alike : (spare : ℕ → Bool) (other : ℕ) (others : List Call) (n : Meaning) → SameCalls spare limit past other others → SameEdition m n
      → ((c : ℕ) → spare c ≡ true → m.level c ≡ None)
      → CopyAlike (Follow spare (entry_at (archive limit past) k) (entry_at (archive other others) k))
      (copy_answer (archive limit past) m k before) (copy_buffer (archive limit past) m k before)
      (copy_answer (archive other others) n k before) (copy_buffer (archive other others) n k before)
      × Partners spare (entry_at (archive limit past) k) (entry_at (archive other others) k)
  copies_alike spare other others n s e unknown =
      let a = archive limit past in
      let b = archive other others in
      let es = entries_alike spare a.files b.files (both spare limit other some bound past others ok s).1.files in
      let pass : Passes spare m = record { no_core = (passes_bare spare (editions past) (editions others) s.spares).no_core; not_known = unknown } in (
        subst (λ c. CopyAlike (Follow spare (entry_at a k) (entry_at b k)) (copy_answer a m k before) (copy_buffer a m k before) (how_many c) (filled_in c before))
            (copying_same m n e k (length before) (entries b) (entry_whole b.files (k - 1)))
            (copying_alike spare k m pass before (entries a) (entries b) es),
        entry_partners spare (entry_at a k) (entry_at b k) (entry_alike spare (entries a) (entries b) es (k - 1)),
      )

-- ONE CALL behind others.

module _ (spare : ℕ → Bool) where
  no_less : (a b : Archive) (ds : List Call) (d : Call) → RunsAlike spare a b [] (ds ++ d ∷ []) → ⊥
  no_less a b [] d h = h
  no_less a b (e ∷ ds) d h = h

  no_more : (a b : Archive) (cs : List Call) (c : Call) → RunsAlike spare a b (cs ++ c ∷ []) [] → ⊥
  no_more a b [] c h = h
  no_more a b (e ∷ cs) c h = h

  -- the last answers of two runs that are alike
  last_alike : (a b : Archive) (cs ds : List Call) (c d : Call) → RunsAlike spare a b (cs ++ c ∷ []) (ds ++ d ∷ [])
      → CallsAlike spare (after_all a cs) (after_all b ds) c d (answer (after_all a cs) c) (answer (after_all b ds) d)
  last_alike a b [] [] c d h = h.0
  last_alike a b [] (e ∷ ds) c d h = absurd (no_less (after a c) (after b e) ds d h.1)
  last_alike a b (x ∷ cs) [] c d h = absurd (no_more (after a x) (after b d) cs c h.1)
  last_alike a b (x ∷ cs) (e ∷ ds) c d h = last_alike (after a x) (after b e) cs ds c d h.1

-- a call that answers as its archive does answers as another depositor's same call
pub alike : (limit : ℕ) (past : List Call) (c : Call) (a : Answer) → 0 < limit → limit ≤ highest → AllAllowed Open (past ++ c ∷ []) → a ≡ answer (archive limit past) c → Alike limit past c a
alike limit past c a some bound allowed is spare other others d same =
    subst (λ x. CallsAlike spare (archive limit past) (archive other others) c d x (answer (archive other others) d)) (sym is)
    (last_alike spare (empty limit) (empty other) past others c d (two_runs.every spare limit other some bound (past ++ c ∷ []) (others ++ d ∷ []) allowed same))
