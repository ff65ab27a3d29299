-- What the law says of a file that is taken in on an empty shelf, and of twins on two.
use Rattle.std.proofs.Common.{◌≡◌, ℕ, ◌<◌, ◌≤◌, Bool, true, false, leb, List, [], ◌∷◌, replicate, length, Ok, Err, Result, sym, refl, ap, ◌∙◌, subst, arith}
use Rattle.std.proofs.lemmas.Bool.{leb-true, leb-false}
use Rattle.record.specs.declared.rows.Row.{Row as Shown}
use Rattle.record.specs.Editions.{Meaning, Extends}
use Rattle.shelf.specs.Records.{highest}
use Rattle.filing.specs.declared.faults.VolumeFault.{VolumeFault}
use Rattle.filing.specs.declared.faults.VolumeFault.TheVariants.{NoEntry, Rider, RowsShort}
use Rattle.filing.specs.declared.standing.Standing.TheVariants.{Closed}
use Rattle.filing.specs.Volumes.{Records}
use Rattle.report.specs.Rows.{rows_of}
use Rattle.twins.specs.Agreeing.{none, more, fault_at}
use Rattle.twins.specs.Twins.{spare_in, Twins}
use Rattle.law.specs.Archive.{TakenFile, records_of, Archive, empty, taking_in, closing, showing, Answer, taken_in, rows, taking, answer, with_file, shut}
use Rattle.law.specs.Law.{Shows, Lawful}
use Rattle.law.specs.Runs.{archive, Goes}
use Rattle.law.specs.TwoRuns.{SameEdition, SameCall, takes_in, shows, AnswerAlike, both_taken, both_refused, both_marked, both_same, both_closed, both_opened, both_shown, both_rider, both_no_entry, both_short, set_aside, both_balanced, NotFull}
use Rattle.law.proofs.Lawful.{took_number}
use Rattle.vectors.specs.Deposits.{NotWrong, EqualCounts}

-- showing where the edition of the file's taking in extends the reader's
never : (a : Archive) (k : ℕ) (t : TakenFile) (m : Meaning) (table after : List Shown) (r : Result ℕ VolumeFault) → Shows a k t m → Extends t.edition m → rows r after ≡ answer a (showing k m table) → NotWrong r
never a k t m table after r s wider is j f wrong = by (leb (length (rows_of m (records_of t))) (length table)) refl
  where
    by : (b : Bool) → leb (length (rows_of m (records_of t))) (length table) ≡ b → ⊥
    by true e =
        let q : rows r after ≡ rows (Ok _) _ = is ∙ s.fills table (s.extends wider) (leb-true _ _ e) in
        let z : ◌≡◌ {A = ℕ} 0 1 = cc in absurd (omega arith)
    by false e =
        let q : rows r after ≡ rows (Err (RowsShort _)) table = is ∙ s.short table (s.extends wider) (leb-false _ _ e) in
        let z : ◌≡◌ {A = ℕ} 0 1 = cc in absurd (omega arith)

module _ (room : ℕ) (file : List ℕ) (m : Meaning) (n k : ℕ) (r : Result ℕ VolumeFault) (answers : taken_in r ≡ answer (empty room) (taking_in file m n)) (ok : r ≡ Ok k) where
  its : TakenFile
  its = record { bytes = file; edition = m }

  took : taking (empty room) file m n ≡ Ok k
  took = let same : r ≡ taking (empty room) file m n = cc in sym same ∙ ok

  -- the file is entry 1
  pub number : k ≡ 1
  number = took_number (empty room) file m n k took

  -- of the archive that is then closed
  one : archive room (taking_in file m n ∷ closing ∷ []) ≡ record { files = record { bytes = file; edition = m } ∷ []; standing = Closed; limit = room }
  one = ap (λ x. shut (with_file (empty room) (record { bytes = file; edition = m }) x)) took

  pub shown_once : (table after : List Shown) (x : Result ℕ VolumeFault)
      → Lawful (archive room (taking_in file m n ∷ closing ∷ [])) → rows x after ≡ answer (archive room (taking_in file m n ∷ closing ∷ [])) (showing k m table) → NotWrong x
  shown_once table after x law is =
      never (record { files = record { bytes = file; edition = m } ∷ []; standing = Closed; limit = room }) 1 (record { bytes = file; edition = m }) m table after x
      ((subst Lawful one law).shows 1 (record { bytes = file; edition = m }) (omega arith, refl) m) (λ c line known whole coded. (refl, refl))
      (is ∙ (λ i. answer (one i) (showing (number i) m table)))

-- Answers that are alike have as many rows.

counts_by : (r q s u : Result ℕ VolumeFault) → r ≡ s → q ≡ u → EqualCounts s u → EqualCounts r q
counts_by r q s u e f h = subst (λ x. EqualCounts x q) (sym e) (subst (EqualCounts s) (sym f) h)

module _ (F : ℕ → ℕ → Type 0) (r q : Result ℕ VolumeFault) (x y : List Shown) where
  pub counts : (a b : Answer) → AnswerAlike F a b → rows r x ≡ a → rows q y ≡ b → EqualCounts r q
  counts _ _ (both_taken k) e f = let z : ◌≡◌ {A = ℕ} 0 1 = cc in absurd (omega arith)
  counts _ _ (both_refused c i j g) e f = let z : ◌≡◌ {A = ℕ} 0 1 = cc in absurd (omega arith)
  counts _ _ both_marked e f = let z : ◌≡◌ {A = ℕ} 0 1 = cc in absurd (omega arith)
  counts _ _ (both_same k) e f = let z : ◌≡◌ {A = ℕ} 0 1 = cc in absurd (omega arith)
  counts _ _ both_closed e f = let z : ◌≡◌ {A = ℕ} 0 1 = cc in absurd (omega arith)
  counts _ _ (both_opened t) e f = let z : ◌≡◌ {A = ℕ} 0 1 = cc in absurd (omega arith)
  counts _ _ (both_shown n xs ys later g h each) e f = counts_by r q (Ok n) (Ok n) (cc) (cc) refl
  counts _ _ (both_rider k c i j table g) e f = counts_by r q (Err (Rider k (fault_at i c))) (Err (Rider k (fault_at j c))) (cc) (cc) tt
  counts _ _ (both_no_entry k table) e f = counts_by r q (Err (NoEntry k)) (Err (NoEntry k)) (cc) (cc) tt
  counts _ _ (both_short n table) e f = counts_by r q (Err (RowsShort n)) (Err (RowsShort n)) (cc) (cc) tt
  counts _ _ (set_aside s u out put) e f = let z : ◌≡◌ {A = ℕ} 0 1 = cc in absurd (omega arith)
  counts _ _ (both_balanced s table) e f = let z : ◌≡◌ {A = ℕ} 0 1 = cc in absurd (omega arith)

-- an accepted taking in and a showing meet neither 11 nor 22
taken_not : (r : Result ℕ VolumeFault) (k : ℕ) → r ≡ Ok k → NotFull (taken_in r)
taken_not r k ok = record {
  few_records = λ n e. let z : ◌≡◌ {A = ℕ} 0 1 = cc in absurd (omega arith);
  has_room = λ e. let z : ◌≡◌ {A = ℕ} 0 1 = cc in absurd (omega arith);
}

shown_not : (r : Result ℕ VolumeFault) (x : List Shown) → NotFull (rows r x)
shown_not r x = record { few_records = λ n e. cc; has_room = λ e. cc }

-- two depositors with twins, each with the same two calls
module _ (room other : ℕ) (m : Meaning) (n p : ℕ) (tables : n ≡ p) (a b : List ℕ) (twins : Twins (spare_in (replicate 4 m)) a b) (table others : List Shown) (filled : table ≡ others)
    (k : ℕ) (r q : Result ℕ VolumeFault) (j : ℕ) (ok : r ≡ Ok k) (fine : q ≡ Ok j) where
  itself : SameEdition m m
  itself = ((λ c line known whole coded. (refl, refl)), (λ c line known whole coded. (refl, refl)))

  pub equal_counts : (rs qs : Records) (some : 0 < other) (bound : other ≤ highest) (later behind last end : ℕ) (us vs : Records) (x y : Result ℕ VolumeFault) (xs ys : List Shown)
      → Goes room [] (taking_in a m n) (taken_in r) rs later → Goes other [] (taking_in b m p) (taken_in q) qs behind
      → Goes room (taking_in a m n ∷ []) (showing k m table) (rows x xs) us last → Goes other (taking_in b m p ∷ []) (showing k m others) (rows y ys) vs end
      → EqualCounts x y
  equal_counts rs qs some bound later behind last end us vs x y xs ys g h v z =
      let w : Goes other (taking_in b m p ∷ []) (showing k m table) (rows y ys) vs end = subst (λ t. Goes other (taking_in b m p ∷ []) (showing k m t) (rows y ys) vs end) (sym filled) z in
      let alike = v.alike (spare_in (replicate 4 m)) other (taking_in b m p ∷ []) (showing k m table)
      (record {
        spares = λ c e. e;
        some = some;
        bound = bound;
        same = more _ _ _ _ (subst (λ i. SameCall (spare_in (replicate 4 m)) (taking_in a m n) (taking_in b m i)) tables (takes_in a b m m n itself twins)) (more _ _ _ _ (shows k m m table itself) none);
        never = (subst NotFull g.answers (taken_not r k ok), (subst NotFull v.answers (shown_not x xs), tt));
        never_other = (subst NotFull h.answers (taken_not q j fine), (subst NotFull w.answers (shown_not y ys), tt));
      }) in
      counts _ x y xs ys _ _ alike.answers refl w.answers
