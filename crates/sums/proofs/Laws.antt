-- What a table holds after any list of entries, for any lawful equality of keys. Assumes nothing.
use Rattle.std.proofs.Common.{◌≡◌, ℕ, zero, suc, ◌+◌, ◌*◌, ◌^◌, ◌<◌, ◌≤◌, max, Bool, true, false, cond, ◌||◌, leb, List, [], ◌∷◌, ◌++◌, length, get_or, is_some, Some, None, Option, sym, refl, ap, ◌∙◌, subst, arith}
use Rattle.std.proofs.lemmas.Bool.{le-leb, lt-leb, leb-true, leb-false, cond-false}
use Rattle.std.proofs.lemmas.List.{append-nil, append_assoc, length-map, length_push}
use Rattle.std.specs.Option.{option_map}
use Rattle.std.specs.List.{AllByRecursion}
use Rattle.sums.specs.declared.Row.{Row}
use Rattle.sums.specs.Keys.{Lawful}
use Rattle.sums.specs.Table.{place, capped, grown, entered, enter}
use Rattle.sums.specs.Laws.{Exactly, go_on, keys, total, Within, run, among, firsts_past, firsts, distinct, column_of, rows_of, Summed, SumsStand}

module _ {K : Type 0} (same : K → K → Bool) where
  -- the table after the entries, however many rows it takes
  abbrev after : List (Row K) → List (Row K) → List (Row K)
  after rows [] = rows
  after rows (e ∷ es) = after (entered same rows e.key e.added e.taken) es

  -- an entry leaves the keys as they were, or puts a new one at their end
  keys-entered : (rows : List (Row K)) (k : K) (a t : ℕ) → keys (entered same rows k a t) ≡ cond (among same (keys rows) k) (keys rows) (keys rows ++ k ∷ [])
  keys-entered [] k a t = refl
  keys-entered (r ∷ rs) k a t =
      elim (same r.key k) as (λ b. keys (cond b (grown r a t ∷ rs) (r ∷ entered same rs k a t)) ≡ cond (b || among same (keys rs) k) (r.key ∷ keys rs) (r.key ∷ keys rs ++ k ∷ [])) [
        | true ↦ refl
        | false ↦
            (elim (among same (keys rs) k) as (λ b. keys (entered same rs k a t) ≡ cond b (keys rs) (keys rs ++ k ∷ []) → r.key ∷ keys (entered same rs k a t) ≡ cond b (r.key ∷ keys rs) (r.key ∷ keys rs ++ k ∷ [])) [
              | true ↦ λ h. ap (λ l. r.key ∷ l) h
              | false ↦ λ h. ap (λ l. r.key ∷ l) h
            ]) (keys-entered rs k a t)
      ]

  length-keys : (rows : List (Row K)) → length (keys rows) ≡ length rows
  length-keys rows = length-map rows (λ r. r.key)

  length-entered : (rows : List (Row K)) (k : K) (a t : ℕ) → length (entered same rows k a t) ≡ length rows + cond (among same (keys rows) k) 0 1
  length-entered rows k a t =
      let long : length (entered same rows k a t) ≡ length (cond (among same (keys rows) k) (keys rows) (keys rows ++ k ∷ [])) = sym (length-keys (entered same rows k a t)) ∙ ap length (keys-entered rows k a t) in
      long ∙ (elim (among same (keys rows) k) as (λ b. length (cond b (keys rows) (keys rows ++ k ∷ [])) ≡ length rows + cond b 0 1) [
        | true ↦ omega (arith, length-keys rows)
        | false ↦ omega (arith, length-keys rows, length_push (keys rows) k)
      ])

  length-after : (es rows : List (Row K)) → length rows ≤ length (after rows es)
  length-after [] rows = omega arith
  length-after (e ∷ es) rows =
      omega (arith, length-after es (entered same rows e.key e.added e.taken), length-entered rows e.key e.added e.taken)

  -- entries are refused exactly where the rows would be more than cap
  run_is : (cap : ℕ) (es rows : List (Row K)) → length rows ≤ cap → run same cap rows es ≡ cond (leb (length (after rows es)) cap) (Some (after rows es)) None
  unfolding enter
  run_is cap [] rows h = rw (le-leb _ _ h)
  run_is cap (e ∷ es) rows h =
      let next : List (Row K) = entered same rows e.key e.added e.taken in
      (elim (leb (length next) cap) as (λ b. leb (length next) cap ≡ b → go_on (cond b (Some next) None) (λ t. run same cap t es) ≡ cond (leb (length (after next es)) cap) (Some (after next es)) None) [
        | true ↦ λ w. run_is cap es next (leb-true _ _ w)
        | false ↦ λ w.
            let more : cap < length (after next es) = omega (arith, length-after es next, leb-false _ _ w) in
            sym (cond-false _ _ _ (lt-leb _ _ more))
      ]) refl

  some_is : (b : Bool) (t u : List (Row K)) → cond b (Some t) None ≡ Some u → t ≡ u
  some_is true t u e = cc
  some_is false t u e = cc

  some_where : (b : Bool) (t : List (Row K)) → is_some (cond b (Some t) None) ≡ b
  some_where true t = refl
  some_where false t = refl

  none_where : (b : Bool) (t : List (Row K)) → cond b (Some t) None ≡ None → b ≡ false
  none_where true t e = cc
  none_where false t e = refl

  refusal : (cap : ℕ) (rows : List (Row K)) (k : K) (a t : ℕ) → length rows ≤ cap → Exactly (enter same cap rows k a t ≡ None) ((among same (keys rows) k ≡ false) × (length rows ≡ cap))
  unfolding enter
  refusal cap rows k a t room =
      let next : List (Row K) = entered same rows k a t in
      let long : length next ≡ length rows + cond (among same (keys rows) k) 0 1 = length-entered rows k a t in (
        λ e.
            let more : cap < length next = leb-false _ _ (none_where _ next e) in
            (elim (among same (keys rows) k) as (λ b. length next ≡ length rows + cond b 0 1 → (b ≡ false) × (length rows ≡ cap)) [
              | true ↦ λ l. absurd (omega arith)
              | false ↦ λ l. (refl, omega arith)
            ]) long,
        λ p.
            let more : cap < length next = omega (arith, rw p.0 at long) in
            cond-false _ _ _ (lt-leb _ _ more),
      )

  is_found : (rows : List (Row K)) (k : K) → is_some (place same rows k) ≡ among same (keys rows) k
  is_found [] k = refl
  is_found (r ∷ rs) k =
      elim (same r.key k) as (λ b. is_some (cond b (Some 0) (option_map suc (place same rs k))) ≡ (b || among same (keys rs) k)) [
        | true ↦ refl
        | false ↦ under (place same rs k) ∙ is_found rs k
      ]
    where
      under : (o : Option ℕ) → is_some (option_map suc o) ≡ is_some o
      under None = refl
      under (Some i) = refl

  some_part : (f : Row K → ℕ) (es : List (Row K)) (k : K) → column_of same f es k ≤ total f es
  some_part f [] k = omega arith
  some_part f (e ∷ es) k =
      elim (same e.key k) as (λ b. cond b (f e) 0 + column_of same f es k ≤ f e + total f es) [
        | true ↦ omega (arith, some_part f es k)
        | false ↦ omega (arith, some_part f es k)
      ]

-- so many entries of at most so much
at_most : {K : Type 0} (es : List (Row K)) → AllByRecursion (Within 9999999999999) es → (total (λ e. e.added) es ≤ 9999999999999 * length es) × (total (λ e. e.taken) es ≤ 9999999999999 * length es)
at_most [] h = (omega arith, omega arith)
at_most (e ∷ es) h =
    (omega (arith, (at_most es h.1).0, h.0.0), omega (arith, (at_most es h.1).1, h.0.1))

module _ {K : Type 0} (same : K → K → Bool) (law : Lawful same) where
  both_turned : (x y : K) → same x y ≡ same y x
  both_turned x y =
      (elim (same x y) as (λ u. same x y ≡ u → u ≡ same y x) [
        | true ↦ λ e. sym (law.turned x y e)
        | false ↦ λ e. (elim (same y x) as (λ v. same y x ≡ v → false ≡ v) [
          | true ↦ λ f. sym e ∙ law.turned y x f
          | false ↦ λ f. refl
        ]) refl
      ]) refl

  -- equal keys equal the same keys
  like : (x k q : K) → same x k ≡ true → same x q ≡ same k q
  like x k q h =
      (elim (same x q) as (λ u. same x q ≡ u → u ≡ same k q) [
        | true ↦ λ e. sym (law.chained k x q (law.turned x k h) e)
        | false ↦ λ e. (elim (same k q) as (λ v. same k q ≡ v → false ≡ v) [
          | true ↦ λ f. sym e ∙ law.chained x k q h f
          | false ↦ λ f. refl
        ]) refl
      ]) refl

  among_like : (xs : List K) (k q : K) → same k q ≡ true → among same xs k ≡ among same xs q
  among_like [] k q h = refl
  among_like (x ∷ xs) k q h =
      let one : same x k ≡ same x q = both_turned x k ∙ like k q x h ∙ both_turned q x in
      cc (one, among_like xs k q h)

  among_push : (xs : List K) (k q : K) → among same (xs ++ k ∷ []) q ≡ (same k q || among same xs q)
  among_push [] k q = refl
  among_push (x ∷ xs) k q =
      rw (among_push xs k q) (swapped (same x q) (same k q) (among same xs q))
    where
      swapped : (a b c : Bool) → (a || (b || c)) ≡ (b || (a || c))
      swapped true true c = refl
      swapped true false c = refl
      swapped false true c = refl
      swapped false false c = refl

  -- the keys of the rows after an entry are those of the rows, and its own
  among-entered : (rows : List (Row K)) (k : K) (a t : ℕ) (q : K) → among same (keys (entered same rows k a t)) q ≡ (same k q || among same (keys rows) q)
  among-entered rows k a t q =
      ap (λ l. among same l q) (keys-entered same rows k a t) ∙
      (elim (among same (keys rows) k) as (λ b. among same (keys rows) k ≡ b → among same (cond b (keys rows) (keys rows ++ k ∷ [])) q ≡ (same k q || among same (keys rows) q)) [
        | true ↦ λ h.
            (elim (same k q) as (λ c. same k q ≡ c → among same (keys rows) q ≡ (c || among same (keys rows) q)) [
              | true ↦ λ w. sym (among_like (keys rows) k q w) ∙ h
              | false ↦ λ w. refl
            ]) refl
        | false ↦ λ h. among_push (keys rows) k q
      ]) refl

  in_order : (es rows : List (Row K)) (before : List K) → ((q : K) → among same (keys rows) q ≡ among same before q) → keys (after same rows es) ≡ keys rows ++ firsts_past same before (keys es)
  in_order [] rows before h = sym (append-nil (keys rows))
  in_order (e ∷ es) rows before h =
      let k : K = e.key in
      let next : List (Row K) = entered same rows k e.added e.taken in
      let rest : List K = firsts_past same (k ∷ before) (keys es) in
      let known : (q : K) → among same (keys next) q ≡ among same (k ∷ before) q = λ q. among-entered rows k e.added e.taken q ∙ ap (λ b. same k q || b) (h q) in
      let all : keys (after same next es) ≡ keys next ++ rest = in_order es next (k ∷ before) known in
      let put : keys next ≡ cond (among same before k) (keys rows) (keys rows ++ k ∷ []) = rw (h k) at (keys-entered same rows k e.added e.taken) in
      all ∙ ap (λ l. l ++ rest) put ∙
      elim (among same before k) as (λ b. cond b (keys rows) (keys rows ++ k ∷ []) ++ rest ≡ keys rows ++ cond b rest (k ∷ rest)) [
        | true ↦ refl
        | false ↦ append_assoc (keys rows) (k ∷ []) rest
      ]

  -- a column of which an entry into a row adds to what stands there
  module _ (f : Row K → ℕ) (grows : (r : Row K) (k : K) (a t : ℕ) → f (grown r a t) ≡ capped (f r) (f (record { key = k; added = a; taken = t }))) where
    column_entered : (rows : List (Row K)) (k : K) (a t : ℕ) (q : K) → column_of same f rows q + cond (same k q) (f (record { key = k; added = a; taken = t })) 0 < 2 ^ 64 → column_of same f (entered same rows k a t) q ≡ column_of same f rows q + cond (same k q) (f (record { key = k; added = a; taken = t })) 0
    column_entered [] k a t q fit = omega arith
    column_entered (r ∷ rs) k a t q fit =
        let new : Row K = record { key = k; added = a; taken = t } in
        let rest : ℕ = column_of same f rs q in
        (elim (same r.key k) as (λ b. same r.key k ≡ b → column_of same f (cond b (grown r a t ∷ rs) (r ∷ entered same rs k a t)) q ≡ (cond (same r.key q) (f r) 0 + rest) + cond (same k q) (f new) 0) [
          | true ↦ λ h.
              let one : same r.key q ≡ same k q = like r.key k q h in
              rw one ((elim (same k q) as (λ b. (cond b (f r) 0 + rest) + cond b (f new) 0 < 2 ^ 64 → cond b (f (grown r a t)) 0 + rest ≡ (cond b (f r) 0 + rest) + cond b (f new) 0) [
                | true ↦ λ w. omega (arith, grows r k a t)
                | false ↦ λ w. omega arith
              ]) (rw one at fit))
          | false ↦ λ h. omega (arith, column_entered rs k a t q (omega arith))
        ]) refl

    column_after : (es rows : List (Row K)) (q : K) → column_of same f rows q + column_of same f es q < 2 ^ 64 → column_of same f (after same rows es) q ≡ column_of same f rows q + column_of same f es q
    column_after [] rows q fit = omega arith
    column_after (e ∷ es) rows q fit =
        let one : column_of same f (entered same rows e.key e.added e.taken) q ≡ column_of same f rows q + cond (same e.key q) (f e) 0 = column_entered rows e.key e.added e.taken q (omega arith) in
        omega (arith, column_after es (entered same rows e.key e.added e.taken) q (omega arith))

  rows-entered : (rows : List (Row K)) (k : K) (a t : ℕ) (q : K) → rows_of same (entered same rows k a t) q ≡ max (rows_of same rows q) (cond (same k q) 1 0)
  rows-entered [] k a t q = elim (same k q) as (λ b. cond b 1 0 + 0 ≡ max 0 (cond b 1 0)) [ true ↦ refl | false ↦ refl ]
  rows-entered (r ∷ rs) k a t q =
      let n : ℕ = rows_of same rs q in
      (elim (same r.key k) as (λ b. same r.key k ≡ b → rows_of same (cond b (grown r a t ∷ rs) (r ∷ entered same rs k a t)) q ≡ max (cond (same r.key q) 1 0 + n) (cond (same k q) 1 0)) [
        | true ↦ λ h. rw (like r.key k q h) (elim (same k q) as (λ b. cond b 1 0 + n ≡ max (cond b 1 0 + n) (cond b 1 0)) [ true ↦ omega arith | false ↦ omega arith ])
        | false ↦ λ h. rw (rows-entered rs k a t q) (
            (elim (same k q) as (λ b. same k q ≡ b → cond (same r.key q) 1 0 + max n (cond b 1 0) ≡ max (cond (same r.key q) 1 0 + n) (cond b 1 0)) [
              | true ↦ λ e.
                  let apart : same r.key q ≡ false = both_turned r.key q ∙ sym (like k q r.key e) ∙ both_turned k r.key ∙ h in
                  rw apart (omega arith)
              | false ↦ λ e. omega arith
            ]) refl)
      ]) refl

  rows-after : (es rows : List (Row K)) (q : K) → rows_of same (after same rows es) q ≡ max (rows_of same rows q) (cond (among same (keys es) q) 1 0)
  rows-after [] rows q = omega arith
  rows-after (e ∷ es) rows q =
      rw (rows-after es (entered same rows e.key e.added e.taken) q, rows-entered rows e.key e.added e.taken q)
      (joined (same e.key q) (among same (keys es) q))
    where
      joined : (b c : Bool) → max (max (rows_of same rows q) (cond b 1 0)) (cond c 1 0) ≡ max (rows_of same rows q) (cond (b || c) 1 0)
      joined true true = omega arith
      joined true false = omega arith
      joined false true = omega arith
      joined false false = omega arith

  -- where a key has at most one row, that row is its column
  module _ (f : Row K → ℕ) (k : K) where
    no_rows : (rows : List (Row K)) → rows_of same rows k ≡ 0 → column_of same f rows k ≡ 0
    no_rows [] e = refl
    no_rows (r ∷ rs) e =
        (elim (same r.key k) as (λ b. cond b 1 0 + rows_of same rs k ≡ 0 → cond b (f r) 0 + column_of same f rs k ≡ 0) [
          | true ↦ λ z. omega arith
          | false ↦ λ z. omega (arith, no_rows rs (omega arith))
        ]) e

    some_row : (rows : List (Row K)) (i : ℕ) (d : Row K) → i < length rows → same (get_or rows i d).key k ≡ true → 1 ≤ rows_of same rows k
    some_row [] i d lt h = absurd (omega arith)
    some_row (x ∷ xs) zero d lt h = rw h (omega arith)
    some_row (x ∷ xs) (suc i) d lt h = omega (arith, some_row xs i d (omega arith) h)

    lone : (rows : List (Row K)) (i : ℕ) (d : Row K) → i < length rows → rows_of same rows k ≤ 1 → same (get_or rows i d).key k ≡ true → f (get_or rows i d) ≡ column_of same f rows k
    lone [] i d lt only h = absurd (omega arith)
    lone (r ∷ rs) zero d lt only h =
        let none : rows_of same rs k ≡ 0 = omega (arith, rw h at only) in
        rw h (omega (arith, no_rows rs none))
    lone (r ∷ rs) (suc i) d lt only h =
        let one : 1 ≤ rows_of same rs k = some_row rs i d (omega arith) h in
        let other : same r.key k ≡ false = (elim (same r.key k) as (λ b. cond b 1 0 + rows_of same rs k ≤ 1 → b ≡ false) [ true ↦ λ z. absurd (omega arith) | false ↦ λ z. refl ]) only in
        rw other (omega (arith, lone rs i d (omega arith) (omega (arith, only)) h))

  module _ (es : List (Row K)) where
    abbrev rows : List (Row K)
    rows = after same [] es

    once : (k : K) → rows_of same rows k ≡ cond (among same (keys es) k) 1 0
    once k = omega (arith, rows-after es [] k)

    at_most_one : (k : K) → rows_of same rows k ≤ 1
    at_most_one k =
        (elim (among same (keys es) k) as (λ b. rows_of same rows k ≡ cond b 1 0 → rows_of same rows k ≤ 1) [ true ↦ λ e. omega arith | false ↦ λ e. omega arith ]) (once k)

    column : (f : Row K → ℕ) → ((r : Row K) (k : K) (a t : ℕ) → f (grown r a t) ≡ capped (f r) (f (record { key = k; added = a; taken = t }))) → (i : ℕ) (d : Row K) → i < length rows → column_of same f es (get_or rows i d).key < 2 ^ 64 → f (get_or rows i d) ≡ column_of same f es (get_or rows i d).key
    column f grows i d lt fit =
        let k : K = (get_or rows i d).key in
        lone f k rows i d lt (at_most_one k) (law.self k) ∙ column_after f grows es [] k (omega arith) ∙ omega arith

    ordered : keys rows ≡ firsts same (keys es)
    ordered = in_order es [] [] (λ q. refl)

    sums : Summed same es rows
    sums =
        record {
          one = λ k h. once k ∙ ap (λ b. cond b 1 0) h;
          no_other = λ k h. once k ∙ ap (λ b. cond b 1 0) h;
          added = column (λ r. r.added) (λ r k a t. refl);
          taken = column (λ r. r.taken) (λ r k a t. refl);
          order = ordered;
        }

    long_enough : (cap : ℕ) → Exactly (is_some (run same cap [] es) ≡ true) (distinct same (keys es) ≤ cap)
    long_enough cap =
        let is : is_some (run same cap [] es) ≡ leb (length rows) cap = ap is_some (run_is same cap es [] (omega arith)) ∙ some_where same _ rows in
        let long : length rows ≡ distinct same (keys es) = sym (length-keys same rows) ∙ ap length ordered in
        (λ e. omega (arith, leb-true _ _ (sym is ∙ e)), λ h. is ∙ le-leb _ _ (omega arith))

  pub sums_stand : SumsStand same
  unfolding SumsStand
  sums_stand =
      record {
        summed = λ cap es t e.
            let is : after same [] es ≡ t = some_is same _ _ _ (sym (run_is same cap es [] (omega arith)) ∙ e) in
            subst (λ l. Summed same es l) is (sums es);
        enough = λ cap es. long_enough es cap;
        refused = refusal same;
        found = is_found same;
        part = some_part same;
        fits = λ es few h. (omega (arith, (at_most es h).0), omega (arith, (at_most es h).1));
      }
