-- The balance of sections: each pair once, its sums, and that they are its deposits.
use Rattle.std.proofs.Common.{◌≡◌, ℕ, suc, ◌+◌, ◌*◌, ◌^◌, ◌<◌, ◌≤◌, Bool, true, false, cond, ◌||◌, List, [], ◌∷◌, ◌++◌, map, length, get_or, is_some, Some, None, Option, sym, refl, ap, ◌∙◌, subst, arith}
use Rattle.std.specs.List.{AllByRecursion}
use Rattle.std.proofs.lemmas.List.{length-map, map-append}
use Rattle.std.proofs.lemmas.Bool.{false≢true}
use Rattle.sums.specs.declared.Row.{Row}
use Rattle.sums.specs.Laws.{keys, run, among, firsts_past, firsts, distinct, column_of, rows_of, added_of, taken_of, total as entries_total, Summed, Entering, SumsStand}
use Rattle.sums.proofs.Laws.{sums_stand}
use Rattle.manual.specs.Manual.{Item, Section, total, paid, deducted, SectionAdds}
use Rattle.report.specs.declared.pairs.Pair.{Pair}
use Rattle.report.specs.Pairs.{same_pair, pair_equal, pair_self, pair_lawful}
use Rattle.report.specs.Balances.{sum_row, summed_row, summed_rows}
use Rattle.report.specs.Sections.{its_pair, over_pair, payments, deductions, deposits, named, opened_for, RowStands, Balances, pairs}
use Rattle.report.proofs.Movements.{item_move, sections_moves, Small}

-- the laws of the table of sums, for pairs
pub entering : Entering same_pair
unfolding SumsStand
entering = sums_stand same_pair pair_lawful

-- COLUMNS.

column_append : (f : Row Pair → ℕ) (xs ys : List (Row Pair)) (p : Pair) → column_of same_pair f (xs ++ ys) p ≡ column_of same_pair f xs p + column_of same_pair f ys p
column_append f [] ys p = omega arith
column_append f (x ∷ xs) ys p = omega (arith, column_append f xs ys p)

module _ (f : Row Pair → ℕ) (g : Item → ℕ) (is : (q : Pair) (i : Item) → f (item_move q i) ≡ g i) (p q : Pair) where
  items_column : (b : Bool) → same_pair q p ≡ b → (xs : List Item) → column_of same_pair f (map (item_move q) xs) p ≡ cond b (total g xs) 0
  items_column true e [] = refl
  items_column false e [] = refl
  items_column true e (x ∷ xs) = omega (arith, ap (λ b. cond b (f (item_move q x)) 0) e, is q x, items_column true e xs)
  items_column false e (x ∷ xs) = omega (arith, ap (λ b. cond b (f (item_move q x)) 0) e, items_column false e xs)

nothing : (b : Bool) → ◌≡◌ {A = ℕ} (cond b 0 0) 0
nothing true = refl
nothing false = refl

module _ (f : Row Pair → ℕ) (g : Item → ℕ) (is : (q : Pair) (i : Item) → f (item_move q i) ≡ g i) (blank : (q : Pair) → f (sum_row q 0 0) ≡ 0) (p : Pair) where
  sections_column : (ss : List Section) → column_of same_pair f (sections_moves ss) p ≡ over_pair p (λ (s : Section). total g s.items) ss
  sections_column [] = refl
  sections_column (s ∷ ss) =
      let q = its_pair s in
      let b = same_pair q p in
      let head : cond b (f (sum_row q 0 0)) 0 ≡ 0 = ap (λ n. cond b n 0) (blank q) ∙ nothing b in
      omega (arith, head, column_append f (map (item_move q) s.items) (sections_moves ss) p, items_column f g is p q b refl s.items, sections_column ss)

pub added_is : (ss : List Section) (p : Pair) → added_of same_pair (sections_moves ss) p ≡ payments p ss
added_is ss p = sections_column (λ r. r.added) paid (λ q i. refl) (λ q. refl) p ss

pub taken_is : (ss : List Section) (p : Pair) → taken_of same_pair (sections_moves ss) p ≡ deductions p ss
taken_is ss p = sections_column (λ r. r.taken) deducted (λ q i. refl) (λ q. refl) p ss

-- THE DEPOSITS of a pair make up its payments less its deductions, as those of each section do.
pub deposited : (ss : List Section) (p : Pair) → AllByRecursion SectionAdds ss → deposits p ss + deductions p ss ≡ payments p ss
deposited [] p h = refl
deposited (s ∷ ss) p h = one (same_pair (its_pair s) p) (deposited ss p h.1)
  where
    one : (b : Bool) → deposits p ss + deductions p ss ≡ payments p ss → (cond b s.deposit.fields.sum 0 + deposits p ss) + (cond b (total deducted s.items) 0 + deductions p ss) ≡ cond b (total paid s.items) 0 + payments p ss
    one true rest = omega (arith, h.0.sum, rest)
    one false rest = omega (arith, rest)

-- THE PAIRS, in order of first appearance.

same_firsts : (ks : List Pair) (a b : List Pair) → ((q : Pair) → among same_pair a q ≡ among same_pair b q) → firsts_past same_pair a ks ≡ firsts_past same_pair b ks
same_firsts [] a b h = refl
same_firsts (k ∷ ks) a b h =
    let on = same_firsts ks (k ∷ a) (k ∷ b) (λ q. ap (λ x. same_pair k q || x) (h q)) in
    λ i. cond (h k i) (on i) (k ∷ on i)

-- a key that came before adds nothing by coming again
again : (q : Pair) (a : List Pair) → among same_pair a q ≡ true → (x : Pair) → among same_pair (q ∷ a) x ≡ among same_pair a x
again q a h x = by (same_pair q x) refl
  where
    by : (b : Bool) → same_pair q x ≡ b → (b || among same_pair a x) ≡ among same_pair a x
    by true e = sym h ∙ ap (among same_pair a) (pair_equal q x e)
    by false e = refl

repeated : (q : Pair) (xs : List Item) (ks a : List Pair) → among same_pair a q ≡ true → firsts_past same_pair a (keys (map (item_move q) xs) ++ ks) ≡ firsts_past same_pair a ks
repeated q [] ks a h = refl
repeated q (x ∷ xs) ks a h =
    let here : among same_pair (q ∷ a) q ≡ true = ap (λ b. b || among same_pair a q) (pair_self q) in
    let rest = keys (map (item_move q) xs) ++ ks in
    ap (λ b. cond b (firsts_past same_pair (q ∷ a) rest) (q ∷ firsts_past same_pair (q ∷ a) rest)) h
    ∙ repeated q xs ks (q ∷ a) here
    ∙ same_firsts ks (q ∷ a) a (again q a h)

firsts_are : (ss : List Section) (a : List Pair) → firsts_past same_pair a (keys (sections_moves ss)) ≡ firsts_past same_pair a (map its_pair ss)
firsts_are [] a = refl
firsts_are (s ∷ ss) a =
    let q = its_pair s in
    let here : among same_pair (q ∷ a) q ≡ true = ap (λ b. b || among same_pair a q) (pair_self q) in
    let split : keys (map (item_move q) s.items ++ sections_moves ss) ≡ keys (map (item_move q) s.items) ++ keys (sections_moves ss) = map-append (λ (r : Row Pair). r.key) (map (item_move q) s.items) (sections_moves ss) in
    let on : firsts_past same_pair (q ∷ a) (keys (map (item_move q) s.items ++ sections_moves ss)) ≡ firsts_past same_pair (q ∷ a) (map its_pair ss) =
    ap (firsts_past same_pair (q ∷ a)) split ∙ repeated q s.items (keys (sections_moves ss)) (q ∷ a) here ∙ firsts_are ss (q ∷ a) in
    ap (λ l. cond (among same_pair a q) l (q ∷ l)) on

pub firsts_is : (ss : List Section) → firsts same_pair (keys (sections_moves ss)) ≡ firsts same_pair (map its_pair ss)
firsts_is ss = firsts_are ss []

-- THE TABLE: what any run of entries leaves is the sums, row by row.

module _ (moves : List (Row Pair)) where
  rows_are : (xs : List (Row Pair)) → ((i : ℕ) (d : Row Pair) → i < length xs → get_or xs i d ≡ summed_row moves (get_or xs i d).key) → xs ≡ map (summed_row moves) (keys xs)
  rows_are [] h = refl
  rows_are (x ∷ xs) h = λ i. h 0 x (omega arith) i ∷ rows_are xs (λ j d lt. h (suc j) d (omega arith)) i

  module _ (few : length moves ≤ 500000) (small : Small moves) where
    added_fits : (p : Pair) → added_of same_pair moves p < 2 ^ 64
    added_fits p = omega (arith, (entering.fits moves few small).0, entering.part (λ r. r.added) moves p)

    taken_fits : (p : Pair) → taken_of same_pair moves p < 2 ^ 64
    taken_fits p = omega (arith, (entering.fits moves few small).1, entering.part (λ r. r.taken) moves p)

    pub summed_are : (rows : List (Row Pair)) → Summed same_pair moves rows → rows ≡ summed_rows moves
    summed_are rows s =
        rows_are rows (λ i d lt.
        let r = get_or rows i d in
        let a = s.added i d lt (added_fits r.key) in
        let t = s.taken i d lt (taken_fits r.key) in
        λ j. record { key = r.key; added = a j; taken = t j })
        ∙ ap (map (summed_row moves)) s.order

    pub run_is : (cap : ℕ) (rows : List (Row Pair)) → run same_pair cap [] moves ≡ Some rows → rows ≡ summed_rows moves
    run_is cap rows e = summed_are rows (entering.summed cap moves rows e)

    -- there is such a run, in a table that is long enough
    some_run : (o : Option (List (Row Pair))) → is_some o ≡ true → (rows : List (Row Pair)) × (o ≡ Some rows)
    some_run None h = absurd (false≢true h)
    some_run (Some rows) h = (rows, refl)

    pub sums : Summed same_pair moves (summed_rows moves)
    sums =
        let n = distinct same_pair (keys moves) in
        let r = some_run (run same_pair n [] moves) ((entering.enough n moves).1 (omega arith)) in
        subst (Summed same_pair moves) (run_is n r.0 r.1) (entering.summed n moves r.0 r.1)

-- Each sum stays far below what a row holds.

entries_most : (es : List (Row Pair)) → Small es → (entries_total (λ e. e.added) es ≤ length es * 9999999999999) × (entries_total (λ e. e.taken) es ≤ length es * 9999999999999)
entries_most [] h = (omega arith, omega arith)
entries_most (e ∷ es) h =
    let rest = entries_most es h.1 in
    (omega (arith, h.0.0, rest.0), omega (arith, h.0.1, rest.1))

abbrev pub Below63 : Row Pair → Type 0
Below63 r = (r.added < 2 ^ 63) × (r.taken < 2 ^ 63)

module _ (moves : List (Row Pair)) (few : length moves ≤ 500000) (small : Small moves) where
  sums_below : (ps : List Pair) → AllByRecursion Below63 (map (summed_row moves) ps)
  sums_below [] = tt
  sums_below (p ∷ ps) =
      let most = entries_most moves small in (
        (omega (arith, few, most.0, entering.part (λ r. r.added) moves p), omega (arith, few, most.1, entering.part (λ r. r.taken) moves p)),
        sums_below ps,
      )

  pub rows_below : AllByRecursion Below63 (summed_rows moves)
  rows_below = sums_below (firsts same_pair (keys moves))

pub as_many_rows : (moves : List (Row Pair)) → length (summed_rows moves) ≡ distinct same_pair (keys moves)
as_many_rows moves = length-map (firsts same_pair (keys moves)) (summed_row moves)

-- and at most as many as entries
firsts_few : (ks seen : List Pair) → length (firsts_past same_pair seen ks) ≤ length ks
firsts_few [] seen = omega arith
firsts_few (k ∷ ks) seen = by (among same_pair seen k) (firsts_few ks (k ∷ seen))
  where
    by : (b : Bool) → length (firsts_past same_pair (k ∷ seen) ks) ≤ length ks
        → length (cond b (firsts_past same_pair (k ∷ seen) ks) (k ∷ firsts_past same_pair (k ∷ seen) ks)) ≤ suc (length ks)
    by true h = omega (arith, h)
    by false h = omega (arith, h)

pub rows_few : (moves : List (Row Pair)) → length (summed_rows moves) ≤ length moves
rows_few moves = omega (arith, as_many_rows moves, firsts_few (keys moves) [], length-map moves (λ (r : Row Pair). r.key))

-- ALL OF IT, for the sections of files.

named_is : (p : Pair) (rs : List (Row Pair)) → named p rs ≡ rows_of same_pair rs p
named_is p [] = refl
named_is p (r ∷ rs) = ap (λ n. cond (same_pair r.key p) 1 0 + n) (named_is p rs)

module _ (ss : List Section) (p : Pair) where
  or_true : (x y : Bool) → y ≡ true → (x || y) ≡ true
  or_true true y h = refl
  or_true false y h = h

  among_append : (xs ys : List Pair) → among same_pair ys p ≡ true → among same_pair (xs ++ ys) p ≡ true
  among_append [] ys h = h
  among_append (x ∷ xs) ys h = or_true (same_pair x p) (among same_pair (xs ++ ys) p) (among_append xs ys h)

-- a pair is among what the sections enter exactly where one of them is opened for it
opened_some : (p : Pair) (ss : List Section) → 0 < opened_for p ss → among same_pair (keys (sections_moves ss)) p ≡ true
opened_some p [] h = absurd (omega arith)
opened_some p (s ∷ ss) h = by (same_pair (its_pair s) p) refl h (opened_some p ss)
  where
    by : (b : Bool) → same_pair (its_pair s) p ≡ b → 0 < cond b 1 0 + opened_for p ss → (0 < opened_for p ss → among same_pair (keys (sections_moves ss)) p ≡ true) → (same_pair (its_pair s) p || among same_pair (keys (map (item_move (its_pair s)) s.items ++ sections_moves ss)) p) ≡ true
    by true e k go = ap (λ b. b || among same_pair (keys (map (item_move (its_pair s)) s.items ++ sections_moves ss)) p) e
    by false e k go =
        or_true ss p (same_pair (its_pair s) p) _
        (ap (λ l. among same_pair l p) (map-append (λ (r : Row Pair). r.key) (map (item_move (its_pair s)) s.items) (sections_moves ss))
        ∙ among_append ss p (keys (map (item_move (its_pair s)) s.items)) (keys (sections_moves ss)) (go (omega (arith, k))))

items_other : (p q : Pair) (xs : List Item) (ks : List Pair) → same_pair q p ≡ false → among same_pair (keys (map (item_move q) xs) ++ ks) p ≡ among same_pair ks p
items_other p q [] ks e = refl
items_other p q (x ∷ xs) ks e = ap (λ b. b || among same_pair (keys (map (item_move q) xs) ++ ks) p) e ∙ items_other p q xs ks e

opened_none : (p : Pair) (ss : List Section) → opened_for p ss ≡ 0 → among same_pair (keys (sections_moves ss)) p ≡ false
opened_none p [] h = refl
opened_none p (s ∷ ss) h = by (same_pair (its_pair s) p) refl h (opened_none p ss)
  where
    by : (b : Bool) → same_pair (its_pair s) p ≡ b → cond b 1 0 + opened_for p ss ≡ 0 → (opened_for p ss ≡ 0 → among same_pair (keys (sections_moves ss)) p ≡ false) → (same_pair (its_pair s) p || among same_pair (keys (map (item_move (its_pair s)) s.items ++ sections_moves ss)) p) ≡ false
    by true e k go = absurd (omega (arith, k))
    by false e k go =
        ap (λ b. b || among same_pair (keys (map (item_move (its_pair s)) s.items ++ sections_moves ss)) p) e
        ∙ ap (λ l. among same_pair l p) (map-append (λ (r : Row Pair). r.key) (map (item_move (its_pair s)) s.items) (sections_moves ss))
        ∙ items_other p (its_pair s) s.items (keys (sections_moves ss)) e
        ∙ go (omega (arith, k))

module _ (ss : List Section) (stand : AllByRecursion SectionAdds ss) where
  each_row : (ks : List Pair) → AllByRecursion (RowStands ss) (map (summed_row (sections_moves ss)) ks)
  each_row [] = tt
  each_row (k ∷ ks) = (
    record {
      paid = added_is ss k;
      deducted = taken_is ss k;
      deposited = ap (λ n. deposits k ss + n) (taken_is ss k) ∙ deposited ss k stand ∙ sym (added_is ss k);
    },
    each_row ks,
  )

  pub balances : length (sections_moves ss) ≤ 500000 → Small (sections_moves ss) → Balances ss (summed_rows (sections_moves ss))
  balances few small =
      let s = sums (sections_moves ss) few small in
      record {
        once = λ p h. named_is p (summed_rows (sections_moves ss)) ∙ s.one p (opened_some p ss h);
        no_other = λ p h. named_is p (summed_rows (sections_moves ss)) ∙ s.no_other p (opened_none p ss h);
        order = s.order ∙ firsts_is ss;
        each = each_row (firsts same_pair (keys (sections_moves ss)));
      }

  -- as many rows as pairs
  pub as_many : length (summed_rows (sections_moves ss)) ≡ pairs ss
  as_many = length-map (firsts same_pair (keys (sections_moves ss))) (summed_row (sections_moves ss)) ∙ ap length (firsts_is ss)
