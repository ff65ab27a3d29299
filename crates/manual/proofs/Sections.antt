-- The machine passes over the items of a section and its deposit exactly where the section is right and the payer table has rows enough.
use Rattle.std.proofs.Common.{◌≡◌, ℕ, zero, suc, ◌+◌, ◌^◌, ◌<◌, ◌≤◌, true, false, cond, ◌&&◌, eqb, ltb, leb, List, [], ◌∷◌, map, length, get_or, is_some, Some, None, Option, sym, refl, ap, ◌∙◌, subst, arith}
use Rattle.std.specs.List.{AllByRecursion}
use Rattle.std.proofs.lemmas.List.{length-map}
use Rattle.std.proofs.lemmas.Bool.{false≢true, cond-true, eqb-true, eq-eqb, leb-true, leb-false, le-leb, ltb-true, lt-ltb, and_parts, and_from, or_parts}
use Rattle.field.specs.declared.money.Currency.{Currency}
use Rattle.field.specs.declared.money.Currency.TheVariants.{Sek, Eur}
use Rattle.record.specs.declared.fields.Deposit.{Deposit}
use Rattle.sums.specs.declared.Row.{Row}
use Rattle.sums.specs.Table.{entered, enter, covered}
use Rattle.sums.specs.Laws.{go_on, keys, Within, run, among, distinct, column_of, rows_of, added_of, taken_of, Summed, total as total_rows}
use Rattle.manual.specs.declared.places.Stage.TheVariants as stage
use Rattle.manual.specs.Judging.{Mode, Section as OpenSection, one_currency, room, none_owes, opened, headed}
use Rattle.manual.specs.Laws.{judging, not_judging}
use Rattle.manual.specs.Manual.{Read, Item, Section, total, one_payment, paid, deducted, ItemStands, SectionAdds, SectionStands}
use Rattle.manual.specs.Accepting.{Roomy}
use Rattle.manual.proofs.Roles.{adds, takes, agrees, with_head}
use Rattle.manual.proofs.Tables.{entering}
use Rattle.manual.proofs.Trees.{written, Parts-run}
use Rattle.manual.proofs.Parts.{item_stands, item_runs}

-- The machine over a section.

abbrev pub after-item : Mode → OpenSection → Item → OpenSection
after-item mode x i = with_head mode x i.payment i.transfer

-- the tests at the deposit, but for the stage of the item before it
abbrev pub Deposit-runs : Mode → OpenSection → Read Deposit → Type 0
Deposit-runs mode x d = (ltb 0 x.payments ≡ true) × (none_owes mode x.rows ≡ true) × (agrees x d.fields ≡ true)

-- the machine passes over the items, and then the deposit
abbrev pub Heads-run : Mode → OpenSection → List Item → Read Deposit → Type 0
Heads-run mode x [] d = Deposit-runs mode x d
Heads-run mode x (i ∷ is) d =
    (room mode x.rows i.transfer.fields.payer (adds i.payment i.transfer) (takes i.payment i.transfer) ≡ true)
    × Parts-run stage.Head (headed i.transfer.fields) (written i)
    × Heads-run mode (after-item mode x i) is d

abbrev pub Section-runs : Mode → Section → Type 0
Section-runs mode s = Heads-run mode (opened s.opening.fields.currency) s.items s.deposit

-- few enough items, and no amount too large: what every file has
pub record Tame (is : List Item) : Type 0 where
  pub few : length is ≤ 50000
  pub small : AllByRecursion (λ (i : Item). i.transfer.fields.amount ≤ 9999999999999) is

-- The payer table: what entering the items leaves in it.

abbrev entry : Item → Row ℕ
entry i = record { key = i.transfer.fields.payer; added = paid i; taken = deducted i }

abbrev entries : List Item → List (Row ℕ)
entries is = map entry is

module _ (cap : ℕ) (rows : List (Row ℕ)) (e : Row ℕ) (es : List (Row ℕ)) where
  abbrev next : List (Row ℕ)
  next = entered eqb rows e.key e.added e.taken

  run_on : leb (length next) cap ≡ true → run eqb cap rows (e ∷ es) ≡ run eqb cap next es
  unfolding enter
  run_on h = ap (λ o. go_on o (λ t. run eqb cap t es)) (cond-true (leb (length next) cap) (Some next) None h)

  run_off : (final : List (Row ℕ)) → run eqb cap rows (e ∷ es) ≡ Some final → leb (length next) cap ≡ true
  unfolding enter
  run_off final h =
      (elim (leb (length next) cap) as (λ b. go_on (cond b (Some next) None) (λ t. run eqb cap t es) ≡ Some final → b ≡ true) [
        | true ↦ λ q. refl
        | false ↦ λ q. let z : ◌≡◌ {A = ℕ} 0 1 = cc in absurd (omega arith)
      ]) h

-- the columns of a payer over the entries are its sums over the items
sums_of : (f : Row ℕ → ℕ) (p : ℕ) (is : List Item) → column_of eqb f (entries is) p ≡ total (λ (i : Item). cond (eqb i.transfer.fields.payer p) (f (entry i)) 0) is
sums_of f p [] = refl
sums_of f p (i ∷ is) = ap (λ n. cond (eqb i.transfer.fields.payer p) (f (entry i)) 0 + n) (sums_of f p is)

within_bounds : (is : List Item) → AllByRecursion (λ (i : Item). i.transfer.fields.amount ≤ 9999999999999) is → AllByRecursion (Within 9999999999999) (entries is)
within_bounds [] h = tt
within_bounds (i ∷ is) h = (
  elim i.payment as (λ b. (cond b i.transfer.fields.amount 0 ≤ 9999999999999) × (cond b 0 i.transfer.fields.amount ≤ 9999999999999)) [
    | true ↦ (h.0, omega arith)
    | false ↦ (omega arith, h.0)
  ],
  within_bounds is h.1,
)

blank : Row ℕ
blank = record { key = 0; added = 0; taken = 0 }

-- each row of a table that is covered, and back
covered_at : (rows : List (Row ℕ)) (i : ℕ) → covered rows ≡ true → i < length rows → (get_or rows i blank).taken ≤ (get_or rows i blank).added
covered_at [] i h lt = absurd (omega arith)
covered_at (r ∷ rs) zero h lt = leb-true _ _ (and_parts _ _ h).0
covered_at (r ∷ rs) (suc i) h lt = covered_at rs i (and_parts (leb r.taken r.added) (covered rs) h).1 (omega arith)

at_covered : (rows : List (Row ℕ)) → ((i : ℕ) → i < length rows → (get_or rows i blank).taken ≤ (get_or rows i blank).added) → covered rows ≡ true
at_covered [] h = refl
at_covered (r ∷ rs) h = and_from _ _ (le-leb _ _ (h 0 (omega arith))) (at_covered rs (λ i lt. h (suc i) (omega arith)))

-- a payer that has a row has it at some place
row_found : (rows : List (Row ℕ)) (p : ℕ) → 0 < rows_of eqb rows p → (i : ℕ) × (i < length rows) × ((get_or rows i blank).key ≡ p)
row_found [] p h = absurd (omega arith)
row_found (r ∷ rs) p h =
    (elim (eqb r.key p) as (λ b. eqb r.key p ≡ b → 0 < cond b 1 0 + rows_of eqb rs p → (i : ℕ) × (i < suc (length rs)) × ((get_or (r ∷ rs) i blank).key ≡ p)) [
      | true ↦ λ e q. (0, omega arith, eqb-true _ _ e)
      | false ↦ λ e q. let n = row_found rs p (omega arith) in (suc n.0, omega (arith, n.1), n.2)
    ]) refl h

-- a payer without an entry has nothing in its columns
none-entered : (f : Row ℕ → ℕ) (es : List (Row ℕ)) (p : ℕ) → among eqb (keys es) p ≡ false → column_of eqb f es p ≡ 0
none-entered f [] p h = refl
none-entered f (e ∷ es) p h =
    let o = or_parts (eqb e.key p) (among eqb (keys es) p) h in
    rw o.0 (omega (arith, none-entered f es p o.1))

-- a row that is short
short_row : (rows : List (Row ℕ)) → covered rows ≡ false → (i : ℕ) × (i < length rows) × ((get_or rows i blank).added < (get_or rows i blank).taken)
short_row [] h = absurd (false≢true (sym h))
short_row (r ∷ rs) h =
    (elim (leb r.taken r.added) as (λ b. leb r.taken r.added ≡ b → (b && covered rs) ≡ false → (i : ℕ) × (i < suc (length rs)) × ((get_or (r ∷ rs) i blank).added < (get_or (r ∷ rs) i blank).taken)) [
      | true ↦ λ e q. let n = short_row rs q in (suc n.0, omega (arith, n.1), n.2)
      | false ↦ λ e q. (0, omega arith, leb-false r.taken r.added e)
    ]) refl h

-- where the entries are few and small
module _ (es : List (Row ℕ)) (few : length es ≤ 50000) (small : AllByRecursion (Within 9999999999999) es) (rows : List (Row ℕ)) (s : Summed eqb es rows) where
  totals : (total_rows (λ (e : Row ℕ). e.added) es < 2 ^ 64) × (total_rows (λ (e : Row ℕ). e.taken) es < 2 ^ 64)
  totals = entering.fits es (omega (arith, few)) small

  added_is : (i : ℕ) → i < length rows → (get_or rows i blank).added ≡ added_of eqb es (get_or rows i blank).key
  added_is i lt = s.added i blank lt (omega (arith, entering.part (λ r. r.added) es (get_or rows i blank).key, totals.0))

  taken_is : (i : ℕ) → i < length rows → (get_or rows i blank).taken ≡ taken_of eqb es (get_or rows i blank).key
  taken_is i lt = s.taken i blank lt (omega (arith, entering.part (λ r. r.taken) es (get_or rows i blank).key, totals.1))

  -- no row is short exactly where no payer owes
  pub none_short : covered rows ≡ true → (p : ℕ) → taken_of eqb es p ≤ added_of eqb es p
  none_short h p =
      (elim (among eqb (keys es) p) as (λ b. among eqb (keys es) p ≡ b → taken_of eqb es p ≤ added_of eqb es p) [
        | true ↦ λ e.
            let at = row_found rows p (omega (arith, s.one p e)) in
            let less : taken_of eqb es (get_or rows at.0 blank).key ≤ added_of eqb es (get_or rows at.0 blank).key = omega (arith, covered_at rows at.0 h at.1, added_is at.0 at.1, taken_is at.0 at.1) in
            subst (λ q. taken_of eqb es q ≤ added_of eqb es q) at.2 less
        | false ↦ λ e. omega (arith, none-entered (λ r. r.taken) es p e)
      ]) refl

  pub short_none : ((p : ℕ) → taken_of eqb es p ≤ added_of eqb es p) → covered rows ≡ true
  short_none h = at_covered rows (λ i lt. omega (arith, h (get_or rows i blank).key, added_is i lt, taken_is i lt))

  -- and some payer owes where a row is short
  pub some_short : covered rows ≡ false → (p : ℕ) × (added_of eqb es p < taken_of eqb es p)
  some_short h =
      let at = short_row rows h in
      ((get_or rows at.0 blank).key, omega (arith, at.2, added_is at.0 at.1, taken_is at.0 at.1))

-- What a deposit agrees with.

same_currency : (a b : Currency) → one_currency a b ≡ true → a ≡ b
same_currency Sek Sek h = refl
same_currency Sek Eur h = absurd (false≢true h)
same_currency Eur Sek h = absurd (false≢true h)
same_currency Eur Eur h = refl

currency-same : (a b : Currency) → a ≡ b → one_currency a b ≡ true
currency-same Sek b e = subst (λ c. one_currency Sek c ≡ true) e refl
currency-same Eur b e = subst (λ c. one_currency Eur c ≡ true) e refl

pub right : (x : OpenSection) (d : Deposit) → agrees x d ≡ true → (d.currency ≡ x.currency) × (d.count ≡ x.records) × (d.sum + x.minus ≡ x.plus)
right x d h =
    let a = and_parts (one_currency d.currency x.currency) (eqb d.count x.records && eqb (d.sum + x.minus) x.plus) h in
    let b = and_parts (eqb d.count x.records) (eqb (d.sum + x.minus) x.plus) a.1 in
    (same_currency _ _ a.0, eqb-true _ _ b.0, eqb-true _ _ b.1)

pub rightly : (x : OpenSection) (d : Deposit) → d.currency ≡ x.currency → d.count ≡ x.records → d.sum + x.minus ≡ x.plus → agrees x d ≡ true
rightly x d e f g = and_from _ _ (currency-same _ _ e) (and_from _ _ (eq-eqb _ _ f) (eq-eqb _ _ g))

-- Over the items from any state of the section.

-- but for the payers
record Heads-add (x : OpenSection) (is : List Item) (d : Read Deposit) : Type 0 where
  items : AllByRecursion ItemStands is
  some_payment : 0 < x.payments + total one_payment is
  currency : d.fields.currency ≡ x.currency
  count : d.fields.count ≡ x.records + length is
  sum : d.fields.sum + (x.minus + total deducted is) ≡ x.plus + total paid is

-- and the payers, where they are judged
record Heads-pay (cap : ℕ) (x : OpenSection) (is : List Item) : Type 0 where
  final : List (Row ℕ)
  table : run eqb cap x.rows (entries is) ≡ Some final
  none_short : covered final ≡ true

heads_add : (mode : Mode) (is : List Item) (x : OpenSection) (d : Read Deposit) → Heads-run mode x is d → Heads-add x is d
heads_add mode [] x d h =
    let a = right x d.fields h.2 in
    record {
      items = tt;
      some_payment = omega (arith, ltb-true 0 x.payments h.0);
      currency = a.0;
      count = omega (arith, a.1);
      sum = omega (arith, a.2);
    }
heads_add mode (i ∷ is) x d h =
    let n = heads_add mode is (after-item mode x i) d h.2 in
    record {
      items = (item_stands i h.1, n.items);
      some_payment = omega (arith, n.some_payment);
      currency = n.currency;
      count = omega (arith, n.count);
      sum = omega (arith, n.sum);
    }

-- back, one item at a time
add-last : (x : OpenSection) (d : Read Deposit) → Heads-add x [] d → (ltb 0 x.payments ≡ true) × (agrees x d.fields ≡ true)
add-last x d n = (lt-ltb 0 x.payments (omega (arith, n.some_payment)), rightly x d.fields n.currency (omega (arith, n.count)) (omega (arith, n.sum)))

add-next : (mode : Mode) (i : Item) (is : List Item) (x : OpenSection) (d : Read Deposit) → Heads-add x (i ∷ is) d → Heads-add (after-item mode x i) is d
add-next mode i is x d n = record {
  items = n.items.1;
  some_payment = omega (arith, n.some_payment);
  currency = n.currency;
  count = omega (arith, n.count);
  sum = omega (arith, n.sum);
}

heads_pay : (cap : ℕ) (is : List Item) (x : OpenSection) (d : Read Deposit) → Heads-run (judging cap) x is d → Heads-pay cap x is
heads_pay cap [] x d h = record { final = x.rows; table = refl; none_short = h.1 }
heads_pay cap (i ∷ is) x d h =
    let n = heads_pay cap is (after-item (judging cap) x i) d h.2 in
    record { final = n.final; table = run_on cap x.rows (entry i) (entries is) h.0 ∙ n.table; none_short = n.none_short }

heads_run : (cap : ℕ) (is : List Item) (x : OpenSection) (d : Read Deposit) → Heads-add x is d → Heads-pay cap x is → Heads-run (judging cap) x is d
heads_run cap [] x d n p =
    let same : x.rows ≡ p.final = let e = p.table in cc in
    let l = add-last x d n in
    (l.0, subst (λ t. covered t ≡ true) (sym same) p.none_short, l.1)
heads_run cap (i ∷ is) x d n p =
    let fit = run_off cap x.rows (entry i) (entries is) p.final p.table in (
      fit,
      item_runs i n.items.0,
      heads_run cap is (after-item (judging cap) x i) d (add-next (judging cap) i is x d n)
          (record { final = p.final; table = sym (run_on cap x.rows (entry i) (entries is) fit) ∙ p.table; none_short = p.none_short }),
    )

-- where they are not judged, nothing more is asked
plain_run : (is : List Item) (x : OpenSection) (d : Read Deposit) → Heads-add x is d → Heads-run not_judging x is d
plain_run [] x d n = let l = add-last x d n in (l.0, refl, l.1)
plain_run (i ∷ is) x d n = (refl, item_runs i n.items.0, plain_run is (after-item not_judging x i) d (add-next not_judging i is x d n))

-- From the opening record on.

payers_keys : (is : List Item) → keys (entries is) ≡ map (λ (i : Item). i.transfer.fields.payer) is
payers_keys [] = refl
payers_keys (i ∷ is) = ap (λ l. i.transfer.fields.payer ∷ l) (payers_keys is)

pub section_adds : (mode : Mode) (s : Section) → Section-runs mode s → SectionAdds s
section_adds mode s h =
    let n = heads_add mode s.items (opened s.opening.fields.currency) s.deposit h in
    record {
      each_item = n.items;
      some_payment = omega (arith, n.some_payment);
      same_currency = n.currency;
      count = omega (arith, n.count);
      sum = omega (arith, n.sum);
    }

adds_heads : (s : Section) → SectionAdds s → Heads-add (opened s.opening.fields.currency) s.items s.deposit
adds_heads s n = record {
  items = n.each_item;
  some_payment = omega (arith, n.some_payment);
  currency = n.same_currency;
  count = omega (arith, n.count);
  sum = omega (arith, n.sum);
}

pub adds_run : (s : Section) → SectionAdds s → Section-runs not_judging s
adds_run s n = plain_run s.items (opened s.opening.fields.currency) s.deposit (adds_heads s n)

pub section_stands : (cap : ℕ) (s : Section) → Tame s.items → Section-runs (judging cap) s → SectionStands s × Roomy cap s
section_stands cap s tame h =
    let n = heads_pay cap s.items (opened s.opening.fields.currency) s.deposit h in
    let es : List (Row ℕ) = entries s.items in
    let owes : (p : ℕ) → taken_of eqb es p ≤ added_of eqb es p = none_short es (omega (arith, tame.few, length-map s.items entry)) (within_bounds s.items tame.small) n.final (entering.summed cap es n.final n.table) n.none_short in
    let roomy : distinct eqb (keys es) ≤ cap = (entering.enough cap es).0 (ap is_some n.table) in (
      record {
        adds = section_adds (judging cap) s h;
        none_owes = λ p. omega (arith, owes p, sums_of (λ r. r.taken) p s.items, sums_of (λ r. r.added) p s.items);
      },
      subst (λ ps. distinct eqb ps ≤ cap) (payers_keys s.items) roomy,
    )

some_of : {A : Type 0} (o : Option A) → is_some o ≡ true → (x : A) × (o ≡ Some x)
some_of None h = absurd (false≢true h)
some_of (Some x) h = (x, refl)

pub section_runs : (cap : ℕ) (s : Section) → Tame s.items → SectionStands s → Roomy cap s → Section-runs (judging cap) s
section_runs cap s tame n roomy =
    let es : List (Row ℕ) = entries s.items in
    let table = some_of (run eqb cap [] es) ((entering.enough cap es).1 (subst (λ ps. distinct eqb ps ≤ cap) (sym (payers_keys s.items)) roomy)) in
    heads_run cap s.items (opened s.opening.fields.currency) s.deposit (adds_heads s n.adds) (record {
      final = table.0;
      table = table.1;
      none_short = short_none es (omega (arith, tame.few, length-map s.items entry)) (within_bounds s.items tame.small) table.0 (entering.summed cap es table.0 table.1) (λ p. omega (arith, n.none_owes p, sums_of (λ r. r.taken) p s.items, sums_of (λ r. r.added) p s.items));
    })
