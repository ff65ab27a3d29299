-- Few records cannot reach the cap of a sum: over them the judging machine is the machine with plain sums.
use Rattle.std.proofs.Common.{◌≡◌, ℕ, suc, ◌+◌, ◌-◌, ◌*◌, ◌^◌, ◌<◌, ◌≤◌, Bool, true, false, cond, ◌&&◌, eqb, leb, List, [], ◌∷◌, IfOk, Some, None, Ok, Err, Option, Result, refl, ◌∙◌, arith}
use Rattle.std.specs.Option.{ok_or}
use Rattle.std.proofs.lemmas.Result.{IfOk-at_ok}
use Rattle.std.proofs.lemmas.Bool.{leb-true, cond_both}
use Rattle.field.specs.declared.money.Currency.{Currency}
use Rattle.field.specs.declared.references.ReferenceForm.{ReferenceForm}
use Rattle.field.specs.Chains.{then, and_then}
use Rattle.field.specs.Numbers.{number_of}
use Rattle.field.specs.Money.{amount_of}
use Rattle.record.specs.declared.kinds.Kind.{Kind}
use Rattle.record.specs.declared.kinds.Kind.TheVariants as kind
use Rattle.record.specs.declared.fields.Transfer.{Transfer}
use Rattle.record.specs.declared.fields.Core.{Core}
use Rattle.record.specs.declared.fields.Core.TheVariants as core
use Rattle.record.specs.declared.fields.Field.{Field}
use Rattle.record.specs.declared.fields.Field.TheVariants as field
use Rattle.record.specs.Layouts.{transfer_of, read_payment, read_deduction, read_core}
use Rattle.record.specs.Rows.{kind_in}
use Rattle.sums.specs.declared.Row.{Row}
use Rattle.sums.specs.Table.{capped}
use Rattle.manual.specs.declared.faults.Cause.{Cause}
use Rattle.manual.specs.declared.faults.Cause.TheVariants as cause
use Rattle.manual.specs.declared.places.Stage.TheVariants as stage
use Rattle.manual.specs.declared.places.Place.{Place}
use Rattle.manual.specs.declared.places.Place.TheVariants as place
use Rattle.manual.specs.Judging.{Mode, State, may_follow, in_order, one_currency, none_owes, core_tests, moved, begin}
use Rattle.manual.proofs.Roles.{Role, start, opening, head, part, deposit, end, extra, info, name, address1, address2, company, role_of, role_tests, behind}

-- what the sums and counts of a state have come to, after so many records
pub record Bounded (n : ℕ) (s : State) : Type 0 where
  pub payments : s.counts.payments ≤ n
  pub deductions : s.counts.deductions ≤ n
  pub extras : s.counts.extras ≤ n
  pub deposits : s.counts.deposits ≤ n
  pub records : s.section.records ≤ n
  pub paying : s.section.payments ≤ n
  pub plus : s.section.plus ≤ n * 9999999999999
  pub minus : s.section.minus ≤ n * 9999999999999
  pub infos : s.item.infos ≤ n

-- the amount of a payment or a deduction is no more than an amount field allows
abbrev pub Modest : Role → Type 0
Modest (start x) = Unit {0}
Modest (opening x) = Unit {0}
Modest (head b x) = x.fields.amount ≤ 9999999999999
Modest (part p) = Unit {0}
Modest (deposit x) = Unit {0}
Modest (end x) = Unit {0}

-- nothing has come at the beginning, and one record adds at most one to a count and one amount to a sum
pub bounded_begin : Bounded 0 begin
bounded_begin = omega arith

pub bounded_kept : (n : ℕ) (s : State) → Bounded n s → Bounded (suc n) s
bounded_kept n s b = omega arith

pub bounded_on : (mode : Mode) (n : ℕ) (s : State) (l : Role) → Bounded n s → Modest l → Bounded (suc n) (behind mode s l)
bounded_on mode n s (start x) b m = omega arith
bounded_on mode n s (opening x) b m = omega arith
bounded_on mode n s (head true x) b m = omega arith
bounded_on mode n s (head false x) b m = omega arith
bounded_on mode n s (part (extra a x)) b m = omega arith
bounded_on mode n s (part (info t)) b m = omega arith
bounded_on mode n s (part (name t)) b m = omega arith
bounded_on mode n s (part (address1 t)) b m = omega arith
bounded_on mode n s (part (address2 t)) b m = omega arith
bounded_on mode n s (part (company k)) b m = omega arith
bounded_on mode n s (deposit x) b m = omega arith
bounded_on mode n s (end x) b m = omega arith

-- Tests.

-- a deduction comes in order where a payment does, and one extra reference where the other does
pub in_pairs : (p : Place) → (may_follow p kind.Deduction ≡ may_follow p kind.Payment) × (may_follow p kind.NegativeReference ≡ may_follow p kind.ExtraReference)
in_pairs place.Fresh = (refl, refl)
in_pairs place.Begun = (refl, refl)
in_pairs place.Opened = (refl, refl)
in_pairs (place.Within stage.Head) = (refl, refl)
in_pairs (place.Within stage.Information) = (refl, refl)
in_pairs (place.Within stage.Name) = (refl, refl)
in_pairs (place.Within stage.HalfAddress) = (refl, refl)
in_pairs (place.Within stage.Address) = (refl, refl)
in_pairs (place.Within stage.CompanyNumber) = (refl, refl)
in_pairs place.Between = (refl, refl)
in_pairs place.Done = (refl, refl)

-- but for a deposit, order asks nothing of the section
and_true : (b : Bool) → (b && true) ≡ b
and_true true = refl
and_true false = refl

-- so the tests are the same if the first, on the place, is
ordered : (ts : List (Bool × Cause)) {a b : Bool} → a ≡ b → ◌≡◌ {A = List (Bool × Cause)} ((a && true, cause.Order) ∷ ts) ((b, cause.Order) ∷ ts)
ordered ts {a} e = λ i. ((and_true a ∙ e) i, cause.Order) ∷ ts

-- a capped sum is the plain sum, or both are more than what is below the cap
pub same_sum : (x y z : ℕ) → z < 2 ^ 64 - 1 → eqb (capped x y) z ≡ eqb (x + y) z
same_sum x y z h = grind arith

pub same_tests : (mode : Mode) (n : ℕ) (s : State) (c : Core) (t : List ℕ) → n ≤ 50000 → Bounded n s → core_tests mode s (kind_in c) (Ok c) ≡ role_tests mode s (role_of c t)
same_tests mode n s (core.Start x) t h b = ordered _ refl
same_tests mode n s (core.Opening x) t h b = ordered _ refl
same_tests mode n s (core.Deposit x) t h b =
    λ i. (in_order s kind.Deposit, cause.Order) ∷ (none_owes mode s.section.rows, cause.PayerOwes)
    ∷ (
      one_currency x.currency s.section.currency && (eqb x.count s.section.records
          && same_sum x.sum s.section.minus s.section.plus (omega arith) i),
      cause.Deposit,
    ) ∷ []
same_tests mode n s (core.Payment x) t h b = ordered _ refl
same_tests mode n s (core.Deduction x) t h b = ordered _ (in_pairs s.place).0
same_tests mode n s (core.ExtraReference x) t h b = ordered _ refl
same_tests mode n s (core.NegativeReference x) t h b = ordered _ (in_pairs s.place).1
same_tests mode n s core.Information t h b = ordered _ refl
same_tests mode n s core.Name t h b = ordered _ refl
same_tests mode n s core.AddressOne t h b = ordered _ refl
same_tests mode n s core.AddressTwo t h b = ordered _ refl
same_tests mode n s (core.CompanyNumber k) t h b = ordered _ refl
same_tests mode n s (core.End x) t h b = ordered _ refl

-- States: below the cap a capped sum is the plain sum.

-- all of a state but its numbers
abbrev aside : State → Place × Currency × List (Row ℕ) × ℕ × ℕ
aside s = (s.place, s.section.currency, s.section.rows, s.item.payer, s.item.serial)

-- two states with the same numbers; where the rest is the same too, they are equal
record SameNumbers (s t : State) : Type 0 where
  payments : s.counts.payments ≡ t.counts.payments
  deductions : s.counts.deductions ≡ t.counts.deductions
  extras : s.counts.extras ≡ t.counts.extras
  deposits : s.counts.deposits ≡ t.counts.deposits
  records : s.section.records ≡ t.section.records
  paying : s.section.payments ≡ t.section.payments
  plus : s.section.plus ≡ t.section.plus
  minus : s.section.minus ≡ t.section.minus
  infos : s.item.infos ≡ t.item.infos

alike : (s t : State) → aside s ≡ aside t → SameNumbers s t → s ≡ t
alike s t a m = λ i. record {
  place = (a i).0;
  counts = record { payments = m.payments i; deductions = m.deductions i; extras = m.extras i; deposits = m.deposits i };
  section = record { currency = (a i).1; records = m.records i; payments = m.paying i; plus = m.plus i; minus = m.minus i; rows = (a i).2 };
  item = record { payer = (a i).3; serial = (a i).4; infos = m.infos i };
}

pub same_after : (mode : Mode) (n : ℕ) (s : State) (c : Core) (t : List ℕ) → n ≤ 50000 → Bounded n s → Modest (role_of c t) → moved mode s (kind_in c) c ≡ behind mode s (role_of c t)
same_after mode n s (core.Start x) t h b m = alike _ _ refl (omega arith)
same_after mode n s (core.Opening x) t h b m = alike _ _ refl (omega arith)
same_after mode n s (core.Deposit x) t h b m = alike _ _ refl (omega arith)
same_after mode n s (core.Payment x) t h b m = alike _ _ refl (omega arith)
same_after mode n s (core.Deduction x) t h b m = alike _ _ refl (omega arith)
same_after mode n s (core.ExtraReference x) t h b m = alike _ _ refl (omega arith)
same_after mode n s (core.NegativeReference x) t h b m = alike _ _ refl (omega arith)
same_after mode n s core.Information t h b m = alike _ _ refl (omega arith)
same_after mode n s core.Name t h b m = alike _ _ refl (omega arith)
same_after mode n s core.AddressOne t h b m = alike _ _ refl (omega arith)
same_after mode n s core.AddressTwo t h b m = alike _ _ refl (omega arith)
same_after mode n s (core.CompanyNumber k) t h b m = alike _ _ refl (omega arith)
same_after mode n s (core.End x) t h b m = alike _ _ refl (omega arith)

-- What is read.

-- one reading after another: what holds behind the first, whatever it gives, holds of both
module _ {T U : Type 0} (P : U → Type 0) where
  on : (r : Result T Field) (f : T → Result U Field) → ((x : T) → r ≡ Ok x → IfOk (f x) P) → IfOk (then r f) P
  on (Ok x) f go = go x refl
  on (Err e) f go = tt

abbrev Small : ℕ → Type 0
Small a = a ≤ 9999999999999

-- an amount is small, and so are those of a payment and a deduction
small_number : (o : Option ℕ) → IfOk (ok_or (and_then o (λ n. cond (leb n 9999999999999) (Some n) None)) field.Amount) Small
small_number None = tt
small_number (Some n) =
    cond_both (leb n 9999999999999) (Some n) None (λ o. IfOk (ok_or o field.Amount) Small) (leb-true n 9999999999999) (λ e. tt)

small_amount : (bs : List ℕ) (a : ℕ) → ok_or (amount_of bs) field.Amount ≡ Ok a → Small a
small_amount bs a e = IfOk-at_ok Small e (small_number (number_of bs))

small_transfer : (form : Option ReferenceForm) (rest : List ℕ) → IfOk (transfer_of form rest) (λ x. Small x.amount)
small_transfer form rest = search (on, small_amount) depth 8

small_payment : (rest : List ℕ) (x : Transfer) → read_payment rest ≡ Ok x → Small x.amount
small_payment rest x e = IfOk-at_ok (λ (x : Transfer). Small x.amount) e (small_transfer _ rest)

small_deduction : (rest : List ℕ) (x : Transfer) → read_deduction rest ≡ Ok x → Small x.amount
small_deduction rest x e = IfOk-at_ok (λ (x : Transfer). Small x.amount) e (search (on, small_payment))

-- a core record that is read has the kind that it is read by, and is modest
abbrev Right : Kind → List ℕ → Core → Type 0
Right k t c = (kind_in c ≡ k) × Modest (role_of c t)

right : (k : Kind) (rest t : List ℕ) → IfOk (read_core k rest) (Right k t)
right kind.Start rest t = search on
right kind.Opening rest t = search on
right kind.Deposit rest t = search on
right kind.Payment rest t = search (on, small_payment)
right kind.Deduction rest t = search (on, small_deduction)
right kind.ExtraReference rest t = search on
right kind.NegativeReference rest t = search on
right kind.Information rest t = search on
right kind.Name rest t = search on
right kind.AddressOne rest t = search on
right kind.AddressTwo rest t = search on
right kind.CompanyNumber rest t = search on
right kind.End rest t = search on

pub read_kind : (k : Kind) (rest : List ℕ) (c : Core) → read_core k rest ≡ Ok c → kind_in c ≡ k
read_kind k rest c e = (IfOk-at_ok (Right k []) e (right k rest [])).0

pub read_modest : (k : Kind) (rest : List ℕ) (c : Core) (t : List ℕ) → read_core k rest ≡ Ok c → Modest (role_of c t)
read_modest k rest c t e = (IfOk-at_ok (Right k t) e (right k rest t)).1
