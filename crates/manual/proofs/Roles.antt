-- Core records by the role that they play, and the judging machine over roles with plain sums in place of capped ones.
use Rattle.std.proofs.Common.{◌≡◌, ℕ, ◌+◌, Bool, true, false, cond, ◌&&◌, eqb, ltb, List, [], ◌∷◌}
use Rattle.record.specs.declared.kinds.Kind.{Kind}
use Rattle.record.specs.declared.kinds.Kind.TheVariants as kind
use Rattle.record.specs.declared.fields.Start.{Start}
use Rattle.record.specs.declared.fields.Opening.{Opening}
use Rattle.record.specs.declared.fields.Transfer.{Transfer}
use Rattle.record.specs.declared.fields.Deposit.{Deposit}
use Rattle.record.specs.declared.fields.End.{End}
use Rattle.record.specs.declared.fields.Core.{Core}
use Rattle.record.specs.declared.fields.Core.TheVariants as core
use Rattle.manual.specs.declared.faults.Cause.{Cause}
use Rattle.manual.specs.declared.faults.Cause.TheVariants as cause
use Rattle.manual.specs.declared.places.Stage.{Stage}
use Rattle.manual.specs.declared.places.Stage.TheVariants as stage
use Rattle.manual.specs.declared.places.Place.{Place}
use Rattle.manual.specs.declared.places.Place.TheVariants as place
use Rattle.manual.specs.Judging.{Mode, State, Section as OpenSection, Item as OpenItem, may_follow, one_currency, payers_after, room, none_owes, like_item, same_counts, opened, headed, ended}
use Rattle.manual.specs.Manual.{Read, leaf}
use Rattle.manual.proofs.Steps.{Passes}

-- what may stand in an item behind its payment or deduction
pub data Part : Type 0 where
  extra : Bool → Read Transfer → Part
  info : List ℕ → Part
  name : List ℕ → Part
  address1 : List ℕ → Part
  address2 : List ℕ → Part
  company : Read ℕ → Part

pub data Role : Type 0 where
  start : Read Start → Role
  opening : Read Opening → Role
  head : Bool → Read Transfer → Role
  part : Part → Role
  deposit : Read Deposit → Role
  end : Read End → Role

abbrev pub with_text : {A : Type 0} → A → List ℕ → Read A
with_text x t = record { fields = x; text = t }

-- the role of a core record
abbrev pub role_of : Core → List ℕ → Role
role_of (core.Start x) t = start (with_text x t)
role_of (core.Opening x) t = opening (with_text x t)
role_of (core.Deposit x) t = deposit (with_text x t)
role_of (core.Payment x) t = head true (with_text x t)
role_of (core.Deduction x) t = head false (with_text x t)
role_of (core.ExtraReference x) t = part (extra true (with_text x t))
role_of (core.NegativeReference x) t = part (extra false (with_text x t))
role_of core.Information t = part (info t)
role_of core.Name t = part (name t)
role_of core.AddressOne t = part (address1 t)
role_of core.AddressTwo t = part (address2 t)
role_of (core.CompanyNumber n) t = part (company (with_text n t))
role_of (core.End x) t = end (with_text x t)

abbrev pub role : Read Core → Role
role l = role_of l.fields l.text

-- and back
abbrev pub leaf_of_part : Part → Read Core
leaf_of_part (extra b x) = leaf (cond b (core.ExtraReference x.fields) (core.NegativeReference x.fields)) x.text
leaf_of_part (info t) = leaf core.Information t
leaf_of_part (name t) = leaf core.Name t
leaf_of_part (address1 t) = leaf core.AddressOne t
leaf_of_part (address2 t) = leaf core.AddressTwo t
leaf_of_part (company n) = leaf (core.CompanyNumber n.fields) n.text

abbrev pub leaf_of : Role → Read Core
leaf_of (start x) = leaf (core.Start x.fields) x.text
leaf_of (opening x) = leaf (core.Opening x.fields) x.text
leaf_of (head b x) = leaf (cond b (core.Payment x.fields) (core.Deduction x.fields)) x.text
leaf_of (part p) = leaf_of_part p
leaf_of (deposit x) = leaf (core.Deposit x.fields) x.text
leaf_of (end x) = leaf (core.End x.fields) x.text

-- Order. A deduction comes in order where a payment does, and the two extra references where either does.

abbrev pub part_kind : Part → Kind
part_kind (extra b x) = kind.ExtraReference
part_kind (info t) = kind.Information
part_kind (name t) = kind.Name
part_kind (address1 t) = kind.AddressOne
part_kind (address2 t) = kind.AddressTwo
part_kind (company n) = kind.CompanyNumber

abbrev pub stage_after : Part → Stage
stage_after (extra b x) = stage.Head
stage_after (info t) = stage.Information
stage_after (name t) = stage.Name
stage_after (address1 t) = stage.HalfAddress
stage_after (address2 t) = stage.Address
stage_after (company n) = stage.CompanyNumber

abbrev pub place_behind : Role → Place
place_behind (start x) = place.Begun
place_behind (opening x) = place.Opened
place_behind (head b x) = place.Within stage.Head
place_behind (part p) = place.Within (stage_after p)
place_behind (deposit x) = place.Between
place_behind (end x) = place.Done

-- at a place, in a section with so many payments
abbrev pub fits : Place → ℕ → Role → Bool
fits p n (start x) = may_follow p kind.Start
fits p n (opening x) = may_follow p kind.Opening
fits p n (head b x) = may_follow p kind.Payment
fits p n (part q) = may_follow p (part_kind q)
fits p n (deposit x) = may_follow p kind.Deposit && ltb 0 n
fits p n (end x) = may_follow p kind.End

-- What is asked of the fields, with plain sums.

-- what a payment or deduction adds, and what it takes away
abbrev pub adds : Bool → Read Transfer → ℕ
adds b x = cond b x.fields.amount 0

abbrev pub takes : Bool → Read Transfer → ℕ
takes b x = cond b 0 x.fields.amount

abbrev pub part-tests : OpenItem → Part → List (Bool × Cause)
part-tests i (extra b x) = (like_item i x.fields, cause.UnlikeItem) ∷ []
part-tests i (info t) = (ltb i.infos 99, cause.Information) ∷ []
part-tests i (name t) = []
part-tests i (address1 t) = []
part-tests i (address2 t) = []
part-tests i (company n) = []

abbrev pub agrees : OpenSection → Deposit → Bool
agrees x d = one_currency d.currency x.currency && (eqb d.count x.records && eqb (d.sum + x.minus) x.plus)

abbrev pub content_of : Mode → State → Role → List (Bool × Cause)
content_of mode s (start x) = []
content_of mode s (opening x) = []
content_of mode s (head b x) = (room mode s.section.rows x.fields.payer (adds b x) (takes b x), cause.NoPlace) ∷ []
content_of mode s (part p) = part-tests s.item p
content_of mode s (deposit x) = (none_owes mode s.section.rows, cause.PayerOwes) ∷ (agrees s.section x.fields, cause.Deposit) ∷ []
content_of mode s (end x) = (same_counts s.counts x.fields, cause.Counts) ∷ []

abbrev pub role_tests : Mode → State → Role → List (Bool × Cause)
role_tests mode s l = (fits s.place s.section.payments l, cause.Order) ∷ content_of mode s l

-- The state after, with plain sums.

abbrev pub is-payment : Role → ℕ
is-payment (start x) = 0
is-payment (opening x) = 0
is-payment (head b x) = cond b 1 0
is-payment (part p) = 0
is-payment (deposit x) = 0
is-payment (end x) = 0

abbrev pub is_deduction : Role → ℕ
is_deduction (start x) = 0
is_deduction (opening x) = 0
is_deduction (head b x) = cond b 0 1
is_deduction (part p) = 0
is_deduction (deposit x) = 0
is_deduction (end x) = 0

abbrev pub extra_part : Part → ℕ
extra_part (extra b x) = 1
extra_part (info t) = 0
extra_part (name t) = 0
extra_part (address1 t) = 0
extra_part (address2 t) = 0
extra_part (company n) = 0

abbrev pub is_extra : Role → ℕ
is_extra (start x) = 0
is_extra (opening x) = 0
is_extra (head b x) = 0
is_extra (part p) = extra_part p
is_extra (deposit x) = 0
is_extra (end x) = 0

abbrev pub is-deposit : Role → ℕ
is-deposit (start x) = 0
is-deposit (opening x) = 0
is-deposit (head b x) = 0
is-deposit (part p) = 0
is-deposit (deposit x) = 1
is-deposit (end x) = 0

abbrev pub counts_behind : End → Role → End
counts_behind c l = record {
  payments = c.payments + is-payment l;
  deductions = c.deductions + is_deduction l;
  extras = c.extras + is_extra l;
  deposits = c.deposits + is-deposit l;
}

abbrev pub with_head : Mode → OpenSection → Bool → Read Transfer → OpenSection
with_head mode x b t = record {
  currency = x.currency;
  records = x.records + 1;
  payments = x.payments + cond b 1 0;
  plus = x.plus + adds b t;
  minus = x.minus + takes b t;
  rows = payers_after mode x.rows t.fields.payer (adds b t) (takes b t);
}

abbrev pub section_behind : Mode → OpenSection → Role → OpenSection
section_behind mode x (start y) = x
section_behind mode x (opening y) = opened y.fields.currency
section_behind mode x (head b t) = with_head mode x b t
section_behind mode x (part p) = x
section_behind mode x (deposit y) = x
section_behind mode x (end y) = x

abbrev pub one_info : Part → ℕ
one_info (extra b x) = 0
one_info (info t) = 1
one_info (name t) = 0
one_info (address1 t) = 0
one_info (address2 t) = 0
one_info (company n) = 0

abbrev pub item-part : OpenItem → Part → OpenItem
item-part i p = record { payer = i.payer; serial = i.serial; infos = i.infos + one_info p }

abbrev pub item_behind : OpenItem → Role → OpenItem
item_behind i (start x) = i
item_behind i (opening x) = i
item_behind i (head b t) = headed t.fields
item_behind i (part p) = item-part i p
item_behind i (deposit x) = i
item_behind i (end x) = i

abbrev pub behind : Mode → State → Role → State
behind mode s l = record {
  place = place_behind l;
  counts = counts_behind s.counts l;
  section = section_behind mode s.section l;
  item = item_behind s.item l;
}

-- Runs.

-- every test passes, and the file has ended
abbrev pub Run : Mode → State → List Role → Type 0
Run mode s [] = ended s.place ≡ true
Run mode s (l ∷ ls) = Passes (role_tests mode s l) × Run mode (behind mode s l) ls
