-- A core record comes in order, by the machine, exactly where a file begins with the kinds up to it.
use Rattle.std.proofs.Common.{◌≡◌, ℕ, ◌+◌, ◌<◌, Bool, true, false, ltb, List, [], ◌∷◌, ◌++◌, map, length, Some, None, Option, sym, refl, ap, ◌∙◌, subst, append_assoc, arith}
use Rattle.std.specs.List.{AllByRecursion}
use Rattle.std.proofs.lemmas.Bool.{false≢true, lt-ltb, ltb-true}
use Rattle.field.specs.declared.money.Currency.TheVariants.{Sek}
use Rattle.field.specs.declared.references.ReferenceForm.TheVariants.{Absent}
use Rattle.record.specs.declared.kinds.Kind.{Kind}
use Rattle.record.specs.declared.kinds.Kind.TheVariants as kind
use Rattle.record.specs.declared.fields.Start.{Start}
use Rattle.record.specs.declared.fields.Opening.{Opening}
use Rattle.record.specs.declared.fields.Transfer.{Transfer}
use Rattle.record.specs.declared.fields.Deposit.{Deposit}
use Rattle.record.specs.declared.fields.DepositType.TheVariants.{Unmarked}
use Rattle.record.specs.declared.fields.TestMark.TheVariants.{Production}
use Rattle.record.specs.declared.fields.End.{End}
use Rattle.record.specs.declared.fields.Core.{Core}
use Rattle.record.specs.Rows.{kind_in}
use Rattle.manual.specs.declared.places.Stage.{Stage}
use Rattle.manual.specs.declared.places.Stage.TheVariants as stage
use Rattle.manual.specs.declared.places.Place.{Place}
use Rattle.manual.specs.declared.places.Place.TheVariants as place
use Rattle.manual.specs.Judging.{may_follow, paid_for, place_after}
use Rattle.manual.specs.Manual.{Read, Extra, Item, Section, Tree, total, one_payment}
use Rattle.manual.specs.Wrong.{kinds_of, Begins}
use Rattle.manual.proofs.Roles.{Part, extra, info, name, address1, address2, company, Role, start, opening, head, part, deposit, end, part_kind, stage_after, leaf_of}
use Rattle.manual.proofs.Trees.{extra_of, company_parts, address_parts, name_parts, written, parts_then, items_roles, sections_roles, roles, Closed, Ordered}
use Rattle.manual.proofs.Parts.{item_of, written_ordered}
use Rattle.manual.proofs.Grammar.{closed_head, head_closed, closed-deposit, none_within, none-outside}
use Rattle.manual.proofs.Bounds.{in_pairs}
use Rattle.manual.proofs.Unique.{leaves_roles}

-- THE MACHINE OVER KINDS: the place, and the payments of the open section.

abbrev pub paying : ℕ → Kind → ℕ
paying n kind.Opening = 0
paying n kind.Payment = n + 1
paying n other = n

-- it passes over these kinds from such a place
abbrev pub Goes : Place → ℕ → List Kind → Type 0
Goes p n [] = Unit {0}
Goes p n (k ∷ ks) = (may_follow p k ≡ true) × (paid_for n k ≡ true) × Goes (place_after k) (paying n k) ks

-- and has passed over these, to such a place
pub data Way : List Kind → Place → ℕ → Type 0 where
  fresh : Way [] place.Fresh 0
  on : (ks : List Kind) (p : Place) (n : ℕ) (k : Kind) → Way ks p n → may_follow p k ≡ true → paid_for n k ≡ true → Way (ks ++ k ∷ []) (place_after k) (paying n k)

way_goes : (ks : List Kind) (p : Place) (n : ℕ) (xs : List Kind) → Way ks p n → Goes p n xs → Goes place.Fresh 0 (ks ++ xs)
way_goes _ _ _ xs fresh g = g
way_goes _ _ _ xs (on ks p n k w a b) g = subst (Goes place.Fresh 0) (sym (append_assoc ks (k ∷ []) xs)) (way_goes ks p n (k ∷ xs) w (a, b, g))

goes_way : (ks : List Kind) (p : Place) (n : ℕ) (xs : List Kind) → Way ks p n → Goes place.Fresh 0 (ks ++ xs) → Goes p n xs
goes_way _ _ _ xs fresh g = g
goes_way _ _ _ xs (on ks p n k w a b) g = (goes_way ks p n (k ∷ xs) w (subst (Goes place.Fresh 0) (append_assoc ks (k ∷ []) xs) g)).2

goes_front : (p : Place) (n : ℕ) (ks xs : List Kind) → Goes p n (ks ++ xs) → Goes p n ks
goes_front p n [] xs g = tt
goes_front p n (k ∷ ks) xs g = (g.0, g.1, goes_front (place_after k) (paying n k) ks xs g.2)

-- FROM A TREE.

abbrev pub kind_role : Role → Kind
kind_role l = kind_in (leaf_of l).fields

abbrev pub kinds_in : List Role → List Kind
kinds_in ls = map kind_role ls

-- the parts of an item come in order
item_ordered : (i : Item) → Ordered stage.Head (written i)
item_ordered i = extras_in i.extras
  where
    company_in : (st : Stage) (c : Option (Read ℕ)) → Closed st → may_follow (place.Within st) kind.CompanyNumber ≡ true → Ordered st (company_parts c)
    company_in st None k f = k
    company_in st (Some m) k f = (f, tt)

    addresses_in : (st : Stage) → Closed st → may_follow (place.Within st) kind.AddressOne ≡ true → may_follow (place.Within st) kind.CompanyNumber ≡ true
        → (a : Option (List ℕ × List ℕ)) → Ordered st (address_parts a (company_parts i.company))
    addresses_in st k f g None = company_in st i.company k g
    addresses_in st k f g (Some both) = (f, (refl, company_in stage.Address i.company tt refl))

    name_in : (st : Stage) → Closed st → may_follow (place.Within st) kind.Name ≡ true → may_follow (place.Within st) kind.AddressOne ≡ true
        → may_follow (place.Within st) kind.CompanyNumber ≡ true → (n : Option (List ℕ)) → Ordered st (name_parts n (address_parts i.addresses (company_parts i.company)))
    name_in st k e f g None = addresses_in st k f g i.addresses
    name_in st k e f g (Some t) = (e, addresses_in stage.Name tt refl refl i.addresses)

    tail : List Part
    tail = name_parts i.name (address_parts i.addresses (company_parts i.company))

    infos_in : (ts : List (List ℕ)) → Ordered stage.Information (map info ts ++ tail)
    infos_in [] = name_in stage.Information tt refl refl refl i.name
    infos_in (t ∷ ts) = (refl, infos_in ts)

    infos_first : (ts : List (List ℕ)) → Ordered stage.Head (map info ts ++ tail)
    infos_first [] = name_in stage.Head tt refl refl refl i.name
    infos_first (t ∷ ts) = (refl, infos_in ts)

    extras_in : (xs : List Extra) → Ordered stage.Head (map extra_of xs ++ (map info i.information ++ tail))
    extras_in [] = infos_first i.information
    extras_in (x ∷ xs) = (refl, extras_in xs)

-- the kind of a part, where the two extra references are one
kind_part : (st : Stage) (p : Part) → may_follow (place.Within st) (kind_role (part p)) ≡ may_follow (place.Within st) (part_kind p)
kind_part st (extra true x) = refl
kind_part st (extra false x) = (in_pairs (place.Within st)).1
kind_part st (info t) = refl
kind_part st (name t) = refl
kind_part st (address1 t) = refl
kind_part st (address2 t) = refl
kind_part st (company m) = refl

-- behind a part, and what it asks of payments
part_behind : (p : Part) (n : ℕ) → (place_after (kind_role (part p)) ≡ place.Within (stage_after p)) × (paying n (kind_role (part p)) ≡ n) × (paid_for n (kind_role (part p)) ≡ true)
part_behind (extra true x) n = (refl, refl, refl)
part_behind (extra false x) n = (refl, refl, refl)
part_behind (info t) n = (refl, refl, refl)
part_behind (name t) n = (refl, refl, refl)
part_behind (address1 t) n = (refl, refl, refl)
part_behind (address2 t) n = (refl, refl, refl)
part_behind (company m) n = (refl, refl, refl)

goes_parts : (ps : List Part) (k : List Role) (st : Stage) (n : ℕ) → Ordered st ps → ((su : Stage) → Closed su → Goes (place.Within su) n (kinds_in k)) → Goes (place.Within st) n (kinds_in (parts_then ps k))
goes_parts [] k st n o go = go st o
goes_parts (p ∷ ps) k st n o go =
    let b = part_behind p n in (
      kind_part st p ∙ o.0,
      b.2,
      subst (λ q. Goes q (paying n (kind_role (part p))) (kinds_in (parts_then ps k))) (sym b.0)
          (subst (λ m. Goes (place.Within (stage_after p)) m (kinds_in (parts_then ps k))) (sym b.1) (goes_parts ps k (stage_after p) n o.1 go)),
    )

-- the head of an item, where one may come
goes_head : (p : Place) (n : ℕ) (b : Bool) (t : Read Transfer) (ls : List Role) → may_follow p kind.Payment ≡ true
    → ((m : ℕ) → m ≡ n + total one_payment (record { payment = b; transfer = t; extras = []; information = []; name = None; addresses = None; company = None } ∷ []) → Goes (place.Within stage.Head) m (kinds_in ls))
    → Goes p n (kinds_in (head b t ∷ ls))
goes_head p n true t ls f go = (f, refl, go (n + 1) (omega arith))
goes_head p n false t ls f go = ((in_pairs p).0 ∙ f, refl, go n (omega arith))

module _ (d : Read Deposit) (rest : List Role) (go : (n : ℕ) → Goes place.Between n (kinds_in rest)) where
  goes_item : (p : Place) (n : ℕ) (i : Item) (k : List Role) → may_follow p kind.Payment ≡ true
      → ((m : ℕ) (su : Stage) → m ≡ n + total one_payment (i ∷ []) → Closed su → Goes (place.Within su) m (kinds_in k))
      → Goes p n (kinds_in (head i.payment i.transfer ∷ parts_then (written i) k))
  goes_item p n i k f next = goes_head p n i.payment i.transfer _ f (λ m e. goes_parts (written i) k stage.Head m (item_ordered i) (λ su c. next m su e c))

  goes_items : (is : List Item) (st : Stage) (n : ℕ) → Closed st → 0 < n + total one_payment is → Goes (place.Within st) n (kinds_in (items_roles is (deposit d ∷ rest)))
  goes_items [] st n c paid = ((head_closed st c).1, lt-ltb 0 n (omega arith), go n)
  goes_items (i ∷ is) st n c paid = goes_item (place.Within st) n i _ (head_closed st c).0 (λ m su e k. goes_items is su m k (omega arith))

  goes_first : (is : List Item) → 0 < total one_payment is → Goes place.Opened 0 (kinds_in (items_roles is (deposit d ∷ rest)))
  goes_first [] paid = absurd (omega arith)
  goes_first (i ∷ is) paid = goes_item place.Opened 0 i _ refl (λ m su e k. goes_items is su m k (omega arith))

goes_sections : (ss : List Section) (e : Read End) → AllByRecursion (λ (s : Section). 0 < total one_payment s.items) ss → (n : ℕ) → Goes place.Between n (kinds_in (sections_roles ss (end e ∷ [])))
goes_sections [] e h n = (refl, refl, tt)
goes_sections (s ∷ ss) e h n = (refl, refl, goes_first s.deposit (sections_roles ss (end e ∷ [])) (goes_sections ss e h.1) s.items h.0)

goes_begun : (ss : List Section) (e : Read End) → 0 < length ss → AllByRecursion (λ (s : Section). 0 < total one_payment s.items) ss → Goes place.Begun 0 (kinds_in (sections_roles ss (end e ∷ [])))
goes_begun [] e some h = absurd (omega arith)
goes_begun (s ∷ ss) e some h = (refl, refl, (goes_sections (s ∷ ss) e h 0).2)

map_both : (ls : List Role) → map (λ (l : Read Core). kind_in l.fields) (map leaf_of ls) ≡ kinds_in ls
map_both [] = refl
map_both (l ∷ ls) = ap (λ ks. kind_role l ∷ ks) (map_both ls)

kinds_roles : (r : Tree) → kinds_of r ≡ kinds_in (roles r)
kinds_roles r = ap (map (λ (l : Read Core). kind_in l.fields)) (leaves_roles r) ∙ map_both (roles r)

begins_goes : (ks : List Kind) → Begins ks → Goes place.Fresh 0 ks
begins_goes ks b =
    let all : Goes place.Fresh 0 (kinds_in (roles b.reading)) = (refl, refl, goes_begun b.reading.sections b.reading.end b.some_section b.some_payment) in
    goes_front place.Fresh 0 ks b.rest (subst (Goes place.Fresh 0) (sym (kinds_roles b.reading) ∙ b.written) all)

-- TO A TREE. What has passed is finished in the shortest way.

abbrev with_no_text : {A : Type 0} → A → Read A
with_no_text x = record { fields = x; text = [] }

abbrev some_transfer : Read Transfer
some_transfer = with_no_text (record { payer = 0; reference = Absent; amount = 0; serial = 0 })

abbrev some_opening : Read Opening
some_opening = with_no_text (record { payee = 0; currency = Sek })

abbrev some_deposit : Read Deposit
some_deposit = with_no_text (record { date = record { year = 0; month = 0; day = 0 }; serial = 0; sum = 0; currency = Sek; count = 0; kind = Unmarked })

abbrev some_end : Read End
some_end = with_no_text (record { payments = 0; deductions = 0; extras = 0; deposits = 0 })

abbrev some_start : Read Start
some_start = with_no_text (record { stamp = 0; mark = Production })

abbrev some_item : Item
some_item = record { payment = true; transfer = some_transfer; extras = []; information = []; name = None; addresses = None; company = None }

abbrev Paying : List Section → Type 0
Paying ss = AllByRecursion (λ (s : Section). 0 < total one_payment s.items) ss

record Files (ls : List Role) : Type 0 where
  sections : List Section
  close : Read End
  rest : List Role
  lies : sections_roles sections (end close ∷ []) ≡ ls ++ rest
  paid : Paying sections

record Items (n : ℕ) (ls : List Role) : Type 0 where
  items : List Item
  settled : Read Deposit
  sections : List Section
  close : Read End
  rest : List Role
  lies : items_roles items (deposit settled ∷ sections_roles sections (end close ∷ [])) ≡ ls ++ rest
  some : 0 < n + total one_payment items
  paid : Paying sections

record Parts (st : Stage) (n : ℕ) (ls : List Role) : Type 0 where
  parts : List Part
  ordered : Ordered st parts
  items : List Item
  settled : Read Deposit
  sections : List Section
  close : Read End
  rest : List Role
  lies : parts_then parts (items_roles items (deposit settled ∷ sections_roles sections (end close ∷ []))) ≡ ls ++ rest
  some : 0 < n + total one_payment items
  paid : Paying sections

record Whole (ls : List Role) : Type 0 where
  reading : Tree
  rest : List Role
  lies : roles reading ≡ ls ++ rest
  some : 0 < length reading.sections
  paid : Paying reading.sections

abbrev Shape : Place → ℕ → List Role → Type 0
Shape place.Fresh n ls = Whole ls
Shape place.Begun n ls = (f : Files ls) × (0 < length f.sections)
Shape place.Opened n ls = Items n ls
Shape (place.Within st) n ls = Parts st n ls
Shape place.Between n ls = Files ls
Shape place.Done n ls = ls ≡ []

-- nothing more has come: the shortest end
last_files : Files []
last_files = record { sections = []; close = some_end; rest = end some_end ∷ []; lies = refl; paid = tt }

last_items : (n : ℕ) → Items n []
last_items n = record { items = some_item ∷ []; settled = some_deposit; sections = []; close = some_end; rest = _; lies = refl; some = omega arith; paid = tt }

parts_from : (st : Stage) (n : ℕ) (ls : List Role) → Closed st → Items n ls → Parts st n ls
parts_from st n ls c i = record { parts = []; ordered = c; items = i.items; settled = i.settled; sections = i.sections; close = i.close; rest = i.rest; lies = i.lies; some = i.some; paid = i.paid }

last_parts : (st : Stage) (n : ℕ) → Parts st n []
last_parts stage.Head n = parts_from stage.Head n [] tt (last_items n)
last_parts stage.Information n = parts_from stage.Information n [] tt (last_items n)
last_parts stage.Name n = parts_from stage.Name n [] tt (last_items n)
last_parts stage.HalfAddress n =
    let i = last_items n in
    record { parts = address2 [] ∷ []; ordered = (refl, tt); items = i.items; settled = i.settled; sections = i.sections; close = i.close; rest = part (address2 []) ∷ i.rest; lies = ap (λ l. part (address2 []) ∷ l) i.lies; some = i.some; paid = i.paid }
last_parts stage.Address n = parts_from stage.Address n [] tt (last_items n)
last_parts stage.CompanyNumber n = parts_from stage.CompanyNumber n [] tt (last_items n)

abbrev one_section : Section
one_section = record { opening = some_opening; items = some_item ∷ []; deposit = some_deposit }

last : (p : Place) (n : ℕ) → Shape p n []
last place.Fresh n = record { reading = record { start = some_start; sections = one_section ∷ []; end = some_end }; rest = _; lies = refl; some = omega arith; paid = (omega arith, tt) }
last place.Begun n = (record { sections = one_section ∷ []; close = some_end; rest = _; lies = refl; paid = (omega arith, tt) }, omega arith)
last place.Opened n = last_items n
last (place.Within st) n = last_parts st n
last place.Between n = last_files
last place.Done n = refl

-- one record in front
open_section : (o : Read Opening) (ls : List Role) → Items 0 ls → (f : Files (opening o ∷ ls)) × (0 < length f.sections)
open_section o ls i = (
  record {
    sections = record { opening = o; items = i.items; deposit = i.settled } ∷ i.sections;
    close = i.close;
    rest = i.rest;
    lies = ap (λ l. opening o ∷ l) i.lies;
    paid = (omega (arith, i.some), i.paid);
  },
  omega arith,
)

open_item : (n : ℕ) (b : Bool) (t : Read Transfer) (ls : List Role) → Parts stage.Head (paying n (kind_role (head b t))) ls → Items n (head b t ∷ ls)
open_item n b t ls p =
    let same : written (item_of b t p.parts) ≡ p.parts = written_ordered b t p.parts p.ordered in
    let rest : List Role = items_roles p.items (deposit p.settled ∷ sections_roles p.sections (end p.close ∷ [])) in
    record {
      items = item_of b t p.parts ∷ p.items;
      settled = p.settled;
      sections = p.sections;
      close = p.close;
      rest = p.rest;
      lies = ap (λ (ps : List Part). head b t ∷ parts_then ps rest) same ∙ ap (λ l. head b t ∷ l) p.lies;
      some = more b p.some;
      paid = p.paid;
    }
  where
    more : (b : Bool) → 0 < paying n (kind_role (head b t)) + total one_payment p.items → 0 < n + total one_payment (item_of b t p.parts ∷ p.items)
    more true h = omega arith
    more false h = omega arith

close_section : (n : ℕ) (d : Read Deposit) (ls : List Role) → ltb 0 n ≡ true → Files ls → Items n (deposit d ∷ ls)
close_section n d ls h f = record {
  items = [];
  settled = d;
  sections = f.sections;
  close = f.close;
  rest = f.rest;
  lies = ap (λ l. deposit d ∷ l) f.lies;
  some = omega (arith, ltb-true 0 n h);
  paid = f.paid;
}

more_part : (st : Stage) (n : ℕ) (p : Part) (ls : List Role) → may_follow (place.Within st) (part_kind p) ≡ true → Parts (stage_after p) n ls → Parts st n (part p ∷ ls)
more_part st n p ls f i = record {
  parts = p ∷ i.parts;
  ordered = (f, i.ordered);
  items = i.items;
  settled = i.settled;
  sections = i.sections;
  close = i.close;
  rest = i.rest;
  lies = ap (λ l. part p ∷ l) i.lies;
  some = i.some;
  paid = i.paid;
}

head_follows : (p : Place) (b : Bool) (t : Read Transfer) → may_follow p (kind_role (head b t)) ≡ true → may_follow p kind.Payment ≡ true
head_follows p true t h = h
head_follows p false t h = sym (in_pairs p).0 ∙ h

head_behind : (b : Bool) (t : Read Transfer) → place_after (kind_role (head b t)) ≡ place.Within stage.Head
head_behind true t = refl
head_behind false t = refl

not_outside : (p : Part) (q : Place) → may_follow q kind.NegativeReference ≡ may_follow q kind.ExtraReference → may_follow q (part_kind p) ≡ false → may_follow q (kind_role (part p)) ≡ true → ⊥
not_outside (extra true x) q e f h = false≢true (sym f ∙ h)
not_outside (extra false x) q e f h = false≢true (sym f ∙ sym e ∙ h)
not_outside (info t) q e f h = false≢true (sym f ∙ h)
not_outside (name t) q e f h = false≢true (sym f ∙ h)
not_outside (address1 t) q e f h = false≢true (sym f ∙ h)
not_outside (address2 t) q e f h = false≢true (sym f ∙ h)
not_outside (company m) q e f h = false≢true (sym f ∙ h)

head_outside : (b : Bool) (t : Read Transfer) (q : Place) → may_follow q kind.Payment ≡ false → may_follow q (kind_role (head b t)) ≡ true → ⊥
head_outside b t q f h = false≢true (sym f ∙ head_follows q b t h)

module _ (n : ℕ) (ls : List Role) where
  behind_head : (b : Bool) (t : Read Transfer) → Shape (place_after (kind_role (head b t))) (paying n (kind_role (head b t))) ls → Parts stage.Head (paying n (kind_role (head b t))) ls
  behind_head true t s = s
  behind_head false t s = s

  behind_part : (p : Part) → Shape (place_after (kind_role (part p))) (paying n (kind_role (part p))) ls → Parts (stage_after p) n ls
  behind_part (extra true x) s = s
  behind_part (extra false x) s = s
  behind_part (info t) s = s
  behind_part (name t) s = s
  behind_part (address1 t) s = s
  behind_part (address2 t) s = s
  behind_part (company m) s = s

  shaped : (p : Place) (l : Role) → may_follow p (kind_role l) ≡ true → paid_for n (kind_role l) ≡ true → Shape (place_after (kind_role l)) (paying n (kind_role l)) ls → Shape p n (l ∷ ls)
  shaped place.Fresh (start x) f g s = record { reading = record { start = x; sections = s.0.sections; end = s.0.close }; rest = s.0.rest; lies = ap (λ l. start x ∷ l) s.0.lies; some = s.1; paid = s.0.paid }
  shaped place.Fresh (opening x) f g s = absurd (false≢true f)
  shaped place.Fresh (head b x) f g s = absurd (head_outside b x place.Fresh refl f)
  shaped place.Fresh (part q) f g s = absurd (not_outside q place.Fresh refl (none-outside q).0 f)
  shaped place.Fresh (deposit x) f g s = absurd (false≢true f)
  shaped place.Fresh (end x) f g s = absurd (false≢true f)
  shaped place.Begun (start x) f g s = absurd (false≢true f)
  shaped place.Begun (opening x) f g s = open_section x ls s
  shaped place.Begun (head b x) f g s = absurd (head_outside b x place.Begun refl f)
  shaped place.Begun (part q) f g s = absurd (not_outside q place.Begun refl (none-outside q).1 f)
  shaped place.Begun (deposit x) f g s = absurd (false≢true f)
  shaped place.Begun (end x) f g s = absurd (false≢true f)
  shaped place.Opened (start x) f g s = absurd (false≢true f)
  shaped place.Opened (opening x) f g s = absurd (false≢true f)
  shaped place.Opened (head b x) f g s = open_item n b x ls (behind_head b x s)
  shaped place.Opened (part q) f g s = absurd (not_outside q place.Opened refl (none-outside q).2 f)
  shaped place.Opened (deposit x) f g s = absurd (false≢true f)
  shaped place.Opened (end x) f g s = absurd (false≢true f)
  shaped (place.Within st) (start x) f g s = absurd (false≢true (sym (none_within st).0 ∙ f))
  shaped (place.Within st) (opening x) f g s = absurd (false≢true (sym (none_within st).1 ∙ f))
  shaped (place.Within st) (head b x) f g s = parts_from st n (head b x ∷ ls) (closed_head st (head_follows (place.Within st) b x f)) (open_item n b x ls (behind_head b x s))
  shaped (place.Within st) (part q) f g s = more_part st n q ls (sym (kind_part st q) ∙ f) (behind_part q s)
  shaped (place.Within st) (deposit x) f g s = parts_from st n (deposit x ∷ ls) (closed-deposit st f) (close_section n x ls g s)
  shaped (place.Within st) (end x) f g s = absurd (false≢true (sym (none_within st).2 ∙ f))
  shaped place.Between (start x) f g s = absurd (false≢true f)
  shaped place.Between (opening x) f g s = (open_section x ls s).0
  shaped place.Between (head b x) f g s = absurd (head_outside b x place.Between refl f)
  shaped place.Between (part q) f g s = absurd (not_outside q place.Between refl (none-outside q).3 f)
  shaped place.Between (deposit x) f g s = absurd (false≢true f)
  shaped place.Between (end x) f g s = record { sections = []; close = x; rest = []; lies = ap (λ l. end x ∷ (l ++ [])) (sym s); paid = tt }
  shaped place.Done (start x) f g s = absurd (false≢true f)
  shaped place.Done (opening x) f g s = absurd (false≢true f)
  shaped place.Done (head b x) f g s = absurd (head_outside b x place.Done refl f)
  shaped place.Done (part q) f g s = absurd (not_outside q place.Done refl (none-outside q).4 f)
  shaped place.Done (deposit x) f g s = absurd (false≢true f)
  shaped place.Done (end x) f g s = absurd (false≢true f)

shape : (ls : List Role) (p : Place) (n : ℕ) → Goes p n (kinds_in ls) → Shape p n ls
shape [] p n g = last p n
shape (l ∷ ls) p n g = shaped n ls p l g.0 g.1 (shape ls (place_after (kind_role l)) (paying n (kind_role l)) g.2)

-- a record of each kind
abbrev some_role : Kind → Role
some_role kind.Start = start some_start
some_role kind.Opening = opening some_opening
some_role kind.Deposit = deposit some_deposit
some_role kind.Payment = head true some_transfer
some_role kind.Deduction = head false some_transfer
some_role kind.ExtraReference = part (extra true some_transfer)
some_role kind.NegativeReference = part (extra false some_transfer)
some_role kind.Information = part (info [])
some_role kind.Name = part (name [])
some_role kind.AddressOne = part (address1 [])
some_role kind.AddressTwo = part (address2 [])
some_role kind.CompanyNumber = part (company (with_no_text 0))
some_role kind.End = end some_end

its_kind : (k : Kind) → kind_role (some_role k) ≡ k
its_kind kind.Start = refl
its_kind kind.Opening = refl
its_kind kind.Deposit = refl
its_kind kind.Payment = refl
its_kind kind.Deduction = refl
its_kind kind.ExtraReference = refl
its_kind kind.NegativeReference = refl
its_kind kind.Information = refl
its_kind kind.Name = refl
its_kind kind.AddressOne = refl
its_kind kind.AddressTwo = refl
its_kind kind.CompanyNumber = refl
its_kind kind.End = refl

its_kinds : (ks : List Kind) → kinds_in (map some_role ks) ≡ ks
its_kinds [] = refl
its_kinds (k ∷ ks) = λ i. its_kind k i ∷ its_kinds ks i

kinds_append : (ls ms : List Role) → kinds_in (ls ++ ms) ≡ kinds_in ls ++ kinds_in ms
kinds_append [] ms = refl
kinds_append (l ∷ ls) ms = ap (λ ks. kind_role l ∷ ks) (kinds_append ls ms)

goes_begins : (ks : List Kind) → Goes place.Fresh 0 ks → Begins ks
goes_begins ks g =
    let w : Whole (map some_role ks) = shape (map some_role ks) place.Fresh 0 (subst (Goes place.Fresh 0) (sym (its_kinds ks)) g) in
    record {
      reading = w.reading;
      some_section = w.some;
      some_payment = w.paid;
      rest = kinds_in w.rest;
      written = kinds_roles w.reading ∙ ap kinds_in w.lies ∙ kinds_append (map some_role ks) w.rest ∙ ap (λ x. x ++ kinds_in w.rest) (its_kinds ks);
    }

-- THE TEST.

module _ (ks : List Kind) (p : Place) (n : ℕ) (w : Way ks p n) (k : Kind) where
  pub follows_begins : may_follow p k ≡ true → paid_for n k ≡ true → Begins (ks ++ k ∷ [])
  follows_begins f g = goes_begins (ks ++ k ∷ []) (way_goes ks p n (k ∷ []) w (f, g, tt))

  pub begins_follows : Begins (ks ++ k ∷ []) → (may_follow p k ≡ true) × (paid_for n k ≡ true)
  begins_follows b = let g = goes_way ks p n (k ∷ []) w (begins_goes (ks ++ k ∷ []) b) in (g.0, g.1)
