-- The parts of an item: what the machine passes over is what an item writes, and it passes where the item is right.
use Rattle.std.proofs.Common.{◌≡◌, ℕ, ◌+◌, ◌≤◌, Bool, true, List, [], ◌∷◌, ◌++◌, map, length, Some, None, Option, sym, refl, ap, ◌∙◌, subst, arith}
use Rattle.std.specs.List.{AllByRecursion}
use Rattle.std.proofs.lemmas.Bool.{eqb-true, eq-eqb, ltb-true, lt-ltb, and_parts, and_from}
use Rattle.record.specs.declared.kinds.Kind.{Kind}
use Rattle.record.specs.declared.kinds.Kind.TheVariants as kind
use Rattle.record.specs.declared.fields.Transfer.{Transfer}
use Rattle.manual.specs.declared.places.Stage.{Stage}
use Rattle.manual.specs.declared.places.Stage.TheVariants as stage
use Rattle.manual.specs.declared.places.Place.TheVariants as place
use Rattle.manual.specs.Judging.{Item as OpenItem, may_follow, headed}
use Rattle.manual.specs.Manual.{Read, Extra, Item, Agrees, ItemStands}
use Rattle.manual.proofs.Roles.{Part, extra, info, name, address1, address2, company, item-part}
use Rattle.manual.proofs.Trees.{extra_of, company_parts, address_parts, name_parts, written, Closed, Parts-run, Ordered, run_ordered}

-- READING. An item is read off its parts, the last part first.

-- what an item has behind its payment or deduction
pub record Rest : Type 0 where
  pub extras : List Extra
  pub information : List (List ℕ)
  pub name : Option (List ℕ)
  pub addresses : Option (List ℕ × List ℕ)
  pub company : Option (Read ℕ)

abbrev pub rest : List Extra → List (List ℕ) → Option (List ℕ) → Option (List ℕ × List ℕ) → Option (Read ℕ) → Rest
rest xs ts n a c = record { extras = xs; information = ts; name = n; addresses = a; company = c }

-- address 1 in front of what address 2 left
abbrev pub with_first : List ℕ → Option (List ℕ × List ℕ) → Option (List ℕ × List ℕ)
with_first t None = Some (t, [])
with_first t (Some both) = Some (t, both.1)

-- a part in front of those already read
abbrev pub put : Part → Rest → Rest
put (extra b x) r = rest (record { added = b; transfer = x } ∷ r.extras) r.information r.name r.addresses r.company
put (info t) r = rest r.extras (t ∷ r.information) r.name r.addresses r.company
put (name t) r = rest r.extras r.information (Some t) r.addresses r.company
put (address1 t) r = rest r.extras r.information r.name (with_first t r.addresses) r.company
put (address2 t) r = rest r.extras r.information r.name (Some ([], t)) r.company
put (company n) r = rest r.extras r.information r.name r.addresses (Some n)

abbrev pub read : List Part → Rest
read [] = rest [] [] None None None
read (p ∷ ps) = put p (read ps)

-- the item with this head
abbrev pub item_with : Bool → Read Transfer → Rest → Item
item_with b t r = record {
  payment = b;
  transfer = t;
  extras = r.extras;
  information = r.information;
  name = r.name;
  addresses = r.addresses;
  company = r.company;
}

abbrev pub item_of : Bool → Read Transfer → List Part → Item
item_of b t ps = item_with b t (read ps)

-- what an item writes reads as the item
read-tail : (n : Option (List ℕ)) (a : Option (List ℕ × List ℕ)) (c : Option (Read ℕ))
    → read (name_parts n (address_parts a (company_parts c))) ≡ rest [] [] n a c
read-tail None None None = refl
read-tail None None (Some m) = refl
read-tail None (Some both) None = refl
read-tail None (Some both) (Some m) = refl
read-tail (Some t) None None = refl
read-tail (Some t) None (Some m) = refl
read-tail (Some t) (Some both) None = refl
read-tail (Some t) (Some both) (Some m) = refl

pub read-written : (i : Item) → item_of i.payment i.transfer (written i) ≡ i
read-written i = ap (item_with i.payment i.transfer) (extras_in i.extras)
  where
    tail : List Part
    tail = name_parts i.name (address_parts i.addresses (company_parts i.company))

    infos_in : (ts : List (List ℕ)) → read (map info ts ++ tail) ≡ rest [] ts i.name i.addresses i.company
    infos_in [] = read-tail i.name i.addresses i.company
    infos_in (t ∷ ts) = ap (put (info t)) (infos_in ts)

    extras_in : (xs : List Extra) → read (map extra_of xs ++ (map info i.information ++ tail)) ≡ rest xs i.information i.name i.addresses i.company
    extras_in [] = infos_in i.information
    extras_in (x ∷ xs) = ap (put (extra_of x)) (extras_in xs)

-- WRITING. Parts that the machine passes over are what the item read off them writes.

-- what of a rest may stand behind a stage; the rest behind address 1 alone is never asked for
abbrev left : Stage → Rest → Rest
left stage.Head r = r
left stage.Information r = rest [] r.information r.name r.addresses r.company
left stage.Name r = rest [] [] None r.addresses r.company
left stage.HalfAddress r = r
left stage.Address r = rest [] [] None None r.company
left stage.CompanyNumber r = rest [] [] None None None

module _ (b : Bool) (t : Read Transfer) where
  abbrev parts : Rest → List Part
  parts r = written (item_with b t r)

  -- where the machine passes over the parts of a rest, that is all it has
  all_left : (st : Stage) (xs : List Extra) (ts : List (List ℕ)) (n : Option (List ℕ)) (a : Option (List ℕ × List ℕ)) (c : Option (Read ℕ))
      → Ordered st (parts (rest xs ts n a c)) → rest xs ts n a c ≡ left st (rest xs ts n a c)
  all_left stage.Head xs ts n a c h = refl
  all_left stage.Information [] ts n a c h = refl
  all_left stage.Information (x ∷ xs) ts n a c h = cc
  all_left stage.Name [] [] None a c h = refl
  all_left stage.Name [] [] (Some u) a c h = cc
  all_left stage.Name [] (u ∷ ts) n a c h = cc
  all_left stage.Name (x ∷ xs) ts n a c h = cc
  all_left stage.HalfAddress xs ts n a c h = refl
  all_left stage.Address [] [] None None c h = refl
  all_left stage.Address [] [] None (Some both) c h = cc
  all_left stage.Address [] [] (Some u) a c h = cc
  all_left stage.Address [] (u ∷ ts) n a c h = cc
  all_left stage.Address (x ∷ xs) ts n a c h = cc
  all_left stage.CompanyNumber [] [] None None None h = refl
  all_left stage.CompanyNumber [] [] None None (Some m) h = cc
  all_left stage.CompanyNumber [] [] None (Some both) c h = cc
  all_left stage.CompanyNumber [] [] (Some u) a c h = cc
  all_left stage.CompanyNumber [] (u ∷ ts) n a c h = cc
  all_left stage.CompanyNumber (x ∷ xs) ts n a c h = cc

  -- so parts that are put into it then stand first in what it writes
  first : (st : Stage) (into : Rest → Rest) (onto : List Part → List Part) → ((r : Rest) → parts (into (left st r)) ≡ onto (parts (left st r)))
      → (ps : List Part) → parts (read ps) ≡ ps → Ordered st ps → parts (into (read ps)) ≡ onto ps
  first st into onto same ps e h =
      let r : Rest = read ps in
      let q : r ≡ left st r = all_left st r.extras r.information r.name r.addresses r.company (subst (Ordered st) (sym e) h) in
      ap (λ (x : Rest). parts (into x)) q ∙ same r ∙ ap (λ (x : Rest). onto (parts x)) (sym q) ∙ ap onto e

  -- from any stage but behind address 1
  written_read : (ps : List Part) (st : Stage) → Closed st → Ordered st ps → parts (read ps) ≡ ps
  written_read [] st k h = refl
  written_read (extra d x ∷ ps) st k h = ap (λ l. extra d x ∷ l) (written_read ps _ tt h.1)
  written_read (info u ∷ ps) st k h = first _ (put (info u)) (λ l. info u ∷ l) (λ r. refl) ps (written_read ps _ tt h.1) h.1
  written_read (name u ∷ ps) st k h = first _ (put (name u)) (λ l. name u ∷ l) (λ r. refl) ps (written_read ps _ tt h.1) h.1
  written_read (address1 u ∷ []) st k h = absurd h.1
  written_read (address1 u ∷ extra d x ∷ ps) st k h = cc
  written_read (address1 u ∷ info v ∷ ps) st k h = cc
  written_read (address1 u ∷ name v ∷ ps) st k h = cc
  written_read (address1 u ∷ address1 v ∷ ps) st k h = cc
  written_read (address1 u ∷ address2 v ∷ ps) st k h =
      first _ (λ r. put (address1 u) (put (address2 v) r)) (λ l. address1 u ∷ address2 v ∷ l) (λ r. refl) ps (written_read ps _ tt h.1.1) h.1.1
  written_read (address1 u ∷ company m ∷ ps) st k h = cc
  written_read (address2 u ∷ ps) stage.Head k h = cc
  written_read (address2 u ∷ ps) stage.Information k h = cc
  written_read (address2 u ∷ ps) stage.Name k h = cc
  written_read (address2 u ∷ ps) stage.HalfAddress k h = absurd k
  written_read (address2 u ∷ ps) stage.Address k h = cc
  written_read (address2 u ∷ ps) stage.CompanyNumber k h = cc
  written_read (company m ∷ ps) st k h = first _ (put (company m)) (λ l. company m ∷ l) (λ r. refl) ps (written_read ps _ tt h.1) h.1

  pub written_ordered : (ps : List Part) → Ordered stage.Head ps → written (item_of b t ps) ≡ ps
  written_ordered ps h = written_read ps stage.Head tt h

  pub written-item : (ps : List Part) → Parts-run stage.Head (headed t.fields) ps → written (item_of b t ps) ≡ ps
  written-item ps h = written_ordered ps (run_ordered stage.Head (headed t.fields) ps h)

-- STANDING. The machine passes over what an item writes where the item is right, and nowhere else.

-- extra references leave the open item as it was
module _ (i : Item) where
  abbrev Runs : List Part → Type 0
  Runs ps = Parts-run stage.Head (headed i.transfer.fields) ps

  extras_stand : (xs : List Extra) (ps : List Part) → Runs (map extra_of xs ++ ps) → AllByRecursion (Agrees i) xs × Runs ps
  extras_stand [] ps h = (tt, h)
  extras_stand (x ∷ xs) ps h =
      let a = and_parts _ _ h.1.0 in
      let n = extras_stand xs ps h.2 in
      ((record { payer = eqb-true _ _ a.0; serial = eqb-true _ _ a.1 }, n.0), n.1)

  extras-run : (xs : List Extra) (ps : List Part) → AllByRecursion (Agrees i) xs → Runs ps → Runs (map extra_of xs ++ ps)
  extras-run [] ps s h = h
  extras-run (x ∷ xs) ps s h = (refl, (and_from _ _ (eq-eqb _ _ s.0.payer) (eq-eqb _ _ s.0.serial), tt), extras-run xs ps s.1 h)

-- a part of this kind comes in order
abbrev May : Stage → Kind → Type 0
May st k = may_follow (place.Within st) k ≡ true

-- information records are counted, up to 99
infos_stand : (ts : List (List ℕ)) (ps : List Part) (st : Stage) (o : OpenItem) → o.infos ≤ 99 → Parts-run st o (map info ts ++ ps) → o.infos + length ts ≤ 99
infos_stand [] ps st o f h = omega arith
infos_stand (u ∷ ts) ps st o f h =
    let low = ltb-true o.infos 99 h.1.0 in
    let n = infos_stand ts ps stage.Information (item-part o (info u)) (omega arith) h.2 in
    omega arith

infos-run : (ts : List (List ℕ)) (ps : List Part) (st : Stage) (o : OpenItem) → May st kind.Information → Parts-run st o ps
    → ((p : OpenItem) → Parts-run stage.Information p ps) → o.infos + length ts ≤ 99 → Parts-run st o (map info ts ++ ps)
infos-run [] ps st o f h go few = h
infos-run (u ∷ ts) ps st o f h go few =
    (f, (lt-ltb o.infos 99 (omega arith), tt), infos-run ts ps stage.Information (item-part o (info u)) refl (go _) go (omega arith))

-- of the other parts nothing is asked but their order
company_runs : (st : Stage) (o : OpenItem) (c : Option (Read ℕ)) → Closed st → May st kind.CompanyNumber → Parts-run st o (company_parts c)
company_runs st o None k f = k
company_runs st o (Some m) k f = (f, tt, tt)

addresses-run : (st : Stage) (o : OpenItem) (a : Option (List ℕ × List ℕ)) (c : Option (Read ℕ)) → Closed st
    → May st kind.AddressOne → May st kind.CompanyNumber → Parts-run st o (address_parts a (company_parts c))
addresses-run st o None c k f g = company_runs st o c k g
addresses-run st o (Some both) c k f g = (f, tt, (refl, tt, company_runs stage.Address _ c tt refl))

name_runs : (st : Stage) (o : OpenItem) (n : Option (List ℕ)) (a : Option (List ℕ × List ℕ)) (c : Option (Read ℕ)) → Closed st
    → May st kind.Name → May st kind.AddressOne → May st kind.CompanyNumber → Parts-run st o (name_parts n (address_parts a (company_parts c)))
name_runs st o None a c k e f g = addresses-run st o a c k f g
name_runs st o (Some u) a c k e f g = (e, tt, addresses-run stage.Name _ a c tt refl refl)

-- all of them together
pub item_stands : (i : Item) → Parts-run stage.Head (headed i.transfer.fields) (written i) → ItemStands i
item_stands i h =
    let n = extras_stand i i.extras _ h in
    let few = infos_stand i.information _ stage.Head (headed i.transfer.fields) (omega arith) n.1 in
    record { agreeing = n.0; at_most_99 = omega arith }

pub item_runs : (i : Item) → ItemStands i → Parts-run stage.Head (headed i.transfer.fields) (written i)
item_runs i s =
    let later : (o : OpenItem) → Parts-run stage.Information o _ = λ o. name_runs stage.Information o i.name i.addresses i.company tt refl refl refl in
    let h = name_runs stage.Head (headed i.transfer.fields) i.name i.addresses i.company tt refl refl refl in
    extras-run i i.extras _ s.agreeing (infos-run i.information _ stage.Head _ refl h later (omega (arith, s.at_most_99)))
