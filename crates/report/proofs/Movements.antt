-- What records with a tree enter is what its sections come to.
use Rattle.std.proofs.Common.{◌≡◌, ℕ, suc, ◌≤◌, Bool, true, false, cond, List, [], ◌∷◌, ◌++◌, map, length, Some, None, Ok, Err, Option, Result, sym, refl, ap, ◌∙◌, arith, append_assoc}
use Rattle.std.specs.List.{between, AllByRecursion}
use Rattle.field.specs.Chains.{then, and_then}
use Rattle.record.specs.declared.kinds.Kind.{Kind}
use Rattle.record.specs.declared.fields.Core.{Core}
use Rattle.record.specs.declared.fields.Core.TheVariants as core
use Rattle.record.specs.declared.fields.End.{End}
use Rattle.record.specs.declared.fields.Field.{Field}
use Rattle.record.specs.declared.classes.Class.{Class}
use Rattle.record.specs.declared.classes.Class.TheVariants as class
use Rattle.record.specs.Kinds.{kind_of}
use Rattle.record.specs.Layouts.{read_core}
use Rattle.record.specs.Reserve.{used}
use Rattle.record.specs.Classes.{class_of}
use Rattle.record.specs.Editions.{bare}
use Rattle.record.specs.Laws.{kind_at}
use Rattle.sums.specs.declared.Row.{Row}
use Rattle.sums.specs.Laws.{Within}
use Rattle.manual.specs.Manual.{Read, Extra, Item, Section, Tree, leaf, extra_leaf, name_then, addresses_then, company_then, items_then, sections_then, leaves, paid, deducted, read_by, core_then, cores}
use Rattle.manual.proofs.Roles.{role_of}
use Rattle.manual.proofs.Bounds.{Modest, read_modest}
use Rattle.manual.proofs.Classes as classes
use Rattle.manual.proofs.Classes.{Seen, seen}
use Rattle.report.specs.declared.pairs.Pair.{Pair}
use Rattle.report.specs.Balances.{sum_row, move_core, pair_core, move_read, move_class, pair_class, move_then, moves_from}
use Rattle.report.specs.Sections.{its_pair}

none_some : {A : Type 0} {x : A} → ◌≡◌ {A = Option A} None (Some x) → ⊥
none_some h = let z : ◌≡◌ {A = ℕ} 0 1 = cc in omega arith

-- Along the core records that are read.

abbrev leaf_moves : Pair → List (Read Core) → List (Row Pair)
leaf_moves p [] = []
leaf_moves p (l ∷ ls) = move_then (move_core p l.fields) (leaf_moves (pair_core p l.fields) ls)

pub then_ok : {A B E : Type 0} (o : Result A E) (go : A → Result B E) (y : B) → then o go ≡ Ok y → (x : A) × (o ≡ Ok x) × (go x ≡ Ok y)
then_ok (Ok x) go y h = (x, refl, h)
then_ok (Err e) go y h = let z : ◌≡◌ {A = ℕ} 0 1 = cc in absurd (omega arith)

module _ (r : List ℕ) (rs : List (List ℕ)) (p : Pair) where
  -- a record that is none of the core
  passed_by : (ls : List (Read Core)) → kind_at r ≡ None → cores (r ∷ rs) ≡ map Ok ls → cores rs ≡ map Ok ls
  passed_by ls g h = sym (ap (λ y. core_then y r (cores rs)) g) ∙ h

  core_read : (k : Kind) (ls : List (Read Core)) → ((q : Pair) (ys : List (Read Core)) → cores rs ≡ map Ok ys → moves_from q rs ≡ leaf_moves q ys) → read_by k r ∷ cores rs ≡ map Ok ls
      → move_then (move_read p (read_core k (between 2 (length r) r))) (moves_from (pair_class p (class.Core k (read_core k (between 2 (length r) r)))) rs) ≡ leaf_moves p ls
  core_read k [] go h = let z : ◌≡◌ {A = ℕ} 0 1 = cc in absurd (omega arith)
  core_read k (l ∷ ls) go h =
      let first : read_by k r ≡ Ok l = cc in
      let rest : cores rs ≡ map Ok ls = cc in
      let by = then_ok (read_core k (between 2 (length r) r)) (λ c. Ok (leaf c (between 2 (used k) r))) l first in
      let q = by.2 in
      let same_leaf : leaf by.0 (between 2 (used k) r) ≡ l = cc in
      let same : by.0 ≡ l.fields = ap (λ (x : Read Core). x.fields) same_leaf in
      (λ i. move_then (move_read p (by.1 i)) (moves_from (pair_class p (class.Core k (by.1 i))) rs))
      ∙ ap (λ c. move_then (move_core p c) (moves_from (pair_core p c) rs)) same
      ∙ ap (λ t. move_then (move_core p l.fields) t) (go (pair_core p l.fields) ls rest)

  by_class : (l : Class) → Seen bare r l → (ls : List (Read Core)) → ((q : Pair) (ys : List (Read Core)) → cores rs ≡ map Ok ys → moves_from q rs ≡ leaf_moves q ys) → cores (r ∷ rs) ≡ map Ok ls
      → move_then (move_class p l) (moves_from (pair_class p l) rs) ≡ leaf_moves p ls
  by_class _ (classes.bad e) ls go h = go p ls (passed_by ls (ap (λ o. and_then o kind_of) e) h)
  by_class _ (classes.core c k e g u) ls go h = core_read k ls go (sym (ap (λ y. core_then y r (cores rs)) g) ∙ h)
  by_class _ (classes.rider c v e g l) ls go h = absurd (none_some l)
  by_class _ (classes.unknown c e g u) ls go h = go p ls (passed_by ls g h)

along : (rs : List (List ℕ)) (p : Pair) (ls : List (Read Core)) → cores rs ≡ map Ok ls → moves_from p rs ≡ leaf_moves p ls
along [] p [] h = refl
along [] p (l ∷ ls) h = let z : ◌≡◌ {A = ℕ} 0 1 = cc in absurd (omega arith)
along (r ∷ rs) p ls h = by_class r rs p (class_of bare r) (seen bare r) ls (along rs) h

-- Along the tree.

-- what an item enters, and a section
abbrev pub item_move : Pair → Item → Row Pair
item_move p i = sum_row p (paid i) (deducted i)

abbrev pub section_moves : Section → List (Row Pair)
section_moves s = sum_row (its_pair s) 0 0 ∷ map (item_move (its_pair s)) s.items

abbrev pub sections_moves : List Section → List (Row Pair)
sections_moves [] = []
sections_moves (s ∷ ss) = section_moves s ++ sections_moves ss

-- parts of an item that enter nothing
extras_pass : (p : Pair) (xs : List Extra) (rest : List (Read Core)) → leaf_moves p (map extra_leaf xs ++ rest) ≡ leaf_moves p rest
extras_pass p [] rest = refl
extras_pass p (x ∷ xs) rest = one x.added ∙ extras_pass p xs rest
  where
    one : (b : Bool) → move_then (move_core p (cond b (core.ExtraReference x.transfer.fields) (core.NegativeReference x.transfer.fields))) (leaf_moves (pair_core p (cond b (core.ExtraReference x.transfer.fields) (core.NegativeReference x.transfer.fields))) (map extra_leaf xs ++ rest))
        ≡ leaf_moves p (map extra_leaf xs ++ rest)
    one true = refl
    one false = refl

infos_pass : (p : Pair) (xs : List (List ℕ)) (rest : List (Read Core)) → leaf_moves p (map (leaf core.Information) xs ++ rest) ≡ leaf_moves p rest
infos_pass p [] rest = refl
infos_pass p (x ∷ xs) rest = infos_pass p xs rest

name_passes : (p : Pair) (o : Option (List ℕ)) (rest : List (Read Core)) → leaf_moves p (name_then o rest) ≡ leaf_moves p rest
name_passes p None rest = refl
name_passes p (Some x) rest = refl

addresses_pass : (p : Pair) (o : Option (List ℕ × List ℕ)) (rest : List (Read Core)) → leaf_moves p (addresses_then o rest) ≡ leaf_moves p rest
addresses_pass p None rest = refl
addresses_pass p (Some x) rest = refl

company_passes : (p : Pair) (o : Option (Read ℕ)) (rest : List (Read Core)) → leaf_moves p (company_then o rest) ≡ leaf_moves p rest
company_passes p None rest = refl
company_passes p (Some x) rest = refl

items : (p : Pair) (is : List Item) (rest : List (Read Core)) → leaf_moves p (items_then is rest) ≡ map (item_move p) is ++ leaf_moves p rest
items p [] rest = refl
items p (i ∷ is) rest =
    head i.payment
    ∙ ap (λ t. item_move p i ∷ t) (extras_pass p i.extras _ ∙ infos_pass p i.information _ ∙ name_passes p i.name _ ∙ addresses_pass p i.addresses _ ∙ company_passes p i.company _ ∙ items p is rest)
  where
    others : List (Read Core)
    others = map extra_leaf i.extras ++ (map (leaf core.Information) i.information ++ name_then i.name (addresses_then i.addresses (company_then i.company (items_then is rest))))

    head : (b : Bool) → move_then (move_core p (cond b (core.Payment i.transfer.fields) (core.Deduction i.transfer.fields))) (leaf_moves (pair_core p (cond b (core.Payment i.transfer.fields) (core.Deduction i.transfer.fields))) others)
        ≡ sum_row p (cond b i.transfer.fields.amount 0) (cond b 0 i.transfer.fields.amount) ∷ leaf_moves p others
    head true = refl
    head false = refl

sections : (p : Pair) (ss : List Section) (e : Read End) → leaf_moves p (sections_then ss (leaf (core.End e.fields) e.text ∷ [])) ≡ sections_moves ss
sections p [] e = refl
sections p (s ∷ ss) e =
    let q = its_pair s in
    ap (λ t. sum_row q 0 0 ∷ t) (items q s.items (leaf (core.Deposit s.deposit.fields) s.deposit.text ∷ sections_then ss (leaf (core.End e.fields) e.text ∷ []))
    ∙ ap (λ t. map (item_move q) s.items ++ t) (sections q ss e))

-- Records with a tree, as those of a file that follows the manual.

-- records whose core records are those of a tree
pub tree_moves : (rs : List (List ℕ)) (t : Tree) → cores rs ≡ map Ok (leaves t) → (p : Pair) → moves_from p rs ≡ sections_moves t.sections
tree_moves rs t h p = along rs p (leaves t) h ∙ sections p t.sections t.end

-- the pair behind records, and what two runs of records enter
abbrev pub pair_behind : Pair → List (List ℕ) → Pair
pair_behind p [] = p
pair_behind p (r ∷ rs) = pair_behind (pair_class p (class_of bare r)) rs

then-append : (o : Option (Row Pair)) (xs ys : List (Row Pair)) → move_then o (xs ++ ys) ≡ move_then o xs ++ ys
then-append None xs ys = refl
then-append (Some e) xs ys = refl

pub moves-append : (p : Pair) (rs qs : List (List ℕ)) → moves_from p (rs ++ qs) ≡ moves_from p rs ++ moves_from (pair_behind p rs) qs
moves-append p [] qs = refl
moves-append p (r ∷ rs) qs =
    let l = class_of bare r in
    ap (move_then (move_class p l)) (moves-append (pair_class p l) rs qs)
    ∙ then-append (move_class p l) (moves_from (pair_class p l) rs) (moves_from (pair_behind (pair_class p l) rs) qs)

pub sections_append : (ss ts : List Section) → sections_moves (ss ++ ts) ≡ sections_moves ss ++ sections_moves ts
sections_append [] ts = refl
sections_append (s ∷ ss) ts = ap (λ l. section_moves s ++ l) (sections_append ss ts) ∙ sym (append_assoc (section_moves s) (sections_moves ss) (sections_moves ts))

-- What is entered is little: at most one entry a record, and at most the largest amount each.

abbrev pub Small : List (Row Pair) → Type 0
Small es = AllByRecursion (Within 9999999999999) es

-- a record enters little
abbrev Little : Option (Row Pair) → Type 0
Little None = Unit {0}
Little (Some e) = Within 9999999999999 e

little_core : (p : Pair) (c : Core) (t : List ℕ) → Modest (role_of c t) → Little (move_core p c)
little_core p (core.Start x) t h = tt
little_core p (core.Opening x) t h = (omega arith, omega arith)
little_core p (core.Deposit x) t h = tt
little_core p (core.Payment x) t h = (h, omega arith)
little_core p (core.Deduction x) t h = (omega arith, h)
little_core p (core.ExtraReference x) t h = tt
little_core p (core.NegativeReference x) t h = tt
little_core p core.Information t h = tt
little_core p core.Name t h = tt
little_core p core.AddressOne t h = tt
little_core p core.AddressTwo t h = tt
little_core p (core.CompanyNumber n) t h = tt
little_core p (core.End x) t h = tt

little_read : (p : Pair) (k : Kind) (rest : List ℕ) (o : Result Core Field) → read_core k rest ≡ o → Little (move_read p o)
little_read p k rest (Ok c) e = little_core p c [] (read_modest k rest c [] e)
little_read p k rest (Err f) e = tt

little_class : (p : Pair) (r : List ℕ) (l : Class) → Seen bare r l → Little (move_class p l)
little_class p r _ (classes.bad e) = tt
little_class p r _ (classes.core c k e g u) = little_read p k (between 2 (length r) r) _ refl
little_class p r _ (classes.rider c v e g l) = tt
little_class p r _ (classes.unknown c e g u) = tt

then_few : (o : Option (Row Pair)) (es : List (Row Pair)) (n : ℕ) → length es ≤ n → length (move_then o es) ≤ suc n
then_few None es n h = omega (arith, h)
then_few (Some e) es n h = omega (arith, h)

then_small : (o : Option (Row Pair)) (es : List (Row Pair)) → Little o → Small es → Small (move_then o es)
then_small None es l h = h
then_small (Some e) es l h = (l, h)

pub moves_few : (p : Pair) (rs : List (List ℕ)) → length (moves_from p rs) ≤ length rs
moves_few p [] = omega arith
moves_few p (r ∷ rs) = let l = class_of bare r in then_few (move_class p l) (moves_from (pair_class p l) rs) (length rs) (moves_few (pair_class p l) rs)

pub moves_small : (p : Pair) (rs : List (List ℕ)) → Small (moves_from p rs)
moves_small p [] = tt
moves_small p (r ∷ rs) =
    let l = class_of bare r in
    then_small (move_class p l) (moves_from (pair_class p l) rs) (little_class p r l (seen bare r)) (moves_small (pair_class p l) rs)
