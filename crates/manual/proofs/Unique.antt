-- A list of core records is of one reading, and the counts over its roles are the counts over its tree.
use Rattle.std.proofs.Common.{◌≡◌, ℕ, ◌+◌, ◌*◌, true, false, List, [], ◌∷◌, ◌++◌, map, length, Some, None, Option, sym, refl, ap, ◌∙◌, subst, arith}
use Rattle.record.specs.declared.fields.Deposit.{Deposit}
use Rattle.record.specs.declared.fields.End.{End}
use Rattle.record.specs.declared.fields.Core.{Core}
use Rattle.record.specs.declared.fields.Core.TheVariants as core
use Rattle.manual.specs.Manual.{Read, Item, Section, Tree, leaf, name_then, addresses_then, company_then, items_then, sections_then, leaves, total, one_payment, one_deduction}
use Rattle.manual.proofs.Roles.{Part, extra, info, name, address1, address2, company, Role, start, opening, head, part, deposit, end, role_of, role, leaf_of_part, leaf_of, is-payment, is_deduction, extra_part, is_extra, is-deposit}
use Rattle.manual.proofs.Trees.{company_parts, address_parts, name_parts, written, parts_then, items_roles, sections_roles, roles}
use Rattle.manual.proofs.Parts.{read, item_of, read-written}

-- ROLES AND LEAVES. A core record has one role, and a role is of one core record.

pub role_leaf : (l : Role) → role (leaf_of l) ≡ l
role_leaf (start x) = refl
role_leaf (opening x) = refl
role_leaf (head true x) = refl
role_leaf (head false x) = refl
role_leaf (part (extra true x)) = refl
role_leaf (part (extra false x)) = refl
role_leaf (part (info t)) = refl
role_leaf (part (name t)) = refl
role_leaf (part (address1 t)) = refl
role_leaf (part (address2 t)) = refl
role_leaf (part (company n)) = refl
role_leaf (deposit x) = refl
role_leaf (end x) = refl

pub leaf_role : (l : Read Core) → leaf_of (role l) ≡ l
leaf_role l = at l.fields l.text
  where
    at : (c : Core) (t : List ℕ) → leaf_of (role_of c t) ≡ leaf c t
    at (core.Start x) t = refl
    at (core.Opening x) t = refl
    at (core.Deposit x) t = refl
    at (core.Payment x) t = refl
    at (core.Deduction x) t = refl
    at (core.ExtraReference x) t = refl
    at (core.NegativeReference x) t = refl
    at core.Information t = refl
    at core.Name t = refl
    at core.AddressOne t = refl
    at core.AddressTwo t = refl
    at (core.CompanyNumber n) t = refl
    at (core.End x) t = refl

-- the leaves of a tree are those of its roles
leaves_run : {A : Type 0} (f : A → Part) (xs : List A) (ps : List Part) (ls : List Role)
    → map leaf_of (parts_then (map f xs ++ ps) ls) ≡ map (λ x. leaf_of_part (f x)) xs ++ map leaf_of (parts_then ps ls)
leaves_run f [] ps ls = refl
leaves_run f (x ∷ xs) ps ls = ap (λ l. leaf_of_part (f x) ∷ l) (leaves_run f xs ps ls)

leaves-tail : (n : Option (List ℕ)) (a : Option (List ℕ × List ℕ)) (c : Option (Read ℕ)) (ls : List Role)
    → map leaf_of (parts_then (name_parts n (address_parts a (company_parts c))) ls) ≡ name_then n (addresses_then a (company_then c (map leaf_of ls)))
leaves-tail None None None ls = refl
leaves-tail None None (Some m) ls = refl
leaves-tail None (Some both) None ls = refl
leaves-tail None (Some both) (Some m) ls = refl
leaves-tail (Some t) None None ls = refl
leaves-tail (Some t) None (Some m) ls = refl
leaves-tail (Some t) (Some both) None ls = refl
leaves-tail (Some t) (Some both) (Some m) ls = refl

leaves-items : (is : List Item) (ls : List Role) → map leaf_of (items_roles is ls) ≡ items_then is (map leaf_of ls)
leaves-items [] ls = refl
leaves-items (i ∷ is) ls = simp (leaves_run, leaves-tail, leaves-items is ls)

leaves-sections : (ss : List Section) (ls : List Role) → map leaf_of (sections_roles ss ls) ≡ sections_then ss (map leaf_of ls)
leaves-sections [] ls = refl
leaves-sections (s ∷ ss) ls = simp (leaves-items, leaves-sections ss ls)

pub leaves_roles : (r : Tree) → leaves r ≡ map leaf_of (roles r)
leaves_roles r = ap (λ l. leaf_of (start r.start) ∷ l) (sym (leaves-sections r.sections (end r.end ∷ [])))

-- ONE READING. Roles in order are of one tree.

-- a list that begins with no part, as what follows the parts of an item
abbrev Ends : List Role → Type 0
Ends [] = Unit {0}
Ends (start x ∷ ls) = Unit {0}
Ends (opening x ∷ ls) = Unit {0}
Ends (head b x ∷ ls) = Unit {0}
Ends (part p ∷ ls) = ⊥
Ends (deposit x ∷ ls) = Unit {0}
Ends (end x ∷ ls) = Unit {0}

same_parts : (ps qs : List Part) (k m : List Role) → Ends k → Ends m → parts_then ps k ≡ parts_then qs m → (ps ≡ qs) × (k ≡ m)
same_parts [] [] k m hk hm e = (refl, e)
same_parts [] (q ∷ qs) k m hk hm e = absurd (subst Ends e hk)
same_parts (p ∷ ps) [] k m hk hm e = absurd (subst Ends (sym e) hm)
same_parts (p ∷ ps) (q ∷ qs) k m hk hm e =
    let f : p ≡ q = cc in
    let g = same_parts ps qs k m hk hm (cc) in
    ((λ x. f x ∷ g.0 x), g.1)

ends_items : (is : List Item) (d : Read Deposit) (k : List Role) → Ends (items_roles is (deposit d ∷ k))
ends_items [] d k = tt
ends_items (i ∷ is) d k = tt

-- two lists of items, and of sections, with the same roles
same-items : (is js : List Item) (d f : Read Deposit) (k m : List Role)
    → items_roles is (deposit d ∷ k) ≡ items_roles js (deposit f ∷ m) → (is ≡ js) × (d ≡ f) × (k ≡ m)
same-items [] [] d f k m e = (refl, (cc), (cc))
same-items [] (j ∷ js) d f k m e = ((cc), (cc), (cc))
same-items (i ∷ is) [] d f k m e = ((cc), (cc), (cc))
same-items (i ∷ is) (j ∷ js) d f k m e =
    let a : i.payment ≡ j.payment = cc in
    let b : i.transfer ≡ j.transfer = cc in
    let u = same_parts (written i) (written j) _ _ (ends_items is d k) (ends_items js f m) (cc) in
    let v = same-items is js d f k m u.1 in
    let w : i ≡ j = sym (read-written i) ∙ (λ x. item_of (a x) (b x) (u.0 x)) ∙ read-written j in
    ((λ x. w x ∷ v.0 x), v.1, v.2)

same-sections : (ss ts : List Section) (e f : Read End) → sections_roles ss (end e ∷ []) ≡ sections_roles ts (end f ∷ []) → (ss ≡ ts) × (e ≡ f)
same-sections [] [] e f q = (refl, (cc))
same-sections [] (t ∷ ts) e f q = ((cc), (cc))
same-sections (s ∷ ss) [] e f q = ((cc), (cc))
same-sections (s ∷ ss) (t ∷ ts) e f q =
    let o : s.opening ≡ t.opening = cc in
    let u = same-items s.items t.items s.deposit t.deposit _ _ (cc) in
    let v = same-sections ss ts e f u.2 in
    ((λ x. record { opening = o x; items = u.0 x; deposit = u.1 x } ∷ v.0 x), v.1)

-- so a reading is known by its roles, and by its leaves
pub same_roles : (r q : Tree) → roles r ≡ roles q → r ≡ q
same_roles r q e =
    let a : r.start ≡ q.start = cc in
    let u = same-sections r.sections q.sections r.end q.end (cc) in
    λ x. record { start = a x; sections = u.0 x; end = u.1 x }

pub same-leaves : (r q : Tree) → leaves r ≡ leaves q → r ≡ q
same-leaves r q e = same_roles r q (sym (back (roles r)) ∙ ap (map role) (sym (leaves_roles r) ∙ e ∙ leaves_roles q) ∙ back (roles q))
  where
    back : (ls : List Role) → map role (map leaf_of ls) ≡ ls
    back [] = refl
    back (l ∷ ls) = λ x. role_leaf l x ∷ back ls x

-- COUNTS. Counting records by their roles counts what stands in the tree.

-- for any count: what it comes to over an item, over a section and over the file
tally_parts : (f : Role → ℕ) (ps : List Part) (ls : List Role) → total f (parts_then ps ls) ≡ total (λ p. f (part p)) ps + total f ls
tally_parts f [] ls = omega arith
tally_parts f (p ∷ ps) ls = omega (arith, tally_parts f ps ls)

module _ (f : Role → ℕ) (in_Item : Item → ℕ)
    (each_item : (i : Item) → f (head i.payment i.transfer) + total (λ p. f (part p)) (written i) ≡ in_Item i) where
  tally_items : (is : List Item) (ls : List Role) → total f (items_roles is ls) ≡ total in_Item is + total f ls
  tally_items [] ls = omega arith
  tally_items (i ∷ is) ls = omega (arith, tally_parts f (written i) (items_roles is ls), each_item i, tally_items is ls)

  pub tally : (in-section : Section → ℕ) → ((s : Section) → f (opening s.opening) + total in_Item s.items + f (deposit s.deposit) ≡ in-section s)
      → (e : Read End) → f (end e) ≡ 0 → (ss : List Section) → total f (sections_roles ss (end e ∷ [])) ≡ total in-section ss
  tally in-section each e z [] = omega arith
  tally in-section each e z (s ∷ ss) =
      omega (arith, tally_items s.items (deposit s.deposit ∷ sections_roles ss (end e ∷ [])), each s, tally in-section each e z ss)

-- elements that count alike
pub all_alike : {A : Type 0} (d : ℕ) (xs : List A) → total (λ x. d) xs ≡ length xs * d
all_alike d [] = omega arith
all_alike d (x ∷ xs) = omega (arith, all_alike d xs)

-- the parts of an item have its extra references
extras-read : (ps : List Part) → total extra_part ps ≡ length (read ps).extras
extras-read [] = refl
extras-read (extra b x ∷ ps) = omega (arith, extras-read ps)
extras-read (info t ∷ ps) = omega (arith, extras-read ps)
extras-read (name t ∷ ps) = omega (arith, extras-read ps)
extras-read (address1 t ∷ ps) = omega (arith, extras-read ps)
extras-read (address2 t ∷ ps) = omega (arith, extras-read ps)
extras-read (company n ∷ ps) = omega (arith, extras-read ps)

-- the four counts of the end record
pub tally_payments : (ss : List Section) (e : Read End)
    → total is-payment (sections_roles ss (end e ∷ [])) ≡ total (λ (s : Section). total one_payment s.items) ss
tally_payments ss e = tally is-payment one_payment (λ i. omega (arith, all_alike 0 (written i))) _ (λ s. omega arith) e refl ss

pub tally_deductions : (ss : List Section) (e : Read End)
    → total is_deduction (sections_roles ss (end e ∷ [])) ≡ total (λ (s : Section). total one_deduction s.items) ss
tally_deductions ss e = tally is_deduction one_deduction (λ i. omega (arith, all_alike 0 (written i))) _ (λ s. omega arith) e refl ss

pub tally_extras : (ss : List Section) (e : Read End)
    → total is_extra (sections_roles ss (end e ∷ [])) ≡ total (λ (s : Section). total (λ (i : Item). length i.extras) s.items) ss
tally_extras ss e = tally is_extra (λ (i : Item). length i.extras) each _ (λ s. omega arith) e refl ss
  where
    each : (i : Item) → 0 + total extra_part (written i) ≡ length i.extras
    each i = omega (arith, extras-read (written i), ap (λ (j : Item). length j.extras) (read-written i))

pub tally_deposits : (ss : List Section) (e : Read End) → total is-deposit (sections_roles ss (end e ∷ [])) ≡ length ss
tally_deposits ss e =
    tally is-deposit (λ i. 0) (λ i. omega (arith, all_alike 0 (written i))) (λ s. 1) (λ s. omega (arith, all_alike 0 s.items)) e refl ss
    ∙ omega (arith, all_alike 1 ss)
