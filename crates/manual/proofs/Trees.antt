-- A reading's records by their roles, in order, and the machine over the parts of one item.
use Rattle.std.proofs.Common.{◌≡◌, ℕ, true, List, [], ◌∷◌, ◌++◌, map, Some, None, Option}
use Rattle.manual.specs.declared.places.Stage.{Stage}
use Rattle.manual.specs.declared.places.Stage.TheVariants as stage
use Rattle.manual.specs.declared.places.Place.TheVariants as place
use Rattle.manual.specs.Judging.{Item as OpenItem, may_follow}
use Rattle.manual.specs.Manual.{Read, Extra, Item, Section, Tree}
use Rattle.manual.proofs.Roles.{Part, extra, info, name, address1, address2, company, Role, start, opening, head, part, deposit, end, part_kind, stage_after, part-tests, item-part}
use Rattle.manual.proofs.Steps.{Passes}

abbrev pub extra_of : Extra → Part
extra_of x = extra x.added x.transfer

abbrev pub company_parts : Option (Read ℕ) → List Part
company_parts None = []
company_parts (Some n) = company n ∷ []

abbrev pub address_parts : Option (List ℕ × List ℕ) → List Part → List Part
address_parts None rest = rest
address_parts (Some both) rest = address1 both.0 ∷ address2 both.1 ∷ rest

abbrev pub name_parts : Option (List ℕ) → List Part → List Part
name_parts None rest = rest
name_parts (Some t) rest = name t ∷ rest

-- the parts of an item
abbrev pub written : Item → List Part
written i = map extra_of i.extras ++ (map info i.information ++ name_parts i.name (address_parts i.addresses (company_parts i.company)))

abbrev pub parts_then : List Part → List Role → List Role
parts_then [] rest = rest
parts_then (p ∷ ps) rest = part p ∷ parts_then ps rest

abbrev pub items_roles : List Item → List Role → List Role
items_roles [] rest = rest
items_roles (i ∷ is) rest = head i.payment i.transfer ∷ parts_then (written i) (items_roles is rest)

abbrev pub sections_roles : List Section → List Role → List Role
sections_roles [] rest = rest
sections_roles (s ∷ ss) rest = opening s.opening ∷ items_roles s.items (deposit s.deposit ∷ sections_roles ss rest)

abbrev pub roles : Tree → List Role
roles r = start r.start ∷ sections_roles r.sections (end r.end ∷ [])

-- an item may end at any stage but behind address 1
abbrev pub Closed : Stage → Type 0
Closed stage.Head = Unit {0}
Closed stage.Information = Unit {0}
Closed stage.Name = Unit {0}
Closed stage.HalfAddress = ⊥
Closed stage.Address = Unit {0}
Closed stage.CompanyNumber = Unit {0}

-- the machine passes over the parts of an item
abbrev pub Parts-run : Stage → OpenItem → List Part → Type 0
Parts-run st i [] = Closed st
Parts-run st i (p ∷ ps) = (may_follow (place.Within st) (part_kind p) ≡ true) × Passes (part-tests i p) × Parts-run (stage_after p) (item-part i p) ps

-- they come in order, whatever their contents
abbrev pub Ordered : Stage → List Part → Type 0
Ordered st [] = Closed st
Ordered st (p ∷ ps) = (may_follow (place.Within st) (part_kind p) ≡ true) × Ordered (stage_after p) ps

pub run_ordered : (st : Stage) (i : OpenItem) (ps : List Part) → Parts-run st i ps → Ordered st ps
run_ordered st i [] h = h
run_ordered st i (p ∷ ps) h = (h.0, run_ordered (stage_after p) (item-part i p) ps h.2)
