-- The machine passes over core records exactly where they are those of a reading, in order.
use Rattle.std.proofs.Common.{◌≡◌, ◌+◌, ◌<◌, Bool, true, false, ◌&&◌, eqb, ltb, List, [], ◌∷◌, length, sym, refl, ap, ◌∙◌, subst, arith}
use Rattle.std.specs.List.{AllByRecursion}
use Rattle.std.proofs.lemmas.Bool.{false≢true, eqb-true, eq-eqb, and_parts, and_from}
use Rattle.record.specs.declared.kinds.Kind.TheVariants as kind
use Rattle.record.specs.declared.fields.Opening.{Opening}
use Rattle.record.specs.declared.fields.Transfer.{Transfer}
use Rattle.record.specs.declared.fields.Deposit.{Deposit}
use Rattle.record.specs.declared.fields.End.{End}
use Rattle.manual.specs.declared.places.Stage.{Stage}
use Rattle.manual.specs.declared.places.Stage.TheVariants as stage
use Rattle.manual.specs.declared.places.Place.{Place}
use Rattle.manual.specs.declared.places.Place.TheVariants as place
use Rattle.manual.specs.Judging.{Mode, State, Section as OpenSection, Item as OpenItem, may_follow, room, same_counts, opened, headed, ended}
use Rattle.manual.specs.Manual.{Read, Item, Section, Tree, total}
use Rattle.manual.proofs.Roles.{Part, extra, info, name, address1, address2, company, Role, start, opening, head, part, deposit, end, part_kind, stage_after, place_behind, adds, takes, role_tests, is-payment, is_deduction, is_extra, is-deposit, counts_behind, with_head, section_behind, item-part, item_behind, behind, Run}
use Rattle.manual.proofs.Steps.{Passes}
use Rattle.manual.proofs.Trees.{written, parts_then, items_roles, sections_roles, roles, Closed, Parts-run}
use Rattle.manual.proofs.Parts.{item_of, written-item}
use Rattle.manual.proofs.Sections.{after-item, Heads-run, Section-runs}

-- what is counted and what is still to come make the counts e
abbrev pub Ends : End → List Role → End → Type 0
Ends c ls e =
    (e.payments ≡ c.payments + total is-payment ls) × (e.deductions ≡ c.deductions + total is_deduction ls)
    × (e.extras ≡ c.extras + total is_extra ls) × (e.deposits ≡ c.deposits + total is-deposit ls)

module _ (c : End) (l : Role) (ls : List Role) (e : End) where
  pub ends_back : Ends (counts_behind c l) ls e → Ends c (l ∷ ls) e
  ends_back h = (omega (arith, h.0), omega (arith, h.1), omega (arith, h.2), omega (arith, h.3))

  pub ends_on : Ends c (l ∷ ls) e → Ends (counts_behind c l) ls e
  ends_on h = (omega (arith, h.0), omega (arith, h.1), omega (arith, h.2), omega (arith, h.3))

ends_now : (c e : End) (x : Read End) → same_counts c e ≡ true → Ends c (end x ∷ []) e
ends_now c e x h =
    let a = and_parts (eqb e.payments c.payments) (eqb e.deductions c.deductions && (eqb e.extras c.extras && eqb e.deposits c.deposits)) h in
    let b = and_parts (eqb e.deductions c.deductions) (eqb e.extras c.extras && eqb e.deposits c.deposits) a.1 in
    let d = and_parts (eqb e.extras c.extras) (eqb e.deposits c.deposits) b.1 in
    let p = eqb-true e.payments c.payments a.0 in
    let q = eqb-true e.deductions c.deductions b.0 in
    let r = eqb-true e.extras c.extras d.0 in
    let s = eqb-true e.deposits c.deposits d.1 in
    (omega (arith, p), omega (arith, q), omega (arith, r), omega (arith, s))

now_ends : (c e : End) (x : Read End) → Ends c (end x ∷ []) e → same_counts c e ≡ true
now_ends c e x h =
    and_from _ _ (eq-eqb e.payments c.payments (omega (arith, h.0))) (and_from _ _ (eq-eqb e.deductions c.deductions (omega (arith, h.1)))
    (and_from _ _ (eq-eqb e.extras c.extras (omega (arith, h.2))) (eq-eqb e.deposits c.deposits (omega (arith, h.3)))))

-- an item may be followed by another, or by the deposit, exactly where it may end
pub closed_head : (st : Stage) → may_follow (place.Within st) kind.Payment ≡ true → Closed st
closed_head stage.Head h = tt
closed_head stage.Information h = tt
closed_head stage.Name h = tt
closed_head stage.HalfAddress h = false≢true h
closed_head stage.Address h = tt
closed_head stage.CompanyNumber h = tt

pub head_closed : (st : Stage) → Closed st → (may_follow (place.Within st) kind.Payment ≡ true) × (may_follow (place.Within st) kind.Deposit ≡ true)
head_closed stage.Head h = (refl, refl)
head_closed stage.Information h = (refl, refl)
head_closed stage.Name h = (refl, refl)
head_closed stage.HalfAddress h = absurd h
head_closed stage.Address h = (refl, refl)
head_closed stage.CompanyNumber h = (refl, refl)

pub closed-deposit : (st : Stage) → may_follow (place.Within st) kind.Deposit ≡ true → Closed st
closed-deposit stage.Head h = tt
closed-deposit stage.Information h = tt
closed-deposit stage.Name h = tt
closed-deposit stage.HalfAddress h = false≢true h
closed-deposit stage.Address h = tt
closed-deposit stage.CompanyNumber h = tt

-- no start, opening or end record comes in an item
pub none_within : (st : Stage) → (may_follow (place.Within st) kind.Start ≡ false) × (may_follow (place.Within st) kind.Opening ≡ false) × (may_follow (place.Within st) kind.End ≡ false)
none_within stage.Head = (refl, refl, refl)
none_within stage.Information = (refl, refl, refl)
none_within stage.Name = (refl, refl, refl)
none_within stage.HalfAddress = (refl, refl, refl)
none_within stage.Address = (refl, refl, refl)
none_within stage.CompanyNumber = (refl, refl, refl)

-- a part of an item comes at no other place
pub none-outside : (q : Part) → (may_follow place.Fresh (part_kind q) ≡ false) × (may_follow place.Begun (part_kind q) ≡ false) × (may_follow place.Opened (part_kind q) ≡ false) × (may_follow place.Between (part_kind q) ≡ false) × (may_follow place.Done (part_kind q) ≡ false)
none-outside (extra b y) = (refl, refl, refl, refl, refl)
none-outside (info t) = (refl, refl, refl, refl, refl)
none-outside (name t) = (refl, refl, refl, refl, refl)
none-outside (address1 t) = (refl, refl, refl, refl, refl)
none-outside (address2 t) = (refl, refl, refl, refl, refl)
none-outside (company n) = (refl, refl, refl, refl, refl)

-- What is still to come at each place.

pub record Files (mode : Mode) (c : End) (ls : List Role) : Type 0 where
  pub sections : List Section
  pub close : Read End
  pub lies : ls ≡ sections_roles sections (end close ∷ [])
  pub runs : AllByRecursion (Section-runs mode) sections
  pub counted : Ends c ls close.fields

pub record Items (mode : Mode) (c : End) (x : OpenSection) (ls : List Role) : Type 0 where
  items : List Item
  paid_in : Read Deposit
  sections : List Section
  close : Read End
  lies : ls ≡ items_roles items (deposit paid_in ∷ sections_roles sections (end close ∷ []))
  heads : Heads-run mode x items paid_in
  runs : AllByRecursion (Section-runs mode) sections
  counted : Ends c ls close.fields

pub record Parts (mode : Mode) (c : End) (x : OpenSection) (st : Stage) (i : OpenItem) (ls : List Role) : Type 0 where
  parts : List Part
  items : List Item
  paid_in : Read Deposit
  sections : List Section
  close : Read End
  lies : ls ≡ parts_then parts (items_roles items (deposit paid_in ∷ sections_roles sections (end close ∷ [])))
  body : Parts-run st i parts
  heads : Heads-run mode x items paid_in
  runs : AllByRecursion (Section-runs mode) sections
  counted : Ends c ls close.fields

pub record Whole (mode : Mode) (c : End) (ls : List Role) : Type 0 where
  pub reading : Tree
  pub lies : ls ≡ roles reading
  pub some : 0 < length reading.sections
  pub runs : AllByRecursion (Section-runs mode) reading.sections
  pub counted : Ends c ls reading.end.fields

abbrev pub Shape : Mode → Place → End → OpenSection → OpenItem → List Role → Type 0
Shape mode place.Fresh c x i ls = Whole mode c ls
Shape mode place.Begun c x i ls = (f : Files mode c ls) × (0 < length f.sections)
Shape mode place.Opened c x i ls = Items mode c x ls
Shape mode (place.Within st) c x i ls = Parts mode c x st i ls
Shape mode place.Between c x i ls = Files mode c ls
Shape mode place.Done c x i ls = ls ≡ []

abbrev at : Place → End → OpenSection → OpenItem → State
at p c x i = record { place = p; counts = c; section = x; item = i }

-- From a run to a reading: one record in front of what is still to come.
module _ (mode : Mode) (c : End) (ls : List Role) where
  open_section : (o : Read Opening) → Items mode (counts_behind c (opening o)) (opened o.fields.currency) ls → (f : Files mode c (opening o ∷ ls)) × (0 < length f.sections)
  open_section o n = (
    record {
      sections = record { opening = o; items = n.items; deposit = n.paid_in } ∷ n.sections;
      close = n.close;
      lies = ap (λ l. opening o ∷ l) n.lies;
      runs = (n.heads, n.runs);
      counted = ends_back c (opening o) ls n.close.fields n.counted;
    },
    omega arith,
  )

  open_item : (x : OpenSection) (b : Bool) (t : Read Transfer) → room mode x.rows t.fields.payer (adds b t) (takes b t) ≡ true
      → Parts mode (counts_behind c (head b t)) (with_head mode x b t) stage.Head (headed t.fields) ls → Items mode c x (head b t ∷ ls)
  open_item x b t fit n =
      let same : n.parts ≡ written (item_of b t n.parts) = sym (written-item b t n.parts n.body) in
      let rest : List Role = items_roles n.items (deposit n.paid_in ∷ sections_roles n.sections (end n.close ∷ [])) in
      record {
        items = item_of b t n.parts ∷ n.items;
        paid_in = n.paid_in;
        sections = n.sections;
        close = n.close;
        lies = ap (λ l. head b t ∷ l) (n.lies ∙ ap (λ (ps : List Part). parts_then ps rest) same);
        heads = (fit, subst (Parts-run stage.Head (headed t.fields)) same n.body, n.heads);
        runs = n.runs;
        counted = ends_back c (head b t) ls n.close.fields n.counted;
      }

  -- an item is over
  item-over : (x : OpenSection) (st : Stage) (i : OpenItem) (l : Role) → Closed st → Items mode c x (l ∷ ls) → Parts mode c x st i (l ∷ ls)
  item-over x st i l closed n = record {
    parts = [];
    items = n.items;
    paid_in = n.paid_in;
    sections = n.sections;
    close = n.close;
    lies = n.lies;
    body = closed;
    heads = n.heads;
    runs = n.runs;
    counted = n.counted;
  }

  over-deposit : (x : OpenSection) (d : Read Deposit) → Heads-run mode x [] d → Files mode (counts_behind c (deposit d)) ls → Items mode c x (deposit d ∷ ls)
  over-deposit x d h n = record {
    items = [];
    paid_in = d;
    sections = n.sections;
    close = n.close;
    lies = ap (λ l. deposit d ∷ l) n.lies;
    heads = h;
    runs = n.runs;
    counted = ends_back c (deposit d) ls n.close.fields n.counted;
  }

  within : (x : OpenSection) (st : Stage) (i : OpenItem) (l : Role) → Passes (role_tests mode (at (place.Within st) c x i) l)
      → Shape mode (place_behind l) (counts_behind c l) (section_behind mode x l) (item_behind i l) ls → Parts mode c x st i (l ∷ ls)
  within x st i (start y) t n = absurd (false≢true (sym (none_within st).0 ∙ t.0))
  within x st i (opening y) t n = absurd (false≢true (sym (none_within st).1 ∙ t.0))
  within x st i (head b y) t n = item-over x st i (head b y) (closed_head st t.0) (open_item x b y t.1.0 n)
  within x st i (part p) t n = record {
    parts = p ∷ n.parts;
    items = n.items;
    paid_in = n.paid_in;
    sections = n.sections;
    close = n.close;
    lies = ap (λ l. part p ∷ l) n.lies;
    body = (t.0, t.1, n.body);
    heads = n.heads;
    runs = n.runs;
    counted = ends_back c (part p) ls n.close.fields n.counted;
  }
  within x st i (deposit d) t n =
      let a = and_parts (may_follow (place.Within st) kind.Deposit) (ltb 0 x.payments) t.0 in
      item-over x st i (deposit d) (closed-deposit st a.0) (over-deposit x d (a.1, t.1.0, t.1.1.0) n)
  within x st i (end y) t n = absurd (false≢true (sym (none_within st).2 ∙ t.0))

  sound_at : (p : Place) (x : OpenSection) (i : OpenItem) (l : Role) → Passes (role_tests mode (at p c x i) l)
      → Shape mode (place_behind l) (counts_behind c l) (section_behind mode x l) (item_behind i l) ls → Shape mode p c x i (l ∷ ls)
  sound_at place.Fresh x i (start y) t n = record {
    reading = record { start = y; sections = n.0.sections; end = n.0.close };
    lies = ap (λ l. start y ∷ l) n.0.lies;
    some = n.1;
    runs = n.0.runs;
    counted = ends_back c (start y) ls n.0.close.fields n.0.counted;
  }
  sound_at place.Fresh x i (opening y) t n = absurd (false≢true t.0)
  sound_at place.Fresh x i (head b y) t n = absurd (false≢true t.0)
  sound_at place.Fresh x i (part p) t n = absurd (false≢true (sym (none-outside p).0 ∙ t.0))
  sound_at place.Fresh x i (deposit y) t n = absurd (false≢true t.0)
  sound_at place.Fresh x i (end y) t n = absurd (false≢true t.0)
  sound_at place.Begun x i (start y) t n = absurd (false≢true t.0)
  sound_at place.Begun x i (opening y) t n = open_section y n
  sound_at place.Begun x i (head b y) t n = absurd (false≢true t.0)
  sound_at place.Begun x i (part p) t n = absurd (false≢true (sym (none-outside p).1 ∙ t.0))
  sound_at place.Begun x i (deposit y) t n = absurd (false≢true t.0)
  sound_at place.Begun x i (end y) t n = absurd (false≢true t.0)
  sound_at place.Opened x i (start y) t n = absurd (false≢true t.0)
  sound_at place.Opened x i (opening y) t n = absurd (false≢true t.0)
  sound_at place.Opened x i (head b y) t n = open_item x b y t.1.0 n
  sound_at place.Opened x i (part p) t n = absurd (false≢true (sym (none-outside p).2 ∙ t.0))
  sound_at place.Opened x i (deposit y) t n = absurd (false≢true t.0)
  sound_at place.Opened x i (end y) t n = absurd (false≢true t.0)
  sound_at (place.Within st) x i l t n = within x st i l t n
  sound_at place.Between x i (start y) t n = absurd (false≢true t.0)
  sound_at place.Between x i (opening y) t n = (open_section y n).0
  sound_at place.Between x i (head b y) t n = absurd (false≢true t.0)
  sound_at place.Between x i (part p) t n = absurd (false≢true (sym (none-outside p).3 ∙ t.0))
  sound_at place.Between x i (deposit y) t n = absurd (false≢true t.0)
  sound_at place.Between x i (end y) t n = record {
    sections = [];
    close = y;
    lies = ap (λ l. end y ∷ l) n;
    runs = tt;
    counted = subst (λ l. Ends c (end y ∷ l) y.fields) (sym n) (ends_now c y.fields y t.1.0);
  }
  sound_at place.Done x i (start y) t n = absurd (false≢true t.0)
  sound_at place.Done x i (opening y) t n = absurd (false≢true t.0)
  sound_at place.Done x i (head b y) t n = absurd (false≢true t.0)
  sound_at place.Done x i (part p) t n = absurd (false≢true (sym (none-outside p).4 ∙ t.0))
  sound_at place.Done x i (deposit y) t n = absurd (false≢true t.0)
  sound_at place.Done x i (end y) t n = absurd (false≢true t.0)

sound-end : (mode : Mode) (p : Place) (c : End) (x : OpenSection) (i : OpenItem) → ended p ≡ true → Shape mode p c x i []
sound-end mode place.Fresh c x i e = absurd (false≢true e)
sound-end mode place.Begun c x i e = absurd (false≢true e)
sound-end mode place.Opened c x i e = absurd (false≢true e)
sound-end mode (place.Within st) c x i e = absurd (false≢true e)
sound-end mode place.Between c x i e = absurd (false≢true e)
sound-end mode place.Done c x i e = refl

pub sound : (mode : Mode) (ls : List Role) (s : State) → Run mode s ls → Shape mode s.place s.counts s.section s.item ls
sound mode [] s r = sound-end mode s.place s.counts s.section s.item r
sound mode (l ∷ ls) s r = sound_at mode s.counts ls s.place s.section s.item l r.0 (sound mode ls (behind mode s l) r.1)

-- From a reading to a run: the machine passes over what is written, if it passes on from where that leads.
module _ (mode : Mode) (e : Read End) where
  over_parts : (ps : List Part) (c : End) (x : OpenSection) (st : Stage) (i : OpenItem) (rest : List Role) → Parts-run st i ps → Ends c (parts_then ps rest) e.fields
      → ((d : End) (su : Stage) (j : OpenItem) → Closed su → Ends d rest e.fields → Run mode (at (place.Within su) d x j) rest)
      → Run mode (at (place.Within st) c x i) (parts_then ps rest)
  over_parts [] c x st i rest r n go = go c st i r n
  over_parts (p ∷ ps) c x st i rest r n go =
      ((r.0, r.1), over_parts ps (counts_behind c (part p)) x (stage_after p) (item-part i p) rest r.2 (ends_on c (part p) (parts_then ps rest) e.fields n) go)

  module _ (d : Read Deposit) (rest : List Role) (go : (c : End) (x : OpenSection) (i : OpenItem) → Ends c rest e.fields → Run mode (at place.Between c x i) rest) where
    -- behind the head of an item
    over-item : (i : Item) (k : List Role) (c : End) (x : OpenSection) → Parts-run stage.Head (headed i.transfer.fields) (written i)
        → Ends c (head i.payment i.transfer ∷ parts_then (written i) k) e.fields
        → ((f : End) (su : Stage) (j : OpenItem) → Closed su → Ends f k e.fields → Run mode (at (place.Within su) f (after-item mode x i) j) k)
        → Run mode (at (place.Within stage.Head) (counts_behind c (head i.payment i.transfer)) (after-item mode x i) (headed i.transfer.fields)) (parts_then (written i) k)
    over-item i k c x r n on =
        let l : Role = head i.payment i.transfer in
        over_parts (written i) (counts_behind c l) (after-item mode x i) stage.Head (headed i.transfer.fields) k r (ends_on c l (parts_then (written i) k) e.fields n) on

    over-items : (is : List Item) (c : End) (x : OpenSection) (st : Stage) (i : OpenItem) → Closed st → Heads-run mode x is d → Ends c (items_roles is (deposit d ∷ rest)) e.fields → Run mode (at (place.Within st) c x i) (items_roles is (deposit d ∷ rest))
    over-items [] c x st i closed r n =
        ((and_from _ _ (head_closed st closed).1 r.0, (r.1, (r.2, tt))), go (counts_behind c (deposit d)) x i (ends_on c (deposit d) rest e.fields n))
    over-items (j ∷ js) c x st i closed r n =
        (((head_closed st closed).0, (r.0, tt)), over-item j (items_roles js (deposit d ∷ rest)) c x r.1 n (λ f su g t m. over-items js f (after-item mode x j) su g t r.2 m))

    over_first : (is : List Item) (c : End) (x : OpenSection) (i : OpenItem) → x.payments ≡ 0 → Heads-run mode x is d → Ends c (items_roles is (deposit d ∷ rest)) e.fields → Run mode (at place.Opened c x i) (items_roles is (deposit d ∷ rest))
    over_first [] c x i none r n = absurd (false≢true (subst (λ k. ltb 0 k ≡ true) none r.0))
    over_first (j ∷ js) c x i none r n =
        ((refl, (r.0, tt)), over-item j (items_roles js (deposit d ∷ rest)) c x r.1 n (λ f su g t m. over-items js f (after-item mode x j) su g t r.2 m))

  over-sections : (ss : List Section) (c : End) (x : OpenSection) (i : OpenItem) → AllByRecursion (Section-runs mode) ss → Ends c (sections_roles ss (end e ∷ [])) e.fields → Run mode (at place.Between c x i) (sections_roles ss (end e ∷ []))
  over-sections [] c x i r n = ((refl, (now_ends c e.fields e n, tt)), refl)
  over-sections (s ∷ ss) c x i r n =
      let k : List Role = sections_roles ss (end e ∷ []) in
      let l : Role = opening s.opening in
      ((refl, tt), over_first s.deposit k (λ f y g m. over-sections ss f y g r.1 m) s.items (counts_behind c l) (opened s.opening.fields.currency) i refl r.0 (ends_on c l (items_roles s.items (deposit s.deposit ∷ k)) e.fields n))

  over-begun : (ss : List Section) (c : End) (x : OpenSection) (i : OpenItem) → 0 < length ss → AllByRecursion (Section-runs mode) ss → Ends c (sections_roles ss (end e ∷ [])) e.fields → Run mode (at place.Begun c x i) (sections_roles ss (end e ∷ []))
  over-begun [] c x i some r n = absurd (omega arith)
  over-begun (s ∷ ss) c x i some r n = ((refl, tt), (over-sections (s ∷ ss) c x i r n).1)

pub complete : (mode : Mode) (r : Tree) (c : End) (x : OpenSection) (i : OpenItem) → 0 < length r.sections → AllByRecursion (Section-runs mode) r.sections → Ends c (roles r) r.end.fields → Run mode (at place.Fresh c x i) (roles r)
complete mode r c x i some runs n =
    ((refl, tt), over-begun mode r.end r.sections (counts_behind c (start r.start)) x i some runs (ends_on c (start r.start) (sections_roles r.sections (end r.end ∷ [])) r.end.fields n))
