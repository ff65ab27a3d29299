-- Two shelves as one.
use Rattle.std.specs.Prelude.{◌≡◌, ℕ, ◌+◌, ◌-◌, ◌<◌, ◌≤◌, Bool, true, false, cond, ◌&&◌, ◌||◌, List, [], ◌∷◌, ◌++◌, length, ◌==◌, nat_le, nat_lt, refl}
use Rattle.std.proofs.Common.{arith, length-append}
use Rattle.std.proofs.lemmas.Bool.{cond_both, leb-true}
use Rattle.shelf.specs.Records.{Whole, highest}
use Rattle.shelf.specs.Laws.{Laws}
use Rattle.shelf.specs.declared.Shelf.{Ghosts}
use Rattle.shelf.specs.declared.pair.Joined.{Joined}

-- What counts of two shelves: the limits m and n of the first and the second, and the lists xs and ys of their records.
pub record Parts : Type 0 where
  pub m : ℕ
  pub n : ℕ
  pub xs : List (List ℕ)
  pub ys : List (List ℕ)

-- That of a pair.
abbrev pub parts : {A B : Type 0} → Ghosts A → Ghosts B → Joined A B → Parts
parts a b j = record { m = a.room j.first; n = b.room j.second; xs = a.records j.first; ys = b.records j.second }

-- Whether the second counts: if the limits add to more than a shelf can have, the pair is the first alone.
abbrev pub joins : Parts → Bool
joins p = nat_le (p.m + p.n) highest

-- What the pair holds: both lists in turn, or the first.
abbrev pub pair_records : Parts → List (List ℕ)
pair_records p = cond (joins p) (p.xs ++ p.ys) p.xs

-- Whether a record that is added goes to the second: once the first is full, or the second holds a record.
abbrev pub to_second : Parts → Bool
to_second p = joins p && (nat_lt 0 (length p.ys) || length p.xs == p.m)

-- The places that the pair can still fill: those of the first only while the second is empty.
abbrev pub fillable : Parts → ℕ
fillable p =
    cond (joins p) (cond (nat_lt 0 (length p.ys)) (p.n - length p.ys) ((p.m - length p.xs) + (p.n - length p.ys))) (p.m - length p.xs)

-- The limit: the count and the places that it can still fill.
abbrev pub pair_room : Parts → ℕ
pair_room p = length (pair_records p) + fillable p

-- What the limit comes to, by the state of the pair.
pub record PairLimit (p : Parts) : Type 0 where
  pub fills : pair_room p ≡ length (pair_records p) + fillable p
  -- the first alone
  pub alone : highest < p.m + p.n → pair_room p ≡ p.m
  -- nothing in the second yet
  pub fresh : p.m + p.n ≤ highest → length p.ys ≡ 0 → pair_room p ≡ p.m + p.n
  -- the free places of the first no longer count
  pub begun : p.m + p.n ≤ highest → 0 < length p.ys → pair_room p ≡ length p.xs + p.n

pub whole_append : (xs ys : List (List ℕ)) → Whole xs → Whole ys → Whole (xs ++ ys)
whole_append [] ys h k = k
whole_append (x ∷ xs) ys h k = (h.0, whole_append xs ys h.1 k)

module _ (p : Parts) where
  pub pair_whole : Whole p.xs → Whole p.ys → Whole (pair_records p)
  pair_whole h k = cond_both (joins p) (p.xs ++ p.ys) p.xs Whole (λ _. whole_append p.xs p.ys h k) (λ _. h)

  pub pair_inside : length (pair_records p) ≤ pair_room p
  pair_inside = omega arith

  pub pair_bound : length p.xs ≤ p.m → length p.ys ≤ p.n → p.m ≤ highest → pair_room p ≤ highest
  pair_bound h k most =
      let long = length-append p.xs p.ys in
      let second = p.n - length p.ys in
      let first = p.m - length p.xs in
      let P : Bool → Type 0 = λ b. (b ≡ true → p.m + p.n ≤ highest) → length (cond b (p.xs ++ p.ys) p.xs) + cond b (cond (nat_lt 0 (length p.ys)) second (first + second)) first ≤ highest in
      let both : joins p ≡ true → p.m + p.n ≤ highest = leb-true (p.m + p.n) highest in
      elim (joins p) as P [
        | true ↦ λ e. let le = e refl in cond_both (nat_lt 0 (length p.ys)) second (first + second) (λ r. length (p.xs ++ p.ys) + r ≤ highest) (λ _. omega arith) (λ _. omega arith)
        | false ↦ λ _. omega arith
      ] both

module _ {J A B : Type 0} {ra : A → List (List ℕ)} {ma : A → ℕ} {rb : B → List (List ℕ)} {mb : B → ℕ} {sa : A → A → Type 0} {sb : B → B → Type 0} where
  -- Two shelves that keep the laws keep them as one, whatever holds the two.
  pub laws_of_two : (f : J → A) (s : J → B) → Laws ra ma sa → Laws rb mb sb → Laws
      (λ j. pair_records (record { m = ma (f j); n = mb (s j); xs = ra (f j); ys = rb (s j) }))
      (λ j. pair_room (record { m = ma (f j); n = mb (s j); xs = ra (f j); ys = rb (s j) }))
      (λ i j. sa (f i) (f j) × sb (s i) (s j))
  laws_of_two f s la lb =
      let p : J → Parts = λ j. record { m = ma (f j); n = mb (s j); xs = ra (f j); ys = rb (s j) } in
      record {
        whole = λ j. pair_whole (p j) (la.whole (f j)) (lb.whole (s j));
        inside = λ j. pair_inside (p j);
        bound = λ j. pair_bound (p j) (la.inside (f j)) (lb.inside (s j)) (la.bound (f j));
        same_refl = λ j. (la.same_refl (f j), lb.same_refl (s j));
        same_trans = λ i j k x y. (la.same_trans (f i) (f j) (f k) x.0 y.0, lb.same_trans (s i) (s j) (s k) x.1 y.1);
      }

-- That of a pair.
pub pair_laws : {A B : Type 0} (a : Ghosts A) (b : Ghosts B) → Laws (λ j. pair_records (parts a b j)) (λ j. pair_room (parts a b j)) (λ i j. a.same i.first j.first × b.same i.second j.second)
pair_laws a b = laws_of_two (λ j. j.first) (λ j. j.second) a.laws b.laws
