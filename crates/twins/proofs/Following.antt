-- Numbers that follow are one to one.
use Rattle.std.proofs.Common.{◌≡◌, ℕ, zero, suc, ◌+◌, ◌<◌, ◌≤◌, Bool, true, false, cond, List, [], ◌∷◌, map, length, Some, slice_get, sym, refl, ap, ◌∙◌, subst, inl, inr, arith}
use Rattle.std.proofs.lemmas.List.{length-map}
use Rattle.report.specs.Listing.{records_in}
use Rattle.twins.specs.Twins.{is_spare, Twins, Left, numbered, left_from, left, numbers, Follow, FollowIn, Partners}
use Rattle.twins.specs.Laws.{FollowLaws}
use Rattle.twins.proofs.Aligning.{reads_alike}

-- numbers that rise, from lo on and below hi
abbrev Rising : ℕ → ℕ → List ℕ → Type 0
Rising lo hi [] = lo ≤ hi
Rising lo hi (n ∷ ns) = (lo ≤ n) × Rising (suc n) hi ns

rising_less : (lo hi : ℕ) (ns : List ℕ) → Rising (suc lo) hi ns → Rising lo hi ns
rising_less lo hi [] h = omega arith
rising_less lo hi (n ∷ ns) h = (omega arith, h.1)

rising_top : (lo hi : ℕ) (ns : List ℕ) → Rising lo hi ns → lo ≤ hi
rising_top lo hi [] h = h
rising_top lo hi (n ∷ ns) h = let t = rising_top (suc n) hi ns h.1 in omega arith

rising_low : (lo hi : ℕ) (ns : List ℕ) → Rising lo hi ns → (k m : ℕ) → slice_get ns k ≡ Some m → (lo ≤ m) × (m < hi)
rising_low lo hi [] h k m e = let z : ◌≡◌ {A = ℕ} 0 1 = cc in absurd (omega arith)
rising_low lo hi (n ∷ ns) h zero m e =
    let s : n ≡ m = cc in
    let top = rising_top (suc n) hi ns h.1 in
    (omega (arith, h.0), omega arith)
rising_low lo hi (n ∷ ns) h (suc k) m e = let t = rising_low (suc n) hi ns h.1 k m e in (omega (arith, h.0), t.1)

rising_one : (lo hi : ℕ) (ns : List ℕ) → Rising lo hi ns → (i j m : ℕ) → slice_get ns i ≡ Some m → slice_get ns j ≡ Some m → i ≡ j
rising_one lo hi [] h i j m e f = let z : ◌≡◌ {A = ℕ} 0 1 = cc in absurd (omega arith)
rising_one lo hi (n ∷ ns) h zero zero m e f = refl
rising_one lo hi (n ∷ ns) h zero (suc j) m e f = let s : n ≡ m = cc in let t = rising_low (suc n) hi ns h.1 j m f in absurd (omega arith)
rising_one lo hi (n ∷ ns) h (suc i) zero m e f = let s : n ≡ m = cc in let t = rising_low (suc n) hi ns h.1 i m e in absurd (omega arith)
rising_one lo hi (n ∷ ns) h (suc i) (suc j) m e f = ap suc (rising_one (suc n) hi ns h.1 i j m e f)

abbrev number_in : Left → ℕ
number_in l = l.number

module _ (spare : ℕ → Bool) where
  rises : (rs : List (List ℕ)) (n : ℕ) → Rising n (length rs + n) (map number_in (left_from spare n rs))
  rises [] n = omega arith
  rises (r ∷ rs) n = by (is_spare spare r) (subst (λ h. Rising (suc n) h (map number_in (left_from spare (suc n) rs))) (omega arith) (rises rs (suc n)))
    where
      by : (b : Bool) → Rising (suc n) (length (r ∷ rs) + n) (map number_in (left_from spare (suc n) rs))
          → Rising n (length (r ∷ rs) + n) (map number_in (cond b (left_from spare (suc n) rs) (numbered n r ∷ left_from spare (suc n) rs)))
      by true h = rising_less n _ _ h
      by false h = (omega arith, h)

  rising : (rs : List (List ℕ)) → Rising 1 (length rs + 1) (numbers spare rs)
  rising [] = omega arith
  rising (r ∷ rs) = (omega arith, subst (λ h. Rising 2 h (map number_in (left_from spare 2 rs))) (omega arith) (rises rs 2))

  before_last : (rs : List (List ℕ)) (k m : ℕ) → slice_get (numbers spare rs) k ≡ Some m → m ≡ length rs + 1 → ⊥
  before_last rs k m e f = let t = rising_low 1 (length rs + 1) (numbers spare rs) (rising rs) k m e in omega (arith, t.1)

  one : (rs qs : List (List ℕ)) (m n p : ℕ) → Follow spare rs qs m n → Follow spare rs qs m p → n ≡ p
  one rs qs m n p (inl f) (inl g) =
      let s : f.0 ≡ g.0 = rising_one 1 (length rs + 1) (numbers spare rs) (rising rs) f.0 g.0 m f.1 g.1 in
      let u : Some n ≡ Some p = sym f.2 ∙ ap (slice_get (numbers spare qs)) s ∙ g.2 in
      cc
  one rs qs m n p (inl f) (inr g) = absurd (before_last rs f.0 m f.1 g.0)
  one rs qs m n p (inr f) (inl g) = absurd (before_last rs g.0 m g.1 f.0)
  one rs qs m n p (inr f) (inr g) = f.1 ∙ sym g.1

  turned : (rs qs : List (List ℕ)) (m n : ℕ) → Follow spare rs qs m n → Follow spare qs rs n m
  turned rs qs m n (inl f) = inl (f.0, f.2, f.1)
  turned rs qs m n (inr f) = inr (f.1, f.0)

  joined : (rs qs ps : List (List ℕ)) (m n p : ℕ) → Follow spare rs qs m n → Follow spare qs ps n p → Follow spare rs ps m p
  joined rs qs ps m n p (inl f) (inl g) =
      let s : g.0 ≡ f.0 = rising_one 1 (length qs + 1) (numbers spare qs) (rising qs) g.0 f.0 n g.1 f.2 in
      inl (f.0, f.1, sym (ap (slice_get (numbers spare ps)) s) ∙ g.2)
  joined rs qs ps m n p (inl f) (inr g) = absurd (before_last qs f.0 n f.2 g.0)
  joined rs qs ps m n p (inr f) (inl g) = absurd (before_last qs g.0 n g.1 f.1)
  joined rs qs ps m n p (inr f) (inr g) = inr (f.0, g.1)

  -- as many records are left in twins
  as_many : (a b : List ℕ) → Twins spare a b → (xs ys : List Left) → map {B = ℕ} (λ (l : Left). 0) xs ≡ map {B = ℕ} (λ (l : Left). 0) ys → (k m : ℕ) → slice_get (map number_in xs) k ≡ Some m
      → (n : ℕ) × (slice_get (map number_in ys) k ≡ Some n)
  as_many a b t [] ys h k m e = let z : ◌≡◌ {A = ℕ} 0 1 = cc in absurd (omega arith)
  as_many a b t (x ∷ xs) [] h k m e = let z : ◌≡◌ {A = ℕ} 0 1 = cc in absurd (omega arith)
  as_many a b t (x ∷ xs) (y ∷ ys) h zero m e = (y.number, refl)
  as_many a b t (x ∷ xs) (y ∷ ys) h (suc k) m e = as_many a b t xs ys (cc) k m e

  partner : (a b : List ℕ) → Twins spare a b → (k m : ℕ) → slice_get (numbers spare (records_in a)) k ≡ Some m → (n : ℕ) × FollowIn spare a b m n
  partner a b t k m e =
      let p = as_many a b t (left spare (records_in a)) (left spare (records_in b)) (reads_alike spare ℕ (λ r. 0) (λ r k i b w e past within t. refl) a b t) k m e in
      (p.0, inl (k, e, p.1))

  pub paired : (rs qs : List (List ℕ)) → length (numbers spare rs) ≡ length (numbers spare qs) → Partners spare rs qs
  paired rs qs e = record {
    as_many = e;
    one = one rs qs;
    back = λ i j k f g. one qs rs k i j (turned rs qs i k f) (turned rs qs j k g);
  }

  pub partners : (a b : List ℕ) → Twins spare a b → Partners spare (records_in a) (records_in b)
  partners a b t =
      let xs = left spare (records_in a) in
      let ys = left spare (records_in b) in
      paired (records_in a) (records_in b)
      (length-map xs number_in ∙ sym (length-map xs (λ (l : Left). 0))
      ∙ ap length (reads_alike spare ℕ (λ r. 0) (λ r k i b w e past within t. refl) a b t)
      ∙ length-map ys (λ (l : Left). 0) ∙ sym (length-map ys number_in))

pub laws : FollowLaws
laws = record { one = one; turned = turned; joined = joined; partner = partner; partners = partners }
