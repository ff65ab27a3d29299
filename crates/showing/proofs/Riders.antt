-- Where reading an entry is refused for a rider: the theorem of specs/Riders.
use Rattle.std.proofs.Common.{◌≡◌, ℕ, ◌-◌, ◌<◌, ◌≤◌, Bool, true, false, cond, leb, List, [], ◌∷◌, ◌++◌, length, get_or, Some, None, Ok, Err, Option, Result, sym, refl, ap, ◌∙◌, subst, inl, inr, arith}
use Rattle.std.proofs.lemmas.Bool.{cond-true, and_parts, and_from, le-leb, leb-true, false≢true}
use Rattle.field.specs.Chains.{then}
use Rattle.record.specs.Editions.{Meaning, Extends, Whole, known}
use Rattle.manual.specs.declared.faults.FileFault.{FileFault}
use Rattle.manual.specs.Manual.{Line, records, Reading, Follows}
use Rattle.filing.specs.Volumes.{Records}
use Rattle.volume.specs.Taking.{numbered_in}
use Rattle.report.specs.Faults.{first_fault}
use Rattle.report.specs.Riders.{level_of, WrongRider, Finds, FindsFirst}
use Rattle.report.proofs.Riders.{none_found, first_found}
use Rattle.manual.proofs.Accepting.{front_lines}
use Rattle.filing.specs.declared.faults.VolumeFault.{VolumeFault}
use Rattle.filing.specs.declared.faults.VolumeFault.TheVariants.{Rider}
use Rattle.showing.specs.Showing.{unless_rider, passed, fitting, how_many}
use Rattle.showing.specs.Riders.{RidersRead, ReadsEntry}
use Rattle.showing.proofs.Passing.{none_passes}

-- each line of a file is a whole record
whole_line : (ls : List Line) (before : List (List ℕ)) (x : List ℕ) (behind : List (List ℕ)) → records ls ≡ before ++ x ∷ behind → Whole x
whole_line [] [] x behind q = let z : ◌≡◌ {A = ℕ} 0 1 = cc in absurd (omega arith)
whole_line [] (b ∷ bs) x behind q = let z : ◌≡◌ {A = ℕ} 0 1 = cc in absurd (omega arith)
whole_line (l ∷ ls) [] x behind q = let same : l.bytes ≡ x = cc in subst Whole same l.is_whole
whole_line (l ∷ ls) (b ∷ bs) x behind q = let rest : records ls ≡ bs ++ x ∷ behind = cc in whole_line ls bs x behind rest

-- an edition finds no rider wrong in a file that follows the manual under one that extends it
pub never_found : (m taken : Meaning) (file : List ℕ) (r : Reading) → (f : Follows taken file r) → Extends taken m → Finds m (records f.lines) → ⊥
never_found m taken file r f wider finds =
    let k = finds.knows in
    let whole = whole_line f.lines finds.before finds.line finds.behind finds.lies in
    let ext = wider k.code finds.line (ap known k.known) whole k.coded in
    let right = f.reads.riders finds.before finds.behind finds.line k.code k.level finds.lies k.coded (ext.0 ∙ k.known) in
    let formed : m.formed k.code finds.line ≡ true = sym ext.1 ∙ right.formed in
    by right.level formed finds.wrong
  where
    by : level_of finds.before ≡ Some finds.knows.level → m.formed finds.knows.code finds.line ≡ true → WrongRider m finds.before finds.line finds.knows finds.cause → ⊥
    by here ok (inl (n, q)) = n here
    by here ok (inr (y, g, q)) = false≢true (sym g ∙ ok)

-- what is filled in of the entry, where short of places is told by another cause
module _ {A : Type 0} (short : ℕ → VolumeFault) (other : (n k : ℕ) (f : FileFault) → short n ≡ Rider k f → ⊥) (many : ℕ) (fill : Records → List A) (m : Meaning) (k : ℕ) (es : List Records) where
  abbrev go : Records → Result (List A) VolumeFault
  go e = fitting short many (fill e)

  abbrev answered : Result ℕ VolumeFault
  answered = how_many (then (passed m k es) go)

  fits_not : (xs : List A) (b : Bool) (f : FileFault) → how_many (cond b (Ok xs) (Err (short (length xs)))) ≡ Err (Rider k f) → ⊥
  fits_not xs true f h = let z : ◌≡◌ {A = ℕ} 0 1 = cc in absurd (omega arith)
  fits_not xs false f h = let same : short (length xs) ≡ Rider k f = cc in other (length xs) k f same

  rider_told : (e : Records) (o : Option FileFault) (f : FileFault) → how_many (then (unless_rider k o e) go) ≡ Err (Rider k f) → o ≡ Some f
  rider_told e None f h = absurd (fits_not (fill e) (leb (length (fill e)) many) f h)
  rider_told e (Some g) f h = let same : g ≡ f = cc in ap Some same

  module _ (some : numbered_in k (length es) ≡ true) where
    e : Records
    e = get_or es (k - 1) []

    is : answered ≡ how_many (then (unless_rider k (first_fault m (get_or es (k - 1) [])) (get_or es (k - 1) [])) go)
    is = ap (λ p. how_many (then p go)) (cond-true _ _ _ some)

    told : (f : FileFault) → answered ≡ Err (Rider k f) → FindsFirst m (get_or es (k - 1) []) f
    told f h = first_found m (get_or es (k - 1) []) f (rider_told (get_or es (k - 1) []) (first_fault m (get_or es (k - 1) [])) f (sym is ∙ h))

    finds_told : Finds m (get_or es (k - 1) []) → (o : Option FileFault) → first_fault m (get_or es (k - 1) []) ≡ o → (f : FileFault) × (answered ≡ Err (Rider k f))
    finds_told finds None q = absurd (none_found m (get_or es (k - 1) []) q finds)
    finds_told finds (Some f) q = (f, is ∙ ap (λ o. how_many (then (unless_rider k o (get_or es (k - 1) [])) go)) q)

    riders_read : RidersRead m k (get_or es (k - 1) []) answered
    riders_read = record {
      refused = ((λ p. (told p.0 p.1).found), (λ finds. finds_told finds (first_fault m (get_or es (k - 1) [])) refl));
      first = told;
      never = λ taken file r same f wider fault h.
          let lies : get_or es (k - 1) [] ≡ records f.lines = sym same ∙ front_lines taken file r f in
          never_found m taken file r f wider (subst (λ x. Finds m x) lies (told fault h).found);
    }

  not_among : (b : Bool) → numbered_in k (length es) ≡ b → (0 < k → k ≤ length es → ⊥) → numbered_in k (length es) ≡ false
  not_among false q h = q
  not_among true q h =
      let p = and_parts (leb 1 k) (leb k (length es)) q in
      absurd (h (leb-true 1 k p.0) (leb-true k (length es) p.1))

  pub reads_entry : (answer : Result ℕ VolumeFault) → answer ≡ how_many (then (passed m k es) (λ x. fitting short many (fill x))) → ReadsEntry m k es answer
  reads_entry answer same = subst (ReadsEntry m k es) (sym same) (record {
    there = λ low high. riders_read (and_from (leb 1 k) (leb k (length es)) (le-leb 1 k low) (le-leb k (length es) high));
    nowhere = λ h. ap (λ p. how_many (then p go)) (none_passes m k es (not_among (numbered_in k (length es)) refl h));
  })
