-- The riders among some records, by the class of the first.
use Rattle.std.proofs.Common.{◌≡◌, ℕ, suc, List, ◌∷◌, is_some, ap, ◌∙◌}
use Rattle.field.specs.Chains.{and_then}
use Rattle.record.specs.declared.classes.Class.{Class}
use Rattle.record.specs.declared.classes.Class.TheVariants as class
use Rattle.record.specs.Classes.{class_of}
use Rattle.record.specs.Editions.{Meaning}
use Rattle.record.specs.Kinds.{kind_of}
use Rattle.manual.specs.Manual.{RiderAt, rider_then, with_core, is_rider, riders_from}
use Rattle.record.specs.Laws.{kind_at}
use Rattle.manual.proofs.Classes as classes
use Rattle.manual.proofs.Classes.{Seen, seen}

-- a record behind n core records, in front of the riders behind it
abbrev pub riders_by : Class → ℕ → List ℕ → (ℕ → List RiderAt) → List RiderAt
riders_by class.BadCode n r go = go n
riders_by (class.Core k read) n r go = go (suc n)
riders_by (class.Rider x) n r go = record { behind = n; bytes = r } ∷ go n
riders_by class.Unknown n r go = go n

module _ (m : Meaning) (n : ℕ) (r : List ℕ) (go : ℕ → List RiderAt) where
  by_seen : (l : Class) → Seen m r l → rider_then (is_rider m r) n r (go (with_core (kind_at r) n)) ≡ riders_by l n r go
  by_seen _ (classes.bad e) = λ i. rider_then (is_some (and_then (e i) m.level)) n r (go (with_core (and_then (e i) kind_of) n))
  by_seen _ (classes.core c k e g u) = (λ i. rider_then (is_some (and_then (e i) m.level)) n r (go (with_core (g i) n))) ∙ ap (λ o. rider_then (is_some o) n r (go (suc n))) u
  by_seen _ (classes.rider c v e g l) = (λ i. rider_then (is_some (and_then (e i) m.level)) n r (go (with_core (g i) n))) ∙ ap (λ o. rider_then (is_some o) n r (go n)) l
  by_seen _ (classes.unknown c e g u) = (λ i. rider_then (is_some (and_then (e i) m.level)) n r (go (with_core (g i) n))) ∙ ap (λ o. rider_then (is_some o) n r (go n)) u

pub riders_seen : (m : Meaning) (n : ℕ) (r : List ℕ) (rs : List (List ℕ)) → riders_from m n (r ∷ rs) ≡ riders_by (class_of m r) n r (λ j. riders_from m j rs)
riders_seen m n r rs = by_seen m n r (λ j. riders_from m j rs) (class_of m r) (seen m r)
