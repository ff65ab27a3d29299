-- A record's class is its sort with the fields read.
use Rattle.std.proofs.Common.{◌≡◌, ℕ, Bool, List, length, Some, None, Option, refl, ap, ◌∙◌}
use Rattle.std.specs.List.{between}
use Rattle.record.specs.declared.kinds.Kind.{Kind}
use Rattle.record.specs.declared.editions.Level.{Level}
use Rattle.record.specs.declared.classes.Class.{Class}
use Rattle.record.specs.declared.classes.Class.TheVariants as class
use Rattle.record.specs.declared.classes.Sort.{Sort}
use Rattle.record.specs.declared.classes.Sort.TheVariants as sort
use Rattle.record.specs.Kinds.{kind_of}
use Rattle.record.specs.Codes.{code_in}
use Rattle.record.specs.Layouts.{read_core}
use Rattle.record.specs.Editions.{Meaning}
use Rattle.record.specs.Classes.{by_level, class_by, class_in, class_of}
use Rattle.record.specs.Sorts.{sort_of}

abbrev pub class_with : Sort → List ℕ → Class
class_with sort.BadCode r = class.BadCode
class_with (sort.Core k) r = class.Core k (read_core k (between 2 (length r) r))
class_with (sort.Rider x) r = class.Rider x
class_with sort.Unknown r = class.Unknown

by_its_level : (o : Option Level) (c : ℕ) (b : Bool) (r : List ℕ) → class_with (sort_of (by_level o c b)) r ≡ by_level o c b
by_its_level None c b r = refl
by_its_level (Some l) c b r = refl

module _ (m : Meaning) (r : List ℕ) where
  by_its_kind : (c : ℕ) (o : Option Kind) → class_with (sort_of (class_by m c o r)) r ≡ class_by m c o r
  by_its_kind c None = by_its_level (m.level c) c (m.formed c r) r
  by_its_kind c (Some k) = refl

  by_its_code : (o : Option ℕ) → class_with (sort_of (class_in m o r)) r ≡ class_in m o r
  by_its_code None = refl
  by_its_code (Some c) = by_its_kind c (kind_of c)

  pub class_sorted : (s : Sort) → s ≡ sort_of (class_of m r) → class_with s r ≡ class_of m r
  class_sorted s h = ap (λ x. class_with x r) h ∙ by_its_code (code_in r)
