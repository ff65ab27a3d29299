-- The class of a record: all that is ever asked of it.
use Rattle.std.specs.Prelude.{ℕ, Bool, List, length, Some, None, Option}
use Rattle.std.specs.List.{between}
use Rattle.record.specs.declared.kinds.Kind.{Kind}
use Rattle.record.specs.declared.editions.Level.{Level}
use Rattle.record.specs.declared.classes.Class.{Class}
use Rattle.record.specs.declared.classes.Class.TheVariants.{BadCode, Core, Rider, Unknown}
use Rattle.record.specs.Kinds.{kind_of}
use Rattle.record.specs.Codes.{code_in}
use Rattle.record.specs.Layouts.{read_core}
use Rattle.record.specs.Editions.{Meaning}

-- a record of a code with this level, or without one: a rider, or unknown
abbrev pub by_level : Option Level → ℕ → Bool → Class
by_level None c formed = Unknown
by_level (Some l) c formed = Rider (record { code = c; level = l; formed = formed })

-- a record whose code is not a core code
abbrev pub outside : Meaning → ℕ → List ℕ → Class
outside m c line = by_level (m.level c) c (m.formed c line)

abbrev pub class_by : Meaning → ℕ → Option Kind → List ℕ → Class
class_by m c None line = outside m c line
class_by m c (Some k) line = Core k (read_core k (between 2 (length line) line))

abbrev pub class_in : Meaning → Option ℕ → List ℕ → Class
class_in m None line = BadCode
class_in m (Some c) line = class_by m c (kind_of c) line

-- the class of a record under an edition's meaning
abbrev pub class_of : Meaning → List ℕ → Class
class_of m line = class_in m (code_in line) line
