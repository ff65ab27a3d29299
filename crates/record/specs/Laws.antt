-- What holds of the class of any record under any editions, in the words of the format.
use Rattle.std.specs.Prelude.{◌≡◌, ℕ, ◌<◌, ◌≤◌, true, List, length, take, Some, Option, slice_set}
use Rattle.field.specs.Bytes.{is_text}
use Rattle.field.specs.Chains.{and_then}
use Rattle.record.specs.declared.kinds.Kind.{Kind}
use Rattle.record.specs.declared.classes.Class.TheVariants.{Unknown}
use Rattle.record.specs.Kinds.{kind_of}
use Rattle.record.specs.Reserve.{used, Refilled, blanked}
use Rattle.record.specs.Editions.{Meaning, Whole, Extends, known}
use Rattle.record.specs.Codes.{code_in}
use Rattle.record.specs.Classes.{class_of}

-- the core kind of a record, by its code
abbrev pub kind_at : List ℕ → Option Kind
kind_at line = and_then (code_in line) kind_of

pub record ClassLaws : Type 0 where
  -- the bytes that determine a core record's class are those that its layout names: two records that agree there have one class
  pub determined : (m : Meaning) (k : Kind) (line other : List ℕ) → length line ≡ 80 → length other ≡ 80 → kind_at line ≡ Some k
      → take (used k) line ≡ take (used k) other → class_of m other ≡ class_of m line
  -- a reserve position set to another text byte leaves a whole core record whole, and its class as it was
  pub reserve : (m : Meaning) (k : Kind) (line : List ℕ) → Whole line → kind_at line ≡ Some k
      → (i b : ℕ) → used k ≤ i → i < 80 → is_text b ≡ true → Whole (slice_set line i b) × (class_of m (slice_set line i b) ≡ class_of m line)
  -- setting reserve positions one by one does so too
  pub refilled : (m : Meaning) (k : Kind) (line after : List ℕ) → Whole line → kind_at line ≡ Some k
      → Refilled k line after → Whole after × (class_of m after ≡ class_of m line)
  -- setting all reserve positions blank is such a change
  pub blanks : (k : Kind) (line : List ℕ) → Whole line → Refilled k line (blanked k line)
  -- the class of an unknown record depends on its code alone
  pub unknown : (m : Meaning) (line other : List ℕ) → class_of m line ≡ Unknown → code_in other ≡ code_in line → class_of m other ≡ Unknown
  -- under an edition that extends another, a record of a code known to the other has the same class
  pub extends : (more less : Meaning) → Extends more less → (c : ℕ) → known (less.level c) ≡ true
      → (line : List ℕ) → Whole line → code_in line ≡ Some c → class_of more line ≡ class_of less line
