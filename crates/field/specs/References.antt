-- The forms of a reference, by its code.
use Rattle.std.specs.Prelude.{ℕ, ◌+◌, Bool, cond, not, ◌&&◌, ◌||◌, List, [], ◌∷◌, Some, None, Option, ◌==◌, slice_index}
use Rattle.std.specs.Option.{option_map}
use Rattle.field.specs.declared.references.ReferenceForm.{ReferenceForm}
use Rattle.field.specs.declared.references.ReferenceForm.TheVariants.{Blank, BlankPaper, Numeric, Unchecked, Confirmed, Rejected}
use Rattle.field.specs.Bytes.{is_digit, is_text, is_blank, every}

-- blanks, then one or more digits up to the end: the position of the first digit, where the part begins at position p
abbrev pub numeric_from : ℕ → List ℕ → Option ℕ
numeric_from p [] = None
numeric_from p (b ∷ bs) = cond (is_blank b) (numeric_from (p + 1) bs) (cond (every is_digit (b ∷ bs)) (Some p) None)

-- the form where the test holds
abbrev pub if_so : Bool → ReferenceForm → Option ReferenceForm
if_so test form = cond test (Some form) None

-- 0 and 1 blank; 2 numeric, from position 13 on; 3 and 5 any text; 4 text whose first position is not blank; no other code
abbrev pub reference_of : ℕ → List ℕ → Option ReferenceForm
reference_of code part =
    cond (code == 48) (if_so (every is_blank part) Blank)
    (cond (code == 49) (if_so (every is_blank part) BlankPaper)
    (cond (code == 50) (option_map Numeric (numeric_from 13 part))
    (cond (code == 51) (if_so (every is_text part) Unchecked)
    (cond (code == 52) (if_so (every is_text part && not (is_blank (slice_index part 0))) Confirmed)
    (cond (code == 53) (if_so (every is_text part) Rejected) None)))))

-- an extra reference has code 2, 4 or 5
abbrev pub extra_of : ℕ → List ℕ → Option ReferenceForm
extra_of code part = cond (code == 50 || (code == 52 || code == 53)) (reference_of code part) None
