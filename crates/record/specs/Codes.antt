-- The code of a record: what its first two bytes write.
use Rattle.std.specs.Prelude.{ℕ, ◌+◌, ◌-◌, ◌*◌, cond, ◌&&◌, List, Some, None, Option, slice_index}
use Rattle.field.specs.Bytes.{is_digit}

-- the code that two bytes write, if both are digits
abbrev pub code_at : ℕ → ℕ → Option ℕ
code_at a b = cond (is_digit a && is_digit b) (Some ((a - 48) * 10 + (b - 48))) None

-- the code of a record, if it has one
abbrev pub code_in : List ℕ → Option ℕ
code_in line = code_at (slice_index line 0) (slice_index line 1)
