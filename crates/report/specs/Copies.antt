-- The plain copy of a file's records under an edition: unknown records are left out.
use Rattle.std.specs.Prelude.{ℕ, List, [], ◌∷◌, ◌++◌, Some, None, Option}
use Rattle.record.specs.Editions.{Meaning}
use Rattle.record.specs.Sorts.{sort_at}
use Rattle.report.specs.Sorts.{plain_of}

-- a record in front of those behind it, if there is one
abbrev pub record_then : Option (List ℕ) → List (List ℕ) → List (List ℕ)
record_then None rest = rest
record_then (Some r) rest = r ∷ rest

-- the copy's records, in order
abbrev pub plain_records : Meaning → List (List ℕ) → List (List ℕ)
plain_records m [] = []
plain_records m (r ∷ rs) = record_then (plain_of (sort_at m r) r) (plain_records m rs)

-- records as lines of a file, each with CR LF
abbrev pub crlf_lines : List (List ℕ) → List ℕ
crlf_lines [] = []
crlf_lines (r ∷ rs) = r ++ (13 ∷ 10 ∷ crlf_lines rs)

-- THE PLAIN COPY: its bytes
abbrev pub copied : Meaning → List (List ℕ) → List ℕ
copied m rs = crlf_lines (plain_records m rs)
