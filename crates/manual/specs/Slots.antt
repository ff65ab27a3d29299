-- A file's bytes cut into records: a slot for each whole record, and a last one for bytes that are none.
use Rattle.std.specs.Prelude.{ℕ, zero, suc, List, [], ◌∷◌, length, take, drop, Some, None, Option}
use Rattle.record.specs.declared.lines.LineEnd.{LineEnd}
use Rattle.record.specs.Lines.{cut, width}

-- a whole record of 80 text bytes, or what is left and is no whole record
pub data Slot : Type 0 where
  whole : List ℕ → Slot
  broken : Slot

abbrev pub after_cut : Option LineEnd → List Slot → (LineEnd → List Slot) → List Slot
after_cut None none next = none
after_cut (Some end) none next = next end

-- cut by cut, at most n times
abbrev pub slots_in : ℕ → List ℕ → List Slot
slots_in zero bs = []
slots_in (suc n) [] = []
slots_in (suc n) (b ∷ bs) =
    after_cut (cut (b ∷ bs)) (broken ∷ []) (λ end. whole (take 80 (b ∷ bs)) ∷ slots_in n (drop (width end) (b ∷ bs)))

-- the slots of a file: every cut takes at least one byte, so as many cuts as bytes are enough
unfoldable pub slots : List ℕ → List Slot
slots bs = slots_in (length bs) bs

-- how many whole records stand at the front without a gap
abbrev pub wholes : List Slot → ℕ
wholes [] = 0
wholes (whole r ∷ ss) = suc (wholes ss)
wholes (broken ∷ ss) = 0

-- the whole records at the front of a file
abbrev pub front : List Slot → List (List ℕ)
front [] = []
front (whole r ∷ ss) = r ∷ front ss
front (broken ∷ ss) = []
