-- What a table holds after any list of entries, for every lawful equality of keys. Assumes nothing.
-- An entry is written as a row: its key, and what it adds and takes.
use Rattle.std.specs.Prelude.{◌≡◌, ℕ, ◌+◌, ◌^◌, ◌<◌, ◌≤◌, Bool, true, false, cond, ◌||◌, List, [], ◌∷◌, map, length, take, is_some, IfSome, Some, None, Option, slice_index_or}
use Rattle.std.specs.Option.{option_map}
use Rattle.std.specs.List.{AllByRecursion}
use Rattle.sums.specs.declared.Row.{Row}
use Rattle.sums.specs.Table.{place, enter, over, in_use}

-- each of the two holds where the other does
abbrev pub Exactly : Type 0 → Type 0 → Type 0
Exactly P Q = (P → Q) × (Q → P)

-- goes on with the value, if there is one
abbrev pub go_on : {A B : Type 0} → Option A → (A → Option B) → Option B
go_on None f = None
go_on (Some x) f = f x

-- the keys of the rows, or of the entries, in their order
abbrev pub keys : {K : Type 0} → List (Row K) → List K
keys rows = map (λ r. r.key) rows

-- what a column comes to over all the rows, or entries
abbrev pub total : {K : Type 0} → (Row K → ℕ) → List (Row K) → ℕ
total f [] = 0
total f (r ∷ rs) = f r + total f rs

-- the entry adds, and takes, at most this much
abbrev pub Within : {K : Type 0} → ℕ → Row K → Type 0
Within most e = (e.added ≤ most) × (e.taken ≤ most)

module _ {K : Type 0} (same : K → K → Bool) where
  -- the rows after the entries, entered one by one where there is room for cap rows; none if one of them is refused
  abbrev pub run : ℕ → List (Row K) → List (Row K) → Option (List (Row K))
  run cap rows [] = Some rows
  run cap rows (e ∷ es) = go_on (enter same cap rows e.key e.added e.taken) (λ after. run cap after es)

  -- whether one of the keys equals k
  abbrev pub among : List K → K → Bool
  among [] k = false
  among (x ∷ xs) k = same x k || among xs k

  -- the keys, each one left out that equals an earlier one, or one of those that came before
  abbrev pub firsts_past : List K → List K → List K
  firsts_past before [] = []
  firsts_past before (k ∷ ks) = cond (among before k) (firsts_past (k ∷ before) ks) (k ∷ firsts_past (k ∷ before) ks)

  -- the keys in order of first appearance: each one left out that equals an earlier one
  abbrev pub firsts : List K → List K
  firsts ks = firsts_past [] ks

  -- how many distinct keys there are
  abbrev pub distinct : List K → ℕ
  distinct ks = length (firsts ks)

  -- what a column comes to over the rows, or entries, whose key equals k
  abbrev pub column_of : (Row K → ℕ) → List (Row K) → K → ℕ
  column_of f [] k = 0
  column_of f (r ∷ rs) k = cond (same r.key k) (f r) 0 + column_of f rs k

  -- how many rows k has
  abbrev pub rows_of : List (Row K) → K → ℕ
  rows_of = column_of (λ r. 1)

  -- what was added, and what was taken, under k
  abbrev pub added_of : List (Row K) → K → ℕ
  added_of = column_of (λ r. r.added)

  abbrev pub taken_of : List (Row K) → K → ℕ
  taken_of = column_of (λ r. r.taken)

  -- what the rows are after the entries es
  pub record Summed (es rows : List (Row K)) : Type 0 where
    -- a key that was entered has exactly one row
    pub one : (k : K) → among (keys es) k ≡ true → rows_of rows k ≡ 1
    -- no other key has a row
    pub no_other : (k : K) → among (keys es) k ≡ false → rows_of rows k ≡ 0
    -- the columns of each row are the sums over the entries of an equal key, where these fit 64 bits
    pub added : (i : ℕ) (d : Row K) → i < length rows → added_of es (slice_index_or rows i d).key < 2 ^ 64 → (slice_index_or rows i d).added ≡ added_of es (slice_index_or rows i d).key
    pub taken : (i : ℕ) (d : Row K) → i < length rows → taken_of es (slice_index_or rows i d).key < 2 ^ 64 → (slice_index_or rows i d).taken ≡ taken_of es (slice_index_or rows i d).key
    -- the rows stand in order of first appearance
    pub order : keys rows ≡ firsts (keys es)

  -- the laws of entering
  pub record Entering : Type 0 where
    -- entries that are not refused, into an empty table of any size, leave their sums
    pub summed : (cap : ℕ) (es rows : List (Row K)) → run cap [] es ≡ Some rows → Summed es rows
    -- none of them is refused exactly where there are rows enough for the distinct keys
    pub enough : (cap : ℕ) (es : List (Row K)) → Exactly (is_some (run cap [] es) ≡ true) (distinct (keys es) ≤ cap)
    -- one entry is refused exactly where its key has no row and no row is free
    pub refused : (cap : ℕ) (rows : List (Row K)) (k : K) (a t : ℕ) → length rows ≤ cap → Exactly (enter same cap rows k a t ≡ None) ((among (keys rows) k ≡ false) × (length rows ≡ cap))
    -- a row is found exactly where the key is among those of the rows
    pub found : (rows : List (Row K)) (k : K) → is_some (place same rows k) ≡ among (keys rows) k
    -- the entries of one key come to no more than all entries
    pub part : (f : Row K → ℕ) (es : List (Row K)) (k : K) → column_of f es k ≤ total f es
    -- 500,000 entries of at most 9,999,999,999,999 each come to less than 2 ^ 64
    pub fits : (es : List (Row K)) → length es ≤ 500000 → AllByRecursion (Within 9999999999999) es → (total (λ e. e.added) es < 2 ^ 64) × (total (λ e. e.taken) es < 2 ^ 64)

  -- these laws, shut, so that a caller's proof opens it only where it needs a law
  unfoldable pub SumsStand : Type 0
  SumsStand = Entering

  -- what one entry into the first `used` rows of a slice does: of the slice before and after it, and the answer
  pub record Entered (used : ℕ) (k : K) (a t : ℕ) (before after : List (Row K)) (answered : Option ℕ) : Type 0 where
    -- the rows then in use are rows of the slice
    pub within : IfSome answered (λ n. n ≤ length after)
    -- their number is answered
    pub answer : answered ≡ option_map length (enter same (length before) (take used before) k a t)
    -- the whole slice
    pub table : after ≡ over before (enter same (length before) (take used before) k a t)
    -- the rows then in use
    pub held : in_use after answered ≡ enter same (length before) (take used before) k a t
    -- what any run of such entries comes to
    pub laws : SumsStand
