-- Entries of two archives, each of which is the records of a file and of its twin.
use Rattle.std.proofs.Common.{◌≡◌, ℕ, zero, suc, ◌+◌, Bool, cond, List, [], ◌∷◌, map, get_or, Some, None, Option, refl, ap, ◌∙◌, sym}
use Rattle.record.specs.declared.fields.Start.{Start}
use Rattle.record.specs.Editions.{bare}
use Rattle.filing.specs.Taking.{start_class, start_in, start_of, same_stamp, first_same}
use Rattle.filing.specs.Volumes.{Records}
use Rattle.law.specs.Archive.{TakenFile, records_of}
use Rattle.report.specs.Listing.{records_in}
use Rattle.twins.specs.Twins.{Twins, Partners, same}
use Rattle.twins.proofs.Following.{partners}
use Rattle.twins.specs.Agreeing.{Each, none, more}
use Rattle.twins.proofs.Aligning.{Blind, first_read, firsts_alike}
use Rattle.twins.proofs.Checking.{class_blind}
use Rattle.manual.specs.Slots.{slots}

pub data TwinEntry (spare : ℕ → Bool) : Records → Records → Type 0 where
  of_twins : (a b : List ℕ) → Twins spare a b → TwinEntry spare (records_in a) (records_in b)

-- an entry that is not there, for both
no_entry : (spare : ℕ → Bool) → TwinEntry spare [] []
unfolding slots
no_entry spare = of_twins [] [] (same [])

-- files taken in under any editions
abbrev pub TwinFile : (ℕ → Bool) → TakenFile → TakenFile → Type 0
TwinFile spare t u = Twins spare t.bytes u.bytes

pub entries_alike : (spare : ℕ → Bool) (ts us : List TakenFile) → Each (TwinFile spare) ts us → Each (TwinEntry spare) (map records_of ts) (map records_of us)
entries_alike spare _ _ none = none
entries_alike spare _ _ (more t u ts us h on) =
    more (records_of t) (records_of u) (map records_of ts) (map records_of us) (of_twins t.bytes u.bytes h) (entries_alike spare ts us on)

pub entry_alike : (spare : ℕ → Bool) (es fs : List Records) → Each (TwinEntry spare) es fs → (i : ℕ) → TwinEntry spare (get_or es i []) (get_or fs i [])
entry_alike spare _ _ none i = no_entry spare
entry_alike spare _ _ (more e f es fs h on) zero = h
entry_alike spare _ _ (more e f es fs h on) (suc i) = entry_alike spare es fs on i

-- numbers in twin entries fix each other
pub entry_partners : (spare : ℕ → Bool) (e f : Records) → TwinEntry spare e f → Partners spare e f
entry_partners spare _ _ (of_twins a b t) = partners spare a b t

-- Start records.

start_blind : Blind start_in
start_blind r k i b w e past within t = ap start_class (class_blind bare r k i b w e past within t)

start_first : (rs : Records) → start_of rs ≡ first_read start_in None rs
start_first [] = refl
start_first (r ∷ rs) = refl

pub starts_alike : (spare : ℕ → Bool) (a b : List ℕ) → Twins spare a b → start_of (records_in a) ≡ start_of (records_in b)
starts_alike spare a b t =
    start_first (records_in a) ∙ firsts_alike spare (Option Start) start_in start_blind None a b t ∙ sym (start_first (records_in b))

start_entry : (spare : ℕ → Bool) (e f : Records) → TwinEntry spare e f → start_of e ≡ start_of f
start_entry spare _ _ (of_twins a b t) = starts_alike spare a b t

pub stamps_alike : (spare : ℕ → Bool) (es fs : List Records) → Each (TwinEntry spare) es fs → (x : Option Start) (k : ℕ) → first_same x k es ≡ first_same x k fs
stamps_alike spare _ _ none x k = refl
stamps_alike spare _ _ (more e f es fs t h) x k = λ i. cond (same_stamp x (start_entry spare e f t i)) (Some k) (stamps_alike spare es fs h x (k + 1) i)
