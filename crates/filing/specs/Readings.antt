-- What an entry comes to, by the manual, and how entries lie on a shelf. Nothing here runs.
use Rattle.std.specs.Prelude.{◌≡◌, ℕ, suc, ◌+◌, true, List, [], ◌∷◌, ◌++◌, length, Ok}
use Rattle.std.specs.List.{AllByRecursion}
use Rattle.field.specs.declared.money.Currency.{Currency}
use Rattle.field.specs.declared.money.Currency.TheVariants.{Sek, Eur}
use Rattle.field.specs.Bytes.{is_text, every}
use Rattle.record.specs.Editions.{bare}
use Rattle.sums.specs.Laws.{Exactly}
use Rattle.trailer.specs.declared.layout.Totals.{Totals}
use Rattle.trailer.specs.Trailers.{trailer_of}
use Rattle.manual.specs.Manual.{Section, Tree, total, SectionAdds, ReadAs}
use Rattle.manual.specs.declared.faults.Cause.{Cause}
use Rattle.manual.specs.Judging.{at_record}
use Rattle.manual.specs.Laws.{not_judging}
use Rattle.manual.specs.Wrong.{FirstWrong}
use Rattle.filing.specs.Entries.{entry_slots, reads}
use Rattle.filing.specs.Volumes.{Records, trailer_with}

-- what an amount in this currency adds in SEK, in öre
abbrev pub in_sek : Currency → ℕ → ℕ
in_sek Sek n = n
in_sek Eur n = 0

-- and in EUR, in cents
abbrev pub in_eur : Currency → ℕ → ℕ
in_eur Sek n = 0
in_eur Eur n = n

-- the records of an entry have this tree: they are text, and read as those of a file under the bare edition, which knows no riders, by
-- every rule but the one on payers
pub record EntryReads (e : Records) (tree : Tree) : Type 0 where
  pub text : AllByRecursion (λ x. every is_text x ≡ true) e
  pub reads : ReadAs SectionAdds bare e tree

-- what the tree comes to: payments and deductions as its end record counts them, and the plain sums of its deposits by currency
pub record Sums (tree : Tree) (t : Totals) : Type 0 where
  pub payments : t.payments ≡ tree.end.fields.payments
  pub deductions : t.deductions ≡ tree.end.fields.deductions
  pub sek : t.sek ≡ total (λ (s : Section). in_sek s.deposit.fields.currency s.deposit.fields.sum) tree.sections
  pub eur : t.eur ≡ total (λ (s : Section). in_eur s.deposit.fields.currency s.deposit.fields.sum) tree.sections

-- the entry has a tree, and that comes to this
pub record ComesTo (e : Records) (t : Totals) : Type 0 where
  pub tree : Tree
  pub follows : EntryReads e tree
  pub sums : Sums tree t

-- these records are entries one after the other, the first of them behind so many entries in so many records: each one has a tree,
-- and behind it stands the trailer with what that comes to
pub data Lie : ℕ → ℕ → List Records → Records → Type 0 where
  none : (k places : ℕ) → Lie k places [] []
  more : (k places : ℕ) (e : Records) (t : Totals) (es : List Records) (rs : Records) → ComesTo e t → Lie (k + 1) (places + length e + 1) es rs
      → Lie k places (e ∷ es) ((e ++ trailer_of (trailer_with k places e t) ∷ []) ++ rs)

-- what holds of reading any entry
pub record EntryLaws : Type 0 where
  -- reading answers what an entry comes to, exactly where it has a tree
  pub comes : (e : Records) (t : Totals) → Exactly (reads e ≡ Ok t) (ComesTo e t)
  -- and it has one tree
  pub once : (e : Records) (r q : Tree) → EntryReads e r → EntryReads e q → r ≡ q
  -- one that has none is refused at its first record at which something is wrong, with the first thing that is
  pub refused_first : (e : Records) (k : ℕ) (c : Cause) → Exactly (reads e ≡ at_record (suc k) c) (FirstWrong not_judging bare (entry_slots e) k c)
