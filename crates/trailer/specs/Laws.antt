-- What holds of every trailer and closing record: reading and writing undo one another, so every digit is determined.
use Rattle.std.specs.Prelude.{◌≡◌, ℕ, ◌+◌, ◌^◌, ◌<◌, true, List, length, Some}
use Rattle.trailer.specs.declared.layout.Totals.{Totals}
use Rattle.trailer.specs.declared.layout.Trailer.{Trailer}
use Rattle.trailer.specs.Trailers.{trailer_of, closing_of, read_trailer, right_closing, closing_says}

-- what an entry comes to fits the digits that a trailer has for it
pub record Fits (t : Totals) : Type 0 where
  pub payments : t.payments < 10 ^ 8
  pub deductions : t.deductions < 10 ^ 8
  pub sek : t.sek < 10 ^ 18
  pub eur : t.eur < 10 ^ 18

-- all numbers of a trailer fit their digits
pub record Small (t : Trailer) : Type 0 where
  pub records : t.records < 10 ^ 8
  pub entry : t.entry < 10 ^ 8
  pub previous : t.previous < 10 ^ 8
  pub totals : Fits t.totals

pub record TrailerLaws : Type 0 where
  -- a record that is written has 80 bytes
  pub length_trailer : (t : Trailer) → length (trailer_of t) ≡ 80
  pub length_closing : (entries last : ℕ) → length (closing_of entries last) ≡ 80
  -- reading what was written gives the fields back
  pub back : (t : Trailer) (own : ℕ) → Small t → t.previous + t.records + 1 ≡ own → read_trailer (trailer_of t) own ≡ Some t
  -- a right trailer is the one written from its fields
  pub only : (r : List ℕ) (own : ℕ) (t : Trailer) → length r ≡ 80 → read_trailer r own ≡ Some t → (r ≡ trailer_of t) × Small t × (t.previous + t.records + 1 ≡ own)
  -- a closing record that is written is right behind its last trailer, and says its entries
  pub closing_back : (entries last : ℕ) → entries < 10 ^ 8 → last < 10 ^ 8 → (right_closing (closing_of entries last) (last + 1) ≡ true) × (closing_says (closing_of entries last) entries ≡ true)
  -- a right closing record that says so many entries is the one written from them
  pub closing_only : (r : List ℕ) (entries last : ℕ) → length r ≡ 80 → right_closing r (last + 1) ≡ true → closing_says r entries ≡ true → (r ≡ closing_of entries last) × (entries < 10 ^ 8) × (last < 10 ^ 8)
