-- The example holds.
use Rattle.std.proofs.Common.{◌≡◌, ℕ, List, [], ◌∷◌, Ok, Err, Result, refl, sym, ap, inl, arith}
use Rattle.record.specs.declared.lines.LineEnd.TheVariants.{Lf}
use Rattle.record.specs.Editions.{bare, house}
use Rattle.manual.specs.declared.faults.Cause.TheVariants as cause
use Rattle.manual.specs.declared.faults.FileFault.{FileFault}
use Rattle.manual.specs.Slots.{slots}
use Rattle.manual.specs.Manual.{Line}
use Rattle.trailer.specs.Digits.{digits_of}
use Rattle.trailer.specs.Trailers.{trailer_of, closing_of, read_trailer, right_closing, closing_says}
use Rattle.filing.specs.declared.faults.VolumeFault.{VolumeFault}
use Rattle.filing.specs.declared.faults.VolumeFault.TheVariants.{File, NoRoom}
use Rattle.record.specs.declared.rows.Row.{Row as Shown}
use Rattle.sums.specs.declared.Row.{Row}
use Rattle.report.specs.declared.pairs.Pair.{Pair}
use Rattle.filing.specs.Entries.{reads}
use Rattle.filing.specs.Volumes.{laid, opening, walk, judge}
use Rattle.volume.specs.Examples.{start_line, opening_line, payment_line, line_77, end_line, short_deposit, right_deposit, file_of}
use Rattle.law.specs.Archive.{Told, taken_in, closed, opened, rows, sums}
use Rattle.report.specs.Listing.{records_in}
use Rattle.twins.specs.Twins.{Twins, change, put_in, FollowIn}
use Rattle.twins.specs.Agreeing.{none, more, fault_at}
use Rattle.twins.proofs.Following.{laws}
use Rattle.record.specs.Editions.{Meaning}
use Rattle.law.specs.TwoRuns.{SameEdition, takes_in, closes, opens, shows, balances, NotFull}
use Rattle.law.specs.Example.{short, short_77, right, right_77, spare, TwinExample}

abbrev before : Line
before = record { bytes = start_line; ending = Lf; is_whole = (refl, refl) }

abbrev between_them : List Line
between_them = record { bytes = opening_line; ending = Lf; is_whole = (refl, refl) } ∷ record { bytes = payment_line; ending = Lf; is_whole = (refl, refl) } ∷ []

abbrev unknown : Line
unknown = record { bytes = line_77; ending = Lf; is_whole = (refl, refl) }

twins_short : Twins spare short short_77
twins_short = change _ _ (put_in before between_them unknown (file_of (short_deposit ∷ end_line ∷ [])) refl)

twins_right : Twins spare right right_77
twins_right = change _ _ (put_in before between_them unknown (file_of (right_deposit ∷ end_line ∷ [])) refl)

itself : (m : Meaning) → SameEdition m m
itself m = ((λ c line known whole coded. (refl, refl)), (λ c line known whole coded. (refl, refl)))

-- neither 11 nor 22
not_full : (r : Result ℕ VolumeFault) → ((n : ℕ) → r ≡ Err (File (fault_at n cause.TooMany)) → ⊥) → (r ≡ Err NoRoom → ⊥) → NotFull (taken_in r)
not_full r f g = record { few_records = λ n e. f n cc; has_room = λ e. g cc }

taken_not : (k : ℕ) → NotFull (taken_in (Ok k))
taken_not k = not_full (Ok k) (λ n e. cc) (λ e. cc)

deposit_not : (n : ℕ) → NotFull (taken_in (Err (File (fault_at n cause.Deposit))))
deposit_not n = not_full _ (λ i e. let q : fault_at n cause.Deposit ≡ fault_at i cause.TooMany = cc in let d : cause.Deposit ≡ cause.TooMany = ap (λ (f : FileFault). f.cause) q in cc) (λ e. cc)

rows_not : (r : Result ℕ VolumeFault) (t : List Shown) → NotFull (rows r t)
rows_not r t = record { few_records = λ n e. cc; has_room = λ e. cc }

sums_not : (r : Result ℕ VolumeFault) (t : List (Row Pair)) → NotFull (sums r t)
sums_not r t = record { few_records = λ n e. cc; has_room = λ e. cc }

closed_not : NotFull closed
closed_not = record { few_records = λ n e. cc; has_room = λ e. cc }

opened_not : (r : Result Told VolumeFault) → NotFull (opened r)
opened_not r = record { few_records = λ n e. cc; has_room = λ e. cc }

follow_short : FollowIn spare short short_77 4 5
unfolding slots
follow_short = inl (3, refl, refl)

pub holds : TwinExample
unfolding slots reads digits_of trailer_of closing_of read_trailer right_closing closing_says laid opening walk judge
holds = record {
  allowed = (tt, (tt, (tt, (tt, (tt, (tt, tt))))));
  same = record {
    spares = λ c h. h;
    some = omega arith;
    bound = omega arith;
    same = more _ _ _ _ (takes_in short short_77 bare bare 1 (itself bare) twins_short) (more _ _ _ _ (takes_in right right_77 house house 1 (itself house) twins_right)
        (more _ _ _ _ (shows 1 house house [] (itself house)) (more _ _ _ _ (balances []) (more _ _ _ _ closes (more _ _ _ _ opens none)))));
    never = (deposit_not 4, (taken_not 1, (rows_not _ _, (sums_not _ _, (closed_not, (opened_not _, tt))))));
    never_other = (deposit_not 5, (taken_not 1, (rows_not _ _, (sums_not _ _, (closed_not, (opened_not _, tt))))));
  };
  one = refl;
  other = refl;
  follows = follow_short;
  alone = λ n f. sym (laws.one spare (records_in short) (records_in short_77) 4 5 n follow_short f);
  numbers = refl;
  numbers_77 = refl;
}
