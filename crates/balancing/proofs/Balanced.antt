-- Entering one by one what records enter, and what is then in the table.
use Rattle.std.proofs.Common.{◌≡◌, ℕ, ◌+◌, ◌<◌, ◌≤◌, List, [], length, get_or, drop, is_some, Some, None, Ok, Err, Option, Result, sym, ap, ◌∙◌, arith}
use Rattle.std.proofs.lemmas.List.{at_drop_more}
use Rattle.std.proofs.lemmas.Bool.{false≢true}
use Rattle.record.specs.declared.classes.Class.{Class}
use Rattle.record.specs.Classes.{class_of}
use Rattle.record.specs.Editions.{bare}
use Rattle.shelf.specs.Records.{Whole}
use Rattle.sums.specs.declared.Row.{Row}
use Rattle.sums.specs.Laws.{keys, go_on, run, distinct}
use Rattle.filing.specs.declared.faults.VolumeFault.TheVariants.{BalanceShort}
use Rattle.filing.specs.declared.standing.Opened.{Opened}
use Rattle.filing.specs.Entries.{reads}
use Rattle.filing.specs.Volumes.{Records, entries_of}
use Rattle.volume.specs.Tokens.{found_on}
use Rattle.volume.proofs.Opened.{laws}
use Rattle.report.specs.declared.pairs.Pair.{Pair}
use Rattle.report.specs.Pairs.{same_pair, no_pair}
use Rattle.report.specs.Balances.{move_class, move_then, pair_class, moves_from, all_records, moves_of, balance_of}
use Rattle.report.proofs.Movements.{moves_few, moves_small}
use Rattle.report.proofs.Totals.{entering, run_is, as_many_rows, rows_few}
use Rattle.balancing.specs.Balancing.{entered_by, balanced, balance_answer, balance_table}
use Rattle.balancing.specs.Stands.{BalanceStands}
use Rattle.filing.specs.declared.faults.VolumeFault.{VolumeFault}
use Rattle.balancing.proofs.Shelved.{volume_moves}
use Rattle.balancing.proofs.Standing.{enough, too_few, stands}

-- ONE MORE ENTRY.

run_step : (n : ℕ) (rows after : List (Row Pair)) (o : Option (Row Pair)) (rest : List (Row Pair)) → Some after ≡ entered_by n rows o → run same_pair n rows (move_then o rest) ≡ run same_pair n after rest
run_step n rows after None rest h = let same : after ≡ rows = cc in ap (λ r. run same_pair n r rest) (sym same)
run_step n rows after (Some e) rest h = ap (λ o. go_on o (λ r. run same_pair n r rest)) (sym h)

run_stop : (n : ℕ) (rows : List (Row Pair)) (o : Option (Row Pair)) (rest : List (Row Pair)) → None ≡ entered_by n rows o → run same_pair n rows (move_then o rest) ≡ None
run_stop n rows None rest h = let z : ◌≡◌ {A = ℕ} 0 1 = cc in absurd (omega arith)
run_stop n rows (Some e) rest h = ap (λ o. go_on o (λ r. run same_pair n r rest)) (sym h)

module _ (rs : Records) (i : ℕ) (inside : i < length rs) (item : List ℕ) (class : Class) (pair : Pair) (o : Option (Row Pair))
    (is : item ≡ get_or rs i []) (of : class ≡ class_of bare item) (enters : o ≡ move_class pair class) where
  left : moves_from pair (drop i rs) ≡ move_then o (moves_from (pair_class pair class) (drop (i + 1) rs))
  left =
      ap (moves_from pair) (at_drop_more (λ l. l) rs i [] inside)
      ∙ (λ j. move_then (move_class pair (class_of bare (sym is j))) (moves_from (pair_class pair (class_of bare (sym is j))) (drop (i + 1) rs)))
      ∙ (λ j. move_then (move_class pair (sym of j)) (moves_from (pair_class pair (sym of j)) (drop (i + 1) rs)))
      ∙ ap (λ x. move_then x (moves_from (pair_class pair class) (drop (i + 1) rs))) (sym enters)

  pub goes_on : (n : ℕ) (rows after : List (Row Pair)) (all : Option (List (Row Pair))) (behind : Pair) → run same_pair n rows (moves_from pair (drop i rs)) ≡ all → Some after ≡ entered_by n rows o → behind ≡ pair_class pair class
      → run same_pair n after (moves_from behind (drop (i + 1) rs)) ≡ all
  goes_on n rows after all behind h e b =
      ap (λ p. run same_pair n after (moves_from p (drop (i + 1) rs))) b
      ∙ sym (run_step n rows after o (moves_from (pair_class pair class) (drop (i + 1) rs)) e) ∙ sym (ap (run same_pair n rows) left) ∙ h

  pub stops : (n : ℕ) (rows : List (Row Pair)) (all : Option (List (Row Pair))) → run same_pair n rows (moves_from pair (drop i rs)) ≡ all → None ≡ entered_by n rows o → None ≡ all
  stops n rows all h e = sym (run_stop n rows o (moves_from (pair_class pair class) (drop (i + 1) rs)) e) ∙ sym (ap (run same_pair n rows) left) ∙ h

-- THE BALANCE of a shelf that was opened.

module _ (rs : Records) (limit : ℕ) (whole : Whole rs) (few : length rs ≤ 500000) (o : Opened) (own : found_on rs limit ≡ Ok o) (n : ℕ) where
  moves_are : moves_from no_pair rs ≡ moves_of (entries_of rs)
  moves_are = ap (moves_from no_pair) (laws.holds reads limit rs o whole own).lies ∙ volume_moves o.standing (entries_of rs) no_pair

  little : length (moves_of (entries_of rs)) ≤ 500000
  little = omega (arith, ap length moves_are, moves_few no_pair rs)

  pub filled : (rows : List (Row Pair)) → Some rows ≡ run same_pair n [] (moves_from no_pair rs) → (rows ≡ balance_of (entries_of rs)) × (length (balance_of (entries_of rs)) ≤ n)
  filled rows h =
      let es = moves_of (entries_of rs) in
      let e : run same_pair n [] es ≡ Some rows = sym (h ∙ ap (run same_pair n []) moves_are) in (
        run_is es little (moves_small no_pair (all_records (entries_of rs))) n rows e,
        omega (arith, (entering.enough n es).0 (ap is_some e), as_many_rows es),
      )

  pub refused : None ≡ run same_pair n [] (moves_from no_pair rs) → n < length (balance_of (entries_of rs))
  refused h =
      let es = moves_of (entries_of rs) in
      let e : run same_pair n [] es ≡ None = sym (h ∙ ap (run same_pair n []) moves_are) in
      let short : distinct same_pair (keys es) ≤ n → ⊥ = λ le. false≢true (sym (ap is_some e) ∙ (entering.enough n es).1 le) in
      omega (arith, as_many_rows es, short)

  pub balanced_ok : (rows : List (Row Pair)) → Some rows ≡ run same_pair n [] (moves_from no_pair rs) → Ok rows ≡ balanced n (entries_of rs)
  balanced_ok rows h =
      let f = filled rows h in
      ap Ok f.0 ∙ sym (enough n (entries_of rs) f.1)

  pub balanced_short : None ≡ run same_pair n [] (moves_from no_pair rs) → Err BalanceShort ≡ balanced n (entries_of rs)
  balanced_short h = sym (too_few n (entries_of rs) (refused h))

  -- it has no more rows than the shelf has records
  pub balance_few : length (balance_of (entries_of rs)) ≤ length rs
  balance_few = omega (arith, rows_few (moves_of (entries_of rs)), ap length moves_are, moves_few no_pair rs)

-- What it comes to.
pub stands_on : (rs : Records) (limit : ℕ) (whole : Whole rs) (few : length rs ≤ 500000) (o : Opened) (own : found_on rs limit ≡ Ok o) (before after : List (Row Pair)) (answer : Result ℕ VolumeFault)
    → answer ≡ balance_answer (balanced (length before) (entries_of rs)) → after ≡ balance_table (balanced (length before) (entries_of rs)) (length before)
    → BalanceStands (entries_of rs) before answer after
stands_on rs limit whole few o own before after answer is left =
    stands (entries_of rs) (laws.holds reads limit rs o whole own).good (little rs limit whole few o own (length before)) before after answer is left
