-- The balance of entries, each of which has a tree, is that of the trees' sections.
use Rattle.std.proofs.Common.{◌≡◌, ℕ, ◌<◌, ◌≤◌, leb, List, [], ◌∷◌, ◌++◌, length, Ok, Err, Result, sym, refl, ap, ◌∙◌, subst, arith}
use Rattle.std.specs.List.{AllByRecursion}
use Rattle.std.proofs.lemmas.Bool.{cond-true, cond-false, le-leb, lt-leb}
use Rattle.sums.specs.declared.Row.{Row}
use Rattle.manual.specs.Manual.{Section, SectionAdds}
use Rattle.filing.specs.declared.faults.VolumeFault.{VolumeFault}
use Rattle.filing.specs.declared.faults.VolumeFault.TheVariants.{BalanceShort}
use Rattle.filing.specs.Entries.{reads}
use Rattle.filing.specs.Laws.{All-good}
use Rattle.filing.specs.Refusals.{RefusedBy}
use Rattle.filing.specs.Volumes.{Records}
use Rattle.filing.proofs.Giving.{cond_gives}
use Rattle.filing.proofs.Readings.{entry_laws}
use Rattle.report.specs.declared.pairs.Pair.{Pair}
use Rattle.report.specs.Pairs.{no_pair}
use Rattle.report.specs.Balances.{moves_from, all_records, moves_of, balance_of, summed_rows}
use Rattle.report.specs.Sections.{Balances, pairs}
use Rattle.report.proofs.Movements.{sections_moves, sections_append, Small, pair_behind, moves-append, moves_small, tree_moves}
use Rattle.report.proofs.Totals.{balances, as_many, rows_below, Below63}
use Rattle.balancing.specs.Balancing.{balanced, balance_answer, balance_table, of_balancing}
use Rattle.balancing.specs.Stands.{SectionsIn, none, more, BalanceStands}

-- entries that can be read have sections
pub has_sections : (es : List Records) → All-good reads es → (ss : List Section) × SectionsIn es ss
has_sections [] h = ([], none)
has_sections (e ∷ es) h =
    let c = (entry_laws.comes e h.0.totals).0 h.0.is in
    let rest = has_sections es h.1 in
    (c.tree.sections ++ rest.0, more e c.tree es rest.0 c.follows rest.1)

all_append : (xs ys : List Section) → AllByRecursion SectionAdds xs → AllByRecursion SectionAdds ys → AllByRecursion SectionAdds (xs ++ ys)
all_append [] ys h k = k
all_append (x ∷ xs) ys h k = (h.0, all_append xs ys h.1 k)

all_add : (es : List Records) (ss : List Section) → SectionsIn es ss → AllByRecursion SectionAdds ss
all_add _ _ none = tt
all_add _ _ (more e t es ss r rest) = all_append t.sections ss r.reads.each_section (all_add es ss rest)

-- what their records enter, behind any section, is what their sections come to
entries_moves : (es : List Records) (ss : List Section) → SectionsIn es ss → (p : Pair) → moves_from p (all_records es) ≡ sections_moves ss
entries_moves _ _ none p = refl
entries_moves _ _ (more e t es ss r rest) p =
    moves-append p e (all_records es)
    ∙ (λ i. tree_moves e t r.reads.read p i ++ entries_moves es ss rest (pair_behind p e) i)
    ∙ sym (sections_append t.sections ss)

module _ (es : List Records) (ss : List Section) (of : SectionsIn es ss) (few : length (moves_of es) ≤ 500000) where
  entered : moves_of es ≡ sections_moves ss
  entered = entries_moves es ss of no_pair

  few_entered : length (sections_moves ss) ≤ 500000
  few_entered = omega (arith, few, ap length entered)

  small_entered : Small (sections_moves ss)
  small_entered = subst Small entered (moves_small no_pair (all_records es))

  balance_is : balance_of es ≡ summed_rows (sections_moves ss)
  balance_is = ap summed_rows entered

  pub right : Balances ss (balance_of es)
  right = subst (Balances ss) (sym balance_is) (balances ss (all_add es ss of) few_entered small_entered)

  pub many : length (balance_of es) ≡ pairs ss
  many = ap length balance_is ∙ as_many ss (all_add es ss of)

  pub below : AllByRecursion Below63 (balance_of es)
  below = subst (AllByRecursion Below63) (sym balance_is) (rows_below (sections_moves ss) few_entered small_entered)

-- by the number of rows
pub enough : (n : ℕ) (es : List Records) → length (balance_of es) ≤ n → balanced n es ≡ Ok (balance_of es)
enough n es le = cond-true (leb (length (balance_of es)) n) (Ok (balance_of es)) (Err BalanceShort) (le-leb _ _ le)

pub too_few : (n : ℕ) (es : List Records) → n < length (balance_of es) → balanced n es ≡ Err BalanceShort
too_few n es lt = cond-false (leb (length (balance_of es)) n) (Ok (balance_of es)) (Err BalanceShort) (lt-leb _ _ lt)

pub stands : (es : List Records) → All-good reads es → length (moves_of es) ≤ 500000 → (before after : List (Row Pair)) (answer : Result ℕ VolumeFault)
    → answer ≡ balance_answer (balanced (length before) es) → after ≡ balance_table (balanced (length before) es) (length before) → BalanceStands es before answer after
stands es good few before after answer is left =
    let of = has_sections es good in
    let n = length before in
    let as_pairs : length (balance_of es) ≡ pairs of.0 = many es of.0 of.1 few in
    record {
      sections = of.0;
      lie = of.1;
      balance = balance_of es;
      right = right es of.0 of.1 few;
      many = as_pairs;
      below = below es of.0 of.1 few;
      fills = λ le.
          let ok = enough n es (omega (arith, le, as_pairs)) in
          (is ∙ ap balance_answer ok, left ∙ ap (λ b. balance_table b n) ok);
      short = λ lt.
          let no = too_few n es (omega (arith, lt, as_pairs)) in
          (is ∙ ap balance_answer no, left ∙ ap (λ b. balance_table b n) no);
    }

-- The refusal's number.

number_gives : (r : Result (List (Row Pair)) VolumeFault) → RefusedBy of_balancing r → RefusedBy of_balancing (balance_answer r)
number_gives (Ok rows) h = tt
number_gives (Err f) h = h

pub answer_gives : (n : ℕ) (es : List Records) (answer : Result ℕ VolumeFault) → answer ≡ balance_answer (balanced n es) → RefusedBy of_balancing answer
answer_gives n es answer is =
    subst (RefusedBy of_balancing) (sym is)
    (number_gives (balanced n es) (cond_gives of_balancing (leb (length (balance_of es)) n) (Ok (balance_of es)) (Err BalanceShort) tt (0, omega arith, refl)))
