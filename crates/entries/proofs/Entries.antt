-- Reading an entry record by record.
use Rattle.std.proofs.Common.{◌≡◌, ℕ, suc, ◌+◌, ◌-◌, ◌<◌, ◌≤◌, List, [], ◌∷◌, length, get_or, take, drop, Ok, Err, Result, sym, ap, ◌∙◌, add-one, arith}
use Rattle.std.specs.List.{between}
use Rattle.std.proofs.lemmas.List.{at_drop_more}
use Rattle.field.specs.Chains.{then}
use Rattle.trailer.specs.declared.layout.Totals.{Totals}
use Rattle.record.specs.declared.fields.End.{End}
use Rattle.record.specs.Editions.{bare}
use Rattle.manual.specs.declared.faults.FileFault.{FileFault}
use Rattle.manual.specs.Judging.{State, begin, judge}
use Rattle.manual.specs.Laws.{not_judging}
use Rattle.file.specs.Judges.{read_step, finished}
use Rattle.file.proofs.Steps.{judge_next}
use Rattle.filing.specs.declared.deposits.Deposits.{Deposits}
use Rattle.filing.specs.Entries.{slot_of, entry_slots, deposits_from, no_deposits, totals_of, reads}

-- An entry es of which what is left, from record n on, at this state gives the whole answer.
module _ (es left : List (List ℕ)) (n : ℕ) (s : State) (leads : judge not_judging bare n s (entry_slots left) ≡ judge not_judging bare 1 begin (entry_slots es)) where
  -- what that comes to with the deposits
  abbrev answered : Result End FileFault → Result Totals FileFault
  answered o = then o (λ e. Ok (totals_of e (deposits_from no_deposits es)))

  -- the next record, and those behind it
  module _ (r : List ℕ) (later : List (List ℕ)) (next : left ≡ r ∷ later) where
    here : (o : Result State FileFault) → o ≡ read_step not_judging bare n s (slot_of r) → then o (λ t. judge not_judging bare (suc n) t (entry_slots later)) ≡ judge not_judging bare 1 begin (entry_slots es)
    here o e =
        ap (λ x. then x (λ t. judge not_judging bare (suc n) t (entry_slots later))) e
        ∙ sym (judge_next not_judging bare n s (slot_of r) (entry_slots later)) ∙ ap (λ l. judge not_judging bare n s (entry_slots l)) (sym next) ∙ leads

    pub read-stop : (f : FileFault) → Err f ≡ read_step not_judging bare n s (slot_of r) → ◌≡◌ {A = Result Totals FileFault} (Err f) (reads es)
    unfolding reads
    read-stop f e = ap answered (here (Err f) e)

    pub read_on : (t : State) → Ok t ≡ read_step not_judging bare n s (slot_of r) → judge not_judging bare (n + 1) t (entry_slots later) ≡ judge not_judging bare 1 begin (entry_slots es)
    read_on t e = ap (λ k. judge not_judging bare k t (entry_slots later)) (add-one n) ∙ here (Ok t) e

  module _ (none : left ≡ []) where
    ended_up : (o : Result End FileFault) → o ≡ finished n s → o ≡ judge not_judging bare 1 begin (entry_slots es)
    ended_up o e = e ∙ ap (λ l. judge not_judging bare n s (entry_slots l)) (sym none) ∙ leads

    pub read_end : (e : End) (x : Deposits) → deposits_from x left ≡ deposits_from no_deposits es → Ok e ≡ finished n s → Ok (totals_of e x) ≡ reads es
    unfolding reads
    read_end e x sums h =
        let is : x ≡ deposits_from no_deposits es = ap (deposits_from x) (sym none) ∙ sums in
        ap (λ y. Ok (totals_of e y)) is ∙ ap answered (ended_up (Ok e) h)

    pub read_unended : (f : FileFault) → Err f ≡ finished n s → ◌≡◌ {A = Result Totals FileFault} (Err f) (reads es)
    unfolding reads
    read_unended f h = ap answered (ended_up (Err f) h)

-- Record n of the entry of so many records behind the first `before`, and those behind it.
module _ (rs : List (List ℕ)) (before count : ℕ) where
  -- the entry from record n on
  abbrev pub left_from : ℕ → List (List ℕ)
  left_from n = between (before + n - 1) (before + count) rs

  pub left-next : before + count ≤ length rs → (n : ℕ) → 1 ≤ n → n ≤ count → left_from n ≡ get_or rs (before + n - 1) [] ∷ left_from (n + 1)
  left-next fits n low high =
      let i : ℕ = before + n - 1 in
      let more : before + count - i ≡ suc (before + count - (before + (n + 1) - 1)) = omega arith in
      let on : i + 1 ≡ before + (n + 1) - 1 = omega arith in
      ap (λ k. take k (drop i rs)) more
      ∙ ap (take (suc (before + count - (before + (n + 1) - 1)))) (at_drop_more (λ l. l) rs i [] (omega arith))
      ∙ ap (λ k. get_or rs i [] ∷ take (before + count - (before + (n + 1) - 1)) (drop k rs)) on

  pub left-none : (n : ℕ) → count < n → left_from n ≡ []
  left-none n past = let none : before + count - (before + n - 1) ≡ 0 = omega arith in ap (λ k. take k (drop (before + n - 1) rs)) none
