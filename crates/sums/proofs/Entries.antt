-- One entry into the first rows of a slice, as the code makes it. Assumes nothing.
use Rattle.std.proofs.Common.{◌≡◌, ℕ, ◌+◌, ◌<◌, ◌≤◌, Bool, List, [], ◌∷◌, ◌++◌, length, get_or, take, drop, set, Some, None, Option, sym, ap, ◌∙◌, add-one, arith, take-append-drop}
use Rattle.std.proofs.lemmas.List.{length-take-le, get_or-take, set-append_left, length_push, length-set, set_split, append_assoc, take_at, length-append}
use Rattle.sums.specs.declared.Row.{Row}
use Rattle.sums.specs.Keys.{Lawful}
use Rattle.sums.specs.Table.{place, grown, enter}
use Rattle.sums.specs.Laws.{Entered}
use Rattle.sums.proofs.Tables.{enter_new, enter_full, enter_at}
use Rattle.sums.proofs.Laws.{sums_stand}

module _ {K : Type 0} (same : K → K → Bool) (law : Lawful same) (rows : List (Row K)) (used : ℕ) (within : used ≤ length rows) (e : Row K) where
  abbrev out : Option (List (Row K))
  out = enter same (length rows) (take used rows) e.key e.added e.taken

  -- n rows u are then in use, at the front of the slice
  made : (u after : List (Row K)) (n : ℕ) → out ≡ Some u → length u ≡ n → after ≡ u ++ drop n rows → Entered same used e.key e.added e.taken rows after (Some n)
  made u after n is long whole =
      let front : take n after ≡ u = ap (take n) whole ∙ take_at u (drop n rows) n long in
      record {
        within = omega (arith, ap length whole, length-append u (drop n rows));
        answer = rw (is, long);
        table = rw (is, long) whole;
        held = ap Some front ∙ sym is;
        laws = sums_stand same law;
      }

  -- the rows in use are `held`, as the code looks through them
  module _ (held : List (Row K)) (is_held : held ≡ take used rows) where
    long : length (take used rows) ≡ used
    long = length-take-le used rows within

    -- a new key, whose row is put behind those in use
    pub puts : None ≡ place same held e.key → (used ≡ length rows → ⊥) → Entered same used e.key e.added e.taken rows (set rows used e) (Some (used + 1))
    puts new not_full =
        let room : used < length rows = omega (arith, not_full) in
        made (take used rows ++ e ∷ []) (set rows used e) (used + 1)
        (enter_new same e.key e.added e.taken (length rows) (take used rows) (rw is_held at new) (omega (arith, long)))
        (length_push (take used rows) e ∙ ap (λ n. n + 1) long)
        (set_split rows used e room ∙ simp (append_assoc, add-one))

    -- a new key, where all rows are in use
    pub refuses : None ≡ place same held e.key → used ≡ length rows → Entered same used e.key e.added e.taken rows rows None
    refuses new full =
        let is : out ≡ None = enter_full same e.key e.added e.taken (length rows) (take used rows) (rw is_held at new) (omega (arith, long)) in
        record { within = tt; answer = rw is; table = rw is; held = sym is; laws = sums_stand same law }

    -- a key that has a row, at i: s is written there
    pub adds : (i : ℕ) (r s : Row K) → i < length held → Some i ≡ place same held e.key → s ≡ grown (get_or rows i r) e.added e.taken → Entered same used e.key e.added e.taken rows (set rows i s) (Some used)
    adds i r s lt there grew =
        let below : i < used = omega (arith, ap length is_held, long) in
        made (set (take used rows) i s) (set rows i s) used
        (enter_at same e.key e.added e.taken (length rows) (take used rows) i r (rw is_held at there) (omega (arith, long)) ∙ ap (λ z. Some (set (take used rows) i z)) (ap (λ z. grown z e.added e.taken) (get_or-take used rows i r below) ∙ sym grew))
        (length-set (take used rows) i s ∙ long)
        (ap (λ l. set l i s) (sym (take-append-drop used rows)) ∙ set-append_left (take used rows) (drop used rows) i s (omega (arith, long)))
