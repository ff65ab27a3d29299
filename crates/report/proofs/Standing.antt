-- The plain copy of an entry stands: the theorem of specs/Stands.
use Rattle.std.proofs.Common.{◌≡◌, ℕ, ◌*◌, List, [], map, Ok, sym, refl, ap, ◌∙◌, subst}
use Rattle.std.specs.List.{AllByRecursion}
use Rattle.record.specs.declared.fields.End.{End}
use Rattle.record.specs.declared.classes.Class.TheVariants as class
use Rattle.record.specs.Classes.{class_of}
use Rattle.record.specs.Editions.{Meaning}
use Rattle.manual.specs.Slots.{whole, slots}
use Rattle.manual.specs.Slots.{front}
use Rattle.manual.specs.Judging.{check_of}
use Rattle.manual.specs.Laws.{judging}
use Rattle.manual.specs.Manual.{records, Reading, riders_of, Follows}
use Rattle.manual.proofs.Accepting.{right, front_whole, front_lines}
use Rattle.manual.proofs.Slotting.{slots-lines}
use Rattle.report.specs.Rows.{rows_of}
use Rattle.report.specs.Riders.{Finds}
use Rattle.report.specs.Listing.{records_in}
use Rattle.report.specs.Copies.{plain_records, crlf_lines, copied}
use Rattle.report.specs.Stands.{ReserveBlank, with_riders, CopyStands}
use Rattle.report.proofs.Same.{All-whole, lines_of, lines_laid, lines_records, plain_whole, plain_riders, follows}
use Rattle.report.proofs.Copying.{All-readable, copying, known_all, blank_all, same_rows, same_places, as_many, self_copy, eighty_two, named_copies}

-- the records of records as lines
pub lines_in : (rs : List (List ℕ)) → All-whole rs → records_in (crlf_lines rs) ≡ rs
lines_in rs w =
    ap (λ b. front (slots b)) (lines_laid rs w) ∙ ap front (slots-lines (lines_of rs w)) ∙ ap (λ l. front (map whole l)) (lines_records rs w) ∙ front_whole rs

module _ (m : Meaning) (e : List (List ℕ)) (clean : Finds m e → ⊥) where
  same_tree : (taken : Meaning) (file : List ℕ) (r : Reading) → records_in file ≡ e → Follows taken file r → Follows m (copied m e) (with_riders r.tree (riders_of m e))
  same_tree taken file r is f =
      let lies : records f.lines ≡ e = sym (front_lines taken file r f) ∙ is in
      subst (λ x. Follows m (copied m x) (with_riders r.tree (riders_of m x))) lies (follows m taken file r f (subst (λ x. Finds m x → ⊥) (sym lies) clean))

  same_reading : (file : List ℕ) (r : Reading) → records_in file ≡ e → Follows m file r → Follows m (copied m e) r
  same_reading file r is f =
      let lies : records f.lines ≡ e = sym (front_lines m file r f) ∙ is in
      subst (λ xs. Follows m (copied m e) (with_riders r.tree xs)) (sym (ap (riders_of m) lies) ∙ f.ridden) (same_tree m file r is f)

  accepted : (taken : Meaning) (file : List ℕ) (rows : ℕ) (counts : End) → records_in file ≡ e → check_of (judging rows) taken file ≡ Ok counts → check_of (judging rows) m (copied m e) ≡ Ok counts
  accepted taken file rows counts is h =
      let a = (right rows taken file).accepted counts h in
      (right rows m (copied m e)).accepts (with_riders a.0.tree (riders_of m e)) (same_tree taken file a.0 is a.1) a.2 ∙ ap Ok (sym a.3)

  pub stands : All-whole e → All-readable e → CopyStands m e
  stands w d =
      let c = copying m e w d in
      let kept = plain_whole m e w in
      let is : records_in (copied m e) ≡ plain_records m e = lines_in (plain_records m e) kept in
      record {
        same_reading = same_reading;
        same_tree = same_tree;
        accepted = accepted;
        all_known = subst (AllByRecursion (λ r. class_of m r ≡ class.Unknown → ⊥)) (sym is) (known_all m e (plain_records m e) c);
        blank = subst (AllByRecursion ReserveBlank) (sym is) (blank_all m e (plain_records m e) c);
        riders = ap (riders_of m) is ∙ plain_riders m e w 0;
        rows = ap (rows_of m) is ∙ same_rows m e (plain_records m e) c 1 1;
        places = same_places m e (plain_records m e) c 1;
        numbers = is ∙ named_copies m e e (plain_records m e) c [] 1 refl refl;
        bytes = eighty_two (plain_records m e) kept ∙ ap (λ n. 82 * n) (as_many m e (plain_records m e) c 1);
        again = ap (copied m) is ∙ ap crlf_lines (self_copy m e (plain_records m e) c);
      }
