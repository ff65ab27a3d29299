-- The whole records at the front of bytes, line by line.
use Rattle.std.proofs.Common.{◌≡◌, ℕ, zero, suc, ◌+◌, ◌<◌, ◌≤◌, List, [], ◌∷◌, ◌++◌, length, take, drop, Some, None, Option, sym, ap, ◌∙◌, append_assoc, arith, length-append}
use Rattle.record.specs.declared.lines.LineEnd.{LineEnd}
use Rattle.record.specs.Lines.{cut, width}
use Rattle.manual.specs.Slots.{Slot, whole, broken, after_cut, slots_in, slots}
use Rattle.manual.specs.Slots.{front}
use Rattle.shelf.specs.Answers.{added}
use Rattle.shelf.proofs.Calls.{added_is}
use Rattle.filing.specs.declared.deposits.Deposits.{Deposits}
use Rattle.filing.specs.Entries.{deposits_from, no_deposits}

-- there are no more slots than bytes
cut-few : (n b : ℕ) (bs : List ℕ) → ((e : LineEnd) → length (slots_in n (drop (width e) (b ∷ bs))) ≤ n) → (o : Option LineEnd)
    → length (after_cut o (broken ∷ []) (λ e. whole (take 80 (b ∷ bs)) ∷ slots_in n (drop (width e) (b ∷ bs)))) ≤ suc n
cut-few n b bs few None = omega arith
cut-few n b bs few (Some e) = omega (arith, few e)

slots_in-few : (n : ℕ) (bs : List ℕ) → length (slots_in n bs) ≤ n
slots_in-few zero bs = omega arith
slots_in-few (suc n) [] = omega arith
slots_in-few (suc n) (b ∷ bs) = cut-few n b bs (λ e. slots_in-few n (drop (width e) (b ∷ bs))) (cut (b ∷ bs))

pub slots_few : (bs : List ℕ) → length (slots bs) ≤ length bs
unfolding slots
slots_few bs = slots_in-few (length bs) bs

-- measured so far: what is left gives the whole, and there are at most so many lines
pub record Measuring (cap : ℕ) (all rest : List Slot) (records : ℕ) (deposits : Deposits) : Type 0 where
  pub few : records + length rest ≤ cap
  pub many : records + length (front rest) ≡ length (front all)
  pub sums : deposits_from deposits (front rest) ≡ deposits_from no_deposits (front all)

-- one more record was laid: with those that are left, all are still the same
pub laid_line : (all now after rest left : List (List ℕ)) (room : ℕ) (item : List ℕ) → now ++ rest ≡ all → length all ≤ room → rest ≡ item ∷ left → after ≡ added now room item → after ++ left ≡ all
laid_line all now after rest left room item was few next is =
    let long = length-append now rest in
    let free : length now < room = omega (arith, ap length was, ap length next) in
    ap (λ l. l ++ left) (is ∙ added_is now room item free) ∙ append_assoc now (item ∷ []) left ∙ ap (λ l. now ++ l) (sym next) ∙ was
