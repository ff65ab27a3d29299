-- The slots of bytes, cut by cut.
use Rattle.std.proofs.Common.{◌≡◌, ℕ, zero, suc, ◌≤◌, List, [], ◌∷◌, length, take, drop, Some, None, Option, refl, ap, arith, length-drop}
use mathlib.Core.Path.{fun_ext}
use Rattle.record.specs.declared.lines.LineEnd.{LineEnd}
use Rattle.record.specs.declared.lines.LineEnd.TheVariants.{Lf, CrLf}
use Rattle.record.specs.Lines.{cut, width}
use Rattle.manual.specs.Slots.{whole, broken, after_cut, slots_in, slots}

pub fewer : (n b : ℕ) (bs : List ℕ) → length (b ∷ bs) ≤ suc n → (e : LineEnd) → length (drop (width e) (b ∷ bs)) ≤ n
fewer n b bs h Lf = omega (arith, length-drop 80 bs)
fewer n b bs h CrLf = omega (arith, length-drop 81 bs)

-- any fuel that is enough gives the same
same_fuel : (n m : ℕ) (bs : List ℕ) → length bs ≤ n → length bs ≤ m → slots_in n bs ≡ slots_in m bs
same_fuel zero zero bs h k = refl
same_fuel zero (suc m) [] h k = refl
same_fuel zero (suc m) (b ∷ bs) h k = absurd (omega arith)
same_fuel (suc n) zero [] h k = refl
same_fuel (suc n) zero (b ∷ bs) h k = absurd (omega arith)
same_fuel (suc n) (suc m) [] h k = refl
same_fuel (suc n) (suc m) (b ∷ bs) h k = on (λ e. same_fuel n m (drop (width e) (b ∷ bs)) (fewer n b bs h e) (fewer m b bs k e)) (cut (b ∷ bs))
  where
    on : ((e : LineEnd) → slots_in n (drop (width e) (b ∷ bs)) ≡ slots_in m (drop (width e) (b ∷ bs))) → (o : Option LineEnd) → after_cut o (broken ∷ []) (λ e. whole (take 80 (b ∷ bs)) ∷ slots_in n (drop (width e) (b ∷ bs))) ≡ after_cut o (broken ∷ []) (λ e. whole (take 80 (b ∷ bs)) ∷ slots_in m (drop (width e) (b ∷ bs)))
    on f None = refl
    on f (Some e) = ap (λ t. whole (take 80 (b ∷ bs)) ∷ t) (f e)

pub slots_nil : slots [] ≡ []
unfolding slots
slots_nil = refl

-- the first cut, and the slots of what is left
pub slots-step : (b : ℕ) (bs : List ℕ) → slots (b ∷ bs) ≡ after_cut (cut (b ∷ bs)) (broken ∷ []) (λ e. whole (take 80 (b ∷ bs)) ∷ slots (drop (width e) (b ∷ bs)))
unfolding slots
slots-step b bs = ap (after_cut (cut (b ∷ bs)) (broken ∷ [])) (fun_ext (λ e. ap (λ t. whole (take 80 (b ∷ bs)) ∷ t) (same_fuel (length bs) _ (drop (width e) (b ∷ bs)) (fewer (length bs) b bs (omega arith) e) (omega arith))))
