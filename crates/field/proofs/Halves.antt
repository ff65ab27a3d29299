-- The number of a part is that of its front, times ten for each digit behind it, and that of its back.
use Rattle.std.proofs.Common.{◌≡◌, ℕ, suc, ◌+◌, ◌-◌, ◌*◌, ◌^◌, true, false, cond, List, [], ◌∷◌, ◌++◌, length, take, drop, Some, None, Option, sym, refl, ap, ◌∙◌, mul_assoc, mul_comm, add-mul, pow-suc, zero-add, arith, length-drop}
use Rattle.std.specs.List.{between}
use Rattle.std.proofs.lemmas.List.{take_all, take-append-drop}
use Rattle.std.specs.Option.{option_map}
use Rattle.field.specs.Bytes.{is_digit}
use Rattle.field.specs.Chains.{and_then}
use Rattle.field.specs.Numbers.{number_after, number_of}

-- one digit d behind n, and k more that write m
module _ (n d k : ℕ) where
  moved : (m : ℕ) → (n * 10 + d) * 10 ^ k + m ≡ n * 10 ^ suc k + (d * 10 ^ k + m)
  moved m =
      rw (pow-suc 10 k)
      (omega (arith, add-mul (n * 10) d (10 ^ k), mul_assoc n 10 (10 ^ k), mul_comm 10 (10 ^ k), mul_assoc n (10 ^ k) 10))

  moved_both : (x : Option ℕ) → option_map (λ m. (n * 10 + d) * 10 ^ k + m) x ≡ option_map (λ m. n * 10 ^ suc k + m) (option_map (λ m. d * 10 ^ k + m) x)
  moved_both None = refl
  moved_both (Some m) = ap Some (moved m)

-- digits behind n are n moved up, and those digits
one_more : (n b : ℕ) (bs : List ℕ) → ((k : ℕ) → number_after k bs ≡ option_map (λ m. k * 10 ^ length bs + m) (number_after 0 bs)) → number_after (n * 10 + (b - 48)) bs ≡ option_map (λ m. n * 10 ^ suc (length bs) + m) (number_after (0 + (b - 48)) bs)
one_more n b bs on =
    let d = b - 48 in
    let alone : number_after (0 + d) bs ≡ option_map (λ m. d * 10 ^ length bs + m) (number_after 0 bs) = rw zero-add (on d) in
    on (n * 10 + d) ∙ moved_both n d (length bs) (number_after 0 bs) ∙ ap (option_map (λ m. n * 10 ^ suc (length bs) + m)) (sym alone)

pub shifted : (bs : List ℕ) (n : ℕ) → number_after n bs ≡ option_map (λ m. n * 10 ^ length bs + m) (number_after 0 bs)
shifted [] n = ap Some (omega arith)
shifted (b ∷ bs) n =
    elim (is_digit b) as (λ t. cond t (number_after (n * 10 + (b - 48)) bs) None ≡ option_map (λ m. n * 10 ^ suc (length bs) + m) (cond t (number_after (0 + (b - 48)) bs) None)) [
      | true ↦ one_more n b bs (shifted bs)
      | false ↦ refl
    ]

pub joined : (n : ℕ) (xs ys : List ℕ) → number_after n (xs ++ ys) ≡ and_then (number_after n xs) (λ h. option_map (λ m. h * 10 ^ length ys + m) (number_after 0 ys))
joined n [] ys = shifted ys n
joined n (x ∷ xs) ys = elim (is_digit x) as (λ t. cond t (number_after (n * 10 + (x - 48)) (xs ++ ys)) None ≡ and_then (cond t (number_after (n * 10 + (x - 48)) xs) None) (λ h. option_map (λ m. h * 10 ^ length ys + m) (number_after 0 ys))) [ true ↦ joined (n * 10 + (x - 48)) xs ys | false ↦ refl ]

-- twenty digits are two halves of ten
pub halves : (bs : List ℕ) → length bs ≡ 20 → number_of bs ≡ and_then (number_of (between 0 10 bs)) (λ h. option_map (λ m. h * 10000000000 + m) (number_of (between 10 20 bs)))
halves bs h =
    let back : drop 10 bs ≡ between 10 20 bs = sym (take_all 10 (drop 10 bs) (simp length-drop (omega arith))) in
    let ten : length (between 10 20 bs) ≡ 10 = ap length (sym back) ∙ simp length-drop (omega arith) in
    let whole : take 10 bs ++ between 10 20 bs ≡ bs = ap (λ r. take 10 bs ++ r) (sym back) ∙ take-append-drop 10 bs in
    ap number_of (sym whole) ∙ joined 0 (take 10 bs) (between 10 20 bs) ∙ ap (λ k. and_then (number_of (take 10 bs)) (λ h. option_map (λ m. h * 10 ^ k + m) (number_of (between 10 20 bs)))) ten
