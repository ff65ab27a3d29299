-- What `eighties` and `held` are: lengths, places, one record more.
use Rattle.std.proofs.Common.{◌≡◌, ℕ, zero, suc, ◌+◌, ◌-◌, ◌*◌, ◌<◌, ◌≤◌, min, List, [], ◌∷◌, ◌++◌, length, take, drop, sym, refl, ap, ◌∙◌, arith, rules}
use borrow.Rule.Slice.PartMut.{put_mid}
use Rattle.std.proofs.lemmas.List.{drop-drop, drop-take, take-take, places as list_places}
use Rattle.std.proofs.lemmas.Slice.{take-put_mid_below, between-put_mid}
use Rattle.shelf.specs.Records.{eighties, places, held, length_held}

-- the first of more
pub take-eighties : (c n : ℕ) (bytes : List ℕ) → c ≤ n → take c (eighties n bytes) ≡ eighties c bytes
take-eighties zero n bytes h = refl
take-eighties (suc c) zero bytes h = absurd (omega arith)
take-eighties (suc c) (suc n) bytes h = ap (λ rs. take 80 bytes ∷ rs) (take-eighties c n (drop 80 bytes) (omega arith))

-- one record more, at the end
pub eighties-more : (n : ℕ) (bytes : List ℕ) → eighties (n + 1) bytes ≡ eighties n bytes ++ take 80 (drop (80 * n) bytes) ∷ []
eighties-more zero bytes = refl
eighties-more (suc n) bytes =
    let e : suc n + 1 ≡ suc (n + 1) = omega arith in
    let m : 80 + 80 * n ≡ 80 * suc n = omega arith in
    ap (λ k. eighties k bytes) e
    ∙ ap (λ rs. take 80 bytes ∷ rs) (eighties-more n (drop 80 bytes) ∙ ap (λ r. eighties n (drop 80 bytes) ++ take 80 r ∷ []) (drop-drop (80 * n) 80 bytes ∙ ap (λ k. drop k bytes) m))

-- only the first 80 * n bytes count
pub eighties-front : (n : ℕ) (bytes : List ℕ) → eighties n (take (80 * n) bytes) ≡ eighties n bytes
eighties-front zero bytes = refl
eighties-front (suc n) bytes =
    let m : 80 * suc n ≡ 80 + 80 * n = omega arith in
    ap (λ k. eighties (suc n) (take k bytes)) m
    ∙ ap (λ r. r ∷ eighties n (drop 80 (take (80 + 80 * n) bytes))) (take-take 80 (80 + 80 * n) bytes (omega arith))
    ∙ ap (λ r. take 80 bytes ∷ r) (ap (eighties n) (drop-take 80 (80 * n) bytes) ∙ eighties-front n (drop 80 bytes))

pub eighties-same : (n : ℕ) (xs ys : List ℕ) → take (80 * n) xs ≡ take (80 * n) ys → eighties n xs ≡ eighties n ys
eighties-same n xs ys e = sym (eighties-front n xs) ∙ ap (eighties n) e ∙ eighties-front n ys

-- A write of 80 bytes within a run leaves its length.
pub length-put : (bytes : List ℕ) (a k : ℕ) (item : List ℕ) → k ≡ 80 → length item ≡ 80 → a + 80 ≤ length bytes → length (put_mid a k bytes item) ≡ length bytes
length-put bytes a k item e l h = search (rules, list_places)

-- One record more behind the c that are held.
pub held_add : (bytes : List ℕ) (count c k : ℕ) (item : List ℕ) → c ≡ min count (places bytes) → c < places bytes → k ≡ 80 → length item ≡ 80 → held (put_mid (80 * c) k bytes item) (c + 1) ≡ held bytes count ++ item ∷ []
held_add bytes count c k item is h e l =
    let ys = put_mid (80 * c) k bytes item in
    let fits : 80 * c + 80 ≤ length bytes = omega arith in
    let long : length ys ≡ length bytes = length-put bytes (80 * c) k item e l fits in
    let n : min (c + 1) (places ys) ≡ c + 1 = omega arith in
    let front : eighties c ys ≡ eighties c bytes = eighties-same c ys bytes (take-put_mid_below (80 * c) k bytes item (80 * c) (omega arith) (omega arith)) in
    let step : 80 * c + 80 - 80 * c ≡ 80 = omega arith in
    let last : take 80 (drop (80 * c) ys) ≡ item = ap (λ m. take m (drop (80 * c) ys)) (sym step) ∙ between-put_mid (80 * c) k bytes item (80 * c + 80) (omega arith) (omega arith) in
    ap (λ m. eighties m ys) n ∙ eighties-more c ys ∙ ap (λ r. eighties c ys ++ r ∷ []) last ∙ ap (λ r. r ++ item ∷ []) front ∙ ap (λ m. eighties m bytes ++ item ∷ []) is

-- A list that is held at one count is held at another that cuts to its length.
pub held_recount : (bytes : List ℕ) (x count : ℕ) (rs : List (List ℕ)) → held bytes x ≡ rs → min count (places bytes) ≡ length rs → held bytes count ≡ rs
held_recount bytes x count rs e l =
    let n : min count (places bytes) ≡ min x (places bytes) = l ∙ ap length (sym e) ∙ length_held bytes x in
    ap (λ k. eighties k bytes) n ∙ e
