-- The bytes of records, one behind the other: how many they are, and one record more written behind them.
use Rattle.std.proofs.Common.{◌≡◌, ℕ, zero, suc, ◌+◌, ◌*◌, ◌<◌, List, [], ◌∷◌, ◌++◌, length, get_or, take, drop, sym, refl, ap, ◌∙◌, append_assoc, arith, length-append}
use borrow.Rule.Slice.PartMut.{put_mid}
use Rattle.std.proofs.lemmas.List.{append-nil, drop-drop, take_at, drop_at, take_more, length-take-le}
use Rattle.shelf.specs.Records.{Whole, flat}

pub whole_take : (n : ℕ) (rs : List (List ℕ)) → Whole rs → Whole (take n rs)
whole_take zero rs h = tt
whole_take (suc n) [] h = tt
whole_take (suc n) (r ∷ rs) h = (h.0, whole_take n rs h.1)

pub whole_drop : (n : ℕ) (rs : List (List ℕ)) → Whole rs → Whole (drop n rs)
whole_drop zero rs h = h
whole_drop (suc n) [] h = tt
whole_drop (suc n) (r ∷ rs) h = whole_drop n rs h.1

pub length-flat : (rs : List (List ℕ)) → Whole rs → length (flat rs) ≡ 80 * length rs
length-flat [] h = refl
length-flat (r ∷ rs) h = omega (arith, length-append r (flat rs), length-flat rs h.1, h.0)

flat_push : (rs : List (List ℕ)) (r : List ℕ) → flat (rs ++ r ∷ []) ≡ flat rs ++ r
flat_push [] r = append-nil r
flat_push (x ∷ rs) r = ap (λ l. x ++ l) (flat_push rs r) ∙ sym (append_assoc x (flat rs) r)

-- i records lie at the front of a run of bytes, and the next is written behind them; k is 80
pub flat-more : (rs : List (List ℕ)) (i k : ℕ) (out item d : List ℕ) → Whole rs → i < length rs → k ≡ 80 → item ≡ get_or rs i d → put_mid (80 * i) k (flat (take i rs) ++ drop (80 * i) out) item ≡ flat (take (i + 1) rs) ++ drop (80 * (i + 1)) out
flat-more rs i k out item d whole here e is =
    let front = flat (take i rs) in
    let rest = drop (80 * i) out in
    let size : length front ≡ 80 * i = length-flat (take i rs) (whole_take i rs whole) ∙ ap (λ n. 80 * n) (length-take-le i rs (omega arith)) in
    let before : take (80 * i) (front ++ rest) ≡ front = take_at front rest (80 * i) size in
    let next : 80 * i + k ≡ 80 * (i + 1) = omega arith in
    let behind : drop k (drop (80 * i) (front ++ rest)) ≡ drop (80 * (i + 1)) out = ap (drop k) (drop_at front rest (80 * i) size) ∙ drop-drop k (80 * i) out ∙ ap (λ n. drop n out) next in
    let more : flat (take (i + 1) rs) ≡ front ++ item = ap flat (take_more rs i d here) ∙ flat_push (take i rs) (get_or rs i d) ∙ ap (λ r. front ++ r) (sym is) in
    ap (λ l. l ++ (item ++ drop k (drop (80 * i) (front ++ rest)))) before
    ∙ ap (λ l. front ++ (item ++ l)) behind
    ∙ sym (append_assoc front item (drop (80 * (i + 1)) out))
    ∙ ap (λ l. l ++ drop (80 * (i + 1)) out) (sym more)
