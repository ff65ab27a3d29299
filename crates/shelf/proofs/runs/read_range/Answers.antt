use Rattle.std.proofs.Common.{◌≡◌, ◌+◌, ◌-◌, ◌*◌, ◌/◌, ◌<◌, ◌≤◌, length, get_or, drop, sym, ap, ◌∙◌, arith, length-drop, get_or-drop}
use borrow.Rule.Slice.PartMut.{put_mid}
use Rattle.std.proofs.lemmas.Bool.Decides.{nat_tests}
use Rattle.shelf.proofs.Calls.{copied_is}
use Rattle.shelf.proofs.Flat.{flat-more, whole_drop}
use Rattle.shelf.proofs.runs.read_range.Goals as goal

pub loop-i-preserved : goal.loop-i-preserved
loop-i-preserved g c =
    let rs = g.S.Shelf.records c.args.shelf.now in
    let n = c.args.n in
    let i = c.loop-i.i in
    let out = c.args.out.now in
    let some : 0 < length out / 80 = omega arith in
    let low : 0 < n = grind (arith, nat_tests) in
    let high : n + length out / 80 ≤ length rs + 1 = grind (arith, nat_tests) in
    let rest = drop (n - 1) rs in
    let long = length-drop (n - 1) rs in
    let here : i < length rest = omega arith in
    let step : 80 * i + 80 - 80 * i ≡ 80 = omega arith in
    let at : n - 1 + i ≡ n + i - 1 = omega arith in
    let item = c.copy_from_slice.new.self in
    let d = c.loop-i.item in
    let is : item ≡ get_or rest i d =
    c.copy_from_slice.ensures.after ∙ c.copy.ensures.buffer ∙ copied_is rs (n + i) d (omega arith) (omega arith) ∙ ap (λ m. get_or rs m d) (sym at) ∙ sym (get_or-drop (n - 1) rs i d)
    in
    (c.copy.array_long, ap (λ l. put_mid (80 * i) (80 * i + 80 - 80 * i) l item) c.loop-i.invariant.1 ∙ flat-more rest i _ out item d (whole_drop (n - 1) rs (g.S.Shelf.laws.whole c.args.shelf.now)) here step is)
