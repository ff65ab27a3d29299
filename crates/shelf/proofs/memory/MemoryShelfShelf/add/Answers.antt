use Rattle.std.proofs.Common.{◌≡◌, ◌+◌, ◌-◌, ◌*◌, ◌<◌, min, [], ◌∷◌, ◌++◌, length, ap, ◌∙◌, arith}
use Rattle.std.proofs.lemmas.Bool.{cond_below}
use Rattle.shelf.specs.Records.{held, places, length_held}
use Rattle.shelf.proofs.Eighties.{held_add}
use Rattle.shelf.proofs.memory.MemoryShelfShelf.add.Goals as goal

pub returns-clause-list : goal.returns-clause-list
returns-clause-list c =
    let bytes = c.args.self.now.bytes.now in
    let count = c.args.self.now.count in
    let n = length c.records-count.result.now in
    let long = length_held bytes count in
    let inside = c.args.self.now.inside in
    let number = c.records-count.ensures.count in
    let after = c.copy_from_slice.ensures.after in
    let size : length c.copy_from_slice.new.self ≡ 80 = ap length after ∙ c.told-item in
    let is : n ≡ min count (places bytes) = omega arith in
    let less : n < places bytes = omega arith in
    let room : length (held bytes count) < places bytes = omega arith in
    let step : 80 * n + 80 - 80 * n ≡ 80 = omega arith in
    held_add bytes count n _ _ is less step size ∙ ap (λ r. held bytes count ++ r ∷ []) after ∙ cond_below _ _ _ _ room
