use Rattle.std.proofs.Common.{◌≡◌, ◌/◌, ◌≤◌, min, length, take, sym, ap, ◌∙◌, arith}
use Rattle.shelf.specs.Records.{places, eighties}
use Rattle.shelf.proofs.Eighties.{take-eighties}
use Rattle.shelf.proofs.memory.MemoryShelf.records.Goals as goal

pub returns-clause-list : goal.returns-clause-list
returns-clause-list c =
    let bytes = c.args.self.now.bytes.now in
    let count = c.args.self.now.count in
    let inside = c.args.self.now.inside in
    let some : count ≤ length bytes / 80 = omega arith in
    let all : min count (places bytes) ≡ count = omega arith in
    ap (take count) c.as_chunks.ensures.front ∙ take-eighties count (length bytes / 80) bytes some ∙ ap (λ k. eighties k bytes) (sym all)
