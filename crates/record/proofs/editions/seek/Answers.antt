use Rattle.std.proofs.Common.{rules, eqb}
use Rattle.std.proofs.lemmas.Iterator.{YieldsList-from_slice}
use Rattle.std.proofs.lemmas.Iterator.Search.{find_from_yields_List}
use Rattle.record.specs.declared.editions.HouseKind.{HouseKind}
use Rattle.record.proofs.editions.seek.Goals as goal

pub returns : goal.returns
returns c =
    let found = find_from_yields_List (λ (k : HouseKind). eqb k.code c.args.code) _ _ c.find.result c.find.ensures.ran (YieldsList-from_slice c.args.kinds.now cc) (λ x b q k. search rules) in
    search (rules, found)
