use Rattle.std.proofs.Common.{refl, ◌∙◌, sym, arith, rules, ◌==◌, None, Some}
use Rattle.std.proofs.lemmas.Iterator.Adapters.{option_map_id}
use Rattle.std.proofs.lemmas.Iterator.Search.{find_from_yields_List}
use Rattle.std.proofs.lemmas.Iterator.Consumers.{YieldsList-from_first}
use Rattle.filing.specs.Volumes.{walk}
use Rattle.entries.specs.Walks.{parts_below, numbered}
use Rattle.entries.proofs.Walks.{found_part, listed, as_many, not-number}
use Rattle.entries.proofs.walking.Walk.find_entry.Goals as goal

pub unreachable-requires : goal.unreachable-requires
unreachable-requires g c =
    let rs = g.S.Shelf.records c.args.self.shelf.now in
    let all = YieldsList-from_first (λ x. x) (λ s. numbered (parts_below (g.S.Shelf.records s.shelf.now) s.at)) {s = c.args.self} _ refl in
    let found = sym (option_map_id c.find.result) ∙ find_from_yields_List (λ x. x.0 == c.args.entry) c.find.new.self _ c.find.result c.find.ensures.ran all (λ x b q k. search rules) in
    let part = found_part rs c.args.entry _ (listed rs c.args.self.at c.args.self.inside) None (sym c.in-None.is ∙ found) in
    let many = as_many (walk rs c.args.self.at c.args.self.at) c.args.self.left c.args.self.walked in
    not-number (parts_below rs c.args.self.at) c.args.entry (sym part.0) c.requires.low (omega (arith, c.requires.high, many))

pub returns : goal.returns
returns g c =
    let rs = g.S.Shelf.records c.args.self.shelf.now in
    let all = YieldsList-from_first (λ x. x) (λ s. numbered (parts_below (g.S.Shelf.records s.shelf.now) s.at)) {s = c.args.self} _ refl in
    let found = sym (option_map_id c.find.result) ∙ find_from_yields_List (λ x. x.0 == c.args.entry) c.find.new.self _ c.find.result c.find.ensures.ran all (λ x b q k. search rules) in
    let part = found_part rs c.args.entry _ (listed rs c.args.self.at c.args.self.inside) (Some (_, c.in-Some.trailer)) (sym c.in-Some.is ∙ found) in
    record { part = sym part.0; inside = part.1 }
