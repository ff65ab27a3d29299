use Rattle.std.proofs.Common.{length, ap, arith}
use Rattle.manual.specs.Slots.{front}
use Rattle.manual.specs.Slots.{slots}
use Rattle.filing.specs.Volumes.{entries_of}
use Rattle.volume.specs.Tokens.{open_says}
use Rattle.volume.proofs.Fetched.{walked, inside, entries_walked}
use Rattle.volume.proofs.Taken.{is_same, has_place, has_none}
use Rattle.volume.proofs.taking.admit.Goals as goal

pub of-requires : goal.of-requires
of-requires g c =
    let s = g.S.Shelf in
    let shelf = c.args.shelf.now in
    let rs = s.records shelf in
    let o = open_says c.args.volume.now in
    record { top = inside rs (s.room shelf) (s.laws.whole shelf) o c.requires.own; walked = walked rs (s.room shelf) (s.laws.whole shelf) o c.requires.own }

pub returns-in-Some : goal.returns-in-Some
returns-in-Some g c =
    let s = g.S.Shelf in
    let shelf = c.args.shelf.now in
    let rs = s.records shelf in
    let below = entries_walked rs (s.room shelf) (s.laws.whole shelf) (open_says c.args.volume.now) c.requires.own _ _ (ap s.records c.of.ensures.shelf) c.of.ensures.top in
    is_same (s.room shelf) (length rs) (entries_of rs) (front (slots c.args.file.now)) _ c.file_start-start.ensures c.if-is_marked.ensures _ below _ c.first_with.ensures c.in-Some.entry c.in-Some.is

pub returns-then-count-many : goal.returns-then-count-many
returns-then-count-many g c =
    let s = g.S.Shelf in
    let shelf = c.args.shelf.now in
    let rs = s.records shelf in
    let below = entries_walked rs (s.room shelf) (s.laws.whole shelf) (open_says c.args.volume.now) c.requires.own _ _ (ap s.records c.of.ensures.shelf) c.of.ensures.top in
    has_place (s.room shelf) (length rs) (entries_of rs) (front (slots c.args.file.now)) _ c.file_start-start.ensures c.if-is_marked.ensures _ below _ c.first_with.ensures c.in_default.is (omega (arith, c.if-count-many.true, c.count.ensures, c.limit.ensures, c.requires.counted))

pub returns-else-count-many : goal.returns-else-count-many
returns-else-count-many g c =
    let s = g.S.Shelf in
    let shelf = c.args.shelf.now in
    let rs = s.records shelf in
    let below = entries_walked rs (s.room shelf) (s.laws.whole shelf) (open_says c.args.volume.now) c.requires.own _ _ (ap s.records c.of.ensures.shelf) c.of.ensures.top in
    has_none (s.room shelf) (length rs) (entries_of rs) (front (slots c.args.file.now)) _ c.file_start-start.ensures c.if-is_marked.ensures _ below _ c.first_with.ensures c.in_default.is (omega (arith, c.if-count-many.false, c.count.ensures, c.limit.ensures, c.requires.counted))
