-- What a shelf's refusal tells: its reason, the layer that refused, and the place.
use Rattle.std.specs.Prelude.{Some, None}
use Rattle.shelf.specs.declared.ShelfFault.{ShelfFault}
use Rattle.shelf.specs.declared.ShelfFault.TheVariants.{Full, NoRecord}
use Rattle.refusal.specs.declared.Refusal.{Refusal}
use Rattle.refusal.specs.declared.Reason.TheVariants.{ShelfFull, NoShelfRecord}
use Rattle.refusal.specs.declared.Layer.TheVariants.{Shelf}
use Rattle.refusal.specs.declared.Place.TheVariants.{Count, ShelfRecord}

abbrev pub refusal_of : ShelfFault → Refusal
-- no place is left, at that many records
refusal_of (Full count) = record { reason = ShelfFull; layer = Shelf; place = Some (Count count); within = None }
-- no record has that number
refusal_of (NoRecord n) = record { reason = NoShelfRecord; layer = Shelf; place = Some (ShelfRecord n); within = None }
