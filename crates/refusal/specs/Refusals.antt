-- A file's refusal as one of all the product's refusals.
use Rattle.std.specs.Prelude.{Some, None}
use Rattle.refusal.specs.declared.FileRefusal.{FileRefusal}
use Rattle.refusal.specs.declared.Refusal.{Refusal}
use Rattle.refusal.specs.declared.Layer.TheVariants.{File}
use Rattle.refusal.specs.declared.Place.TheVariants.{Record}

-- its reason, the layer file, and its record
abbrev pub refusal_of : FileRefusal → Refusal
refusal_of r = record { reason = r.reason; layer = File; place = Some (Record r.at); within = None }
