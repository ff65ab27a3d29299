-- What is asked of a rider: that it stands where its level says, and then that it is well formed.
use Rattle.std.specs.Prelude.{Bool, false, cond, Some, None, Option}
use Rattle.record.specs.declared.editions.Level.{Level}
use Rattle.record.specs.declared.editions.Level.TheVariants as level
use Rattle.record.specs.declared.classes.Rider.{Rider}
use Rattle.manual.specs.declared.faults.Cause.{Cause}
use Rattle.manual.specs.declared.faults.Cause.TheVariants.{RiderIllFormed, RiderLevel}
use Rattle.manual.specs.declared.places.Place.{Place}
use Rattle.manual.specs.declared.places.Place.TheVariants as place
use Rattle.manual.specs.Judging.{is_file, is_section, is_item}

-- the level of a place, if riders may stand there: file behind start or deposit, section behind opening, item in an item
abbrev pub level_at : Place → Option Level
level_at place.Fresh = None
level_at place.Begun = Some level.File
level_at place.Opened = Some level.Section
level_at (place.Within at) = Some level.Item
level_at place.Between = Some level.File
level_at place.Done = None

abbrev pub one_level : Level → Level → Bool
one_level u v = cond (is_file u) (is_file v) (cond (is_section u) (is_section v) (is_item v))

-- whether a rider of level v may stand at a place of this level, if it has one
abbrev pub stands_at : Option Level → Level → Bool
stands_at None v = false
stands_at (Some u) v = one_level u v

-- why a rider at a place of this level is wrong, if it is: 14 before 13
abbrev pub rider_cause : Option Level → Rider → Option Cause
rider_cause o x = cond (stands_at o x.level) (cond x.formed None (Some RiderIllFormed)) (Some RiderLevel)
