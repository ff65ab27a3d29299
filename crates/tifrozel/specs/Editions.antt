-- The editions that a command can name.
use Rattle.record.specs.Editions.{Meaning, bare, house}
use Rattle.tifrozel.specs.declared.words.EditionName.{EditionName}
use Rattle.tifrozel.specs.declared.words.EditionName.TheVariants.{Bare, House}

-- what the edition of this name means
abbrev pub meant : EditionName → Meaning
meant Bare = bare
meant House = house
