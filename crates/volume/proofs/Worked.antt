-- The worked examples hold: each is computed.
use Rattle.std.proofs.Common.{refl}
use Rattle.trailer.specs.Digits.{digits_of}
use Rattle.trailer.specs.Trailers.{trailer_of, closing_of}
use Rattle.manual.specs.Slots.{slots}
use Rattle.filing.specs.Entries.{reads}
use Rattle.filing.specs.Volumes.{opening, walk, judge}
use Rattle.volume.specs.Examples.{ExamplesHold}

pub hold : ExamplesHold
unfolding slots reads digits_of trailer_of closing_of opening walk judge
hold = record {
  printed = refl;
  no_bytes = record { under_bare = refl; under_house = refl; numbered = refl; placed = refl };
  accepted = record { under_bare = refl; under_house = refl };
  payment_class = refl;
  payment_row = refl;
  short = record { under_bare = refl; under_house = refl; numbered = refl; placed = refl };
  short_later = record { under_bare = refl; under_house = refl; numbered = refl; placed = refl };
  unknown_passes = record { under_bare = refl; under_house = refl };
  six_places = record { own = refl; under_bare = refl; under_house = refl };
  no_room = refl;
  seven_places = record { own = refl; under_bare = refl; under_house = refl };
  no_date = record { under_bare = refl; under_house = refl; numbered = refl; placed = refl };
  leap_day = record { under_bare = refl; under_house = refl };
  closing = refl;
  closing_laid = refl;
  trailer = refl;
  trailer_laid = refl;
}
