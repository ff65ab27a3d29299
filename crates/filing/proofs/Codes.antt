-- A closing record begins with `98`, and a trailer does not.
use Rattle.std.proofs.Common.{◌≡◌, ℕ, true, false, refl}
use Rattle.trailer.specs.declared.layout.Trailer.{Trailer}
use Rattle.trailer.specs.Digits.{digits_of}
use Rattle.trailer.specs.Trailers.{trailer_of, closing_of}
use Rattle.filing.specs.Volumes.{begins_98}

pub trailer_code : (t : Trailer) → begins_98 (trailer_of t) ≡ false
unfolding digits_of trailer_of
trailer_code t = refl

pub closing_code : (entries last : ℕ) → begins_98 (closing_of entries last) ≡ true
unfolding digits_of closing_of
closing_code entries last = refl
