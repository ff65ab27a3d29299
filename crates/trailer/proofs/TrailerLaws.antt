-- The laws of specs/Laws, together.
use Rattle.trailer.specs.Laws.{TrailerLaws}
use Rattle.trailer.proofs.TrailerRecords.{length_trailer, back, only}
use Rattle.trailer.proofs.ClosingRecords.{length_closing, closing_back, closing_only}

pub laws : TrailerLaws
laws = record {
  length_trailer = length_trailer;
  length_closing = length_closing;
  back = back;
  only = only;
  closing_back = closing_back;
  closing_only = closing_only;
}
