-- The laws of specs/Laws, together.
use Rattle.manual.specs.Laws.{CheckLaws}
use Rattle.manual.proofs.Editions.{bare_agrees}
use Rattle.manual.proofs.Lines.{lines_alike}
use Rattle.manual.proofs.Numbers.{number_within}
use Rattle.manual.proofs.CutLines.{cut_at_lines, line_or_none}
use Rattle.manual.proofs.Prefix.{within_lines, line_behind, none_hidden}
use Rattle.manual.proofs.Payers.{unknown_passes, rider_passes, payers_only}

pub laws : CheckLaws
laws = record {
  unknown_passes = unknown_passes;
  rider_passes = rider_passes;
  bare_agrees = bare_agrees;
  lines_alike = lines_alike;
  payers_only = payers_only;
  number_within = number_within;
  first_lines = λ mode m ls rest other f l e. within_lines mode m f ls rest other l e;
  next_line = λ mode m ls rest other f l same e. line_behind mode m f ls rest other same l e;
  none_hidden = none_hidden;
  cut_at_lines = cut_at_lines;
  line_or_none = line_or_none;
}
