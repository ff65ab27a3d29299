use Rattle.std.proofs.Common.{false, arith}
use Rattle.std.proofs.lemmas.List.FromFn.{get_or-map-range_with_len}
use Rattle.field.specs.Bytes.{is_text}
use Rattle.field.proofs.bytes.text.Goals as goal

-- the table is the test of each byte in turn
pub returns : goal.returns
returns c = get_or-map-range_with_len is_text 0 256 c.args.b c.args.b false (omega arith) (omega arith)
