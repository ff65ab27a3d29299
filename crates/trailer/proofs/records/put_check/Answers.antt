use Rattle.std.proofs.Common.{rules, arith}
use Rattle.std.proofs.lemmas.List.{take_all}
use Rattle.trailer.proofs.records.put_check.Goals as goal

pub returns : goal.returns
returns c = let whole = take_all 80 c.put.new.out (omega arith) in search rules
