use Rattle.std.proofs.Common.{arith}
use Rattle.tifrozel.proofs.Turns.{turn, stops, ends}
use Rattle.tifrozel.proofs.listing.list.Goals as goal

pub loop-rest-preserved : goal.loop-rest-preserved
loop-rest-preserved g c =
    let read = c.in-Ok.ensures in
    let after = c.split_at.ensures in (
      omega (arith, after.back_len, read.within),
      turn _ _ _ _ c.loop-rest.invariant.1 _ c.in-Ok.one c.loop-rest-test.ensures read.value after.back,
    )

pub returns-in-Err : goal.returns-in-Err
returns-in-Err g c = stops _ _ _ _ c.loop-rest.invariant.1 c.in-Err.fault c.loop-rest-test.ensures c.in-Err.ensures.value

pub returns : goal.returns
returns g c = ends _ _ _ _ c.loop-rest.invariant.1 c.loop-rest-test.ensures
