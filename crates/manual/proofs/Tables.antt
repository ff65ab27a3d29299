-- The laws of a table of sums whose keys are numbers.
use Rattle.std.proofs.Common.{eqb, sym, refl, ◌∙◌}
use Rattle.std.proofs.lemmas.Bool.{eqb-true, eq-eqb}
use Rattle.sums.specs.Keys.{Lawful}
use Rattle.sums.specs.Laws.{SumsStand, Entering}
use Rattle.sums.proofs.Laws.{sums_stand}

lawful : Lawful eqb
lawful = record {
  self = λ x. eq-eqb x x refl;
  turned = λ x y h. eq-eqb y x (sym (eqb-true x y h));
  chained = λ x y z h k. eq-eqb x z (eqb-true x y h ∙ eqb-true y z k);
}

pub entering : Entering eqb
unfolding SumsStand
entering = sums_stand eqb lawful
