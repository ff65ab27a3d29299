-- The laws of specs/Laws, together.
use Rattle.record.specs.declared.classes.Class.{Class}
use Rattle.record.specs.Classes.{class_of}
use Rattle.twins.specs.Laws.{TwinLaws}
use Rattle.twins.proofs.Aligning.{reads_alike}
use Rattle.twins.proofs.Checking.{class_blind, checks}
use Rattle.twins.proofs.Rows.{twin_rows, twin_fault}
use Rattle.twins.proofs.Copies.{twin_copies}
use Rattle.twins.proofs.Moves.{moves}

pub laws : TwinLaws
laws = record {
  classes = λ spare m a b t. reads_alike spare Class (class_of m) (class_blind m) a b t;
  checks = checks;
  rows = λ spare m a b p t. twin_rows spare m p a b t;
  riders = λ spare m a b p t. twin_fault spare m p a b t;
  copies = λ spare m a b p t. twin_copies spare m p a b t;
  moves = λ spare a b p t q. moves spare p a b t q;
}
