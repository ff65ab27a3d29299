-- What an entry into the payers' table says of the judging machine.
use Rattle.std.proofs.Common.{◌≡◌, ℕ, Bool, true, false, cond, eqb, leb, List, length, Some, None, refl, arith}
use Rattle.sums.specs.declared.Row.{Row}
use Rattle.sums.specs.Table.{entered, enter}

by_some : (b : Bool) (x e : List (Row ℕ)) → Some x ≡ cond b (Some e) None → (true ≡ b) × (x ≡ e)
by_some true x e h = (refl, cc)
by_some false x e h = let z : ◌≡◌ {A = ℕ} 0 1 = cc in absurd (omega arith)

by_none : (b : Bool) (e : List (Row ℕ)) → None ≡ cond b (Some e) None → false ≡ b
by_none true e h = let z : ◌≡◌ {A = ℕ} 0 1 = cc in absurd (omega arith)
by_none false e h = refl

module _ (cap : ℕ) (rows : List (Row ℕ)) (p a t : ℕ) where
  pub finds-room : (after : List (Row ℕ)) → Some after ≡ enter eqb cap rows p a t → (true ≡ leb (length (entered eqb rows p a t)) cap) × (after ≡ entered eqb rows p a t)
  unfolding enter
  finds-room after h = by_some (leb (length (entered eqb rows p a t)) cap) after (entered eqb rows p a t) h

  pub no_room : None ≡ enter eqb cap rows p a t → false ≡ leb (length (entered eqb rows p a t)) cap
  unfolding enter
  no_room h = by_none (leb (length (entered eqb rows p a t)) cap) (entered eqb rows p a t) h
