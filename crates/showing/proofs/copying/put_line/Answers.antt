use Rattle.std.proofs.Common.{◌≡◌, ◌+◌, ◌-◌, ◌≤◌, min, [], ◌∷◌, Some, sym, ap, ◌∙◌, subst, length, arith, length-append, length-take, length-drop, drop}
use Rattle.showing.specs.Showing.{with_part, line_of}
use Rattle.showing.proofs.Filling.{with_line}
use Rattle.showing.proofs.copying.put_line.Goals as goal

pub returns-in-Some-clause-bytes : goal.returns-in-Some-clause-bytes
returns-in-Some-clause-bytes c =
    let buffer = c.args.buffer.now in
    let line = c.in-Some.is in
    let after = c.copy_from_slice.ensures.after in
    let wanted : c.args.filled + length (line_of (Some c.in-Some.line)) ≤ length buffer = subst (λ o. c.args.filled + length (line_of o) ≤ length buffer) line c.requires in
    let size : c.args.filled + (length c.in-Some.line + 2) ≤ length buffer = omega (arith, wanted, length-append c.in-Some.line (13 ∷ 10 ∷ [])) in
    let part : length c.in-Some.line ≡ min 80 (length buffer - c.args.filled) = sym (ap length after) ∙ c.copy_from_slice.ensures.len ∙ omega (arith, length-take (c.args.filled + 80 - c.args.filled) (drop c.args.filled buffer), length-drop c.args.filled buffer) in
    let long : length c.in-Some.line ≡ 80 = omega (arith, part, size) in
    with_line buffer c.args.filled c.in-Some.line _ _ after c.copy_from_slice-in-Some.ensures.after long (omega (arith, size, long))
    ∙ sym (ap (λ o. with_part buffer c.args.filled (line_of o)) line)
