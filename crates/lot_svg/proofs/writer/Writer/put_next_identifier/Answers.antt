use Rattle.std.proofs.Common.{◌∙◌, ◌+◌, ◌<◌, ◌≤◌, ◌^◌, length, ap, subst, arith, rules}
use Rattle.lot_svg.specs.Written.{Written}
use Rattle.lot_svg.proofs.Identifiers.{longer, counted}
use Rattle.lot_svg.proofs.writer.Writer.put_next_identifier.Goals as goal

pub overflow_add-self : goal.overflow_add-self
overflow_add-self c =
    let short : length c.as_slice-written.result.now < 2 ^ 63 = search rules in
    omega (arith, short, c.self.invariant, ap length c.as_slice-written.ensures)

pub invariant_of-self : goal.invariant_of-self
invariant_of-self c =
    let start = c.put_identifier in
    let within = subst (λ (s : Written). s.next ≤ length s.bytes + 1) start.view_is start.invariant in
    longer c.args.self.now _ _ (c.self.view_is ∙ c.in_ok-put_identifier.ensures) within

pub returns : goal.returns
returns c =
    let same = ap (λ (s : Written). s.next) c.put_identifier.view_is in
    counted c.args.self.now _ _ same (c.self.view_is ∙ c.in_ok-put_identifier.ensures)
