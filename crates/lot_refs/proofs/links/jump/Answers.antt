use Rattle.std.proofs.Common.{◌≡◌, map, length, ap, ◌∙◌, arith}
use Rattle.std.proofs.lemmas.List.{length-map}
use Rattle.lot_refs.specs.Links.{Links, next}
use Rattle.lot_refs.proofs.Chains.{jump_twice}
use Rattle.lot_refs.proofs.links.jump.Goals as goal

pub loop-steps-preserved : goal.loop-steps-preserved
loop-steps-preserved c =
    let far : Links = c.loop-steps.far.items in
    let old = c.loop-steps.invariant in
    let items : c.in_ok-far-2.far.items ≡ map (next far) far =
    c.in_ok-far-2.ensures ∙ ap (λ (xs : Links). map (next xs) xs) c.deref.ensures.value in
    record {
      jump = λ o. ap (λ (xs : Links). next xs o) items ∙ jump_twice c.args.links.now far c.loop-steps.steps old.jump o;
      len = ap (λ (xs : Links). length xs) items ∙ length-map far (next far) ∙ old.len;
      some = omega (arith, old.some);
      small = omega (arith, c.loop-steps-test.true);
    }
