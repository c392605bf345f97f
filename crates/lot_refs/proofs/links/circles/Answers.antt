use Rattle.std.proofs.Common.{◌<◌, length, ap, ◌∙◌, arith, ℕ}
use Rattle.std.specs.List.{list_any}
use Rattle.lot_refs.specs.Links.{Links, leads_to, IsJump}
use Rattle.lot_refs.proofs.Chains.{sources_come_back}
use Rattle.lot_refs.proofs.links.circles.Goals as goal

pub returns : goal.returns
returns c =
    let links : Links = c.args.links.now in
    let items : Links = c.in_ok-far.far.items in
    let count = ap (λ (xs : Links). length xs) c.deref.ensures.value ∙ c.in_ok-far.ensures.len in
    let far : (m : ℕ) × (length links < m) × IsJump links m items = c.in_ok-far.ensures.far in
    record {
      count = c.in_ok-marks.ensures.len ∙ count;
      same = λ l less.
          let within : l < length c.deref.result.now = omega (arith, less, count) in
          c.in_ok-marks.ensures.marks l within
          ∙ ap (λ (xs : Links). list_any (leads_to l) xs) c.deref.ensures.value
          ∙ sources_come_back links items far.0 l far.1 far.2;
    }
