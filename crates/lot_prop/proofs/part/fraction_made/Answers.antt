use Rattle.std.proofs.Common.{◌≡◌, ℕ, ◌∙◌, ap, sym, FitsSigned, w64, rules}
use Rattle.std.proofs.lemmas.Int.{to_z-of_z}
use Rattle.lot_num.specs.Easing.{height, IsLeast}
use Rattle.lot_prop.proofs.LeastSteps.{step_of_least}
use Rattle.lot_prop.proofs.part.fraction_made.Goals as goal

pub returns-clause-value : goal.returns-clause-value
returns-clause-value c =
    let least : IsLeast c.args.o.x c.args.i.x c.args.num c.args.den c.ease.result.g = search rules in
    let there : c.ease.result.fraction ≡ height c.args.o.y c.args.i.y c.ease.result.g = search rules in
    let fits : FitsSigned w64 c.ease.result.fraction = search rules in
    let step = step_of_least c.args.o.x c.args.i.x c.args.num c.args.den c.ease.result.g least in
    to_z-of_z w64 c.ease.result.fraction fits ∙ there ∙ ap (λ (g : ℕ). height c.args.o.y c.args.i.y g) (sym step)
