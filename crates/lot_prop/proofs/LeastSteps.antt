-- The least step of the grid, from a step that is least.
use Rattle.std.proofs.Common.{◌≡◌, ℕ, ℤ, Bool, true, false, refl, T}
use Rattle.lot_num.specs.Easing.{IsLeast, grid_steps}
use Rattle.lot_num.proofs.Least.{least_is}
use Rattle.lot_prop.specs.LeastStep.{least_step, reaches}

passes : (b : Bool) → T b → b ≡ true
passes true h = refl
passes false h = absurd h

fails : (b : Bool) → (T b → ⊥) → b ≡ false
fails true h = absurd (h tt)
fails false h = refl

pub step_of_least : (a b num den : ℤ) (g : ℕ) → IsLeast a b num den g → least_step a b num den ≡ g
unfolding least_step
step_of_least a b num den g is =
    least_is (reaches a b num den) grid_steps g is.within (passes (reaches a b num den g) is.reaches.le)
    (λ k lt. fails (reaches a b num den k) (λ h. is.least k lt (record { le = h })))
