-- The colors and opacities along a gradient, after the Lottie Specification 1.0, "Gradient". That there is at least one
-- stop is this project's own.
use Rattle.std.specs.Prelude.{◌≡◌, ℕ, ℤ, ◌≤◌, ◌<◌, ◌-◌, ◌*◌, ◌%◌, List}
use Rattle.lot_types.specs.Limits.{max_list_items}

pub record Ramp : Type 0 where
  pub stops : ℕ
  pub flat : List ℤ

-- A gradient has four numbers for each of its stops, and after these pairs of an offset and an opacity; in all at
-- most as many as a list may have.
pub record HasStops (stops numbers : ℕ) : Type 0 where
  pub some : 0 < stops
  pub colors : 4 * stops ≤ numbers
  pub pairs : (numbers - 4 * stops) % 2 ≡ 0
  pub few : numbers ≤ max_list_items
