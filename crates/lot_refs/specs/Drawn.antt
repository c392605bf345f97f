-- The layers of a composition that are drawn by themselves, after the Lottie Specification 1.0, "Layers".
use Rattle.std.specs.Prelude.{ℕ, ◌+◌, Bool, not, List, [], ◌∷◌, map, if◌then◌else◌}
use Rattle.lot_types.specs.declared.comp.Comp.{Comp}
use Rattle.lot_types.specs.declared.layer.Layer.{Layer}

-- A layer with the member `td` serves as a matte, and is not drawn by itself. No layer has another one as its matte
-- yet.
abbrev pub is_drawn : Layer → Bool
is_drawn layer = not layer.td

-- The numbers of those of these layers that are drawn, where the first has the number l.
abbrev pub drawn_from : ℕ → List Layer → List ℕ
drawn_from l [] = []
drawn_from l (x ∷ xs) = if is_drawn x then l ∷ drawn_from (l + 1) xs else drawn_from (l + 1) xs

abbrev pub drawn_layers : List Layer → List ℕ
drawn_layers layers = drawn_from 0 layers

-- Those of each composition.
abbrev pub drawn_tables : List Comp → List (List ℕ)
drawn_tables comps = map (λ comp. drawn_layers comp.layers) comps
