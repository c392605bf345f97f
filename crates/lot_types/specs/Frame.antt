-- A finished frame: the layers that it shows, evaluated, as a tree. Its form is this project's own.
use Rattle.std.specs.Prelude.{ℕ, ℤ, List, [], ◌∷◌, ◌++◌, Option}
use Rattle.lot_types.specs.declared.matte.Matte.{Matte}

-- A layer of a composition at a time of that composition.
pub record Visit : Type 0 where
  pub comp : ℕ
  pub layer : ℕ
  pub time : ℤ

-- The size of the rectangle to which a composition is clipped.
pub record ClipSize : Type 0 where
  pub w : ℤ
  pub h : ℤ

-- A list of layers, of which the first lies at the bottom: each with what it is of, which kind of matte it has, its
-- matte, the size to which its composition is clipped, the frame of that composition, and the layers after it. A matte
-- is a list of one layer, or of none.
pub data Frame (A : Type 0) : Type 0 where
  nothing : Frame A
  node : (at : A) → (kind : Matte) → (matte : Frame A) → (clip : Option ClipSize) → (inner : Frame A) → (rest : Frame A)
      → Frame A

-- What the layers are of, in the order in which they are drawn.
abbrev pub visits : {A : Type 0} → Frame A → List A
visits nothing = []
visits (node v kind matte clip inner rest) = visits matte ++ (v ∷ visits inner) ++ visits rest
