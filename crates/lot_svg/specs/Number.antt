-- Numbers, colors and matrices as values of attributes, after SVG 1.1, "Basic Data Types". The numbers of decimals are
-- this project's own.
use Rattle.std.specs.Prelude.{ℕ, ℤ, pos, ◌+◌, ◌/◌, ◌%◌, ◌^◌, Bool, ◌&&◌, List, [], ◌∷◌, ◌++◌, codes, nat_lt, if◌then◌else◌}
use Rattle.std.specs.Ordering.{int_eq}
use Rattle.lot_types.specs.declared.rgb.Rgb.{Rgb}
use Rattle.lot_types.specs.declared.matrix.Matrix.{Matrix}
use Rattle.lot_num.specs.Digits.{printed}
use Rattle.lot_svg.specs.Element.{attribute}

-- A number with at most three digits after the point: a coordinate or a length in pixels, or a miter limit.
unfoldable pub length_text : ℤ → List ℕ
length_text v = printed v 3

-- An entry of a matrix, with at most six digits after the point.
unfoldable pub entry_text : ℤ → List ℕ
entry_text v = printed v 6

-- An opacity or an offset, with at most six digits after the point.
unfoldable pub fraction_text : ℤ → List ℕ
fraction_text v = printed v 6

-- A hexadecimal digit in lower case.
abbrev pub hex_text : ℕ → ℕ
hex_text n = if nat_lt n 10 then 48 + n else 87 + n

unfoldable pub byte_text : ℕ → List ℕ
byte_text n = hex_text (n / 16) ∷ hex_text (n % 16) ∷ []

-- A color as #rrggbb.
unfoldable pub color_text : Rgb → List ℕ
color_text c = codes "#" ++ byte_text c.r ++ byte_text c.g ++ byte_text c.b

-- The identity, which moves no point.
abbrev pub is_identity : Matrix → Bool
is_identity m =
    int_eq m.a (pos (10 ^ 6)) && int_eq m.b (pos 0) && int_eq m.c (pos 0) && int_eq m.d (pos (10 ^ 6))
    && int_eq m.e (pos 0) && int_eq m.f (pos 0)

abbrev pub entry_pair_text : ℤ → ℤ → List ℕ
entry_pair_text x y = entry_text x ++ codes " " ++ entry_text y

-- A matrix as matrix(a b c d e f).
unfoldable pub matrix_text : Matrix → List ℕ
matrix_text m =
    codes "matrix(" ++ entry_pair_text m.a m.b ++ codes " " ++ entry_pair_text m.c m.d ++ codes " "
    ++ entry_pair_text m.e m.f ++ codes ")"

-- The attribute of a transform, left out where it is the identity.
unfoldable pub transform_text : Matrix → List ℕ
transform_text m = if is_identity m then [] else attribute (codes "transform") (matrix_text m)

-- The attribute of an opacity, left out where it is 1.
unfoldable pub opacity_text : List ℕ → ℤ → List ℕ
opacity_text name o = if int_eq o (pos (10 ^ 6)) then [] else attribute name (fraction_text o)

-- The attribute of a length.
abbrev pub length_attribute : List ℕ → ℤ → List ℕ
length_attribute name v = attribute name (length_text v)
