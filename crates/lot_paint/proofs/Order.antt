-- The order of offsets.
use Rattle.std.proofs.Common.{Less, Greater, Equal, ◌≡◌, ℤ, int_lt, true, false, arith}
use Rattle.std.proofs.lemmas.Int.{ints}
use Rattle.std.specs.Ordering.{int_eq, int_cmp}
use Rattle.lot_paint.specs.Dashes.{at_least}

-- x is below y.
abbrev pub Below : ℤ → ℤ → Type 0
Below x y = int_lt x y ≡ true

abbrev pub NotAbove : ℤ → ℤ → Type 0
NotAbove x y = int_lt y x ≡ false

pub below_not_above : (x y z : ℤ) → Below x y → NotAbove y z → Below x z
below_not_above x y z a b = grind (arith, ints)

pub not_above_trans : (x y z : ℤ) → NotAbove x y → NotAbove y z → NotAbove x z
not_above_trans x y z a b = grind (arith, ints)

pub not_above_same : (x : ℤ) → NotAbove x x
not_above_same x = grind (arith, ints)

pub weaken_below : (x y : ℤ) → Below x y → NotAbove x y
weaken_below x y h = grind (arith, ints)

pub below_differs : (x y : ℤ) → Below x y → int_eq x y ≡ false
below_differs x y h = grind (arith, ints)

pub above_differs : (x y : ℤ) → Below y x → int_eq x y ≡ false
above_differs x y h = grind (arith, ints)

pub same_is : (x : ℤ) → int_eq x x ≡ true
same_is x = grind (arith, ints)

pub cmp_less : (x y : ℤ) → int_cmp x y ≡ Less → Below x y
cmp_less x y h = grind (arith, ints)

pub cmp_greater : (x y : ℤ) → int_cmp x y ≡ Greater → Below y x
cmp_greater x y h = grind (arith, ints)

pub cmp_equal : (x y : ℤ) → int_cmp x y ≡ Equal → x ≡ y
cmp_equal x y h = grind (arith, ints)

pub at_least_keeps : (least x : ℤ) → NotAbove least (at_least least x)
at_least_keeps least x = grind (arith, ints)
