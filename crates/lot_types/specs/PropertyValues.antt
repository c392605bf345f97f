-- The value of each property of three kinds, in a document at a time. A property may have none.
use Rattle.std.specs.Prelude.{ℤ, Option}
use Rattle.lot_types.specs.declared.doc.Doc.{Doc}
use Rattle.lot_types.specs.declared.point.Point.{Point}
use Rattle.lot_types.specs.declared.prop.Prop.{Prop}
use Rattle.lot_types.specs.Curve.{Curve}

pub record PropertyValues : Type 0 where
  pub scalar : Doc → Prop ℤ → ℤ → Option ℤ
  pub vector : Doc → Prop Point → ℤ → Option Point
  pub bezier : Doc → Prop Curve → ℤ → Option Curve
