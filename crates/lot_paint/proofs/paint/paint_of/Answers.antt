-- The properties of gradients have values, and each other item is no style.
use Rattle.std.proofs.Common.{◌∙◌, ap, refl, inl, inr}
use Rattle.lot_types.specs.Items.{group, leaf, trim, transform, kind_of}
use Rattle.lot_types.proofs.Variants.{kind-Group, kind-Rect, kind-Ellipse, kind-Star, kind-Path, kind-Trim, kind-Place}
use Rattle.lot_paint.proofs.Styles.{no_style, gradient-GradientFill, gradient-GradientStroke}
use Rattle.lot_paint.proofs.paint.paint_of.Goals as goal

pub unreachable-requires : goal.unreachable-requires
unreachable-requires c =
    let x = c.args.style.now in
    let is = c.requires.style in
    elim c.in-Group.is [
      | inl w ↦ no_style x group (ap kind_of w.2 ∙ kind-Group w.0 w.1) refl is
      | inr other ↦ elim other [
        | inl w ↦ no_style x leaf (ap kind_of w.5 ∙ kind-Rect w.0 w.1 w.2 w.3 w.4) refl is
        | inr other ↦ elim other [
          | inl w ↦ no_style x leaf (ap kind_of w.4 ∙ kind-Ellipse w.0 w.1 w.2 w.3) refl is
          | inr other ↦ elim other [
            | inl w ↦ no_style x leaf (ap kind_of w.10 ∙ kind-Star w.0 w.1 w.2 w.3 w.4 w.5 w.6 w.7 w.8 w.9) refl is
            | inr other ↦ elim other [
              | inl w ↦ no_style x leaf (ap kind_of w.3 ∙ kind-Path w.0 w.1 w.2) refl is
              | inr other ↦ elim other [
                | inl w ↦ no_style x trim (ap kind_of w.5 ∙ kind-Trim w.0 w.1 w.2 w.3 w.4) refl is
                | inr w ↦ no_style x transform (ap kind_of w.2 ∙ kind-Place w.0 w.1) refl is
              ]
            ]
          ]
        ]
      ]
    ]

pub gradient_ink-requires : goal.gradient_ink-requires
gradient_ink-requires c =
    let x = c.in-GradientFill in
    gradient-GradientFill c.args.d.now c.args.style.now x.hidden x.o x.s x.e x.kind x.g x.h x.a x.r x.is c.requires.values

pub gradient_ink-requires-in-GradientStroke : goal.gradient_ink-requires-in-GradientStroke
gradient_ink-requires-in-GradientStroke c =
    let x = c.in-GradientStroke in
    gradient-GradientStroke c.args.d.now c.args.style.now x.hidden x.o x.s x.e x.kind x.g x.h x.a x.w x.lc x.lj x.ml
    x.dashes x.is c.requires.values
