use Rattle.std.proofs.Common.{◌≡◌, ℤ, ◌+ℤ◌, ◌-ℤ◌, ◌*ℤ◌, FitsSigned, w64, arith, rules}
use Rattle.std.specs.Int.{w128}
use Rattle.std.proofs.lemmas.Int.{ints, to_z-of_z}
use Rattle.lot_num.specs.Round.{rnd, limit}
use Rattle.lot_num.specs.Easing.{between}
use Rattle.lot_prop.proofs.progress.Progress.between.Goals as goal

between_is : (s0 s1 num den from to start part made : ℤ) → from ≡ s0 → to ≡ s1 → start ≡ s0 → part ≡ rnd ((to -ℤ from) *ℤ num) den
    → made ≡ limit (start +ℤ part) → made ≡ between s0 s1 num den
between_is s0 s1 num den from to start part made f t s p m = cc (f, t, s, p, m)

pub returns : goal.returns
returns c =
    let s0 : c.get.result ≡ c.args.s0 = c.get.ensures.value in
    let s1 : c.get-2.result ≡ c.args.s1 = c.get-2.ensures.value in
    let again : c.get-3.result ≡ c.args.s0 = c.get-3.ensures.value in
    let first : FitsSigned w64 c.get.result = omega (arith, ints, c.get.ensures.range) in
    let wide : FitsSigned w128 c.get.result = omega (arith, ints, c.get.ensures.range) in
    let part_fits : FitsSigned w128 c.part_of.result = omega (arith, ints, c.part_of.ensures.small) in
    let sum_fits : FitsSigned w128 (c.get.result +ℤ c.part_of.result) = omega (arith, ints, c.get.ensures.range, c.part_of.ensures.small) in
    let change_fits : FitsSigned w64 (c.get-2.result -ℤ c.get-3.result) = omega (arith, ints, c.get-2.ensures.range, c.get-3.ensures.range) in
    let num : FitsSigned w64 c.args.self.now.num = search rules in
    let den : FitsSigned w64 c.args.self.now.den = search rules in
    let to : FitsSigned w64 c.get-2.result = omega (arith, ints, c.get-2.ensures.range) in
    let from : FitsSigned w64 c.get-3.result = omega (arith, ints, c.get-3.ensures.range) in
    let whole = simp to_z-of_z at c.limited.ensures in
    let part = simp to_z-of_z at c.part_of.ensures.value in
    between_is c.args.s0 c.args.s1 c.args.self.now.num c.args.self.now.den c.get-3.result c.get-2.result c.get.result c.part_of.result
    c.limited.result again s1 s0 part whole
