use Rattle.std.proofs.Common.{ℕ, ℤ, ◌≡◌, ◌≤◌, pos, negsuc, unsigned_abs, int_lt, false, rules, arith, subst, sym}
use Rattle.std.proofs.lemmas.Int.{ints}
use Rattle.lot_num.specs.Round.{rnd}
use Rattle.lot_trim.specs.Cut.{whole_run, full_percent}
use Rattle.lot_trim.proofs.cut.run_fraction.Goals as goal

-- A hundredth of at most 100 per cent.
fraction_small : (x : ℤ) → int_lt x (pos 0) ≡ false → int_lt (pos full_percent) x ≡ false
    → unsigned_abs (rnd x (pos 100)) ≤ whole_run
fraction_small (pos n) low high = omega (arith, ints, high)
fraction_small (negsuc n) low high = absurd (cc)

pub returns-clause-small : goal.returns-clause-small
returns-clause-small c =
    let is : c.unsigned_abs.result ≡ unsigned_abs (rnd c.args.x (pos 100)) = search rules in
    subst (λ (n : ℕ). n ≤ whole_run) (sym is) (fraction_small c.args.x (search rules) (search rules))
