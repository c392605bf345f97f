use Rattle.std.proofs.Common.{◌≡◌, ℕ, ℤ, pos, negsuc, ◌<◌, ◌<ℤ◌, List, [], ◌∷◌, length, take, set, refl, arith, rules}
use Rattle.std.proofs.lemmas.Int.{ints}
use Rattle.lot_num.specs.Digits.{sign_of}
use Rattle.lot_num.proofs.digits.put_sign.Goals as goal

signed : (n : ℤ) (out : List ℕ) → n <ℤ pos 0 → 0 < length out → take 1 (set out 0 45) ≡ sign_of n
signed (pos n) out below some = absurd (omega (arith, ints, below))
signed (negsuc n) [] below some = absurd (omega (arith, some))
signed (negsuc n) (byte ∷ more) below some = refl

pub returns-clause-text : goal.returns-clause-text
returns-clause-text c = signed c.args.n c.args.out.now (search rules) c.requires
