use Rattle.std.proofs.Common.{◌↔◌, ℕ, List, ◌∷◌, ◌+◌, ◌*◌, ap, sym, subst}
use Rattle.std.specs.Char.{IsScalar}
use Rattle.lot_json.specs.Characters.{FollowedBy}
use Rattle.lot_json.specs.ByteSequence.{Continues, bytes_after}
use Rattle.lot_json.proofs.CharacterMoves.{same_leads, last_byte, next_byte}
use Rattle.lot_json.proofs.tokens.byte_sequence.ByteSequence.take.Goals as goal

pub returns-in-One : goal.returns-in-One
returns-in-One c =
    let s = c.args.self in
    let v : ℕ = s.bits * 64 + c.from.result in
    same_leads
    (λ (t x : List ℕ). Continues (bytes_after s.left) s.bits s.least s.most (c.args.c ∷ t) x)
    (λ (t x : List ℕ). IsScalar v × FollowedBy v t x) c.end.result
    (λ t x. subst (λ (n : ℕ). Continues n s.bits s.least s.most (c.args.c ∷ t) x ↔ (IsScalar v × FollowedBy v t x)) (sym (ap bytes_after c.in-One.is))
    (last_byte s.bits s.least s.most c.args.c v c.if-c-self.false c.if-self-c.false (ap (λ (z : ℕ). s.bits * 64 + z) c.from.ensures) t x)) c.end.ensures

pub returns-in-Two : goal.returns-in-Two
returns-in-Two c =
    let s = c.args.self in
    let v : ℕ = s.bits * 64 + c.from.result in
    same_leads
    (λ (t x : List ℕ). Continues (bytes_after s.left) s.bits s.least s.most (c.args.c ∷ t) x)
    (λ (t x : List ℕ). Continues 0 v 128 191 t x) c.expect_continuation.result
    (λ t x. subst (λ (n : ℕ). Continues n s.bits s.least s.most (c.args.c ∷ t) x ↔ Continues 0 v 128 191 t x) (sym (ap bytes_after c.in-Two.is))
    (next_byte 0 s.bits s.least s.most c.args.c v c.if-c-self.false c.if-self-c.false (ap (λ (z : ℕ). s.bits * 64 + z) c.from.ensures) t x)) c.expect_continuation.ensures

pub returns-in-Three : goal.returns-in-Three
returns-in-Three c =
    let s = c.args.self in
    let v : ℕ = s.bits * 64 + c.from.result in
    same_leads
    (λ (t x : List ℕ). Continues (bytes_after s.left) s.bits s.least s.most (c.args.c ∷ t) x)
    (λ (t x : List ℕ). Continues 1 v 128 191 t x) c.expect_continuation-in-Three.result
    (λ t x. subst (λ (n : ℕ). Continues n s.bits s.least s.most (c.args.c ∷ t) x ↔ Continues 1 v 128 191 t x) (sym (ap bytes_after c.in-Three.is))
    (next_byte 1 s.bits s.least s.most c.args.c v c.if-c-self.false c.if-self-c.false (ap (λ (z : ℕ). s.bits * 64 + z) c.from.ensures) t x)) c.expect_continuation-in-Three.ensures
