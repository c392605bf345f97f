use Rattle.std.proofs.Common.{◌≡◌, [], Result, Ok, Err, IsErrAnd, IfErr, sym, subst}
use Rattle.lot_json.specs.declared.tree.json.Json.{Json}
use Rattle.lot_json.specs.declared.refusal.JsonRefusal.{JsonRefusal}
use Rattle.lot_json.specs.Refusal.{IsNoText}
use Rattle.lot_json.proofs.Pieces.{refused_text}
use Rattle.lot_json.proofs.parser.parse.Goals as goal

same_error : (r : Result Json JsonRefusal) (e : JsonRefusal) (P : JsonRefusal → Type 0) → IsErrAnd r (λ d. d ≡ e) → P e → IfErr r P
same_error (Ok x) e P k p = absurd k
same_error (Err d) e P k p = subst P (sym k) p

pub returns-in_err-feed-clause-refused : goal.returns-in_err-feed-clause-refused
returns-in_err-feed-clause-refused c =
    same_error c.from_residual-in_err-feed.result c.in_err-feed.field-0.0 (λ e. IsNoText e c.args.bytes.now) c.from_residual-in_err-feed.ensures.1
    (refused_text c.in_err-feed.field-0.0 c.args.bytes.now (c.in_err-feed.ensures.refused [] c.in_ok-decoder.ensures))
