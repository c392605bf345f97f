use Rattle.std.proofs.Common.{take, take-append-drop, sym, subst}
use Rattle.lot_json.specs.Unescaped.{AreUnescapedBytes}
use Rattle.lot_json.proofs.UnescapedRuns.{unescaped_start}
use Rattle.lot_json.proofs.tokens.unescaped.unescaped_prefix.Goals as goal

pub returns-in-Err-clause-unescaped : goal.returns-in-Err-clause-unescaped
returns-in-Err-clause-unescaped c =
    let unescaped = take c.unescaped_len.result c.args.bytes.now in
    subst AreUnescapedBytes (sym c.from_utf8_unchecked.ensures) (unescaped_start (take c.valid_up_to.result unescaped) _ (subst AreUnescapedBytes (sym (take-append-drop c.valid_up_to.result unescaped)) c.unescaped_len.ensures.unescaped))
