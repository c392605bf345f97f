use Rattle.std.proofs.Common.{encode_utf8}
use Rattle.std.specs.Str.Iter.{chars_rest}
use Rattle.lot_json.proofs.PointerEscapes.{escaped-more}
use Rattle.lot_json.proofs.tree.pointer.append_escaped.Goals as goal

pub loop-c-preserved : goal.loop-c-preserved
loop-c-preserved c = escaped-more c.loop-c.text c.append_character.new.text (encode_utf8 c.in-Some.c) (chars_rest c.loop-c.c-iterator) (chars_rest c.next.new.self) _
    c.in_ok-append_character.ensures c.in-Some.ensures.steps.0 c.loop-c.invariant
