-- The text that was written and the escaped characters that are left are the whole.
use Rattle.std.proofs.Common.{◌≡◌, ◌++◌}
use Rattle.std.specs.Str.Iter.{chars_rest}
use Rattle.lot_json.specs.Pointer.{escaped}
use Rattle.lot_json.proofs.tree.pointer.append_escaped.Given as goal

abbrev pub invariant-loop-c : goal.invariant-loop-c
invariant-loop-c l = l.text ++ escaped (chars_rest l.c-iterator) ≡ l.initial.text ++ escaped l.name
