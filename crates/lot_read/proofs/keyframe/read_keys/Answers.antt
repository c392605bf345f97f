use Rattle.std.proofs.Common.{rules, arith}
use Rattle.std.proofs.lemmas.Grind.{common_steps}
use Rattle.lot_read.specs.Keyframe.{each_key}
use Rattle.lot_read.proofs.Keyframes.{last_pushed, pushed_count}
use Rattle.lot_read.proofs.keyframe.read_keys.Goals as goal

pub loop-i-preserved : goal.loop-i-preserved
unfolding each_key
loop-i-preserved g c = record {
  faults = grind (arith, common_steps);
  value = grind (arith, common_steps);
  uses = grind (arith, common_steps);
  same = search rules;
  count = pushed_count c.loop-i.made c.push.new.self c.in_ok-key-2.key c.loop-i.i c.in_ok-push.ensures.ok c.loop-i.invariant.count;
  last = λ k e. last_pushed c.loop-i.made c.push.new.self c.in_ok-key-2.key k c.in_ok-push.ensures.ok e;
}
