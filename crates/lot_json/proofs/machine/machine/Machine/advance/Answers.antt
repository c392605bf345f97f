use Rattle.lot_json.specs.Pending.{state_of}
use Rattle.lot_json.proofs.Advances.{tried_first}
use Rattle.lot_json.proofs.machine.machine.Machine.advance.Goals as goal

pub returns-in-MarkSecond : goal.returns-in-MarkSecond
returns-in-MarkSecond c = tried_first c.read_mark_second.result c.with_next.result c.args.bytes.now (state_of c.args.self.now) (state_of c.read_mark_second.new.self) c.with_next.ensures c.requires c.read_mark_second.ensures

pub returns-in-MarkThird : goal.returns-in-MarkThird
returns-in-MarkThird c = tried_first c.read_mark_third.result c.with_next-in-MarkThird.result c.args.bytes.now (state_of c.args.self.now) (state_of c.read_mark_third.new.self) c.with_next-in-MarkThird.ensures c.requires c.read_mark_third.ensures

pub returns-in_ok-read_after_item-in-AfterItem : goal.returns-in_ok-read_after_item-in-AfterItem
returns-in_ok-read_after_item-in-AfterItem c =
    tried_first c.in_ok-read_after_item-in-AfterItem.field-0 c.with_next-in-AfterItem.result c.args.bytes.now (state_of c.args.self.now) (state_of c.read_after_item.new.self) c.with_next-in-AfterItem.ensures c.requires c.in_ok-read_after_item-in-AfterItem.ensures

pub returns-in-Colon : goal.returns-in-Colon
returns-in-Colon c = tried_first c.read_colon.result c.with_next-in-Colon.result c.args.bytes.now (state_of c.args.self.now) (state_of c.read_colon.new.self) c.with_next-in-Colon.ensures c.requires c.read_colon.ensures

pub returns-in_ok-read_after_member-in-AfterMember : goal.returns-in_ok-read_after_member-in-AfterMember
returns-in_ok-read_after_member-in-AfterMember c =
    tried_first c.in_ok-read_after_member-in-AfterMember.field-0 c.with_next-in-AfterMember.result c.args.bytes.now (state_of c.args.self.now) (state_of c.read_after_member.new.self) c.with_next-in-AfterMember.ensures c.requires c.in_ok-read_after_member-in-AfterMember.ensures

pub returns-in_ok-read_literal-in-Literal : goal.returns-in_ok-read_literal-in-Literal
returns-in_ok-read_literal-in-Literal c =
    tried_first c.in_ok-read_literal-in-Literal.field-0 c.with_next-in-Literal.result c.args.bytes.now (state_of c.args.self.now) (state_of c.read_literal.new.self) c.with_next-in-Literal.ensures c.requires c.in_ok-read_literal-in-Literal.ensures
