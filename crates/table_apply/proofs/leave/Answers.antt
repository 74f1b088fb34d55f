-- `leave` meets its contract: the pair is taken out, and where there was none nothing is.
use Rattle.table_apply.proofs.ApplyLaws.{left_applied}
use Rattle.table_apply.proofs.leave.Goals as goal

pub returns : goal.returns
returns c =
    let a = c.args in
    left_applied a.w.now a.version a.group a.player c.requires c.drop_memberships-left.new.w c.drop_memberships-left.result c.drop_memberships-left.ensures.0 c.drop_memberships-left.ensures.1
