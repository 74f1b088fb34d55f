-- `names_said` meets its contract: by what the message says.
use mathlib.Core.Path.{sym}
use mathlib.Core.Logic.{⊎_elim}
use borrow.Author.Tests.{lt-ltb, le-ltb}
use Rattle.wire_layout.specs.Layout.{extended_from, entry_layout, entry_pairs, connect_pairs, alternate_pair, connect_layout}
use Rattle.wire_connect.specs.Connect.{connect_by}
use Rattle.wire_fields.specs.FieldList.{names_said}
use Rattle.wire_fields.proofs.NameLaws.{none_said}
use Rattle.wire_fields.proofs.names_said.Goals as goal

pub returns-in-ConnectInfo : goal.returns-in-ConnectInfo
unfolding names_said connect_by connect_pairs alternate_pair connect_layout
returns-in-ConnectInfo c = rw (c.in-ConnectInfo.is, lt-ltb _ extended_from c.if-values-lt-EXTENDED_FROM.true)

pub returns-in-ConnectInfo-2 : goal.returns-in-ConnectInfo-2
unfolding names_said connect_by connect_pairs alternate_pair connect_layout
returns-in-ConnectInfo-2 c = rw (c.in-ConnectInfo.is, le-ltb _ extended_from c.if-values-lt-EXTENDED_FROM.false)

pub returns-in-AddPlayer : goal.returns-in-AddPlayer
unfolding names_said entry_layout entry_pairs
returns-in-AddPlayer c = ⊎_elim (λ e. rw e.2) (λ e. rw e.2) c.in-AddPlayer.is

pub returns-in_default : goal.returns-in_default
returns-in_default c = sym (none_said c.args.said c.in_default.not-ConnectInfo c.in_default.not-AddPlayer c.in_default.not-CreateGroup)
