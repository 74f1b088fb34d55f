-- `put_operation` meets its contract: by cases on the message.
use mathlib.Core.Path.{refl}
use mathlib.Core.Logic.{inl, inr}
use Rattle.table_rules.specs.Operations.{act_numbers, act_name}
use Rattle.table_words.specs.Words.{row_of}
use Rattle.operations.specs.Received.{operation_said}
use Rattle.operations.specs.Inner.{row_after}
use Rattle.operations.proofs.put_operation.Goals as goal

pub returns-in-AddPlayer : goal.returns-in-AddPlayer
unfolding operation_said row_after
returns-in-AddPlayer c =
    rw c.in-AddPlayer.is record {
      number = refl;
      row = c.put_added.ensures;
    }

pub returns-in-DestroyPlayer : goal.returns-in-DestroyPlayer
unfolding operation_said row_after row_of act_numbers act_name
returns-in-DestroyPlayer c =
    rw c.in-DestroyPlayer.is record {
      number = refl;
      row = c.put_removed.ensures;
    }

pub returns-in-CreateGroup : goal.returns-in-CreateGroup
unfolding operation_said row_after
returns-in-CreateGroup c =
    rw c.in-CreateGroup.is record {
      number = refl;
      row = c.put_added-in-CreateGroup.ensures;
    }

pub returns-in-DestroyGroup : goal.returns-in-DestroyGroup
unfolding operation_said row_after row_of act_numbers act_name
returns-in-DestroyGroup c =
    rw c.in-DestroyGroup.is record {
      number = refl;
      row = c.put_removed-in-DestroyGroup.ensures;
    }

pub returns-in-AddToGroup : goal.returns-in-AddToGroup
unfolding operation_said row_after row_of act_numbers act_name
returns-in-AddToGroup c =
    rw c.in-AddToGroup.is record {
      number = refl;
      row = c.put_pair.ensures;
    }

pub returns-in-DeleteFromGroup : goal.returns-in-DeleteFromGroup
unfolding operation_said row_after row_of act_numbers act_name
returns-in-DeleteFromGroup c =
    rw c.in-DeleteFromGroup.is record {
      number = refl;
      row = c.put_pair-in-DeleteFromGroup.ensures;
    }

pub returns-in-ConnectInfo : goal.returns-in-ConnectInfo
unfolding operation_said row_after
returns-in-ConnectInfo c =
    elim c.in-ConnectInfo.is [
      | inl e ↦ rw e.1 record { number = refl; row = refl }
      | inr e ↦ rw e.1 record { number = refl; row = refl }
    ]
