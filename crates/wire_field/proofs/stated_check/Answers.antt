-- `stated_check` meets its contract: by the test of absence.
use Rattle.wire_field.specs.Fields.{stated_no, stated_field}
use Rattle.wire_field.proofs.stated_check.Goals as goal

pub returns-then-is_absent-clause-number : goal.returns-then-is_absent-clause-number
unfolding stated_no
returns-then-is_absent-clause-number c = λ kind. rw (← c.is_absent.ensures, c.if-is_absent.true)

pub returns-then-is_absent-clause-characters : goal.returns-then-is_absent-clause-characters
unfolding stated_field
returns-then-is_absent-clause-characters c = λ kind. rw (← c.is_absent.ensures, c.if-is_absent.true)

pub returns-clause-number : goal.returns-clause-number
unfolding stated_no
returns-clause-number c = λ kind. rw (← c.is_absent.ensures, c.if-is_absent.false) (c.present_check.ensures.number kind)

pub returns-clause-characters : goal.returns-clause-characters
unfolding stated_field
returns-clause-characters c = λ kind. rw (← c.is_absent.ensures, c.if-is_absent.false) (c.present_check.ensures.characters kind)
