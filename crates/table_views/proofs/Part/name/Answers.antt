-- `name` meets its contract: the words of no name say none.
use Rattle.names.specs.Words.{name_of}
use Rattle.table_views.proofs.ViewLaws.{name_past, name_none}
use Rattle.table_views.proofs.Part.name.Goals as goal

pub returns-then-w-ne-WORDS-clause-said : goal.returns-then-w-ne-WORDS-clause-said
unfolding name_of
returns-then-w-ne-WORDS-clause-said c =
    let a = c.args in name_none a.self.first a.self.width a.numbers a.self.count a.w.now a.i c.if-w-ne-WORDS.true

pub returns-then-self-i-clause-said : goal.returns-then-self-i-clause-said
unfolding name_of
returns-then-self-i-clause-said c =
    let a = c.args in name_past a.self.first a.self.width a.numbers a.self.count a.w.now a.i c.if-w-ne-WORDS.false c.if-self-i.true
