-- `batch_in` meets its contract: `begin` says how many turns there are; when all are taken, words and records are what the contract says.
use Rattle.std.proofs.Common.{◌≡◌, ap, ◌∙◌, length, arith}
use Rattle.batch.specs.Batch.{batch_answer}
use Rattle.batch.proofs.LoopLaws.{start, turns, written, words_is, written_is}
use Rattle.batch.proofs.batch_in.Goals as goal

pub returns-clause-words : goal.returns-clause-words
returns-clause-words c =
    let l = c.args.w.now in let m = c.args.m.now in let room = length c.args.records.now in
    let n : c.begin-answer.result.count ≡ (batch_answer l m room).count = ap (λ a. a.count) c.begin-answer.ensures in
    let all : c.loop-i.i ≡ (batch_answer l m room).count = omega (arith, n, c.loop-i-test.false) in
    c.loop-i.invariant.1 ∙ ap (λ i. (turns i m (start l)).words) all ∙ words_is l m room

pub returns-clause-records : goal.returns-clause-records
returns-clause-records c =
    let l = c.args.w.now in let m = c.args.m.now in let rs = c.args.records.now in
    let n : c.begin-answer.result.count ≡ (batch_answer l m (length rs)).count = ap (λ a. a.count) c.begin-answer.ensures in
    let all : c.loop-i.i ≡ (batch_answer l m (length rs)).count = omega (arith, n, c.loop-i-test.false) in
    c.loop-i.invariant.2 ∙ ap (λ i. written i m (start l) rs) all ∙ written_is l m rs
