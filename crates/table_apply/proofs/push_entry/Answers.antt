-- `push_entry` meets its contract: the row behind the last is the entry, and the count is one more.
use mathlib.Core.Path.{◌≡◌, ◌∙◌}
use Prim.Native.Nat.{ℕ, ◌*◌}
use mathlib.Core.List.{List}
use lib.ListN.{length-set}
use Rattle.table_apply.proofs.ApplyLaws.{pushed}
use Rattle.rows.specs.Rows.{put_words}
use Rattle.table_words.specs.Layout.{entry_width}
use Rattle.table_words.specs.Words.{entry_count, entry_part, entry_of, entry_words}
use borrow.Author.Rules.{rules}
use Rattle.table_apply.proofs.push_entry.Goals as goal

same : (m n : ℕ) → m ≡ n → (x y : List ℕ) → x ≡ y → (p : List ℕ) → put_words p (entry_width * m) x ≡ put_words p (entry_width * n) y
same m n h x y e p = rw (h, e)

pub bounds-w-0 : goal.bounds-w-0
bounds-w-0 c = simp length-set (search rules)

pub returns : goal.returns
returns c =
    let l = c.args.w.now in let e = c.args.entry.now in
    let n : c.small-n.result ≡ entry_count l = c.small-n.ensures in
    let z : c.put.new.s ≡ put_words (entry_part l) (entry_width * entry_count l) (entry_words (entry_of e)) =
    c.put.ensures ∙ same c.small-n.result (entry_count l) n e (entry_words (entry_of e)) c.requires.packed.2 (entry_part l) in
    rw (c.short.ensures, n) (pushed l (entry_of e) c.requires.packed.0 c.requires.w_bound c.put.new.s z)
