-- `take_out` meets its contract: what is kept so far, and what is kept of the rows to come, is what is kept of all.
use mathlib.Core.Path.{◌≡◌}
use Prim.Native.Nat.{◌-◌, ◌*◌, ◌≤◌}
use mathlib.Core.List.{◌++◌}
use lib.ListN.{length, take, drop}
use Rattle.rows.specs.Rows.{words_are, kept_words}
use Rattle.rows.proofs.take_out.Given as goal

abbrev pub invariant-loop-k : goal.invariant-loop-k
invariant-loop-k l = (l.to ≤ l.width * l.k) × (length l.s ≡ length l.initial.s) × (drop (l.width * l.k) l.s ≡ drop (l.width * l.k) l.initial.s)
    × (kept_words (words_are l.c l.a l.d l.b) l.width l.count l.initial.s ≡ take l.to l.s ++ kept_words (words_are l.c l.a l.d l.b) l.width (l.count - l.k) (drop (l.width * l.k) l.s))
