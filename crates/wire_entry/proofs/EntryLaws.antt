-- A message that is an entry block and passed its checks has its whole fixed part.
use mathlib.Core.Path.{◌≡◌, sym}
use Prim.Native.Nat.{ℕ, ◌+◌, ◌≤◌}
use mathlib.Core.List.{List}
use lib.ListN.{length}
use Rattle.wire_field.specs.Words.{type_word, whole}
use Rattle.wire_field.proofs.WholeLaws.{length_whole}
use Rattle.wire_layout.specs.Layout.{entry_layout}
use Rattle.wire_layout.specs.Checks.{layout_no}
use Rattle.wire_layout.proofs.LieLaws.{fixed_whole}

pub entry_whole : (kind p fixed : ℕ) (rest : List ℕ) → 0 ≡ layout_no (entry_layout kind p fixed) (whole kind rest) → fixed ≤ type_word + length rest
unfolding entry_layout
entry_whole kind p fixed rest e = rw (length_whole kind rest) at (fixed_whole (whole kind rest) (entry_layout kind p fixed) (sym e))
