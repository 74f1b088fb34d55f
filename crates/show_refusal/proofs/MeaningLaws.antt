-- What a number means, by a test of each number in turn.
use mathlib.Core.Path.{◌≡◌}
use Prim.Native.Nat.{ℕ, zero, suc, ◌+◌}
use Prim.Native.String.{String}
use native.Mathlib.Omega.{arith}
use mathlib.Core.Bool.{cond}
use mathlib.Core.List.{List, [], ◌∷◌}
use lib.ListN.{get_or}
use lib.Dec.{eqb}
use Rattle.std.proofs.lemmas.Bool.Decides.{nat_tests}
use Rattle.show_text.specs.Text.{ascii}
use Rattle.show_text.proofs.PageLaws.{codes, ascii_is}
use Rattle.show_refusal.specs.Meaning.{meanings, meaning}

-- the word that stands at n, of a list that begins at k
abbrev pub by_tests : List String → ℕ → ℕ → List ℕ
by_tests [] k n = []
by_tests (w ∷ ws) k n = cond (eqb n k) (codes w) (by_tests ws (suc k) n)

tests_at : (ws : List String) (k i n : ℕ) → n ≡ k + i → ascii (get_or ws i "") ≡ by_tests ws k n
tests_at [] k i n e = ascii_is ""
tests_at (w ∷ ws) k zero n e = let z : n ≡ k = omega arith in rw (z) (grind (arith, nat_tests, ascii_is w))
tests_at (w ∷ ws) k (suc i) n e = grind (arith, nat_tests, tests_at ws (suc k) i n (omega arith))

pub meaning_is : (n : ℕ) → meaning n ≡ by_tests meanings 0 n
unfolding meaning
meaning_is n = tests_at meanings 0 n n (omega arith)

pub ruleset meant = (meaning_is, nat_tests)
