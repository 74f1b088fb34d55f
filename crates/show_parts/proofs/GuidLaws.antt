-- The bytes of a GUID picked one by one are the groups of its text.
use mathlib.Core.Path.{◌≡◌, sym}
use Prim.Native.Nat.{ℕ}
use mathlib.Core.List.{List, [], ◌∷◌, ◌++◌}
use lib.ListN.{get_or, take, drop}
use Rattle.show_text.specs.declared.Page.{Page}
use Rattle.show_text.specs.Page.{with_text}
use Rattle.show_text.proofs.PageLaws.{text_then}
use Rattle.show_escaped.specs.Escaped.{hex_text}
use Rattle.wire_connect.specs.declared.Guid.{Guid}
use Rattle.wire_connect.specs.Connect.{guid_bytes}
use Rattle.show_parts.specs.Parts.{guid_group, guid_text}

-- five texts, one after another
five : (p : Page) (a b c d e : List ℕ) → with_text p (a ++ (b ++ (c ++ (d ++ e)))) ≡ with_text (with_text (with_text (with_text (with_text p a) b) c) d) e
five p a b c d e = rw (text_then, text_then, text_then, text_then)

abbrev at : List ℕ → ℕ → ℕ
at b i = get_or b i 0

pub guid_put : (p : Page) (b : List ℕ) (g : Guid) → b ≡ guid_bytes g
    → with_text (with_text (with_text (with_text (with_text p (guid_group (at b 3 ∷ at b 2 ∷ at b 1 ∷ at b 0 ∷ [])))
    (guid_group (at b 5 ∷ at b 4 ∷ []))) (guid_group (at b 7 ∷ at b 6 ∷ []))) (guid_group (take 2 (drop 8 b)))) (hex_text (take 6 (drop 10 b)))
    ≡ with_text p (guid_text g)
unfolding guid_text
guid_put p b g e = rw e (sym (five p _ _ _ _ _))
