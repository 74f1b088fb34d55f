-- The text of rows, one after another: a row says no more than its own words do.
use mathlib.Core.Path.{◌≡◌, ap, sym, ◌∙◌}
use Prim.Native.Nat.{ℕ, ◌≤◌}
use native.Mathlib.Omega.{arith}
use mathlib.Core.List.{List, ◌∷◌, map}
use lib.ListN.{take, drop, get_or}
use Rattle.std.proofs.lemmas.List.{take-take, drop-take, get_or-take}
use Rattle.lists.specs.Lists.{flat_map}
use Rattle.names.specs.Words.{name_of, name_width}
use Rattle.table_words.specs.Layout.{entry_width, membership_width}
use Rattle.table_words.specs.Words.{entry_of, membership_of}
use Rattle.show_text.specs.declared.Page.{Page}
use Rattle.show_text.specs.Page.{with_text}
use Rattle.show_text.proofs.PageLaws.{text_then}

-- one turn of the loop: the text of the first row is put
pub row_put : {A : Type 0} (w : ℕ) (of : List ℕ → A) (f : A → List ℕ) (cut : (y : List ℕ) → of (take w y) ≡ of y) (p q : Page) (x : List ℕ) → q ≡ with_text p (f (of x))
    → (y : List ℕ) (ys : List (List ℕ)) → take w y ≡ x → with_text p (flat_map f (map of (y ∷ ys))) ≡ with_text q (flat_map f (map of ys))
row_put w of f cut p q x h y ys e =
    let s : List ℕ = flat_map f (map of ys) in
    text_then p (f (of y)) s ∙ ap (λ (r : Page). with_text r s) (rw (sym (cut y) ∙ ap of e) (sym h))

name_cut : (r : List ℕ) → name_of (take name_width r) ≡ name_of r
unfolding name_of
name_cut r = rw (get_or-take name_width r 0 0 (omega arith), drop-take 1 16 r, take-take 16 16 (drop 1 r) (omega arith))

pub entry_cut : (y : List ℕ) → entry_of (take entry_width y) ≡ entry_of y
entry_cut y =
    let at : (i : ℕ) → i ≤ 5 → get_or (take entry_width y) i 0 ≡ get_or y i 0 = λ i h. get_or-take entry_width y i 0 (omega arith) in
    rw (drop-take 6 name_width y, name_cut (drop 6 y), at 0 (omega arith), at 1 (omega arith), at 2 (omega arith), at 3 (omega arith), at 4 (omega arith), at 5 (omega arith))

pub membership_cut : (y : List ℕ) → membership_of (take membership_width y) ≡ membership_of y
membership_cut y = rw (get_or-take membership_width y 0 0 (omega arith), get_or-take membership_width y 1 0 (omega arith))
