-- What comes is not lost (paper 02, A11), of the replay and one message: what is accepted stays accepted, and an operation of a version that
-- is at most 32 above the start is accepted once it comes, unless one of that version is already.
use mathlib.Core.Path.{◌≡◌, refl, ◌∙◌, subst}
use Prim.Native.Nat.{ℕ, ◌+◌, ◌≤◌, ◌<◌}
use native.Mathlib.Omega.{arith}
use mathlib.Core.Bool.{Bool, true, false, cond}
use mathlib.Core.List.{List, [], ◌∷◌}
use mathlib.Core.Option.{Option, none, some}
use lib.Dec.{eqb, leb, ltb}
use borrow.Author.Tests.{leb-true, eqb-true, eqb-false, eq-eqb, le-ltb}
use Rattle.lists.specs.Lists.{insert_by}
use Rattle.table_rules.specs.Operations.{Operation, find, insert}
use Rattle.table_rules.specs.NameTable.{NameTable}
use Rattle.operations.specs.Received.{operation_in}
use Rattle.replay.specs.Replay.{watermark, repeated_no, version_no, message_no, accepted_after}
use Rattle.replay.specs.Faithful.{Rising, Has}
use Rattle.replay.proofs.OperationLaws.{find_insert_other}
use Rattle.replay.proofs.RunLaws.{watermark_le}
use Rattle.replay.proofs.WatermarkLaws.{has_all}

-- ---- insertion

has_inserted : (op : Operation) (os : List Operation) → Has op.version (insert op os)
unfolding find insert_by
has_inserted op [] = (op, rw (eq-eqb op.version op.version refl))
has_inserted op (o ∷ os) = go (ltb op.version o.version) (eqb o.version op.version) refl (has_inserted op os)
  where
    go : (b d : Bool) → eqb o.version op.version ≡ d → Has op.version (insert op os) → Has op.version (cond b (op ∷ (o ∷ os)) (o ∷ insert op os))
    go true d f ih = (op, rw (eq-eqb op.version op.version refl))
    go false true f ih = (o, rw f)
    go false false f ih = (ih.0, rw f ih.1)

has_insert : (v : ℕ) (op : Operation) (os : List Operation) → Has v os → Has v (insert op os)
has_insert v op os h = go (eqb op.version v) refl
  where
    go : (b : Bool) → eqb op.version v ≡ b → Has v (insert op os)
    go true e = subst (λ (u : ℕ). Has u (insert op os)) (eqb-true op.version v e) (has_inserted op os)
    go false e = (h.0, find_insert_other v op os (eqb-false op.version v e) ∙ h.1)

-- ---- one message

module _ (t : NameTable) (acc : List Operation) (v : ℕ) (m : List ℕ) where
  abbrev op : Operation
  op = (operation_in m).operation

  abbrev mark : ℕ
  mark = watermark t.version acc

  pub stays : Has v acc → Has v (accepted_after t acc m)
  unfolding accepted_after
  stays h = go (eqb (message_no t acc m) 0)
    where
      go : (b : Bool) → Has v (cond b (insert op acc) acc)
      go true = has_insert v op acc h
      go false = h

  module _ (is_read : (operation_in m).number ≡ 0) (of : op.version ≡ v) where
    -- above the watermark, within 32 of it, and missing: nothing refuses it
    no_number : leb v mark ≡ false → v ≤ mark + 32 → find v acc ≡ none → message_no t acc m ≡ 0
    unfolding message_no version_no repeated_no
    no_number past near missing = rw (is_read, of, past, le-ltb (mark + 32) v near, missing)

    pub comes : Rising t.version acc → t.version < v → v ≤ t.version + 32 → Has v (accepted_after t acc m)
    unfolding accepted_after
    comes r lo hi = go (leb v mark) refl (find v acc) refl
      where
        near : v ≤ mark + 32
        near = omega (arith, watermark_le t.version acc)

        go : (b : Bool) → leb v mark ≡ b → (f : Option Operation) → find v acc ≡ f → Has v (accepted_after t acc m)
        go true e f g = stays (has_all t.version acc r v lo (leb-true v mark e))
        go false e (some w) g = stays (w, g)
        go false e none g = rw (no_number e near g) (subst (λ (u : ℕ). Has u (insert op acc)) of (has_inserted op acc))
