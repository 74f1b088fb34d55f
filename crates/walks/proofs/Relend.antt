-- A run that is lent again around a call, as four steps of a walk.
-- The run's machine value has the count n at entry; the list l that stands has as many elements, by an equation and not by computation: the steps take the equation, and no walk rewrites the count.
--     relend           own (the `&κ mut [T]` l) ∗ [κ]_q: for a new lifetime ν and name δ,  own (the `&ν mut [T]` l) ∗ what is kept ∗ ν's token
--     regain           ν's token ∗ what is kept ∗ the last list l', given l' ≡ l'' and that it is as long as l: own (the `&κ mut [T]` l'') ∗ [κ]_q
--     relend_shared, regain_shared     the same for a `&`, where the elements are lent so with no token (`AgainShared.antt`'s `Free`): it comes back as it was
-- Assumes `Logic`.
use mathlib.Core.Path.{◌≡◌, refl, sym, subst}
use Prim.Native.Nat.{ℕ}
use mathlib.Core.List.{List, [], ◌∷◌}
use lib.ListN.{length}
use seplogic.Ra.Ura.{Ura}
use base.Fraction.{full_share}
use mir.Syntax.{named}
use base.Fml.{Lft, GName, Share, Fml, flft}
use types.Logic.{Logic}
use types.Kit.{Goal, Soaks, Item, ‵, ◌⊛◌, some, later, Seq, Step, step, ◌$◌, move, use2, use3, split, pick, rewrite, await}
use types.Tokens.{lft_new, lft_end}
use denote.RattleType.{RattleType}
use denote.Slice.{slice_val, MutSlice, ShrSlice, Room, finally}
use Rattle.walks.proofs.Again.{LentAgain, lends_again, comes_back}
use Rattle.walks.proofs.AgainShared.{LentShared, Free, lends_shared, comes_back_shared}

-- what a `&κ mut [T]` owns at the list l, at the machine value of a run of n; and a `&κ [T]`
abbrev pub Run : (R : RattleType) → Lft → GName → ℕ → ℕ → ℕ → List R.Denot → Fml
Run R κ γ b o n l = (MutSlice (named 0) κ R).own_val (record { ref_ptr = (b, o); ghost_name = γ; now = l }) (slice_val (b, o) n ∷ [])

abbrev pub Look : (R : RattleType) → Lft → ℕ → ℕ → ℕ → List R.Denot → Fml
Look R κ b o n l = (ShrSlice (named 0) κ R).own_val (record { ref_ptr = (b, o); now = l }) (slice_val (b, o) n ∷ [])

module _ {M : Type 1} {𝓤 : Ura M} {𝓛 : Logic 𝓤} {K : Type 0} {Γ : List (Item 𝓤)} {G : Goal 𝓤 𝓛.H} where
  pub relend : K → Soaks G → (R : RattleType) (κ : Lft) (q : Share) (γ : GName) (b o n : ℕ) (l : List R.Denot) → length l ≡ n
      → ((ν : ℕ) (δ : GName) → Seq K 𝓛 (‵ (Run R (ν ∷ []) δ b o n l) ∷ ‵ (LentAgain R κ (ν ∷ []) q γ b o δ l) ∷ ‵ (flft (ν ∷ []) full_share) ∷ Γ) G)
      → Seq K 𝓛 (‵ (Run R κ γ b o n l) ∷ ‵ (flft κ q) ∷ Γ) G
  relend t z R κ q γ b o n l e k =
      rewrite t 0 (λ (c : ℕ). ‵ (Run R κ γ b o c l)) (sym e) refl $ lft_new t z (λ ν. move t (1 ∷ 2 ∷ []) $
      use2 𝓛 (later (some (λ (δ : GName). ‵ (Run R (ν ∷ []) δ b o (length l) l) ⊛ ‵ (LentAgain R κ (ν ∷ []) q γ b o δ l)))) (lends_again R κ (ν ∷ []) q γ b o 𝓛 (named 0) (named 0) l) $ await t z $ pick t (λ δ. split t $
      rewrite t 0 (λ (c : ℕ). ‵ (Run R (ν ∷ []) δ b o c l)) e refl $ k ν δ))

  pub regain : K → Soaks G → (R : RattleType) (κ : Lft) (q : Share) (γ : GName) (b o n : ℕ) (l : List R.Denot) → length l ≡ n → Room R n → {ν : ℕ} {δ : GName} (l' l'' : List R.Denot) → length l' ≡ length l → l' ≡ l''
      → Step K 𝓛 (‵ (Run R κ γ b o n l'') ∷ ‵ (flft κ q) ∷ Γ) G (‵ (flft (ν ∷ []) full_share) ∷ ‵ (LentAgain R κ (ν ∷ []) q γ b o δ l) ∷ ‵ (finally R δ l') ∷ Γ) G
  regain t z R κ q γ b o n l e room {ν} {δ} l' l'' same is =
      step (λ s. lft_end t z $ use3 𝓛 (later (‵ (Run R κ γ b o (length l) l') ⊛ ‵ (flft κ q))) (comes_back R κ (ν ∷ []) q γ b o 𝓛 (named 0) (named 0) l δ l' (subst (Room R) (sym e) room) same) $ await t z $ split t $
      rewrite t 0 (λ (c : ℕ). ‵ (Run R κ γ b o c l')) e refl $ rewrite t 0 (λ (y : List R.Denot). ‵ (Run R κ γ b o n y)) is refl $ s)

  pub relend_shared : K → Soaks G → (R : RattleType) (κ : Lft) (q : Share) (γ : GName) (b o n : ℕ) (l : List R.Denot) → length l ≡ n
      → ((ν : ℕ) → Free R κ (ν ∷ []) q γ b o 𝓛 l)
      → ((ν : ℕ) → Seq K 𝓛 (‵ (Look R (ν ∷ []) b o n l) ∷ ‵ (LentShared R κ (ν ∷ []) q γ b o l) ∷ ‵ (flft (ν ∷ []) full_share) ∷ Γ) G)
      → Seq K 𝓛 (‵ (Run R κ γ b o n l) ∷ ‵ (flft κ q) ∷ Γ) G
  relend_shared t z R κ q γ b o n l e free k =
      rewrite t 0 (λ (c : ℕ). ‵ (Run R κ γ b o c l)) (sym e) refl $ lft_new t z (λ ν. move t (1 ∷ 2 ∷ []) $
      use2 𝓛 (later (‵ (Look R (ν ∷ []) b o (length l) l) ⊛ ‵ (LentShared R κ (ν ∷ []) q γ b o l))) (lends_shared R κ (ν ∷ []) q γ b o 𝓛 (named 0) (named 0) l (free ν)) $ await t z $ split t $
      rewrite t 0 (λ (c : ℕ). ‵ (Look R (ν ∷ []) b o c l)) e refl $ k ν)

  pub regain_shared : K → Soaks G → (R : RattleType) (κ : Lft) (q : Share) (γ : GName) (b o n : ℕ) (l : List R.Denot) → length l ≡ n → Room R n → {ν : ℕ}
      → Step K 𝓛 (‵ (Run R κ γ b o n l) ∷ ‵ (flft κ q) ∷ Γ) G (‵ (flft (ν ∷ []) full_share) ∷ ‵ (LentShared R κ (ν ∷ []) q γ b o l) ∷ Γ) G
  regain_shared t z R κ q γ b o n l e room {ν} =
      step (λ s. lft_end t z $ use2 𝓛 (later (‵ (Run R κ γ b o (length l) l) ⊛ ‵ (flft κ q))) (comes_back_shared R κ (ν ∷ []) q γ b o 𝓛 (named 0) (named 0) l (subst (Room R) (sym e) room)) $ await t z $ split t $
      rewrite t 0 (λ (c : ℕ). ‵ (Run R κ γ b o c l)) e refl $ s)
