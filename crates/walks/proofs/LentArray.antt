-- A `&κ mut [T; n]` that is lent as a `&ν mut [T]`, for a lifetime ν of a call, and comes back.
--     LentArray        what the holder keeps while the elements are lent under the name δ: the lender's part at ν, and its own borrow at κ, open, with both halves of its ghost variable
--     lends_array      given `Room`:  own (the `&κ mut [T; n]` ((b, o), γ, ys)) ∗ [κ]_q  ⊢ ⇛ ∃ δ. own (the `&ν mut [T]` ((b, o), δ, ys)) ∗ LentArray δ
--     array_back       [†ν] ∗ LentArray δ ∗ finally δ zs  ⊢ ⇛ (own (the `&κ mut [T; n]` ((b, o), γ, zs)) ∗ [κ]_q)
-- Assumes `Logic`.
use mathlib.Core.Path.{refl, sym, subst}
use Prim.Native.Nat.{ℕ}
use mathlib.Core.List.{List, [], ◌∷◌}
use lib.ListN.{length}
use seplogic.Ra.Ura.{Ura}
use base.Fraction.{full_share}
use mir.Syntax.{Lifetime}
use mir.Val.{Val, vptr}
use base.Logic.{ent, sep, ex}
use base.Fml.{Lft, GName, Share, Fml, fsep, flft, fdead, fobs, fauth, flent, fobor}
use types.Logic.{Logic, sem}
use types.Kit.{‵, ◌⊛◌, some, later, ◌$◌, ◌∵◌, !, qed, move, use1, use3, split, pick, rewrite, fsplit, fsplit3, fjoin, fjoin3, feq_l, feq_i, frame, await, updating, now as at_once, show, done}
use types.SemTy.{cells, Arr, Body}
use types.Share.{arr_parts}
use types.Mut.{open_ref, close_ref}
use denote.RattleType.{RattleType}
use denote.Memory.{mem, shares, part_at, part_of}
use denote.Ref.{MutBor, MutRef}
use denote.Array.{Array}
use denote.ArrayMemory.{Single, Array-apart, Array-whole}
use denote.Slice.{slice_val, MutSlice, Room, finally}
use denote.Lend.{Held, lends_slice, slice_back}
use denote.Index.{row, whole_in, whole_out}

module _ (R : RattleType) (n : ℕ) (κ ν : Lft) (q : Share) (γ : GName) (b o : ℕ) where
  abbrev at_list : GName → List R.Denot → MutBor (List R.Denot)
  at_list δ ys = record { ref_ptr = (b, o); ghost_name = δ; now = ys }

  abbrev pub LentArray : GName → List R.Denot → Fml
  LentArray δ ys =
      fsep (flent ν (Held R n b o δ)) (fsep (fobor κ q (Body (mem (Array R n)) b o γ)) (fsep (fobs γ ((Array R n).coded.code ys)) (fauth γ ((Array R n).coded.code ys))))

  module _ {M : Type 1} {𝓤 : Ura M} (𝓛 : Logic 𝓤) (ℓ ℓ' : Lifetime) where
    open 𝓛 use {H, A}

    pub lends_array : Single R.mir → Room R n → (ys : List R.Denot) → ent 𝓤 (sep 𝓤 (sem 𝓛 ((MutRef ℓ κ (Array R n)).own_val (at_list γ ys) (vptr b o ∷ []))) (A.lft κ q))
        (H.⇛ (ex 𝓤 (λ (δ : GName). sep 𝓤 (sem 𝓛 ((MutSlice ℓ' ν R).own_val (at_list δ ys) (slice_val (b, o) n ∷ []))) (sem 𝓛 (LentArray δ ys)))))
    unfolding part_of
    lends_array one room ys =
        qed 𝓛 (‵ ((MutRef ℓ κ (Array R n)).own_val (at_list γ ys) (vptr b o ∷ [])) ∷ ‵ (flft κ q) ∷ []) ∵ updating ! $ fsplit3 ! $ feq_l ! (λ _. open_ref ! tt (mem (Array R n)) $
        use1 𝓛 (‵ ((arr_parts (shares R) n).part full_share ys b o)) (Array-apart 𝓛 R full_share one n ys b o) $ fsplit ! $ feq_l ! (λ e. use1 𝓛 (‵ (cells (mem R) ys b o)) (whole_in 𝓛 R ys b o) $
        use1 𝓛 (later (some (λ (δ : GName). ‵ ((MutSlice ℓ' ν R).own_val (at_list δ ys) (slice_val (b, o) (length ys) ∷ [])) ⊛ ‵ (flent ν (Held R (length ys) b o δ))))) (lends_slice 𝓛 R ℓ' ν ys b o (subst (Room R) (sym e) room)) $ await ! tt $ pick ! (λ δ. split ! $
        rewrite ! 0 (λ (k : ℕ). ‵ ((MutSlice ℓ' ν R).own_val (at_list δ ys) (slice_val (b, o) k ∷ []))) e refl $ rewrite ! 1 (λ (k : ℕ). ‵ (flent ν (Held R k b o δ))) e refl $
        -- [the slice; the lender's part at ν; the open borrow at κ; obs γ; auth γ]
        at_once ! $ show ! (λ (δ' : GName). sep 𝓤 (sem 𝓛 ((MutSlice ℓ' ν R).own_val (at_list δ' ys) (slice_val (b, o) n ∷ []))) (sem 𝓛 (LentArray δ' ys))) δ $ frame ! $
        move ! (2 ∷ 3 ∷ []) $ fjoin ! $ move ! (2 ∷ 0 ∷ []) $ fjoin ! $ move ! (1 ∷ 0 ∷ []) $ fjoin ! $ done !)))

    pub array_back : (δ : GName) (ys zs : List R.Denot)
        → ent 𝓤 (sep 𝓤 (A.dead ν) (sep 𝓤 (sem 𝓛 (LentArray δ ys)) (sem 𝓛 (finally R δ zs)))) (H.⇛ (sep 𝓤 (sem 𝓛 ((MutRef ℓ κ (Array R n)).own_val (at_list γ zs) (vptr b o ∷ []))) (A.lft κ q)))
    unfolding part_of
    array_back δ ys zs =
        qed 𝓛 (‵ (fdead ν) ∷ ‵ (LentArray δ ys) ∷ ‵ (finally R δ zs) ∷ []) ∵ updating ! $ move ! (1 ∷ []) $ fsplit ! $ move ! (2 ∷ 0 ∷ 3 ∷ []) $
        use3 𝓛 (later (‵ ((Arr (mem R) n).own_at zs b o))) (slice_back 𝓛 R ν δ zs n b o) $ await ! tt $
        fsplit ! $ move ! (1 ∷ []) $ use1 𝓛 (‵ (row R full_share zs b o)) (whole_out 𝓛 R zs b o) $ move ! (1 ∷ 0 ∷ []) $ fjoin ! $ use1 𝓛 (‵ (part_at (Array R n) full_share zs b o)) (Array-whole 𝓛 R full_share n zs b o) $
        -- [the array; the open borrow with obs γ and auth γ]
        move ! (1 ∷ []) $ fsplit3 ! $ move ! (3 ∷ 0 ∷ 1 ∷ 2 ∷ []) $ close_ref ! tt (mem (Array R n)) zs $ at_once ! $ feq_i ! (List Val) (vptr b o ∷ []) (vptr b o ∷ []) refl $ fjoin3 ! $ done !
