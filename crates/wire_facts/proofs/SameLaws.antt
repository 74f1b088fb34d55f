-- Two messages of 0xC1 that differ in the bytes of one pair, which states an absent field in both, are read the same.
use mathlib.Core.Path.{◌≡◌, refl, sym, ◌∙◌, ap}
use Prim.Native.Nat.{ℕ, zero, suc, ◌+◌, ◌-◌, ◌≤◌}
use mathlib.Core.Bool.{Bool, true, false, cond, not, ◌&&◌, ◌||◌}
use mathlib.Core.List.{List, [], ◌∷◌, map}
use lib.ListN.{length, get_or, take, drop}
use lib.Seq.{take-take, drop-drop}
use lib.Dec.{eqb, eqb-suc-zero, leb}
use native.Mathlib.Omega.{arith}
use borrow.Author.Tests.{leb-true, eqb-true}
use Rattle.std.specs.Prelude.{Ok, None}
use Rattle.refusal.specs.Checks.{when, first_of}
use Rattle.refusal.specs.Numbers.{refused}
use Rattle.refusal.proofs.CheckLaws.{each_passed}
use Rattle.lists.specs.Lists.{every}
use Rattle.lists.proofs.ListLaws.{and_l, and_r, every_head, every_tail, every_at}
use Rattle.byte_words.specs.Bytes.{word_at}
use Rattle.wire_field.specs.declared.Offset.{Offset}
use Rattle.wire_field.specs.declared.Position.{Position}
use Rattle.wire_field.specs.declared.Form.{Form}
use Rattle.wire_field.specs.declared.Absence.TheVariants.{Either}
use Rattle.wire_field.specs.declared.Fields.{Fields}
use Rattle.wire_field.specs.declared.FieldName.{FieldName}
use Rattle.wire_field.specs.declared.FieldName.TheVariants.{Name, Data, Password, ConnectData, Url, AlternateAddress}
use Rattle.wire_field.specs.Words.{word}
use Rattle.wire_field.specs.Fields.{position_of, absent_by, place_no, well_formed, stated_part, present_no, present_field, stated_field, stated_no}
use Rattle.wire_field.proofs.FieldLaws.{behind_fixed}
use Rattle.wire_layout.specs.Layout.{Layout, Pair, first, second, connect_layout}
use Rattle.wire_layout.specs.Stated.{has_zero}
use Rattle.wire_layout.specs.Checks.{pair_no, field_at, pairs_no, ids_no, layout_checks, layout_no, field_among, pair_fields}
use Rattle.wire_connect.specs.Connect.{guid_at, connect_values}
use Rattle.wire_facts.specs.Absent.{SameBut}
use Rattle.wire_read.specs.Read.{Reading, answer}
use Rattle.wire_read.specs.declared.Message.{Message}
use Rattle.wire_read.specs.Values.{connect_info_of}

-- a word at q has none of the eight bytes from a on
abbrev apart : ℕ → ℕ → Bool
apart a q = leb (q + 4) a || leb (a + 8) q

-- a pair at q is the one at a, or has none of its bytes
abbrev beside : ℕ → Pair → Bool
beside a q = eqb q.position a || (apart a q.position && apart a (q.position + 4))

-- the words of the header that are in no pair
abbrev head_words : List ℕ
head_words = 0 ∷ 4 ∷ 8 ∷ 52 ∷ 56 ∷ 60 ∷ 64 ∷ 68 ∷ 72 ∷ 76 ∷ 80 ∷ []

-- the pair at a shares no byte with another pair of a layout or with a word, and stands in its fixed part
abbrev pub clear : Layout → Pair → Bool
clear l p = every (apart p.position) head_words && (every (beside p.position) l.pairs && leb (p.position + 8) l.fixed)

either_way : (a b : Bool) {A : Type 0} → a || b ≡ true → (a ≡ true → A) → (b ≡ true → A) → A
either_way true b e f g = f refl
either_way false b e f g = g e

-- a check that is looked at only after another passed
after_same : (k x y : ℕ) → (k ≡ 0 → x ≡ y) → first_of (k ∷ x ∷ []) ≡ first_of (k ∷ y ∷ [])
after_same zero x y h = rw (h refl)
after_same (suc k) x y h = rw (eqb-suc-zero k)

-- the fields of a message that is refused do not matter
abbrev said_with : Message → Fields → Reading
said_with v fs = Ok (record { message = v; fields = fs })

read_same : (k : ℕ) (v : Message) (fs gs : Fields) → (k ≡ 0 → fs ≡ gs)
    → cond (eqb k 0) (said_with v fs) (refused k) ≡ cond (eqb k 0) (said_with v gs) (refused k)
read_same zero v fs gs h = ap (said_with v) (h refl)
read_same (suc k) v fs gs h = rw (eqb-suc-zero k)

part_before : (q k a : ℕ) (m : List ℕ) → q + k ≤ a → take k (drop q (take a m)) ≡ take k (drop q m)
part_before zero k a m h = take-take k a m (omega arith)
part_before (suc q) k zero m h = absurd (omega arith)
part_before (suc q) k (suc a) [] h = refl
part_before (suc q) k (suc a) (x ∷ m) h = part_before q k a m (omega arith)

module _ (m n : List ℕ) (p : Pair) (s : SameBut p m n) where
  abbrev at : ℕ
  at = p.position

  before_same : (q : ℕ) → q + 4 ≤ at → take 4 (drop q n) ≡ take 4 (drop q m)
  before_same q h =
      sym (part_before q 4 at n h) ∙ ap (λ (l : List ℕ). take 4 (drop q l)) (sym s.before) ∙ part_before q 4 at m h

  behind_same : (q : ℕ) → at + 8 ≤ q → drop q n ≡ drop q m
  behind_same q h =
      let e : (at + 8) + (q - (at + 8)) ≡ q = omega arith in
      rw (← e, ← drop-drop (q - (at + 8)) (at + 8) n, ← drop-drop (q - (at + 8)) (at + 8) m, s.after)

  word_same : (q : ℕ) → apart at q ≡ true → word n q ≡ word m q
  unfolding word_at
  word_same q h =
      let e : take 4 (drop q n) ≡ take 4 (drop q m) =
      either_way (leb (q + 4) at) (leb (at + 8) q) h
      (λ b. before_same q (leb-true (q + 4) at b))
      (λ b. ap (take 4) (behind_same q (leb-true (at + 8) q b))) in
      rw (e, s.bytes)

  -- a pair is the one that may differ, or its words are the same
  by_place : (q : Pair) {A : Type 0} → beside at q ≡ true → (q.position ≡ at → A)
      → (word n q.position ≡ word m q.position → word n (q.position + 4) ≡ word m (q.position + 4) → A) → A
  by_place q h f g =
      let offset : Bool = apart at q.position in
      let size : Bool = apart at (q.position + 4) in
      either_way (eqb q.position at) (offset && size) h
      (λ b. f (eqb-true q.position at b))
      (λ b. g (word_same q.position (and_l offset size b)) (word_same (q.position + 4) (and_r offset size b)))

  module _ (fixed : ℕ) (w : at + 8 ≤ fixed) where
    stated_same : (form : Form) (o : Offset) (size : ℕ)
        → stated_no Either form n (record { 0 = fixed }) o size ≡ stated_no Either form m (record { 0 = fixed }) o size
    unfolding stated_no
    stated_same form o size =
        let f : Position = record { 0 = fixed } in
        let ill : List ℕ → ℕ = λ l. when (not (well_formed form (take size l))) 10 in
        rw (← s.bytes)
        (ap (cond (absent_by Either o size) 0)
        (after_same (place_no (length m) f o size) (ill (drop (position_of o).0 n)) (ill (drop (position_of o).0 m))
        (λ e. ap ill (behind_same (position_of o).0 (let b : fixed ≤ (position_of o).0 = behind_fixed (length m) f o size e in omega arith)))))

    -- a field that is in its place lies behind the pair
    shown_same : (form : Form) (o : Offset) (size : ℕ) → stated_no Either form m (record { 0 = fixed }) o size ≡ 0
        → stated_field Either form n o size ≡ stated_field Either form m o size
    unfolding stated_no stated_field
    shown_same form o size = go (absent_by Either o size)
      where
        go : (absent : Bool) → cond absent 0 (present_no form m (record { 0 = fixed }) o size) ≡ 0
            → cond absent None (present_field form n o size) ≡ cond absent None (present_field form m o size)
        go true e = refl
        go false e =
            let place : place_no (length m) (record { 0 = fixed }) o size ≡ 0 =
            each_passed (place_no (length m) (record { 0 = fixed }) o size ∷ when (not (well_formed form (stated_part m o size))) 10 ∷ []) 0 e in
            let b : fixed ≤ (position_of o).0 = behind_fixed (length m) (record { 0 = fixed }) o size place in
            rw (behind_same (position_of o).0 (omega arith))

    module _ (zm : has_zero m p ≡ true) (zn : has_zero n p ≡ true) where
      pair_same : (q : Pair) → beside at q ≡ true → pair_no Either q.form n fixed q.position ≡ pair_no Either q.form m fixed q.position
      unfolding pair_no stated_no
      pair_same q h =
          by_place q h
          (λ e. rw (e, zm, zn))
          (λ o size. rw (o, size) (stated_same q.form (record { 0 = word m q.position }) (word m (q.position + 4))))

      field_same : (q : Pair) → beside at q ≡ true → pair_no Either q.form m fixed q.position ≡ 0
          → field_at Either q.form n q.position ≡ field_at Either q.form m q.position
      unfolding pair_no field_at stated_field
      field_same q h y =
          by_place q h
          (λ e. rw (e, zm, zn))
          (λ o size. rw (o, size) (shown_same q.form (record { 0 = word m q.position }) (word m (q.position + 4)) y))

      pairs_same : (qs : List Pair) → every (beside at) qs ≡ true → pairs_no Either n fixed qs ≡ pairs_no Either m fixed qs
      unfolding pairs_no
      pairs_same [] h = refl
      pairs_same (q ∷ qs) h = rw (pair_same q (every_head (beside at) q qs h), pairs_same qs (every_tail (beside at) q qs h))

      among_same : (f : FieldName) (qs : List Pair) → every (beside at) qs ≡ true → pairs_no Either m fixed qs ≡ 0
          → field_among Either n f qs ≡ field_among Either m f qs
      unfolding pairs_no
      among_same f [] h y = refl
      among_same f (q ∷ qs) h y =
          let no : Pair → ℕ = λ r. pair_no Either r.form m fixed r.position in
          let x : no q ≡ 0 = each_passed (map no (q ∷ qs)) 0 y in
          rw (field_same q (every_head (beside at) q qs h) x, among_same f qs (every_tail (beside at) q qs h) (rw x at y))

      fields_same : (qs : List Pair) → every (beside at) qs ≡ true → pairs_no Either m fixed qs ≡ 0 → pair_fields Either n qs ≡ pair_fields Either m qs
      unfolding pair_fields
      fields_same qs h y =
          rw (
            among_same Name qs h y,
            among_same Data qs h y,
            among_same Password qs h y,
            among_same ConnectData qs h y,
            among_same Url qs h y,
            among_same AlternateAddress qs h y,
          )

      layout_same : (qs : List Pair) → every (beside at) qs ≡ true → word n first ≡ word m first
          → layout_no (connect_layout Either fixed qs) n ≡ layout_no (connect_layout Either fixed qs) m
      unfolding layout_no layout_checks connect_layout ids_no
      layout_same qs h e = rw (← s.bytes, e, pairs_same qs h)

  module _ (h : every (apart at) head_words ≡ true) where
    -- word i of those
    head_same : (i : ℕ) → word n (get_or head_words i 0) ≡ word m (get_or head_words i 0)
    head_same i = word_same (get_or head_words i 0) (every_at (apart at) 0 (every_head (apart at) 0 _ h) head_words i h)

    values_same : connect_values n ≡ connect_values m
    unfolding connect_values guid_at
    values_same =
        rw (head_same 1, head_same 2, head_same 3, head_same 4, head_same 5, head_same 6, head_same 7, head_same 8, head_same 9, head_same 10)

  module _ (l : Layout) (c : clear l p ≡ true) where
    heads_clear : every (apart at) head_words ≡ true
    heads_clear = and_l (every (apart at) head_words) (every (beside at) l.pairs && leb (at + 8) l.fixed) c

    -- the type word, and the word that tells the form
    pub type_same : word n 0 ≡ word m 0
    type_same = head_same heads_clear 0

    pub dnet_same : word n second ≡ word m second
    dnet_same = head_same heads_clear 2

  -- by one layout
  pub answer_same : (fixed : ℕ) (qs : List Pair) → clear (connect_layout Either fixed qs) p ≡ true → has_zero m p ≡ true → has_zero n p ≡ true
      → answer (connect_layout Either fixed qs) connect_info_of n ≡ answer (connect_layout Either fixed qs) connect_info_of m
  unfolding answer layout_no layout_checks connect_layout
  answer_same fixed qs c zm zn =
      let l : Layout = connect_layout Either fixed qs in
      let heads : Bool = every (apart at) head_words in
      let pairs : Bool = every (beside at) qs in
      let b : pairs && leb (at + 8) fixed ≡ true = and_r heads (pairs && leb (at + 8) fixed) c in
      let ps : pairs ≡ true = and_l pairs (leb (at + 8) fixed) b in
      let w : at + 8 ≤ fixed = leb-true (at + 8) fixed (and_r pairs (leb (at + 8) fixed) b) in
      rw (layout_same fixed w zm zn qs ps (head_same (heads_clear l c) 1), values_same (heads_clear l c))
      (read_same (layout_no l m) (connect_info_of m) (pair_fields Either n qs) (pair_fields Either m qs) (λ z. fields_same fixed w zm zn qs ps (each_passed (layout_checks l m) 4 z)))
