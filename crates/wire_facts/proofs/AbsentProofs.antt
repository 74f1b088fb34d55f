-- The statement on absent fields holds: by the absence rules of the layouts, and by what reading does with each type.
use mathlib.Core.Path.{◌≡◌, refl, sym, ◌∙◌}
use Prim.Native.Nat.{ℕ, ◌+◌}
use mathlib.Core.Bool.{Bool, true, false, cond, ◌||◌}
use mathlib.Core.List.{List, [], ◌∷◌, ◌++◌}
use lib.ListN.{length}
use lib.Dec.{eqb, ltb}
use native.Mathlib.Omega.{arith}
use borrow.Author.Tests.{eqb-true}
use Rattle.std.specs.Prelude.{Ok, Some, None}
use Rattle.refusal.specs.Numbers.{refusal_of, refused}
use Rattle.refusal.proofs.NumberLaws.{number_positive, number_back}
use Rattle.lists.specs.Lists.{All, every}
use Rattle.lists.proofs.ListLaws.{all_weaken}
use Rattle.wire_field.specs.declared.Form.{Form}
use Rattle.wire_field.specs.declared.Absence.TheVariants.{Either}
use Rattle.wire_field.specs.declared.Span.{Span}
use Rattle.wire_field.specs.Words.{word}
use Rattle.wire_field.specs.Fields.{stated_field, field_named}
use Rattle.wire_layout.specs.Layout.{Layout, Pair, most_bytes, second, extended_from, plain_end, extended_end, connect_pairs, alternate_pair, connect_layout}
use Rattle.wire_layout.specs.Layout.{plain_connect_info, extended_connect_info, connect_info_word, entry_layout}
use Rattle.wire_layout.specs.Stated.{has_zero, ZeroTogether}
use Rattle.wire_layout.specs.Checks.{layout_no, field_at, pair_fields, layout_fields}
use Rattle.wire_layout.proofs.LieLaws.{by_test}
use Rattle.wire_layout.proofs.AbsenceLaws.{lax_never_8, strict_together, connect_lax, entry_strict}
use Rattle.wire_connect.specs.Connect.{connect_by, connect_info}
use Rattle.wire_read.specs.Read.{Reading, answer, by_type, reading_of, number_of, fields_of}
use Rattle.wire_read.specs.Values.{connect_info_of, add_player_of, create_group_of}
use Rattle.wire_facts.specs.Absent.{is_absent, NoFurther, Strict, AbsentFields}
use Rattle.wire_read.specs.declared.Message.{Message}
use Rattle.wire_facts.proofs.SameLaws.{clear, type_same, dnet_same, answer_same}

-- what holds of 1 and 2 and of the answer by the type holds of a reading
by_listed : (P : Reading → Type 0) (m : List ℕ) {type : ℕ} → word m 0 ≡ type → P (refused 1) → P (refused 2) → P (by_type type m) → P (reading_of m)
unfolding reading_of
by_listed P m e one two listed = by_test P (ltb most_bytes (length m)) (λ _. one) (λ _. by_test P (ltb (length m) 4) (λ _. two) (λ _. rw e listed))

-- what holds of every refusal and of an accepted message holds of an answer
by_answer : (P : Reading → Type 0) (l : Layout) (said : List ℕ → Message) (m : List ℕ)
    → (layout_no l m ≡ 0 → P (Ok (record { message = said m; fields = layout_fields l m }))) → ((n : ℕ) → n ≡ layout_no l m → P (refused n)) → P (answer l said m)
unfolding answer
by_answer P l said m f g = by_test P (eqb (layout_no l m) 0) (λ e. f (eqb-true (layout_no l m) 0 e)) (λ _. g (layout_no l m) refl)

-- what holds of both forms
by_form : (P : Layout → Type 0) (dnet : ℕ) → P plain_connect_info → P extended_connect_info → P (connect_by dnet)
unfolding connect_by
by_form P dnet plain extended = by_test P (ltb dnet extended_from) (λ _. plain) (λ _. extended)

module _ (m : List ℕ) (e : word m 0 ≡ connect_info_word) where
  never_8 : number_of (reading_of m) ≡ 8 → ⊥
  never_8 =
      by_listed (λ r. number_of r ≡ 8 → ⊥) m e (λ z. omega arith) (λ z. omega arith)
      (by_answer (λ r. number_of r ≡ 8 → ⊥) (connect_info m) connect_info_of m (λ _ z. omega arith)
      (λ n k z. lax_never_8 (connect_info m) m (by_form (λ l. l.absence ≡ Either) (word m second) (connect_lax plain_end _) (connect_lax extended_end _)) (sym k ∙ number_back n z (λ y. omega arith))))

  absent_is : (b : Bool) (s : Span) → is_absent (cond b None (Some s)) ≡ b
  absent_is true s = refl
  absent_is false s = refl

  absent_at : (form : Form) (q : ℕ) → is_absent (field_at Either form m q) ≡ (eqb (word m q) 0 || eqb (word m (q + 4)) 0)
  unfolding field_at stated_field
  absent_at form q = absent_is (eqb (word m q) 0 || eqb (word m (q + 4)) 0) _

  -- the pairs of a layout, each with its field as it is shown
  abbrev AsStated : Layout → Type 0
  AsStated l = All (λ (p : Pair). is_absent (field_named p.name (layout_fields l m)) ≡ has_zero m p) l.pairs

  plain_stated : AsStated plain_connect_info
  unfolding pair_fields connect_layout connect_pairs
  plain_stated = (absent_at _ _, (absent_at _ _, (absent_at _ _, (absent_at _ _, (absent_at _ _, tt)))))

  extended_stated : AsStated extended_connect_info
  unfolding pair_fields connect_layout connect_pairs alternate_pair
  extended_stated = (absent_at _ _, (absent_at _ _, (absent_at _ _, (absent_at _ _, (absent_at _ _, (absent_at _ _, tt))))))

  abbrev AsShown : Reading → Type 0
  AsShown r = number_of r ≡ 0 → All (λ (p : Pair). is_absent (field_named p.name (fields_of r)) ≡ has_zero m p) (connect_info m).pairs

  absent : AsShown (reading_of m)
  absent =
      by_listed AsShown m e (λ z. absurd (omega arith)) (λ z. absurd (omega arith))
      (by_answer AsShown (connect_info m) connect_info_of m
      (λ _ _. by_form AsStated (word m second) plain_stated extended_stated)
      (λ n _ z. absurd (omega (arith, number_positive (refusal_of n), z))))

  reading_same : (fixed : ℕ) (qs : List Pair) → connect_info m ≡ connect_layout Either fixed qs
      → (p : Pair) → clear (connect_layout Either fixed qs) p ≡ true → NoFurther m p
  unfolding reading_of
  reading_same fixed qs f p c n s zm zn =
      let l : Layout = connect_layout Either fixed qs in
      rw (← s.bytes, type_same m n p s l c, e, dnet_same m n p s l c, f, answer_same m n p s fixed qs c zm zn)

  all_same : (fixed : ℕ) (qs : List Pair) → connect_info m ≡ connect_layout Either fixed qs
      → All (λ (p : Pair). clear (connect_layout Either fixed qs) p ≡ true) qs → All (NoFurther m) qs
  all_same fixed qs f cs = all_weaken (λ (p : Pair). clear (connect_layout Either fixed qs) p ≡ true) (reading_same fixed qs f) qs cs

  no_further : All (NoFurther m) (connect_info m).pairs
  unfolding connect_by connect_layout connect_pairs alternate_pair every
  no_further =
      by_test (λ (l : Layout). All (NoFurther m) l.pairs) (ltb (word m second) extended_from)
      (λ b. all_same plain_end connect_pairs (rw b) (refl, (refl, (refl, (refl, (refl, tt))))))
      (λ b. all_same extended_end (connect_pairs ++ (alternate_pair ∷ [])) (rw b) (refl, (refl, (refl, (refl, (refl, (refl, tt)))))))

-- a type that is an entry: its row is that of its type word
module _ (kind p fixed : ℕ) (said : List ℕ → Message) (m : List ℕ) where
  abbrev l : Layout
  l = entry_layout kind p fixed

  abbrev Together : Reading → Type 0
  Together r = number_of r ≡ 0 → All (ZeroTogether m) l.pairs

  strict : by_type kind m ≡ answer l said m → word m 0 ≡ kind → Strict l m
  strict listed e =
      by_listed Together m e (λ z. absurd (omega arith)) (λ z. absurd (omega arith))
      (rw listed (by_answer Together l said m (λ z _. strict_together l m (entry_strict kind p fixed) z) (λ n _ z. absurd (omega (arith, number_positive (refusal_of n), z)))))

pub absent_fields : AbsentFields
absent_fields = record {
  connect_info_law = λ m e. record { never_8 = never_8 m e; absent = absent m e; no_further = no_further m e };
  add_player_law = λ m. strict _ _ _ add_player_of m refl;
  create_group_law = λ m. strict _ _ _ create_group_of m refl;
}
