-- Laws of reading: what a type answers, and a message as its type word and the part after it.
use mathlib.Core.Path.{◌≡◌, refl, sym, ap, ◌∙◌}
use Prim.Native.Nat.{ℕ, suc, ◌+◌, ◌-◌, ◌≤◌, ◌<◌, ◌^◌}
use mathlib.Core.Bool.{cond}
use mathlib.Core.List.{List, [], ◌∷◌, ◌++◌}
use lib.ListN.{length, get_or, take, drop, length-drop}
use lib.Seq.{take-length}
use lib.Dec.{ltb}
use native.Mathlib.Omega.{arith}
use borrow.Author.Tests.{lt-ltb, le-ltb, le-leb}
use Rattle.std.specs.Prelude.{Ok, Err, IsErrAnd}
use Rattle.refusal.specs.declared.Refusal.{Refusal}
use Rattle.refusal.specs.Numbers.{number, refused}
use Rattle.refusal.proofs.NumberLaws.{as_refused, number_positive}
use Rattle.refusal.proofs.AnswerLaws.{not_accepted, passed_why}
use Rattle.byte_words.specs.Bytes.{word_at}
use Rattle.byte_words.proofs.ByteLaws.{bytes_spelt}
use Rattle.wire_field.specs.Fields.{part_of, field_named}
use Rattle.wire_field.specs.declared.Fields.{Fields}
use Rattle.wire_field.specs.declared.FieldName.{FieldName}
use Rattle.wire_field.specs.declared.FieldName.TheVariants.{Name, Data, Password, ConnectData, Url, AlternateAddress}
use Rattle.wire_field.specs.Words.{whole, word}
use Rattle.wire_layout.specs.Layout.{Layout, most_bytes, exact_layout}
use Rattle.wire_layout.specs.Checks.{layout_no, pair_fields, layout_fields}
use Rattle.wire_field.proofs.WholeLaws.{length_whole, word_first}
use Rattle.wire_read.specs.Read.{Reading, answer, by_type, reading_of, number_of, no_fields}
use Rattle.wire_read.specs.declared.Message.{Message}

module _ (l : Layout) (said : List ℕ → Message) (m : List ℕ) where
  -- what `?` passes on is the answer
  pub refused_by : (r : Reading) (why : Refusal) → IsErrAnd r (λ y. y ≡ why) → number why ≡ layout_no l m → r ≡ answer l said m
  unfolding answer
  refused_by r why h e = passed_why r why h ∙ rw (not_accepted why e) (sym (as_refused why (layout_no l m) e))

  -- where the checks pass, the message and its fields are
  pub accepted : 0 ≡ layout_no l m → {v : Message} {fs : Fields} → v ≡ said m → fs ≡ layout_fields l m
      → Ok (record { message = v; fields = fs }) ≡ answer l said m
  unfolding answer
  accepted z p q = rw (← z, p, q)

-- no message is refused with 0
pub refused_not_zero : (m : List ℕ) (why : Refusal) → reading_of m ≡ Err why → number_of (reading_of m) ≡ 0 → ⊥
refused_not_zero m why e z = let n : number why ≡ 0 = rw e at z in omega (arith, number_positive why, n)

-- a message of fixed length has no field
pub no_pairs : (kind fixed : ℕ) (ids m : List ℕ) → no_fields ≡ layout_fields (exact_layout kind fixed ids) m
unfolding no_fields pair_fields exact_layout
no_pairs kind fixed ids m = refl

-- reading a type word and the part after it
pub reading_after : (kind : ℕ) (rest : List ℕ) → kind < 256 ^ 4
    → reading_of (whole kind rest) ≡ cond (ltb most_bytes (4 + length rest)) (refused 1) (by_type kind (whole kind rest))
unfolding reading_of
reading_after kind rest h = rw (length_whole kind rest, word_first kind rest h, le-ltb (4 + length rest) 4 (omega arith))

front_again : (m : List ℕ) → 4 ≤ length m → ((i : ℕ) → get_or m i 0 < 256) → whole (word m 0) (drop 4 m) ≡ m
unfolding whole word_at
front_again [] h f = absurd (omega arith)
front_again (a ∷ []) h f = absurd (omega arith)
front_again (a ∷ (b ∷ [])) h f = absurd (omega arith)
front_again (a ∷ (b ∷ (c ∷ []))) h f = absurd (omega arith)
front_again (a ∷ (b ∷ (c ∷ (d ∷ rest)))) h f =
    rw (le-leb 4 (suc (suc (suc (suc (length rest))))) (omega arith))
    (ap (λ (bs : List ℕ). bs ++ rest) (bytes_spelt (a ∷ (b ∷ (c ∷ (d ∷ [])))) (f 0, (f 1, (f 2, (f 3, tt))))))

-- a message is its type word and the part after it
pub whole_again : (m : List ℕ) → 4 ≤ length m → ((i : ℕ) → get_or m i 0 < 256) → whole (word m 0) (take (length m - 4) (drop 4 m)) ≡ m
whole_again m h f = rw (← length-drop 4 m, take-length (drop 4 m)) (front_again m h f)

-- under 4 bytes
pub reading_short : (m : List ℕ) → length m < 4 → reading_of m ≡ refused 2
unfolding reading_of
reading_short m h = rw (le-ltb most_bytes (length m) (omega arith), lt-ltb (length m) 4 h)

-- nothing is shown of no field
pub none_shown : (m : List ℕ) (n : FieldName) → ◌≡◌ {A = List ℕ} [] (part_of m (field_named n no_fields))
unfolding no_fields pair_fields
none_shown m Name = refl
none_shown m Data = refl
none_shown m Password = refl
none_shown m ConnectData = refl
none_shown m Url = refl
none_shown m AlternateAddress = refl
