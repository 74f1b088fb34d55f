-- Every draft at once: how long its message is, when reading would refuse it, and what reading answers.
use mathlib.Core.Path.{◌≡◌, refl, sym, ap, ◌∙◌}
use Prim.Native.Nat.{ℕ, ◌+◌, ◌≤◌, ◌<◌, ◌^◌}
use mathlib.Core.Bool.{Bool, true, false, cond, not, ◌&&◌, ◌||◌, or_assoc}
use mathlib.Core.List.{List, [], ◌∷◌, map, append-nil}
use lib.ListN.{length, length-append}
use lib.Dec.{ltb, eqb, lit<}
use native.Mathlib.Omega.{arith}
use borrow.Author.Tests.{le-ltb, ltb-false}
use Rattle.lists.proofs.ListLaws.{all_get_d}
use Rattle.refusal.specs.declared.Refusal.{Refusal}
use Rattle.refusal.specs.Numbers.{number, refusal_of}
use Rattle.refusal.specs.Checks.{when, first_of}
use Rattle.refusal.proofs.AnswerLaws.{not_accepted}
use Rattle.refusal.proofs.CheckLaws.{the_last}
use Rattle.byte_words.specs.Bytes.{little, words, IsWord, AllWords}
use Rattle.byte_words.proofs.RunLaws.{length_words, word_words}
use Rattle.wire_field.specs.Words.{word}
use Rattle.wire_field.specs.declared.FieldName.{FieldName}
use Rattle.wire_layout.specs.Layout.{Layout, Pair}
use Rattle.wire_layout.specs.Checks.{flags_no, id_no, ids_no, pairs_no, layout_checks, layout_no}
use Rattle.wire_layout.proofs.LieLaws.{by_test}
use Rattle.wire_read.specs.Values.{layout_of}
use Rattle.wire_read.specs.Read.{Reading, answer, reading_of, number_of}
use Rattle.wire_read.specs.declared.Message.{Message}
use Rattle.wire_draft.specs.Draft.{Draft, laid, lengths, space, offset_given, pair_words, first_offset, draft_words, draft_bytes, says_bad}
use Rattle.wire_draft.specs.Given.{any_of}
use Rattle.wire_draft.specs.Write.{is_unreadable, write_no}
use Rattle.wire_draft.specs.Reasons.{any_ill, AllReasons}
use Rattle.wire_draft.specs.RoundTrip.{Fits}
use Rattle.wire_draft.proofs.LaidLaws.{refuses, refuses_when, refuses_then, length_laid, LaidOut, laid_out}
use Rattle.wire_draft.proofs.TypeLaws.{fit_all, filled, Told, told, Spelt}

pub refusal_refuses : (why : Refusal) → refuses (number why) ≡ true
refusal_refuses why = ap not (not_accepted why refl)

-- an answer by layout refuses where the layout does
pub refuses_answer : (l : Layout) (said : List ℕ → Message) (m : List ℕ) → refuses (number_of (answer l said m)) ≡ refuses (layout_no l m)
unfolding answer
refuses_answer l said m =
    by_test (λ (r : Reading). refuses (number_of r) ≡ refuses (layout_no l m)) (eqb (layout_no l m) 0) (λ e. sym (ap not e))
    (λ e. refusal_refuses (refusal_of (layout_no l m)) ∙ sym (ap not e))

-- an id that is 0 refuses
ids_refuse : (m ids : List ℕ) → refuses (ids_no m ids) ≡ any_of (map (λ (p : ℕ). eqb (word m p) 0) ids)
unfolding ids_no
ids_refuse m [] = refl
ids_refuse m (p ∷ ps) = refuses_then (id_no m p) (ids_no m ps) ∙ rw (refuses_when (eqb (word m p) 0) 6, ids_refuse m ps)

-- a message of its layout's length is refused by its flags, an id or a field
layout_refuses : (l : Layout) (m : List ℕ) → l.fixed ≤ length m → (l.exact && ltb l.fixed (length m)) ≡ false
    → refuses (layout_no l m)
    ≡ (refuses (cond l.flags (flags_no (word m 4)) 0) || any_of (map (λ (p : ℕ). eqb (word m p) 0) l.ids))
    || refuses (pairs_no l.absence m l.fixed l.pairs)
unfolding layout_no layout_checks
layout_refuses l m h e =
    let f = cond l.flags (flags_no (word m 4)) 0 in
    let p = pairs_no l.absence m l.fixed l.pairs in
    rw (le-ltb (length m) l.fixed h, e, the_last p, refuses_then f (cond (eqb (ids_no m l.ids) 0) p (ids_no m l.ids)), refuses_then (ids_no m l.ids) p, ids_refuse m l.ids)
    (sym (or_assoc (refuses f) (any_of (map (λ (q : ℕ). eqb (word m q) 0) l.ids)) (refuses p)))

offset_most : (size at : ℕ) → offset_given size at ≤ at
offset_most size at = by_test (λ (x : ℕ). x ≤ at) (eqb size 0) (λ _. omega arith) (λ _. omega arith)

-- small sizes fit their words
pairs_fit : (o : ℕ) (size : FieldName → ℕ) (ps : List Pair) → o + space size ps < 256 ^ 4 → AllWords (pair_words o size ps)
pairs_fit o size [] h = tt
pairs_fit o size (p ∷ ps) h =
    (omega (arith, offset_most (size p.name) (o + space size ps)), (omega arith, pairs_fit o size ps (omega arith)))

module _ (d : Draft) where
  abbrev l : Layout
  l = layout_of d.said

  abbrev m : List ℕ
  m = draft_bytes d

  abbrev size : FieldName → ℕ
  size = lengths d.bytes

  whole_fixed : length (words little (draft_words d)) ≡ l.fixed
  whole_fixed = length_words little (draft_words d) ∙ (filled d.said size).fixed

  pub draft_length : length m ≡ l.fixed + space size l.pairs
  unfolding draft_bytes
  draft_length = rw (length-append (words little (draft_words d)) (laid d.bytes l.pairs), whole_fixed, length_laid d.bytes l.pairs)

  module _ (f : Fits d) (s : length m ≤ 16384) where
    spelt : Spelt (draft_words d) m
    unfolding draft_bytes
    spelt i h =
        let p = pairs_fit (first_offset l) size l.pairs (omega (arith, draft_length)) in
        word_words little (draft_words d) (laid d.bytes l.pairs) i h (all_get_d IsWord (draft_words d) i 0 (fit_all d.said _ f p) (lit< tt))

    said : Told l d.said size m
    said = told d.said size m spelt

    pub out : LaidOut l.absence m l.fixed (first_offset l) d.bytes l.pairs
    unfolding draft_bytes
    out =
        let a = (filled d.said size).after in
        laid_out l.absence d.bytes (words little (draft_words d)) (first_offset l) l.fixed
        (whole_fixed ∙ omega arith) (omega arith) (omega arith) l.pairs [] m (rw append-nil) said.header

    pub answers : reading_of m ≡ answer l (λ _. d.said) m
    unfolding reading_of
    answers =
        rw (le-ltb 16384 (length m) s, le-ltb (length m) 4 (omega (arith, draft_length, (filled d.said size).after))) said.reads

    unreadable_short : is_unreadable m ≡ says_bad d.said || any_ill d.bytes l.pairs
    unfolding is_unreadable
    unreadable_short =
        ap (λ (r : Reading). refuses (number_of r)) answers
        ∙ refuses_answer l (λ _. d.said) m
        ∙ layout_refuses l m (omega (arith, draft_length)) (rw draft_length (filled d.said size).exact)
        ∙ rw (said.bad, out.checks)

  -- reading would refuse it where it is too long, or a value or a field is
  pub unreadable : Fits d → is_unreadable m ≡ ltb 16384 (length m) || (says_bad d.said || any_ill d.bytes l.pairs)
  unfolding is_unreadable reading_of
  unreadable f = by (ltb 16384 (length m)) refl
    where
      by : (b : Bool) → ltb 16384 (length m) ≡ b → is_unreadable m ≡ b || (says_bad d.said || any_ill d.bytes l.pairs)
      by true e = rw e
      by false e = unreadable_short f (ltb-false 16384 (length m) e)

-- ---- the reasons for 11

-- 12 is no 11, and neither is 0
eleven : (a b c : Bool) → eqb (first_of (when a 11 ∷ when b 11 ∷ when c 12 ∷ [])) 11 ≡ a || b
eleven true b c = refl
eleven false true c = refl
eleven false false true = refl
eleven false false false = refl

-- the length is asked last in the list of reasons, and first by reading
last_first : (f over bad ill : Bool) → f || (over || (bad || ill)) ≡ any_of (f ∷ bad ∷ ill ∷ over ∷ [])
last_first true over bad ill = refl
last_first false true true ill = refl
last_first false true false true = refl
last_first false true false false = refl
last_first false false true ill = refl
last_first false false false true = refl
last_first false false false false = refl

pub all_reasons : AllReasons
unfolding write_no
all_reasons d room f =
    eleven d.flaw (is_unreadable (draft_bytes d)) (ltb room (length (draft_bytes d)))
    ∙ rw (unreadable d f)
    (last_first d.flaw (ltb 16384 (length (draft_bytes d))) (says_bad d.said) (any_ill d.bytes (layout_of d.said).pairs))
