-- Reading what was written gives back every value and every field, and writing that again gives the same bytes.
use mathlib.Core.Path.{◌≡◌, sym, ap, ◌∙◌, fun_ext}
use Prim.Native.Nat.{ℕ, ◌≤◌}
use mathlib.Core.Bool.{true, false}
use mathlib.Core.List.{List, [], ◌∷◌}
use lib.ListN.{length, take}
use lib.Dec.{ltb, eqb, lit<}
use borrow.Author.Tests.{ltb-false, not-false}
use Rattle.std.specs.Prelude.{Ok}
use Rattle.refusal.specs.Checks.{when}
use Rattle.refusal.proofs.CheckLaws.{passed, each_passed}
use Rattle.byte_words.proofs.RunLaws.{take_put}
use Rattle.wire_field.specs.Fields.{part_of, field_named}
use Rattle.wire_field.specs.declared.FieldName.{FieldName}
use Rattle.wire_field.specs.declared.FieldName.TheVariants.{Name, Data, Password, ConnectData, Url, AlternateAddress}
use Rattle.wire_layout.specs.Checks.{layout_no, pair_fields}
use Rattle.wire_read.specs.Values.{layout_of}
use Rattle.wire_read.specs.Read.{Reading, answer, reading_of, number_of}
use Rattle.wire_draft.specs.Draft.{Draft, first_offset, draft_bytes}
use Rattle.wire_draft.specs.Write.{is_unreadable, write_no, left_by, buffer_of}
use Rattle.wire_draft.specs.RoundTrip.{Fits, placed_fields, bytes_named, RoundTrip}
use Rattle.wire_draft.proofs.LaidLaws.{neither, refuses}
use Rattle.wire_draft.proofs.TypeLaws.{kept}
use Rattle.wire_draft.proofs.DraftLaws.{refuses_answer, unreadable, answers, out}

module _ (d : Draft) (buffer : List ℕ) (f : Fits d) (w : write_no (length buffer) d ≡ 0) where
  abbrev m : List ℕ
  m = draft_bytes d

  abbrev checks : List ℕ
  checks = when d.flaw 11 ∷ when (is_unreadable m) 11 ∷ when (ltb (length buffer) (length m)) 12 ∷ []

  readable : is_unreadable m ≡ false
  unfolding write_no
  readable = passed (is_unreadable m) 11 (lit< tt) (each_passed checks 1 w)

  short : length m ≤ 16384
  short = ltb-false 16384 (length m) (neither (ltb 16384 (length m)) _ (sym (unreadable d f) ∙ readable)).0

  front_back : take (length m) (buffer_of buffer d) ≡ m
  unfolding write_no left_by
  front_back =
      rw w (take_put buffer m (ltb-false (length buffer) (length m) (passed (ltb (length buffer) (length m)) 12 (lit< tt) (each_passed checks 2 w))))

  says_back : reading_of m ≡ Ok (record { message = d.said; fields = placed_fields d })
  unfolding is_unreadable answer pair_fields placed_fields
  says_back =
      let l = layout_of d.said in
      let o = out d f short in
      let z : eqb (layout_no l m) 0 ≡ true =
      not-false (eqb (layout_no l m) 0) (sym (ap (λ (r : Reading). refuses (number_of r)) (answers d f short) ∙ refuses_answer l (λ _. d.said) m) ∙ readable) in
      answers d f short
      ∙ rw (z, o.found Name, o.found Data, o.found Password, o.found ConnectData, o.found Url, o.found AlternateAddress)

  shown_back : (n : FieldName) → part_of m (field_named n (placed_fields d)) ≡ bytes_named n d
  unfolding placed_fields
  shown_back Name = (out d f short).shown Name
  shown_back Data = (out d f short).shown Data
  shown_back Password = (out d f short).shown Password
  shown_back ConnectData = (out d f short).shown ConnectData
  shown_back Url = (out d f short).shown Url
  shown_back AlternateAddress = (out d f short).shown AlternateAddress

  same_again : draft_bytes (record { said = d.said; bytes = λ n. part_of m (field_named n (placed_fields d)); flaw = false }) ≡ m
  same_again =
      let k = kept d.said d.bytes (first_offset (layout_of d.said)) in
      ap (λ (bytes : FieldName → List ℕ). draft_bytes (record { said = d.said; bytes = bytes; flaw = false })) (fun_ext shown_back)
      ∙ unfold draft_bytes in rw (k.0, k.1)

pub round_trip : RoundTrip
round_trip d buffer f w = record {
  front = front_back d buffer f w;
  says = says_back d buffer f w;
  shows = λ n. rw (says_back d buffer f w) (shown_back d buffer f w n);
  again = rw (says_back d buffer f w) (same_again d buffer f w);
}
