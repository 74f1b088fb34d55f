-- Laws of the writers of messages with fields: what the code computes from six fields is what the draft says.
use mathlib.Core.Path.{◌≡◌, refl, sym, ap, ◌∙◌}
use Prim.Native.Nat.{ℕ, ◌≤◌}
use mathlib.Core.Bool.{Bool, true, false, ◌||◌, ◌&&◌, or-true, or_comm, true≢false}
use mathlib.Core.List.{List, [], ◌++◌, append-nil}
use lib.ListN.{length, take, length-append}
use lib.Dec.{ltb, eqb}
use native.Mathlib.Omega.{arith}
use borrow.Author.Tests.{ltb-false}
use Rattle.std.specs.Prelude.{Result, Ok, Err, is_err}
use Rattle.std.specs.Borrow.{Bor}
use Rattle.refusal.specs.declared.Refusal.{Refusal}
use Rattle.refusal.specs.Numbers.{no_of}
use Rattle.byte_words.specs.Bytes.{little, words}
use Rattle.byte_words.proofs.RunLaws.{length_words}
use Rattle.wire_field.specs.declared.FieldName.{FieldName}
use Rattle.wire_field.specs.declared.FieldName.TheVariants.{AlternateAddress}
use Rattle.wire_layout.specs.Layout.{Layout, Pair, entry_pairs, connect_pairs, alternate_pair, connect_layout}
use Rattle.wire_layout.specs.Checks.{flags_no}
use Rattle.wire_connect.specs.Connect.{connect_by}
use Rattle.wire_connect.specs.declared.ConnectInfo.{ConnectInfo}
use Rattle.wire_entry.specs.declared.EntryBlock.{EntryBlock}
use Rattle.wire_read.specs.Values.{layout_of}
use Rattle.wire_read.specs.declared.Message.{Message}
use Rattle.wire_read.specs.declared.Message.TheVariants as said
use Rattle.wire_draft.specs.Draft.{Draft, laid, block_words, pair_words, connect_head, connect_tail, fixed_words, first_offset, draft_bytes, says_bad}
use Rattle.wire_draft.specs.Given.{given, given_bytes, any_hollow, among_six, entry_bytes, entry_draft, connect_info_draft}
use Rattle.wire_draft.specs.Inner.{connect_info_given, entry_given, bytes_in, six_pairs, six_space, sizes_of, size_named, any_bad, message_of, or_over}
use Rattle.wire_draft.specs.Write.{is_unreadable, written_of, buffer_of}
use Rattle.wire_draft.specs.RoundTrip.{Fits}
use Rattle.wire_draft.specs.declared.EntryGiven.{EntryGiven}
use Rattle.wire_draft.specs.declared.ConnectInfoGiven.{ConnectInfoGiven}
use Rattle.wire_draft.specs.declared.Given.{Given}
use Rattle.wire_draft.specs.declared.Sizes.{Sizes}
use Rattle.wire_write.specs.Form.{form_by}
use Rattle.wire_write.specs.Inner.{entry_message_words, entry_bad}
use Rattle.wire_write.specs.declared.ConnectForm.{ConnectForm}
use Rattle.wire_draft.proofs.LaidLaws.{neither, refuses, length_laid}
use Rattle.wire_draft.specs.Reasons.{any_ill}
use Rattle.wire_draft.proofs.TypeLaws.{flags_bad, words_by, form_layout, filled}
use Rattle.wire_draft.proofs.DraftLaws.{refusal_refuses, draft_length, unreadable}
use Rattle.wire_draft.proofs.SixLaws.{same_sizes, taken_most, connect_info_bytes, entry_given_bytes, bad_six, bad_entry}
use Rattle.wire_draft.proofs.WriteLaws.{Left, message_length, outcome}

-- the same tests in another order
mix : (mis s h i l : Bool) → ((mis || (s || (h || i))) || l) ≡ ((mis || h) || (l || (s || i)))
mix true s h i l = refl
mix false true true i l = refl
mix false true false i l = sym (or-true l)
mix false false true i l = refl
mix false false false i l = or_comm i l

-- the draft's fields are the six, those that its layout does not have without bytes
pub record AsSix (bytes : FieldName → List ℕ) (ps : List Pair) : Type 0 where
  pub same_laid : laid bytes six_pairs ≡ laid bytes ps
  pub same_ill : any_ill bytes six_pairs ≡ any_ill bytes ps

-- what the code computed: mis, that a field is given which the form has no place for; says, that a value is refused; bad, that a field is
-- given which is hollow or ill; the sizes; two runs of words
module _ (d : Draft) (mis hollow says bad : Bool) (sizes : Sizes) (head tail : List ℕ)
    (fits : Fits d) (flawed : d.flaw ≡ mis || hollow) (says_is : says ≡ says_bad d.said) (bad_is : bad ≡ hollow || any_ill d.bytes six_pairs)
    (taken : sizes ≡ sizes_of d.bytes) (six : mis ≡ false → AsSix d.bytes (layout_of d.said).pairs)
    (spelt : mis ≡ false → head ++ tail ≡ words_by (layout_of d.said) d.said (size_named sizes)) where
  abbrev l : Layout
  l = layout_of d.said

  abbrev m : List ℕ
  m = message_of (head ++ tail) d.bytes

  -- in its place, the message is as long as the draft's
  same_length : mis ≡ false → length m ≡ length (draft_bytes d)
  unfolding message_of
  same_length e =
      rw (length-append (words little (head ++ tail)) (laid d.bytes six_pairs), length_words little (head ++ tail), spelt e, (filled d.said (size_named sizes)).fixed, (six e).same_laid, length_laid d.bytes l.pairs, draft_length d)

  refused_is : or_over (mis || (says || bad)) m ≡ d.flaw || is_unreadable (draft_bytes d)
  refused_is = by mis flawed six same_length
    where
      by : (b : Bool) → d.flaw ≡ b || hollow → (b ≡ false → AsSix d.bytes l.pairs) → (b ≡ false → length m ≡ length (draft_bytes d))
          → or_over (b || (says || bad)) m ≡ d.flaw || is_unreadable (draft_bytes d)
      by true e s n = rw e
      by false e s n =
          ap (λ (x : Bool). (says || bad) || x) (ap (ltb 16384) (n refl))
          ∙ rw (says_is, bad_is, (s refl).same_ill)
          (mix false (says_bad d.said) hollow (any_ill d.bytes l.pairs) (ltb 16384 (length (draft_bytes d)))
          ∙ sym (ap (λ (x : Bool). x || is_unreadable (draft_bytes d)) e ∙ ap (λ (x : Bool). hollow || x) (unreadable d fits)))

  message_is : or_over (mis || (says || bad)) m ≡ false → m ≡ draft_bytes d
  unfolding message_of draft_bytes
  message_is r =
      let e = (neither mis _ (neither (mis || (says || bad)) _ r).0).0 in
      let n : length m ≤ 16384 = ltb-false 16384 (length m) (neither (mis || (says || bad)) _ r).1 in
      let h : six_space (size_named (sizes_of d.bytes)) ≤ 16384 = omega (arith, message_length head tail d.bytes, taken_most d.bytes) in
      rw (spelt e, taken, same_sizes d.bytes h, (six e).same_laid)

  pub fields_outcome : (b : List ℕ) {r : Result ℕ Refusal} {e : List ℕ} → Left b m (or_over (mis || (says || bad)) m) r e
      → (r ≡ written_of (length b) d) × (e ≡ buffer_of b d)
  fields_outcome b w = outcome d b m (or_over (mis || (says || bad)) m) refused_is message_is w

-- a message m that adds the entry v, which it says after the words head; the field laid out first stands at the offset o
pub entry_outcome : (m : Message) (v : EntryBlock) (head : List ℕ) (p : ℕ) (has : EntryGiven) (n d u : Bor (List ℕ)) (b : List ℕ)
    {given : Given} {o : ℕ} {r : Result ℕ Refusal} {e : List ℕ}
    → let x = message_of (entry_message_words head o v (bytes_in given)) (bytes_in given) in
    Fits (entry_draft m has n.now d.now u.now)
    → eqb v.dpnid 0 ≡ says_bad m
    → (layout_of m).pairs ≡ entry_pairs p
    → first_offset (layout_of m) ≡ o
    → ((ps : List ℕ) → fixed_words m ps ≡ head ++ (block_words v 0 ++ ps))
    → given ≡ entry_given has n d u
    → Left b x (or_over (entry_bad v given) x) r e
    → (r ≡ written_of (length b) (entry_draft m has n.now d.now u.now)) × (e ≡ buffer_of b (entry_draft m has n.now d.now u.now))
unfolding entry_draft entry_pairs connect_pairs alternate_pair
entry_outcome m v head p has n d u b {given} {o} {r} {e} f says pairs first spelt g l =
    let bytes : bytes_in given ≡ entry_bytes has n.now d.now u.now = ap bytes_in g ∙ entry_given_bytes has n d u in
    let bad : any_bad given ≡ _ = ap any_bad g ∙ bad_entry has n d u in
    fields_outcome (entry_draft m has n.now d.now u.now) false (any_hollow (among_six has) n.now d.now [] [] u.now []) (eqb v.dpnid 0) (any_bad given) _ head _
    f refl says bad refl (λ _. record { same_laid = rw pairs (simp append-nil); same_ill = rw pairs })
    (λ _. rw (spelt, pairs, first)) b (rw bytes at l)

-- what the inner writer of an entry computed: bad, that a field is given which is hollow or ill; the sizes; the words of the block
pub entry_left : (v : EntryBlock) (head : List ℕ) (o : ℕ) (given : Given) (b : List ℕ)
    {bad : Bool} {sizes : Sizes} {block : List ℕ} {r : Result ℕ Refusal} {e : List ℕ}
    → let m = message_of (head ++ block) (bytes_in given) in
    let x = message_of (entry_message_words head o v (bytes_in given)) (bytes_in given) in
    bad ≡ any_bad given
    → sizes ≡ sizes_of (bytes_in given)
    → block ≡ block_words v 0 ++ pair_words o (size_named sizes) (entry_pairs 0)
    → Left b m (or_over (eqb v.dpnid 0 || bad) m) r e
    → Left b x (or_over (entry_bad v given) x) r e
entry_left v head o given b i s w l = rw (← i, ← s, ← w) l

-- 0xC1

-- an alternate address in its place: the plain form has none
none_plain : (has plain : Bool) (a : List ℕ) → (has && plain) ≡ false → plain ≡ true → given has a ≡ []
none_plain true plain a e f = absurd (true≢false (sym f ∙ e))
none_plain false plain a e f = refl

six_by : (bytes : FieldName → List ℕ) (plain : Bool) → (plain ≡ true → bytes AlternateAddress ≡ []) → AsSix bytes (form_layout plain).pairs
unfolding connect_pairs alternate_pair connect_layout
six_by bytes true e = record { same_laid = rw (e refl); same_ill = rw (e refl) }
six_by bytes false e = record { same_laid = refl; same_ill = refl }

words_by_law : (v : ConnectInfo) (sizes : Sizes) (plain : Bool) → (plain ≡ true → sizes.alternate_address ≡ 0)
    → let ps = pair_words (form_by plain).first.0 (size_named sizes) six_pairs in
    connect_head v ps ++ take (form_by plain).tail (connect_tail v ps) ≡ words_by (form_layout plain) (said.ConnectInfo v) (size_named sizes)
unfolding connect_pairs alternate_pair connect_layout
words_by_law v sizes true e = rw (e refl)
words_by_law v sizes false e = refl

-- a field without bytes has the size 0
no_size : (bytes : FieldName → List ℕ) → bytes AlternateAddress ≡ [] → (sizes_of bytes).alternate_address ≡ 0
unfolding sizes_of
no_size bytes e = rw e

-- the same of what the code computed: the form, the sizes, and two runs of words
spelt_connect : (v : ConnectInfo) (bytes : FieldName → List ℕ) (plain : Bool) → (plain ≡ true → bytes AlternateAddress ≡ [])
    → {form : ConnectForm} {sizes : Sizes} {head rest tail : List ℕ} → form ≡ form_by plain → sizes ≡ sizes_of bytes
    → head ≡ connect_head v (pair_words form.first.0 (size_named sizes) six_pairs)
    → rest ≡ connect_tail v (pair_words form.first.0 (size_named sizes) six_pairs)
    → tail ≡ take form.tail rest
    → head ++ tail ≡ words_by (form_layout plain) (said.ConnectInfo v) (size_named sizes)
spelt_connect v bytes plain q {sizes = sizes} o s h w x =
    let hh = rw o at h in
    let ww = rw o at w in
    let xx = rw (o, ww) at x in
    rw (hh, xx) (words_by_law v sizes plain (λ k. ap (λ (z : Sizes). z.alternate_address) s ∙ no_size bytes (q k)))

-- a check answers a refusal where its number refuses
pub err_refuses : {A : Type 0} (r : Result A Refusal) → is_err r ≡ refuses (no_of r)
err_refuses (Ok a) = refl
err_refuses (Err why) = sym (refusal_refuses why)

module _ (v : ConnectInfo) (has : ConnectInfoGiven) (n d p c u a : Bor (List ℕ)) (b : List ℕ) where
  abbrev draft : Draft
  draft = connect_info_draft v has n.now d.now p.now c.now u.now a.now

  abbrev plain : Bool
  plain = ltb v.dnet_version 7

  pub connect_outcome : {flags : Bool} {bad : Bool} {sizes : Sizes} {form : ConnectForm} {head rest tail : List ℕ} {given : Given}
      {r : Result ℕ Refusal} {e : List ℕ}
      → let m = message_of (head ++ tail) (bytes_in given) in
      Fits draft
      → flags ≡ refuses (flags_no v.flags)
      → given ≡ connect_info_given has n d p c u a
      → bad ≡ any_bad given
      → sizes ≡ sizes_of (bytes_in given)
      → form ≡ form_by plain
      → head ≡ connect_head v (pair_words form.first.0 (size_named sizes) six_pairs)
      → rest ≡ connect_tail v (pair_words form.first.0 (size_named sizes) six_pairs)
      → tail ≡ take form.tail rest
      → Left b m (or_over ((has.alternate_address && plain) || (flags || bad)) m) r e
      → (r ≡ written_of (length b) draft) × (e ≡ buffer_of b draft)
  unfolding connect_info_draft connect_by
  connect_outcome {flags} {bad} {sizes} {form} {head} {rest} {tail} {given} f i g j s o h w x l =
      let bytes = given_bytes has n.now d.now p.now c.now u.now a.now in
      let same : bytes_in given ≡ bytes = ap bytes_in g ∙ connect_info_bytes has n d p c u a in
      let t : sizes ≡ sizes_of bytes = rw same at s in
      let q = none_plain has.alternate_address plain a.now in
      fields_outcome draft (has.alternate_address && plain) (any_hollow has n.now d.now p.now c.now u.now a.now) flags bad sizes head tail
      f refl (i ∙ flags_bad v.flags) (j ∙ ap any_bad g ∙ bad_six has n d p c u a) t (λ z. six_by bytes plain (q z)) (λ z. spelt_connect v bytes plain (q z) o t h w x) b (rw same at l)
