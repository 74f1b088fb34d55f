-- What is known of the words of a message by its type, an arm for each: they fill the fixed part, reading takes the values from them, and
-- the pairs stand where the layout says.
use mathlib.Core.Path.{◌≡◌, refl, ◌∙◌}
use Prim.Native.Nat.{ℕ, ◌+◌, ◌*◌, ◌<◌}
use mathlib.Core.Bool.{Bool, true, false, cond, not, ◌&&◌, ◌||◌, or-false}
use mathlib.Core.List.{List, [], map}
use lib.ListN.{length, get_or, take}
use lib.Dec.{ltb, eqb, lit<}
use Rattle.wire_field.specs.Words.{word}
use Rattle.wire_field.specs.declared.FieldName.{FieldName}
use Rattle.wire_layout.specs.Layout.{Pair, Layout, entry_pairs, entry_layout, exact_layout, membership_change_layout, connect_pairs, alternate_pair, connect_layout, plain_connect_info, extended_connect_info}
use Rattle.wire_layout.specs.Checks.{flags_no}
use Rattle.wire_entry.specs.Entry.{entry_at}
use Rattle.wire_connect.specs.Connect.{guid_at, connect_values, connect_by}
use Rattle.wire_connect.specs.declared.ConnectInfo.{ConnectInfo}
use Rattle.wire_read.specs.Values.{layout_of, membership_change_of, membership_change_not_used}
use Rattle.wire_read.specs.Read.{answer, by_type}
use Rattle.wire_read.specs.declared.MembershipChange.{MembershipChange}
use Rattle.wire_read.specs.declared.Message.{Message}
use Rattle.wire_read.specs.declared.Message.TheVariants as said
use Rattle.wire_draft.specs.Draft.{membership_change_words, membership_change_bad, fixed_words, pair_words, first_offset, space, says_bad, laid, lengths}
use Rattle.wire_draft.specs.RoundTrip.{bytes_among}
use Rattle.wire_draft.specs.Given.{any_of}
use Rattle.lists.proofs.ListLaws.{all_append, all_take, all_drop}
use Rattle.byte_words.specs.Bytes.{IsWord, AllWords}
use Rattle.wire_draft.proofs.LaidLaws.{refuses, refuses_when, Header}

-- words that fit

-- where values and pairs fit, all words do
pub fit_all : (m : Message) (ps : List ℕ) → AllWords (fixed_words m []) → AllWords ps → AllWords (fixed_words m ps)
fit_all (said.ConnectInfo v) ps (k, (a, (b, (c, (d, (e, (f, (g, (h, (i, (j, _))))))))))) p =
    (k, (a, (b, all_append IsWord (take 10 ps) _ (all_take IsWord 10 ps p) (c, (d, (e, (f, (g, (h, (i, (j, all_drop IsWord 10 ps p)))))))))))
fit_all (said.AddPlayer e unused) ps (k, (a, (b, (c, (d, (f, (g, _))))))) p = (k, (a, (b, (c, (d, (f, (g, p)))))))
fit_all (said.DestroyPlayer v unused) ps f p = f
fit_all (said.RequestAddToGroup v) ps f p = f
fit_all (said.CreateGroup v unused) ps (k, (x, (y, (a, (b, (c, (d, (f, (g, _))))))))) p = (k, (x, (y, (a, (b, (c, (d, (f, (g, p)))))))))
fit_all (said.DestroyGroup v unused) ps f p = f
fit_all (said.AddToGroup v unused) ps f p = f
fit_all (said.DeleteFromGroup v unused) ps f p = f

-- the words of a type's layout
abbrev pub words_by : Layout → Message → (FieldName → ℕ) → List ℕ
words_by l m size = fixed_words m (pair_words (first_offset l) size l.pairs)

-- they fill the fixed part; what is of fixed length has no fields
pub record Filled (l : Layout) (m : Message) (size : FieldName → ℕ) : Type 0 where
  pub fixed : 4 * length (words_by l m size) ≡ l.fixed
  pub after : 4 < l.fixed
  pub exact : (l.exact && ltb l.fixed (l.fixed + space size l.pairs)) ≡ false

-- bytes b whose words are these say the message
pub record Told (l : Layout) (m : Message) (size : FieldName → ℕ) (b : List ℕ) : Type 0 where
  pub reads : by_type (word b 0) b ≡ answer l (λ _. m) b
  pub bad : (refuses (cond l.flags (flags_no (word b 4)) 0) || any_of (map (λ (p : ℕ). eqb (word b p) 0) l.ids)) ≡ says_bad m
  pub header : Header b (first_offset l) size l.pairs

-- each word of bytes is one of these
abbrev pub Spelt : List ℕ → List ℕ → Type 0
Spelt ws b = (i : ℕ) → i < length ws → word b (4 * i) ≡ get_or ws i 0

-- both forms of 0xC1

pub flags_bad : (flags : ℕ) → refuses (flags_no flags) ≡ not (eqb flags 2 || eqb flags 4)
unfolding flags_no
flags_bad flags = refuses_when (not (eqb flags 2 || eqb flags 4)) 5

abbrev pub form_layout : Bool → Layout
form_layout plain = cond plain plain_connect_info extended_connect_info

connect_filled : (v : ConnectInfo) (size : FieldName → ℕ) (plain : Bool) → Filled (form_layout plain) (said.ConnectInfo v) size
unfolding connect_pairs alternate_pair connect_layout
connect_filled v size true = record { fixed = refl; after = lit< tt; exact = refl }
connect_filled v size false = record { fixed = refl; after = lit< tt; exact = refl }

-- reading takes flags, DNET version and both GUIDs; the DNET version says which form
connect_told : (v : ConnectInfo) (size : FieldName → ℕ) (b : List ℕ) (plain : Bool) → ltb v.dnet_version 7 ≡ plain
    → Spelt (words_by (form_layout plain) (said.ConnectInfo v) size) b
    → Told (form_layout plain) (said.ConnectInfo v) size b
unfolding answer connect_by connect_values guid_at connect_pairs alternate_pair connect_layout
connect_told v size b true e w = record {
  reads = rw (w 0 (lit< tt), w 1 (lit< tt), w 2 (lit< tt), e, w 13 (lit< tt), w 14 (lit< tt), w 15 (lit< tt), w 16 (lit< tt), w 17 (lit< tt), w 18 (lit< tt), w 19 (lit< tt), w 20 (lit< tt));
  bad = rw (w 1 (lit< tt)) (or-false (refuses (flags_no v.flags)) ∙ flags_bad v.flags);
  header = ((w 3 (lit< tt), w 4 (lit< tt)), ((w 5 (lit< tt), w 6 (lit< tt)), ((w 7 (lit< tt), w 8 (lit< tt)), ((w 9 (lit< tt), w 10 (lit< tt)), ((w 11 (lit< tt), w 12 (lit< tt)), tt)))));
}
connect_told v size b false e w = record {
  reads = rw (w 0 (lit< tt), w 1 (lit< tt), w 2 (lit< tt), e, w 13 (lit< tt), w 14 (lit< tt), w 15 (lit< tt), w 16 (lit< tt), w 17 (lit< tt), w 18 (lit< tt), w 19 (lit< tt), w 20 (lit< tt));
  bad = rw (w 1 (lit< tt)) (or-false (refuses (flags_no v.flags)) ∙ flags_bad v.flags);
  header = ((w 3 (lit< tt), w 4 (lit< tt)), ((w 5 (lit< tt), w 6 (lit< tt)), ((w 7 (lit< tt), w 8 (lit< tt)), ((w 9 (lit< tt), w 10 (lit< tt)), ((w 11 (lit< tt), w 12 (lit< tt)), ((w 21 (lit< tt), w 22 (lit< tt)), tt))))));
}

-- every type

pub filled : (m : Message) (size : FieldName → ℕ) → Filled (layout_of m) m size
unfolding entry_pairs entry_layout exact_layout connect_by
filled (said.ConnectInfo v) size = connect_filled v size (ltb v.dnet_version 7)
filled (said.AddPlayer e unused) size = record { fixed = refl; after = lit< tt; exact = refl }
filled (said.DestroyPlayer v unused) size = record { fixed = refl; after = lit< tt; exact = refl }
filled (said.RequestAddToGroup v) size = record { fixed = refl; after = lit< tt; exact = refl }
filled (said.CreateGroup v unused) size = record { fixed = refl; after = lit< tt; exact = refl }
filled (said.DestroyGroup v unused) size = record { fixed = refl; after = lit< tt; exact = refl }
filled (said.AddToGroup v unused) size = record { fixed = refl; after = lit< tt; exact = refl }
filled (said.DeleteFromGroup v unused) size = record { fixed = refl; after = lit< tt; exact = refl }

-- both types that change a membership: reading takes the values by one row
change_told : {kind : ℕ} (say : MembershipChange → ℕ → Message) (v : MembershipChange) (unused : ℕ) (size : FieldName → ℕ) (b : List ℕ)
    → Spelt (membership_change_words kind v unused) b
    → by_type kind b ≡ answer (membership_change_layout kind) (λ m. say (membership_change_of m) (membership_change_not_used m)) b
    → membership_change_bad v ≡ says_bad (say v unused)
    → Told (membership_change_layout kind) (say v unused) size b
unfolding answer exact_layout
change_told say v unused size b w row says = record {
  reads = rw (w 0 (lit< tt), row, w 1 (lit< tt), w 2 (lit< tt), w 3 (lit< tt), w 4 (lit< tt), w 5 (lit< tt), w 6 (lit< tt));
  bad = rw (w 1 (lit< tt), w 2 (lit< tt), or-false (eqb v.player 0)) says;
  header = tt;
}

pub told : (m : Message) (size : FieldName → ℕ) (b : List ℕ) → Spelt (words_by (layout_of m) m size) b → Told (layout_of m) m size b
unfolding answer connect_by connect_layout entry_at entry_pairs entry_layout exact_layout
told (said.ConnectInfo v) size b w = connect_told v size b (ltb v.dnet_version 7) refl w
told (said.AddPlayer e unused) size b w = record {
  reads = rw (w 0 (lit< tt), w 1 (lit< tt), w 2 (lit< tt), w 3 (lit< tt), w 4 (lit< tt), w 5 (lit< tt), w 6 (lit< tt));
  bad = rw (w 1 (lit< tt)) (or-false (eqb e.dpnid 0));
  header = ((w 7 (lit< tt), w 8 (lit< tt)), ((w 9 (lit< tt), w 10 (lit< tt)), ((w 11 (lit< tt), w 12 (lit< tt)), tt)));
}
told (said.DestroyPlayer v unused) size b w = record {
  reads = rw (w 0 (lit< tt), w 1 (lit< tt), w 2 (lit< tt), w 3 (lit< tt), w 4 (lit< tt));
  bad = rw (w 1 (lit< tt)) (or-false (eqb v.dpnid 0));
  header = tt;
}
told (said.RequestAddToGroup v) size b w = record {
  reads = rw (w 0 (lit< tt), w 1 (lit< tt), w 2 (lit< tt), w 3 (lit< tt));
  bad = rw (w 2 (lit< tt), w 3 (lit< tt), or-false (eqb v.player 0));
  header = tt;
}
told (said.CreateGroup v unused) size b w = record {
  reads = rw (w 0 (lit< tt), w 1 (lit< tt), w 2 (lit< tt), w 3 (lit< tt), w 4 (lit< tt), w 5 (lit< tt), w 6 (lit< tt), w 7 (lit< tt), w 8 (lit< tt));
  bad = rw (w 3 (lit< tt)) (or-false (eqb v.entry.dpnid 0));
  header = ((w 9 (lit< tt), w 10 (lit< tt)), ((w 11 (lit< tt), w 12 (lit< tt)), ((w 13 (lit< tt), w 14 (lit< tt)), tt)));
}
told (said.DestroyGroup v unused) size b w = record {
  reads = rw (w 0 (lit< tt), w 1 (lit< tt), w 2 (lit< tt), w 3 (lit< tt), w 4 (lit< tt), w 5 (lit< tt));
  bad = rw (w 1 (lit< tt)) (or-false (eqb v.group 0));
  header = tt;
}
told (said.AddToGroup v unused) size b w = change_told said.AddToGroup v unused size b w refl refl
told (said.DeleteFromGroup v unused) size b w = change_told said.DeleteFromGroup v unused size b w refl refl

-- fields and pairs depend on no other bytes than those under the layout's names
abbrev pub Kept : List Pair → (FieldName → List ℕ) → ℕ → Type 0
Kept ps bytes o =
    (laid (λ n. bytes_among bytes n ps) ps ≡ laid bytes ps)
    × (pair_words o (lengths (λ n. bytes_among bytes n ps)) ps ≡ pair_words o (lengths bytes) ps)

kept_connect : (plain : Bool) (bytes : FieldName → List ℕ) (o : ℕ) → Kept (form_layout plain).pairs bytes o
unfolding connect_pairs alternate_pair connect_layout
kept_connect true bytes o = (refl, refl)
kept_connect false bytes o = (refl, refl)

pub kept : (m : Message) (bytes : FieldName → List ℕ) (o : ℕ) → Kept (layout_of m).pairs bytes o
unfolding connect_by entry_pairs entry_layout exact_layout
kept (said.ConnectInfo v) bytes o = kept_connect (ltb v.dnet_version 7) bytes o
kept (said.AddPlayer e unused) bytes o = (refl, refl)
kept (said.DestroyPlayer v unused) bytes o = (refl, refl)
kept (said.RequestAddToGroup v) bytes o = (refl, refl)
kept (said.CreateGroup v unused) bytes o = (refl, refl)
kept (said.DestroyGroup v unused) bytes o = (refl, refl)
kept (said.AddToGroup v unused) bytes o = (refl, refl)
kept (said.DeleteFromGroup v unused) bytes o = (refl, refl)
