-- Laws of the six fields as the code has them: their sizes, what is bad of them, and how they are laid out.
use mathlib.Core.Path.{◌≡◌, refl, sym, ap, ◌∙◌, fun_ext}
use Prim.Native.Nat.{ℕ, ◌+◌, ◌≤◌}
use mathlib.Core.Bool.{Bool, true, false, not, ◌||◌, or-true}
use mathlib.Core.List.{List, [], ◌∷◌, map, append_assoc, append-nil}
use lib.ListN.{length}
use lib.Dec.{ltb, eqb, eqb-suc-zero}
use native.Mathlib.Omega.{arith}
use borrow.Author.Tests.{ltb-true, ltb-false, lt-ltb}
use Rattle.std.specs.Bool.{then_some}
use Rattle.std.specs.Borrow.{Bor}
use Rattle.lists.specs.Lists.{joined}
use Rattle.byte_words.specs.Bytes.{put}
use Rattle.byte_words.proofs.RunLaws.{put_all, put_all_law}
use Rattle.wire_field.specs.declared.FieldName.{FieldName}
use Rattle.wire_field.specs.declared.FieldName.TheVariants.{Name, Data, Password, ConnectData, Url, AlternateAddress}
use Rattle.wire_field.specs.Fields.{well_formed}
use Rattle.wire_field.specs.declared.Form.{Form}
use Rattle.wire_field.specs.declared.Form.TheVariants as form
use Rattle.wire_layout.specs.Layout.{connect_pairs, alternate_pair}
use Rattle.wire_layout.proofs.LieLaws.{by_test}
use Rattle.wire_draft.specs.declared.ConnectInfoGiven.{ConnectInfoGiven}
use Rattle.wire_draft.specs.Draft.{laid, lengths}
use Rattle.wire_draft.specs.declared.EntryGiven.{EntryGiven}
use Rattle.wire_draft.specs.Given.{given, given_bytes, any_of, is_hollow, any_hollow, among_six, entry_bytes}
use Rattle.wire_draft.specs.Inner.{six_pairs, six_space, capped, sizes_of, size_named, connect_info_given, entry_given, bytes_of, bytes_in, is_bad, any_bad}
use Rattle.wire_draft.proofs.LaidLaws.{length_laid}
use Rattle.wire_draft.specs.Reasons.{is_ill, any_ill}

pub length_six : (bytes : FieldName → List ℕ) → length (laid bytes six_pairs) ≡ six_space (lengths bytes)
unfolding connect_pairs alternate_pair
length_six bytes = rw (length_laid bytes six_pairs) (omega arith)

-- the six fields, each put right after the one before it
pub put_six : (b : List ℕ) (at : ℕ) (bytes : FieldName → List ℕ) → at + six_space (lengths bytes) ≤ length b
    → put_all b at (bytes AlternateAddress ∷ bytes Url ∷ bytes ConnectData ∷ bytes Password ∷ bytes Data ∷ bytes Name ∷ []) ≡ put b at (laid bytes six_pairs)
put_six b at bytes h =
    let chunks = bytes AlternateAddress ∷ bytes Url ∷ bytes ConnectData ∷ bytes Password ∷ bytes Data ∷ bytes Name ∷ [] in
    let e : joined chunks ≡ laid bytes six_pairs = unfold connect_pairs alternate_pair in simp (append_assoc, append-nil) in
    put_all_law chunks b at (rw (e, length_six bytes) h) ∙ ap (put b at) e

-- sizes

capped_most : (n : ℕ) → capped n ≤ n
capped_most n = by_test (λ (x : ℕ). x ≤ n) (ltb 16384 n) (λ e. ltb-true 16384 n e) (λ _. omega arith)

capped_same : (n : ℕ) → capped n ≤ 16384 → capped n ≡ n
capped_same n = by_test (λ (x : ℕ). x ≤ 16384 → x ≡ n) (ltb 16384 n) (λ _ h. absurd (omega arith)) (λ _ _. refl)

module _ (bytes : FieldName → List ℕ) where
  abbrev taken : FieldName → ℕ
  taken = size_named (sizes_of bytes)

  -- where the sum is small, every size is as it was taken
  pub same_sizes : six_space taken ≤ 16384 → taken ≡ lengths bytes
  unfolding sizes_of
  same_sizes h = fun_ext each
    where
      each : (n : FieldName) → taken n ≡ lengths bytes n
      each Name = capped_same (length (bytes Name)) (omega arith)
      each Data = capped_same (length (bytes Data)) (omega arith)
      each Password = capped_same (length (bytes Password)) (omega arith)
      each ConnectData = capped_same (length (bytes ConnectData)) (omega arith)
      each Url = capped_same (length (bytes Url)) (omega arith)
      each AlternateAddress = capped_same (length (bytes AlternateAddress)) (omega arith)

  pub taken_most : six_space taken ≤ six_space (lengths bytes)
  unfolding sizes_of
  taken_most =
      omega (arith, capped_most (length (bytes Name)), capped_most (length (bytes Data)), capped_most (length (bytes Password)), capped_most (length (bytes ConnectData)), capped_most (length (bytes Url)), capped_most (length (bytes AlternateAddress)))

  -- the sum of the sizes that were taken is over the limit just where the message is
  pub same_over : (fixed : ℕ) → ltb 16384 (fixed + six_space taken) ≡ ltb 16384 (fixed + six_space (lengths bytes))
  same_over fixed = by (ltb 16384 (fixed + six_space taken)) refl
    where
      by : (b : Bool) → ltb 16384 (fixed + six_space taken) ≡ b → b ≡ ltb 16384 (fixed + six_space (lengths bytes))
      by true e = sym (lt-ltb 16384 (fixed + six_space (lengths bytes)) (omega (arith, ltb-true 16384 (fixed + six_space taken) e, taken_most)))
      by false e = sym (rw (same_sizes (omega (arith, ltb-false 16384 (fixed + six_space taken) e))) at e)

-- the fields that flags and slices give have the bytes of the draft

bytes_given : (has : Bool) (s : Bor (List ℕ)) → bytes_of (then_some has s) ≡ given has s.now
bytes_given true s = refl
bytes_given false s = refl

pub connect_info_bytes : (has : ConnectInfoGiven) (n d p c u a : Bor (List ℕ))
    → bytes_in (connect_info_given has n d p c u a) ≡ given_bytes has n.now d.now p.now c.now u.now a.now
connect_info_bytes has n d p c u a = fun_ext each
  where
    each : (f : FieldName) → bytes_in (connect_info_given has n d p c u a) f ≡ given_bytes has n.now d.now p.now c.now u.now a.now f
    each Name = bytes_given has.name n
    each Data = bytes_given has.«data» d
    each Password = bytes_given has.password p
    each ConnectData = bytes_given has.connect_data c
    each Url = bytes_given has.url u
    each AlternateAddress = bytes_given has.alternate_address a

pub entry_given_bytes : (has : EntryGiven) (n d u : Bor (List ℕ)) → bytes_in (entry_given has n d u) ≡ entry_bytes has n.now d.now u.now
entry_given_bytes has n d u = fun_ext each
  where
    each : (f : FieldName) → bytes_in (entry_given has n d u) f ≡ entry_bytes has n.now d.now u.now f
    each Name = bytes_given has.name n
    each Data = bytes_given has.«data» d
    each Password = refl
    each ConnectData = refl
    each Url = bytes_given has.url u
    each AlternateAddress = refl

-- what is bad of a field that is given: it has no bytes, or its form refuses them

bad_nonempty : (f : Form) (s : List ℕ) → (eqb (length s) 0 || not (well_formed f s)) ≡ eqb (length s) 0 || is_ill f s
bad_nonempty f [] = refl
bad_nonempty f (b ∷ bs) = rw (eqb-suc-zero (length bs))

bad_is : (f : Form) (has : Bool) (s : Bor (List ℕ)) → is_bad f (then_some has s) ≡ is_hollow has s.now || is_ill f (given has s.now)
bad_is f false s = refl
bad_is f true s = bad_nonempty f s.now

abbrev Field : Type 0
Field = Form × (Bool × Bor (List ℕ))

both : (a b x y : Bool) → ((a || b) || (x || y)) ≡ ((a || x) || (b || y))
both true b x y = refl
both false true x y = sym (or-true x)
both false false x y = refl

bad_each : (fs : List Field)
    → any_of (map (λ (g : Field). is_bad g.0 (then_some g.1.0 g.1.1)) fs)
    ≡ any_of (map (λ (g : Field). is_hollow g.1.0 g.1.1.now) fs) || any_of (map (λ (g : Field). is_ill g.0 (given g.1.0 g.1.1.now)) fs)
bad_each [] = refl
bad_each (g ∷ gs) =
    rw (bad_is g.0 g.1.0 g.1.1, bad_each gs)
    (both (is_hollow g.1.0 g.1.1.now) (is_ill g.0 (given g.1.0 g.1.1.now)) _ _)

pub bad_six : (has : ConnectInfoGiven) (n d p c u a : Bor (List ℕ))
    → any_bad (connect_info_given has n d p c u a)
    ≡ any_hollow has n.now d.now p.now c.now u.now a.now || any_ill (given_bytes has n.now d.now p.now c.now u.now a.now) six_pairs
unfolding any_bad any_hollow connect_pairs alternate_pair
bad_six has n d p c u a =
    bad_each
    ((form.Text, (has.name, n)) ∷ (form.Free, (has.«data», d)) ∷ (form.Text, (has.password, p)) ∷ (form.Free, (has.connect_data, c)) ∷ (form.Url, (has.url, u))
    ∷ (form.Free, (has.alternate_address, a)) ∷ [])

pub bad_entry : (has : EntryGiven) (n d u : Bor (List ℕ))
    → any_bad (entry_given has n d u)
    ≡ any_hollow (among_six has) n.now d.now [] [] u.now [] || any_ill (entry_bytes has n.now d.now u.now) six_pairs
unfolding any_bad any_hollow connect_pairs alternate_pair
bad_entry has n d u = bad_six (among_six has) n d n n u n
