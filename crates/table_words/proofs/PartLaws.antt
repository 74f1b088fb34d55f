-- Laws of the parts of the words, and of the name table that they hold.
use mathlib.Core.Path.{◌≡◌, refl, ap, sym, ◌∙◌}
use Prim.Native.Nat.{ℕ, suc, ◌-◌, ◌*◌, ◌≤◌}
use native.Mathlib.Omega.{arith}
use mathlib.Core.List.{List, [], ◌∷◌, ◌++◌, map, append_assoc}
use lib.ListN.{length, take, drop, replicate, length-append, length-drop, take-append-drop, length-map}
use lib.Seq.{take_at, drop_at, drop-append-le, drop-drop}
use Rattle.table_rules.specs.declared.Membership.{Membership}
use Rattle.table_rules.specs.NameTable.{Entry, NameTable, max_entries, max_memberships}
use Rattle.rows.specs.Rows.{places, packed}
use Rattle.table_words.specs.Layout.{entry_numbers, entry_width, membership_width, entry_room, membership_room, entries_at, memberships_at, window_at, word_count}
use Rattle.table_words.specs.Words.{version_of, host_of, entry_count, membership_count, entry_of, entry_words, membership_of, membership_words, join, entry_part, membership_part, entries_in, memberships_in, table_of}
use Rattle.table_words.specs.Inner.{with_table, Packed, EntryFits}
use Rattle.rows.proofs.MoveLaws.{lent}
use Rattle.rows.proofs.RowLaws.{length_places, length_packed, read_back}
use Rattle.names.proofs.NameLaws.{name_wide, name_back, name_fits}
use Rattle.lists.specs.Lists.{All, flat_map}
use Rattle.lists.proofs.ListLaws.{all_of}
use Rattle.lists.proofs.FlatLaws.{length_flat}

-- ---- the parts

four : (l : List ℕ) → entries_at ≤ length l → l ≡ version_of l ∷ host_of l ∷ entry_count l ∷ membership_count l ∷ drop entries_at l
four [] h = let z : ⊥ = omega arith in elim z [ ]
four (a ∷ []) h = let z : ⊥ = omega arith in elim z [ ]
four (a ∷ b ∷ []) h = let z : ⊥ = omega arith in elim z [ ]
four (a ∷ b ∷ c ∷ []) h = let z : ⊥ = omega arith in elim z [ ]
four (a ∷ b ∷ c ∷ d ∷ l) h = refl

pub split : (l : List ℕ) → length l ≡ word_count
    → l ≡ join (version_of l) (host_of l) (entry_count l) (membership_count l) (entry_part l) (membership_part l) (drop window_at l)
split l e =
    let d : drop entries_at l ≡ entry_part l ++ (membership_part l ++ drop window_at l) =
    sym (take-append-drop entry_room (drop entries_at l))
    ∙ ap (λ (y : List ℕ). entry_part l ++ y) (drop-drop entry_room entries_at l ∙ sym (take-append-drop membership_room (drop memberships_at l)) ∙ ap (λ (y : List ℕ). membership_part l ++ y) (drop-drop membership_room memberships_at l)) in
    four l (omega arith) ∙ ap (λ (y : List ℕ). version_of l ∷ host_of l ∷ entry_count l ∷ membership_count l ∷ y) d

module _ (v h n m : ℕ) (es ms rest : List ℕ) (le : length es ≡ entry_room) where
  pub join_entries : entry_part (join v h n m es ms rest) ≡ es
  join_entries = take_at es (ms ++ rest) entry_room le

  pub join_behind : drop memberships_at (join v h n m es ms rest) ≡ ms ++ rest
  join_behind = drop_at es (ms ++ rest) entry_room le

  pub lend_entries : (z : List ℕ) → lent entries_at entry_room (join v h n m es ms rest) z ≡ join v h n m z ms rest
  lend_entries z = ap (λ (y : List ℕ). v ∷ h ∷ n ∷ m ∷ (z ++ y)) (drop_at es (ms ++ rest) entry_room le)

  -- the first k words of the memberships
  pub lend_memberships : (k : ℕ) (z : List ℕ) → k ≤ length ms → lent memberships_at k (join v h n m es ms rest) z ≡ join v h n m es (z ++ drop k ms) rest
  lend_memberships k z g =
      ap (λ (y : List ℕ). v ∷ h ∷ n ∷ m ∷ y ++ (z ++ drop k (drop memberships_at (join v h n m es ms rest)))) (take_at es (ms ++ rest) entry_room le)
      ∙ ap (λ (y : List ℕ). v ∷ h ∷ n ∷ m ∷ (es ++ (z ++ drop k y))) join_behind
      ∙ ap (λ (y : List ℕ). v ∷ h ∷ n ∷ m ∷ (es ++ (z ++ y))) (drop-append-le k ms rest g)
      ∙ ap (λ (y : List ℕ). v ∷ h ∷ n ∷ m ∷ (es ++ y)) (sym (append_assoc z (drop k ms) rest))

  pub join_memberships : length ms ≡ membership_room → membership_part (join v h n m es ms rest) ≡ ms
  join_memberships lm = ap (take membership_room) join_behind ∙ take_at ms rest membership_room lm

  pub join_rest : length ms ≡ membership_room → drop window_at (join v h n m es ms rest) ≡ rest
  join_rest lm = sym (drop-drop membership_room memberships_at (join v h n m es ms rest)) ∙ ap (drop membership_room) join_behind ∙ drop_at ms rest membership_room lm

-- ---- rows

pub entry_wide : (e : Entry) → length (entry_words e) ≡ entry_width
entry_wide e = ap (λ (n : ℕ). suc (suc (suc (suc (suc (suc n)))))) (name_wide e.name)

pub membership_wide : (m : Membership) → length (membership_words m) ≡ membership_width
membership_wide m = refl

pub entries_words : (es : List Entry) → length (flat_map entry_words es) ≡ entry_width * length es
entries_words es = length_flat entry_width entry_words entry_wide es

pub memberships_words : (ms : List Membership) → length (flat_map membership_words ms) ≡ membership_width * length ms
memberships_words ms = length_flat membership_width membership_words membership_wide ms

entry_back : (e : Entry) (r : List ℕ) → EntryFits e → entry_of (entry_words e ++ r) ≡ e
entry_back e r f =
    let n = name_back e.name r f in
    λ i. record { kind = e.kind; id = e.id; owner = e.owner; flags = e.flags; version = e.version; dnet = e.dnet; name = n i }

pub read_entries : (es : List Entry) (r : List ℕ) → All EntryFits es → entries_in (length es) (flat_map entry_words es ++ r) ≡ es
read_entries es r f = read_back entry_width entry_words entry_wide entry_of EntryFits entry_back es r f

pub read_memberships : (ms : List Membership) (r : List ℕ) → memberships_in (length ms) (flat_map membership_words ms ++ r) ≡ ms
read_memberships ms r = read_back membership_width membership_words membership_wide membership_of (λ m. Unit {0}) (λ m r f. refl) ms r (all_of (λ m. Unit {0}) (λ m. tt) ms)

pub entry_count_law : (l : List ℕ) → length (table_of l).entries ≡ entry_count l
unfolding table_of
entry_count_law l = length-map (places entry_width (entry_count l) (entry_part l)) entry_of ∙ length_places entry_width (entry_count l) (entry_part l)

pub membership_count_law : (l : List ℕ) → length (table_of l).memberships ≡ membership_count l
unfolding table_of
membership_count_law l = length-map (places membership_width (membership_count l) (membership_part l)) membership_of ∙ length_places membership_width (membership_count l) (membership_part l)

-- what a row of a membership holds is what it says
pub membership_row : (l : List ℕ) → membership_width ≤ length l → take membership_width l ≡ membership_words (membership_of l)
membership_row [] h = let z : ⊥ = omega arith in elim z [ ]
membership_row (a ∷ []) h = let z : ⊥ = omega arith in elim z [ ]
membership_row (a ∷ b ∷ l) h = refl

-- ---- the words of a name table

pub record Fits (t : NameTable) : Type 0 where
  pub entries_fit : length t.entries ≤ max_entries
  pub memberships_fit : length t.memberships ≤ max_memberships
  pub names_fit : All EntryFits t.entries

all_read : (xs : List (List ℕ)) → All EntryFits (map entry_of xs)
all_read [] = tt
all_read (x ∷ xs) = (name_fits (drop entry_numbers x), all_read xs)

pub table_fits : (l : List ℕ) → Packed l → Fits (table_of l)
unfolding table_of
table_fits l p = record {
  names_fit = all_read (places entry_width (entry_count l) (entry_part l));
  entries_fit = rw (entry_count_law l) p.entries_fit;
  memberships_fit = rw (membership_count_law l) p.memberships_fit;
}

pub same : (l : List ℕ) → Packed l → l ≡ with_table (table_of l) l
unfolding table_of with_table
same l p =
    split l p.long
    ∙ ap (λ (n : ℕ). join (version_of l) (host_of l) n (membership_count l) (entry_part l) (membership_part l) (drop window_at l)) (sym (entry_count_law l))
    ∙ ap (λ (n : ℕ). join (version_of l) (host_of l) (length (table_of l).entries) n (entry_part l) (membership_part l) (drop window_at l)) (sym (membership_count_law l))
    ∙ ap (λ (y : List ℕ). join (version_of l) (host_of l) (length (table_of l).entries) (length (table_of l).memberships) y (membership_part l) (drop window_at l)) p.entries_same
    ∙ ap (λ (y : List ℕ). join (version_of l) (host_of l) (length (table_of l).entries) (length (table_of l).memberships) (packed entry_words entry_room (table_of l).entries) y (drop window_at l)) p.memberships_same

module _ (t : NameTable) (l : List ℕ) (f : Fits t) where
  les : length (packed entry_words entry_room t.entries) ≡ entry_room
  les = length_packed entry_words entry_room t.entries (omega (arith, entries_words t.entries, f.entries_fit))

  lms : length (packed membership_words membership_room t.memberships) ≡ membership_room
  lms = length_packed membership_words membership_room t.memberships (omega (arith, memberships_words t.memberships, f.memberships_fit))

  entries_at_law : entry_part (with_table t l) ≡ packed entry_words entry_room t.entries
  unfolding with_table
  entries_at_law = join_entries t.version t.host (length t.entries) (length t.memberships) (packed entry_words entry_room t.entries) (packed membership_words membership_room t.memberships) (drop window_at l) les

  memberships_at_law : membership_part (with_table t l) ≡ packed membership_words membership_room t.memberships
  unfolding with_table
  memberships_at_law = join_memberships t.version t.host (length t.entries) (length t.memberships) (packed entry_words entry_room t.entries) (packed membership_words membership_room t.memberships) (drop window_at l) les lms

  pub window_at_law : drop window_at (with_table t l) ≡ drop window_at l
  unfolding with_table
  window_at_law = join_rest t.version t.host (length t.entries) (length t.memberships) (packed entry_words entry_room t.entries) (packed membership_words membership_room t.memberships) (drop window_at l) les lms

  pub with_with : (u : NameTable) → with_table u (with_table t l) ≡ with_table u l
  unfolding with_table
  with_with u = ap (λ (y : List ℕ). join u.version u.host (length u.entries) (length u.memberships) (packed entry_words entry_room u.entries) (packed membership_words membership_room u.memberships) y) window_at_law

  es_back : entries_in (length t.entries) (entry_part (with_table t l)) ≡ t.entries
  es_back = ap (entries_in (length t.entries)) entries_at_law ∙ read_entries t.entries (replicate (entry_room - length (flat_map entry_words t.entries)) 0) f.names_fit

  ms_back : memberships_in (length t.memberships) (membership_part (with_table t l)) ≡ t.memberships
  ms_back = ap (memberships_in (length t.memberships)) memberships_at_law ∙ read_memberships t.memberships (replicate (membership_room - length (flat_map membership_words t.memberships)) 0)

  pub table_with : table_of (with_table t l) ≡ t
  unfolding table_of with_table
  table_with = λ i. record { version = t.version; host = t.host; entries = es_back i; memberships = ms_back i }

  pub with_packed : length l ≡ word_count → Packed (with_table t l)
  unfolding with_table
  with_packed long = record {
    long =
        ap (λ (n : ℕ). suc (suc (suc (suc n)))) (
        length-append (packed entry_words entry_room t.entries) (packed membership_words membership_room t.memberships ++ drop window_at l)
        ∙ omega (arith, les, lms, length-append (packed membership_words membership_room t.memberships) (drop window_at l), length-drop window_at l)
        ) ∙ refl;
    entries_fit = f.entries_fit;
    memberships_fit = f.memberships_fit;
    entries_same = entries_at_law ∙ ap (packed entry_words entry_room) (sym es_back);
    memberships_same = memberships_at_law ∙ ap (packed membership_words membership_room) (sym ms_back);
  }
