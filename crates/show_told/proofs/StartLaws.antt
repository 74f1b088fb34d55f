-- The start lines tell the whole name table.
use mathlib.Core.Path.{◌≡◌, refl, ap, sym, ◌∙◌}
use Prim.Native.Nat.{ℕ, ◌<◌, ◌^◌}
use native.Mathlib.Omega.{arith}
use mathlib.Core.Bool.{Bool, true, false, cond}
use mathlib.Core.List.{List, [], ◌∷◌, ◌++◌, append_assoc}
use lib.ListN.{length, drop, get_or}
use lib.Seq.{drop_at}
use lib.Dec.{eqb}
use borrow.Author.Tests.{eqb-true}
use Rattle.lists.specs.Lists.{All, every, flat_map}
use Rattle.lists.proofs.ListLaws.{every_head, every_tail}
use Rattle.characters.specs.Characters.{characters}
use Rattle.table_rules.specs.NameTable.{Entry}
use Rattle.table_rules.specs.declared.Membership.{Membership}
use Rattle.table_rules.specs.Operations.{player, group}
use Rattle.table_rules.specs.Valid.{has_a_kind}
use Rattle.table_rules.proofs.KeepsLaws.{table_parts}
use Rattle.table_words.specs.Words.{version_of, host_of, table_of}
use Rattle.replica.specs.Valid.{valid_of}
use Rattle.replica.proofs.ValidLaws.{valid_parts}
use Rattle.snapshot_bytes.specs.SnapshotLaws.{EntryFits, MembershipFits, TableFits}
use Rattle.show_text.specs.Text.{ascii, decimal, named}
use Rattle.show_escaped.proofs.UnitLaws.{Units, units_in, units_read}
use Rattle.show_listing.specs.Listing.{head_text, kind_word}
use Rattle.show_trace.specs.Trace.{next_shown, state_text, name_start, entry_start, member_start, table_start, start_text}
use Rattle.show_told.proofs.TellLaws.{Values, numbers_in, Tells, tells_end, tells_next}
use Rattle.show_told.proofs.FitLaws.{next_small}

-- a text at the end of its line, and what stands on the next
abbrev ended : List ℕ → List ℕ
ended s = ascii "\n" ++ s

-- ---- the line of a membership

abbrev member_words : List (List ℕ)
member_words = ascii "member " ∷ ascii " " ∷ []

abbrev member_in : Values → Membership
member_in t = record { group = get_or t.values 0 0; player = get_or t.values 1 0 }

member_parts : (m : Membership) (s : List ℕ) → MembershipFits m
    → Tells member_words (named (ascii "member ") m.group ++ (named (ascii " ") m.player ++ ended s)) (m.group ∷ m.player ∷ []) (ended s)
unfolding named ascii
member_parts m s f = tells_next (ascii "member ") m.group f.group (tells_next (ascii " ") m.player f.player (tells_end (ended s)) refl) refl

member_tells : (m : Membership) (s : List ℕ) → MembershipFits m → Tells member_words (member_start m ++ s) (m.group ∷ m.player ∷ []) (ended s)
unfolding member_start
member_tells m s f = simp append_assoc (member_parts m s f)

abbrev member_read : List ℕ → Membership
member_read x = member_in (numbers_in member_words x)

abbrev member_rest : List ℕ → List ℕ
member_rest x = drop 1 (numbers_in member_words x).rest

module _ (m : Membership) (s : List ℕ) (f : MembershipFits m) where
  member_read_law : member_read (member_start m ++ s) ≡ m
  member_read_law = ap member_in (member_tells m s f).read

  member_rest_law : member_rest (member_start m ++ s) ≡ s
  unfolding ascii
  member_rest_law = ap (λ (t : Values). drop 1 t.rest) (member_tells m s f).read

-- the first byte
member_first : (m : Membership) (s : List ℕ) → get_or (member_start m ++ s) 0 0 ≡ 109
unfolding member_start named ascii
member_first m s = refl

abbrev members : List Membership → List ℕ
members ms = flat_map member_start ms

-- what stands behind the table starts with a digit, or with the c of cut
abbrev pub Behind : List ℕ → Type 0
Behind x = get_or x 0 0 < 100

members_tell : (ms ns : List Membership) (x y : List ℕ) → All MembershipFits ms → All MembershipFits ns → Behind x → Behind y
    → members ms ++ x ≡ members ns ++ y → (ms ≡ ns) × (x ≡ y)
members_tell [] [] x y f g h k e = (refl, e)
members_tell [] (n ∷ ns) x y f g h k e =
    absurd (omega (arith, ap (λ (z : List ℕ). get_or z 0 0) (e ∙ append_assoc (member_start n) (members ns) y), member_first n (members ns ++ y)))
members_tell (m ∷ ms) [] x y f g h k e =
    absurd (omega (arith, ap (λ (z : List ℕ). get_or z 0 0) (sym (append_assoc (member_start m) (members ms) x) ∙ e), member_first m (members ms ++ x)))
members_tell (m ∷ ms) (n ∷ ns) x y f g h k e =
    let l : member_start m ++ (members ms ++ x) ≡ member_start n ++ (members ns ++ y) =
    sym (append_assoc (member_start m) (members ms) x) ∙ e ∙ append_assoc (member_start n) (members ns) y in
    let i : m ≡ n = sym (member_read_law m (members ms ++ x) f.0) ∙ ap member_read l ∙ member_read_law n (members ns ++ y) g.0 in
    let r : members ms ++ x ≡ members ns ++ y =
    sym (member_rest_law m (members ms ++ x) f.0) ∙ ap member_rest l ∙ member_rest_law n (members ns ++ y) g.0 in
    let t = members_tell ms ns x y f.1 g.1 h k r in
    ((λ j. i j ∷ t.0 j), t.1)

-- ---- the line of an entry

abbrev entry_words : ℕ → List (List ℕ)
entry_words kind = kind_word kind ∷ ascii " version " ∷ ascii " owner " ∷ ascii " flags " ∷ ascii " dnet " ∷ []

-- the name behind the numbers, and the text behind it
abbrev name_in : List ℕ → Units
name_in s = units_in (drop 6 s)

-- how many characters a name has, as it stands behind it
abbrev count_text : List ℕ → List ℕ
count_text us = named (ascii " ") (characters us)

name_tells : (us s : List ℕ) → All (λ u. u < 256 ^ 2) us → name_in (name_start us ++ s) ≡ record { units = us; rest = count_text us ++ ended s }
unfolding name_start ascii
name_tells us s a = simp append_assoc (units_read us (count_text us ++ ended s) a)

-- what stands on the next line: the name tells how long its count is
abbrev next_line : Units → List ℕ
next_line t = drop 1 (drop (length (count_text t.units)) t.rest)

next_line_law : (us s : List ℕ) → next_line (record { units = us; rest = count_text us ++ ended s }) ≡ s
unfolding ascii
next_line_law us s = ap (drop 1) (drop_at (count_text us) (ended s) (length (count_text us)) refl)

abbrev entry_in : ℕ → Values → Entry
entry_in kind t = record {
  kind = kind;
  id = get_or t.values 0 0;
  owner = get_or t.values 2 0;
  flags = get_or t.values 3 0;
  version = get_or t.values 1 0;
  dnet = get_or t.values 4 0;
  name = (name_in t.rest).units;
}

abbrev entry_values : Entry → List ℕ
entry_values e = e.id ∷ e.version ∷ e.owner ∷ e.flags ∷ e.dnet ∷ []

entry_parts : (w : List ℕ) (e : Entry) (s : List ℕ) → EntryFits e
    → Tells (w ∷ ascii " version " ∷ ascii " owner " ∷ ascii " flags " ∷ ascii " dnet " ∷ []) (named w e.id ++ (named (ascii " version ") e.version ++ (named (ascii " owner ") e.owner ++ (named (ascii " flags ") e.flags ++ (named (ascii " dnet ") e.dnet ++ (name_start e.name ++ s)))))) (entry_values e) (name_start e.name ++ s)
unfolding named name_start ascii
entry_parts w e s f =
    tells_next w e.id f.id (tells_next (ascii " version ") e.version f.version (tells_next (ascii " owner ") e.owner f.owner (tells_next (ascii " flags ") e.flags f.flags (tells_next (ascii " dnet ") e.dnet f.dnet (tells_end (name_start e.name ++ s)) refl) refl) refl) refl) refl

entry_tells : (e : Entry) (s : List ℕ) → EntryFits e → Tells (entry_words e.kind) (entry_start e ++ s) (entry_values e) (name_start e.name ++ s)
unfolding entry_start
entry_tells e s f = simp append_assoc (entry_parts (kind_word e.kind) e s f)

-- the first byte tells the kind
abbrev kind_byte : Bool → ℕ
kind_byte b = cond b 112 103

entry_first : (e : Entry) (s : List ℕ) → get_or (entry_start e ++ s) 0 0 ≡ kind_byte (eqb e.kind player)
unfolding entry_start named ascii
entry_first e s = go (eqb e.kind player)
  where
    go : (b : Bool) → get_or ((((cond b (ascii "player ") (ascii "group ")) ++ decimal e.id) ++ (named (ascii " version ") e.version ++ (named (ascii " owner ") e.owner ++ (named (ascii " flags ") e.flags ++ (named (ascii " dnet ") e.dnet ++ name_start e.name))))) ++ s) 0 0 ≡ kind_byte b
    go true = refl
    go false = refl

abbrev kind_read : List ℕ → ℕ
kind_read x = cond (eqb (get_or x 0 0) 112) player group

kind_by : (b : Bool) (k x : ℕ) → x ≡ kind_byte b → eqb k player ≡ b → (b ≡ false → k ≡ group) → cond (eqb x 112) player group ≡ k
kind_by true k x e h g = rw e (sym (eqb-true k player h))
kind_by false k x e h g = rw e (sym (g refl))

other_kind : (e : Entry) → has_a_kind e ≡ true → eqb e.kind player ≡ false → e.kind ≡ group
unfolding has_a_kind
other_kind e h n = eqb-true e.kind group (rw n at h)

-- an entry with another name
abbrev entry_named : Entry → List ℕ → Entry
entry_named e us = record { kind = e.kind; id = e.id; owner = e.owner; flags = e.flags; version = e.version; dnet = e.dnet; name = us }

abbrev entry_read : List ℕ → Entry
entry_read x = entry_in (kind_read x) (numbers_in (entry_words (kind_read x)) x)

abbrev entry_rest : List ℕ → List ℕ
entry_rest x = next_line (name_in (numbers_in (entry_words (kind_read x)) x).rest)

module _ (e : Entry) (s : List ℕ) (f : EntryFits e) (h : has_a_kind e ≡ true) where
  kind_read_law : kind_read (entry_start e ++ s) ≡ e.kind
  kind_read_law = kind_by (eqb e.kind player) e.kind (get_or (entry_start e ++ s) 0 0) (entry_first e s) refl (other_kind e h)

  entry_read_law : entry_read (entry_start e ++ s) ≡ e
  entry_read_law =
      ap (λ (k : ℕ). entry_in k (numbers_in (entry_words k) (entry_start e ++ s))) kind_read_law
      ∙ ap (entry_in e.kind) (entry_tells e s f).read
      ∙ ap (λ (t : Units). entry_named e t.units) (name_tells e.name s f.name)

  entry_rest_law : entry_rest (entry_start e ++ s) ≡ s
  entry_rest_law =
      ap (λ (k : ℕ). next_line (name_in (numbers_in (entry_words k) (entry_start e ++ s)).rest)) kind_read_law
      ∙ ap (λ (t : Values). next_line (name_in t.rest)) (entry_tells e s f).read
      ∙ ap next_line (name_tells e.name s f.name)
      ∙ next_line_law e.name s

abbrev table_lines : List Entry → List Membership → List ℕ → List ℕ
table_lines es ms x = flat_map entry_start es ++ (members ms ++ x)

-- no line of an entry is one of a membership, or what stands behind the table
not_member : (e : Entry) (s : List ℕ) (ms : List Membership) (x : List ℕ) → Behind x → entry_start e ++ s ≡ members ms ++ x → ⊥
not_member e s ms x k h = go (eqb e.kind player) ms (sym (entry_first e s) ∙ ap (λ (z : List ℕ). get_or z 0 0) h)
  where
    go : (b : Bool) (ms : List Membership) → kind_byte b ≡ get_or (members ms ++ x) 0 0 → ⊥
    go true [] z = omega (arith, k)
    go false [] z = omega (arith, k)
    go true (m ∷ ms) z = omega (arith, rw (append_assoc (member_start m) (members ms) x) at z, member_first m (members ms ++ x))
    go false (m ∷ ms) z = omega (arith, rw (append_assoc (member_start m) (members ms) x) at z, member_first m (members ms ++ x))

module _ (ms ns : List Membership) (x y : List ℕ) (c : All MembershipFits ms) (d : All MembershipFits ns) (p : Behind x) (q : Behind y) where
  lines_tell : (es fs : List Entry) → All EntryFits es → All EntryFits fs → every has_a_kind es ≡ true → every has_a_kind fs ≡ true
      → table_lines es ms x ≡ table_lines fs ns y → (es ≡ fs) × (ms ≡ ns) × (x ≡ y)
  lines_tell [] [] a b h k e = let t = members_tell ms ns x y c d p q e in (refl, t.0, t.1)
  lines_tell [] (v ∷ fs) a b h k e =
      absurd (not_member v (table_lines fs ns y) ms x p (sym (e ∙ append_assoc (entry_start v) (flat_map entry_start fs) (members ns ++ y))))
  lines_tell (u ∷ es) [] a b h k e =
      absurd (not_member u (table_lines es ms x) ns y q (sym (append_assoc (entry_start u) (flat_map entry_start es) (members ms ++ x)) ∙ e))
  lines_tell (u ∷ es) (v ∷ fs) a b h k e =
      let g : entry_start u ++ table_lines es ms x ≡ entry_start v ++ table_lines fs ns y =
      sym (append_assoc (entry_start u) (flat_map entry_start es) (members ms ++ x)) ∙ e ∙ append_assoc (entry_start v) (flat_map entry_start fs) (members ns ++ y) in
      let n = every_head has_a_kind u es h in
      let m = every_head has_a_kind v fs k in
      let i : u ≡ v = sym (entry_read_law u (table_lines es ms x) a.0 n) ∙ ap entry_read g ∙ entry_read_law v (table_lines fs ns y) b.0 m in
      let r : table_lines es ms x ≡ table_lines fs ns y =
      sym (entry_rest_law u (table_lines es ms x) a.0 n) ∙ ap entry_rest g ∙ entry_rest_law v (table_lines fs ns y) b.0 m in
      let t = lines_tell es fs a.1 b.1 (every_tail has_a_kind u es h) (every_tail has_a_kind v fs k) r in
      ((λ j. i j ∷ t.0 j), t.1, t.2)

-- ---- the whole table

abbrev state_words : List (List ℕ)
state_words = ascii "version " ∷ ascii " host " ∷ ascii " next " ∷ []

state_parts : (v h n : ℕ) (s : List ℕ) → v < 256 ^ 4 → h < 256 ^ 4 → n < 256 ^ 4
    → Tells state_words (named (ascii "version ") v ++ (named (ascii " host ") h ++ (named (ascii " next ") n ++ ended s))) (v ∷ h ∷ n ∷ []) (ended s)
unfolding named ascii
state_parts v h n s a b c =
    tells_next (ascii "version ") v a (tells_next (ascii " host ") h b (tells_next (ascii " next ") n c (tells_end (ended s)) refl) refl) refl

state_tells : (l s : List ℕ) → version_of l < 256 ^ 4 → host_of l < 256 ^ 4 → next_shown l < 256 ^ 4
    → Tells state_words (state_text l ++ ended s) (version_of l ∷ host_of l ∷ next_shown l ∷ []) (ended s)
unfolding state_text head_text
state_tells l s a b c = simp append_assoc (state_parts (version_of l) (host_of l) (next_shown l) s a b c)

module _ (l : List ℕ) (h : valid_of l ≡ true) (f : TableFits (table_of l)) (x : List ℕ) where
  shown_small : next_shown l < 256 ^ 4
  unfolding next_shown
  shown_small = rw h (next_small (table_of l) f)

  abbrev lines_of : List ℕ
  lines_of = table_lines (table_of l).entries (table_of l).memberships x

  state_behind : Tells state_words (state_text l ++ ended lines_of) (version_of l ∷ host_of l ∷ next_shown l ∷ []) (ended lines_of)
  unfolding table_of
  state_behind = state_tells l lines_of f.version f.host shown_small

  text_tells : Tells state_words (table_start l ++ x) (version_of l ∷ host_of l ∷ next_shown l ∷ []) (ended lines_of)
  unfolding table_start
  text_tells = simp append_assoc state_behind

  kinds : every has_a_kind (table_of l).entries ≡ true
  kinds = (table_parts (table_of l) (valid_parts l h).table).kinds_known

  -- behind "snapshot: "
  start_table_law : drop 10 (start_text 0 l ++ x) ≡ table_start l ++ x
  unfolding start_text ascii
  start_table_law = rw h

-- two tables with the same lines, and what stands behind them
module _ (l k : List ℕ) (v : valid_of l ≡ true) (w : valid_of k ≡ true) (f : TableFits (table_of l)) (g : TableFits (table_of k)) (x y : List ℕ)
    (p : Behind x) (q : Behind y) (e : start_text 0 l ++ x ≡ start_text 0 k ++ y) where
  told : {A : Type 0} (read : Values → A)
      → read (record { values = version_of l ∷ host_of l ∷ next_shown l ∷ []; rest = ended (lines_of l v f x) })
      ≡ read (record { values = version_of k ∷ host_of k ∷ next_shown k ∷ []; rest = ended (lines_of k w g y) })
  told read =
      let t : table_start l ++ x ≡ table_start k ++ y = sym (start_table_law l v f x) ∙ ap (drop 10) e ∙ start_table_law k w g y in
      ap read (sym (text_tells l v f x).read ∙ ap (numbers_in state_words) t ∙ (text_tells k w g y).read)

  told_lines : lines_of l v f x ≡ lines_of k w g y
  unfolding ascii
  told_lines = told (λ t. drop 1 t.rest)

  pub start_then : (table_of l ≡ table_of k) × (x ≡ y)
  unfolding table_of
  start_then =
      let a : version_of l ≡ version_of k = told (λ t. get_or t.values 0 0) in
      let b : host_of l ≡ host_of k = told (λ t. get_or t.values 1 0) in
      let c = lines_tell (table_of l).memberships (table_of k).memberships x y f.memberships g.memberships p q (table_of l).entries (table_of k).entries f.entries g.entries (kinds l v f x) (kinds k w g y) told_lines in
      ((λ i. record { version = a i; host = b i; entries = c.0 i; memberships = c.1 i }), c.2)

pub start : (l k : List ℕ) → valid_of l ≡ true → valid_of k ≡ true → TableFits (table_of l) → TableFits (table_of k)
    → start_text 0 l ≡ start_text 0 k → table_of l ≡ table_of k
start l k v w f g e = (start_then l k v w f g [] [] (omega arith) (omega arith) (ap (λ (s : List ℕ). s ++ []) e)).0
