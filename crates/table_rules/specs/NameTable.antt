-- The name table (the paper's roster): which operation is a no-op (the paper's void), what applying does, who is the next host
-- (paper 01, "The station"; paper 02, A3, A5 and A6).
use Rattle.std.specs.Prelude.{ℕ, ◌+◌, Bool, true, cond, not, ◌&&◌, ◌||◌, List, [], ◌∷◌, ◌++◌, length, eqb, leb, ltb}
use Rattle.std.proofs.Math.Option.{Option, none, some}
use Rattle.lists.specs.Lists.{any, passing, insert_by, bit}
use Rattle.table_rules.specs.declared.Membership.{Membership}
use Rattle.table_rules.specs.Operations.{player, group, Act, Empty, AddEntry, RemoveEntry, Join, Leave, Operation}

-- a player or a group; the name is its units, without a terminator
pub record Entry : Type 0 where
  pub kind : ℕ
  pub id : ℕ
  pub owner : ℕ
  pub flags : ℕ
  pub version : ℕ
  pub dnet : ℕ
  pub name : List ℕ

pub record NameTable : Type 0 where
  pub version : ℕ
  pub host : ℕ
  pub entries : List Entry
  pub memberships : List Membership

-- version 0 and nothing in it
abbrev pub empty_table : NameTable
empty_table = record { version = 0; host = 0; entries = []; memberships = [] }

-- the most entries and memberships that a table holds
abbrev pub max_entries : ℕ
max_entries = 64

abbrev pub max_memberships : ℕ
max_memberships = 128

-- e is the entry of that kind and id
unfoldable pub is_entry : ℕ → ℕ → Entry → Bool
is_entry k i e = eqb e.kind k && eqb e.id i

unfoldable pub present : ℕ → ℕ → List Entry → Bool
present k i es = any (is_entry k i) es

unfoldable pub has_id : ℕ → List Entry → Bool
has_id i es = any (λ e. eqb e.id i) es

unfoldable pub is_pair : ℕ → ℕ → Membership → Bool
is_pair g p m = eqb m.group g && eqb m.player p

unfoldable pub has_pair : ℕ → ℕ → List Membership → Bool
has_pair g p ms = any (is_pair g p) ms

-- membership m stands before n: by group id, then by player id
unfoldable pub before : Membership → Membership → Bool
before m n = ltb m.group n.group || (eqb m.group n.group && ltb m.player n.player)

-- a membership put in its place
abbrev pub insert_membership : Membership → List Membership → List Membership
insert_membership m ms = insert_by before m ms

-- ---- applying

-- whether an operation is a no-op goes by its act alone, never by its version. One rule for each act, whatever the kind.
-- Adding (0xD0, 0xD7): an entry has the id already, or the table is full. Removing (0xD1, 0xD8): no entry has that kind and id. Joining
-- (0xD9): no such group, no such player, a membership already, or as many memberships as there may be. Leaving (0xDA): no such membership
unfoldable pub is_noop_act : NameTable → Act → Bool
is_noop_act t Empty = true
is_noop_act t (AddEntry k i o f d n) = has_id i t.entries || leb max_entries (length t.entries)
is_noop_act t (RemoveEntry k i) = not (present k i t.entries)
is_noop_act t (Join g p) =
    not (present group g t.entries) || (not (present player p t.entries)
    || (has_pair g p t.memberships || leb max_memberships (length t.memberships)))
is_noop_act t (Leave g p) = not (has_pair g p t.memberships)

unfoldable pub is_noop : NameTable → Operation → Bool
is_noop t op = is_noop_act t op.act

-- the table at another version, and nothing else changed
unfoldable pub at_version : ℕ → NameTable → NameTable
at_version v t = record { version = v; host = t.host; entries = t.entries; memberships = t.memberships }

-- the entry that is added: its version is the operation's
abbrev pub added_entry : ℕ → ℕ → ℕ → ℕ → ℕ → ℕ → List ℕ → Entry
added_entry v k i o f d n = record { kind = k; id = i; owner = o; flags = f; version = v; dnet = d; name = n }

-- every entry but the one of that kind and id
unfoldable pub other_entry : ℕ → ℕ → Entry → Bool
other_entry k i e = not (is_entry k i e)

-- the id by which a membership names its entry of that kind
unfoldable pub member_id : ℕ → Membership → ℕ
member_id k m = cond (eqb k player) m.player m.group

-- every membership but those of the entry of that kind and id
unfoldable pub other_member : ℕ → ℕ → Membership → Bool
other_member k i m = not (eqb (member_id k m) i)

-- every membership but that pair
unfoldable pub other_pair : ℕ → ℕ → Membership → Bool
other_pair g p m = not (is_pair g p m)

-- what an operation that is no no-op does.
-- Adding puts the entry behind the others. Removing takes the entry out, with its memberships, and a host that it was.
-- Joining adds the pair, leaving takes it out
unfoldable pub change : NameTable → ℕ → Act → NameTable
change t v Empty = at_version v t
change t v (AddEntry k i o f d n) = record {
  version = v;
  host = t.host;
  entries = t.entries ++ (added_entry v k i o f d n ∷ []);
  memberships = t.memberships;
}
change t v (RemoveEntry k i) = record {
  version = v;
  host = cond (eqb t.host i) 0 t.host;
  entries = passing (other_entry k i) t.entries;
  memberships = passing (other_member k i) t.memberships;
}
change t v (Join g p) = record {
  version = v;
  host = t.host;
  entries = t.entries;
  memberships = insert_membership (record { group = g; player = p }) t.memberships;
}
change t v (Leave g p) = record {
  version = v;
  host = t.host;
  entries = t.entries;
  memberships = passing (other_pair g p) t.memberships;
}

-- applying always sets the version to the operation's; a no-op changes nothing else
unfoldable pub apply : NameTable → Operation → NameTable
apply t op = cond (is_noop t op) (at_version op.version t) (change t op.version op.act)

-- operations applied one after another, and how many of them are no-ops
unfoldable pub apply_all : NameTable → List Operation → NameTable
apply_all t [] = t
apply_all t (o ∷ os) = apply_all (apply t o) os

unfoldable pub noops_in : NameTable → List Operation → ℕ
noops_in t [] = 0
noops_in t (o ∷ os) = bit (is_noop t o) + noops_in (apply t o) os

-- ---- the next host

-- of two candidates the one with the smaller entry version
unfoldable pub smaller : Entry → Option Entry → Option Entry
smaller e none = some e
smaller e (some f) = cond (leb e.version f.version) (some e) (some f)

-- a player, other than the host
unfoldable pub may_host : ℕ → Entry → Bool
may_host host e = eqb e.kind player && not (eqb e.id host)

-- the one with the smallest entry version
unfoldable pub candidate : ℕ → List Entry → Option Entry
candidate host [] = none
candidate host (e ∷ es) = cond (may_host host e) (smaller e (candidate host es)) (candidate host es)

unfoldable pub id_of : Option Entry → ℕ
id_of none = 0
id_of (some e) = e.id

-- its id, 0 if there is none
unfoldable pub next_host_of : NameTable → ℕ
next_host_of t = id_of (candidate t.host t.entries)
