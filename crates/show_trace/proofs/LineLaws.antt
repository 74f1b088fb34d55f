-- The next host that is shown, and the texts of a replica's state and of its table.
use mathlib.Core.Path.{◌≡◌, refl}
use Prim.Native.Nat.{ℕ}
use native.Mathlib.Omega.{arith}
use mathlib.Core.Bool.{Bool, true, false, cond}
use mathlib.Core.List.{List, ◌++◌}
use Rattle.lists.specs.Lists.{flat_map}
use Rattle.show_text.specs.Text.{ascii}
use Rattle.table_words.specs.Words.{version_of, host_of, entry_count, membership_count, entry_part, membership_part, entries_in, memberships_in, table_of}
use Rattle.table_rules.specs.NameTable.{next_host_of}
use Rattle.std.specs.Prelude.{Result, Ok, Err}
use Rattle.refusal.specs.declared.Refusal.{Refusal}
use Rattle.refusal.specs.Numbers.{refused}
use Rattle.replica.specs.Valid.{valid_of}
use Rattle.replica.specs.Deliver.{next_host_answer}
use Rattle.show_listing.specs.Listing.{head_text}
use Rattle.show_trace.specs.Trace.{next_shown, state_text, entry_start, member_start, table_start}

-- ---- the next host

module _ (h : ℕ) where
  id_by : (b : Bool) (i : ℕ) → ◌≡◌ {A = Result ℕ Refusal} (Ok i) (cond b (Ok h) (refused 28)) → i ≡ cond b h 0
  id_by true i e = cc
  id_by false i e = absurd (let z : ◌≡◌ {A = ℕ} 0 1 = cc in omega arith)

  none_by : (b : Bool) (n : Refusal) → ◌≡◌ {A = Result ℕ Refusal} (Err n) (cond b (Ok h) (refused 28)) → 0 ≡ cond b h 0
  none_by true n e = absurd (let z : ◌≡◌ {A = ℕ} 0 1 = cc in omega arith)
  none_by false n e = refl

module _ (l : List ℕ) where
  pub next_id : (i : ℕ) → Ok i ≡ next_host_answer l → i ≡ next_shown l
  unfolding next_host_answer next_shown
  next_id i e = id_by (next_host_of (table_of l)) (valid_of l) i e

  pub next_none : (n : Refusal) → Err n ≡ next_host_answer l → 0 ≡ next_shown l
  unfolding next_host_answer next_shown
  next_none n e = none_by (next_host_of (table_of l)) (valid_of l) n e

-- ---- where a replica is

pub state_parts : (l : List ℕ) (v h n : ℕ) → v ≡ version_of l → h ≡ host_of l → n ≡ next_shown l
    → head_text v h n ≡ state_text l
unfolding state_text
state_parts l v h n a b c = rw (a, b, c)

-- ---- the start

-- what is put of the rows is the table's
pub table_lines_law : (l : List ℕ)
    → state_text l ++ (ascii "\n" ++ (flat_map entry_start (entries_in (entry_count l) (entry_part l)) ++ flat_map member_start (memberships_in (membership_count l) (membership_part l)))) ≡ table_start l
unfolding table_start table_of
table_lines_law l = refl
