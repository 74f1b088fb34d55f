-- `is_valid` meets its contract: the code's tests in their order are the conditions.
use mathlib.Core.Path.{◌≡◌, ap, sym, ◌∙◌}
use mathlib.Core.Bool.{true, false}
use Prim.Native.Nat.{ℕ, ◌*◌}
use native.Mathlib.Omega.{arith}
use lib.ListN.{drop}
use lib.Dec.{leb, eqb}
use Rattle.lists.specs.Lists.{every}
use Rattle.lists.proofs.ListLaws.{and_l}
use Rattle.std.specs.Prelude.{not}
use borrow.Author.Tests.{le-leb, lt-leb}
use Rattle.refusal.proofs.NumberLaws.{accepted_no}
use Rattle.table_rules.specs.NameTable.{max_entries, max_memberships}
use Rattle.table_rules.specs.Valid.{table_no}
use Rattle.rows.specs.Rows.{places, is_zero}
use Rattle.table_words.specs.Layout.{entry_width, membership_width}
use Rattle.table_words.specs.Words.{entry_count, membership_count, entry_part, membership_part, table_of}
use Rattle.table_words.specs.Inner.{row_named}
use Rattle.table_words.proofs.EntryRows.{named_valid}
use Rattle.replica.proofs.ValidLaws.{whole_entries, code_test, code_tests, not_long, window_part_law}
use Rattle.replica.proofs.is_valid.Goals as goal

pub returns-then-w-ne-WORDS : goal.returns-then-w-ne-WORDS
returns-then-w-ne-WORDS c = sym (not_long c.args.w.now c.if-w-ne-WORDS.true)

pub returns-then-n-gt-ENTRIES : goal.returns-then-n-gt-ENTRIES
returns-then-n-gt-ENTRIES c =
    let l = c.args.w.now in
    let n : leb (entry_count l) max_entries ≡ false = lt-leb (entry_count l) max_entries (omega (arith, c.small-n.ensures)) in
    let e : code_test l c.if-w-ne-WORDS.false ≡ false = rw n in
    sym e ∙ code_tests l c.if-w-ne-WORDS.false

pub returns-then-m-gt-MEMBERSHIPS : goal.returns-then-m-gt-MEMBERSHIPS
returns-then-m-gt-MEMBERSHIPS c =
    let l = c.args.w.now in
    let n : leb (entry_count l) max_entries ≡ true = le-leb (entry_count l) max_entries (omega (arith, c.small-n.ensures)) in
    let m : leb (membership_count l) max_memberships ≡ false = lt-leb (membership_count l) max_memberships (omega (arith, c.small-m.ensures)) in
    let e : code_test l c.if-w-ne-WORDS.false ≡ false = rw (n, m) in
    sym e ∙ code_tests l c.if-w-ne-WORDS.false

pub returns-then-not-entries_whole : goal.returns-then-not-entries_whole
returns-then-not-entries_whole c =
    let l = c.args.w.now in
    let n : leb (entry_count l) max_entries ≡ true = le-leb (entry_count l) max_entries (omega (arith, c.small-n.ensures)) in
    let m : leb (membership_count l) max_memberships ≡ true = le-leb (membership_count l) max_memberships (omega (arith, c.small-m.ensures)) in
    let y : whole_entries l c.if-w-ne-WORDS.false ≡ false = sym (c.entries_whole.ensures ∙ rw (c.entries.ensures.0, c.entries.ensures.1)) ∙ c.if-not-entries_whole.true in
    let e : code_test l c.if-w-ne-WORDS.false ≡ false = rw (n, m, y) in
    sym e ∙ code_tests l c.if-w-ne-WORDS.false

pub table_check-requires : goal.table_check-requires
unfolding table_of
table_check-requires c =
    let l = c.args.w.now in
    let y : whole_entries l c.if-w-ne-WORDS.false ≡ true = sym (c.entries_whole.ensures ∙ rw (c.entries.ensures.0, c.entries.ensures.1)) ∙ c.if-not-entries_whole.false in record {
      w_len = (c.if-w-ne-WORDS.false, omega (arith, c.small-n.ensures), omega (arith, c.small-m.ensures));
      w_value = named_valid (entry_count l) (entry_part l)
          (and_l (every row_named (places entry_width (entry_count l) (entry_part l))) (every is_zero (drop (entry_width * entry_count l) (entry_part l))) y);
    }

pub returns-then-is_err : goal.returns-then-is_err
returns-then-is_err c =
    let l = c.args.w.now in
    let n : leb (entry_count l) max_entries ≡ true = le-leb (entry_count l) max_entries (omega (arith, c.small-n.ensures)) in
    let m : leb (membership_count l) max_memberships ≡ true = le-leb (membership_count l) max_memberships (omega (arith, c.small-m.ensures)) in
    let y : whole_entries l c.if-w-ne-WORDS.false ≡ true = sym (c.entries_whole.ensures ∙ rw (c.entries.ensures.0, c.entries.ensures.1)) ∙ c.if-not-entries_whole.false in
    let t : eqb (table_no (table_of l)) 0 ≡ false = ap (λ (k : ℕ). eqb k 0) (sym c.table_check.ensures) ∙ accepted_no c.table_check.result ∙ ap not (sym c.is_err.ensures.value ∙ c.if-is_err.true) in
    let e : code_test l c.if-w-ne-WORDS.false ≡ false = rw (n, m, y, t) in
    sym e ∙ code_tests l c.if-w-ne-WORDS.false

pub returns-then-not-zero_behind : goal.returns-then-not-zero_behind
returns-then-not-zero_behind c =
    let l = c.args.w.now in
    let n : leb (entry_count l) max_entries ≡ true = le-leb (entry_count l) max_entries (omega (arith, c.small-n.ensures)) in
    let m : leb (membership_count l) max_memberships ≡ true = le-leb (membership_count l) max_memberships (omega (arith, c.small-m.ensures)) in
    let y : whole_entries l c.if-w-ne-WORDS.false ≡ true = sym (c.entries_whole.ensures ∙ rw (c.entries.ensures.0, c.entries.ensures.1)) ∙ c.if-not-entries_whole.false in
    let t : eqb (table_no (table_of l)) 0 ≡ true = ap (λ (k : ℕ). eqb k 0) (sym c.table_check.ensures) ∙ accepted_no c.table_check.result ∙ ap not (sym c.is_err.ensures.value ∙ c.if-is_err.false) in
    let z : every is_zero (drop (membership_width * membership_count l) (membership_part l)) ≡ false =
    sym (c.zero_behind.ensures ∙ rw (c.memberships.ensures.0, c.memberships.ensures.1)) ∙ c.if-not-zero_behind.true in
    let e : code_test l c.if-w-ne-WORDS.false ≡ false = rw (n, m, y, t, z) in
    sym e ∙ code_tests l c.if-w-ne-WORDS.false

pub returns : goal.returns
returns c =
    let l = c.args.w.now in
    let n : leb (entry_count l) max_entries ≡ true = le-leb (entry_count l) max_entries (omega (arith, c.small-n.ensures)) in
    let m : leb (membership_count l) max_memberships ≡ true = le-leb (membership_count l) max_memberships (omega (arith, c.small-m.ensures)) in
    let y : whole_entries l c.if-w-ne-WORDS.false ≡ true = sym (c.entries_whole.ensures ∙ rw (c.entries.ensures.0, c.entries.ensures.1)) ∙ c.if-not-entries_whole.false in
    let t : eqb (table_no (table_of l)) 0 ≡ true = ap (λ (k : ℕ). eqb k 0) (sym c.table_check.ensures) ∙ accepted_no c.table_check.result ∙ ap not (sym c.is_err.ensures.value ∙ c.if-is_err.false) in
    let z : every is_zero (drop (membership_width * membership_count l) (membership_part l)) ≡ true =
    sym (c.zero_behind.ensures ∙ rw (c.memberships.ensures.0, c.memberships.ensures.1)) ∙ c.if-not-zero_behind.false in
    let e : code_test l c.if-w-ne-WORDS.false ≡ c.window_valid.result = rw (n, m, y, t, z) (sym (c.window_valid.ensures ∙ rw (window_part_law l c.if-w-ne-WORDS.false))) in
    sym e ∙ code_tests l c.if-w-ne-WORDS.false
