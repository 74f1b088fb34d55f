-- `next_host` meets its contract: the entries of a valid replica rise by version, so the first that may host is the next.
use mathlib.Core.Path.{◌≡◌, ap, sym, ◌∙◌}
use mathlib.Core.Bool.{true}
use Rattle.std.specs.Prelude.{Ok}
use native.Mathlib.Omega.{arith}
use Rattle.table_rules.specs.NameTable.{next_host_of}
use Rattle.table_rules.proofs.KeepsLaws.{table_parts}
use Rattle.table_words.specs.Words.{version_of, host_of, entry_count, entry_part, entries_in, table_of}
use Rattle.replica.specs.Valid.{valid_of}
use Rattle.replica.specs.Deliver.{next_host_answer}
use Rattle.replica.proofs.ValidLaws.{Valid, valid_parts, valid_packed}
use Rattle.replica.proofs.HostLaws.{first_is}
use Rattle.replica.proofs.next_host.Goals as goal

pub returns-then-not-is_valid : goal.returns-then-not-is_valid
unfolding next_host_answer
returns-then-not-is_valid c = rw (← c.is_valid.ensures, c.if-not-is_valid.true)

pub bounds-w-1 : goal.bounds-w-1
bounds-w-1 c = omega (arith, (valid_parts c.args.w.now (sym c.is_valid.ensures ∙ c.if-not-is_valid.false)).long)

pub entries-requires : goal.entries-requires
entries-requires c =
    let l = c.args.w.now in
    let p : Valid l = valid_parts l (sym c.is_valid.ensures ∙ c.if-not-is_valid.false) in
    (p.long, (valid_packed l p).entries_fit)

pub returns : goal.returns
unfolding next_host_answer next_host_of table_of
returns c =
    let l = c.args.w.now in
    let v : valid_of l ≡ true = sym c.is_valid.ensures ∙ c.if-not-is_valid.false in
    let t = table_parts (table_of l) (valid_parts l v).table in
    rw v (ap Ok (c.first_host.ensures ∙ rw (c.entries.ensures.0, c.entries.ensures.1) (first_is (host_of l) 0 (version_of l) (entries_in (entry_count l) (entry_part l)) t.versions_rise)))
