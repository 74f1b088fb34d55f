-- `insert_membership` meets its contract: the row of the pair in its place, and the count is one more.
use mathlib.Core.Path.{◌≡◌, sym, ◌∙◌}
use Prim.Native.Nat.{◌+◌, ◌-◌, ◌*◌, ◌≤◌}
use native.Mathlib.Omega.{arith}
use lib.ListN.{length, take, drop, length-drop}
use lib.Seq.{length-take-le}
use Rattle.table_apply.proofs.ApplyLaws.{rank_within, inserted}
use Rattle.lists.specs.Lists.{rank_by}
use Rattle.table_rules.specs.NameTable.{before}
use Rattle.table_words.specs.Layout.{membership_width, memberships_at}
use Rattle.table_words.specs.Words.{membership_count, membership_part, memberships_in}
use Rattle.table_apply.proofs.insert_membership.Goals as goal

pub overflow_mul-k : goal.overflow_mul-k
overflow_mul-k c =
    let l = c.args.w.now in
    let k : c.rank-k.result ≤ membership_count l =
    rw (c.rank-k.ensures, c.memberships.ensures.0, c.memberships.ensures.1) (rank_within (record { group = c.args.group; player = c.args.player }) (membership_count l) (membership_part l)) in
    let n : c.small-m.result ≡ membership_count l = c.small-m.ensures in
    omega (arith, c.requires.1)

pub insert-requires : goal.insert-requires
insert-requires c =
    let l = c.args.w.now in
    let k : c.rank-k.result ≤ membership_count l =
    rw (c.rank-k.ensures, c.memberships.ensures.0, c.memberships.ensures.1) (rank_within (record { group = c.args.group; player = c.args.player }) (membership_count l) (membership_part l)) in
    let n : c.small-m.result ≡ membership_count l = c.small-m.ensures in
    let n : c.small-m.result ≡ membership_count l = c.small-m.ensures in
    let e : length (take (memberships_at + membership_width * c.small-m.result + membership_width - memberships_at) (drop memberships_at l)) ≡ memberships_at + membership_width * c.small-m.result + membership_width - memberships_at =
    length-take-le (memberships_at + membership_width * c.small-m.result + membership_width - memberships_at) (drop memberships_at l) (omega (arith, length-drop memberships_at l, c.requires.0.long, c.requires.1)) in
    omega (arith, e)

pub returns : goal.returns
returns c =
    let a = c.args in
    let l = a.w.now in
    let n : c.small-m.result ≡ membership_count l = c.small-m.ensures in
    let k : c.rank-k.result ≡ rank_by before (record { group = a.group; player = a.player }) (memberships_in (membership_count l) (membership_part l)) = c.rank-k.ensures ∙ rw (c.memberships.ensures.0, c.memberships.ensures.1) in
    let e : memberships_at + membership_width * c.small-m.result + membership_width ≡ memberships_at + membership_width * membership_count l + membership_width = rw n in
    let w = inserted l a.version a.group a.player c.requires.0 c.requires.1 c.rank-k.result (memberships_at + membership_width * c.small-m.result + membership_width) c.insert.new.s k e c.insert.ensures in
    rw c.short.ensures (rw (sym n) at w)
