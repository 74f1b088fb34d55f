-- Where the entries rise by version, the first that may host is the one with the smallest version.
use mathlib.Core.Path.{◌≡◌, refl}
use Prim.Native.Nat.{ℕ, suc, ◌<◌}
use native.Mathlib.Omega.{arith}
use mathlib.Core.Bool.{Bool, true, false, cond}
use mathlib.Core.List.{List, [], ◌∷◌}
use mathlib.Core.Option.{some}
use borrow.Author.Tests.{le-leb}
use Rattle.lists.specs.Lists.{rising}
use Rattle.lists.proofs.ListLaws.{rising_lo, rising_tail}
use Rattle.table_rules.specs.NameTable.{Entry, may_host, smaller, candidate, id_of}
use Rattle.replica.specs.Inner.{first_host}

abbrev version : Entry → ℕ
version e = e.version

smallest : (e : Entry) (lo hi : ℕ) (host : ℕ) (es : List Entry) → e.version < lo → rising version lo hi es ≡ true → smaller e (candidate host es) ≡ some e
unfolding smaller candidate
smallest e lo hi host [] low r = refl
smallest e lo hi host (x ∷ xs) low r =
    go (may_host host x) (smallest e (suc x.version) hi host xs (omega (arith, rising_lo version lo hi x xs r)) (rising_tail version lo hi x xs r))
    (smallest x (suc x.version) hi host xs (omega arith) (rising_tail version lo hi x xs r))
  where
    go : (b : Bool) → smaller e (candidate host xs) ≡ some e → smaller x (candidate host xs) ≡ some x
        → smaller e (cond b (smaller x (candidate host xs)) (candidate host xs)) ≡ some e
    go true a b = rw (b, le-leb e.version x.version (omega (arith, rising_lo version lo hi x xs r)))
    go false a b = a

pub first_is : (host lo hi : ℕ) (es : List Entry) → rising version lo hi es ≡ true → first_host host es ≡ id_of (candidate host es)
unfolding first_host candidate id_of
first_is host lo hi [] r = refl
first_is host lo hi (e ∷ es) r = go (may_host host e) (first_is host (suc e.version) hi es (rising_tail version lo hi e es r))
  where
    go : (b : Bool) → first_host host es ≡ id_of (candidate host es)
        → cond b e.id (first_host host es) ≡ id_of (cond b (smaller e (candidate host es)) (candidate host es))
    go true ih = rw (smallest e (suc e.version) hi host es (omega arith) (rising_tail version lo hi e es r))
    go false ih = ih
