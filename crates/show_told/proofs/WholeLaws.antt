-- Two traces, equal line by line, come from equal replicas.
use mathlib.Core.Path.{◌≡◌, refl, ap, sym, ◌∙◌}
use Prim.Native.Nat.{ℕ}
use native.Mathlib.Omega.{arith}
use mathlib.Core.Bool.{Bool, true, false, cond}
use mathlib.Core.List.{List, [], ◌++◌}
use lib.ListN.{get_or}
use lib.Dec.{eqb}
use borrow.Author.Tests.{eqb-true, eq-eqb}
use Rattle.lists.specs.Lists.{All, every, rising, joined}
use Rattle.byte_words.specs.Bytes.{AllBytes}
use Rattle.table_rules.specs.NameTable.{NameTable}
use Rattle.table_rules.proofs.KeepsLaws.{table_parts}
use Rattle.table_words.specs.Words.{fresh_words, table_of}
use Rattle.replica.specs.Replica.{pack, at_start}
use Rattle.replica.specs.Valid.{valid_of}
use Rattle.replica.specs.Deliver.{deliver_of}
use Rattle.replica.proofs.PackLaws.{ValidModel, pack_table, pack_valid}
use Rattle.snapshot_bytes.specs.Snapshot.{stated_table, snapshot_no}
use Rattle.snapshot_bytes.specs.SnapshotLaws.{TableFits}
use Rattle.snapshot_bytes.proofs.SnapshotProofs.{snapshots}
use Rattle.snapshot.specs.Saved.{Load, loaded_of}
use Rattle.replay.specs.Run.{replica_after}
use Rattle.show_text.specs.Text.{ascii, named}
use Rattle.show_listing.specs.Listing.{head_text, cut_line}
use Rattle.show_trace.specs.Trace.{state_text, refused_answer, refused_start, table_start, start_text}
use Rattle.show_told.specs.Told.{lines_from, trace_text, TraceTells}
use Rattle.show_told.proofs.FitLaws.{stated_fits}
use Rattle.show_told.proofs.PrintLaws.{line_is}
use Rattle.show_told.proofs.CutLaws.{lines_told, each_line, lines_first}
use Rattle.show_told.proofs.StepLaws.{step, lines}
use Rattle.show_told.proofs.StartLaws.{start, start_then}

-- ---- the first byte behind "snapshot: " tells whether the snapshot is refused

table_byte : (l x : List ℕ) → valid_of l ≡ true → get_or (start_text 0 l ++ x) 10 0 ≡ 118
unfolding start_text table_start state_text head_text named ascii
table_byte l x h = rw h

refused_byte : (n : ℕ) (l x : List ℕ) → eqb n 0 ≡ false → get_or (start_text n l ++ x) 10 0 ≡ 114
unfolding start_text refused_start refused_answer ascii
refused_byte n l x h = rw h

-- ---- an accepted snapshot

module _ (s : List ℕ) (n : snapshot_no s ≡ 0) where
  started : ValidModel (at_start (stated_table s))
  unfolding every rising
  started = record { table_valid = table_parts (stated_table s) (snapshots.accepted_valid s n); pending_rise = refl; pending_valid = refl }

  abbrev started_words : List ℕ
  started_words = pack (at_start (stated_table s))

  started_table : table_of started_words ≡ stated_table s
  started_table = pack_table (at_start (stated_table s)) started

  started_valid : valid_of started_words ≡ true
  started_valid = pack_valid (at_start (stated_table s)) started

  started_fits : AllBytes s → TableFits (table_of started_words)
  started_fits b = rw started_table (stated_fits s b n)

-- ---- two traces

abbrev load_by : Bool → List ℕ → Load
load_by c p = cond c (record { number = 0; words = pack (at_start (stated_table p)) }) (record { number = snapshot_no p; words = fresh_words })

abbrev text_of : Load → List (List ℕ) → Bool → List ℕ
text_of x ms cut = start_text x.number x.words ++ cond (eqb x.number 0) (joined (lines_from 1 x.words ms) ++ cut_line cut) []

module _ (s t : List ℕ) (ms ns : List (List ℕ)) (c d : Bool) (a : AllBytes s) (b : AllBytes t) (f : All AllBytes ms) (g : All AllBytes ns)
    (n : snapshot_no s ≡ 0) where
  whole_by : (z : Bool) → eqb (snapshot_no t) 0 ≡ z → text_of (load_by true s) ms c ≡ text_of (load_by z t) ns d
      → replica_after (started_words s n) ms ≡ replica_after (load_by z t).words ns
  whole_by true k e =
      let m = eqb-true (snapshot_no t) 0 k in
      let v = started_words s n in
      let w = started_words t m in
      let x = lines_from 1 v ms in
      let y = lines_from 1 w ns in
      let p = each_line 1 v ms in
      let q = each_line 1 w ns in
      let r = start_then v w (started_valid s n) (started_valid t m) (started_fits s n a) (started_fits t m b) (joined x ++ cut_line c) (joined y ++ cut_line d) (lines_first x c p) (lines_first y d q) e in
      let o : v ≡ w = ap (λ (u : NameTable). pack (at_start u)) (sym (started_table s n) ∙ r.0 ∙ started_table t m) in
      let l = lines_told c d x y p q r.1 in
      lines 1 v ms ns f g (l ∙ ap (λ (u : List ℕ). lines_from 1 u ns) (sym o)) ∙ ap (λ (u : List ℕ). replica_after u ns) o
  whole_by false k e =
      let v = started_words s n in
      absurd (omega (arith, ap (λ (x : List ℕ). get_or x 10 0) e, table_byte v (joined (lines_from 1 v ms) ++ cut_line c) (started_valid s n), refused_byte (snapshot_no t) fresh_words (cond (eqb (snapshot_no t) 0) (joined (lines_from 1 fresh_words ns) ++ cut_line d) []) k))

  accepted : loaded_of s ≡ load_by true s
  unfolding loaded_of
  accepted = rw (eq-eqb (snapshot_no s) 0 n)

  whole : trace_text s ms c ≡ trace_text t ns d → replica_after (loaded_of s).words ms ≡ replica_after (loaded_of t).words ns
  unfolding loaded_of
  whole e =
      ap (λ (x : Load). replica_after x.words ms) accepted
      ∙ whole_by (eqb (snapshot_no t) 0) refl (sym (ap (λ (x : Load). text_of x ms c) accepted) ∙ e)

pub trace_tells : TraceTells
trace_tells = record {
  one_line = λ place l m. line_is place m (deliver_of l m);
  step = step;
  lines = lines;
  start = start;
  whole = whole;
}
