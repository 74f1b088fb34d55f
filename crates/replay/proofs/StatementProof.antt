-- Demand 3 on name tables, and the meaning of the replay's words.
use mathlib.Core.Path.{◌≡◌, refl, sym, ap, ◌∙◌, subst}
use Prim.Native.Nat.{ℕ}
use mathlib.Core.Bool.{true}
use mathlib.Core.List.{List, []}
use Rattle.lists.specs.Lists.{every, rising}
use Rattle.table_rules.specs.NameTable.{NameTable, apply_all}
use Rattle.table_rules.specs.Valid.{valid_table}
use Rattle.table_words.specs.Words.{table_of, version_of}
use Rattle.replica.specs.Replica.{Model, view, at_start}
use Rattle.replica.specs.Valid.{valid_of}
use Rattle.replica.specs.Deliver.{next_host_answer}
use Rattle.replay.specs.Replay.{accepted_of, answers_of, watermark_of, table_after, unreached_of}
use Rattle.replay.specs.Faithful.{Faithful}
use Rattle.replay.proofs.TableDemand.{start_of, after, Replayed, ToldTheSame, Agreed, Demand3}
use Rattle.table_rules.proofs.OperationLaws.{same_eq, eq_same}
use Rattle.replay.proofs.RunLaws.{run, rest, above_rest}
use Rattle.replay.proofs.WatermarkLaws.{is_watermark}
use Rattle.table_rules.proofs.KeepsLaws.{table_parts}
use Rattle.replay.proofs.StepLaws.{model_of, model_version, model_table}
use Rattle.replica.proofs.PackLaws.{ValidModel, view_pack, pack_valid}
use Rattle.replay.proofs.AcceptedLaws.{Accepted, none_accepted, all_accepted, is_accepted}
use Rattle.replay.specs.Run.{StaysValid}
use Rattle.replay.proofs.DeliverLaws.{Follows, Followed, followed, deliver_valid}
use Rattle.replay.proofs.AgreeLaws.{table_at_same}

accepted_of_law : (t : NameTable) (ms : List (List ℕ)) → Accepted t (accepted_of t ms)
unfolding accepted_of
accepted_of_law t ms = all_accepted t [] ms (none_accepted t)

-- ---- the meaning of the replay's words

pub faithful : Faithful
unfolding watermark_of
faithful = record {
  accepted_rise = λ t ms. (accepted_of_law t ms).rises;
  watermark_is = λ t ms. is_watermark t.version (accepted_of t ms) (accepted_of_law t ms).rises;
  accepted_is = is_accepted;
  same_is_equal = same_eq;
  equal_is_same = eq_same;
}

-- ---- one replica

start_valid : (t : NameTable) → valid_table t ≡ true → ValidModel (at_start t)
unfolding rising every
start_valid t h = record { table_valid = table_parts t h; pending_rise = refl; pending_valid = refl }

start_follows : (t : NameTable) → valid_table t ≡ true → Follows t [] (start_of t)
unfolding start_of model_of apply_all run rest
start_follows t h =
    let v = start_valid t h in
    record { valid = pack_valid (at_start t) v; shows = view_pack (at_start t) v }

module _ (t : NameTable) (h : valid_table t ≡ true) (ms : List (List ℕ)) where
  run_followed : Followed t [] (start_of t) ms
  run_followed = followed t [] (start_of t) ms (table_parts t h) (none_accepted t) (start_follows t h)

  shows : view (after t ms) ≡ model_of t (accepted_of t ms)
  unfolding accepted_of
  shows = run_followed.follows.shows

  table_is : table_of (after t ms) ≡ table_after t ms
  unfolding view table_after
  table_is = ap (λ (m : Model). m.table) shows ∙ model_table t (accepted_of t ms) (accepted_of_law t ms).rises

  version_is : version_of (after t ms) ≡ watermark_of t ms
  unfolding view table_of watermark_of
  version_is = ap (λ (m : Model). m.table.version) shows ∙ model_version t (accepted_of t ms)

  pending_are : (view (after t ms)).pending ≡ unreached_of t ms
  unfolding view model_of watermark_of unreached_of
  pending_are = ap (λ (m : Model). m.pending) shows ∙ sym (above_rest t.version (accepted_of t ms) (accepted_of_law t ms).rises)

  pub replayed : Replayed t ms
  unfolding answers_of
  replayed = record {
    table_is = table_is;
    version_is = version_is;
    answers_are = run_followed.answers_are;
    pending_are = pending_are;
    stays_valid = run_followed.follows.valid;
  }

-- ---- two replicas

next_host_same : (r s : List ℕ) → valid_of r ≡ true → valid_of s ≡ true → table_of r ≡ table_of s → next_host_answer r ≡ next_host_answer s
unfolding next_host_answer
next_host_same r s h k e = rw (h, k, e)

module _ (t : NameTable) (h : valid_table t ≡ true) (ms ns : List (List ℕ)) where
  from_one : ToldTheSame t t ms ns → Agreed (after t ms) (after t ns)
  unfolding table_after watermark_of
  from_one a =
      let p = replayed t h ms in
      let q = replayed t h ns in
      let e : table_of (after t ms) ≡ table_of (after t ns) =
      p.table_is
      ∙ table_at_same t (accepted_of t ms) (accepted_of t ns) (accepted_of_law t ms).rises (accepted_of_law t ns).rises
      (sym p.version_is ∙ a.same_version ∙ q.version_is) (λ v l m. a.same_accepted v l (rw p.version_is m))
      ∙ sym q.table_is in
      record { same_table = e; same_next_host = next_host_same (after t ms) (after t ns) p.stays_valid q.stays_valid e }

pub demand3 : Demand3
demand3 = record {
  replays = replayed;
  agrees = λ t u h ms ns a.
      subst (λ (w : NameTable). ToldTheSame t w ms ns → Agreed (after t ms) (after w ns)) a.same_start (from_one t h ms ns) a;
}

pub stays_valid : StaysValid
stays_valid l m h = deliver_valid l h m
