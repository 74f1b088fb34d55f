-- What a batch will answer, by cases: refused with 28, refused with 29, or all whole messages delivered.
use mathlib.Core.Path.{◌≡◌, refl}
use Prim.Native.Nat.{ℕ, ◌≤◌, ◌<◌}
use mathlib.Core.Bool.{Bool, true, false}
use mathlib.Core.List.{List, []}
use lib.Dec.{ltb}
use lib.ListN.{length}
use borrow.Author.Tests.{lt-ltb, le-ltb, ltb-false}
use Rattle.framing.specs.Frames.{messages_in, is_cut}
use Rattle.replica.specs.Valid.{valid_of}
use Rattle.batch.specs.declared.BatchAnswer.{BatchAnswer}
use Rattle.batch.specs.Batch.{batch_no, delivered_in, batch_answer}

module _ (l s : List ℕ) (room : ℕ) where
  pub invalid : valid_of l ≡ false → ◌≡◌ {A = BatchAnswer} (record { number = 28; count = 0; cut = false }) (batch_answer l s room)
  unfolding batch_answer delivered_in batch_no
  invalid h = rw h

  pub few_records : valid_of l ≡ true → room < length (messages_in s)
      → ◌≡◌ {A = BatchAnswer} (record { number = 29; count = 0; cut = false }) (batch_answer l s room)
  unfolding batch_answer delivered_in batch_no
  few_records h f = rw (h, lt-ltb room (length (messages_in s)) f)

  pub accepted : valid_of l ≡ true → length (messages_in s) ≤ room
      → ◌≡◌ {A = BatchAnswer} (record { number = 0; count = length (messages_in s); cut = is_cut s }) (batch_answer l s room)
  unfolding batch_answer delivered_in batch_no
  accepted h f = rw (h, le-ltb room (length (messages_in s)) f)

  -- either nothing is delivered, or all whole messages are, to a valid replica, and they have room
  pub data Planned : Type 0 where
    none : delivered_in l s room ≡ [] → Planned
    all : delivered_in l s room ≡ messages_in s → valid_of l ≡ true → length (messages_in s) ≤ room → Planned

  pub planned : Planned
  unfolding delivered_in batch_no
  planned = go (valid_of l) refl (ltb room (length (messages_in s))) refl
    where
      go : (a : Bool) → valid_of l ≡ a → (b : Bool) → ltb room (length (messages_in s)) ≡ b → Planned
      go false e b f = none (rw e)
      go true e true f = none (rw (e, f))
      go true e false f = all (rw (e, f)) e (ltb-false room (length (messages_in s)) f)

-- what `begin` asks for
pub ruleset plans = (invalid, few_records, accepted)
