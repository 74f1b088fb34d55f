-- What is not kept of a message on groups (paper 02, A5): who asked for it, the context, and the word that is not used.
use Rattle.std.specs.Prelude.{◌≡◌, ℕ, List}
use Rattle.wire_entry.specs.declared.EntryBlock.{EntryBlock}
use Rattle.wire_read.specs.declared.CreateGroup.{CreateGroup}
use Rattle.wire_read.specs.declared.DestroyGroup.{DestroyGroup}
use Rattle.wire_read.specs.declared.MembershipChange.{MembershipChange}
use Rattle.wire_read.specs.declared.Message.TheVariants as said
use Rattle.operations.specs.Received.{operation_said}

-- the words of each message that are not kept
pub record Asked : Type 0 where
  pub requesting : ℕ
  pub context : ℕ
  pub unused : ℕ

abbrev pub creating : EntryBlock → Asked → CreateGroup
creating e a = record { requesting = a.requesting; context = a.context; entry = e }

abbrev pub destroying : ℕ → ℕ → Asked → DestroyGroup
destroying group version a = record { group = group; version = version; requesting = a.requesting; context = a.context }

abbrev pub changing : ℕ → ℕ → ℕ → Asked → MembershipChange
changing group player version a =
    record { group = group; player = player; version = version; requesting = a.requesting; context = a.context }

-- the statement: whatever they are, delivery makes the same of the message
pub record AskedNotKept : Type 0 where
  pub created : (name : List ℕ) (e : EntryBlock) (a b : Asked)
      → operation_said name (said.CreateGroup (creating e a) a.unused) ≡ operation_said name (said.CreateGroup (creating e b) b.unused)
  pub destroyed : (name : List ℕ) (g v : ℕ) (a b : Asked)
      → operation_said name (said.DestroyGroup (destroying g v a) a.unused) ≡ operation_said name (said.DestroyGroup (destroying g v b) b.unused)
  pub joined : (name : List ℕ) (g p v : ℕ) (a b : Asked)
      → operation_said name (said.AddToGroup (changing g p v a) a.unused) ≡ operation_said name (said.AddToGroup (changing g p v b) b.unused)
  pub left : (name : List ℕ) (g p v : ℕ) (a b : Asked)
      → operation_said name (said.DeleteFromGroup (changing g p v a) a.unused) ≡ operation_said name (said.DeleteFromGroup (changing g p v b) b.unused)
