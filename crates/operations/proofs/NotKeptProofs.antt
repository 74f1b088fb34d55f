-- Nothing of a message on groups is kept but what its operation has: by computation.
use mathlib.Core.Path.{refl}
use Rattle.operations.specs.Received.{operation_said}
use Rattle.operations.specs.NotKept.{AskedNotKept}

pub asked_not_kept : AskedNotKept
unfolding operation_said
asked_not_kept = record {
  created = λ name e a b. refl;
  destroyed = λ name g v a b. refl;
  joined = λ name g p v a b. refl;
  left = λ name g p v a b. refl;
}
