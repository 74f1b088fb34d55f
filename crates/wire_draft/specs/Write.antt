-- What a writer answers and leaves in the buffer (paper 01, numbers 11 and 12).
use Rattle.std.specs.Prelude.{ℕ, Bool, cond, not, List, [], ◌∷◌, Result, Ok, length, ltb, eqb}
use Rattle.refusal.specs.Checks.{when, first_of}
use Rattle.refusal.specs.Numbers.{refused}
use Rattle.refusal.specs.declared.Refusal.{Refusal}
use Rattle.byte_words.specs.Bytes.{put}
use Rattle.wire_read.specs.Read.{reading_of, number_of}
use Rattle.wire_draft.specs.Draft.{Draft, draft_bytes}

-- reading would refuse these bytes; over 16,384 of them is one of its reasons
unfoldable pub is_unreadable : List ℕ → Bool
is_unreadable m = not (eqb (number_of (reading_of m)) 0)

-- 11: values that reading would refuse, or a flaw. 12: buffer too short
unfoldable pub write_no : ℕ → Draft → ℕ
write_no room d =
    first_of
    (when d.flaw 11
    ∷ when (is_unreadable (draft_bytes d)) 11
    ∷ when (ltb room (length (draft_bytes d))) 12
    ∷ [])

-- by the number, 0 where nothing refuses: the answer is how many bytes were written, or the refusal with the number
unfoldable pub written_by : ℕ → List ℕ → Result ℕ Refusal
written_by number m = cond (eqb number 0) (Ok (length m)) (refused number)

-- the buffer at exit: the message at its start, and every byte beyond it as it was; a refused writer touches no byte
unfoldable pub left_by : ℕ → List ℕ → List ℕ → List ℕ
left_by number buffer m = cond (eqb number 0) (put buffer 0 m) buffer

abbrev pub written_of : ℕ → Draft → Result ℕ Refusal
written_of room d = written_by (write_no room d) (draft_bytes d)

abbrev pub buffer_of : List ℕ → Draft → List ℕ
buffer_of buffer d = left_by (write_no (length buffer) d) buffer (draft_bytes d)
