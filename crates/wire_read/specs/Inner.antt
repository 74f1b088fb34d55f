-- What only inner functions and proofs need. No public contract cites it.
use Rattle.std.specs.Prelude.{ℕ, List, [], ◌∷◌}
use Rattle.wire_field.specs.Words.{word}
use Rattle.wire_layout.specs.Layout.{first, second, third, fourth, fifth, sixth}
use Rattle.wire_read.specs.Read.{no_fields}
use Rattle.wire_read.specs.declared.Message.{Message}
use Rattle.wire_read.specs.declared.ReadMessage.{ReadMessage}

-- the first six words after the type word; those past the end are 0
unfoldable pub six_words : List ℕ → List ℕ
six_words m = word m first ∷ word m second ∷ word m third ∷ word m fourth ∷ word m fifth ∷ word m sixth ∷ []

-- a message that has no fields
abbrev pub without_fields : Message → ReadMessage
without_fields said = record { message = said; fields = no_fields }
