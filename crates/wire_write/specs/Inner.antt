-- What the inner writer of an entry computes (paper 01, 0xD0; paper 02, A5, 0xD7). No contract of a public writer cites these.
use Rattle.std.specs.Prelude.{ℕ, Bool, ◌||◌, List, ◌++◌, eqb}
use Rattle.wire_field.specs.declared.FieldName.{FieldName}
use Rattle.wire_layout.specs.Layout.{entry_pairs}
use Rattle.wire_entry.specs.declared.EntryBlock.{EntryBlock}
use Rattle.wire_draft.specs.Draft.{block_words, pair_words}
use Rattle.wire_draft.specs.Inner.{sizes_of, size_named, any_bad}
use Rattle.wire_draft.specs.declared.Given.{Given}

-- the words before the block, then the block and its pairs, whose words are the same wherever it stands
abbrev pub entry_message_words : List ℕ → ℕ → EntryBlock → (FieldName → List ℕ) → List ℕ
entry_message_words head first e bytes = head ++ (block_words e 0 ++ pair_words first (size_named (sizes_of bytes)) (entry_pairs 0))

-- the id is 0, or a field is given that has no bytes or that reading would refuse
abbrev pub entry_bad : EntryBlock → Given → Bool
entry_bad e given = eqb e.dpnid 0 || any_bad given
