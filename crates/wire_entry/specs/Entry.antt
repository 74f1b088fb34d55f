-- The entry block (paper 01, 0xD0), at any position: dpnid, owner, flags, version, version-not-used, DNET version; name, data, URL.
use Rattle.std.specs.Prelude.{ℕ, ◌+◌, List}
use Rattle.wire_field.specs.Words.{word}
use Rattle.wire_layout.specs.Layout.{entry_pairs, entry_absence}
use Rattle.wire_layout.specs.Checks.{pair_fields}
use Rattle.wire_field.specs.declared.Fields.{Fields}
use Rattle.wire_entry.specs.declared.EntryBlock.{EntryBlock}

-- the numbers of the entry block at p, the word that is not used left out
unfoldable pub entry_at : List ℕ → ℕ → EntryBlock
entry_at m p = record {
  dpnid = word m p;
  owner = word m (p + 4);
  flags = word m (p + 8);
  version = word m (p + 12);
  dnet_version = word m (p + 20);
}

-- its fields
abbrev pub entry_fields : List ℕ → ℕ → Fields
entry_fields m p = pair_fields entry_absence m (entry_pairs p)

-- the word that is not used
abbrev pub entry_not_used : List ℕ → ℕ → ℕ
entry_not_used m p = word m (p + 16)
