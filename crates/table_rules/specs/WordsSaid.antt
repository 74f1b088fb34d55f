-- The numbers by which a replica's words say what an entry is and what an operation does.
use Rattle.std.specs.Prelude.{◌≡◌, ◌≢◌, ℕ, Result, MatchResult}
use Rattle.table_rules.specs.Operations.{player, group}
use Rattle.table_rules.specs.declared.EntryKind.{EntryKind}
use Rattle.table_rules.specs.declared.EntryKind.TheVariants.{Player, Group}
use Rattle.table_rules.specs.declared.Act.{Act}
use Rattle.table_rules.specs.declared.Act.TheVariants.{Add, Remove, Join, Leave}
use Rattle.table_rules.specs.declared.UnknownWord.{UnknownWord}

abbrev pub kind_word : EntryKind → ℕ
kind_word Player = player
kind_word Group = group

-- as in `act_numbers`
abbrev pub act_word : Act → ℕ
act_word Add = 1
act_word Remove = 2
act_word Join = 3
act_word Leave = 4

-- the result is what the word says; an error has a word that says nothing
abbrev pub KindSaid : ℕ → Result EntryKind UnknownWord → Type 0
KindSaid word r = MatchResult r (λ kind. word ≡ kind_word kind) (λ e. (e.0 ≡ word) × ((kind : EntryKind) → word ≢ kind_word kind))

abbrev pub ActSaid : ℕ → Result Act UnknownWord → Type 0
ActSaid word r = MatchResult r (λ act. word ≡ act_word act) (λ e. (e.0 ≡ word) × ((act : Act) → word ≢ act_word act))
