-- Operations (paper 01, "The station"; paper 02, A3 and A5): what is kept of one, when two are the same, and the one of a version.
use Rattle.std.specs.Prelude.{ℕ, Bool, true, false, cond, not, ◌&&◌, ◌||◌, List, [], ◌∷◌, ◌++◌, get_or, eqb, ltb}
use Rattle.std.proofs.Math.Option.{Option, none, some}
use Rattle.lists.specs.Lists.{insert_by, eqbs}
use Rattle.names.specs.Names.{valid_name}

-- the kinds of an entry
abbrev pub player : ℕ
player = 1

abbrev pub group : ℕ
group = 2

abbrev pub is_kind : ℕ → Bool
is_kind k = eqb k player || eqb k group

-- what an operation does. Players and groups differ by their kind alone; Empty is the act of an unused place
pub data Act : Type 0 where
  Empty : Act
  AddEntry : (kind id owner flags dnet : ℕ) (name : List ℕ) → Act
  RemoveEntry : (kind id : ℕ) → Act
  Join : (group player : ℕ) → Act
  Leave : (group player : ℕ) → Act

-- what is kept of an operation
pub record Operation : Type 0 where
  pub version : ℕ
  pub act : Act

-- what stands in an unused place
unfoldable pub no_operation : Operation
no_operation = record { version = 0; act = Empty }

-- there is an act
unfoldable pub is_act : Act → Bool
is_act Empty = false
is_act (AddEntry k i o f d n) = true
is_act (RemoveEntry k i) = true
is_act (Join g p) = true
is_act (Leave g p) = true

-- the operations add and remove players and groups, and no kept id is 0
abbrev pub names_entry : ℕ → ℕ → Bool
names_entry k i = is_kind k && not (eqb i 0)

abbrev pub names_pair : ℕ → ℕ → Bool
names_pair g p = not (eqb g 0) && not (eqb p 0)

-- one of the operations, no id among those that it keeps is 0, and its name is one that an entry may have
unfoldable pub valid_act : Act → Bool
valid_act Empty = false
valid_act (AddEntry k i o f d n) = names_entry k i && valid_name n
valid_act (RemoveEntry k i) = names_entry k i
valid_act (Join g p) = names_pair g p
valid_act (Leave g p) = names_pair g p

unfoldable pub valid_operation : Operation → Bool
valid_operation o = valid_act o.act

-- ---- the kept fields (the paper's kept values), as a list of numbers

-- how many numbers come before the name
abbrev pub number_count : ℕ
number_count = 7

-- what it does and to which kind (together the paper's type), the values of the entry or membership, and among them its version
unfoldable pub act_numbers : ℕ → Act → List ℕ
act_numbers v Empty = 0 ∷ 0 ∷ 0 ∷ 0 ∷ 0 ∷ v ∷ 0 ∷ []
act_numbers v (AddEntry k i o f d n) = 1 ∷ k ∷ i ∷ o ∷ f ∷ v ∷ d ∷ []
act_numbers v (RemoveEntry k i) = 2 ∷ k ∷ i ∷ 0 ∷ 0 ∷ v ∷ 0 ∷ []
act_numbers v (Join g p) = 3 ∷ 0 ∷ g ∷ p ∷ 0 ∷ v ∷ 0 ∷ []
act_numbers v (Leave g p) = 4 ∷ 0 ∷ g ∷ p ∷ 0 ∷ v ∷ 0 ∷ []

-- the name of the entry that is added; of any other act none
unfoldable pub act_name : Act → List ℕ
act_name Empty = []
act_name (AddEntry k i o f d n) = n
act_name (RemoveEntry k i) = []
act_name (Join g p) = []
act_name (Leave g p) = []

unfoldable pub kept : Operation → List ℕ
kept o = act_numbers o.version o.act ++ act_name o.act

-- operations are the same when their kept fields are equal
unfoldable pub same_operation : Operation → Operation → Bool
same_operation a b = eqbs (kept a) (kept b)

-- the act that numbers and a name say
unfoldable pub act_said : List ℕ → List ℕ → Act
act_said r name =
    cond (eqb (get_or r 0 0) 1) (AddEntry (get_or r 1 0) (get_or r 2 0) (get_or r 3 0) (get_or r 4 0) (get_or r 6 0) name)
    (cond (eqb (get_or r 0 0) 2) (RemoveEntry (get_or r 1 0) (get_or r 2 0))
    (cond (eqb (get_or r 0 0) 3) (Join (get_or r 2 0) (get_or r 3 0))
    (cond (eqb (get_or r 0 0) 4) (Leave (get_or r 2 0) (get_or r 3 0)) Empty)))

-- ---- operations by version

-- the operation of version v, if there is one
unfoldable pub find : ℕ → List Operation → Option Operation
find v [] = none
find v (o ∷ os) = cond (eqb o.version v) (some o) (find v os)

abbrev pub earlier : Operation → Operation → Bool
earlier a b = ltb a.version b.version

-- an operation put in its place by version
abbrev pub insert : Operation → List Operation → List Operation
insert op os = insert_by earlier op os
