-- The worked cases of delivery (paper 01, "Cases on each side", those marked to be proved; paper 02, A3 and A5), as one list: messages
-- delivered in turn to the replica of the paper's sheet T, and the answer to the last. That each holds is part of the statement in `demand`.
use Rattle.std.specs.Prelude.{ℕ, suc, ◌*◌, Bool, List, [], ◌∷◌, ◌++◌, Ok, length, replicate}
use Rattle.refusal.specs.Numbers.{refused}
use Rattle.byte_words.specs.Bytes.{little, bytes_of, words}
use Rattle.lists.specs.Lists.{eqbs, flat_map}
use Rattle.table_rules.specs.Cases.{table_t}
use Rattle.replica.specs.declared.Delivery.TheVariants.{Pending, Applied}
use Rattle.replica.specs.Replica.{at_start, pack}
use Rattle.replica.specs.Deliver.{Answer, numbers_of, deliver_of}

abbrev pub words_t : List ℕ
words_t = pack (at_start table_t)

-- 0xD0 without fields, and 0xD1
abbrev pub add_player_message : ℕ → ℕ → List ℕ
add_player_message version id = words little (0xD0 ∷ id ∷ 0 ∷ 0 ∷ version ∷ 0 ∷ 7 ∷ replicate 6 0)

-- words and an entry block behind them, with a name of these units at the first offset, and no other field; 0xD0 so
abbrev pub entry_message : List ℕ → ℕ → ℕ → ℕ → List ℕ → List ℕ
entry_message before offset version id units =
    words little (before ++ (id ∷ 0 ∷ 0 ∷ version ∷ 0 ∷ 7 ∷ offset ∷ 2 * suc (length units) ∷ replicate 4 0)) ++ flat_map (bytes_of little 2) (units ++ (0 ∷ []))

abbrev pub named_message : ℕ → ℕ → List ℕ → List ℕ
named_message = entry_message (0xD0 ∷ []) 48

-- "Ann", "Bob", and a name that ends in one unit behind 31 others
abbrev pub ann : List ℕ
ann = 65 ∷ 110 ∷ 110 ∷ []

abbrev pub bob : List ℕ
bob = 66 ∷ 111 ∷ 98 ∷ []

abbrev pub long_name : ℕ → List ℕ
long_name last = replicate 31 90 ++ (last ∷ [])

abbrev pub destroy_player_message : ℕ → ℕ → List ℕ
destroy_player_message version id = words little (0xD1 ∷ id ∷ version ∷ 0 ∷ 0 ∷ [])

-- 0xD7 with a name; and with a requesting id and a context 0xD7 without fields, 0xD8, and 0xD9 or 0xDA
abbrev pub named_group_message : ℕ → ℕ → List ℕ → List ℕ
named_group_message = entry_message (0xD7 ∷ 0 ∷ 0 ∷ []) 56

abbrev pub create_group_message : ℕ → ℕ → ℕ → ℕ → List ℕ
create_group_message requesting context version id = words little (0xD7 ∷ requesting ∷ context ∷ id ∷ 0 ∷ 0 ∷ version ∷ 0 ∷ 7 ∷ replicate 6 0)

abbrev pub destroy_group_message : ℕ → ℕ → ℕ → ℕ → List ℕ
destroy_group_message requesting context version id = words little (0xD8 ∷ id ∷ version ∷ 0 ∷ requesting ∷ context ∷ [])

abbrev pub membership_message : ℕ → ℕ → ℕ → ℕ → ℕ → ℕ → List ℕ
membership_message type requesting context version group player =
    words little (type ∷ group ∷ player ∷ version ∷ 0 ∷ requesting ∷ context ∷ [])

abbrev pub join_message : ℕ → ℕ → ℕ → List ℕ
join_message = membership_message 0xD9 0 0

abbrev pub leave_message : ℕ → ℕ → ℕ → List ℕ
leave_message = membership_message 0xDA 0 0

abbrev pub same_answer : Answer → Answer → Bool
same_answer a b = eqbs (numbers_of a) (numbers_of b)

-- the answer to the last of the messages, delivered in turn
abbrev pub last_answer : List ℕ → List ℕ → List (List ℕ) → Answer
last_answer s m [] = (deliver_of s m).answer
last_answer s m (n ∷ ns) = last_answer (deliver_of s m).words n ns

pub record Case : Type 0 where
  pub first : List ℕ
  pub later : List (List ℕ)
  pub answer : Answer

unfoldable pub cases : List Case
cases =
    record { first = add_player_message 5 400; later = []; answer = refused 14 }
    ∷ record { first = add_player_message 6 400; later = []; answer = Ok (Applied 1 0) }
    ∷ record { first = add_player_message 37 400; later = []; answer = Ok Pending }
    ∷ record { first = add_player_message 38 400; later = []; answer = refused 15 }
    -- version 7 pending, sent again, and with another id
    ∷ record { first = destroy_player_message 7 100; later = destroy_player_message 7 100 ∷ []; answer = refused 16 }
    ∷ record { first = destroy_player_message 7 100; later = destroy_player_message 7 200 ∷ []; answer = refused 17 }
    -- the two messages of the listing: pending, then applied, 2 versions, 0 no-ops
    ∷ record { first = destroy_player_message 7 100; later = []; answer = Ok Pending }
    ∷ record { first = destroy_player_message 7 100; later = add_player_message 6 400 ∷ []; answer = Ok (Applied 2 0) }
    -- a no-op passes its version: the next one is applied
    ∷ record { first = add_player_message 6 200; later = []; answer = Ok (Applied 1 1) }
    ∷ record { first = add_player_message 6 200; later = add_player_message 7 400 ∷ []; answer = Ok (Applied 1 0) }
    -- version 7 pending with a name: sent again; with another name; without one; with a name that differs only past the units that are kept
    ∷ record { first = named_message 7 400 ann; later = named_message 7 400 ann ∷ []; answer = refused 16 }
    ∷ record { first = named_message 7 400 ann; later = named_message 7 400 bob ∷ []; answer = refused 17 }
    ∷ record { first = named_message 7 400 ann; later = add_player_message 7 400 ∷ []; answer = refused 17 }
    ∷ record { first = named_message 7 400 []; later = add_player_message 7 400 ∷ []; answer = refused 16 }
    ∷ record { first = named_message 7 400 (long_name 65); later = named_message 7 400 (long_name 66) ∷ []; answer = refused 16 }
    -- a group is created, unless somebody has the id; one is destroyed, and no player
    ∷ record { first = create_group_message 0 0 6 400; later = []; answer = Ok (Applied 1 0) }
    ∷ record { first = create_group_message 0 0 6 200; later = []; answer = Ok (Applied 1 1) }
    ∷ record { first = destroy_group_message 0 0 6 300; later = []; answer = Ok (Applied 1 0) }
    ∷ record { first = destroy_group_message 0 0 6 200; later = []; answer = Ok (Applied 1 1) }
    -- a pair is deleted; an absent one is a no-op, as is one that went with its group
    ∷ record { first = leave_message 6 300 200; later = []; answer = Ok (Applied 1 0) }
    ∷ record { first = leave_message 6 300 100; later = []; answer = Ok (Applied 1 1) }
    ∷ record { first = destroy_group_message 0 0 6 300; later = leave_message 7 300 200 ∷ []; answer = Ok (Applied 1 1) }
    ∷ record { first = create_group_message 0 0 6 400; later = join_message 7 400 100 ∷ leave_message 8 400 100 ∷ []; answer = Ok (Applied 1 0) }
    -- version 7 pending, and again with another requesting id and context, which are not kept; then of another type
    ∷ record { first = create_group_message 0 0 7 400; later = create_group_message 8 9 7 400 ∷ []; answer = refused 16 }
    ∷ record { first = create_group_message 0 0 7 400; later = add_player_message 7 400 ∷ []; answer = refused 17 }
    ∷ record { first = named_group_message 7 400 ann; later = named_group_message 7 400 bob ∷ []; answer = refused 17 }
    ∷ record { first = destroy_group_message 0 0 7 300; later = destroy_group_message 8 9 7 300 ∷ []; answer = refused 16 }
    ∷ record { first = destroy_group_message 0 0 7 300; later = destroy_player_message 7 300 ∷ []; answer = refused 17 }
    ∷ record { first = leave_message 7 300 200; later = membership_message 0xDA 8 9 7 300 200 ∷ []; answer = refused 16 }
    ∷ record { first = leave_message 7 300 200; later = join_message 7 300 200 ∷ []; answer = refused 17 }
    -- no operation, and a message that reading refuses
    ∷ record { first = words little (0xD3 ∷ 0 ∷ 300 ∷ 200 ∷ []); later = []; answer = refused 13 }
    ∷ record { first = []; later = []; answer = refused 2 }
    ∷ []

abbrev pub case_holds : Case → Bool
case_holds c = same_answer (last_answer words_t c.first c.later) c.answer
