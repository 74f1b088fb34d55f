-- Runs worked out by hand for the statement that nothing waits for good (paper 02, A11), as one list. All start from the paper's sheet T,
-- at version 5, with nothing pending or with version 7.
use Rattle.std.specs.Prelude.{◌≡◌, ℕ, zero, suc, ◌+◌, ◌-◌, Bool, true, false, ◌&&◌, List, [], ◌∷◌, ◌++◌, map, eqb}
use Rattle.lists.specs.Lists.{every, bit, flat_map}
use Rattle.byte_words.specs.Bytes.{little, words}
use Rattle.framing.specs.Frames.{framed_message}
use Rattle.table_words.specs.Words.{version_of}
use Rattle.replica.specs.Deliver.{deliver_of}
use Rattle.replica.specs.Cases.{words_t, add_player_message, destroy_player_message, create_group_message, join_message}
use Rattle.demand.specs.Calls.{Call, deliver, batch, replica_left}
use Rattle.demand.specs.Progress.{delivers}

-- so many versions, falling, down to the one right above v
abbrev pub falling : ℕ → ℕ → List ℕ
falling v zero = []
falling v (suc k) = suc (v + k) ∷ falling v k

-- a player added by each version
abbrev pub adding : List ℕ → List (List ℕ)
adding vs = map (λ v. add_player_message v (1000 + v)) vs

-- a replica, the calls, a target, whether every version up to it is delivered, and the version that the replica ends at
pub record Case : Type 0 where
  pub start : List ℕ
  pub calls : List Call
  pub target : ℕ
  pub complete : Bool
  pub ends : ℕ

-- T with version 7 pending
abbrev pub waiting_t : List ℕ
waiting_t = (deliver_of words_t (destroy_player_message 7 100)).words

-- refused by reading, with 4, 7 and 9; and no operation, 13
abbrev pub refused_messages : List (List ℕ)
refused_messages =
    words little (0xD1 ∷ 100 ∷ 6 ∷ [])
    ∷ add_player_message 6 0
    ∷ words little (0xD0 ∷ 400 ∷ 0 ∷ 0 ∷ 6 ∷ 0 ∷ 7 ∷ 47 ∷ 2 ∷ 0 ∷ 0 ∷ 0 ∷ 0 ∷ [])
    ∷ words little (0xD3 ∷ 6 ∷ 300 ∷ 200 ∷ [])
    ∷ []

unfoldable pub cases : List Case
cases =
    -- the two messages of the paper's listing
    record { start = words_t; calls = deliver (destroy_player_message 7 100) ∷ deliver (add_player_message 6 400) ∷ []; target = 7; complete = true; ends = 7 }
    -- 32 versions, each before all below it, as one batch; with a record too few it is refused whole
    ∷ record { start = words_t; calls = batch (flat_map framed_message (adding (falling 5 32))) 32 ∷ []; target = 37; complete = true; ends = 37 }
    ∷ record { start = words_t; calls = batch (flat_map framed_message (adding (falling 5 32))) 31 ∷ []; target = 37; complete = false; ends = 5 }
    -- version 7 is pending already, and another operation of it comes, which is refused with 17: version 7 was delivered all the same
    ∷ record { start = waiting_t; calls = map deliver (adding (7 ∷ 6 ∷ [])); target = 7; complete = true; ends = 7 }
    -- version 7 is pending, and need not come again
    ∷ record { start = waiting_t; calls = map deliver (adding (6 ∷ [])); target = 7; complete = false; ends = 7 }
    -- no-ops pass their versions: an id that is there, a group that is not
    ∷ record {
      start = words_t;
      calls = deliver (join_message 8 700 100) ∷ deliver (create_group_message 0 0 7 200) ∷ deliver (add_player_message 6 200) ∷ [];
      target = 8;
      complete = true;
      ends = 8;
    }
    -- between messages that are refused, which count for nothing
    ∷ record { start = words_t; calls = map deliver (refused_messages ++ adding (7 ∷ 7 ∷ 5 ∷ 50 ∷ [])); target = 7; complete = false; ends = 5 }
    ∷ record { start = words_t; calls = map deliver (refused_messages ++ adding (7 ∷ 7 ∷ 5 ∷ 50 ∷ 6 ∷ [])); target = 7; complete = true; ends = 7 }
    -- 33 above the start is not promised: version 38 came while the replica was at 5, and was refused with 15
    ∷ record { start = words_t; calls = map deliver (adding (falling 5 33)); target = 38; complete = true; ends = 37 }
    ∷ []

-- every version above `from` and up to the target is delivered
abbrev pub is_complete : ℕ → ℕ → List Call → Bool
is_complete from target cs = every (λ v. delivers v cs) (falling from (target - from))

abbrev pub holds : Case → Bool
holds c =
    eqb (bit (is_complete (version_of c.start) c.target c.calls)) (bit c.complete)
    && eqb (version_of (replica_left c.start c.calls)) c.ends

-- the statement
abbrev pub CasesHold : Type 0
CasesHold = every holds cases ≡ true
