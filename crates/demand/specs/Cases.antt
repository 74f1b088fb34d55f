-- The worked cases of paper 01 that are marked to be proved ("Cases on each side"), all of them in one list: readings, deliveries from
-- the replica of the paper's sheet T, and the snapshot of the fresh replica. Of paper 02 there are two deliveries (A1), batches (A2), and
-- names: the deliveries among those of T, snapshots of both formats, and snapshots that are refused (A3); and groups (A5).
use Rattle.std.specs.Prelude.{◌≡◌, ℕ, Bool, true, false, ◌&&◌, List, [], ◌∷◌, ◌++◌, map, length, drop, replicate, eqb}
use Rattle.refusal.specs.Numbers.{refused}
use Rattle.lists.specs.Lists.{every, bit, eqbs, flat_map}
use Rattle.framing.specs.Frames.{framed_message}
use Rattle.wire_facts.specs.Cases as read
use Rattle.wire_facts.specs.AbsentCases.{older_client}
use Rattle.replica.specs.Cases as delivered
use Rattle.replica.specs.Deliver.{deliver_of}
use Rattle.table_words.specs.Words.{fresh_words}
use Rattle.table_rules.specs.NameTable.{NameTable}
use Rattle.table_rules.specs.Cases.{entry}
use Rattle.snapshot_bytes.specs.Snapshot.{stated_table, snapshot_no}
use Rattle.snapshot.specs.Saved.{loaded_of, saved_buffer}
use Rattle.replay.specs.Replay.{table_after}
use Rattle.batch.specs.declared.AnswerRecord.{AnswerRecord}
use Rattle.batch.specs.Batch.{batch_answer, batch_records}

-- a batch delivered to words, and so many records that all have nines: what it answers, and the numbers of all records after it
pub record BatchCase : Type 0 where
  pub words : List ℕ
  pub bytes : List ℕ
  pub room : ℕ
  pub number : ℕ
  pub count : ℕ
  pub cut : Bool
  pub records : List ℕ

pub data Case : Type 0 where
  reading : read.Case → Case
  delivery : delivered.Case → Case
  batch : BatchCase → Case
  -- a replica's snapshot, written into a buffer of its length
  saving : (words bytes : List ℕ) → Case
  -- the number with which reading refuses a snapshot
  unreadable : (bytes : List ℕ) (number : ℕ) → Case
  -- the replica that bytes are read into delivers as a case says
  from_snapshot : (bytes : List ℕ) → delivered.Case → Case

-- a snapshot of version 5, with its host, the counts of entries and memberships, and what stands behind them
abbrev pub headed : (format size host entries memberships : ℕ) → List ℕ → List ℕ
headed format size host e m rest = 0 ∷ 0 ∷ 0 ∷ size ∷ format ∷ 0 ∷ 0 ∷ 0 ∷ 5 ∷ 0 ∷ 0 ∷ 0 ∷ host ∷ e ∷ m ∷ rest

-- an entry of DNET version 7: kind, the two low bytes of its id, version
abbrev pub item : (kind high low version : ℕ) → List ℕ
item kind high low version = kind ∷ 0 ∷ 0 ∷ high ∷ low ∷ replicate 8 0 ++ (0 ∷ 0 ∷ 0 ∷ version ∷ 0 ∷ 0 ∷ 0 ∷ 7 ∷ [])

abbrev pub member_t : List ℕ
member_t = 0 ∷ 0 ∷ 1 ∷ 44 ∷ 0 ∷ 0 ∷ 0 ∷ 200 ∷ []

-- the bytes of T in format 1, where N is 82, and in format 2, with empty names
abbrev pub plain_t : List ℕ
plain_t = headed 1 82 100 3 1 (item 1 0 100 1 ++ (item 1 0 200 3 ++ (item 2 1 44 4 ++ member_t)))

abbrev pub bytes_t : List ℕ
bytes_t = headed 2 85 100 3 1 (item 1 0 100 1 ++ (0 ∷ item 1 0 200 3 ++ (0 ∷ item 2 1 44 4 ++ (0 ∷ member_t))))

-- one entry, player 100, with these bytes behind its numbers
abbrev pub one_named : (format size : ℕ) → List ℕ → List ℕ
one_named format size name = headed format size 0 1 0 (item 1 0 100 1 ++ name)

-- version 1 with one entry of it, no host, saved: player 100, "Ann"; group 300, "Bob"
abbrev pub saved_one : List ℕ → List ℕ
saved_one named = 0 ∷ 0 ∷ 0 ∷ 39 ∷ 2 ∷ 0 ∷ 0 ∷ 0 ∷ 1 ∷ 0 ∷ 0 ∷ 0 ∷ 0 ∷ 1 ∷ 0 ∷ named

abbrev pub saved_ann : List ℕ
saved_ann = saved_one (item 1 0 100 1 ++ (6 ∷ 0 ∷ 65 ∷ 0 ∷ 110 ∷ 0 ∷ 110 ∷ []))

abbrev pub saved_bob : List ℕ
saved_bob = saved_one (item 2 1 44 1 ++ (6 ∷ 0 ∷ 66 ∷ 0 ∷ 111 ∷ 0 ∷ 98 ∷ []))

-- paper 02, A3: what is refused, and with which number
abbrev pub refusals : List Case
refusals =
    unreadable (one_named 1 32 []) 0
    ∷ unreadable (one_named 2 33 (0 ∷ [])) 0
    ∷ unreadable (one_named 2 39 (6 ∷ 0 ∷ 65 ∷ 0 ∷ 110 ∷ 0 ∷ 110 ∷ [])) 0
    -- another format
    ∷ unreadable (one_named 0 33 (0 ∷ [])) 22
    ∷ unreadable (one_named 3 33 (0 ∷ [])) 22
    -- the entry ends behind the bytes, or before them: no length byte, one too large, one too small, and one that is odd as well
    ∷ unreadable (one_named 2 32 []) 23
    ∷ unreadable (one_named 2 35 (4 ∷ 0 ∷ 65 ∷ [])) 23
    ∷ unreadable (one_named 2 35 (0 ∷ 0 ∷ 65 ∷ [])) 23
    ∷ unreadable (one_named 2 35 (3 ∷ 0 ∷ 65 ∷ [])) 23
    -- an odd length, one over 62, and a unit 0
    ∷ unreadable (one_named 2 36 (3 ∷ 0 ∷ 65 ∷ 0 ∷ [])) 24
    ∷ unreadable (one_named 2 97 (64 ∷ replicate 64 65)) 24
    ∷ unreadable (one_named 2 37 (4 ∷ 0 ∷ 65 ∷ 0 ∷ 0 ∷ [])) 24
    -- 31 units pass
    ∷ unreadable (one_named 2 95 (62 ∷ replicate 62 65)) 0
    ∷ []

-- T and the two messages of the paper's listing (paper 01, "The listing"): 0xD1 of 100 of version 7, then 0xD0 of 400 of version 6
abbrev pub messages_t : List (List ℕ)
messages_t = delivered.destroy_player_message 7 100 ∷ delivered.add_player_message 6 400 ∷ []

-- paper 02, A1: an older client's connect info is read, and is no operation; the same name in 0xD0 is refused as before
abbrev pub deliveries : List delivered.Case
deliveries =
    record { first = older_client; later = []; answer = refused 13 }
    ∷ record { first = read.add_player_case 48 0; later = []; answer = refused 8 }
    ∷ delivered.cases

-- paper 02, A2. The two messages of the listing, framed
abbrev pub framed_t : List ℕ
framed_t = flat_map framed_message messages_t

abbrev pub batch_of_t : (bytes : List ℕ) (room number count : ℕ) (cut : Bool) (records : List ℕ) → BatchCase
batch_of_t s room n k c rs = record { words = delivered.words_t; bytes = s; room = room; number = n; count = k; cut = c; records = rs }

abbrev pub batches : List BatchCase
batches =
    -- the first waits, the second is applied with it; the third record stays
    batch_of_t framed_t 3 0 2 false (0 ∷ 0 ∷ 0 ∷ 0 ∷ 2 ∷ 0 ∷ 9 ∷ 9 ∷ 9 ∷ [])
    -- a tail: of a length word, and of a message. It needs no record
    ∷ batch_of_t (framed_t ++ (0 ∷ 0 ∷ 0 ∷ [])) 2 0 2 true (0 ∷ 0 ∷ 0 ∷ 0 ∷ 2 ∷ 0 ∷ [])
    ∷ batch_of_t (framed_t ++ (0 ∷ 0 ∷ 0 ∷ 2 ∷ 0xD1 ∷ [])) 2 0 2 true (0 ∷ 0 ∷ 0 ∷ 0 ∷ 2 ∷ 0 ∷ [])
    -- a record too few: nothing is delivered and no record touched
    ∷ batch_of_t framed_t 1 29 0 false (9 ∷ 9 ∷ 9 ∷ [])
    -- no message, and no record
    ∷ batch_of_t [] 0 0 0 false []
    -- a message of no bytes, one of a type that is not listed, and then one that is applied
    ∷ batch_of_t (0 ∷ 0 ∷ 0 ∷ 0 ∷ framed_message (0xFF ∷ 0 ∷ 0 ∷ 0 ∷ []) ++ framed_message (delivered.add_player_message 6 400)) 3 0 3 false
    (2 ∷ 0 ∷ 0 ∷ 3 ∷ 0 ∷ 0 ∷ 0 ∷ 1 ∷ 0 ∷ [])
    -- a byte more than a message may have, and then one that is applied
    ∷ batch_of_t (framed_message (replicate 16385 0) ++ framed_message (delivered.add_player_message 6 400)) 2 0 2 false (1 ∷ 0 ∷ 0 ∷ 0 ∷ 1 ∷ 0 ∷ [])
    -- the largest length, and less behind it: a tail
    ∷ batch_of_t (0xFF ∷ 0xFF ∷ 0xFF ∷ 0xFF ∷ delivered.add_player_message 6 400) 1 0 0 true (9 ∷ 9 ∷ 9 ∷ [])
    -- a replica that is not valid (its host is not there), and too few records
    ∷ record {
      words = 5 ∷ 7 ∷ drop 2 delivered.words_t;
      bytes = framed_t;
      room = 1;
      number = 28;
      count = 0;
      cut = false;
      records = 9 ∷ 9 ∷ 9 ∷ [];
    }
    ∷ []

unfoldable pub cases : List Case
cases =
    map reading read.cases
    ++ (map delivery deliveries
    ++ (map batch batches
    ++ (map (from_snapshot bytes_t) deliveries
    ++ (map (from_snapshot plain_t) deliveries
    ++ (refusals
    ++ (saving fresh_words (0 ∷ 0 ∷ 0 ∷ 0x0B ∷ 2 ∷ replicate 10 0)
    ∷ saving delivered.words_t bytes_t
    ∷ saving (deliver_of fresh_words (delivered.named_message 1 100 delivered.ann)).words saved_ann
    ∷ saving (deliver_of fresh_words (delivered.named_group_message 1 300 delivered.bob)).words saved_bob
    ∷ []))))))

abbrev pub nines : AnswerRecord
nines = record { number = 9; passed = 9; noops = 9 }

abbrev pub numbers_in : AnswerRecord → List ℕ
numbers_in r = r.number ∷ r.passed ∷ r.noops ∷ []

abbrev pub batch_holds : BatchCase → Bool
batch_holds c =
    let a = batch_answer c.words c.bytes c.room in
    eqb a.number c.number && (eqb a.count c.count && (eqb (bit a.cut) (bit c.cut)
    && eqbs (flat_map numbers_in (batch_records c.words c.bytes (replicate c.room nines))) c.records))

abbrev pub case_holds : Case → Bool
case_holds (reading c) = read.holds c
case_holds (delivery c) = delivered.case_holds c
case_holds (batch c) = batch_holds c
case_holds (saving l bytes) = eqbs (saved_buffer l (replicate (length bytes) 0xFF)) bytes
case_holds (unreadable bytes n) = eqb (loaded_of bytes).number n
case_holds (from_snapshot bytes c) = delivered.same_answer (delivered.last_answer (loaded_of bytes).words c.first c.later) c.answer

-- the statement: each case is as the paper says
abbrev pub CasesHold : Type 0
CasesHold = every case_holds cases ≡ true

-- the name table that they lead to
abbrev pub table_after_t : NameTable
table_after_t = record {
  version = 7;
  host = 0;
  entries = entry 1 200 3 ∷ entry 2 300 4 ∷ entry 1 400 6 ∷ [];
  memberships = record { group = 300; player = 200 } ∷ [];
}

-- crews regrouped (paper 02, A5): group 300 is destroyed, group 400 created, both players join it, and one leaves
abbrev pub regrouping_t : List (List ℕ)
regrouping_t =
    delivered.destroy_group_message 0 0 6 300
    ∷ delivered.named_group_message 7 400 delivered.bob
    ∷ delivered.join_message 8 400 100
    ∷ delivered.join_message 9 400 200
    ∷ delivered.leave_message 10 400 100
    ∷ []

abbrev pub table_regrouped_t : NameTable
table_regrouped_t = record {
  version = 10;
  host = 100;
  entries = entry 1 100 1 ∷ entry 1 200 3 ∷ record { kind = 2; id = 400; owner = 0; flags = 0; version = 7; dnet = 7; name = delivered.bob } ∷ [];
  memberships = record { group = 400; player = 200 } ∷ [];
}

-- the statement: T is accepted, and the replay of each list of messages leads there; in format 1 it states the same table
pub record ReplayOfT : Type 0 where
  pub accepted : snapshot_no bytes_t ≡ 0
  pub plain : stated_table plain_t ≡ stated_table bytes_t
  pub leads : table_after (stated_table bytes_t) messages_t ≡ table_after_t
  pub regrouped : table_after (stated_table bytes_t) regrouping_t ≡ table_regrouped_t
