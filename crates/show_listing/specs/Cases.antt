-- Worked listings: the paper's own (paper 01, "The listing"; paper 02, A3), of T, then 0xD1 of 100 of version 7 and 0xD0 of 400 of version 6;
-- and one of names with halves of characters (paper 02, A9).
use Rattle.std.specs.Prelude.{◌≡◌, ℕ, List, [], ◌∷◌, ◌++◌, replicate}
use Rattle.lists.specs.Lists.{flat_map}
use Rattle.framing.specs.Frames.{framed_message}
use Rattle.snapshot_bytes.specs.Snapshot.{name_bytes}
use Rattle.demand.specs.Cases.{headed, item, bytes_t, messages_t}
use Rattle.show_text.specs.Text.{ascii}
use Rattle.show_listing.specs.Listing.{listing_of}

abbrev pub input_t : List ℕ
input_t = bytes_t ++ flat_map framed_message messages_t

-- a pair; as many units as a name keeps, the last of them a high half whose other half was cut off; a low half and then a high half
abbrev pub input_names : List ℕ
input_names =
    headed 2 147 100 3 0
    (item 1 0 100 1 ++ (name_bytes (0xD83D ∷ 0xDE00 ∷ [])
    ++ (item 1 0 200 3 ++ (name_bytes (replicate 30 0x61 ++ (0xD83D ∷ []))
    ++ (item 2 1 44 4 ++ name_bytes (0xDE00 ∷ 0xD83D ∷ []))))))

-- the statement: their listings are these
pub record ListingHolds : Type 0 where
  pub paper : listing_of input_t ≡ ascii "version 7 host 0 next 200\nplayer 200 3 0\ngroup 300 4 0\nplayer 400 6 0\n"
  pub characters : listing_of input_names ≡ ascii "version 5 host 100 next 200\nplayer 100 1 1\nplayer 200 3 31\ngroup 300 4 2\n"
