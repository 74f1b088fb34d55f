-- The listing of what the code has read and followed is the listing of the replay.
use mathlib.Core.Path.{◌≡◌, refl, ap, sym, ◌∙◌}
use Prim.Native.Nat.{ℕ, ◌+◌}
use mathlib.Core.Bool.{Bool, true, false, cond, ◌||◌}
use mathlib.Core.List.{List, ◌++◌}
use lib.ListN.{length, take, drop}
use lib.Dec.{ltb, eqb}
use borrow.Author.Tests.{eqb-true, eq-eqb, ne_eqb}
use Rattle.framing.specs.Frames.{length_word, messages_in, is_cut}
use Rattle.table_words.specs.Words.{fresh_words, table_of}
use Rattle.replica.specs.Replica.{pack, at_start}
use Rattle.replica.specs.Valid.{valid_of}
use Rattle.snapshot_bytes.specs.Snapshot.{stated_table, snapshot_no}
use Rattle.snapshot.specs.Saved.{Load, loaded_of, read_of}
use Rattle.snapshot.proofs.LoadLaws.{fresh_long, same_load}
use Rattle.replay.specs.Run.{replica_after}
use Rattle.replay.proofs.TableDemand.{Replayed}
use Rattle.demand.specs.Demand.{snapshot, start_words, start_table}
use Rattle.demand.proofs.DemandProof.{start_is, from_start}
use Rattle.show_listing.specs.Listing.{refused_listing, table_text, cut_line, max_input, snapshot_part, message_part, table_listed, listing_taken, listing_of}

-- ---- the parts that the code cuts are those of the definition

module _ (r s p : List ℕ) (end : ℕ) (e : r ≡ s) (f : end ≡ 4 + length_word r) where
  pub read_is : (l : Load) → p ≡ take end r → l ≡ read_of fresh_words p → l ≡ loaded_of (snapshot_part s)
  read_is l g h = h ∙ same_load fresh_words p fresh_long ∙ ap loaded_of (g ∙ rw (f, e))

  pub back_is : p ≡ drop end r → p ≡ message_part s
  back_is g = g ∙ rw (f, e)

-- ---- over the bytes of a snapshot and the messages

module _ (p : List ℕ) (ms : List (List ℕ)) where
  one : Replayed (start_table (snapshot p)) ms
  one = from_start (snapshot p) ms

  pub listed_valid : valid_of (replica_after (loaded_of p).words ms) ≡ true
  unfolding start_words
  listed_valid = rw (start_is (snapshot p)) one.stays_valid

number_by : (b : Bool) (x y : Load) (n : ℕ) → (b ≡ true → x.number ≡ n) → y.number ≡ n → (cond b x y).number ≡ n
number_by true x y n h g = h refl
number_by false x y n h g = g

loaded_number : (p : List ℕ) → (loaded_of p).number ≡ snapshot_no p
unfolding loaded_of
loaded_number p =
    number_by (eqb (snapshot_no p) 0) (record { number = 0; words = pack (at_start (stated_table p)) })
    (record { number = snapshot_no p; words = fresh_words }) (snapshot_no p) (λ h. sym (eqb-true (snapshot_no p) 0 h)) refl

-- the table of what is read and followed is the replay's
pub listed_table : (s : List ℕ) → snapshot_no (snapshot_part s) ≡ 0
    → table_of (replica_after (loaded_of (snapshot_part s)).words (messages_in (message_part s))) ≡ table_listed s
unfolding table_listed start_words start_table
listed_table s n =
    ap (λ (l : List ℕ). table_of (replica_after l (messages_in (message_part s)))) (start_is (snapshot (snapshot_part s)))
    ∙ (one (snapshot_part s) (messages_in (message_part s))).table_is
    ∙ rw (eq-eqb (snapshot_no (snapshot_part s)) 0 n)

-- ---- the two ways the listing ends

module _ (input : List ℕ) (l : Load) (e : l ≡ loaded_of (snapshot_part (take max_input input))) where
  abbrev taken : List ℕ
  taken = take max_input input

  number_is : l.number ≡ snapshot_no (snapshot_part taken)
  number_is = ap (λ (x : Load). x.number) e ∙ loaded_number (snapshot_part taken)

  pub refused_listing_law : (l.number ≡ 0 → ⊥) → refused_listing l.number ≡ listing_of input
  unfolding listing_of listing_taken
  refused_listing_law h = rw (ne_eqb (snapshot_no (snapshot_part taken)) 0 (λ z. h (number_is ∙ z)), number_is)

  module _ (w q : List ℕ) (followed : w ≡ replica_after l.words (messages_in q)) where
    pub followed_valid : valid_of w ≡ true
    followed_valid = rw (followed, e) (listed_valid (snapshot_part taken) (messages_in q))

    pub accepted_listing : (cut : Bool) → l.number ≡ 0 → q ≡ message_part taken → cut ≡ is_cut q
        → table_text (table_of w) ++ cut_line (ltb max_input (length input) || cut) ≡ listing_of input
    unfolding listing_of listing_taken
    accepted_listing cut z g t =
        let n : snapshot_no (snapshot_part taken) ≡ 0 = sym number_is ∙ z in
        rw (eq-eqb (snapshot_no (snapshot_part taken)) 0 n, followed, e, t, g, listed_table taken n)
