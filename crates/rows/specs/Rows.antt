-- Words in rows of equal width: words put over others, rows taken out and put in, the places of rows.
use Rattle.std.specs.Prelude.{ℕ, zero, suc, ◌+◌, ◌-◌, ◌*◌, ◌%◌, ◌<◌, Bool, cond, ◌≡◌, ◌&&◌, List, [], ◌∷◌, ◌++◌, length, map, take, drop, get_or, replicate, eqb}
use Rattle.std.specs.declared.slice.ChunksExact.{ChunksExact}
use Rattle.std.specs.Slice.Iter.{chunks_exact_rest, chunks_exact_size, chunks_exact_steps}
use Rattle.std.specs.Iterator.{AlwaysYields}
use Rattle.std.specs.Iterator.Runs.{EveryRun, IsChunksExactRun}
use Rattle.lists.specs.Lists.{pad, flat_map}

-- words over those from a place on
abbrev pub put_words : List ℕ → ℕ → List ℕ → List ℕ
put_words l at xs = take at l ++ xs ++ drop (at + length xs) l

-- n words from one place over those at another
abbrev pub moved : List ℕ → ℕ → ℕ → ℕ → List ℕ
moved l to from n = take to l ++ take n (drop from l) ++ drop (to + n) l

-- words taken out, and zeros at the end
abbrev pub closed : List ℕ → ℕ → ℕ → List ℕ
closed l at gap = take at l ++ drop (at + gap) l ++ replicate gap 0

-- a row put in, and as many words fall off at the end
abbrev pub opened : List ℕ → ℕ → List ℕ → List ℕ
opened l at row = take at l ++ row ++ take (length l - (at + length row)) (drop at l)

-- for each of k rows of w words, what stands from its first word on
unfoldable pub places : ℕ → ℕ → List ℕ → List (List ℕ)
places w zero l = []
places w (suc k) l = l ∷ places w k (drop w l)

-- the words of each of them
abbrev pub cut : ℕ → ℕ → List ℕ → List (List ℕ)
cut w k l = map (take w) (places w k l)

-- the iterator gives the words of each row, in order
pub record Gives (it : ChunksExact ℕ) (w k : ℕ) (l : List ℕ) : Type 0 where
  pub rows : AlwaysYields (chunks_exact_steps {A = ℕ}) (λ x. x.now) it (cut w k l)
  pub size : chunks_exact_size it ≡ w

-- what comes of such an iterator has its size
abbrev pub OfOneSize : Type 0
OfOneSize = EveryRun (chunks_exact_steps {A = ℕ}) (λ p. 0 < chunks_exact_size p.from → IsChunksExactRun p (chunks_exact_size p.from) (chunks_exact_rest p.from))

-- the word of a row in a column
abbrev pub word_in : ℕ → List ℕ → ℕ
word_in c r = get_or r c 0

abbrev pub word_is : ℕ → ℕ → List ℕ → Bool
word_is c x r = eqb (word_in c r) x

-- a in one column and b in another
abbrev pub words_are : ℕ → ℕ → ℕ → ℕ → List ℕ → Bool
words_are c a d b r = eqb (word_in c r) a && eqb (word_in d r) b

abbrev pub is_zero : ℕ → Bool
is_zero x = eqb x 0

-- rows in n words, zeros behind them
abbrev pub packed : {A : Type 0} → (A → List ℕ) → ℕ → List A → List ℕ
packed f n xs = pad n 0 (flat_map f xs)

-- the words of the rows that do not pass, of k rows
unfoldable pub kept_words : (List ℕ → Bool) → ℕ → ℕ → List ℕ → List ℕ
kept_words t w zero l = []
kept_words t w (suc k) l = cond (t l) (kept_words t w k (drop w l)) (take w l ++ kept_words t w k (drop w l))

-- those at the front, zeros behind them up to the last of the k rows
unfoldable pub taken_out : (List ℕ → Bool) → ℕ → ℕ → List ℕ → List ℕ
taken_out t w k l = kept_words t w k l ++ (replicate (w * k - length (kept_words t w k l)) 0 ++ drop (w * k) l)

abbrev pub hint_count : ℕ
hint_count = 256

-- the place of a number among the hints
abbrev pub slot_of : ℕ → ℕ
slot_of x = x % hint_count

-- what the hints say of a number
unfoldable pub hint_for : List ℕ → ℕ → ℕ
hint_for hints x = get_or hints (slot_of x) 0
