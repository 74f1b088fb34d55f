-- Numbers as bytes, at any width, in both orders (paper 01: "Numbers in messages are little-endian", section 1; "The sheet" is big-endian).
use Rattle.std.specs.Prelude.{◌≡◌, ℕ, zero, suc, ◌+◌, ◌*◌, ◌/◌, ◌%◌, ◌^◌, ◌<◌, cond, List, [], ◌∷◌, ◌++◌, reverse, length, take, drop, leb}
use Rattle.lists.specs.Lists.{All, flat_map}
use Rattle.byte_words.specs.declared.Order.{Order}
use Rattle.byte_words.specs.declared.Order.TheVariants.{Little, Big}

-- the two orders: the lowest byte of a number first, or the highest
abbrev pub little : Order
little = Little

abbrev pub big : Order
big = Big

-- bytes that stand lowest first, put into an order, and as well the way back
abbrev pub ordered : Order → List ℕ → List ℕ
ordered Little bs = bs
ordered Big bs = reverse bs

-- the number that bytes spell, lowest first
abbrev pub spelt : List ℕ → ℕ
spelt [] = 0
spelt (b ∷ bs) = b + 256 * spelt bs

-- the w lowest bytes of a number, lowest first
abbrev pub low_bytes : ℕ → ℕ → List ℕ
low_bytes zero n = []
low_bytes (suc w) n = n % 256 ∷ low_bytes w (n / 256)

-- the number that bytes spell in an order
abbrev pub value_of : Order → List ℕ → ℕ
value_of o bs = spelt (ordered o bs)

-- the w bytes of a number in an order
abbrev pub bytes_of : Order → ℕ → ℕ → List ℕ
bytes_of o w n = ordered o (low_bytes w n)

-- a number of 8 bits, and one of 32
abbrev pub IsByte : ℕ → Type 0
IsByte n = n < 256

abbrev pub IsWord : ℕ → Type 0
IsWord n = n < 256 ^ 4

abbrev pub AllBytes : List ℕ → Type 0
AllBytes bs = All IsByte bs

abbrev pub AllWords : List ℕ → Type 0
AllWords ws = All IsWord ws

-- Numbers of w bytes in an order and back.
pub record EachWidth (o : Order) (w : ℕ) : Type 0 where
  -- a number has w bytes
  pub wide : (n : ℕ) → length (bytes_of o w n) ≡ w
  -- a number that w bytes can hold is what its bytes spell
  pub back : (n : ℕ) → n < 256 ^ w → value_of o (bytes_of o w n) ≡ n
  -- w bytes are the bytes of the number that they spell
  pub again : (bs : List ℕ) → length bs ≡ w → AllBytes bs → bytes_of o w (value_of o bs) ≡ bs

-- the 32-bit word at a place; 0 where no whole word stands there
unfoldable pub word_at : Order → List ℕ → ℕ → ℕ
word_at o s p = cond (leb (p + 4) (length s)) (value_of o (take 4 (drop p s))) 0

-- a list with bs in place of what stood from p on; the list as it was where bs does not fit
unfoldable pub put : List ℕ → ℕ → List ℕ → List ℕ
put s p bs = cond (leb (p + length bs) (length s)) (take p s ++ (bs ++ drop (p + length bs) s)) s

-- 32-bit words, one after another
abbrev pub words : Order → List ℕ → List ℕ
words o = flat_map (bytes_of o 4)
