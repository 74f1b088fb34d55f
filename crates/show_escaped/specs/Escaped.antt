-- Bytes and UTF-16 units as text that can be read: what is no plain character stands as its number in hexadecimal.
use Rattle.std.specs.Prelude.{ℕ, zero, suc, ◌/◌, ◌%◌, Bool, cond, not, ◌&&◌, List, [], ◌∷◌, ◌++◌, get_or, eqb, leb}
use Rattle.lists.specs.Lists.{flat_map, without_last}
use Rattle.show_text.specs.Text.{ascii}
use Rattle.wire_text.specs.Text.{units}

-- the last hexadecimal digit of a number, in upper case
unfoldable pub hex_digit : ℕ → ℕ
hex_digit n = get_or (ascii "0123456789ABCDEF") (n % 16) 0

-- the last k of them, the most significant first
abbrev pub hex_digits : ℕ → ℕ → List ℕ
hex_digits zero n = []
hex_digits (suc k) n = hex_digits k (n / 16) ++ (hex_digit n ∷ [])

-- bytes as two digits each
unfoldable pub hex_text : List ℕ → List ℕ
hex_text s = flat_map (hex_digits 2) s

-- a character that stands for itself: printable, and neither " nor \
unfoldable pub is_plain : ℕ → Bool
is_plain n = leb 32 n && (leb n 126 && (not (eqb n 34) && not (eqb n 92)))

-- a character, or what stands for it where it is not plain
unfoldable pub escaped : List ℕ → ℕ → List ℕ
escaped other n = cond (is_plain n) (n ∷ []) other

-- \xHH where it is not plain
unfoldable pub escaped_byte : ℕ → List ℕ
escaped_byte b = escaped (ascii "\\x" ++ hex_digits 2 b) b

-- \uHHHH where it is not plain
unfoldable pub escaped_unit : ℕ → List ℕ
escaped_unit u = escaped (ascii "\\u" ++ hex_digits 4 u) u

abbrev pub quoted : List ℕ → List ℕ
quoted s = ascii "\"" ++ (s ++ ascii "\"")

-- free bytes
unfoldable pub bytes_text : List ℕ → List ℕ
bytes_text s = quoted (flat_map escaped_byte s)

-- UTF-16 units
unfoldable pub quoted_units : List ℕ → List ℕ
quoted_units us = quoted (flat_map escaped_unit us)

-- UTF-16 text, its terminator not shown
unfoldable pub units_text : List ℕ → List ℕ
units_text s = quoted_units (without_last (units s))

-- a URL, its terminator not shown
unfoldable pub url_text : List ℕ → List ℕ
url_text s = bytes_text (without_last s)
