-- A page: a lent buffer, and the place in it where the next text goes.
use Rattle.std.specs.Prelude.{ℕ, List, length}
use Rattle.show_text.specs.declared.Page.{Page}
use Rattle.show_text.specs.Text.{written, place_after_text}

-- a page with a text put at its place, and the place after it
unfoldable pub with_text : Page → List ℕ → Page
with_text p s = record p { buf = record p.buf { now = written p.buf.now p.at s }; at = place_after_text (length p.buf.now) p.at s }
