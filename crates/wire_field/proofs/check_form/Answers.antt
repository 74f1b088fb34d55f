-- `check_form` meets its contract: by cases on the form.
use Rattle.wire_text.specs.Text.{text_check, url_check}
use Rattle.wire_field.proofs.check_form.Goals as goal

pub returns-in-Text : goal.returns-in-Text
unfolding text_check
returns-in-Text c = rw c.in-Text.is c.check_text.ensures

pub returns-in-Url : goal.returns-in-Url
unfolding url_check
returns-in-Url c = rw c.in-Url.is c.check_url.ensures
