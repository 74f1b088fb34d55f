-- What the two forms of 0xC1 say to the writer (paper 01): by whether its DNET version means the plain one.
use Rattle.std.specs.Prelude.{Bool, true, false}
use Rattle.wire_layout.specs.Layout.{plain_connect_info, extended_connect_info}
use Rattle.wire_draft.specs.Draft.{first_offset}
use Rattle.wire_write.specs.declared.ConnectForm.{ConnectForm}

abbrev pub form_by : Bool → ConnectForm
form_by true = record { first = record { 0 = first_offset plain_connect_info }; tail = 8 }
form_by false = record { first = record { 0 = first_offset extended_connect_info }; tail = 10 }
