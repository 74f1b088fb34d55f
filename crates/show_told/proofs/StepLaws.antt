-- The line of a delivery tells what the delivery makes of the words.
use mathlib.Core.Path.{◌≡◌, refl, ap, sym, ◌∙◌}
use Prim.Native.Nat.{ℕ, ◌+◌}
use native.Mathlib.Omega.{arith}
use mathlib.Core.Bool.{Bool, true, false, cond}
use mathlib.Core.List.{List, [], ◌∷◌, ◌++◌, append_assoc}
use lib.ListN.{length, drop}
use lib.Seq.{drop_at}
use lib.Dec.{eqb}
use Rattle.lists.specs.Lists.{All, eqbs}
use Rattle.byte_words.specs.Bytes.{AllBytes}
use Rattle.wire_field.specs.Fields.{part_of}
use Rattle.wire_field.specs.declared.Fields.{Fields}
use Rattle.wire_read.specs.declared.Message.{Message}
use Rattle.std.specs.Prelude.{Ok, Err}
use Rattle.refusal.specs.declared.Refusal.{Refusal}
use Rattle.refusal.specs.Numbers.{number}
use Rattle.wire_read.specs.Read.{Reading, reading_of}
use Rattle.table_rules.specs.Operations.{no_operation}
use Rattle.operations.specs.Received.{ReadOperation}
use Rattle.operations.specs.Received.{refused_read, operation_said, operation_of, operation_in}
use Rattle.replica.specs.Valid.{valid_of}
use Rattle.replica.specs.Deliver.{Done, refusal, accepted_by, delivered_read, deliver_of}
use Rattle.replica.proofs.ValidLaws.{valid_parts}
use Rattle.replica.proofs.DeliverLaws.{too_late}
use Rattle.replay.specs.Run.{replica_after}
use Rattle.show_text.specs.Text.{ascii, decimal}
use Rattle.show_message.specs.Line.{said_text}
use Rattle.show_trace.specs.Trace.{state_text, refused_answer, answer_text, said_part, delivery_line}
use Rattle.show_told.specs.Told.{lines_from}
use Rattle.show_told.proofs.TellLaws.{NumbersFit, operation_told, said_tells}
use Rattle.show_told.proofs.FitLaws.{ReadFits, reading_fits}

-- what delivery makes of words by what it makes of a message
abbrev delivered_by : List ℕ → ReadOperation → Done
delivered_by l r = cond (valid_of l) (delivered_read l r) (refusal 28 l)

-- ---- what is no operation is refused, and leaves the words

record RefusedWith (l : List ℕ) (d : Done) : Type 0 where
  number : ℕ
  is : d ≡ refusal number l

refused_by : (l : List ℕ) (n : ℕ) → RefusedWith l (delivered_by l (refused_read n))
unfolding delivered_read refusal no_operation
refused_by l n = go (valid_of l) refl (eqb n 0)
  where
    go : (v : Bool) → valid_of l ≡ v → (z : Bool) → RefusedWith l (cond v (cond z (accepted_by l no_operation) (refusal n l)) (refusal 28 l))
    go true h true = record { number = 14; is = sym (too_late l (valid_parts l h) no_operation (omega arith)) }
    go true h false = record { number = n; is = refl }
    go false h z = record { number = 28; is = refl }

refused_words : (l : List ℕ) (n : ℕ) → (delivered_by l (refused_read n)).words ≡ l
unfolding refusal
refused_words l n = ap (λ (d : Done). d.words) (refused_by l n).is

-- ---- what stands in the line behind the place

abbrev behind_place : List ℕ → Reading → Done → List ℕ
behind_place m r d = said_part m r ++ (answer_text d.answer ++ (ascii "; " ++ (state_text d.words ++ ascii "\n")))

refused_told : (m l : List ℕ) (n : Refusal) (k : ℕ) → operation_told (behind_place m (Err n) (refusal k l)) ≡ refused_read 13
unfolding said_part answer_text refused_answer refusal ascii operation_told eqbs
refused_told m l n k = refl

module _ (m : List ℕ) (b : AllBytes m) where
  said_told : (a : Message) (fs : Fields) (d : Done) → reading_of m ≡ Ok (record { message = a; fields = fs }) → NumbersFit a
      → operation_told (behind_place m (Ok (record { message = a; fields = fs })) d) ≡ operation_said (part_of m fs.name) a
  unfolding said_part
  said_told a fs d h f =
      let x : List ℕ = answer_text d.answer ++ (ascii "; " ++ (state_text d.words ++ ascii "\n")) in
      ap operation_told (append_assoc (said_text m a) (ascii ": ") x) ∙ said_tells m x b a fs h f

  read_told : (l : List ℕ) (r : Reading) → reading_of m ≡ r → ReadFits r
      → (delivered_by l (operation_of m r)).words ≡ (delivered_by l (operation_told (behind_place m r (delivered_by l (operation_of m r))))).words
  unfolding operation_of
  read_told l (Err n) h f =
      let t : operation_told (behind_place m (Err n) (delivered_by l (refused_read (number n)))) ≡ refused_read 13 =
      ap (λ (d : Done). operation_told (behind_place m (Err n) d)) (refused_by l (number n)).is ∙ refused_told m l n (refused_by l (number n)).number in
      refused_words l (number n) ∙ sym (ap (λ (r : ReadOperation). (delivered_by l r).words) t ∙ refused_words l 13)
  read_told l (Ok read) h f =
      ap (λ (r : ReadOperation). (delivered_by l r).words) (sym (said_told read.message read.fields (delivered_by l (operation_said (part_of m read.fields.name) read.message)) h f))

-- ---- one line, and lines in turn

abbrev cut_place : ℕ → List ℕ → List ℕ
cut_place place s = drop 2 (drop (length (decimal place)) s)

behind_place_law : (place : ℕ) (m : List ℕ) (d : Done) → cut_place place (delivery_line place m d) ≡ behind_place m (reading_of m) d
unfolding delivery_line ascii
behind_place_law place m d =
    ap (drop 2) (drop_at (decimal place) (ascii ": " ++ behind_place m (reading_of m) d) (length (decimal place)) refl)

line_words : (place : ℕ) (l m : List ℕ) → AllBytes m
    → (deliver_of l m).words ≡ (delivered_by l (operation_told (cut_place place (delivery_line place m (deliver_of l m))))).words
unfolding deliver_of operation_in
line_words place l m b =
    read_told m b l (reading_of m) refl (reading_fits m b)
    ∙ ap (λ (s : List ℕ). (delivered_by l (operation_told s)).words) (sym (behind_place_law place m (delivered_by l (operation_of m (reading_of m)))))

pub step : (place : ℕ) (l m n : List ℕ) → AllBytes m → AllBytes n
    → delivery_line place m (deliver_of l m) ≡ delivery_line place n (deliver_of l n) → (deliver_of l m).words ≡ (deliver_of l n).words
step place l m n a b e =
    line_words place l m a ∙ ap (λ (s : List ℕ). (delivered_by l (operation_told (cut_place place s))).words) e ∙ sym (line_words place l n b)

pub lines : (place : ℕ) (l : List ℕ) (ms ns : List (List ℕ)) → All AllBytes ms → All AllBytes ns
    → lines_from place l ms ≡ lines_from place l ns → replica_after l ms ≡ replica_after l ns
unfolding lines_from replica_after
lines place l [] [] a b e = refl
lines place l [] (n ∷ ns) a b e = absurd (let z : ◌≡◌ {A = ℕ} 0 1 = cc in omega arith)
lines place l (m ∷ ms) [] a b e = absurd (let z : ◌≡◌ {A = ℕ} 0 1 = cc in omega arith)
lines place l (m ∷ ms) (n ∷ ns) a b e =
    let h : delivery_line place m (deliver_of l m) ≡ delivery_line place n (deliver_of l n) = cc in
    let t : lines_from (place + 1) (deliver_of l m).words ms ≡ lines_from (place + 1) (deliver_of l n).words ns = cc in
    let w : (deliver_of l m).words ≡ (deliver_of l n).words = step place l m n a.0 b.0 h in
    lines (place + 1) (deliver_of l m).words ms ns a.1 b.1 (t ∙ ap (λ (k : List ℕ). lines_from (place + 1) k ns) (sym w))
    ∙ ap (λ (k : List ℕ). replica_after k ns) w
