-- What a hole with a width writes.
use Rattle.std.proofs.Common.{◌≡◌, ℕ, zero, suc, ◌-◌, ◌^◌, Bool, true, false, List, [], ◌∷◌, ◌++◌, length, refl, ap}
use Rattle.std.proofs.Common.{◌∙◌, append_assoc, arith}
use Rattle.std.proofs.lemmas.List.{append-nil}
use Rattle.std.specs.Fmt.{styled_decimal, styled_text, format_spec, padded_integral, padded, char_count, take_chars}
use Rattle.std.specs.{Prelude.decimal, Prelude.codes, Prelude.if◌then◌else◌, List.repeat}
use Rattle.period_core.specs.{declared.key_type.KeyType.KeyType, KeyType.key_type_text}
use Rattle.period_core.proofs.Types.{of_each_type}
use Rattle.lifecycle_core.specs.State.{is_reached_at}
use Rattle.key_rows.specs.Report.{left, right, spaces, report_mark, report_line}
use Rattle.key_rows.specs.{declared.key_row.KeyRow.KeyRow, Export.date_cell_text}

-- a hole that is filled up to a width, from the left or from the right
abbrev to_left : ℕ → List ℕ → List ℕ
to_left width text = styled_text (format_spec 32 1 0 width (2 ^ 64 - 1)) text

abbrev to_right : ℕ → ℕ → List ℕ
to_right width n = styled_decimal (format_spec 32 3 0 width (2 ^ 64 - 1)) n

repeated : (n : ℕ) → repeat n (32 ∷ []) ≡ spaces n
repeated zero = refl
repeated (suc n) = ap (λ (l : List ℕ). 32 ∷ l) (repeated n)

pub number_right : (n : ℕ) → to_right 7 n ≡ right 7 (decimal n)
unfolding padded_integral char_count lib.Utf8.encode
number_right n =
    let p = 7 - length (decimal n) - 0 - 0 in
    let none : p - p ≡ 0 = omega arith in
    let all : p ≡ 7 - length (decimal n) = omega arith in
    let prefix = append-nil _ ∙ append-nil _ ∙ append-nil _ ∙ repeated p ∙ ap spaces all in
    ap (λ (k : ℕ). (repeat p (32 ∷ []) ++ [] ++ [] ++ []) ++ (decimal n ++ repeat k (32 ∷ []))) none
    ∙ ap (λ (l : List ℕ). l ++ (decimal n ++ [])) prefix
    ∙ ap (λ (l : List ℕ). spaces (7 - length (decimal n)) ++ l) (append-nil (decimal n))

abbrev due_mark : Bool → Bool → List ℕ
due_mark overdue due = if overdue then codes "overdue" else if due then codes "due" else codes "long"

pub mark_left : (overdue due : Bool) → to_left 7 (due_mark overdue due) ≡ left 7 (due_mark overdue due)
unfolding padded char_count take_chars lib.Utf8.encode
mark_left true due = refl
mark_left false true = refl
mark_left false false = refl

pub kind_left : (kind : KeyType) → to_left 22 (key_type_text kind) ≡ left 22 (key_type_text kind)
unfolding padded char_count take_chars lib.Utf8.encode
kind_left =
    of_each_type (λ kind. to_left 22 (key_type_text kind) ≡ left 22 (key_type_text kind)) refl refl refl refl refl
    refl refl

-- a line, as one `format!` writes it
abbrev pub formatted : ℕ → ℕ → KeyRow → List ℕ
formatted latest until r =
    to_right 7 r.number ++ (codes "  " ++ (date_cell_text r.row.dates.protect_stop ++ (codes "  "
    ++ (to_left 7 (report_mark latest until r)
    ++ (codes "  " ++ (to_left 22 (key_type_text r.kind) ++ (codes "  "
    ++ (r.owner ++ (codes "  " ++ (r.purpose ++ codes "\n"))))))))))

pub line_text : (latest until : ℕ) (r : KeyRow) → formatted latest until r ≡ report_line latest until r
unfolding report_line
line_text latest until r =
    let overdue = is_reached_at r.row.dates.protect_stop latest in
    let due = is_reached_at r.row.dates.protect_stop until in
    rw (number_right r.number, mark_left overdue due, kind_left r.kind) (simp append_assoc)
