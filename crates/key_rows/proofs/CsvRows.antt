-- The rows that csv's writer writes are those of an export.
use Rattle.std.proofs.Common.{◌≡◌, ℕ, ◌<◌, Bool, true, false, List, [], ◌∷◌, ◌++◌, length, refl, ap, ◌∙◌, arith}
use Rattle.std.proofs.lemmas.Bool.{and_parts, eqb-true}
use Rattle.std.proofs.lemmas.Bool.Decides.{nat_tests}
use Rattle.std.proofs.lemmas.List.{append-nil}
use Rattle.std.specs.Prelude.{◌==◌, ◌||◌, nat_le, if◌then◌else◌, flat_map, map}
use Rattle.std.specs.List.{list_any, list_all, join_with_byte, AllByRecursion}
use Rattle.csv.specs.Writing as kit
use Rattle.csv.specs.Writing.{default_writer, escaped, fields_text, needs_byte}
use Rattle.key_rows.specs.Export.{comma, quote, row_end, doubled, field_text, csv_row}
use Rattle.key_rows.specs.Within.{IsPrintable}

-- ---- a field

is_mark : ℕ → Bool
is_mark b = (b == comma) || (b == quote)

-- a printable byte that the kit quotes for is a comma or a quote
same_byte : (b : ℕ) → nat_le 32 b ≡ true → needs_byte default_writer b ≡ is_mark b
unfolding is_mark
same_byte b high = grind (arith, nat_tests)

same_marks : (field : List ℕ) → IsPrintable field
    → list_any (needs_byte default_writer) field ≡ list_any is_mark field
same_marks [] printable = refl
same_marks (b ∷ field) printable =
    let both = and_parts (nat_le 32 b) (list_all (nat_le 32) field) printable in
    ap (λ (x : Bool). x || list_any (needs_byte default_writer) field) (same_byte b both.0)
    ∙ ap (λ (x : Bool). is_mark b || x) (same_marks field both.1)

same_escapes : (field : List ℕ) → escaped default_writer field ≡ flat_map doubled field
unfolding escaped
same_escapes [] = refl
same_escapes (b ∷ field) = by (b == quote) refl (same_escapes field)
  where
    by : (x : Bool) → (b == quote) ≡ x → escaped default_writer field ≡ flat_map doubled field
        → (if x then quote ∷ b ∷ escaped default_writer field else b ∷ escaped default_writer field)
        ≡ (if x then quote ∷ quote ∷ [] else b ∷ []) ++ flat_map doubled field
    by true is rest =
        ap (λ c. quote ∷ c ∷ escaped default_writer field) (eqb-true b quote is)
        ∙ ap (λ l. quote ∷ quote ∷ l) rest
    by false is rest = ap (λ l. b ∷ l) rest

same_field : (field : List ℕ) → IsPrintable field
    → kit.field_text default_writer field ≡ field_text field
unfolding is_mark
same_field field printable =
    ap (λ (x : Bool). if x then quote ∷ (escaped default_writer field ++ quote ∷ []) else field)
    (same_marks field printable)
    ∙ ap (λ l. if list_any is_mark field then quote ∷ (l ++ quote ∷ []) else field)
    (same_escapes field)

-- ---- a row

same_fields : (field : List ℕ) (fields : List (List ℕ))
    → AllByRecursion IsPrintable (field ∷ fields)
    → kit.field_text default_writer field ++ fields_text default_writer fields
    ≡ join_with_byte comma (map field_text (field ∷ fields))
unfolding fields_text
same_fields field [] printable =
    append-nil (kit.field_text default_writer field) ∙ same_field field printable.0
same_fields field (next ∷ fields) printable =
    ap
    (λ l. l
    ++ (comma ∷ (kit.field_text default_writer next ++ fields_text default_writer fields)))
    (same_field field printable.0)
    ∙ ap (λ l. field_text field ++ (comma ∷ l)) (same_fields next fields printable.1)

pub same_row : (fields : List (List ℕ)) → 1 < length fields → AllByRecursion IsPrintable fields
    → kit.row_body default_writer fields ++ row_end ∷ [] ≡ csv_row fields
same_row [] some printable = absurd (omega arith)
same_row (field ∷ fields) some printable =
    ap (λ l. l ++ row_end ∷ []) (same_fields field fields printable)
