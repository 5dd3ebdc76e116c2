-- What csv's writer has of a row, field by field.
use Rattle.std.proofs.Common.{◌≡◌, ◌≢◌, ℕ, ◌+◌, ◌-◌, ◌^◌, ◌<◌, Bool, true, false, List, [], ◌∷◌, ◌++◌, length, min}
use Rattle.std.proofs.Common.{refl, sym, ap, subst, ◌∙◌, arith, length-append}
use Rattle.std.proofs.lemmas.Bool.{ne_eqb}
use Rattle.std.specs.Prelude.{◌||◌, ◌&&◌, not, if◌then◌else◌, Option, None, Some, Result, Ok, Err, OnOk, IfOk}
use Rattle.std.specs.Prelude.{MatchResult, is_ok, Vec}
use Rattle.std.specs.{declared.alloc.Global.Global, Io.KnownBytes.Appends, List.AllByRecursion}
use Rattle.csv.specs.Writing as kit
use Rattle.csv.specs.Writing.{default_writer, writer_setup, fields_written, text_written, row_body, next_sep, tail_text}
use Rattle.csv.specs.{declared.writer.Writer.Writer, declared.writer.WriterBuilder.WriterBuilder}
use Rattle.csv.specs.declared.writer.QuoteStyle.TheVariants as style
use Rattle.csv.proofs.WriteFacts.{row-more}
use Rattle.key_rows.specs.{declared.cell.Cell.Cell, Within.cell_text, Export.row_end, Export.csv_row}
use Rattle.key_rows.specs.{Within.IsPrintable, Within.HasFields, Within.written}
use Rattle.key_rows.proofs.CsvRows.{same_row}

-- ---- results

-- two clauses on one result
pub on_ok_both : {T E : Type 0} (P Q : Type 0) (r : Result T E) → OnOk r P → OnOk r Q
    → OnOk r (P × Q)
on_ok_both P Q (Ok x) p q = (p, q)
on_ok_both P Q (Err e) p q = tt

-- what a clause says of another result, which is `Ok` with the first
pub on_ok_of : {T E U F P Q : Type 0} (r : Result T E) (s : Result U F) → is_ok s ≡ is_ok r
    → (P → Q) → OnOk r P → OnOk s Q
on_ok_of (Ok x) (Ok y) same to p = to p
on_ok_of (Err e) (Ok y) same to p = absurd (cc same)
on_ok_of (Ok x) (Err f) same to p = tt
on_ok_of (Err e) (Err f) same to p = tt

pub if_ok_mapped : {T E F : Type 0} (Q : E → Type 0) (P : T → Type 0) (r : Result T E)
    → (s : Result T F) → MatchResult r (λ x. s ≡ Ok x) Q → is_ok s ≡ is_ok r → IfOk r P → IfOk s P
if_ok_mapped Q P (Ok x) s same variant p = subst (λ t. IfOk t P) (sym same) p
if_ok_mapped Q P (Err e) (Ok y) same variant p = absurd (cc variant)
if_ok_mapped Q P (Err e) (Err f) same variant p = tt

-- ---- a writer

-- what holds of all in a list and of one more
all_append : (P : List ℕ → Type 0) (xs : List (List ℕ)) (x : List ℕ) → AllByRecursion P xs → P x
    → AllByRecursion P (xs ++ x ∷ [])
all_append P [] x all one = (one, tt)
all_append P (y ∷ xs) x all one = (all.0, all_append P xs x all.1 one)

appended : (xs ys : List ℕ) (o : Option (List ℕ)) → Appends (Some xs) o ys → o ≡ Some (xs ++ ys)
appended xs ys None more = absurd more
appended xs ys (Some zs) more = ap Some more

-- what is written for one field more
abbrev field_after : WriterBuilder → ℕ → List ℕ → List ℕ
field_after setup count field = next_sep setup count ++ kit.field_text setup field

-- one field more
pub has_more : (old new : Writer (Vec ℕ Global)) (field : List ℕ)
    → ((writer_setup old).style ≢ style.NonNumeric
    → Appends (written old) (written new)
    (field_after (writer_setup old) (fields_written old) field))
    → writer_setup new ≡ writer_setup old
    → fields_written new ≡ min (fields_written old + 1) (2 ^ 64 - 1) → (fields : List (List ℕ))
    → length fields + 1 < 2 ^ 64 → IsPrintable field → HasFields old fields
    → HasFields new (fields ++ field ∷ [])
has_more old new field more same count fields small printable has =
    let body = row_body default_writer fields in
    let plain : (writer_setup old).style ≢ style.NonNumeric =
    subst (λ s. s.style ≢ style.NonNumeric) (sym has.setup) (λ e. cc e) in
    let from = subst (λ t. Appends t (written new)
    (field_after (writer_setup old) (fields_written old) field)) has.text (more plain) in
    let by = subst (λ s. Appends (Some body) (written new)
    (field_after s (fields_written old) field)) has.setup from in
    let at = subst (λ n. Appends (Some body) (written new) (field_after default_writer n field))
    has.count by in
    let all = appended body (field_after default_writer (length fields) field) (written new) at in
    record {
      setup = same ∙ has.setup;
      count = omega (arith, count, has.count, length-append fields (field ∷ []));
      text = all ∙ ap Some (sym (row-more default_writer fields field));
      printable = all_append IsPrintable fields field has.printable printable;
    }

-- a text that was put is the cell that it is the text of
pub cell_put : {T E : Type 0} (r : Result T E) (old new : Writer (Vec ℕ Global)) (cell value : Cell)
    → cell ≡ value → (text : List ℕ) → text ≡ cell_text value → IsPrintable (cell_text value)
    → OnOk r ((fields : List (List ℕ)) → length fields + 1 < 2 ^ 64 → IsPrintable text
    → HasFields old fields → HasFields new (fields ++ text ∷ []))
    → OnOk r ((fields : List (List ℕ)) → length fields + 1 < 2 ^ 64 → HasFields old fields
    → HasFields new (fields ++ cell_text cell ∷ []))
cell_put (Ok x) old new cell value is text same printable put = λ fields small has.
    subst (λ t. HasFields new (fields ++ t ∷ [])) (same ∙ ap cell_text (sym is))
    (put fields small (subst IsPrintable (sym same) printable) has)
cell_put (Err e) old new cell value is text same printable put = tt

-- what ends a row of several fields
ends : (wrote : Bool) (n : ℕ) → 1 < n → tail_text default_writer wrote n ≡ row_end ∷ []
ends wrote n several = rw (ne_eqb n 0 (λ e. omega arith), ne_eqb n 1 (λ e. omega arith)) (by wrote)
  where
    by : (b : Bool)
        → (if not b && (false || false) then 34 ∷ 34 ∷ [] else []) ++ row_end ∷ []
        ≡ row_end ∷ []
    by true = refl
    by false = refl

-- a row that is ended
pub row_ended : (old new : Writer (Vec ℕ Global)) (wrote : Bool)
    → Appends (written old) (written new) (tail_text (writer_setup old) wrote (fields_written old))
    → (fields : List (List ℕ)) → 1 < length fields → HasFields old fields
    → written new ≡ Some (csv_row fields)
row_ended old new wrote more fields several has =
    let body = row_body default_writer fields in
    let from = subst (λ t. Appends t (written new)
    (tail_text (writer_setup old) wrote (fields_written old))) has.text more in
    let by = subst (λ s. Appends (Some body) (written new) (tail_text s wrote (fields_written old)))
    has.setup from in
    let at = subst (λ n. Appends (Some body) (written new) (tail_text default_writer wrote n))
    has.count by in
    let all = appended body (tail_text default_writer wrote (length fields)) (written new) at in
    let ended = ap (λ l. Some (body ++ l)) (ends wrote (length fields) several) in
    all ∙ ended ∙ ap Some (same_row fields several has.printable)
