-- An input that begins with its header row has rows after it, and no two lists of them; they stand
-- for a list of items, and for no two.
use Rattle.std.proofs.Common.{◌≡◌, ◌⊎◌, inl, inr, ℕ, zero, suc, ◌+◌, ◌≤◌, ◌<◌, nat_le, Bool, true, false, if◌then◌else◌}
use Rattle.std.proofs.Common.{List, [], ◌∷◌, ◌++◌, length, Option, None, Some, refl, sym, ap, subst, ◌∙◌, arith}
use Rattle.std.proofs.lemmas.Bool.{leb-true, leb-false}
use Rattle.std.proofs.lemmas.List.{append-nil}
use Rattle.std.proofs.lemmas.Slice.Eq.{bytes_eq-Decides}
use Rattle.std.specs.Str.{bytes_eq}
use Rattle.csv.specs.Machine.{Read, ends_at_end, field_after, fields_after, is_end, next_record, step}
use Rattle.csv.specs.Reading.{AreRecords, Reached, default_config, strip_bom}
use Rattle.csv.specs.{declared.parser.Config.Config, declared.parser.State.State}
use Rattle.csv.specs.declared.parser.State.TheVariants as states
use Rattle.moment_core.specs.{Moment.IsMoment, Moment.last_second, MomentText.moment_text}
use Rattle.period_core.specs.{declared.key_type.KeyType.KeyType, KeyType.key_type_text}
use Rattle.register_requests.specs.Request.{IsDate, IsRequest, IsReadAs}
use Rattle.register_requests.specs.{declared.request.Request.Request, declared.request.Command.TheVariants.Register}
use Rattle.register_requests.specs.{declared.request.Registration.Registration, Name.IsName, Number.IsNumber}
use Rattle.register_requests.specs.{Number.max_request_number, Purpose.IsPurpose, Within.FieldText.Writes as IsTextOf}
use Rattle.register_requests.proofs.{Texts.IsExact, FieldTexts.key_types, FieldTexts.names, FieldTexts.purposes}
use Rattle.register_report.specs.ImportRows.{AreRowItems, BeginsWithHeader, HasRowItems, HasRows, IsRowItem, IsRowOf}
use Rattle.register_report.specs.ImportRows.{Item, RowTexts, date_field, header}
use Rattle.register_desk.specs.Lives.{AreInRange}
use Rattle.register_report.proofs.RowsLemmas.{same_tail, none_after, one_item, rows_split}

-- ---- what is so, or is not

abbrev Decided : Type 0 → Type 0
Decided P = P ⊎ (P → ⊥)

both : {P Q : Type 0} → Decided P → Decided Q → Decided (P × Q)
both (inl p) (inl q) = inl (p, q)
both (inl p) (inr never) = inr (λ it. never it.1)
both (inr never) q = inr (λ it. never it.0)

is_at_most : (a b : ℕ) → Decided (a ≤ b)
is_at_most a b = by (nat_le a b) refl
  where
    by : (check : Bool) → nat_le a b ≡ check → Decided (a ≤ b)
    by true e = inl (leb-true a b e)
    by false e = inr (λ le. let lt = leb-false a b e in omega (arith, le, lt))

is_same : (xs ys : List ℕ) → Decided (xs ≡ ys)
is_same xs ys = by (bytes_eq xs ys) refl
  where
    by : (check : Bool) → bytes_eq xs ys ≡ check → Decided (xs ≡ ys)
    by true e = inl ((bytes_eq-Decides xs ys).0 e)
    by false e = inr (λ same. absurd (let both = sym e ∙ (bytes_eq-Decides xs ys).1 same in cc))

are_same : (xs ys : RowTexts) → Decided (xs ≡ ys)
are_same [] [] = inl refl
are_same [] (y ∷ ys) = inr (λ same. absurd (cc same))
are_same (x ∷ xs) [] = inr (λ same. absurd (cc same))
are_same (x ∷ xs) (y ∷ ys) = by (both (is_same x y) (are_same xs ys))
  where
    by : Decided ((x ≡ y) × (xs ≡ ys)) → Decided (x ∷ xs ≡ y ∷ ys)
    by (inl same) = inl (ap (λ (z : List ℕ). z ∷ xs) same.0 ∙ ap (λ (zs : RowTexts). y ∷ zs) same.1)
    by (inr never) = inr (λ same. never (cc same, cc same))

-- ---- fields

-- the field writes a value of which P holds
abbrev Writes : {A : Type 0} → (A → List ℕ) → (A → Type 0) → List ℕ → Type 0
Writes {A} text P field = (x : A) × P x × (field ≡ text x)

field_or_none : {A : Type 0} {text : A → List ℕ} {P : A → Type 0} → IsExact (IsTextOf P text) → (field : List ℕ)
    → Decided (Writes text P field)
field_or_none {A} {text} {P} exact field = by (exact.has field)
  where
    by : (o : Option A) × IsReadAs (IsTextOf P text) field o → Decided (Writes text P field)
    by (None, none) = inr (λ it. none it.0 (it.1, it.2))
    by (Some x, is) = inl (x, is.0, is.1)

at_last : (m last : ℕ) → m ≤ suc last → (m ≤ last → ⊥) → m ≡ suc last
at_last m last le above = by (nat_le m last) refl
  where
    by : (check : Bool) → nat_le m last ≡ check → m ≡ suc last
    by true e = absurd (above (leb-true m last e))
    by false e = let lt = leb-false m last e in omega (arith, le, lt)

-- a moment up to a last one
moment_up_to : (last : ℕ) (field : List ℕ)
    → Decided (Writes moment_text (λ (m : ℕ). m ≤ last) field)
moment_up_to zero field = elim (is_same field (moment_text 0)) [
  | inl same ↦ inl (0, omega arith, same)
  | inr other ↦ inr (λ it.
      let first : it.0 ≡ 0 = omega (arith, it.1) in
      other (it.2 ∙ ap moment_text first))
]
moment_up_to (suc last) field = elim (is_same field (moment_text (suc last))) [
  | inl same ↦ inl (suc last, omega arith, same)
  | inr other ↦ elim (moment_up_to last field) [
    | inl found ↦ inl (found.0, omega (arith, found.1), found.2)
    | inr none ↦ inr (λ it. elim (is_at_most it.0 last) [
      | inl below ↦ none (it.0, below, it.2)
      | inr above ↦ other (it.2 ∙ ap moment_text (at_last it.0 last it.1 above))
    ])
  ]
]

date_of_field : (field : List ℕ) → Decided (Writes date_field IsDate field)
date_of_field [] = inl (None, tt, refl)
date_of_field (byte ∷ field) = elim (moment_up_to last_second (byte ∷ field)) [
  | inl found ↦ inl (Some found.0, found.1, found.2)
  | inr none ↦ inr (λ it. no_date none it.0 it.1 it.2)
]
  where
    no_date : (Writes moment_text IsMoment (byte ∷ field) → ⊥) → (date : Option ℕ) → IsDate date
        → byte ∷ field ≡ date_field date → ⊥
    no_date none None in_range e = absurd cc
    no_date none (Some m) in_range e = none (m, in_range, e)

-- ---- rows

-- a request may have this moment, caller and number
record MayHave (moment : ℕ) (caller : List ℕ) (number : ℕ) : Type 0 where
  moment_is : IsMoment moment
  caller_is : IsName caller
  number_is : IsNumber number

is_name : (bytes : List ℕ) → Decided (IsName bytes)
is_name bytes = elim (field_or_none names.exact bytes) [
  | inl found ↦ inl (subst IsName (sym found.2) found.1)
  | inr none ↦ inr (λ name. none (bytes, name, refl))
]

is_number : (n : ℕ) → Decided (IsNumber n)
is_number n = elim (both (is_at_most 1 n) (is_at_most n max_request_number)) [
  | inl it ↦ inl (it.0, it.1)
  | inr never ↦ inr (λ number. never (number.0, number.1))
]

may_have : (moment : ℕ) (caller : List ℕ) (number : ℕ) → Decided (MayHave moment caller number)
may_have moment caller number =
    elim (both (is_at_most moment last_second) (both (is_name caller) (is_number number))) [
      | inl it ↦ inl (record { moment_is = it.0; caller_is = it.1.0; number_is = it.1.1 })
      | inr never ↦ inr (λ may. never (may.moment_is, (may.caller_is, may.number_is)))
    ]

abbrev AnyType : KeyType → Type 0
AnyType kind = Unit {0}

abbrev as_it_is : List ℕ → List ℕ
as_it_is bytes = bytes

-- what the six fields of a row write
record RowParts (moment : ℕ) (caller : List ℕ) (number : ℕ) (u v w x y z : List ℕ) : Type 0 where
  pub may : MayHave moment caller number
  pub kind : Writes key_type_text AnyType u
  pub owner : Writes as_it_is IsName v
  pub activation : Writes date_field IsDate w
  pub protect_stop : Writes date_field IsDate x
  pub deactivation : Writes date_field IsDate y
  pub purpose : Writes as_it_is IsPurpose z

module _ (moment : ℕ) (caller : List ℕ) (number : ℕ) where
  abbrev HasItem : RowTexts → Type 0
  HasItem fields = (item : Item) × IsRowItem moment caller number fields item

  module _ (u v w x y z : List ℕ) where
    abbrev the_row : RowTexts
    the_row = u ∷ v ∷ w ∷ x ∷ y ∷ z ∷ []

    parts_in : Decided (RowParts moment caller number u v w x y z)
    parts_in =
        let dates =
        both (date_of_field w) (both (date_of_field x) (both (date_of_field y) (field_or_none purposes z))) in
        let all = both (field_or_none key_types.exact u) (both (field_or_none names.exact v) dates) in
        elim (both (may_have moment caller number) all) [
          | inl it ↦ inl (record {
            may = it.0;
            kind = it.1.0;
            owner = it.1.1.0;
            activation = it.1.1.1.0;
            protect_stop = it.1.1.1.1.0;
            deactivation = it.1.1.1.1.1.0;
            purpose = it.1.1.1.1.1.1;
          })
          | inr never ↦ inr (λ parts. never (
            parts.may,
            (parts.kind, (parts.owner, (parts.activation, (parts.protect_stop, (parts.deactivation, parts.purpose))))),
          ))
        ]

    parts_of : (q : Request) → IsRowOf moment caller number the_row q
        → RowParts moment caller number u v w x y z
    parts_of q of =
        let ranges = subst IsRequest of.is of.in_range in
        let same = of.fields_are in
        record {
          may = record {
            moment_is = ranges.moment;
            caller_is = ranges.caller;
            number_is = ranges.number;
          };
          kind = (of.given.kind, tt, cc);
          owner = (of.given.owner, ranges.command.0, cc);
          activation = (of.given.activation, ranges.command.1, cc);
          protect_stop = (of.given.protect_stop, ranges.command.2, cc);
          deactivation = (of.given.deactivation, ranges.command.3, cc);
          purpose = (of.given.purpose, ranges.command.4, cc);
        }

    of_parts : RowParts moment caller number u v w x y z → HasItem the_row
    of_parts parts =
        let given : Registration = record {
          kind = parts.kind.0;
          owner = parts.owner.0;
          activation = parts.activation.0;
          protect_stop = parts.protect_stop.0;
          deactivation = parts.deactivation.0;
          purpose = parts.purpose.0;
        } in (
          Some (record { moment = moment; caller = caller; number = number; command = Register given }),
          record {
            given = given;
            is = refl;
            in_range = record {
              moment = parts.may.moment_is;
              caller = parts.may.caller_is;
              number = parts.may.number_is;
              command = (
                parts.owner.1,
                parts.activation.1,
                parts.protect_stop.1,
                parts.deactivation.1,
                parts.purpose.1,
              );
            };
            fields_are =
                let a = parts.kind.2 in let b = parts.owner.2 in let c = parts.activation.2 in
                let d = parts.protect_stop.2 in let e = parts.deactivation.2 in
                let f = parts.purpose.2 in cc;
          },
        )

    fields_of_row : HasItem the_row
    fields_of_row = elim parts_in [
      | inl parts ↦ of_parts parts
      | inr none ↦ (None, λ q of. none (parts_of q of))
    ]

  item_of : (fields : RowTexts) → HasItem fields
  item_of (u ∷ v ∷ w ∷ x ∷ y ∷ z ∷ []) = fields_of_row u v w x y z
  item_of [] = (None, λ q of. let same = of.fields_are in absurd cc)
  item_of (u ∷ []) = (None, λ q of. let same = of.fields_are in absurd cc)
  item_of (u ∷ v ∷ []) = (None, λ q of. let same = of.fields_are in absurd cc)
  item_of (u ∷ v ∷ w ∷ []) = (None, λ q of. let same = of.fields_are in absurd cc)
  item_of (u ∷ v ∷ w ∷ x ∷ []) = (None, λ q of. let same = of.fields_are in absurd cc)
  item_of (u ∷ v ∷ w ∷ x ∷ y ∷ []) = (None, λ q of. let same = of.fields_are in absurd cc)
  item_of (u ∷ v ∷ w ∷ x ∷ y ∷ z ∷ t ∷ more) = (None, λ q of. let same = of.fields_are in absurd cc)

items_of : (moment : ℕ) (caller : List ℕ) (number : ℕ) (rows : List RowTexts)
    → (items : List Item) × AreRowItems moment caller number rows items
items_of moment caller number [] = ([], tt)
items_of moment caller number (row ∷ rows) =
    let one = item_of moment caller number row in
    let more = items_of moment caller (number + 1) rows in
    (one.0 ∷ more.0, (one.1, more.1))

-- ---- records

-- a record that is read leaves fewer bytes, or ends with the last of them
record Leaves (bytes : List ℕ) (read : Read) : Type 0 where
  fewer_or_none : (length read.2 < length bytes) ⊎ ((read.1 ≡ states.StartRecord) × (read.2 ≡ []))

leaves : (cfg : Config) (s : State) (fields : RowTexts) (field bytes : List ℕ) (read : Read)
    → next_record cfg s fields field bytes ≡ Some read → Leaves bytes read
unfolding next_record
leaves cfg s fields field [] read e = at_end (ends_at_end s) e
  where
    at_end : (b : Bool)
        → (if b then Some (fields ++ (field ∷ []), states.StartRecord, []) else None) ≡ Some read
        → Leaves [] read
    at_end true e =
        let same : (fields ++ (field ∷ []), states.StartRecord, []) ≡ read = cc in
        record {
          fewer_or_none =
              inr (ap (λ (r : Read). r.1) (sym same), ap (λ (r : Read). r.2) (sym same));
        }
    at_end false e = absurd cc
leaves cfg s fields field (byte ∷ bytes) read e =
    after (is_end (step cfg s byte).1) (λ later. leaves cfg (step cfg s byte).0
    (fields_after (step cfg s byte).1 fields field) (field_after (step cfg s byte).1 byte field)
    bytes read later) e
  where
    after : (b : Bool)
        → (next_record cfg (step cfg s byte).0 (fields_after (step cfg s byte).1 fields field)
        (field_after (step cfg s byte).1 byte field) bytes ≡ Some read → Leaves bytes read)
        → (if b then Some (fields_after (step cfg s byte).1 fields field, (step cfg s byte).0, bytes)
        else next_record cfg (step cfg s byte).0 (fields_after (step cfg s byte).1 fields field)
        (field_after (step cfg s byte).1 byte field) bytes) ≡ Some read
        → Leaves (byte ∷ bytes) read
    after true later e =
        let same : (fields_after (step cfg s byte).1 fields field, (step cfg s byte).0, bytes) ≡ read = cc in
        let left : bytes ≡ read.2 = ap (λ (r : Read). r.2) same in
        record { fewer_or_none = inl (omega (arith, ap length left)) }
    after false later e =
        elim (later e).fewer_or_none [
          | inl fewer ↦ record { fewer_or_none = inl (omega (arith, fewer)) }
          | inr none ↦ record { fewer_or_none = inr none }
        ]

abbrev HasRecords : State → List ℕ → Type 0
HasRecords s bytes = (rows : List RowTexts) × AreRecords default_config s bytes rows

-- the records after one that leaves fewer bytes, and so all of them
with_first : (s : State) (bytes : List ℕ)
    → ((read : Read) → length read.2 < length bytes → HasRecords read.1 read.2)
    → HasRecords s bytes
unfolding Reached next_record
with_first s bytes after = by (next_record default_config s [] [] bytes) refl
  where
    by : (o : Option Read) → next_record default_config s [] [] bytes ≡ o → HasRecords s bytes
    by None e = ([], (s, bytes, (refl, refl), e))
    by (Some read) e = elim (leaves default_config s [] [] bytes read e).fewer_or_none [
      | inl fewer ↦
          let rest = after read fewer in
          (read.0 ∷ rest.0, (rest.1.0, rest.1.1, (read, e, refl, rest.1.2), rest.1.3))
      | inr none ↦
          let last : next_record default_config read.1 [] [] read.2 ≡ None = rw (none.0, none.1) refl in
          (read.0 ∷ [], (read.1, read.2, (read, e, refl, (refl, refl)), last))
    ]

records_of : (most : ℕ) (s : State) (bytes : List ℕ) → length bytes ≤ most → HasRecords s bytes
records_of zero s bytes le = with_first s bytes (λ read fewer. absurd (omega (arith, le, fewer)))
records_of (suc most) s bytes le =
    with_first s bytes (λ read fewer. records_of most read.1 read.2 (omega (arith, le, fewer)))

-- ---- the input

rows_in : (bytes : List ℕ) → BeginsWithHeader bytes → (rows : List RowTexts) × HasRows bytes rows
unfolding Reached
rows_in bytes begins =
    let p = begins.reached in
    let more = records_of (length p.0.2) p.0.1 p.0.2 (omega arith) in
    (more.0, (more.1.0, more.1.1, (p.0, p.1, p.2, more.1.2), more.1.3))

-- an input begins with its header row, or does not
pub has_header : (bytes : List ℕ) → BeginsWithHeader bytes ⊎ (BeginsWithHeader bytes → ⊥)
unfolding Reached
has_header bytes = by (next_record default_config states.StartRecord [] [] (strip_bom bytes)) refl
  where
    by : (o : Option Read) → next_record default_config states.StartRecord [] [] (strip_bom bytes) ≡ o
        → Decided (BeginsWithHeader bytes)
    by None e = inr (λ begins. absurd (let p = begins.reached in let both = sym e ∙ p.1 in cc))
    by (Some read) e = elim (are_same header read.0) [
      | inl same ↦ inl (record { state = read.1; left = read.2; reached = (read, e, same, (refl, refl)) })
      | inr other ↦ inr (λ begins. absurd (
          let p = begins.reached in
          let one : read ≡ p.0 = let both = sym e ∙ p.1 in cc in
          other (p.2 ∙ ap (λ (r : Read). r.0) (sym one))))
    ]

-- items of rows are in their ranges
pub rows_in_range : (moment : ℕ) (caller : List ℕ) (number : ℕ) (rows : List RowTexts) (items : List Item)
    → AreRowItems moment caller number rows items → AreInRange items
rows_in_range moment caller number [] [] each = tt
rows_in_range moment caller number [] (item ∷ items) each = absurd each
rows_in_range moment caller number (row ∷ rows) [] each = absurd each
rows_in_range moment caller number (row ∷ rows) (None ∷ items) each =
    (tt, rows_in_range moment caller (number + 1) rows items each.1)
rows_in_range moment caller number (row ∷ rows) (Some q ∷ items) each =
    (each.0.in_range, rows_in_range moment caller (number + 1) rows items each.1)

pub table_in : (moment : ℕ) (caller : List ℕ) (first : ℕ) (bytes : List ℕ)
    → BeginsWithHeader bytes
    → (items : List Item) × HasRowItems moment caller first bytes items
table_in moment caller first bytes begins =
    let rows = rows_in bytes begins in
    let items = items_of moment caller first rows.0 in
    (items.0, record { rows = rows.0; has = rows.1; each = items.1 })

pub same_rows : (bytes : List ℕ) (rows others : List RowTexts) → HasRows bytes rows
    → HasRows bytes others → rows ≡ others
same_rows bytes rows others a b =
    let split = rows_split default_config states.StartRecord a.0 (strip_bom bytes) a.1
    (header ∷ rows) (header ∷ others) a.2 b in
    let none = none_after a.0 a.1 split.more a.3 split.after in
    let tail = same_tail header header others (rows ++ split.more) split.parts in
    sym (tail ∙ ap (λ (more : List RowTexts). rows ++ more) none ∙ append-nil rows)

same_items : (moment : ℕ) (caller : List ℕ) (number : ℕ) (rows : List RowTexts)
    → (items others : List Item) → AreRowItems moment caller number rows items
    → AreRowItems moment caller number rows others → items ≡ others
same_items moment caller number [] [] [] a b = refl
same_items moment caller number [] (i ∷ items) others a b = absurd a
same_items moment caller number [] [] (j ∷ others) a b = absurd b
same_items moment caller number (row ∷ rows) [] others a b = absurd a
same_items moment caller number (row ∷ rows) (i ∷ items) [] a b = absurd b
same_items moment caller number (row ∷ rows) (i ∷ items) (j ∷ others) a b =
    ap (λ (k : Item). k ∷ items) (one_item moment caller number row i j a.0 b.0)
    ∙ ap (λ (more : List Item). j ∷ more)
    (same_items moment caller (number + 1) rows items others a.1 b.1)

pub same_table : (moment : ℕ) (caller : List ℕ) (first : ℕ) (bytes : List ℕ)
    → (items others : List Item) → HasRowItems moment caller first bytes items
    → HasRowItems moment caller first bytes others → items ≡ others
same_table moment caller first bytes items others a b =
    let rows = same_rows bytes a.rows b.rows a.has b.has in
    same_items moment caller first b.rows items others
    (subst (λ (all : List RowTexts). AreRowItems moment caller first all items) rows a.each) b.each
