-- Fields of a command, commands and requests: no bytes are the text of two, and it is decided of which they are.
use Rattle.std.proofs.Common.{◌≡◌, ℕ, nat_le, ◌≤◌, Bool, true, false, List, [], ◌∷◌, ◌++◌, length, drop}
use Rattle.std.proofs.Common.{Option, Some, None, refl, sym, ap, subst, ◌∙◌, arith, inl, inr, ◌&&◌, ◌↔◌, IsSome, IfSome}
use Rattle.std.proofs.lemmas.Bool.{and_parts, leb-true, leb-false}
use Rattle.std.proofs.lemmas.List.{append-nil}
use Rattle.std.specs.Prelude.{codes, decimal, ◌⊎◌}
use Rattle.period_core.specs.Period.{Period, IsPeriod, of_months, max_months}
use Rattle.period_core.specs.{KeyType.key_type_text, declared.key_type.KeyType.KeyType}
use Rattle.lifecycle_core.specs.{declared.reason.Reason.Reason, Reason.is_compromise}
use Rattle.register_requests.specs.declared.command_fields.Fields.TheVariants.{Nothing, Key, KeyAndName}
use Rattle.register_requests.specs.declared.command_fields.Fields.TheVariants.{KeyAndNeed, TypeAndPeriod, Registration}
use Rattle.register_requests.specs.declared.command_fields.Fields.TheVariants.{DateEdits, Revocation}
use Rattle.register_requests.specs.CommandKind.{command_kind_text, command_shape, kind_of}
use Rattle.register_requests.specs.Fields.{command_with, fields_of, shape_of}
use Rattle.register_requests.specs.Request.{IsDate, IsEdit, IsKeyNumber, IsLineOf, IsItem, IsRequest, IsReadAs}
use Rattle.register_requests.specs.Request.{argument_texts, command_text, date_text, edit_text, request_text, spaced}
use Rattle.register_requests.specs.Within.FieldText.{Writes, IsAny, itself, IsShort, reason_text, period_text}
use Rattle.register_requests.specs.Within.FieldText.{HasNoSpace, AreSplit, AreFieldsOf, after_word}
use Rattle.register_requests.specs.{declared.request.Edit.Edit, declared.request.Request.Request}
use Rattle.register_requests.specs.{declared.request.Command.Command, declared.command_fields.CommandKind.CommandKind}
use Rattle.register_requests.specs.{declared.command_fields.Fields.Fields, declared.command_fields.Shape.Shape}
use Rattle.register_requests.specs.{Within.Fields.command_of, CommandText.IsCommandText, Name.IsName, Number.IsNumber}
use Rattle.register_requests.specs.{Purpose.IsPurpose, Quorum.IsQuorum}
use Rattle.register_requests.specs.declared.command_fields.Shape.TheVariants as shapes
use Rattle.moment_core.specs.Moment.{IsMoment}
use Rattle.register_requests.proofs.Texts.{IsExact, IsFieldText, Makes, made_stands, made_exact, Only, only_none}
use Rattle.register_requests.proofs.Texts.{only_not, only_exact, split_exact, one_split, split_word}
use Rattle.register_requests.proofs.Commands.{made, some_made, has_shape, same_command as same_parts, text_is}
use Rattle.register_requests.proofs.Commands.{in_range_of, is_command, registration_of}
use Rattle.register_requests.proofs.FieldTexts.{moments, key_numbers, request_numbers, quorums, shorts, dates, edits}
use Rattle.register_requests.proofs.FieldTexts.{key_types, reasons, command_kinds, names, purposes}

-- ---- texts, as fields with what stands after them

-- What `spaced` makes of some texts is a space, and then these `before` one another and the last before nothing.
abbrev before : List ℕ → List ℕ → List ℕ
before field rest = field ++ (32 ∷ rest)

-- the text of a value, a space, and after it the text of another
module _ {A B : Type 0} {P : A → Type 0} {text : A → List ℕ} {IsSecond : List ℕ → B → Type 0} where
  wrote : IsFieldText (Writes P text) → (x : A) (rest : List ℕ) {y : B} → P x → IsSecond rest y
      → AreSplit (Writes P text) IsSecond (before (text x) rest) (x, y)
  wrote own x rest in_range second = record {
    field = text x;
    rest = rest;
    solid = own.solid (text x) x (in_range, refl);
    split = refl;
    first = (in_range, refl);
    second = second;
  }

  spelled : (bytes : List ℕ) (x : A × B) → (is : AreSplit (Writes P text) IsSecond bytes x)
      → bytes ≡ before (text x.0) is.rest
  spelled bytes x is = is.split ∙ ap (λ (field : List ℕ). before field is.rest) is.first.1

-- ---- a period

abbrev IsShorts : List ℕ → ℕ × ℕ → Type 0
IsShorts = AreSplit (Writes IsShort decimal) (Writes IsShort decimal)

shorts_exact : IsExact IsShorts
shorts_exact = split_exact shorts.exact shorts.exact

-- months that are those of a period
abbrev IsInPeriod : ℕ × ℕ → Type 0
IsInPeriod x = IsPeriod (of_months x.0 x.1)

period_or_not : (x : ℕ × ℕ) → IsInPeriod x ⊎ (IsInPeriod x → ⊥)
period_or_not (a, b) = by (nat_le 1 a && nat_le a max_months && nat_le b max_months) refl
  where
    by : (check : Bool) → (nat_le 1 a && nat_le a max_months && nat_le b max_months) ≡ check
        → IsInPeriod (a, b) ⊎ (IsInPeriod (a, b) → ⊥)
    by true e = inl (grind arith)
    by false e = inr (λ is. absurd (grind arith))

period_there : (bytes : List ℕ) (x : ℕ × ℕ) → Only IsShorts IsInPeriod bytes x
    → Writes IsPeriod period_text bytes (of_months x.0 x.1)
period_there bytes x is = (is.1, grind (arith, spelled, append-nil))

period_back : (bytes : List ℕ) (p : Period) → Writes IsPeriod period_text bytes p
    → (x : ℕ × ℕ) × Only IsShorts IsInPeriod bytes x × (p ≡ of_months x.0 x.1)
period_back bytes p is =
    let x : ℕ × ℕ = (p.originator, p.recipient) in (
      x,
      (
        subst (λ (b : List ℕ). IsShorts b x) (sym is.1)
            (wrote shorts p.originator _ (omega (arith, is.0.originator))
            (omega (arith, is.0.recipient), append-nil (decimal p.recipient))),
        is.0,
      ),
      refl,
    )

pub period : Makes (Only IsShorts IsInPeriod) (λ x. of_months x.0 x.1) (Writes IsPeriod period_text)
period = record { there = period_there; back = period_back }

pub new_period : (bytes : List ℕ) (a b : ℕ) → IsShorts bytes (a, b) → (o : Option Period)
    → (IsSome o ↔ IsPeriod (of_months a b)) → IfSome o (λ p. p ≡ of_months a b)
    → IsReadAs (Writes IsPeriod period_text) bytes o
new_period bytes a b is (Some p) in_range value = rw value (period_there bytes (a, b) (is, in_range.0 refl))
new_period bytes a b is None in_range value =
    let other = λ (holds : IsInPeriod (a, b)). absurd (let some = in_range.1 holds in cc) in
    made_stands period bytes None (only_not IsShorts IsInPeriod shorts_exact bytes (a, b) is other)

pub no_months : (bytes : List ℕ) → IsReadAs IsShorts bytes None
    → IsReadAs (Writes IsPeriod period_text) bytes None
no_months bytes none = made_stands period bytes None (only_none IsShorts IsInPeriod bytes none)

periods : IsExact (Writes IsPeriod period_text)
periods = made_exact period (only_exact _ _ shorts_exact period_or_not)

-- ---- the fields of a command

-- what stands after the space after its word
abbrev AreAfter : Shape → List ℕ → Fields → Type 0
AreAfter shape bytes fields = AreFieldsOf shape (codes " " ++ bytes) fields

-- a text after a space is the bytes that stand after one
there_after : (bytes text : List ℕ) → codes " " ++ bytes ≡ codes " " ++ text → text ≡ bytes
there_after bytes text e = cc

-- a key's number alone
key_back : (bytes : List ℕ) (f : Fields) → AreAfter shapes.Key bytes f
    → (key : ℕ) × Writes IsKeyNumber decimal bytes key × (f ≡ Key key)
key_back bytes (Key key) is = (key, (is.in_range, sym (there_after bytes _ is.text) ∙ append-nil (decimal key)), refl)
key_back bytes f is = absurd (let other = is.shape_is in cc)

pub key_alone : Makes (Writes IsKeyNumber decimal) Key (AreAfter shapes.Key)
key_alone = record { there = λ bytes key is. grind (arith, append-nil); back = key_back }

-- a key's number, and one argument more
paired : {B : Type 0} {P : B → Type 0} {text : B → List ℕ} (bytes : List ℕ) (key : ℕ) (value : B) → IsKeyNumber key
    → P value → codes " " ++ bytes ≡ spaced (decimal key ∷ text value ∷ [])
    → AreSplit (Writes IsKeyNumber decimal) (Writes P text) bytes (key, value)
paired {B} {P} {text} bytes key value in_range is e =
    subst (λ (b : List ℕ). AreSplit (Writes IsKeyNumber decimal) (Writes P text) b (key, value)) (there_after bytes _ e)
    (wrote key_numbers key _ in_range (is, append-nil (text value)))

-- a key's number and a name
abbrev IsNamed : List ℕ → ℕ × List ℕ → Type 0
IsNamed = AreSplit (Writes IsKeyNumber decimal) (Writes IsName itself)

name_back : (bytes : List ℕ) (f : Fields) → AreAfter shapes.KeyAndName bytes f
    → (x : ℕ × List ℕ) × IsNamed bytes x × (f ≡ KeyAndName x.0 x.1)
name_back bytes (KeyAndName key name) is =
    ((key, name), paired bytes key name is.in_range.0 is.in_range.1 is.text, refl)
name_back bytes f is = absurd (let other = is.shape_is in cc)

pub key_and_name : Makes IsNamed (λ x. KeyAndName x.0 x.1) (AreAfter shapes.KeyAndName)
key_and_name = record { there = λ bytes x is. grind (arith, spelled, append-nil); back = name_back }

-- a type, and its period
abbrev IsTyped : List ℕ → KeyType × Period → Type 0
IsTyped = AreSplit (Writes IsAny key_type_text) (Writes IsPeriod period_text)

type_back : (bytes : List ℕ) (f : Fields) → AreAfter shapes.TypeAndPeriod bytes f
    → (x : KeyType × Period) × IsTyped bytes x × (f ≡ TypeAndPeriod x.0 x.1)
type_back bytes (TypeAndPeriod kind p) is = (
  (kind, p),
  subst (λ (b : List ℕ). IsTyped b (kind, p)) (there_after bytes _ is.text)
      (wrote key_types kind _ tt (is.in_range, refl)),
  refl,
)
type_back bytes f is = absurd (let other = is.shape_is in cc)

pub type_and_period : Makes IsTyped (λ x. TypeAndPeriod x.0 x.1) (AreAfter shapes.TypeAndPeriod)
type_and_period = record { there = λ bytes x is. grind (arith, spelled); back = type_back }

-- a key's number, and how many approvals its destruction needs
abbrev IsNeeding : List ℕ → ℕ × ℕ → Type 0
IsNeeding = AreSplit (Writes IsKeyNumber decimal) (Writes IsQuorum decimal)

need_back : (bytes : List ℕ) (f : Fields) → AreAfter shapes.KeyAndNeed bytes f
    → (x : ℕ × ℕ) × IsNeeding bytes x × (f ≡ KeyAndNeed x.0 x.1)
need_back bytes (KeyAndNeed key need) is =
    ((key, need), paired bytes key need is.in_range.0 is.in_range.1 is.text, refl)
need_back bytes f is = absurd (let other = is.shape_is in cc)

pub key_and_need : Makes IsNeeding (λ x. KeyAndNeed x.0 x.1) (AreAfter shapes.KeyAndNeed)
key_and_need = record { there = λ bytes x is. grind (arith, spelled, append-nil); back = need_back }

-- the fields of a registration
abbrev Registered : Type 0
Registered = KeyType × (List ℕ × (Option ℕ × (Option ℕ × (Option ℕ × List ℕ))))

abbrev pub registered : Registered → Fields
registered (kind, (owner, (activation, (protect_stop, (deactivation, purpose))))) =
    Registration (registration_of kind owner activation protect_stop deactivation purpose)

abbrev IsRegistered : List ℕ → Registered → Type 0
IsRegistered =
    AreSplit (Writes IsAny key_type_text)
    (AreSplit (Writes IsName itself)
    (AreSplit (Writes IsDate date_text)
    (AreSplit (Writes IsDate date_text)
    (AreSplit (Writes IsDate date_text) (Writes IsPurpose itself)))))

register_back : (bytes : List ℕ) (f : Fields) → AreAfter shapes.Registration bytes f
    → (x : Registered) × IsRegistered bytes x × (f ≡ registered x)
register_back bytes (Registration new) is =
    let (owner, activation, protect_stop, deactivation, purpose) = is.in_range in
    let x : Registered = (
      new.kind,
      (new.owner, (new.activation, (new.protect_stop, (new.deactivation, new.purpose)))),
    ) in (
      x,
      subst (λ (b : List ℕ). IsRegistered b x) (there_after bytes _ is.text)
          (wrote key_types new.kind _ tt (wrote names new.owner _ owner (wrote dates new.activation _ activation
          (wrote dates new.protect_stop _ protect_stop (wrote dates new.deactivation _ deactivation
          (purpose, append-nil new.purpose)))))),
      refl,
    )
register_back bytes f is = absurd (let other = is.shape_is in cc)

pub registration : Makes IsRegistered registered (AreAfter shapes.Registration)
registration = record { there = λ bytes x is. grind (arith, spelled, append-nil); back = register_back }

-- the fields of a change of dates
abbrev Edited : Type 0
Edited = ℕ × (Edit × (Edit × Edit))

abbrev pub edited : Edited → Fields
edited (key, (activation, (protect_stop, deactivation))) = DateEdits key activation protect_stop deactivation

abbrev IsEdited : List ℕ → Edited → Type 0
IsEdited =
    AreSplit (Writes IsKeyNumber decimal)
    (AreSplit (Writes IsEdit edit_text) (AreSplit (Writes IsEdit edit_text) (Writes IsEdit edit_text)))

edits_back : (bytes : List ℕ) (f : Fields) → AreAfter shapes.DateEdits bytes f
    → (x : Edited) × IsEdited bytes x × (f ≡ edited x)
edits_back bytes (DateEdits key a p d) is =
    let in_range = is.in_range in (
      (key, (a, (p, d))),
      subst (λ (b : List ℕ). IsEdited b (key, (a, (p, d)))) (there_after bytes _ is.text)
          (wrote key_numbers key _ in_range.0 (wrote edits a _ in_range.1
          (wrote edits p _ in_range.2 (in_range.3, append-nil (edit_text d))))),
      refl,
    )
edits_back bytes f is = absurd (let other = is.shape_is in cc)

pub date_edits : Makes IsEdited edited (AreAfter shapes.DateEdits)
date_edits = record { there = λ bytes x is. grind (arith, spelled, append-nil); back = edits_back }

-- the fields of a revocation
abbrev Revoked : Type 0
Revoked = ℕ × (Reason × Option ℕ)

abbrev pub revoked : Revoked → Fields
revoked (key, (reason, occurrence)) = Revocation key reason occurrence

abbrev IsRevoked : List ℕ → Revoked → Type 0
IsRevoked =
    AreSplit (Writes IsKeyNumber decimal) (AreSplit (Writes IsAny reason_text) (Writes IsDate date_text))

-- an occurrence is that of a compromise
abbrev HasCause : Revoked → Type 0
HasCause (key, (reason, occurrence)) = is_compromise reason ≡ false → occurrence ≡ None

cause_or_not : (x : Revoked) → HasCause x ⊎ (HasCause x → ⊥)
cause_or_not (key, (reason, None)) = inl (λ no. refl)
cause_or_not (key, (reason, Some date)) = by (is_compromise reason) refl
  where
    by : (check : Bool) → is_compromise reason ≡ check
        → HasCause (key, (reason, Some date)) ⊎ (HasCause (key, (reason, Some date)) → ⊥)
    by true e = inl (λ no. absurd cc)
    by false e = inr (λ cause. let unset = cause e in absurd cc)

revoked_exact : IsExact IsRevoked
revoked_exact = split_exact key_numbers.exact (split_exact reasons.exact dates.exact)

revoke_back : (bytes : List ℕ) (f : Fields) → AreAfter shapes.Revocation bytes f
    → (x : Revoked) × Only IsRevoked HasCause bytes x × (f ≡ revoked x)
revoke_back bytes (Revocation key r o) is =
    let in_range = is.in_range in (
      (key, (r, o)),
      (
        subst (λ (b : List ℕ). IsRevoked b (key, (r, o))) (there_after bytes _ is.text)
            (wrote key_numbers key _ in_range.0 (wrote reasons r _ tt (in_range.1, append-nil (date_text o)))),
        in_range.2,
      ),
      refl,
    )
revoke_back bytes f is = absurd (let other = is.shape_is in cc)

pub revocation : Makes (Only IsRevoked HasCause) revoked (AreAfter shapes.Revocation)
revocation = record { there = λ bytes x is. grind (arith, spelled, append-nil); back = revoke_back }

pub no_cause : (bytes : List ℕ) (x : Revoked) → IsRevoked bytes x → (HasCause x → ⊥)
    → IsReadAs (AreAfter shapes.Revocation) bytes None
no_cause bytes x is other =
    made_stands revocation bytes None (only_not IsRevoked HasCause revoked_exact bytes x is other)

pub no_revocation : (bytes : List ℕ) → IsReadAs IsRevoked bytes None
    → IsReadAs (AreAfter shapes.Revocation) bytes None
no_revocation bytes none = made_stands revocation bytes None (only_none IsRevoked HasCause bytes none)

-- no space stands after a word that has no fields
nothing_after : (bytes : List ℕ) (f : Fields) → AreAfter shapes.Nothing bytes f → ⊥
nothing_after bytes Nothing is = absurd (let other = is.text in cc)
nothing_after bytes f is = absurd (let other = is.shape_is in cc)

named_exact : IsExact IsNamed
named_exact = split_exact key_numbers.exact names.exact

-- the texts of each shape
shaped : (shape : Shape) → IsExact (AreAfter shape)
shaped shapes.Nothing = record {
  one = λ bytes f g p q. absurd (nothing_after bytes f p);
  has = λ bytes. (None, nothing_after bytes);
}
shaped shapes.Key = made_exact key_alone key_numbers.exact
shaped shapes.KeyAndName = made_exact key_and_name named_exact
shaped shapes.KeyAndNeed = made_exact key_and_need (split_exact key_numbers.exact quorums.exact)
shaped shapes.TypeAndPeriod = made_exact type_and_period (split_exact key_types.exact periods)
shaped shapes.Registration =
    made_exact registration (split_exact key_types.exact (split_exact names.exact
    (split_exact dates.exact (split_exact dates.exact (split_exact dates.exact purposes)))))
shaped shapes.DateEdits =
    made_exact date_edits
    (split_exact key_numbers.exact (split_exact edits.exact (split_exact edits.exact edits.exact)))
shaped shapes.Revocation = made_exact revocation (only_exact _ _ revoked_exact cause_or_not)

-- fields whose text is empty
only_nothing : (f : Fields) → [] ≡ spaced (argument_texts (command_of f)) → f ≡ Nothing
only_nothing Nothing e = refl
only_nothing f e = absurd cc

fields_one : (shape : Shape) (after : Option (List ℕ)) (f g : Fields) → AreFieldsOf shape (after_word after) f
    → AreFieldsOf shape (after_word after) g → f ≡ g
fields_one shape (Some bytes) f g p q = (shaped shape).one bytes f g p q
fields_one shape None f g p q = only_nothing f p.text ∙ sym (only_nothing g q.text)

no_fields : (shape : Shape) → (shape ≡ shapes.Nothing → ⊥) → (f : Fields) → AreFieldsOf shape [] f → ⊥
no_fields shape other f is = other (sym is.shape_is ∙ ap shape_of (only_nothing f is.text))

fields_has : (shape : Shape) (after : Option (List ℕ))
    → (o : Option Fields) × IsReadAs (AreFieldsOf shape) (after_word after) o
fields_has shape (Some bytes) = (shaped shape).has bytes
fields_has shapes.Nothing None = (Some Nothing, record { in_range = tt; shape_is = refl; text = refl })
fields_has shape None = (None, no_fields shape (λ e. cc))

-- ---- commands

-- the text of fields stands after a word
fields_begin : (f : Fields) → (after : Option (List ℕ)) × (after_word after ≡ spaced (argument_texts (command_of f)))
fields_begin Nothing = (None, refl)
fields_begin f = (Some (drop 1 (spaced (argument_texts (command_of f)))), refl)

-- a text with a space in it has one
no_space_in : (xs rest : List ℕ) → HasNoSpace (before xs rest) → ⊥
no_space_in [] rest solid = cc
no_space_in (x ∷ xs) rest solid = no_space_in xs rest (and_parts _ _ solid).1

-- so no bytes are two words with what stands after each
one_after : (a b : Option (List ℕ)) (word other : List ℕ) → HasNoSpace word → HasNoSpace other
    → word ++ after_word a ≡ other ++ after_word b → (word ≡ other) × (after_word a ≡ after_word b)
one_after None None word other p q e = (sym (append-nil word) ∙ e ∙ append-nil other, refl)
one_after None (Some b) word other p q e =
    absurd (no_space_in other b (subst HasNoSpace (sym (append-nil word) ∙ e) p))
one_after (Some a) None word other p q e =
    absurd (no_space_in word a (subst HasNoSpace (sym (append-nil other) ∙ sym e) q))
one_after (Some a) (Some b) word other p q e =
    let split = one_split word other a b p q e in (split.0, ap (λ (rest : List ℕ). 32 ∷ rest) split.1)

kind_solid : (kind : CommandKind) → HasNoSpace (command_kind_text kind)
kind_solid kind = command_kinds.solid (command_kind_text kind) kind (tt, refl)

-- the bytes are a word and what stands after it
module _ (bytes word : List ℕ) (after : Option (List ℕ)) (solid : HasNoSpace word)
    (whole : bytes ≡ word ++ after_word after) where
  -- so the parts of a command that they are the text of are these
  parts : (q : Command) → IsCommandText bytes q
      → (word ≡ command_kind_text (kind_of q)) × (after_word after ≡ spaced (argument_texts (command_of (fields_of q))))
  parts q is =
      let fields = fields_begin (fields_of q) in
      let split = one_after after fields.0 word (command_kind_text (kind_of q)) solid (kind_solid (kind_of q))
      (sym whole ∙ is.1 ∙ text_is q ∙ ap (λ (text : List ℕ). command_kind_text (kind_of q) ++ text) (sym fields.1)) in
      (split.0, split.1 ∙ fields.1)

  pub no_kind : IsReadAs (Writes IsAny command_kind_text) word None → IsReadAs IsCommandText bytes None
  no_kind none = λ q is. none (kind_of q) (tt, (parts q is).0)

  pub no_fields_of : (kind : CommandKind) → word ≡ command_kind_text kind
      → IsReadAs (AreFieldsOf (command_shape kind)) (after_word after) None → IsReadAs IsCommandText bytes None
  no_fields_of kind e none = λ q is.
      let of = parts q is in
      let same = command_kinds.exact.one word (kind_of q) kind (tt, of.0) (tt, e) in
      none (fields_of q) (record {
        in_range = in_range_of q is.0;
        shape_is = has_shape q ∙ ap command_shape same;
        text = of.1;
      })

  pub command_made : (kind : CommandKind) → word ≡ command_kind_text kind → (f : Fields)
      → AreFieldsOf (command_shape kind) (after_word after) f → (o : Option Command) → o ≡ command_with kind f
      → IsReadAs IsCommandText bytes o
  command_made kind e f is None made_none = absurd (some_made f kind is.shape_is (sym made_none))
  command_made kind e f is (Some q) made_some =
      let of = made f kind q (sym made_some) in
      (is_command q (rw of.fields_are is.in_range), cc (text_is q, is.text, whole, of.kind_is, of.fields_are, e))

-- No bytes are the text of two commands.
pub same_command : (bytes : List ℕ) (p q : Command) → IsCommandText bytes p → IsCommandText bytes q → p ≡ q
same_command bytes p q is other =
    let after = fields_begin (fields_of p) in
    let whole = is.1 ∙ text_is p ∙ ap (λ (text : List ℕ). command_kind_text (kind_of p) ++ text) (sym after.1) in
    let of = parts bytes (command_kind_text (kind_of p)) after.0 (kind_solid (kind_of p)) whole q other in
    let kind = command_kinds.exact.one (command_kind_text (kind_of p)) (kind_of p) (kind_of q) (tt, refl) (tt, of.0) in
    let fields = fields_one (command_shape (kind_of p)) after.0 (fields_of p) (fields_of q)
    (record { in_range = in_range_of p is.0; shape_is = has_shape p; text = after.1 })
    (record { in_range = in_range_of q other.0; shape_is = has_shape q ∙ ap command_shape (sym kind); text = of.1 }) in
    same_parts p q kind fields

command_has : (bytes : List ℕ) → (o : Option Command) × IsReadAs IsCommandText bytes o
command_has bytes = by (split_word bytes)
  where
    with_kind : (word : List ℕ) (after : Option (List ℕ)) → HasNoSpace word → bytes ≡ word ++ after_word after
        → (kind : CommandKind) → word ≡ command_kind_text kind
        → (o : Option Fields) × IsReadAs (AreFieldsOf (command_shape kind)) (after_word after) o
        → (o : Option Command) × IsReadAs IsCommandText bytes o
    with_kind word after solid whole kind e (None, none) = (None, no_fields_of bytes word after solid whole kind e none)
    with_kind word after solid whole kind e (Some f, is) =
        (command_with kind f, command_made bytes word after solid whole kind e f is (command_with kind f) refl)

    with_word : (word : List ℕ) (after : Option (List ℕ)) → HasNoSpace word → bytes ≡ word ++ after_word after
        → (o : Option CommandKind) × IsReadAs (Writes IsAny command_kind_text) word o
        → (o : Option Command) × IsReadAs IsCommandText bytes o
    with_word word after solid whole (None, none) = (None, no_kind bytes word after solid whole none)
    with_word word after solid whole (Some kind, is) =
        with_kind word after solid whole kind is.1 (fields_has (command_shape kind) after)

    by : (word : List ℕ) × (after : Option (List ℕ)) × HasNoSpace word × (bytes ≡ word ++ after_word after)
        → (o : Option Command) × IsReadAs IsCommandText bytes o
    by split = with_word split.0 split.1 split.2 split.3 (command_kinds.exact.has split.0)

commands : IsExact IsCommandText
commands = record { one = same_command; has = command_has }

-- ---- lines

abbrev Requested : Type 0
Requested = ℕ × (List ℕ × (ℕ × Command))

abbrev pub requested : Requested → Request
requested (moment, (caller, (number, command))) =
    record { moment = moment; caller = caller; number = number; command = command }

-- the fields of a line
abbrev IsRequested : List ℕ → Requested → Type 0
IsRequested =
    AreSplit (Writes IsMoment decimal)
    (AreSplit (Writes IsName itself) (AreSplit (Writes IsNumber decimal) IsCommandText))

request_back : (bytes : List ℕ) (q : Request) → Writes IsRequest request_text bytes q
    → (x : Requested) × IsRequested bytes x × (q ≡ requested x)
request_back bytes q is =
    let in_range = is.0 in
    let x : Requested = (q.moment, (q.caller, (q.number, q.command))) in (
      x,
      subst (λ (b : List ℕ). IsRequested b x) (sym is.1)
          (wrote moments q.moment _ in_range.moment (wrote names q.caller _ in_range.caller
          (wrote request_numbers q.number _ in_range.number (in_range.command, append-nil (command_text q.command))))),
      refl,
    )

pub request : Makes IsRequested requested (Writes IsRequest request_text)
request = record { there = λ bytes x is. grind (arith, spelled, append-nil); back = request_back }

requests : IsExact (Writes IsRequest request_text)
requests =
    made_exact request
    (split_exact moments.exact (split_exact names.exact (split_exact request_numbers.exact commands)))

-- a line that is not too long stands for the request whose text it is
pub within_stands : (line : List ℕ) → length line ≤ 1024 → (o : Option Request)
    → IsReadAs (Writes IsRequest request_text) line o → IsItem line o
within_stands line within None none = λ q is. none q (is.request, is.text)
within_stands line within (Some q) is = record { request = is.0; within = within; text = is.1 }

-- Each line stands for an item.
pub item_has : (line : List ℕ) → (o : Option Request) × IsItem line o
item_has line = by (nat_le (length line) 1024) refl (requests.has line)
  where
    by : (check : Bool) → nat_le (length line) 1024 ≡ check
        → (o : Option Request) × IsReadAs (Writes IsRequest request_text) line o → (o : Option Request) × IsItem line o
    by true e found = (found.0, within_stands line (leb-true _ _ e) found.0 found.1)
    by false e found = (
      None,
      λ q is. let long = leb-false (length line) 1024 e in
          absurd (omega (arith, long, is.within)),
    )

-- No bytes are the line of two requests.
pub same_request : (line : List ℕ) (p q : Request) → IsLineOf line p → IsLineOf line q → p ≡ q
same_request line p q is other =
    requests.one line p q (is.request, is.text) (other.request, other.text)
