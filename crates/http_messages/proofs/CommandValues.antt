-- The members of an object, one after the other, and what holds of a reader that gives none.
use Rattle.std.proofs.Common.{◌≡◌, List, ℕ, Option, None, Some, IfNone, IfSome, refl, sym, ap, ◌∙◌}
use Rattle.std.specs.{Option.MatchOption, Prelude.codes, Prelude.decimal}
use Rattle.serde_json.specs.Data.{Data, number, string, object, Members, member, unsigned}
use Rattle.serde_json.specs.Find.{get}
use Rattle.lifecycle_core.specs.{declared.reason.Reason.Reason, Reason.reason_code}
use Rattle.period_core.specs.{declared.key_type.KeyType.KeyType, KeyType.key_type_text, Period.Period, Period.of_months}
use Rattle.register_requests.specs.CommandKind.{kind_of, command_shape}
use Rattle.register_requests.specs.declared.command_fields.CommandKind.{CommandKind}
use Rattle.register_requests.specs.declared.command_fields.Fields.TheVariants.{Nothing, TypeAndPeriod, Registration}
use Rattle.register_requests.specs.declared.command_fields.Fields.TheVariants.{DateEdits, Revocation}
use Rattle.register_requests.specs.declared.request.Edit.TheVariants.{Keep, Clear, Set}
use Rattle.register_requests.specs.{declared.request.Command.Command, declared.command_fields.Fields.Fields}
use Rattle.register_requests.specs.{Fields.fields_of, Fields.shape_of, declared.request.Edit.Edit}
use Rattle.register_requests.proofs.Commands.{has_shape, one_registration, same_command}
use Rattle.register_requests.proofs.FieldTexts.{command_kinds, key_types, reasons, one_text}
use Rattle.http_messages.specs.CommandValue.{command_data, fields_members, kind_data, date_data, edit_data}

infixl 10 ◌past◌
-- what is left past the first
pub ◌past◌ : {k : List ℕ} {a b : Data} {all rest more : Members} → all ≡ member k b more
    → all ≡ member k a rest → rest ≡ more
whole past first = cc (first, whole)

infixr 10 ◌before◌
-- the first, before what is known to stand after it
pub ◌before◌ : {k : List ℕ} {a : Data} {all rest more : Members} → all ≡ member k a rest → rest ≡ more
    → all ≡ member k a more
first before others = cc (first, others)

pub if_none : {A : Type 0} (o : Option A) (P : Type 0) → P → IfNone o P
if_none None P p = p
if_none (Some x) P p = tt

-- what follows from what is said of the one case or the other
pub some_by : {A : Type 0} (P : Type 0) (Q R : A → Type 0) (o : Option A) → MatchOption o P Q → ((x : A) → Q x → R x)
    → IfSome o R
some_by P Q R None says follows = tt
some_by P Q R (Some x) says follows = follows x says

pub none_by : {A : Type 0} (P R : Type 0) (Q : A → Type 0) (o : Option A) → MatchOption o P Q → (P → R) → IfNone o R
none_by P R Q None says follows = follows says
none_by P R Q (Some x) says follows = tt

pub none_then : {A : Type 0} (o : Option A) (P Q : Type 0) → (P → Q) → IfNone o P → IfNone o Q
none_then None P Q f p = f p
none_then (Some x) P Q f p = tt

-- ---- Two commands with one JSON value are the same.

-- ---- the kind of a value

-- the value of a command's kind stands in the member `kind`, whatever its fields
kind_member : (of : CommandKind) (kind : Data) (f : Fields)
    → get (codes "kind") (object (fields_members of kind f)) ≡ Some kind
kind_member of kind Nothing = refl
kind_member of kind f = refl

kind_found : (c : Command) → get (codes "kind") (command_data c) ≡ Some (kind_data (kind_of c))
kind_found c = kind_member (kind_of c) (kind_data (kind_of c)) (fields_of c)

one_kind : (j k : CommandKind) → Some (kind_data j) ≡ Some (kind_data k) → j ≡ k
one_kind j k e = one_text command_kinds j k cc

-- ---- the values of members, read back

abbrev date_in : Data → Option ℕ
date_in (number (unsigned date)) = Some date
date_in _ = None

date_again : (date : Option ℕ) → date_in (date_data date) ≡ date
date_again None = refl
date_again (Some date) = refl

pub one_date : (a b : Option ℕ) → date_data a ≡ date_data b → a ≡ b
one_date a b e = sym (date_again a) ∙ ap date_in e ∙ date_again b

abbrev edit_in : Data → Edit
edit_in (string text) = Keep
edit_in (number (unsigned date)) = Set date
edit_in _ = Clear

edit_again : (edit : Edit) → edit_in (edit_data edit) ≡ edit
edit_again Keep = refl
edit_again Clear = refl
edit_again (Set date) = refl

one_edit : (a b : Edit) → edit_data a ≡ edit_data b → a ≡ b
one_edit a b e = sym (edit_again a) ∙ ap edit_in e ∙ edit_again b

one_type : (a b : KeyType) → key_type_text a ≡ key_type_text b → a ≡ b
one_type = one_text key_types

one_period : (a b : Period) → a.originator ≡ b.originator → a.recipient ≡ b.recipient → a ≡ b
one_period a b e f =
    ap (λ (n : ℕ). of_months n a.recipient) e ∙ ap (λ (n : ℕ). of_months b.originator n) f

one_reason : (a b : Reason) → reason_code a ≡ reason_code b → a ≡ b
one_reason a b e = one_text reasons a b (ap decimal e)

pub one_reason_data : (a b : Reason) → number (unsigned (reason_code a)) ≡ number (unsigned (reason_code b)) → a ≡ b
one_reason_data a b e = one_reason a b cc

-- ---- fields and commands

-- The last two rows have every other two fields: of two shapes, or such that the members show them as they are.
same_members : (of : CommandKind) (kind : Data) (p q : Fields) → shape_of p ≡ shape_of q
    → fields_members of kind p ≡ fields_members of kind q → p ≡ q
same_members of kind (TypeAndPeriod type period) (TypeAndPeriod other months) same e =
    let types = one_type type other cc in
    let first : period.originator ≡ months.originator = cc in
    let second : period.recipient ≡ months.recipient = cc in
    let periods = one_period period months first second in
    cc (types, periods)
same_members of kind (Registration new) (Registration other) same e =
    let types = one_type new.kind other.kind cc in
    let owners : new.owner ≡ other.owner = cc in
    let activations = one_date new.activation other.activation cc in
    let protect_stops = one_date new.protect_stop other.protect_stop cc in
    let deactivations = one_date new.deactivation other.deactivation cc in
    let purposes : new.purpose ≡ other.purpose = cc in
    ap (λ r. Registration r)
    (one_registration new other types owners activations protect_stops deactivations purposes)
same_members of kind (DateEdits key a p d) (DateEdits other a2 p2 d2) same e =
    let activations = one_edit a a2 cc in
    let protect_stops = one_edit p p2 cc in
    let deactivations = one_edit d d2 cc in
    cc (activations, protect_stops, deactivations)
same_members of kind (Revocation key reason occurrence) (Revocation other why date) same e =
    let reasons = one_reason reason why cc in
    let occurrences = one_date occurrence date cc in
    cc (reasons, occurrences)
same_members of kind p Nothing same e = cc
same_members of kind p q same e = cc

some_members : (a b : Members) → object a ≡ object b → a ≡ b
some_members a b e = cc

pub one_command_data : (p q : Command) → command_data p ≡ command_data q → p ≡ q
one_command_data p q e =
    let found = sym (kind_found p) ∙ ap (get (codes "kind")) e ∙ kind_found q in
    let same : kind_of p ≡ kind_of q = one_kind (kind_of p) (kind_of q) found in
    let shapes = has_shape p ∙ ap command_shape same ∙ sym (has_shape q) in
    let members = e ∙ ap (λ kind. object (fields_members kind (kind_data kind) (fields_of q))) (sym same) in
    same_command p q same
    (same_members (kind_of p) (kind_data (kind_of p)) (fields_of p) (fields_of q) shapes (some_members _ _ members))
