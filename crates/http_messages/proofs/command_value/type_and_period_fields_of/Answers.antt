use Rattle.std.proofs.Common.{List, ℕ, [], ◌∷◌, get_or, refl, ◌∙◌, lit<, lit≤}
use Rattle.std.specs.Prelude.{codes}
use Rattle.serde_json.specs.{Data.Data, Data.string, View.view}
use Rattle.http_messages.specs.CommandValue.{number_data}
use Rattle.http_messages.proofs.NamedMembers.{named_as, shown_at}
use Rattle.period_core.specs.{declared.key_type.KeyType.KeyType, KeyType.key_type_text, Period.Period}
use Rattle.http_messages.proofs.command_value.type_and_period_fields_of.Goals as goal

abbrev names : List (List ℕ)
names = codes "kind" ∷ codes "originator" ∷ codes "recipient" ∷ codes "type" ∷ []

abbrev shown : KeyType → Period → Data → List Data
shown type period kind =
    kind ∷ number_data period.originator ∷ number_data period.recipient ∷ string (key_type_text type) ∷ []

pub returns-in_err-values-clause-none : goal.returns-in_err-values-clause-none
returns-in_err-values-clause-none c = rw c.from_residual.ensures (λ type period kind _ is.
    c.in_err-values.ensures.none (shown type period kind) refl is)

pub returns-in_err-kind-clause-none : goal.returns-in_err-kind-clause-none
returns-in_err-kind-clause-none c = rw c.from_residual-in_err-kind.ensures
    (λ type period kind _ is.
    let read = c.in_ok-values.ensures in
    c.in_err-kind.ensures.none type
    (shown_at names (shown type period kind) 3 _ _ read.room read.found is (lit< tt) (lit≤ tt) refl))

pub returns-in_err-period-clause-none : goal.returns-in_err-period-clause-none
returns-in_err-period-clause-none c = rw c.from_residual-in_err-period.ensures
    (λ type period kind in_range is.
    let read = c.in_ok-values.ensures in
    c.in_err-period.ensures.none period in_range
    (shown_at names (shown type period kind) 1 _ _ read.room read.found is (lit< tt) (lit≤ tt) refl)
    (shown_at names (shown type period kind) 2 _ _ read.room read.found is (lit< tt) (lit≤ tt) refl))

pub returns-clause-found : goal.returns-clause-found
returns-clause-found c _ =
    let (in_range, originators, recipients) = c.in_ok-period.ensures.found in
    let values = c.in_ok-values.field-0.values in
    let kind = view (get_or values 0 c.index-values-1.result).now in
    let these = shown c.in_ok-kind.kind c.in_ok-period.period kind in (
      in_range,
      refl,
      (
        kind,
        c.in_ok-values.ensures.found ∙ named_as names values these 0 refl c.in_ok-values.ensures.room (lit≤ tt)
            ((_, refl), ((_, originators), ((_, recipients), ((_, c.in_ok-kind.ensures.found), tt)))),
      ),
    )
