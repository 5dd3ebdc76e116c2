use Rattle.std.proofs.Common.{List, ℕ, [], ◌∷◌, get_or, refl, ◌∙◌, lit<, lit≤}
use Rattle.std.specs.Prelude.{codes}
use Rattle.serde_json.specs.{Data.Data, View.view}
use Rattle.http_messages.specs.CommandValue.{number_data, edit_data}
use Rattle.http_messages.proofs.NamedMembers.{named_as, shown_at}
use Rattle.register_requests.specs.declared.request.Edit.{Edit}
use Rattle.http_messages.proofs.command_value.date_edit_fields_of.Goals as goal

abbrev names : List (List ℕ)
names =
    codes "activation" ∷ codes "deactivation" ∷ codes "key" ∷ codes "kind" ∷ codes "protect_stop" ∷ []

abbrev shown : ℕ → Edit → Edit → Edit → Data → List Data
shown key activation protect_stop deactivation kind =
    edit_data activation ∷ edit_data deactivation ∷ number_data key ∷ kind ∷ edit_data protect_stop ∷ []

pub returns-in_err-values-clause-none : goal.returns-in_err-values-clause-none
returns-in_err-values-clause-none c = rw c.from_residual.ensures (λ key activation protect_stop deactivation kind _ is.
    c.in_err-values.ensures.none (shown key activation protect_stop deactivation kind) refl is)

pub returns-in_err-key_number_of-clause-none : goal.returns-in_err-key_number_of-clause-none
returns-in_err-key_number_of-clause-none c = rw c.from_residual-in_err-key_number_of.ensures
    (λ key start stop end kind in_range is.
    let read = c.in_ok-values.ensures in
    c.in_err-key_number_of.ensures.none key in_range.0
    (shown_at names (shown key start stop end kind) 2 _ _ read.room read.found is (lit< tt) (lit≤ tt) refl))

pub returns-in_err-edit_of-clause-none : goal.returns-in_err-edit_of-clause-none
returns-in_err-edit_of-clause-none c = rw c.from_residual-in_err-edit_of.ensures
    (λ key start stop end kind in_range is.
    let read = c.in_ok-values.ensures in
    c.in_err-edit_of.ensures.none start in_range.1
    (shown_at names (shown key start stop end kind) 0 _ _ read.room read.found is (lit< tt) (lit≤ tt) refl))

pub returns-in_err-edit_of-2-clause-none : goal.returns-in_err-edit_of-2-clause-none
returns-in_err-edit_of-2-clause-none c = rw c.from_residual-in_err-edit_of-2.ensures
    (λ key start stop end kind in_range is.
    let read = c.in_ok-values.ensures in
    c.in_err-edit_of-2.ensures.none stop in_range.2
    (shown_at names (shown key start stop end kind) 4 _ _ read.room read.found is (lit< tt) (lit≤ tt) refl))

pub returns-in_err-edit_of-3-clause-none : goal.returns-in_err-edit_of-3-clause-none
returns-in_err-edit_of-3-clause-none c = rw c.from_residual-in_err-edit_of-3.ensures
    (λ key start stop end kind in_range is.
    let read = c.in_ok-values.ensures in
    c.in_err-edit_of-3.ensures.none end in_range.3
    (shown_at names (shown key start stop end kind) 1 _ _ read.room read.found is (lit< tt) (lit≤ tt) refl))

pub returns-clause-found : goal.returns-clause-found
returns-clause-found c _ =
    let (key_in, keys) = c.in_ok-key_number_of.ensures.found in
    let (activation_in, activations) = c.in_ok-edit_of.ensures.found in
    let (protect_stop_in, protect_stops) = c.in_ok-edit_of-2.ensures.found in
    let (deactivation_in, deactivations) = c.in_ok-edit_of-3.ensures.found in
    let values = c.in_ok-values.field-0.values in
    let kind = view (get_or values 3 c.index-values-0.result).now in
    let these = shown c.in_ok-key_number_of.field-0 c.in_ok-edit_of.field-0 c.in_ok-edit_of-2.field-0
    c.in_ok-edit_of-3.field-0 kind in (
      (key_in, activation_in, protect_stop_in, deactivation_in),
      refl,
      (
        kind,
        c.in_ok-values.ensures.found ∙ named_as names values these 0 refl c.in_ok-values.ensures.room (lit≤ tt)
            ((_, activations), ((_, deactivations), ((_, keys), ((_, refl), ((_, protect_stops), tt))))),
      ),
    )
