use Rattle.std.proofs.Common.{List, ℕ, [], ◌∷◌, get_or, refl, ◌∙◌, lit<, lit≤}
use Rattle.std.specs.Prelude.{codes}
use Rattle.serde_json.specs.{Data.Data, Data.string, View.view}
use Rattle.http_messages.specs.CommandValue.{date_data}
use Rattle.http_messages.proofs.NamedMembers.{named_as, shown_at}
use Rattle.period_core.specs.KeyType.{key_type_text}
use Rattle.register_requests.specs.declared.request.Registration.{Registration}
use Rattle.http_messages.proofs.command_value.registration_fields_of.Goals as goal

abbrev names : List (List ℕ)
names =
    codes "activation" ∷ codes "deactivation" ∷ codes "kind" ∷ codes "owner" ∷ codes "protect_stop" ∷ codes "purpose"
    ∷ codes "type" ∷ []

abbrev shown : Registration → Data → List Data
shown new kind =
    date_data new.activation ∷ date_data new.deactivation ∷ kind ∷ string new.owner ∷ date_data new.protect_stop
    ∷ string new.purpose ∷ string (key_type_text new.kind) ∷ []

pub returns-in_err-values-clause-none : goal.returns-in_err-values-clause-none
returns-in_err-values-clause-none c =
    rw c.from_residual.ensures (λ new kind _ is. c.in_err-values.ensures.none (shown new kind) refl is)

pub returns-clause-found : goal.returns-clause-found
returns-clause-found c _ =
    let (owner_in, owners) = c.in_ok-name_of.ensures.found in
    let (activation_in, activations) = c.in_ok-date_of.ensures.found in
    let (protect_stop_in, protect_stops) = c.in_ok-date_of-2.ensures.found in
    let (deactivation_in, deactivations) = c.in_ok-date_of-3.ensures.found in
    let (purpose_in, purposes) = c.in_ok-purpose_of.ensures.found in
    let values = c.in_ok-values.field-0.values in
    let kind = view (get_or values 2 c.index-values-0.result).now in
    let new : Registration = record {
      kind = c.in_ok-key_type_of.field-0;
      owner = c.in_ok-name_of.field-0;
      activation = c.in_ok-date_of.field-0;
      protect_stop = c.in_ok-date_of-2.field-0;
      deactivation = c.in_ok-date_of-3.field-0;
      purpose = c.in_ok-purpose_of.field-0;
    } in (
      (owner_in, activation_in, protect_stop_in, deactivation_in, purpose_in),
      refl,
      (
        kind,
        c.in_ok-values.ensures.found ∙ named_as names values (shown new kind) 0 refl
            c.in_ok-values.ensures.room (lit≤ tt) (
              (_, activations),
              (
                (_, deactivations),
                (
                  (_, refl),
                  (
                    (_, owners),
                    (
                      (_, protect_stops),
                      (
                        (_, purposes),
                        ((_, c.in_ok-key_type_of.ensures.found), tt),
                      ),
                    ),
                  ),
                ),
              ),
            ),
      ),
    )

pub returns-in_err-key_type_of-clause-none : goal.returns-in_err-key_type_of-clause-none
returns-in_err-key_type_of-clause-none c = rw c.from_residual-in_err-key_type_of.ensures
    (λ new kind _ is.
    let read = c.in_ok-values.ensures in
    c.in_err-key_type_of.ensures.none new.kind
    (shown_at names (shown new kind) 6 _ _ read.room read.found is (lit< tt) (lit≤ tt) refl))

pub returns-in_err-name_of-clause-none : goal.returns-in_err-name_of-clause-none
returns-in_err-name_of-clause-none c = rw c.from_residual-in_err-name_of.ensures
    (λ new kind in_range is.
    let read = c.in_ok-values.ensures in
    c.in_err-name_of.ensures.none new.owner in_range.0
    (shown_at names (shown new kind) 3 _ _ read.room read.found is (lit< tt) (lit≤ tt) refl))

pub returns-in_err-date_of-clause-none : goal.returns-in_err-date_of-clause-none
returns-in_err-date_of-clause-none c = rw c.from_residual-in_err-date_of.ensures
    (λ new kind in_range is.
    let read = c.in_ok-values.ensures in
    c.in_err-date_of.ensures.none new.activation in_range.1
    (shown_at names (shown new kind) 0 _ _ read.room read.found is (lit< tt) (lit≤ tt) refl))

pub returns-in_err-date_of-2-clause-none : goal.returns-in_err-date_of-2-clause-none
returns-in_err-date_of-2-clause-none c = rw c.from_residual-in_err-date_of-2.ensures
    (λ new kind in_range is.
    let read = c.in_ok-values.ensures in
    c.in_err-date_of-2.ensures.none new.protect_stop in_range.2
    (shown_at names (shown new kind) 4 _ _ read.room read.found is (lit< tt) (lit≤ tt) refl))

pub returns-in_err-date_of-3-clause-none : goal.returns-in_err-date_of-3-clause-none
returns-in_err-date_of-3-clause-none c = rw c.from_residual-in_err-date_of-3.ensures
    (λ new kind in_range is.
    let read = c.in_ok-values.ensures in
    c.in_err-date_of-3.ensures.none new.deactivation in_range.3
    (shown_at names (shown new kind) 1 _ _ read.room read.found is (lit< tt) (lit≤ tt) refl))

pub returns-in_err-purpose_of-clause-none : goal.returns-in_err-purpose_of-clause-none
returns-in_err-purpose_of-clause-none c = rw c.from_residual-in_err-purpose_of.ensures
    (λ new kind in_range is.
    let read = c.in_ok-values.ensures in
    c.in_err-purpose_of.ensures.none new.purpose in_range.4
    (shown_at names (shown new kind) 5 _ _ read.room read.found is (lit< tt) (lit≤ tt) refl))
