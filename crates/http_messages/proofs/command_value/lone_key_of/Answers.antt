use Rattle.std.proofs.Common.{List, ℕ, [], ◌∷◌, get_or, refl, ◌∙◌, lit<, lit≤}
use Rattle.std.specs.Prelude.{codes}
use Rattle.serde_json.specs.{Data.Data, View.view}
use Rattle.http_messages.specs.CommandValue.{number_data}
use Rattle.std.proofs.lemmas.Option.{IfSome_then}
use Rattle.http_messages.proofs.CommandValues.{none_then}
use Rattle.http_messages.proofs.NamedMembers.{named_as, shown_at}
use Rattle.http_messages.proofs.command_value.lone_key_of.Goals as goal

abbrev names : List (List ℕ)
names = codes "key" ∷ codes "kind" ∷ []

abbrev shown : ℕ → Data → List Data
shown key kind = number_data key ∷ kind ∷ []

pub returns-in_err-values-clause-none : goal.returns-in_err-values-clause-none
returns-in_err-values-clause-none c = rw c.from_residual.ensures (λ key kind _ is.
    c.in_err-values.ensures.none (shown key kind) refl is)

pub returns-clause-none : goal.returns-clause-none
returns-clause-none c =
    none_then c.key_number_of.result _ _ (λ none key kind in_range is. none key in_range
    (shown_at names (shown key kind) 0 _ _ c.in_ok-values.ensures.room c.in_ok-values.ensures.found is (lit< tt)
    (lit≤ tt) refl)) c.key_number_of.ensures.none

pub returns-clause-found : goal.returns-clause-found
returns-clause-found c =
    let values = c.in_ok-values.field-0.values in
    let kind = view (get_or values 1 c.index-values-0.result).now in
    IfSome_then c.key_number_of.result c.key_number_of.ensures.found (λ key found. (
      found.0,
      (
        kind,
        c.in_ok-values.ensures.found
            ∙ named_as names values (shown key kind) 0 refl c.in_ok-values.ensures.room (lit≤ tt)
            ((_, found.1), ((_, refl), tt)),
      ),
    ))
