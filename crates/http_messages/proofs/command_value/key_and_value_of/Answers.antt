use Rattle.std.proofs.Common.{List, ℕ, [], ◌∷◌, get_or, refl, ◌∙◌, lit<, lit≤}
use Rattle.std.specs.Prelude.{codes}
use Rattle.serde_json.specs.{Data.Data, View.view}
use Rattle.http_messages.specs.CommandValue.{number_data}
use Rattle.http_messages.proofs.NamedMembers.{named_as, shown_at}
use Rattle.http_messages.proofs.command_value.key_and_value_of.Goals as goal

abbrev names : List ℕ → List (List ℕ)
names name = codes "key" ∷ codes "kind" ∷ name ∷ []

abbrev shown : ℕ → Data → Data → List Data
shown key kind value = number_data key ∷ kind ∷ value ∷ []

pub returns-in_err-values-clause-none : goal.returns-in_err-values-clause-none
returns-in_err-values-clause-none c = rw c.from_residual.ensures (λ key kind value _ is.
    c.in_err-values.ensures.none (shown key kind value) refl is)

pub returns-in_err-key-clause-none : goal.returns-in_err-key-clause-none
returns-in_err-key-clause-none c = rw c.from_residual-in_err-key.ensures
    (λ key kind value in_range is.
    let read = c.in_ok-values.ensures in
    c.in_err-key.ensures.none key in_range
    (shown_at (names c.args.name.now) (shown key kind value) 0 _ _ read.room read.found is (lit< tt) (lit≤ tt) refl))

pub returns-clause-found : goal.returns-clause-found
returns-clause-found c =
    let (key_in, keys) = c.in_ok-key.ensures.found in
    let values = c.in_ok-values.field-0.values in
    let kind = view (get_or values 1 c.index-values-0.result).now in
    let value = view (get_or values 2 c.index-values-2.result).now in (
      key_in,
      (
        kind,
        c.in_ok-values.ensures.found
            ∙ named_as (names c.args.name.now) values (shown c.in_ok-key.key kind value) 0 refl
            c.in_ok-values.ensures.room (lit≤ tt) ((_, keys), ((_, refl), ((_, refl), tt))),
      ),
    )
