use Rattle.std.proofs.Common.{[], ◌∷◌, refl}
use Rattle.http_messages.proofs.command_value.empty_fields_of.Goals as goal

pub returns-in_err-values_named-clause-none : goal.returns-in_err-values_named-clause-none
returns-in_err-values_named-clause-none c = rw c.from_residual.ensures (λ kind is.
    c.in_err-values_named.ensures.none (kind ∷ []) refl is)
