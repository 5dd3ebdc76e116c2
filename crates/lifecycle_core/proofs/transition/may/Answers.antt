use Rattle.std.specs.Prelude.{Some, refl}
use Rattle.std.proofs.Common.{arith}
use Rattle.std.proofs.lemmas.Grind.{common_steps}
use Rattle.lifecycle_core.proofs.Transitions.{listed}
use Rattle.lifecycle_core.proofs.transition.may.Goals as goal

pub returns-in-Destroyed : goal.returns-in-Destroyed
returns-in-Destroyed c = (λ h. listed (Some c.args.from) c.args.to (grind (arith, common_steps)), λ h. refl)

pub returns-in-Compromised-matches : goal.returns-in-Compromised-matches
returns-in-Compromised-matches c = (λ h. listed (Some c.args.from) c.args.to (grind (arith, common_steps)), λ h. refl)

pub returns-in-Destroyed-matches : goal.returns-in-Destroyed-matches
returns-in-Destroyed-matches c = (λ h. listed (Some c.args.from) c.args.to (grind (arith, common_steps)), λ h. refl)

pub returns-in-DestroyedCompromised-matches : goal.returns-in-DestroyedCompromised-matches
returns-in-DestroyedCompromised-matches c = (
  λ h. listed (Some c.args.from) c.args.to (grind (arith, common_steps)),
  λ h. refl,
)
