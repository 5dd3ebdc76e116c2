use Rattle.std.proofs.Common.{rules, refl}
use Rattle.register_report.proofs.import_row.registration_request.Goals as goal

pub returns : goal.returns
returns c = record {
  given = record {
    kind = c.in_ok-kind.kind;
    owner = c.in_ok-owner.owner;
    activation = c.in_ok-activation.activation;
    protect_stop = c.in_ok-protect_stop.protect_stop;
    deactivation = c.in_ok-deactivation.deactivation;
    purpose = c.in_ok-purpose.purpose;
  };
  is = rw c.in_ok-number.ensures.value refl;
  in_range = search rules;
  fields_are = search rules;
}
