-- The range of the dates of a key.
use Rattle.moment_core.specs.Moment.{IsMoment}
use Rattle.lifecycle_core.specs.declared.dates.Dates.{Dates}
use Rattle.register_requests.specs.Request.{IsDate}

-- each date of a key that is set is a moment
pub record AreDates (d : Dates) : Type 0 where
  pub initial : IsMoment d.initial
  pub activation : IsDate d.activation
  pub protect_stop : IsDate d.protect_stop
  pub deactivation : IsDate d.deactivation
  pub destroy : IsDate d.destroy
  pub compromise : IsDate d.compromise
  pub compromise_occurrence : IsDate d.compromise_occurrence
