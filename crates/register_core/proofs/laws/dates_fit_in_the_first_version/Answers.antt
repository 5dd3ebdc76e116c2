use Rattle.register_requests.specs.declared.version.Version.TheVariants.{First}
use Rattle.register_core.specs.History.{type}
use Rattle.register_core.proofs.{UnsetPeriods.unset_fit, Versions.lawful_still, Versions.no_period}
use Rattle.register_core.proofs.laws.dates_fit_in_the_first_version.Goals as goal

pub returns : goal.returns
returns c h lawful k has = unset_fit h (lawful_still First h lawful) k has (no_period h lawful (type h k))
