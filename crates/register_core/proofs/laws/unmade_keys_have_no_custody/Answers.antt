use Rattle.std.proofs.Common.{ap}
use Rattle.register_core.specs.Names.{sorted_names}
use Rattle.register_core.proofs.CustodyLaws.{nobody_yet}
use Rattle.register_core.proofs.laws.unmade_keys_have_no_custody.Goals as goal

pub returns : goal.returns
returns c h lawful k beyond =
    let none = nobody_yet h lawful k beyond in (ap sorted_names none.0, ap sorted_names none.1)
