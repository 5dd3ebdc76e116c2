use Rattle.register_core.proofs.CustodyLeads.{different}
use Rattle.register_core.proofs.laws.no_name_is_twice_at_a_key.Goals as goal

pub returns : goal.returns
returns c = different
