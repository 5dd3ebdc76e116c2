use Rattle.register_desk.proofs.LinesCut.{items_in}
use Rattle.register_desk.proofs.laws.inputs_have_items.Goals as goal

pub returns : goal.returns
returns c bytes = items_in bytes
