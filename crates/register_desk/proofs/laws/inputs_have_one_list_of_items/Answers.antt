use Rattle.register_desk.proofs.LinesCut.{same_input}
use Rattle.register_desk.proofs.laws.inputs_have_one_list_of_items.Goals as goal

pub returns : goal.returns
returns c bytes items others rest other p q =
    same_input c.lines_are_of_one_request.ensures bytes items others rest other p q
