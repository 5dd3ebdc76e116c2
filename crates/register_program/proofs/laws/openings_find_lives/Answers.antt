use Rattle.std.proofs.Common.{List, Result, Ok, Err}
use Rattle.sqlite_trees.specs.declared.store.Store.{Ghosts}
use Rattle.register_requests.specs.declared.request.Request.{Request}
use Rattle.register_desk.specs.{declared.desk.Desk.Desk, Desk.connection_of, Lives.after_lives}
use Rattle.sqlite.specs.Held.{state}
use Rattle.register_desk.proofs.Found.{keeps_history}
use Rattle.register_program.specs.{declared.refused.Refused.Refused, Opening.FindsHistory, Opening.OpensAs}
use Rattle.register_program.proofs.laws.openings_find_lives.Goals as goal

-- a desk that stands for a history is the desk of it
found : {S U : Type 0} (g : Ghosts S) (h : List Request) (result : Result (Desk S g) (Refused S U)) → OpensAs g h result
    → FindsHistory g h result
found g h (Ok desk) opens = λ clean.
    let over = (opens clean).over in
    record {
      latest_is = over.latest_is;
      keys_are = over.keys_are;
      keeps = λ whole. keeps_history h (state g (connection_of desk)) (over.sees whole clean);
    }
found g h (Err refused) opens = opens

pub returns : goal.returns
returns g c h runs left again result opens holds =
    found g.F.Opened.Store (after_lives h again.lives) result
    (opens.stands (after_lives h again.lives) again.lawful holds)
