-- What an exchange leaves whose reader does not tell its bytes: it handed at most one request to the register.
use Rattle.std.specs.Prelude.{◌≢◌, ◌⊎◌, List, [], ◌∷◌, Option, IfSome}
use Rattle.sqlite_trees.specs.declared.store.Store.{Ghosts}
use Rattle.register_requests.specs.{declared.request.Request.Request, Request.IsRequest}
use Rattle.register_core.specs.Fold.{history}
use Rattle.register_desk.specs.declared.outcome.Finish.TheVariants.{Ended}
use Rattle.register_desk.specs.{declared.desk.Desk.Desk, declared.end.End.TheVariants.Store}
use Rattle.register_desk.specs.Desk.{IsWhole, LeavesEither}
use Rattle.register_desk.specs.{declared.outcome.Finish.Finish, Register.StandsFor}

-- A whole desk of the history h is one of h still, or of h with the item after it; but where the database refused, a
-- stop leaves the register of one of the two.
pub record LeavesOne {S : Type 0} (g : Ghosts S) (h : List Request) (desk : Desk S g) (end : Finish) : Type 0 where
  pub item : Option Request
  pub in_range : IfSome item IsRequest
  pub leaves : LeavesEither g h (history h (item ∷ [])) desk
  pub whole : end ≢ Ended Store → IsWhole desk
  pub stands : end ≢ Ended Store → StandsFor g desk h ⊎ StandsFor g desk (history h (item ∷ []))
