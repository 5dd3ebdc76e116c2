-- What functions within the crate say of one another: no public contract stands on it.
use Rattle.std.specs.Prelude.{ℕ, List, Option}
use Rattle.sqlite_trees.specs.declared.store.Store.{Ghosts}
use Rattle.sqlite.specs.Held.{Held, state}
use Rattle.sqlite.specs.Recovery.{Image}
use Rattle.register_requests.specs.declared.request.Request.{Request}
use Rattle.register_desk.specs.{declared.desk.Desk.Desk, declared.outcome.Finish.Finish, Lives.LeavesLife}
use Rattle.register_desk.specs.OpenRefusal.{LeavesNew}
use Rattle.register_desk.specs.Desk.{LeavesEither, connection_of}
use Rattle.register_program.specs.Life.{LeavesInFiles, LeavesLifeInFiles, LeavesMadeIn}

-- what a stop leaves of the desk's database is what is left in files
pub record LeavesAsDesk {S : Type 0} (g : Ghosts S) (desk : Desk S g) (may : Image → Type 0) : Type 0 where
  pub one_of : (h other : List Request) → LeavesEither g h other desk → LeavesInFiles h other may
  pub lives : (h : List Request) (items : List (Option Request)) (end : Finish) (replies : ℕ)
      → LeavesLife g h items end replies desk → LeavesLifeInFiles h items end replies may
  pub made : (old : Held S) → LeavesNew (state g old) (state g (connection_of desk)) → LeavesMadeIn (state g old) may
