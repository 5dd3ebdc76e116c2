-- What functions within the crate say of one another: no public contract stands on it.
use Rattle.std.specs.Prelude.{◌≡◌, ℕ, ◌/◌, ◌≤◌, false, Bool, true, List, [], ◌∷◌, Option}
use Rattle.machine_traits.specs.Network.{Visit, Told, Notes}
use Rattle.register_http.specs.declared.attendance.Attendance.{Attendance}
use Rattle.streams.specs.{declared.watched.Watched.Watched, Watched.IsFaulted}
use Rattle.register_desk.specs.{Run.max_idle_turns, declared.outcome.Finish.Finish, declared.desk.Desk.Desk}
use Rattle.register_desk.specs.{Desk.IsWhole, Lives.AreInRange, Register.StandsFor}
use Rattle.sqlite_trees.specs.declared.store.Store.{Ghosts}
use Rattle.register_requests.specs.declared.request.Request.{Request}
use Rattle.register_core.specs.Fold.{history}
use Rattle.register_http.specs.ServedExchanges.{AreServed, ServedClient}
use Rattle.register_desk.specs.declared.end.End.TheVariants.{Memory, Store, Broken, ReadFault, WriteFault, BadHeader}
use Rattle.register_desk.specs.declared.outcome.Finish.TheVariants.{AtEnd, Ended}

-- ---- beside `specs/Exchange.antt`

-- What it leaves of its writer: a reply that is counted was flushed; where none is, though one was begun, the fault is
-- the writer's own or the bound on its idle turns, and that is never passed.
pub record KeepsWriter {W : Type 0} (old new : Watched W) (replies : ℕ) : Type 0 where
  pub flushed : replies ≡ 1 → new.unflushed ≡ false
  pub fault : replies ≡ 0 → IsFaulted new.failed max_idle_turns new.idle
  pub bounded : old.idle ≤ max_idle_turns → new.idle ≤ max_idle_turns

-- ---- beside `src/attendance.rt`

-- a failure was marked, and nobody counted
pub record Fails (old new : Attendance) : Type 0 where
  pub failed : new.failed ≡ true
  pub counted : new.accepted ≡ old.accepted

-- a time was told, of which this is the moment
pub record IsToldBy (before after : Option (List Visit)) (moment : ℕ) : Type 0 where
  pub time : ℕ
  pub told : Notes before after (Told time ∷ [])
  pub moment_is : moment ≡ time / 1_000_000_000

-- a time was told, or none
pub record MayTell (before after : Option (List Visit)) : Type 0 where
  pub more : List Visit
  pub noted : Notes before after more

-- ---- beside `specs/ServedExchanges.antt`

-- a next exchange may follow one that ended so: the register may be asked again
abbrev pub may_serve_on : Finish → Bool
may_serve_on (AtEnd rest) = true
may_serve_on (Ended Memory) = true
may_serve_on (Ended Store) = false
may_serve_on (Ended Broken) = false
may_serve_on (Ended ReadFault) = true
may_serve_on (Ended WriteFault) = true
may_serve_on (Ended BadHeader) = true

-- the clients were served, and the desk is whole, and of the history h with their items after it
pub record StandsForServed {S : Type 0} (g : Ghosts S) (h : List Request) (clients : List ServedClient)
    (desk : Desk S g) : Type 0 where
  pub items : List (Option Request)
  pub served : AreServed h clients items
  pub in_range : AreInRange items
  pub stands : StandsFor g desk (history h items)
  pub whole : IsWhole desk
