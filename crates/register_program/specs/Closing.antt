-- What closing the files of a desk leaves in them.
use Rattle.sqlite_trees.specs.declared.store.Store.{Ghosts}
use Rattle.sqlite.specs.Recovery.{Image}
use Rattle.machine_traits.specs.{declared.files.Closed.Closed, Closing.ClosesFiles, Closing.LeftIn}
use Rattle.register_desk.specs.{declared.desk.Desk.Desk, Desk.connection_of}
use Rattle.register_program.specs.Life.{ClosesAs}

module _ {S : Type 0} (g : Ghosts S) (may_leave : S → Image → Type 0) where
  -- The files of the desk's connection were closed. This is said of what a stop leaves in them up to their closing, and
  -- of what may be found in them from then on.
  pub record ClosesDesk (desk : Desk S g) (closed : Closed S) (Says : (Image → Type 0) → Type 0) : Type 0 where
    pub before : S
    pub gives : ClosesAs g (connection_of desk) before
    pub closes : ClosesFiles g may_leave before closed
    pub up_to : Says (may_leave before)
    pub from : Says (LeftIn g may_leave closed)

  -- it is said of the desk and of the files that were closed behind it
  abbrev pub OfClosed : Closed S → (Desk S g → (Image → Type 0) → Type 0) → Type 0
  OfClosed closed Says = (desk : Desk S g) × ClosesDesk desk closed (Says desk)
