-- What an opening of files finds that hold a register.
use Rattle.std.specs.Prelude.{◌≡◌, false, List, Result, Ok, Err}
use Rattle.sqlite_trees.specs.{declared.store.Store.Ghosts, View.IsClean as IsCleanStore}
use Rattle.sqlite.specs.{Recovery.Image, Held.state, State.HasCleanDisk}
use Rattle.register_requests.specs.declared.request.Request.{Request}
use Rattle.register_core.specs.{Fold.IsLawful, History.count, History.latest}
use Rattle.register_desk.specs.Desk.{IsClean, connection_of}
use Rattle.register_desk.specs.{declared.desk.Desk.Desk, DatabaseFiles.HoldsRegister}
use Rattle.register_desk.specs.Register.{KeepsHistory, StandsFor}
use Rattle.register_desk.specs.OpenRefusal.{RefusesNoTable}
use Rattle.register_program.specs.declared.refused.RefusedFiles.TheVariants.{Failed, Shut}
use Rattle.register_program.specs.{declared.refused.Refused.Refused, declared.refused.RefusedFiles.RefusedFiles}

-- The desk is that of this history: it knows its latest moment and how many keys it made, and as long as it is whole
-- its connection keeps the history's tables.
pub record IsDeskOf {S : Type 0} (g : Ghosts S) (h : List Request) (desk : Desk S g) : Type 0 where
  pub latest_is : desk.latest ≡ latest h
  pub keys_are : desk.keys ≡ count h
  pub keeps : desk.is_broken ≡ false → KeepsHistory h (state g (connection_of desk))

module _ {S U : Type 0} (g : Ghosts S) where
  -- the files are sound, if they could be opened
  abbrev pub IsSound : RefusedFiles S U → Type 0
  IsSound (Failed it) = Unit {0}
  IsSound (Shut store) = IsCleanStore (g.view store)

  -- Where the disk gave back what was written, an opening that succeeds gives the desk of the history, and one that
  -- does not blames no table.
  abbrev pub FindsHistory : List Request → Result (Desk S g) (Refused S U) → Type 0
  FindsHistory h (Ok desk) = HasCleanDisk (state g (connection_of desk)) → IsDeskOf g h desk
  FindsHistory h (Err refused) = IsSound refused.files → RefusesNoTable refused.refusal

  -- Where the disk gave back what was written, an opening that succeeds stands for the history, and one that does not
  -- blames no table.
  abbrev pub OpensAs : List Request → Result (Desk S g) (Refused S U) → Type 0
  OpensAs h (Ok desk) = IsClean g desk → StandsFor g desk h
  OpensAs h (Err refused) = IsSound refused.files → RefusesNoTable refused.refusal

  -- it is so of the history whose register the files hold
  abbrev pub OpensRegister : Image → Result (Desk S g) (Refused S U) → Type 0
  OpensRegister found result = (h : List Request) → IsLawful h → HoldsRegister h found → OpensAs h result
