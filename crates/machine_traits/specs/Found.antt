-- What an opening finds in the files of a database.
use Rattle.std.specs.Prelude.{◌⊎◌}
use Rattle.sqlite.specs.{Files.HoldsDatabase, Files.IsEmpty, Files.IsNothing, Recovery.Image, Start.FindsIn}
use Rattle.sqlite.specs.{State.State, State.Opens, State.IsLive, Tree.Trees}

-- the files hold no database yet, not more than what an opening left of a first page, or one with nothing in it
abbrev pub HoldsNothing : Image → Type 0
HoldsNothing image = IsNothing image ⊎ ((db : Trees) × HoldsDatabase image db × IsEmpty db)

-- The connection is opened and shows what was found in the files.
pub record ShowsFiles (image : Image) (s : State) : Type 0 where
  pub opens : Opens s
  pub live : IsLive s
  pub finds : FindsIn image s
