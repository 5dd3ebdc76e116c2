-- What closing the files of a store leaves in them.
use Rattle.std.specs.Prelude.{◌≡◌, ◌⊎◌, true, false, [], IsTrue}
use Rattle.sqlite_trees.specs.{declared.store.Store.Ghosts, View.IsClean as IsCleanStore}
use Rattle.sqlite.specs.{Files.HoldsDatabase, Held.AreDatabases, Recovery.Image, Tree.Trees}
use Rattle.machine_traits.specs.declared.files.LogCopy.TheVariants.{Copied, Broken}
use Rattle.machine_traits.specs.{declared.files.Closed.Closed, Found.HoldsNothing}

-- the database file of these two alone, with no log beside it
abbrev pub alone : Image → Image
alone whole = record whole { log = [] }

-- what is left stands for what was found
pub record StandsAs (found left : Image) : Type 0 where
  pub database : (db : Trees) → HoldsDatabase found db → HoldsDatabase left db
  pub nothing : HoldsNothing found → HoldsNothing left

module _ {S : Type 0} (g : Ghosts S) (may_leave : S → Image → Type 0) where
  -- What may be found in files that were closed: what a stop leaves of them, from when their log was copied on, and,
  -- once it was copied, the database file of that alone.
  pub record LeftIn (closed : Closed S) (left : Image) : Type 0 where
    pub found : may_leave closed.store left
        ⊎ ((closed.log ≡ Copied) × (whole : Image) × may_leave closed.store whole × (left ≡ alone whole))
    -- A fault may shut the store while the log is copied. Of that the kit does not say that its tables are numbered as
    -- they were, so it is asked for.
    pub numbered : closed.log ≡ Broken → IsTrue (g.view closed.store).is_numbered

  -- what the store may come back as is found in these files
  abbrev pub HoldsRecovered : S → Image → Type 0
  HoldsRecovered store left = ∥ ((db : Trees) × (g.recovers store db) × HoldsDatabase left db) ∥₁

  -- The files of a store were closed: what may be found in them is a database that it could come back as. A copy of the
  -- log that is reported as broken shut the store, which was not broken before.
  pub record ClosesFiles (store : S) (closed : Closed S) : Type 0 where
    pub clean : IsCleanStore (g.view closed.store) → IsCleanStore (g.view store)
    pub shut : closed.log ≡ Broken → IsCleanStore (g.view closed.store)
        → ((g.view store).is_broken ≡ false) × ((g.view closed.store).is_broken ≡ true)
    pub leaves : IsCleanStore (g.view closed.store) → IsTrue (g.view store).is_numbered
        → AreDatabases (g.recovers store)
        → (left : Image) → LeftIn closed left → HoldsRecovered store left
