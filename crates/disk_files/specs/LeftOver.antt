-- What may be left of files on a disk that could not be opened.
use Rattle.std.specs.Prelude.{◌≡◌, Option, None, Some}
use Rattle.sqlite_disk.specs.declared.Disk.{Ghosts}
use Rattle.sqlite_store.specs.{FileStore.recovers, Unopened.state_of}
use Rattle.sqlite.specs.Files.{HoldsDatabase, IsCleanLeft}
use Rattle.sqlite.specs.{declared.file.Leftover.Leftover, Recovery.Image, Tree.Trees, WalFiles.outcomes}
use Rattle.sqlite.specs.declared.file.Leftover.TheVariants as left

-- the database that the files held, if they held one, they hold
abbrev pub KeepsDatabase : Image → Image → Type 0
KeepsDatabase found image = (db : Trees) → HoldsDatabase found db → HoldsDatabase image db

module _ {D : Type 0} {g : Ghosts D} (found : Image) where
  -- What a stop leaves of files that were opened and given back. Of an opening that failed while it recovered a log the
  -- kit does not say that they hold the database that they held, so that is asked for.
  abbrev pub IsLeftOf : Leftover D g → Image → Type 0
  IsLeftOf (left.Files now) image = outcomes g now.log now.db image
  IsLeftOf (left.Unopened now) image = (state_of now).may_leave image × KeepsDatabase found image
  IsLeftOf (left.Store now) image = (db : Trees) × recovers now db × HoldsDatabase image db

  -- on a disk that gave back what was written; files that were not opened at all are as they were
  abbrev pub MayBeLeft : Option (Leftover D g) → Image → Type 0
  MayBeLeft None image = image ≡ found
  MayBeLeft (Some left) image = IsCleanLeft left × IsLeftOf left image
