use Rattle.std.proofs.Common.{List, ℕ, true, false, ap₂}
use Rattle.sqlite.specs.{Recovery.Image, WalFiles.image_at}
use Rattle.sqlite_std_file.specs.File.{IsFresh}
use Rattle.disk_files.proofs.LeftOver.{SeenOf, leaves_only, stands_as}
use Rattle.disk_files.proofs.opening.open_files.Goals as goal

pub returns-in-Ok-clause-shows : goal.returns-in-Ok-clause-shows
returns-in-Ok-clause-shows g c clean =
    let opened = c.in-Ok.ensures.opened clean in
    record { opens = opened.0; live = opened.1; finds = c.in-Ok.ensures.found clean }

abbrev image : List ℕ → List ℕ → Image
image log db = record { log = log; db = db }

pub returns-in-Err-clause-stands : goal.returns-in-Err-clause-stands
returns-in-Err-clause-stands g c =
    stands_as (image_at g.S.Start) _ (IsFresh true) (IsFresh false) _ (λ files log db. (
      ap₂ image (ap₂ (SeenOf g.S.Start.log g.S.Start.db) log.0 log.1)
          (ap₂ (SeenOf g.S.Start.log g.S.Start.db) db.0 db.1),
      λ left may. ap₂ image (leaves_only _ g.S.Start.log g.S.Start.db left.log _ true _ _ log.0 log.1 may.0)
          (leaves_only _ g.S.Start.log g.S.Start.db left.db _ false _ _ db.0 db.1 may.1),
    )) c.in-Err.ensures.cause
