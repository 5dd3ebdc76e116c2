-- A run over a register in memory.
use Rattle.std.specs.Prelude.{◌≡◌, ◌≢◌, ℕ, List, [], Option, Some}
use Rattle.sqlite_trees.specs.declared.store.Store.{Ghosts}
use Rattle.sqlite_store.specs.declared.store.FileStore.{FileStore}
use Rattle.sqlite.specs.Files.{over_files}
use Rattle.memory_disk.specs.declared.MemoryDisk.{MemoryDisk}
use Rattle.memory_disk.specs.contracts.MemoryDiskDisk.TheImpl as disk
use Rattle.register_requests.specs.declared.request.Request.{Request}
use Rattle.register_desk.specs.{declared.end.End.TheVariants.Broken, declared.outcome.Finish.TheVariants.Ended}
use Rattle.register_desk.specs.{declared.desk.Desk.Desk, declared.outcome.Outcome.Outcome, Input.HasItems, Run.RunsOver}

-- A database file in memory, with its log.
abbrev pub MemoryStore : Type 0
MemoryStore = FileStore MemoryDisk disk.ghosts

-- The specification state of a database over a file in memory and its log.
abbrev pub over_memory : Ghosts MemoryStore
over_memory = over_files

-- From the empty history it was a run over these items; a new register is never a broken one.
pub record RunsFromNone {S : Type 0} (g : Ghosts S) (items : List (Option Request)) (rest : List ℕ)
    (old new : Option (List ℕ)) (outcome : Outcome) : Type 0 where
  pub desk : Desk S g
  pub over : RunsOver g [] items rest outcome.end outcome.replies old new desk
  pub sound : outcome.end ≢ Ended Broken

-- over an input whose bytes are known it is a run over the items of these
abbrev pub RunsOverInput : {S : Type 0} → Ghosts S → Option (List ℕ) → Option (List ℕ) → Option (List ℕ) → Outcome
    → Type 0
RunsOverInput g input old new outcome =
    (bytes : List ℕ) (items : List (Option Request)) (rest : List ℕ)
    → input ≡ Some bytes → HasItems bytes items rest → RunsFromNone g items rest old new outcome

-- so it is over a register in memory
abbrev pub RunsInMemory : Option (List ℕ) → Option (List ℕ) → Option (List ℕ) → Outcome → Type 0
RunsInMemory = RunsOverInput over_memory
