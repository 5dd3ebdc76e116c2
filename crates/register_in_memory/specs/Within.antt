-- What functions within the crate say of one another: no public contract stands on it.
use Rattle.std.specs.Prelude.{ℕ, List, Option}
use Rattle.sqlite_trees.specs.{declared.store.Store.Ghosts, View.IsClean as IsCleanStore}
use Rattle.sqlite.specs.State.{State}
use Rattle.register_desk.specs.{Within.ShowsNothing, declared.outcome.Outcome.Outcome}
use Rattle.register_in_memory.specs.InMemory.{RunsOverInput}

-- over an input whose bytes are known, in an empty database of a store that nothing makes doubtful, it is a run over
-- the items of these
abbrev pub RunsNew : {S : Type 0} → Ghosts S → State → Option (List ℕ) → Option (List ℕ) → Option (List ℕ) → Outcome
    → Type 0
RunsNew {S} g s input old new outcome =
    ShowsNothing s → ((store : S) → IsCleanStore (g.view store)) → RunsOverInput g input old new outcome
