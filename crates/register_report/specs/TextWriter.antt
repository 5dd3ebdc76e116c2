-- What is written of a text, and what of a table whose rows are given one at a time.
use Rattle.std.specs.Prelude.{◌≡◌, ℕ, List, Option}
use Rattle.std.specs.Io.KnownBytes.{Appends}
use Rattle.sqlite_trees.specs.declared.store.Store.{Ghosts}
use Rattle.register_desk.specs.declared.end.End.TheVariants.{Memory, Store, Broken, ReadFault, WriteFault, BadHeader}
use Rattle.register_desk.specs.declared.outcome.Finish.TheVariants.{AtEnd, Ended}
use Rattle.register_desk.specs.{declared.desk.Desk.Desk, declared.end.End.End, declared.outcome.Finish.Finish}
use Rattle.register_desk.specs.Desk.{ChangesNothing, IsBroken}
use Rattle.register_desk.specs.Run.{IsPrefixOf}

-- ---- whole calls

-- the text was written, or a prefix of it where the call ended before
abbrev pub WritesText : List ℕ → Finish → Option (List ℕ) → Option (List ℕ) → Type 0
WritesText text (AtEnd rest) old new = Appends old new text
WritesText text (Ended end) old new = (part : List ℕ) × IsPrefixOf part text × Appends old new part

-- an end of a call that writes out what a desk has: it reads no input
abbrev pub IsEndOfWriting : End → Type 0
IsEndOfWriting Memory = Unit {0}
IsEndOfWriting Store = Unit {0}
IsEndOfWriting Broken = Unit {0}
IsEndOfWriting ReadFault = ⊥
IsEndOfWriting WriteFault = Unit {0}
IsEndOfWriting BadHeader = ⊥

-- How a call that writes a text ends: at its end with nothing left, or by an end that reads no input.
abbrev pub EndsText : Finish → Type 0
EndsText (AtEnd rest) = rest ≡ 0
EndsText (Ended end) = IsEndOfWriting end

-- What such a call leaves of its desk: nothing changes, not even where the database refused a row,
-- and a broken desk is reported as such.
pub record LeavesAlone {S : Type 0} (g : Ghosts S) (old new : Desk S g)
    (end : Finish) : Type 0 where
  pub reads : ChangesNothing g old new
  pub mark : new.is_broken ≡ old.is_broken
  pub broken : IsBroken old → end ≡ Ended Broken
  pub was_broken : end ≡ Ended Broken → IsBroken old
