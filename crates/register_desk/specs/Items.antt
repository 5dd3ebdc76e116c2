-- The items of an input, which come one after the other: how many of them were answered, and what became of the next
-- one. What comes from one place of an input to another is its source's to say.
use Rattle.std.specs.Prelude.{◌≡◌, ◌⊎◌, ℕ, List, [], ◌∷◌, ◌++◌, length, Option, IfSome}
use Rattle.sqlite_trees.specs.declared.store.Store.{Ghosts}
use Rattle.register_requests.specs.{declared.request.Request.Request, Request.IsRequest}
use Rattle.register_desk.specs.declared.end.End.TheVariants.{Memory, ReadFault}
use Rattle.register_desk.specs.declared.outcome.Finish.TheVariants.{AtEnd, Ended}
use Rattle.register_desk.specs.{declared.desk.Desk.Desk, declared.end.End.End, declared.outcome.Finish.Finish}
use Rattle.register_desk.specs.RunProgress.{AnsweredItems, LeavesItem}
use Rattle.register_desk.specs.Lives.{AreInRange}

-- a source ends for want of memory or by a fault of what it reads
abbrev pub IsOfReading : End → Type 0
IsOfReading Memory = Unit {0}
IsOfReading ReadFault = Unit {0}
IsOfReading end = ⊥

-- What came from one place of an input to another, whether nothing more came, and why nothing could be read.
module _ {P : Type 0} (Came : P → P → List (Option Request) → Type 0) (Ends : P → P → ℕ → Type 0)
    (Fails : P → P → End → Type 0) {S : Type 0} (g : Ghosts S) where
  -- Items came from the first place to the other; each was answered by its whole line. There are as many as replies.
  pub record ServedItems (start place : P) (old new : Option (List ℕ)) (kept now : Desk S g) (replies : ℕ) : Type 0
    where
      pub items : List (Option Request)
      pub in_range : AreInRange items
      pub came : Came start place items
      pub counted : length items ≡ replies
      pub so_far : AnsweredItems g old new kept now items

  -- The items up to the end were answered, and no further one came.
  pub record ServedAll (start last : P) (old new : Option (List ℕ)) (kept now : Desk S g) (replies rest : ℕ) : Type 0
    where
      pub place : P
      pub served : ServedItems start place old new kept now replies
      pub ends : Ends place last rest

  -- Items were answered, and the source failed to read a further one.
  pub record ServedUnread (start last : P) (old new : Option (List ℕ)) (kept now : Desk S g) (replies : ℕ) (end : End)
      : Type 0 where
    pub place : P
    pub served : ServedItems start place old new kept now replies
    pub of_reading : IsOfReading end
    pub fails : Fails place last end

  -- Items were answered, and one more came, of which the call left this.
  pub record ServedInPart (start last : P) (old new : Option (List ℕ)) (kept now : Desk S g) (replies : ℕ) (end : End)
      : Type 0 where
    pub place : P
    pub so_far : Option (List ℕ)
    pub mid : Desk S g
    pub item : Option Request
    pub part : ℕ
    pub served : ServedItems start place old so_far kept mid replies
    pub in_range : IfSome item IsRequest
    pub came : Came start last (served.items ++ item ∷ [])
    pub leaves : LeavesItem g mid now so_far new item end part

  -- What items were served by the end of the call: at the end of the source all; at any other end the source failed, or
  -- one more item came.
  abbrev pub ServedTo : P → P → Option (List ℕ) → Option (List ℕ) → Desk S g → Desk S g → ℕ → Finish → Type 0
  ServedTo start last old new kept now replies (AtEnd rest) = ServedAll start last old new kept now replies rest
  ServedTo start last old new kept now replies (Ended end) =
      ServedUnread start last old new kept now replies end ⊎ ServedInPart start last old new kept now replies end

  -- the items that were answered, and what became of the next one, by how it ended
  pub record Serves (start last : P) (old new : Option (List ℕ)) (kept now : Desk S g) (replies : ℕ) (end : Finish)
      : Type 0 where
    pub to : ServedTo start last old new kept now replies end
