-- What the items that were answered so far made of the desk and of the bytes, apart from where they came from; and the
-- lines that a run takes them from. That it is what the history says is proved of `run`.
use Rattle.std.specs.Prelude.{◌≡◌, ℕ, ◌≤◌, true, false, List, [], length, take, Option, None, Some, Err}
use Rattle.std.specs.Io.KnownBytes.{Appends}
use Rattle.sqlite_trees.specs.declared.store.Store.{Ghosts}
use Rattle.sqlite.specs.State.{HasCleanDisk}
use Rattle.register_tables.specs.TableReads.{seen}
use Rattle.register_requests.specs.{declared.request.Request.Request, CommandRule.looks_at_custody}
use Rattle.register_core.specs.Fold.{history, history_after, answers, answer_to}
use Rattle.register_core.specs.declared.reply.Refusal.TheVariants.{BadLine}
use Rattle.register_desk.specs.declared.end.End.TheVariants.{Memory, Store, Broken, ReadFault, WriteFault, BadHeader}
use Rattle.register_desk.specs.Register.{StandsFor, LeavesOneOf}
use Rattle.register_desk.specs.Run.{AreNoRequests, bad_lines, answer_line, answer_lines}
use Rattle.register_desk.specs.Desk.{EndsBy, GoesOn}
use Rattle.register_desk.specs.{declared.end.End.End, declared.desk.Desk.Desk}

module _ {S : Type 0} (g : Ghosts S) where
  -- ---- one item

  -- the item was applied, and this is the line of its answer
  abbrev pub AnswersItem : Desk S g → Desk S g → Option Request → List ℕ → Type 0
  AnswersItem kept now item line =
      (h : List Request) → StandsFor g kept h → HasCleanDisk (seen g now.connection)
      → (line ≡ answer_line (answer_to h item)) × StandsFor g now (history_after h item)

  -- a disk that is clean was so before
  abbrev pub WasClean : Desk S g → Desk S g → Type 0
  WasClean kept now = HasCleanDisk (seen g now.connection) → HasCleanDisk (seen g kept.connection)

  -- a broken desk answers no request
  abbrev pub IsQuiet : Desk S g → Option Request → List ℕ → Type 0
  IsQuiet kept item line = kept.is_broken ≡ true → (item ≡ None) × (line ≡ answer_line (Err BadLine))

  -- the item was answered by a whole line, of this number of bytes, and applied
  pub record ServesItem (kept now : Desk S g) (old new : Option (List ℕ)) (item : Option Request) (count : ℕ) : Type 0
    where
      pub line : List ℕ
      pub written : Appends old new line
      pub counted : count ≡ length line
      pub answers : AnswersItem kept now item line
      pub clean : WasClean kept now
      pub quiet : IsQuiet kept item line

  -- the database refused the item, which broke the desk
  pub record BreaksAt (kept now : Desk S g) (item : Option Request) : Type 0 where
    pub request : Request
    pub is : item ≡ Some request
    pub was : kept.is_broken ≡ false
    pub broken : now.is_broken ≡ true
    pub stands : (h : List Request) → StandsFor g kept h → StandsFor g now h
    pub leaves : (h : List Request) → StandsFor g kept h → HasCleanDisk (seen g now.connection)
        → LeavesOneOf h (history_after h (Some request)) (seen g now.connection)
    pub clean : WasClean kept now

  -- the desk was broken when the item came, and nothing changed
  pub record IsBrokenAt (kept now : Desk S g) (item : Option Request) : Type 0 where
    pub request : Request
    pub is : item ≡ Some request
    pub broken : now.is_broken ≡ true
    pub same : now ≡ kept

  -- memory gave out before the item was applied, a request that looks at the custody of a key, and the desk goes on to
  -- stand for what it stood for
  pub record HoldsBack (kept now : Desk S g) (item : Option Request) : Type 0 where
    pub request : Request
    pub is : item ≡ Some request
    pub looks : looks_at_custody request.command ≡ true
    pub was : kept.is_broken ≡ false
    pub whole : now.is_broken ≡ false
    pub stands : (h : List Request) → StandsFor g kept h → StandsFor g now h
    pub clean : WasClean kept now

  -- What an end leaves of the desk and of the item that it stopped.
  abbrev pub StopsItem : Desk S g → Desk S g → Option Request → End → Type 0
  StopsItem kept now item Store = BreaksAt kept now item
  StopsItem kept now item Broken = IsBrokenAt kept now item
  StopsItem kept now item Memory = HoldsBack kept now item
  StopsItem kept now item ReadFault = ⊥
  StopsItem kept now item WriteFault = ⊥
  StopsItem kept now item BadHeader = ⊥

  -- the item was applied, and so much of its answer's line was written
  pub record WritesInPart (kept now : Desk S g) (old new : Option (List ℕ)) (item : Option Request) (part : ℕ) : Type
      0 where
    pub line : List ℕ
    pub written : Appends old new (take part line)
    pub within : part ≤ length line
    pub answers : AnswersItem kept now item line
    pub clean : WasClean kept now
    pub quiet : IsQuiet kept item line

  -- what an item leaves whose answer was not written whole
  abbrev pub LeavesItem : Desk S g → Desk S g → Option (List ℕ) → Option (List ℕ) → Option Request → End → ℕ → Type 0
  LeavesItem kept now old new item Memory part = StopsItem kept now item Memory × Appends old new [] × (part ≡ 0)
  LeavesItem kept now old new item Store part = StopsItem kept now item Store × Appends old new [] × (part ≡ 0)
  LeavesItem kept now old new item Broken part = StopsItem kept now item Broken × Appends old new [] × (part ≡ 0)
  LeavesItem kept now old new item ReadFault part = StopsItem kept now item ReadFault
  LeavesItem kept now old new item WriteFault part = WritesInPart kept now old new item part
  LeavesItem kept now old new item BadHeader part = StopsItem kept now item BadHeader

  -- what the end of an item leaves of the desk: a fault of the writer comes after an item that was applied
  abbrev pub StopsBy : Desk S g → Desk S g → End → Type 0
  StopsBy kept now Memory = EndsBy kept now Memory
  StopsBy kept now Store = EndsBy kept now Store
  StopsBy kept now Broken = EndsBy kept now Broken
  StopsBy kept now ReadFault = EndsBy kept now ReadFault
  StopsBy kept now WriteFault = GoesOn kept now
  StopsBy kept now BadHeader = EndsBy kept now BadHeader

  -- ---- the items so far

  -- a broken desk refused these items, which are no requests, and is as it was
  pub record Quiet (kept now : Desk S g) (old new : Option (List ℕ)) (items : List (Option Request)) : Type 0 where
    pub same : now ≡ kept
    pub none : AreNoRequests items
    pub written : Appends old new (bad_lines items)

  -- these items were answered, each by its whole line, and applied, wherever they came from
  pub record AnsweredItems (old new : Option (List ℕ)) (kept now : Desk S g) (items : List (Option Request)) : Type 0
    where
      pub answered : (h : List Request) → StandsFor g kept h → HasCleanDisk (seen g now.connection)
          → Appends old new (answer_lines (answers h items)) × StandsFor g now (history h items)
      pub clean : WasClean kept now
      pub quiet : kept.is_broken ≡ true → Quiet kept now old new items
