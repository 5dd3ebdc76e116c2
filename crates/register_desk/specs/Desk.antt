-- What the calls of a desk leave.
use Rattle.std.specs.Prelude.{◌≡◌, ◌≢◌, ◌⊎◌, ◌<◌, ◌≤◌, ℕ, Bool, true, false, List, [], ◌∷◌, Option, None, Some, Result}
use Rattle.std.specs.Prelude.{Ok, Err, IfErr, IfOk, IsTrue, MatchResult, OnErr}
use Rattle.sqlite_trees.specs.declared.store.Store.{Ghosts}
use Rattle.sqlite.specs.{State.HasCleanDisk, State.Survives, Held.Held as Connection}
use Rattle.register_core.specs.declared.answer.Answer.TheVariants.{Accepted, Repeated, Refused}
use Rattle.register_core.specs.{declared.kept_reply.KeptReply.KeptReply, Verdict.answer, Verdict.answer_by}
use Rattle.register_core.specs.{declared.answer.Answer.Answer, Answer.UnlessAccepted, Fold.history}
use Rattle.register_requests.specs.{declared.request.Request.Request, Request.IsRequest}
use Rattle.register_tables.specs.TableReads.{Calls, HasRequest, seen}
use Rattle.register_tables.specs.Tables.{Tables}
use Rattle.register_desk.specs.TablesView.{judgement_over, reply_over, tables_after, verdict_over, with_accepted}
use Rattle.register_desk.specs.declared.end.End.TheVariants.{Memory, Store, Broken, ReadFault, WriteFault, BadHeader}
use Rattle.register_desk.specs.Register.{IsOver, Sees, Leaves, LeavesOneOf, LeavesEitherOf, StandsFor}
use Rattle.register_desk.specs.{declared.desk.Desk.Desk, declared.desk.DeskMark.DeskMark, declared.end.End.End}

module _ {S : Type 0} {g : Ghosts S} where
  -- The database has refused this desk no call.
  abbrev pub IsWhole : Desk S g → Type 0
  IsWhole desk = desk.is_broken ≡ false

  -- The database refused the desk a call; the desk uses it no more.
  abbrev pub IsBroken : Desk S g → Type 0
  IsBroken desk = desk.is_broken ≡ true

  -- The connection of a desk to its database.
  abbrev pub connection_of : Desk S g → Connection S
  connection_of desk = desk.connection.connection

  -- the desk was given up with this mark
  abbrev pub IsMarkOf : DeskMark → Desk S g → Type 0
  IsMarkOf mark desk = mark.is_broken ≡ desk.is_broken

  -- ---- ends

  -- the desk before and after each end: whole or broken
  abbrev pub EndsBy : Desk S g → Desk S g → End → Type 0
  EndsBy old new Memory = IsWhole old × IsWhole new
  EndsBy old new Store = IsWhole old × IsBroken new
  EndsBy old new Broken = IsBroken old × (new ≡ old)
  EndsBy old new ReadFault = ⊥
  EndsBy old new WriteFault = ⊥
  EndsBy old new BadHeader = ⊥

  -- a call that went on to its end: a whole desk stays whole, and a broken one is as it was
  pub record GoesOn (old new : Desk S g) : Type 0 where
    pub whole : IsWhole old → IsWhole new
    pub broken : IsBroken old → new ≡ old

  -- a call that uses the database: a whole desk alone answers, and stays whole; an end leaves it as it says
  abbrev pub Ends : {T : Type 0} → Desk S g → Desk S g → Result T End → Type 0
  Ends old new result = MatchResult result (λ _. IsWhole old × IsWhole new) (EndsBy old new)

-- whether the desk had broken when it was given up
abbrev pub was_broken : DeskMark → Bool
was_broken mark = mark.is_broken

-- the steps that the database has taken for the desk
abbrev pub steps_of : {S : Type 0} {g : Ghosts S} → Desk S g → ℕ
steps_of desk = desk.connection.steps

-- The database took at most this many steps between the one desk and the other.
abbrev pub TakesSteps : {S : Type 0} {g : Ghosts S} → ℕ → Desk S g → Desk S g → Type 0
TakesSteps most old new = Calls most old.connection new.connection

-- the disk has given back what was written
abbrev pub IsClean : {S : Type 0} → (g : Ghosts S) → Desk S g → Type 0
IsClean g desk = HasCleanDisk (seen g desk.connection)

-- The call takes at most this many steps of the database, whatever history the desk stands for.
abbrev pub KeepsToSteps : {S : Type 0} → (g : Ghosts S) → ℕ → Desk S g → Desk S g → Type 0
KeepsToSteps g most old new = (h : List Request) → StandsFor g old h → IsClean g new → TakesSteps most old new

-- The connection of the desk is open: no fault has shut it, where the disk gave back what was written.
abbrev pub IsOpen : {S : Type 0} → (g : Ghosts S) → Desk S g → Type 0
IsOpen g desk = IsClean g desk → IsTrue (seen g desk.connection).is_open

-- The latest moment that the desk has stored with its connection.
abbrev pub latest_of : {S : Type 0} {g : Ghosts S} → Desk S g → ℕ
latest_of desk = desk.latest

-- The number of keys that the desk counts.
abbrev pub keys_of : {S : Type 0} {g : Ghosts S} → Desk S g → ℕ
keys_of desk = desk.keys

-- the desk counts no key with this number
abbrev pub IsNoKey : ℕ → ℕ → Type 0
IsNoKey keys number = (number ≡ 0) ⊎ (keys < number)

-- a reply that is given again is no later than that moment, and of no key beyond
abbrev pub RepeatsWithin : ℕ → ℕ → Answer → Type 0
RepeatsWithin latest keys (Accepted reply) = Unit {0}
RepeatsWithin latest keys (Repeated first) = (first.moment ≤ latest) × (first.key ≤ keys)
RepeatsWithin latest keys (Refused refusal) = Unit {0}

-- ---- what stands, and what a stop leaves

-- a stop leaves the register of one of these two histories
abbrev pub LeavesEither : {S : Type 0} → (g : Ghosts S) → List Request → List Request → Desk S g → Type 0
LeavesEither g h other desk = LeavesOneOf h other (seen g desk.connection)

-- The answer to the request over these tables: what they keep under its caller and number decides, and where they keep
-- nothing there the judgement. Then the desk is over the tables after it.
pub record IsAnsweredOver {S : Type 0} (g : Ghosts S) (t : Tables) (q : Request) (given : Answer) (desk : Desk S g)
    : Type 0 where
  pub found : Option KeptReply
  pub kept : HasRequest q.caller q.number t found
  pub answer_is : given ≡ answer_by (verdict_over t q found) (reply_over t q)
  pub over : IsOver g desk (tables_after t q given)

-- these tables keep nothing under the request's caller and number
abbrev pub IsNew : Tables → Request → Type 0
IsNew t q = HasRequest q.caller q.number t None

-- the request is to be accepted over these tables: it is new to them, and no refusal holds
pub record IsAcceptedOver (t : Tables) (q : Request) : Type 0 where
  pub new : IsNew t q
  pub judged : judgement_over t q ≡ None

-- a stop leaves these tables, or them with the request where that is to be accepted
abbrev pub LeavesWithRequest : {S : Type 0} → (g : Ghosts S) → Tables → Request → Desk S g → Type 0
LeavesWithRequest g t q desk =
    Leaves t (seen g desk.connection)
    ⊎ (IsAcceptedOver t q × LeavesEitherOf t (with_accepted t q) (seen g desk.connection))

-- the latest moment and the number of keys are as they were
pub record KeepsCounts {S : Type 0} {g : Ghosts S} (old new : Desk S g) : Type 0 where
  pub latest : new.latest ≡ old.latest
  pub keys : new.keys ≡ old.keys

-- the call changed nothing: whatever tables the desk saw it sees, and a stop leaves what it left before, whatever the
-- database holds
pub record ChangesNothing {S : Type 0} (g : Ghosts S) (old new : Desk S g) : Type 0 where
  pub clean : IsClean g new → IsClean g old
  pub counts : KeepsCounts old new
  pub rows : (t : Tables) → Sees g t old → Sees g t new
  pub survives : Survives (seen g old.connection) (seen g new.connection) (λ _. ⊥)

-- A call that asks: it changes nothing, an answer leaves a whole desk and an end what it says, and the database takes
-- at most so many steps for it where the desk stands for a history.
pub record Asks {S T : Type 0} (g : Ghosts S) (most : ℕ) (old new : Desk S g) (result : Result T End) : Type 0 where
  pub ends : Ends old new result
  pub reads : ChangesNothing g old new
  pub steps : KeepsToSteps g most old new

-- The answer to the request over a history is the verdict, and then the desk stands for the history with the request
-- at its end, if that was accepted.
pub record IsAnsweredTo {S : Type 0} (g : Ghosts S) (h : List Request) (q : Request) (given : Answer) (desk : Desk S g)
    : Type 0 where
  pub answer_is : given ≡ answer h q
  pub stands : StandsFor g desk (history h (Some q ∷ []))

-- What applying a request does to a desk of which something is so: an answer comes with what is to be so of both; at
-- any end it is so of the desk still, and after the end 31 a stop leaves what is to be left.
pub record Applies {S : Type 0} {g : Ghosts S} (q : Request) (Is : Desk S g → Type 0)
    (IsAnswered : Answer → Desk S g → Type 0) (IsLeft : Desk S g → Type 0) (old new : Desk S g)
    (result : Result Answer End) : Type 0 where
  pub answers : Is old → IsRequest q → IsClean g new → IfOk result (λ given. IsAnswered given new)
  pub still : Is old → OnErr result (Is new)
  pub leaves : Is old → IsRequest q → IsClean g new → IfErr result (λ end. end ≡ Store → IsLeft new)

-- Applying a request over tables, whatever history these are of if any: they answer it, and an accepted request makes
-- one change of them; nothing else does, and after the end 31 a stop leaves them, or them with the request.
abbrev pub AppliesOver : {S : Type 0} → (g : Ghosts S) → Tables → Request → Desk S g → Desk S g → Result Answer End
    → Type 0
AppliesOver g t q old new result =
    Applies q (λ desk. IsOver g desk t) (IsAnsweredOver g t q) (LeavesWithRequest g t q) old new result

-- Applying a request to a desk that stands for a history: the answer is the verdict over that, and after the end 31 a
-- stop leaves the register without the request, or with it where it is to be accepted.
abbrev pub AppliesTo : {S : Type 0} → (g : Ghosts S) → List Request → Request → Desk S g → Desk S g
    → Result Answer End → Type 0
AppliesTo g h q old new result =
    Applies q (λ desk. StandsFor g desk h) (IsAnsweredTo g h q)
    (LeavesEither g h (history h (Some q ∷ []))) old new result

-- this is so unless the call may have changed something: it accepted a request, or the database refused it
abbrev pub UnlessChanged : Result Answer End → Type 0 → Type 0
UnlessChanged (Ok given) P = UnlessAccepted given P
UnlessChanged (Err end) P = end ≢ Store → P
