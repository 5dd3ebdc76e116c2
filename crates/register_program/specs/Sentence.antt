-- The sentence that the work serves, of the runs of the program over the files of one register: opening the files again
-- finds exactly the register of what was accepted, with every request whose reply line was written and at most one more
-- of each run. A stop within a write is a disk that fails from that write on.
use Rattle.std.specs.Prelude.{◌≡◌, ◌⊎◌, ℕ, ◌+◌, ◌≤◌, ◌++◌, Bool, true, false, List, [], ◌∷◌, length, take}
use Rattle.std.specs.Prelude.{Option, None, Some, Ok, Err, IfSome}
use Rattle.std.specs.{List.AllByRecursion, Io.KnownBytes.Appends}
use Rattle.sqlite_trees.specs.{declared.store.Store.Ghosts, View.IsClean as IsCleanStore}
use Rattle.sqlite.specs.Recovery.{Image}
use Rattle.register_requests.specs.{declared.request.Request.Request, Request.IsRequest}
use Rattle.register_core.specs.{Fold.IsLawful, Fold.answers, Fold.history_after, Verdict.Accepts, Verdict.verdict}
use Rattle.register_desk.specs.DatabaseFiles.{HoldsRegister}
use Rattle.machine_traits.specs.Found.{HoldsNothing}
use Rattle.register_desk.specs.Lives.{Life, after, after_lives}
use Rattle.register_desk.specs.Run.{IsPrefixOf, answer_lines}
use Rattle.register_desk.specs.declared.outcome.Finish.TheVariants.{AtEnd}
use Rattle.register_desk.specs.{declared.outcome.Finish.Finish, declared.outcome.Outcome.Outcome, Input.HasItems}
use Rattle.register_program.specs.declared.refused.RefusedFiles.{RefusedFiles}
use Rattle.register_program.specs.declared.refused.RefusedFiles.TheVariants.{Failed, Shut}
use Rattle.register_program.specs.declared.acting.Done.TheVariants.{Lived, Made}
use Rattle.register_program.specs.declared.acting.Done.{Done}
use Rattle.machine_traits.specs.{declared.files.Closed.Closed, Closing.LeftIn, Network.Visit}
use Rattle.register_http.specs.ServedExchanges.{AreServed, Attends, ServedClient, count_known}
use Rattle.register_program.specs.declared.acting.Asked.{Asked}
use Rattle.register_program.specs.{declared.acting.Ran.Ran, Traffic.Traffic}
use Rattle.register_report.specs.ImportRows.{BeginsWithHeader, HasRowItems}
use Rattle.register_words.specs.declared.values.Terms.{Terms}
use Rattle.register_words.specs.declared.words.Job.{Job}
use Rattle.register_words.specs.declared.words.Job.TheVariants.{Import, Run, Serve}

-- ---- a run

-- A run of the program over the register's files: what these held; its job; what it read and wrote, and whom it served;
-- its life, where it opened the register; and what it left in the files, or a stop did.
pub record ProgramRun : Type 0 where
  pub found : Image
  pub job : Job
  pub traffic : Traffic
  pub outcome : Option Outcome
  pub left : Image

-- ---- the life that a run was

-- the items are those of the input, where its bytes are known
abbrev pub AreItemsOf : Option (List ℕ) → List (Option Request) → Type 0
AreItemsOf input items = IfSome input (λ bytes. (rest : List ℕ) × HasItems bytes items rest)

-- The items are those of the rows of the input, by the terms of its import, where its bytes are known: of an input
-- without its header row there are none.
abbrev pub AreRowItemsOf : Terms → Option (List ℕ) → List (Option Request) → Type 0
AreRowItemsOf terms input items = IfSome input (λ bytes.
    HasRowItems terms.moment terms.caller terms.first bytes items ⊎ ((BeginsWithHeader bytes → ⊥) × (items ≡ [])))

-- What was written has the reply line of each item that was answered, whole and in order, and nothing past the line of
-- one that was applied.
pub record WroteAnswers (h : List Request) (life : Life) (old new : Option (List ℕ)) : Type 0 where
  pub text : List ℕ
  pub written : Appends old new text
  pub answered : IsPrefixOf (answer_lines (take life.replies (answers h life.items))) text
  pub at_most_applied : IsPrefixOf text (answer_lines (take life.applied (answers h life.items)))

-- Clients were served, one item of each: all whom the network had, but perhaps the last. All items were answered by the
-- register, but perhaps the last one where the database refused.
pub record ServedLife (h : List Request) (traffic : Traffic) (end : Finish) (life : Life) : Type 0 where
  pub clients : List ServedClient
  pub attends : Attends traffic.before traffic.after clients traffic.accepted end
  pub served : AreServed h clients life.items
  pub known : life.replies ≡ count_known end (length clients)

-- How a life fits the job of its run and its end. `Run` and `Import` wrote its answers and counted its replies; the items
-- are those of the input's lines, or of its rows. Those of `Serve` are its clients'. Any other job, or one that opened no
-- register, has no items.
abbrev pub IsLifeOf : List Request → Job → Option Outcome → Traffic → Life → Type 0
IsLifeOf h Run (Some outcome) it life =
    (life.replies ≡ outcome.replies) × AreItemsOf it.input life.items × WroteAnswers h life it.old it.new
IsLifeOf h (Import terms) (Some outcome) it life =
    (life.replies ≡ outcome.replies) × AreRowItemsOf terms it.input life.items × WroteAnswers h life it.old it.new
IsLifeOf h (Serve bounds) (Some outcome) it life = ServedLife h it outcome.end life
IsLifeOf h job outcome it life = life.items ≡ []

-- The run was this life, from the history h: as many items were applied as were answered, or one more.
pub record WasLife (h : List Request) (run : ProgramRun) (life : Life) : Type 0 where
  pub in_range : AllByRecursion (λ item. IfSome item IsRequest) life.items
  pub applied : (life.replies ≤ life.applied) × (life.applied ≤ life.replies + 1) × (life.applied ≤ length life.items)
  pub is : IsLifeOf h run.job run.outcome run.traffic life

-- The history is empty and the files hold no database or an empty one, or the files hold exactly the register of the
-- history.
abbrev pub HoldsHistory : List Request → Image → Type 0
HoldsHistory h image = (HoldsNothing image × (h ≡ [])) ⊎ HoldsRegister h image

-- The step: from files that hold the register of a history it leads to such as hold it after the life that it was.
abbrev pub Leads : ProgramRun → Type 0
Leads run =
    (h : List Request) → IsLawful h → HoldsHistory h run.found
    → ∥ ((life : Life) × WasLife h run life × HoldsHistory (after h life) run.left) ∥₁

-- ---- runs

-- the runs were these lives, one after the other
abbrev pub Were : List Request → List ProgramRun → List Life → Type 0
Were h [] [] = Unit {0}
Were h (run ∷ runs) (life ∷ lives) = WasLife h run life × Were (after h life) runs lives
Were h [] (life ∷ lives) = ⊥
Were h (run ∷ runs) [] = ⊥

-- Some lives match the runs one by one, from the history h on. The history after them is lawful, and the files hold
-- exactly that history.
pub record FoundAgain (h : List Request) (runs : List ProgramRun) (left : Image) : Type 0 where
  pub lives : List Life
  pub were : Were h runs lives
  pub lawful : IsLawful (after_lives h lives)
  pub holds : HoldsHistory (after_lives h lives) left

-- Where the runs that were are found again in what the file holds, so are they with those that came since.
abbrev pub StayFoundAgain : List ProgramRun → Image → List ProgramRun → Image → Type 0
StayFoundAgain runs now runs_new now_new =
    (h : List Request) → FoundAgain h runs now → ∥ FoundAgain h runs_new now_new ∥₁

-- The sentence: from a file that holds nothing or the register of a history, and no run yet, the runs that were are found
-- again in what it holds.
abbrev pub FindsAgain : List ProgramRun → Image → List ProgramRun → Image → Type 0
FindsAgain runs now runs_new now_new =
    (h : List Request) → IsLawful h → HoldsHistory h now → runs ≡ [] → ∥ FoundAgain h runs_new now_new ∥₁

-- A run was, or nobody asks for one.
abbrev pub RunsUnlessIdle : Bool → Type 0 → Type 0 → List ProgramRun → List ProgramRun → Type 0
RunsUnlessIdle true IsHonest IsIdle runs runs_new = IsHonest → length runs_new ≡ length runs + 1
RunsUnlessIdle false IsHonest IsIdle runs runs_new = IsIdle

-- So many runs were, or nobody asks for one.
abbrev pub RunsAsOften : ℕ → Type 0 → Type 0 → List ProgramRun → List ProgramRun → Type 0
RunsAsOften most IsHonest IsIdle runs runs_new = IsHonest → IsIdle ⊎ (length runs_new ≡ length runs + most)

-- ---- who was answered

-- the request is one of the history
abbrev pub IsIn : Request → List Request → Type 0
IsIn q h = (before later : List Request) × (h ≡ before ++ q ∷ later)

-- A client handed on this request, which the register that served it accepts, and its exchange came to its end: the reply
-- was sent whole.
abbrev pub WasAnswered : List Request → List ServedClient → List (Option Request) → Request → Type 0
WasAnswered h (client ∷ clients) (item ∷ items) q =
    ((client.outcome.end ≡ AtEnd 0) × (item ≡ Some q) × (verdict h q ≡ Accepts))
    ⊎ WasAnswered (history_after h item) clients items q
WasAnswered h clients items q = ⊥

-- ---- what a job leaves in the files

-- the life of a job that opened the register
abbrev pub outcome_of : {S U : Type 0} → Done S U → Option Outcome
outcome_of (Lived (Ok lived)) = Some lived.outcome
outcome_of _ = None

-- in files that were closed, on a disk that gave back what was written
abbrev pub LeftByClosed : {S : Type 0} → Ghosts S → (S → Image → Type 0) → Closed S → Image → Type 0
LeftByClosed g may_leave closed left = IsCleanStore (g.view closed.store) × LeftIn g may_leave closed left

module _ {S U : Type 0} (g : Ghosts S) (may_leave : S → Image → Type 0) (may_stay : U → Image → Type 0) where
  -- in files that were refused, on such a disk, or could not be opened
  abbrev pub LeftByRefused : RefusedFiles S U → Image → Type 0
  LeftByRefused (Failed it) left = may_stay it left
  LeftByRefused (Shut store) left = IsCleanStore (g.view store) × may_leave store left

  -- by what a job came to
  abbrev pub LeftBy : Done S U → Image → Type 0
  LeftBy (Made (Ok closed)) left = LeftByClosed g may_leave closed left
  LeftBy (Made (Err refused)) left = LeftByRefused refused.files left
  LeftBy (Lived (Ok lived)) left = LeftByClosed g may_leave lived.files left
  LeftBy (Lived (Err refused)) left = LeftByRefused refused.files left

  -- The run of a job that came to this leads on, whatever of what it may have left is found.
  abbrev pub LeadsFrom : Image → Job → Traffic → Done S U → Type 0
  LeadsFrom found job traffic done =
      (left : Image) → LeftBy done left
      → Leads (record { found = found; job = job; traffic = traffic; outcome = outcome_of done; left = left })

-- ---- a run that was asked for

-- What a run begins with: its job, what is to come of its input, what had been written before it, and whom the network
-- had had, where these are known.
pub record Begun : Type 0 where
  pub job : Job
  pub input : Option (List ℕ)
  pub old : Option (List ℕ)
  pub before : Option (List Visit)

module _ {R W N : Type 0} (remaining : R → Option (List ℕ)) (contents : W → Option (List ℕ))
    (visits : N → Option (List Visit)) where
  -- with what was asked for
  abbrev pub begun_by : {F E : Type 0} → Asked F N R W E → Begun
  begun_by asked = record {
    job = asked.job;
    input = remaining asked.reader;
    old = contents asked.outputs.writer.inner;
    before = visits asked.network;
  }

-- the run that began so over files that held `found`, gave this back, and left `left`
abbrev pub run_of : {S U R W N E : Type 0} → (W → Option (List ℕ)) → (N → Option (List Visit)) → Begun → Image
    → Ran S U N R W E → Image → ProgramRun
run_of contents visits begun found ran left = record {
  found = found;
  job = begun.job;
  traffic = record {
    input = begun.input;
    old = begun.old;
    new = contents ran.outputs.writer.inner;
    before = begun.before;
    after = visits ran.inputs.network;
    accepted = ran.inputs.attendance.accepted;
  };
  outcome = outcome_of ran.acted.done;
  left = left;
}
