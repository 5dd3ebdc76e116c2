-- What is said of closed files by what is left of a desk's database.
use Rattle.sqlite_trees.specs.{declared.store.Store.Ghosts, View.IsClean as IsCleanStore}
use Rattle.sqlite.specs.Recovery.{Image}
use Rattle.register_desk.specs.declared.end.End.TheVariants.{BadHeader, WriteFault}
use Rattle.register_desk.specs.Desk.{ChangesNothing, IsClean, IsWhole, LeavesEither}
use Rattle.register_desk.specs.{declared.desk.Desk.Desk, DatabaseFiles.HoldsRegister}
use Rattle.machine_traits.specs.Found.{HoldsNothing}
use Rattle.register_desk.specs.Lives.{LeavesLife, DeskLives as RunsSome}
use Rattle.register_desk.specs.declared.desk.DeskMark.{DeskMark}
use Rattle.register_desk.specs.{declared.outcome.Finish.Finish, declared.outcome.Finish.TheVariants.Ended}
use Rattle.register_desk.specs.Run.{LeavesDesk, RunsOver}
use Rattle.register_desk.specs.{declared.outcome.Outcome.Outcome, Register.StandsFor}
use Rattle.register_program.specs.FileCalls.{Exports, ImportsRows, LivesAnyway, OpensFirst, Reports, RunsLines}
use Rattle.register_program.specs.FileCalls.{ServesExchanges}
use Rattle.register_program.specs.Life.{LeavesInFiles, LeavesLifeInFiles, LivesSome, Refuses}
use Rattle.register_program.specs.declared.register_file.FileLife.{FileLife}
use Rattle.register_program.specs.Closing.{ClosesDesk, OfClosed}
use Rattle.machine_traits.specs.declared.files.Closed.{Closed}
use Rattle.register_program.specs.{Within.LeavesAsDesk, declared.refused.Refused.Refused}
use Rattle.std.proofs.Common.{◌≡◌, ◌∙◌, ◌+◌, ℕ, List, [], take, Option, Result, Ok, Err, ap, arith, subst, sym}
use Rattle.machine_traits.specs.Network.{Visit}
use Rattle.std.specs.Prelude.{IsErrAnd}
use Rattle.register_requests.specs.declared.request.Request.{Request}
use Rattle.register_core.specs.Fold.{IsLawful, history}
use Rattle.register_desk.proofs.Found.{leaves_alone, leaves_still}
use Rattle.register_words.specs.declared.values.Terms.{Terms}

-- what follows from what is said of either set of files is said of both
pub of_desk : {S : Type 0} {g : Ghosts S} {may_leave : S → Image → Type 0} {closed : Closed S} {desk : Desk S g}
    {P : (Image → Type 0) → Type 0} {Q : Desk S g → (Image → Type 0) → Type 0}
    → ClosesDesk g may_leave desk closed P → ((may : Image → Type 0) → P may → Q desk may)
    → OfClosed g may_leave closed Q
of_desk {desk = desk} both follows = (
  desk,
  record {
    before = both.before;
    gives = both.gives;
    closes = both.closes;
    up_to = follows _ both.up_to;
    from = follows _ both.from;
  },
)

-- ---- The life in files that a call was, whatever its reader told.

-- where an answer was written in part its item was applied, and a stop leaves that alone
pub fault_leaves : {S : Type 0} (g : Ghosts S) (h : List Request) (items : List (Option Request)) (rest : List ℕ)
    (outcome : Outcome) (old new : Option (List ℕ)) (kept now : Desk S g) → IsWhole kept
    → LeavesDesk kept now outcome.end → IsClean g now
    → RunsOver g h items rest outcome.end outcome.replies old new now → outcome.end ≡ Ended WriteFault
    → LeavesEither g (history h (take (outcome.replies + 1) items)) (history h (take (outcome.replies + 1) items)) now
fault_leaves g h items rest outcome old new kept now whole leaves clean over is =
    leaves_alone g _ now (over.in_part is).stands
    (leaves.whole whole (λ store. absurd (let both = sym is ∙ store in cc))) clean

module _ {S : Type 0} (g : Ghosts S) (may_leave : Image → Type 0) (outcome : Outcome) (old new : Option (List ℕ))
    (kept now : Desk S g) where
  lives_some : ((h : List Request) (items : List (Option Request)) (end : Finish) (replies : ℕ)
      → LeavesLife g h items end replies now → LeavesLifeInFiles h items end replies may_leave)
      → (h : List Request) → RunsSome g h outcome.end outcome.replies old new kept now → IsWhole kept
      → LivesSome g h outcome old new now may_leave
  lives_some into h runs whole = record {
    items = runs.items;
    rest = runs.rest;
    over = runs.over;
    leaves = into h runs.items outcome.end outcome.replies (runs.leaves whole);
  }

-- a call that opened a desk, and was a run over some items of whatever history that stood for
pub lives_anyway : {S U : Type 0} (g : Ghosts S) (may_leave : S → Image → Type 0) (may_stay : U → Image → Type 0)
    (found : Image) (outcome : Outcome) (mark : DeskMark) (files : Closed S) (old new : Option (List ℕ))
    (kept now : Desk S g) → IsWhole kept
    → (IsCleanStore (g.view files.store) → ClosesDesk g may_leave now files (LeavesAsDesk g now))
    → (IsCleanStore (g.view files.store) → IsClean g now) → (IsClean g now → IsClean g kept)
    → ((h : List Request) → IsLawful h → HoldsRegister h found → IsClean g kept → StandsFor g kept h)
    → (HoldsNothing found → IsClean g kept → ⊥)
    → (outcome.end ≡ Ended BadHeader → (new ≡ old) × (outcome.replies ≡ 0))
    → ((h : List Request) → StandsFor g kept h → IsClean g now
    → RunsSome g h outcome.end outcome.replies old new kept now)
    → LivesAnyway g may_leave may_stay found old new (Ok (record { outcome = outcome; mark = mark; files = files }))
lives_anyway g may_leave may_stay found outcome mark files old new kept now whole into closes before stands nothing
    unbegun runs =
    let some = λ (clean : IsCleanStore (g.view files.store)) (may : Image → Type 0) (leaves : LeavesAsDesk g now may)
    (h : List Request) (lawful : IsLawful h) (holds : HoldsRegister h found).
    lives_some g may outcome old new kept now leaves.lives
    h (runs h (stands h lawful holds (before (closes clean))) (closes clean)) whole in
    record {
      some = λ h lawful holds clean. of_desk (into clean) (λ may leaves. some clean may leaves h lawful holds);
      unbegun = unbegun;
      opens = record { nothing = λ none clean. nothing none (before (closes clean)); refuses = tt };
    }

-- a call that asked the desk of opened files changed nothing of what was left there
pub asked_leaves : {S : Type 0} {g : Ghosts S} {h : List Request} {kept now : Desk S g} {may : Image → Type 0}
    → ChangesNothing g kept now → StandsFor g kept h → IsWhole kept → IsClean g now → LeavesAsDesk g now may
    → LeavesInFiles h h may
asked_leaves {S} {g} {h} {kept} {now} changes stands whole clean leaves =
    leaves.one_of h h (leaves_still g h kept now changes stands whole clean)

-- and it opened a register
pub opens_asked : {S U : Type 0} {g : Ghosts S} {may_leave : S → Image → Type 0} {may_stay : U → Image → Type 0}
    {found : Image} {life : FileLife S} (kept now : Desk S g) → (HoldsNothing found → IsClean g kept → ⊥)
    → (IsClean g now → IsClean g kept) → (IsCleanStore (g.view life.files.store) → IsClean g now)
    → OpensFirst g may_leave may_stay found (Ok life)
opens_asked kept now nothing before after = record {
  nothing = λ none clean. nothing none (before (after clean));
  refuses = tt;
}

-- ---- a call that opened no register

err_is : {X S U : Type 0} (refused : Refused S U) (result : Result X (Refused S U))
    → IsErrAnd result (λ given. given ≡ refused) → result ≡ Err refused
err_is refused (Ok x) is = absurd is
err_is refused (Err given) is = ap (λ (e : Refused _ _). Err e) is

module _ {S U : Type 0} (g : Ghosts S) (may_leave : S → Image → Type 0) (may_stay : U → Image → Type 0)
    (found : Image) (refused : Refused S U) (refuses : Refuses g may_leave may_stay found refused) where
  opens_none : OpensFirst g may_leave may_stay found (Err refused)
  opens_none = record { nothing = λ none. tt; refuses = refuses }

  lives_none : (old new : Option (List ℕ)) → LivesAnyway g may_leave may_stay found old new (Err refused)
  lives_none old new = record {
    some = λ h lawful holds. tt;
    unbegun = tt;
    opens = opens_none;
  }

  pub runs_none : (input old new : Option (List ℕ)) (result : Result (FileLife S) (Refused S U))
      → IsErrAnd result (λ given. given ≡ refused) → RunsLines g may_leave may_stay found input old new result
  runs_none input old new result is = subst (RunsLines g may_leave may_stay found input old new)
      (sym (err_is refused result is))
      (record { lives = λ h bytes items rest lawful holds known has. tt; anyway = lives_none old new })

  pub imports_none : (terms : Terms) (input old new : Option (List ℕ)) (result : Result (FileLife S) (Refused S U))
      → IsErrAnd result (λ given. given ≡ refused) → ImportsRows g may_leave may_stay found terms input old new result
  imports_none terms input old new result is =
      subst (ImportsRows g may_leave may_stay found terms input old new) (sym (err_is refused result is)) (record {
        lives = λ h bytes items lawful holds known has. tt;
        without = λ h bytes lawful holds known none. tt;
        anyway = lives_none old new;
      })

  pub reports_none : (days : ℕ) (old new : Option (List ℕ)) (result : Result (FileLife S) (Refused S U))
      → IsErrAnd result (λ given. given ≡ refused) → Reports g may_leave may_stay found days old new result
  reports_none days old new result is =
      subst (Reports g may_leave may_stay found days old new) (sym (err_is refused result is)) (record {
        keeps = λ h lawful holds. tt;
        lives = λ h rows lawful holds are. tt;
        opens = opens_none;
      })

  pub exports_none : (old new : Option (List ℕ)) (result : Result (FileLife S) (Refused S U))
      → IsErrAnd result (λ given. given ≡ refused) → Exports g may_leave may_stay found old new result
  exports_none old new result is = subst (Exports g may_leave may_stay found old new) (sym (err_is refused result is))
      (record { lives = λ h lawful holds. tt; opens = opens_none })

  pub serves_none : (most : ℕ) (visits visits_new : Option (List Visit)) (accepted : ℕ)
      (result : Result (FileLife S) (Refused S U)) → visits_new ≡ visits → accepted ≡ 0
      → IsErrAnd result (λ given. given ≡ refused)
      → ServesExchanges g may_leave may_stay found most visits visits_new accepted result
  serves_none most visits visits_new accepted result same none is =
      subst (ServesExchanges g may_leave may_stay found most visits visits_new accepted)
      (sym (err_is refused result is)) (record {
        clients = [];
        attends = tt;
        few = omega arith;
        lives = λ h lawful holds. tt;
        ends = tt;
        nobody = (same, none);
        opens = opens_none;
      })
