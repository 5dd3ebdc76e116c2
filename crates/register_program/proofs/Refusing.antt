-- Files that were refused are left as they were found.
use Rattle.std.proofs.Common.{◌≡◌, ◌⊎◌, List, [], Result, Ok, Err, IsTrue, inl, inr, refl, sym, subst, ◌∙◌}
use Rattle.std.proofs.Math.Logic.{∥∥₁_map}
use Rattle.std.specs.Prelude.{IsErrAnd}
use Rattle.sqlite_trees.specs.{declared.store.Store.Ghosts, View.IsClean as IsCleanStore}
use Rattle.sqlite.specs.{Files.AreFoundIn, Files.HoldsDatabase, Files.IsEmpty, Held.Held, Held.AreDatabases, Held.state}
use Rattle.sqlite.specs.{Recovery.Image, State.State, State.HasCleanDisk, Tree.Trees}
use Rattle.register_requests.specs.{declared.request.Request.Request, declared.version.Version.Version}
use Rattle.register_core.specs.Fold.{IsLawful, IsLawfulIn}
use Rattle.register_desk.specs.declared.opening.OpenRefusal.TheVariants.{Memory, NewerVersion, NotARegister, Store}
use Rattle.register_desk.specs.DatabaseFiles.{HoldsRegister}
use Rattle.machine_traits.specs.Found.{HoldsNothing, ShowsFiles}
use Rattle.register_desk.specs.OpenRefusal.{IsMadeIn, IsReasonOf, IsTakenIn, LeavesBehind, LeavesCommitted, LeavesMade}
use Rattle.register_desk.specs.OpenRefusal.{LeavesStored, RefusesNoTable, ShowsTable, connection_in, refusal_in}
use Rattle.register_desk.specs.{declared.opening.OpenRefusal.OpenRefusal, declared.opening.Unopened.Unopened}
use Rattle.register_desk.specs.{declared.desk.Desk.Desk, Within.HasHistoryIn}
use Rattle.register_desk.proofs.Found.{finds_nothing, finds_register, holds_now, lawful_there, shows_table}
use Rattle.machine_traits.proofs.Empty.{finds_empty}
use Rattle.register_desk.proofs.Found.{registered_left}
use Rattle.register_desk.proofs.{NoRegister.passes_nothing, Opened.stored_in}
use Rattle.register_program.specs.declared.refused.RefusedFiles.{RefusedFiles}
use Rattle.register_program.specs.declared.refused.RefusedFiles.TheVariants.{Failed, Shut}
use Rattle.register_program.specs.Life.{ClosesAs, GivesBack, IsCommittedOrMade, IsFoundIn, IsOfFailed, LeavesBehindIn}
use Rattle.register_program.specs.Life.{connect_refusal}
use Rattle.machine_traits.specs.declared.files.ConnectError.{ConnectError}
use Rattle.machine_traits.specs.declared.files.ConnectError.TheVariants as errors
use Rattle.register_program.specs.Life.{LeavesFound, LeavesInFiles, LeavesNoRequest, LeavesNothing, OfLeft, OfSound}
use Rattle.register_program.specs.Life.{RefusesFiles, Refuses, RefusesMaking, RefusesToMake, SparesRegister}
use Rattle.register_program.specs.declared.refused.Refused.{Refused}
use Rattle.machine_traits.specs.{declared.files.Closed.Closed, Closing.StandsAs}
use Rattle.register_program.specs.{FileCalls.MakesFile, FileCalls.OpensFile, Opening.IsSound}

-- files that could not be opened blame no table
blames_no_table : (error : ConnectError) → RefusesNoTable (connect_refusal error)
blames_no_table errors.Memory = tt
blames_no_table errors.Store = tt

not_failed : {S U A : Type 0} (files : RefusedFiles S U) (store : S) (failed : U) → files ≡ Shut store
    → files ≡ Failed failed → A
not_failed files store failed is other = let both = sym is ∙ other in absurd (cc)

-- what is found in files that hold nothing is nothing
left_empty : (found : Image) (db : Trees) → HoldsNothing found → IsFoundIn found db → IsEmpty db
left_empty found db nothing is = finds_empty found db nothing is.reads is.holds

nothing_found : (found left : Image) (db : Trees) → HoldsNothing found → IsFoundIn found db → HoldsDatabase left db
    → HoldsNothing left
nothing_found found left db nothing is held = inr (db, held, left_empty found db nothing is)

nothing_left : (refusal : OpenRefusal) (found : Image) (s : State) (may : Image → Type 0) → ShowsFiles found s
    → HoldsNothing found → LeavesBehindIn refusal found s may → LeavesNothing may
nothing_left Store found s may shows nothing leaves left is = ∥∥₁_map (leaves left is) (λ one. elim one.1 [
  | inl same ↦ nothing_found found left one.0 nothing same one.2
  | inr taken ↦ absurd (passes_nothing taken.t s (finds_nothing found s nothing shows) taken.passes)
])
nothing_left NotARegister found s may shows nothing leaves left is =
    ∥∥₁_map (leaves left is) (λ one. nothing_found found left one.0 nothing one.1 one.2)
nothing_left (NewerVersion later) found s may shows nothing leaves left is =
    ∥∥₁_map (leaves left is) (λ one. nothing_found found left one.0 nothing one.1 one.2)
nothing_left Memory found s may shows nothing leaves left is =
    ∥∥₁_map (leaves left is) (λ one. nothing_found found left one.0 nothing one.1 one.2)

-- or the empty register that was made in it
none_or_made : (found : Image) (s : State) (may : Image → Type 0) → ShowsFiles found s → HoldsNothing found
    → ((left : Image) → may left → ∥ ((db : Trees) × HoldsDatabase left db × IsCommittedOrMade s db) ∥₁)
    → LeavesNoRequest may
none_or_made found s may shows nothing leaves left is = ∥∥₁_map (leaves left is) (λ one. elim one.2 [
  | inl same ↦
      let empty = finds_empty found s.committed.trees nothing shows.finds.reads shows.finds.holds in
      inl (inr (one.0, one.1, subst IsEmpty (sym same) empty))
  | inr made ↦
      let holds = (made.1.1.register (finds_nothing found s nothing shows)).holds in
      inr (holds_now [] left made.0 holds (subst (HoldsDatabase left) made.2 one.1))
])

-- what stands for what was found
stands_registered : (h : List Request) (found left : Image) → StandsAs found left → HoldsRegister h found
    → HoldsRegister h left
stands_registered h found left stands holds = record {
  version = holds.version;
  lawful = holds.lawful;
  db = holds.db;
  tables_are = holds.tables_are;
  found = stands.database holds.db.trees holds.found;
}

module _ {S U : Type 0} (g : Ghosts S) (may_leave : S → Image → Type 0) (may_stay : U → Image → Type 0)
    (found : Image) where
  -- no register was opened
  -- what is said of the files, of those that were opened
  of_shut : (Says : (Image → Type 0) → Type 0) (files : RefusedFiles S U) (store : S) → files ≡ Shut store
      → (IsCleanStore (g.view store) → Says (may_leave store)) → OfLeft g may_leave may_stay files Says
  of_shut Says files store is said = subst (λ (f : RefusedFiles S U). OfLeft g may_leave may_stay f Says) (sym is) said

  cause_shut : (Says : (Image → Type 0) → Type 0) (files : RefusedFiles S U) (store : S) → files ≡ Shut store
      → (IsCleanStore (g.view store) → Says (may_leave store)) → OfSound g may_leave files Says
  cause_shut Says files store is said = subst (λ (f : RefusedFiles S U). OfSound g may_leave f Says) (sym is) said

  no_table : (h : List Request) (files : RefusedFiles S U) (refusal : OpenRefusal)
      → OfLeft g may_leave may_stay files (SparesRegister h refusal)
      → ((failed : U) → files ≡ Failed failed → RefusesNoTable refusal) → IsSound g files → RefusesNoTable refusal
  no_table h (Failed it) refusal spares unopened clean = unopened it refl
  no_table h (Shut it) refusal spares unopened clean = (spares clean).0

  pub opens_refused : (refused : Refused S U) → Refuses g may_leave may_stay found refused
      → OpensFile g may_leave may_stay found (Err refused)
  opens_refused refused refuses = record {
    stands = λ h lawful holds. no_table h refused.files refused.refusal
        (refuses.spares h lawful holds) refuses.unopened;
    whole = tt;
    nothing = λ nothing. tt;
    refuses = refuses;
  }

  pub opens_none : (P : Refused S U → Type 0) (result : Result (Desk S g) (Refused S U)) → IsErrAnd result P
      → ((refused : Refused S U) → P refused → Refuses g may_leave may_stay found refused)
      → OpensFile g may_leave may_stay found result
  opens_none P (Ok desk) is refuses = absurd is
  opens_none P (Err refused) is refuses = opens_refused refused (refuses refused is)

  -- no register was made
  pub made_none : (P : Refused S U → Type 0) (result : Result (Closed S) (Refused S U)) → IsErrAnd result P
      → ((refused : Refused S U) → P refused → RefusesMaking g may_leave may_stay found refused)
      → MakesFile g may_leave may_stay found result
  made_none P (Ok files) is refuses = absurd is
  made_none P (Err refused) is refuses = record {
    leaves = λ none. tt;
    made = tt;
    spares = λ h holds. tt;
    refuses = refuses refused is;
  }

  -- files that were not opened at all
  module _ (failed : U) (stands : (left : Image) → may_stay failed left → ∥ StandsAs found left ∥₁) where
    leaves_register : (h : List Request) → HoldsRegister h found → LeavesInFiles h h (may_stay failed)
    leaves_register h holds left kept =
        ∥∥₁_map (stands left kept) (λ as_found. inl (stands_registered h found left as_found holds))

    leaves_nothing : HoldsNothing found → LeavesNothing (may_stay failed)
    leaves_nothing none left kept = ∥∥₁_map (stands left kept) (λ as_found. as_found.nothing none)

    leaves_no_request : HoldsNothing found → LeavesNoRequest (may_stay failed)
    leaves_no_request none left kept = ∥∥₁_map (stands left kept) (λ as_found. inl (as_found.nothing none))

    module _ (error : ConnectError) where
      abbrev IsRefusal : Refused S U → Type 0
      IsRefusal refused = IsOfFailed error failed refused

      none : RefusesNoTable (connect_refusal error)
      none = blames_no_table error

      refuses_closed : (refused : Refused S U) → IsRefusal refused → Refuses g may_leave may_stay found refused
      refuses_closed refused is = subst (Refuses g may_leave may_stay found) (sym is) (record {
        cause = tt;
        spares = λ h lawful holds. (none, leaves_register h holds);
        nothing = leaves_nothing;
        unopened = λ it same. none;
      })

      pub opens_closed : (result : Result (Desk S g) (Refused S U)) → IsErrAnd result IsRefusal
          → OpensFile g may_leave may_stay found result
      opens_closed result is = opens_none IsRefusal result is refuses_closed

      pub made_closed : (result : Result (Closed S) (Refused S U)) → IsErrAnd result IsRefusal
          → MakesFile g may_leave may_stay found result
      made_closed result is =
          made_none IsRefusal result is (λ refused same. subst (RefusesMaking g may_leave may_stay found) (sym same)
          (record {
            cause = tt;
            spares = leaves_register;
            nothing = leaves_no_request;
            unopened = λ it other. none;
          }))

  module _ (opens_again : (it : S) → IsTrue (g.view it).is_numbered → AreDatabases (g.recovers it) → (left : Image)
      → may_leave it left → ∥ ((db : Trees) × (g.recovers it db) × HoldsDatabase left db) ∥₁)
      (old new : Held S) (shows : HasCleanDisk (state g old) → ShowsFiles found (state g old))
      (earlier : HasCleanDisk (state g new) → HasCleanDisk (state g old)) where
    module _ (it : S) (closes : ClosesAs g new it) (clean : IsCleanStore (g.view it)) where
      shown : ShowsFiles found (state g old)
      shown = shows (earlier (closes.clean clean))

      reopens : (left : Image) → may_leave it left → ∥ ((db : Trees) × (g.recovers it db) × HoldsDatabase left db) ∥₁
      reopens = opens_again it (closes.numbered clean) (closes.sound clean)

      -- what was committed was found
      found_so : (db : Trees) → db ≡ (state g old).committed.trees → IsFoundIn found db
      found_so db same = record {
        reads = subst (AreFoundIn found) (sym same) shown.finds.reads;
        holds = λ other holds. same ∙ shown.finds.holds other holds;
      }

      left_as_found : LeavesCommitted (state g old) (state g new) → LeavesFound found (may_leave it)
      left_as_found committed left may = ∥∥₁_map (reopens left may) (λ one.
          let same = committed shown.opens.is_open (closes.clean clean) one.0 (closes.outcomes one.0 one.1) in
          (one.0, found_so one.0 same, one.2))

      left_as_made : LeavesMade (state g old) (state g new)
          → (left : Image) → may_leave it left → ∥ ((db : Trees) × HoldsDatabase left db
          × ((db ≡ (state g old).committed.trees) ⊎ IsMadeIn (state g old) db)) ∥₁
      left_as_made made left may = ∥∥₁_map (reopens left may)
          (λ one. (one.0, one.2, made shown.opens.is_open (closes.clean clean) one.0 (closes.outcomes one.0 one.1)))

    -- an opening that was refused
    module _ (refusal : OpenRefusal) (reason : HasCleanDisk (state g new)
        → IsReasonOf (state g old) (state g new) refusal)
        (spared : (version : Version) (h : List Request) → IsLawfulIn version h
        → HasHistoryIn version h (state g old) → HasCleanDisk (state g new) → RefusesNoTable refusal)
        (after : LeavesBehind refusal (state g old) (state g new))
        (stored : (version : Version) (h : List Request) → IsLawfulIn version h → HasHistoryIn version h (state g old)
        → LeavesStored (stored_in version h) (state g old) (state g new)) where
      module _ (it : S) (closes : ClosesAs g new it) (clean : IsCleanStore (g.view it)) where
        left_behind : (r : OpenRefusal) → LeavesBehind r (state g old) (state g new)
            → LeavesBehindIn r found (state g old) (may_leave it)
        left_behind Store leaves = λ left may. ∥∥₁_map (reopens it closes clean left may) (λ one.
            let left_so = leaves (shown it closes clean).opens.is_open (closes.clean clean) one.0
            (closes.outcomes one.0 one.1) in
            (one.0, taken one.0 left_so, one.2))
          where
            taken : (db : Trees) → (db ≡ (state g old).committed.trees) ⊎ IsTakenIn (state g old) db
                → IsFoundIn found db ⊎ IsTakenIn (state g old) db
            taken db (inl same) = inl (found_so it closes clean db same)
            taken db (inr made) = inr made
        left_behind NotARegister leaves = left_as_found it closes clean leaves
        left_behind (NewerVersion later) leaves = left_as_found it closes clean leaves
        left_behind Memory leaves = left_as_found it closes clean leaves

        -- the register of a history is left, in its version or in this program's
        left_as_registered : (h : List Request) → IsLawful h → HoldsRegister h found → LeavesInFiles h h (may_leave it)
        left_as_registered h lawful holds left may = ∥∥₁_map (reopens it closes clean left may) (λ one.
            let shows = shown it closes clean in
            let had = finds_register h found (state g old) holds shows lawful in
            let leaves = stored holds.version h (lawful_there h found holds lawful) had in
            inl (registered_left h found holds (state g old) (state g new) leaves shows.opens.is_open
            (closes.clean clean) shows left one.0 (closes.outcomes one.0 one.1) one.2))

      refuses_files : (it : S) → ClosesAs g new it → (given : OpenRefusal) → given ≡ refusal
          → IsCleanStore (g.view it) → RefusesFiles g found given (may_leave it)
      refuses_files it closes given same clean = record {
        old = old;
        new = new;
        shows = shown it closes clean;
        reason = subst (λ (r : OpenRefusal). IsReasonOf (state g old) (state g new) r) (sym same)
            (reason (closes.clean clean));
        leaves = subst (λ (r : OpenRefusal). LeavesBehindIn r found (state g old) (may_leave it)) (sym same)
            (left_behind it closes clean refusal after);
      }

      spares_register : (it : S) → ClosesAs g new it → (given : OpenRefusal) → given ≡ refusal → (h : List Request)
          → IsLawful h → HoldsRegister h found → IsCleanStore (g.view it) → SparesRegister h given (may_leave it)
      spares_register it closes given same h lawful holds clean = (
        subst RefusesNoTable (sym same) (spared holds.version h (lawful_there h found holds lawful)
            (finds_register h found (state g old) holds (shown it closes clean) lawful) (closes.clean clean)),
        left_as_registered it closes clean h lawful holds,
      )

      pub refuses_opened : (unopened : Unopened S) (refused : Refused S U) → GivesBack g unopened refused
          → refusal_in unopened ≡ refusal → connection_in unopened ≡ new → Refuses g may_leave may_stay found refused
      refuses_opened unopened refused gives was is =
          let closes = subst (λ (k : Held S). ClosesAs g k gives.store) is gives.closes in
          let same = gives.same ∙ was in
          record {
            cause = cause_shut (RefusesFiles g found refused.refusal)
                refused.files gives.store gives.back (refuses_files gives.store closes refused.refusal same);
            spares = λ h lawful holds. of_shut (SparesRegister h refused.refusal)
                refused.files gives.store gives.back
                (spares_register gives.store closes refused.refusal same h lawful holds);
            nothing = λ none. of_shut (LeavesNothing)
                refused.files gives.store gives.back (λ clean. nothing_left refusal found (state g old)
                (may_leave gives.store) (shown gives.store closes clean) none
                (left_behind gives.store closes clean refusal after));
            unopened = λ failed is. not_failed refused.files gives.store failed gives.back is;
          }

    -- a making that was refused
    module _ (refusal : OpenRefusal) (no_version : (refusal ≡ Store) ⊎ (refusal ≡ NotARegister))
        (there : refusal ≡ NotARegister → HasCleanDisk (state g new) → ShowsTable (state g old))
        (committed : refusal ≡ NotARegister → LeavesCommitted (state g old) (state g new))
        (made : LeavesMade (state g old) (state g new))
        (shown_there : ShowsTable (state g old) → LeavesCommitted (state g old) (state g new)) where
      -- the register that the files hold is left
      left_as_held : (it : S) → ClosesAs g new it → (h : List Request) → HoldsRegister h found
          → IsCleanStore (g.view it) → LeavesInFiles h h (may_leave it)
      left_as_held it closes h holds clean left may =
          let there = shows_table h found (state g old) holds (shown it closes clean) in
          ∥∥₁_map (left_as_found it closes clean (shown_there there) left may) (λ one. inl (record {
            version = holds.version;
            lawful = holds.lawful;
            db = holds.db;
            tables_are = holds.tables_are;
            found = subst (HoldsDatabase left) (one.1.holds holds.db.trees holds.found) one.2;
          }))

      refuses_to_make : (it : S) → ClosesAs g new it → (given : OpenRefusal) → given ≡ refusal
          → IsCleanStore (g.view it) → RefusesToMake g found given (may_leave it)
      refuses_to_make it closes given same clean = record {
        old = old;
        shows = shown it closes clean;
        no_version = subst (λ (r : OpenRefusal). (r ≡ Store) ⊎ (r ≡ NotARegister)) (sym same) no_version;
        there = λ is. let blamed = sym same ∙ is in
            (there blamed (closes.clean clean), left_as_found it closes clean (committed blamed));
        spares = λ there. left_as_found it closes clean (shown_there there);
        leaves = left_as_made it closes clean made;
      }

      pub refuses_making : (unopened : Unopened S) (refused : Refused S U) → GivesBack g unopened refused
          → refusal_in unopened ≡ refusal → connection_in unopened ≡ new
          → RefusesMaking g may_leave may_stay found refused
      refuses_making unopened refused gives was is =
          let closes = subst (λ (k : Held S). ClosesAs g k gives.store) is gives.closes in
          record {
            cause = cause_shut (RefusesToMake g found refused.refusal)
                refused.files gives.store gives.back
                (refuses_to_make gives.store closes refused.refusal (gives.same ∙ was));
            spares = λ h holds. of_shut (LeavesInFiles h h)
                refused.files gives.store gives.back (left_as_held gives.store closes h holds);
            nothing = λ none. of_shut (LeavesNoRequest)
                refused.files gives.store gives.back (λ clean. none_or_made found (state g old)
                (may_leave gives.store) (shown gives.store closes clean) none
                (left_as_made gives.store closes clean made));
            unopened = λ failed is. not_failed refused.files gives.store failed gives.back is;
          }
