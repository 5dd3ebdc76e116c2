-- Calls of a desk that only read, and calls that do nothing.
use Rattle.std.proofs.Common.{ℕ, List, arith, ◌≡◌, ◌+◌, ◌≤◌, Result, Ok, Err, IsTrue, inl, inr, refl, sym, ap, subst}
use Rattle.std.proofs.Common.{◌∙◌, []}
use Rattle.std.proofs.lemmas.Result.{on_ok_weaker}
use Rattle.sqlite_trees.specs.declared.store.Store as store
use Rattle.sqlite.specs.State.{HasCleanDisk, State, IsUnchanged, Survives}
use Rattle.sqlite.specs.{Effect.Database, Held.Held, Held.state, Tree.Trees}
use Rattle.register_requests.specs.{declared.request.Request.Request, Version.current}
use Rattle.register_core.proofs.{FewApprovals.few_approvals, FewLaws.at_most}
use Rattle.register_tables.specs.TableReads.{seen, load_steps, Calls, CallsOver, HoldsWhereOpen, KeepsSight, ReadsBy}
use Rattle.register_tables.specs.declared.error.StoreError.{StoreError}
use Rattle.register_tables.specs.declared.error.StoreError.TheVariants.{Database as Refused, Memory, NoRegister}
use Rattle.register_tables.specs.Tables.{Tables, no_rows}
use Rattle.register_tables.specs.{declared.counted.Counted.Counted, Schema.Holds}
use Rattle.register_tables.specs.{Schema.no_schema, TableChanges.AreRightAt}
use Rattle.register_schema.specs.Creation.{MakesRegister}
use Rattle.register_desk.specs.Desk.{IsWhole, Asks, ChangesNothing, Ends, IsClean, IsOpen, KeepsToSteps}
use Rattle.register_desk.specs.Register.{tables, StandsFor, HasCommitted, IsOver, Sees, Keeps, Leaves}
use Rattle.register_desk.specs.Within.{IsOfStore, LooksUp, ended, left_at, left_by}
use Rattle.register_desk.specs.{declared.desk.Desk.Desk, declared.end.End.End, End.end_of_error}
use Rattle.std.specs.Prelude.{IfErr, OnOk, true}
use Rattle.sqlite.proofs.StateLemmas.{survives_then}
use Rattle.register_core.specs.Verdict.{max_keys}
use Rattle.register_tables.proofs.Readings.{survives_none}
use Rattle.register_desk.specs.declared.end.End.TheVariants as ends
use Rattle.sql_steps.specs.Steps.{TransactsBy}

-- after two calls of which neither leaves anything new, a stop leaves what it left
survives_both : (a b c : State) → Survives a b (λ _. ⊥) → Survives b c (λ _. ⊥) → Survives a c (λ _. ⊥)
survives_both a b c = survives_then a b c (λ _. ⊥) (λ _. ⊥) (λ _. ⊥) (λ _ _ none. none) (λ _ _ none. none)

-- a stop leaves what it left before
still_leaves : (t : Tables) (before after : State) → Leaves t before → Survives before after (λ _. ⊥)
    → HasCleanDisk after → Leaves t after
still_leaves t before after leaves survives clean trees may = elim (survives.crash clean trees may) [
  | inl left ↦ leaves trees left
  | inr none ↦ absurd none
]

module _ {S : Type 0} (g : store.Ghosts S) where
  -- while a store is open, a stop leaves what it committed
  abbrev pub Settles : Type 0
  Settles = (s : S) (db : Trees) → IsTrue (g.view s).is_open → g.recovers s db → db ≡ (g.view s).committed

  pub keeps_committed : Settles → (connection : Held S) (t : Tables) → HasCommitted t (state g connection)
      → Keeps t (state g connection)
  keeps_committed settled connection t shown = record {
    shows = λ is_open. shown;
    leaves = λ trees may. (
      (state g connection).now,
      shown.holds,
      settled connection.store trees shown.is_open may ∙ ap (λ (db : Database). db.trees) shown.committed,
    );
  }

-- where the connection is open, the tables that it keeps are held
pub seen_where_open : (t : Tables) (s : State) → Keeps t s → HoldsWhereOpen t s
seen_where_open t s kept is_open = (kept.shows is_open).holds

-- what kept tables keeps them where nothing was changed
pub kept_still : (t : Tables) (before after : State) → Keeps t before → IsUnchanged before after
    → Survives before after (λ _. ⊥) → HasCleanDisk after → Keeps t after
kept_still t before after kept unchanged survives clean =
    let shows = unchanged.0 in
    let seen_before = kept.shows shows.was_open in
    record {
      shows = λ is_open. record {
        is_open = is_open;
        holds = subst (Holds t) (sym shows.now_is) seen_before.holds;
        committed = shows.committed_is ∙ seen_before.committed ∙ sym shows.now_is;
      };
      leaves = still_leaves t before after kept.leaves survives clean;
    }

-- the desk after a call of its connection
abbrev pub called : {S : Type 0} {g : store.Ghosts S} (desk : Desk S g) → Counted S g → desk.keys ≤ max_keys
    → Desk S g
called desk after within = record desk { connection = after; within = within }

module _ {S : Type 0} (g : store.Ghosts S) where
  -- which tables a desk is over is a matter of its counts and of the tables that it sees
  pub over_still : (old new : Desk S g) → ChangesNothing g old new → (t : Tables) → IsOver g old t → IsOver g new t
  over_still old new nothing t over = record {
    latest_is = nothing.counts.latest ∙ over.latest_is;
    keys_are = nothing.counts.keys ∙ over.keys_are;
    counted = over.counted ∙ sym nothing.counts.keys;
    right = subst (λ (latest : ℕ). AreRightAt latest t) (sym nothing.counts.latest) over.right;
    sees = nothing.rows t over.sees;
  }

  -- and so is what it stands for
  pub stands_still : (old new : Desk S g) → ChangesNothing g old new → (h : List Request) → StandsFor g old h
      → StandsFor g new h
  stands_still old new nothing h stands = record {
    lawful = stands.lawful;
    over = over_still old new nothing (tables h) stands.over;
  }

  -- after a call that changes nothing, another takes its own steps more
  pub steps_then : (old mid new : Desk S g) (first second : ℕ) → ChangesNothing g old mid → KeepsToSteps g first old mid
      → (IsClean g new → IsClean g mid) → KeepsToSteps g second mid new → KeepsToSteps g (first + second) old new
  steps_then old mid new first second nothing kept was then_kept h stands clean =
      let one = kept h stands (was clean) in
      let two = then_kept h (stands_still old mid nothing h stands) clean in
      record { risen = omega (arith, one.risen, two.risen); within = omega (arith, one.within, two.within) }

  pub nothing_done : (desk : Desk S g) → ChangesNothing g desk desk
  nothing_done desk = record {
    clean = λ clean. clean;
    counts = record { latest = refl; keys = refl };
    rows = λ t sees. sees;
    survives = survives_none (seen g desk.connection);
  }

  -- one after another
  pub nothing_then : (old mid new : Desk S g) → ChangesNothing g old mid → ChangesNothing g mid new
      → ChangesNothing g old new
  nothing_then old mid new one two = record {
    clean = λ clean. one.clean (two.clean clean);
    counts = record { latest = two.counts.latest ∙ one.counts.latest; keys = two.counts.keys ∙ one.counts.keys };
    rows = λ t sees. two.rows t (one.rows t sees);
    survives = survives_both (seen g old.connection) (seen g mid.connection) (seen g new.connection) one.survives
        two.survives;
  }

  -- a stop leaves the tables that it left before
  pub leaves_nothing_else : (old new : Desk S g) → ChangesNothing g old new → (t : Tables) → Sees g t old
      → IsWhole old → IsClean g new → Leaves t (seen g new.connection)
  leaves_nothing_else old new nothing t sees whole clean =
      still_leaves t (seen g old.connection) (seen g new.connection) (sees whole (nothing.clean clean)).leaves
      nothing.survives clean

  -- ---- a reading of the store

  -- where an open connection sees what it saw, whatever came of the call, nothing is changed
  pub sees_nothing : {T : Type 0} (Found : Tables → T → Type 0) (old : Desk S g) (after : Counted S g)
      (within : old.keys ≤ max_keys) (r : Result T StoreError)
      → ReadsBy Found (seen g old.connection) (seen g after) r → KeepsSight (seen g old.connection) (seen g after)
      → ChangesNothing g old (called old after within)
  sees_nothing Found old after within r reads sight = record {
    clean = reads.clean;
    counts = record { latest = refl; keys = refl };
    rows = λ t sees whole clean.
        let kept = sees whole (reads.clean clean) in
        record {
          shows = λ open_now.
              let still_so = sight clean (λ was. sym (kept.shows was).committed) open_now in
              let had = kept.shows still_so.was_open in
              record {
                is_open = open_now;
                holds = subst (Holds t) (sym still_so.now_is) had.holds;
                committed = still_so.committed_is ∙ had.committed ∙ sym still_so.now_is;
              };
          leaves = still_leaves t (seen g old.connection) (seen g after) kept.leaves reads.survives clean;
        };
    survives = reads.survives;
  }

  -- ---- what a look-up leaves

  -- the desk breaks by its mark alone
  left_connection : {T : Type 0} (r : Result T End) (desk : Desk S g) → (left_by r desk).connection ≡ desk.connection
  left_connection (Ok value) desk = refl
  left_connection (Err ends.Store) desk = refl
  left_connection (Err end) desk = refl

  pub left_clean : {T : Type 0} (r : Result T End) (desk : Desk S g) → IsClean g (left_by r desk) → IsClean g desk
  left_clean r desk = subst (λ c. HasCleanDisk (seen g c)) (left_connection r desk)

  clean_left : {T : Type 0} (r : Result T End) (desk : Desk S g) → IsClean g desk → IsClean g (left_by r desk)
  clean_left r desk = subst (λ c. HasCleanDisk (seen g c)) (sym (left_connection r desk))

  -- what is made of the answer looks up as much
  pub looks_given : {T R : Type 0} (most : ℕ) (old new : Desk S g) (x : T) (y : R) → LooksUp g most old new (Ok x)
      → LooksUp g most old new (Ok y)
  looks_given most old new x y looks = record {
    mark = looks.mark;
    reads = looks.reads;
    steps = looks.steps;
    opened = looks.opened;
  }

  -- so does an error that is handed on
  pub looks_ended : {T R : Type 0} (most : ℕ) (old new : Desk S g) (error : StoreError) (r : Result R StoreError)
      → r ≡ Err error → LooksUp {T = T} g most old new (Err error) → LooksUp g most old new r
  looks_ended {T} {R} most old new error r is looks = subst (LooksUp {T = R} g most old new) (sym is) (record {
    mark = looks.mark;
    reads = looks.reads;
    steps = looks.steps;
    opened = tt;
  })

  -- another look-up after one that answered
  pub looks_then : {T R : Type 0} (old mid new : Desk S g) (first second : ℕ) (x : T) (r : Result R StoreError)
      → LooksUp g first old mid (Ok x) → LooksUp g second mid new r → LooksUp g (first + second) old new r
  looks_then old mid new first second x r one two = record {
    mark = two.mark ∙ one.mark;
    reads = nothing_then old mid (left_by (ended r) new) one.reads two.reads;
    steps = steps_then old mid new first second one.reads one.steps
        (λ clean. two.reads.clean (clean_left (ended r) new clean)) two.steps;
    opened = two.opened;
  }

  -- an error of the store is an end of one
  pub end_of_store : (error : StoreError) → IsOfStore (end_of_error error)
  end_of_store Memory = tt
  end_of_store error = tt

  -- memory gave out where the store says so
  pub memory_of : (error : StoreError) → end_of_error error ≡ ends.Memory → error ≡ Memory
  memory_of Memory is = refl
  memory_of error is = absurd cc

  pub never_memory : {T R : Type 0} (failed : Result T StoreError) (r : Result R End) (error : StoreError) (end : End)
      → failed ≡ Err error → r ≡ Err end → end ≡ end_of_error error → (failed ≡ Err Memory → ⊥) → r ≡ Err ends.Memory
      → ⊥
  never_memory failed r error end was is of never same = never (was ∙ ap Err (memory_of error cc))

  ends_left : {T : Type 0} (old mid : Desk S g) (r : Result T End) → IfErr r IsOfStore → IsWhole old → IsWhole mid
      → Ends old (left_by r mid) r
  ends_left old mid (Ok value) of_store whole still = (whole, still)
  ends_left old mid (Err ends.Memory) of_store whole still = (whole, still)
  ends_left old mid (Err ends.Store) of_store whole still = (whole, refl)
  ends_left old mid (Err end) of_store whole still = absurd of_store

  -- a call that looks up and then leaves the desk so
  module _ {T : Type 0} (most : ℕ) (old mid new : Desk S g) (r : Result T End) (left : new ≡ left_by r mid) where
    pub ends_so : IfErr r IsOfStore → IsWhole old → mid.is_broken ≡ old.is_broken → Ends old new r
    ends_so of_store whole mark =
        subst (λ desk. Ends old desk r) (sym left) (ends_left old mid r of_store whole (mark ∙ whole))

    pub clean_so : IsClean g new → IsClean g mid
    clean_so clean = left_clean r mid (subst (IsClean g) left clean)

    pub steps_so : KeepsToSteps g most old mid → KeepsToSteps g most old new
    steps_so steps h stands clean =
        subst (λ c. Calls most old.connection c)
        (sym (ap (λ (desk : Desk S g). desk.connection) left ∙ left_connection r mid)) (steps h stands (clean_so clean))

    pub opened_so : OnOk r (IsOpen g mid) → OnOk r (IsOpen g new)
    opened_so =
        on_ok_weaker r (λ opened clean. subst (λ c. IsTrue (seen g c).is_open)
        (sym (ap (λ (desk : Desk S g). desk.connection) left ∙ left_connection r mid)) (opened (clean_so clean)))

  -- what was found answers a call that asks, and an error of its look-up ends it
  pub asks_answered : {T : Type 0} (most : ℕ) (old new : Desk S g) (x : T) → IsWhole old
      → LooksUp g most old new (Ok x) → Asks g most old new (Ok x)
  asks_answered most old new x whole looks =
      record { ends = (whole, looks.mark ∙ whole); reads = looks.reads; steps = looks.steps }

  pub asks_ended : {T : Type 0} (most : ℕ) (old mid new : Desk S g) (error : StoreError) (end : End) → IsWhole old
      → LooksUp {T = T} g most old mid (Err error) → end ≡ end_of_error error → new ≡ left_at end mid
      → Asks {T = T} g most old new (Err end)
  asks_ended {T} most old mid new error end whole looks is left = record {
    ends = ends_so {T = T} most old mid new (Err end) left (subst IsOfStore (sym is) (end_of_store error)) whole
        looks.mark;
    reads = subst (ChangesNothing g old) (sym left)
        (subst (λ (e : End). ChangesNothing g old (left_at e mid)) (sym is) looks.reads);
    steps = steps_so {T = T} most old mid new (Err end) left looks.steps;
  }

-- ---- look-ups

module _ {S T : Type 0} (g : store.Ghosts S) (Found : Tables → T → Type 0) (most : ℕ) (old : Desk S g)
    (after : Counted S g) (within : old.keys ≤ max_keys) (whole : IsWhole old) (r : Result T StoreError)
    (reads : ReadsBy Found (seen g old.connection) (seen g after) r)
    (calls : (h : List Request) → StandsFor g old h → HasCleanDisk (seen g after) → Calls most old.connection after)
  where
    -- where nothing was changed, the desk sees what it saw
    goes_on : ((t : Tables) → Sees g t old → HasCleanDisk (seen g after)
        → IsUnchanged (seen g old.connection) (seen g after)) → ChangesNothing g old (called old after within)
    goes_on unchanged = record {
      clean = reads.clean;
      counts = record { latest = refl; keys = refl };
      rows = λ t sees still clean.
          kept_still t (seen g old.connection) (seen g after) (sees whole (reads.clean clean)) (unchanged t sees clean)
          reads.survives clean;
      survives = reads.survives;
    }

    looks : {R : Type 0} (given : Result R StoreError)
        → ChangesNothing g old (left_by (ended given) (called old after within))
        → OnOk given (IsOpen g (called old after within)) → LooksUp g most old (called old after within) given
    looks given changes opened = record { mark = refl; reads = changes; steps = calls; opened = opened }

    -- a desk that breaks shows nothing
    broken_changes : ChangesNothing g old (record (called old after within) { is_broken = true })
    broken_changes = record {
      clean = reads.clean;
      counts = record { latest = refl; keys = refl };
      rows = λ t sees still clean. absurd cc;
      survives = reads.survives;
    }

    -- what the store gives is handed on
    pub looks_well : {R : Type 0} (value : T) (x : R) → r ≡ Ok value
        → LooksUp g most old (called old after within) (Ok x)
    looks_well value x is =
        let well = subst (ReadsBy Found (seen g old.connection) (seen g after)) is reads in
        looks (Ok x)
        (goes_on (λ t sees clean.
        (well.found clean t (seen_where_open t (seen g old.connection) (sees whole (well.clean clean)))).1))
        (λ clean. (well.opened clean).is_open)

    -- so is it where it may be, and else it is none that a register holds
    pub looks_where : {R : Type 0} (value : T) (given : Result R StoreError) → r ≡ Ok value
        → IfErr given (λ error. error ≡ NoRegister)
        → LooksUp g most old (called old after within) given
    looks_where value (Ok x) is none = looks_well value x is
    looks_where {R} value (Err error) is none =
        subst (λ (e : StoreError). LooksUp {T = R} g most old (called old after within) (Err e)) (sym none)
        (looks (Err NoRegister) broken_changes tt)

    -- the store's error ends the call
    pub looks_failed : (R : Type 0) (error : StoreError) → r ≡ Err error
        → LooksUp {T = R} g most old (called old after within) (Err error)
    looks_failed R Memory is =
        let failed = subst (ReadsBy Found (seen g old.connection) (seen g after)) is reads in
        looks (Err Memory)
        (goes_on (λ t sees clean.
        (failed.failed clean t (seen_where_open t (seen g old.connection) (sees whole (failed.clean clean)))).unchanged
        refl)) tt
    looks_failed R (Refused error) is = looks (Err (Refused error)) broken_changes tt
    looks_failed R NoRegister is = looks (Err NoRegister) broken_changes tt

    pub looks_handed : (given : Result T StoreError) → r ≡ given → LooksUp g most old (called old after within) given
    looks_handed (Ok value) is = looks_well value value is
    looks_handed (Err error) is = looks_failed T error is

-- ---- A desk over tables that were just made.

module _ {S : Type 0} (g : store.Ghosts S) where
  pub empty_stands : {A E : Type 0} (before : State) (desk : Desk S g) (x : A)
      → TransactsBy {E = E} MakesRegister before (seen g desk.connection) (Ok x)
      → Settles g → desk.latest ≡ 0 → desk.keys ≡ 0 → before.now.schema ≡ no_schema → StandsFor g desk []
  empty_stands before desk x made settled latest_is keys_are empty = record {
    lawful = record { in_range = tt; accepted = refl };
    over = record {
      latest_is = latest_is;
      keys_are = keys_are;
      counted = sym keys_are;
      right = tt;
      sees = λ whole clean.
          let did = made.accepted clean in
          let holds : Holds no_rows (seen g desk.connection).now = (did.0.1.register empty).holds in
          keeps_committed g settled desk.connection.connection (tables [])
          (record { is_open = did.3; holds = holds; committed = did.1 });
    };
  }

-- ---- How many steps the calls of a desk take.

-- a key of a history has no more than sixteen custodians, and as many approvals
pub loads_few : {S : Type 0} (g : store.Ghosts S) (number : ℕ) (old : Desk S g) (after : Counted S g) → IsWhole old
    → (HasCleanDisk (seen g after) → HasCleanDisk (seen g old.connection))
    → CallsOver g (load_steps number) old.connection after → (h : List Request) → StandsFor g old h
    → HasCleanDisk (seen g after) → Calls 36 old.connection after
loads_few g number old after whole early calls h stands clean =
    let kept = stands.over.sees whole (early clean) in
    let it = calls clean (tables h) (seen_where_open (tables h) (seen g old.connection) kept) in
    let custodians = at_most current h stands.lawful number in
    let approvals = few_approvals current h stands.lawful number in
    record { risen = it.risen; within = omega (arith, it.within, custodians, approvals) }
