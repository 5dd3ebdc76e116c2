-- A file of the first version has neither of the tables that the second adds.
use Rattle.register_checks.proofs.Chained.{passed_on, version_of}
use Rattle.std.proofs.Common.{◌≡◌, inl, inr, Err, refl, sym, ◌∙◌, Result, Ok, ap, subst}
use Rattle.std.proofs.Common.{arith}
use Rattle.sqlite.specs.State.{State, HasCleanDisk, IsUnchanged, Survives}
use Rattle.sqlite.specs.{Listing.understood, Listing.listing_schema, Effect.Database as Db, Tree.Trees}
use Rattle.sqlite_resolve.specs.declared.error.CompileError.{CompileError}
use Rattle.sqlite_tied.specs.Compute.{everything}
use Rattle.register_requests.specs.declared.version.Version.TheVariants.{First, Second}
use Rattle.register_requests.specs.declared.version.Version.{Version}
use Rattle.register_tables.specs.declared.table.TableName.TheVariants.{Period, Quorum}
use Rattle.register_tables.specs.Tables.{Layout, count_text, Tables}
use Rattle.register_checks.specs.CheckedTables.{ChecksBy}
use Rattle.register_checks.specs.CheckedTables.{BlamesNone, Passes}
use Rattle.register_checks.specs.Stored.{Stored, HoldsStored}
use Rattle.register_checks.specs.OpeningChecks.{MeetsChecks}
use Rattle.register_schema.specs.declared.refusal.CreateError.TheVariants.{HasTables, Database as Refused}
use Rattle.register_desk.specs.OpenedTables.{HasCommittedIn, MigratesTo}
use Rattle.register_desk.specs.Within.{ChangesNoTable, IsRefusal, OpensBy}
use Rattle.register_desk.specs.Within.{migration_error}
use Rattle.register_schema.specs.Migration.{HasNewTable, Migrates}
use Rattle.register_tables.specs.Schema.{schema_in, HoldsIn}
use Rattle.register_checks.specs.{declared.refusal.CheckError.CheckError, declared.found.Found.Found}
use Rattle.register_schema.specs.{declared.refusal.CreateError.CreateError, Creation.FindsBy}
use Rattle.std.specs.{Prelude.IsErrAnd}
use Rattle.sqlite.proofs.{Callers.unchanged_then, StateLemmas.survives_then}
use Rattle.sql_steps.specs.Steps.{TransactsBy}

no_period : (l : Layout) → (e : CompileError) × (understood (schema_in First l) (count_text Period) ≡ Err e)
unfolding understood listing_schema everything
no_period l = (_, refl)

no_quorum : (l : Layout) → (e : CompileError) × (understood (schema_in First l) (count_text Quorum) ≡ Err e)
unfolding understood listing_schema everything
no_quorum l = (_, refl)

pub none_new : (l : Layout) → HasNewTable (schema_in First l) → ⊥
none_new l (inl there) = absurd (let it = no_period l in let e = sym it.1 ∙ there.1 in cc)
none_new l (inr there) = absurd (let it = no_quorum l in let e = sym it.1 ∙ there.1 in cc)

-- ---- From the checks and the migration to what an opening does.

passes_before : (t : Stored) (a b : State) → Passes t a b → Passes t a a
passes_before t a b it = search (arith, passed_on, unchanged_then)

had_on : (v : Version) (t : Tables) (a b : State) → HasCommittedIn v t a → IsUnchanged a b → HasCommittedIn v t b
had_on v t a b had same = search arith

-- where nothing more is left than before, no more than a migration makes is
widened : (a b : State) → Survives a b (λ _. ⊥) → Survives a b (MigratesTo a)
widened a b survives = search arith

-- the checks failed
pub check_fails : (a b : State) (e : CheckError) (q : Result Found CheckError) → IsErrAnd q (λ x. x ≡ e)
    → ChecksBy a b (Err e) → OpensBy a b q
check_fails a b e (Ok y) is checks = absurd is
check_fails a b e (Err x) is checks = subst (λ x. OpensBy a b (Err x)) (sym is) (search (arith, widened))

-- a file of the second version
pub second_opens : (a b : State) (found : Found) → found.version ≡ Second → ChecksBy a b (Ok found)
    → OpensBy a b (Ok found)
second_opens a b found second checks = record {
  passed = λ clean.
      let it = checks.passed clean in
      record {
        t = it.0;
        passes = passes_before it.0 a b it.1;
        mark_is = it.2;
        none_new = λ one. absurd (let e : Second ≡ First = sym second ∙ version_of found it.0 it.2 ∙ one in cc);
        unchanged = λ _. it.1.same;
      };
  refused = λ clean. tt;
  opened = λ clean t had meets.
      let told = checks.counted clean t had.holds meets in
      let own : t.version ≡ Second = sym (version_of found t told) ∙ second in
      record {
        has = subst (λ v. HasCommittedIn v t.tables b) own
            (had_on t.version t.tables a b had (checks.passed clean).1.same);
        mark_is = told;
      };
  blames_none = λ clean t holds meets. tt;
  stop = widened a b checks.survives;
  stop_refused = tt;
  stop_current = λ t own holds meets. checks.survives;
  clean = checks.clean;
}

-- ---- a file of the first version

module _ {A : Type 0} (a b d : State) (found : Found) (first : found.version ≡ First) (checks : ChecksBy a b (Ok found))
    (m : Result A CreateError) (did : TransactsBy Migrates b d m) where
  early_first : HasCleanDisk d → HasCleanDisk b
  early_first clean = let stop = did.stop in omega (arith, stop.clean, clean)

  -- the checks changed nothing
  same : HasCleanDisk d → b.now ≡ a.now
  same clean = (checks.passed (early_first clean)).1.same.0.now_is

  taken : HasCleanDisk d → (trees : Trees) → (db : Db) × Migrates b.now db × (trees ≡ db.trees) → MigratesTo a trees
  taken clean trees made =
      let it = checks.passed (early_first clean) in
      record {
        t = it.0;
        passes = passes_before it.0 a b it.1;
        first = sym (version_of found it.0 it.2) ∙ first;
        db = made.0;
        migrates = subst (λ (now : Db). Migrates now made.0) (same clean) made.1;
        trees_are = made.2;
      }

  stops : Survives a d (MigratesTo a)
  stops = search (arith, survives_then, taken)

  own_first : HasCleanDisk d → (t : Stored) → HoldsStored t a.now → MeetsChecks t → t.version ≡ First
  own_first clean t holds meets = sym (version_of found t (checks.counted (early_first clean) t holds meets)) ∙ first

  -- it holds none of this program's version
  stops_current : (t : Stored) → t.version ≡ Second → HoldsStored t a.now → MeetsChecks t → Survives a d (λ _. ⊥)
  stops_current t own holds meets = record {
    clean = stops.clean;
    shield = stops.shield;
    counts = stops.counts;
    limit = stops.limit;
    closes = stops.closes;
    crash = λ clean db may. absurd (let other : First ≡ Second = sym (own_first clean t holds meets) ∙ own in cc);
  }

  through_first : HasCleanDisk d → HasCleanDisk a
  through_first clean = checks.clean (early_first clean)

-- it is taken to the second
pub first_opens : {A : Type 0} (a b d : State) (found : Found) → found.version ≡ First → ChecksBy a b (Ok found)
    → (x : A) → TransactsBy {E = CreateError} Migrates b d (Ok x) → OpensBy a d (Ok found)
first_opens a b d found first checks x did = record {
  passed = λ clean.
      let it = checks.passed (early_first a b d found first checks (Ok x) did clean) in
      record {
        t = it.0;
        passes = passes_before it.0 a b it.1;
        mark_is = it.2;
        none_new = grind arith;
        unchanged = λ second. absurd (let e : First ≡ Second = sym first ∙ version_of found it.0 it.2 ∙ second in cc);
      };
  refused = λ clean. tt;
  opened = λ clean t had meets.
      let before = early_first a b d found first checks (Ok x) did clean in
      let told = checks.counted before t had.holds meets in
      let own = own_first a b d found first checks (Ok x) did clean t had.holds meets in
      let here = had_on t.version t.tables a b had (checks.passed before).1.same in
      let it = did.accepted clean in
      record {
        has = record {
          is_open = it.3;
          holds = it.0.1.second t.tables (subst (λ v. HoldsIn v t.tables b.now) own here.holds);
          committed = it.1;
        };
        mark_is = told;
      };
  blames_none = λ clean t holds meets. tt;
  stop = stops a b d found first checks (Ok x) did;
  stop_refused = tt;
  stop_current = stops_current a b d found first checks (Ok x) did;
  clean = through_first a b d found first checks (Ok x) did;
}

-- or is not
pub first_fails : (a b d : State) (found : Found) → found.version ≡ First → ChecksBy a b (Ok found) → (e : CreateError)
    → TransactsBy {T = Unit {0}} Migrates b d (Err e) → (e ≡ HasTables → FindsBy HasNewTable b d)
    → (q : Result Found CheckError)
    → IsErrAnd q (λ x. x ≡ migration_error e) → OpensBy a d q
first_fails a b d found first checks e did there (Ok y) is = absurd is
first_fails a b d found first checks e did there (Err x) is = subst (λ x. OpensBy a d (Err x)) (sym is) (record {
  passed = λ clean. tt;
  refused = λ clean. why e did there clean;
  opened = λ clean t had meets. tt;
  blames_none = λ clean t holds meets. none e did there clean t holds meets;
  stop = stops a b d found first checks (Err e) did;
  stop_refused = kept e there;
  stop_current = stops_current a b d found first checks (Err e) did;
  clean = through_first a b d found first checks (Err e) did;
})
  where
    why : (e : CreateError) → TransactsBy {T = Unit {0}} Migrates b d (Err e)
        → (e ≡ HasTables → FindsBy HasNewTable b d)
        → HasCleanDisk d → IsRefusal a d (migration_error e)
    why HasTables did there clean =
        let it = checks.passed (early_first a b d found first checks (Err HasTables) did clean) in
        let schema = ap (λ (n : Db). n.schema) it.1.same.0.now_is in
        inr (search (arith, passes_before, version_of))
    why (Refused error) did there clean = tt

    kept : (e : CreateError) → (e ≡ HasTables → FindsBy HasNewTable b d) → ChangesNoTable (migration_error e)
        → Survives a d (λ _. ⊥)
    kept HasTables there nothing =
        survives_then a b d (λ _. ⊥) (λ _. ⊥) (λ _. ⊥) (λ clean db none. none) (λ clean db none. none) checks.survives
        (there refl).survives
    kept (Refused error) there nothing = absurd nothing

    none : (e : CreateError) → TransactsBy {T = Unit {0}} Migrates b d (Err e)
        → (e ≡ HasTables → FindsBy HasNewTable b d)
        → HasCleanDisk d → (t : Stored) → HoldsStored t a.now → MeetsChecks t → BlamesNone (migration_error e)
    none HasTables did there clean t holds meets =
        let own = own_first a b d found first checks (Err HasTables) did clean t holds meets in
        let now = same a b d found first checks (Err HasTables) did clean in
        let here = subst (λ v. HoldsIn v t.tables b.now) own (subst (HoldsStored t) (sym now) holds) in
        none_new here.schema.layout (subst (λ s. HasNewTable s) here.schema.is ((there refl).there clean))
    none (Refused error) did there clean t holds meets = tt
