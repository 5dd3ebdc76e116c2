-- The checks of all tables, one after the other.
use Rattle.std.proofs.Common.{◌≡◌, Err, refl, sym, ◌∙◌, ℕ, List, [], ◌∷◌, Result, Ok, IsTrue, ap, subst}
use Rattle.std.proofs.Common.{arith}
use Rattle.sqlite.specs.State.{State, HasCleanDisk, IsUnchanged, Survives}
use Rattle.register_requests.specs.declared.version.Version.TheVariants.{Second}
use Rattle.register_requests.specs.declared.version.Version.{Version}
use Rattle.register_tables.specs.declared.table.TableName.TheVariants.{Meta, Keys, Custodian, Approval}
use Rattle.register_tables.specs.Tables.{Counts, no_rows}
use Rattle.register_checks.specs.declared.refusal.CheckError.TheVariants.{NotARegister, NewerVersion, Memory}
use Rattle.register_checks.specs.declared.refusal.CheckError.TheVariants.{Database}
use Rattle.register_checks.specs.CheckedTables.{ArePassed, ChecksBy, FailsCheck, IsReason, IsReasonAt, ShowsRows}
use Rattle.register_checks.specs.CheckedTables.{check_text}
use Rattle.register_checks.specs.Stored.{Part, Stored, part, with_part}
use Rattle.register_checks.specs.Within.CheckedRows.{AreOwners, Chain, ChecksFirst, IsAnything, IsCounts, KnowsCounts}
use Rattle.register_checks.specs.Within.CheckedRows.{KnowsCustodians, SoFar}
use Rattle.register_checks.specs.OpeningChecks.{MeetsCheck, before, owners_of, checked}
use Rattle.register_checks.specs.{declared.refusal.CheckError.CheckError, declared.found.Found.Found}
use Rattle.register_tables.specs.declared.table.TableName.{TableName}
use Rattle.register_checks.specs.Within.CheckedTables.{ChecksTable}
use Rattle.std.specs.{Prelude.IsErrAnd, Global.Vec}
use Rattle.sqlite.proofs.{Callers.unchanged_then, StateLemmas.survives_then}
use Rattle.row_checks.specs.ShownRows.{ShowsAll}
use Rattle.row_checks.proofs.RowByRow.{all_from, all_to, first_from, no_meaning_from}
use Rattle.register_checks.proofs.Asked.{IsWithin, in_both, query_of}

-- what a table is given, it shows
part_is : (name : TableName) (c : Part name) (t : Stored) → part name (with_part name c t) ≡ c
part_is Meta c t = refl
part_is name c t = refl

-- ---- tables that passed

-- they have passed where nothing was changed since
pub passed_on : (names : List TableName) (t : Stored) (a b d : State) → ArePassed names t a b → IsUnchanged b d
    → ArePassed names t a d
passed_on [] t a b d passed same = tt
passed_on (name ∷ names) t a b d passed same = search (arith, all_to, query_of, passed_on names t a b d passed.0 same)

pub is_open : (names : List TableName) (Knows : Stored → Type 0) (a b : State) → Chain names Knows a b
    → HasCleanDisk b → IsTrue b.is_open
is_open names Knows a b chain clean = (chain.so_far clean).1.same.0.is_open

module _ (name : TableName) (a b d : State) where
  -- what a table holds leaves what is said of those before it
  abbrev pub LeavesPassed : Type 0
  LeavesPassed = (t : Stored) (c : Part name) → ArePassed (before name) t a d
      → ArePassed (before name) (with_part name c t) a d

  -- one more
  more : LeavesPassed → (t : Stored) (c : Part name) → SoFar (before name) t a b
      → ShowsAll (check_text name) (λ rows. ShowsRows name rows c) b d
      → MeetsCheck name (with_part name c t) → SoFar (name ∷ before name) (with_part name c t) a d
  more leaves t c so_far shown meets = search (arith, passed_on, part_is, all_from, query_of, unchanged_then)

  fails_from : (t : Stored) → IsUnchanged a b → FailsCheck name t b d → FailsCheck name t a d
  fails_from t same it = grind (arith, no_meaning_from, first_from, all_from, query_of)

  reason : (t : Stored) (e : CheckError) → IsWithin name t.version → SoFar (before name) t a b → IsReasonAt name t b d e
      → IsReason a d e
  reason t NotARegister within so_far why = search (arith, passed_on, fails_from, unchanged_then)
  reason t (NewerVersion found) within so_far why = search (arith, all_from, query_of)
  reason t Memory within so_far why = unchanged_then a b d so_far.same why
  reason t (Database error) within so_far why = tt

  module _ {T : Type 0} (Knows : Stored → Type 0) (Says : Part name → T → Type 0)
      (chain : Chain (before name) Knows a b) (survives : Survives b d (λ _. ⊥)) where
    early : HasCleanDisk d → HasCleanDisk b
    early clean = omega (arith, survives.clean, clean)

    through : Survives a d (λ _. ⊥)
    through = search (arith, survives_then)

    -- The table passes. That it leaves what is said of those before it is the same term, at each table by its name.
    pub passes : LeavesPassed → (x : T) → ((t : Stored) (c : Part name) → Knows t → Knows (with_part name c t))
        → ((t : Stored) → Knows t → ChecksTable name t Says b d (Ok x))
        → Chain (name ∷ before name) (λ t. Knows t × Says (part name t) x) a d
    passes leaves x keeps checks = record {
      so_far = search (arith, early, more, part_is);
      own = grind (arith, early);
      survives = through;
    }

    -- it does not
    pub fails : (e : CheckError) (q : Result Found CheckError) → IsErrAnd q (λ x. x ≡ e)
        → ((t : Stored) → Knows t → IsWithin name t.version)
        → ((t : Stored) → Knows t → ChecksTable name t Says b d (Err e))
        → ChecksBy a d q
    fails e (Ok y) is within checks = absurd is
    fails e (Err x) is within checks = subst (λ x. ChecksBy a d (Err x)) (sym is) (record {
      passed = λ clean. tt;
      refused = search (arith, early, reason);
      counted = λ clean t holds meets. tt;
      blames_none = search (arith, early);
      clean = λ clean. omega (arith, through.clean, clean);
      survives = through;
    })

-- ---- the first table, and the end

-- what is checked before meta is seen
abbrev unseen : Stored
unseen = record { version = Second; tables = no_rows }

pub meta_passes : (a b : State) (found : Found) → Survives a b (λ _. ⊥)
    → ((t : Stored) → ChecksTable Meta t IsCounts a b (Ok found)) → Chain (before Keys) (KnowsCounts found) a b
meta_passes a b found survives checks = record {
  so_far = λ clean.
      let passed = (checks unseen).passed clean in (
        with_part Meta passed.0 unseen,
        record { passed = (tt, passed.1, passed.2); same = passed.1.same },
        passed.3,
      );
  own = λ clean t holds meets. (checks t).told clean holds meets;
  survives = survives;
}

meta_reason : (a b : State) (e : CheckError) → IsReasonAt Meta unseen a b e → IsReason a b e
meta_reason a b e why = search (arith, fails)

pub meta_stops : (a b : State) (e : CheckError) (q : Result Found CheckError) → IsErrAnd q (λ x. x ≡ e)
    → Survives a b (λ _. ⊥) → ((t : Stored) → ChecksTable {T = Found} Meta t IsCounts a b (Err e)) → ChecksBy a b q
meta_stops a b e (Ok y) is survives checks = absurd is
meta_stops a b e (Err x) is survives checks = subst (λ x. ChecksBy a b (Err x)) (sym is) (record {
  passed = λ clean. tt;
  refused = λ clean. meta_reason a b e ((checks unseen).refused clean);
  counted = λ clean t holds meets. tt;
  blames_none = λ clean t holds meets. (checks t).blames_none clean holds meets;
  clean = λ clean. omega (arith, survives.clean, clean);
  survives = survives;
})

-- less is known
pub chain_as : (names : List TableName) (Knows Less : Stored → Type 0) (a b : State) → ((t : Stored) → Knows t → Less t)
    → Chain names Knows a b → Chain names Less a b
chain_as names Knows Less a b less chain = search arith

-- a stop is told as it came
pub stops_first : (names : List TableName) (a b : State) (e : CheckError) (q : Result Found CheckError)
    → IsErrAnd q (λ x. x ≡ e) → ChecksBy a b q → ChecksFirst names a b q
stops_first names a b e q is stops = search arith

pub stops_too : (a b : State) (e : CheckError) (q : Result Found CheckError) → IsErrAnd q (λ x. x ≡ e)
    → ChecksBy a b (Err e) → ChecksBy a b q
stops_too a b e q is stops = search arith

-- the version that was found is theirs
pub version_of : (found : Found) (t : Stored) → KnowsCounts found t → found.version ≡ t.version
version_of found t knows = ap (λ (told : Version × Counts). told.0) knows

-- the tables are those of the second version
abbrev pub IsSecond : Stored → Type 0
IsSecond t = t.version ≡ Second

pub is_second : (found : Found) → found.version ≡ Second → (t : Stored) → KnowsCounts found t → IsSecond t
is_second found second t knows = sym (version_of found t knows) ∙ second

-- all have passed that the version has
pub all_pass : (version : Version) (a b : State) (found : Found) → found.version ≡ version
    → Chain (checked version) (KnowsCounts found) a b → ChecksBy a b (Ok found)
all_pass version a b found is chain = record {
  passed = search (arith, version_of);
  refused = λ clean. tt;
  counted = chain.own;
  blames_none = λ clean t holds meets. tt;
  clean = λ clean. omega (arith, chain.survives.clean, clean);
  survives = chain.survives;
}

-- ---- a table of which nothing is found

-- its check needs no more than what is known of the tables before it, which is known still after it
module _ (name : TableName) (Needs Knows : Stored → Type 0) (a b d : State) (needed : (t : Stored) → Knows t → Needs t)
    (chain : Chain (before name) Knows a b) (survives : Survives b d (λ _. ⊥)) where
  abbrev pub SilentCheck : Result (Unit {0}) CheckError → Type 0
  SilentCheck q = (t : Stored) → Needs t → ChecksTable name t IsAnything b d q

  pub silent_pass : LeavesPassed name a b d
      → ((t : Stored) (c : Part name) → Knows t → Knows (with_part name c t)) → SilentCheck (Ok tt)
      → Chain (name ∷ before name) Knows a d
  silent_pass leaves keeps checks =
      let it = passes name a b d Knows IsAnything chain survives leaves tt keeps (λ t k. checks t (needed t k)) in
      record {
        so_far = λ clean. let all = it.so_far clean in (all.0, all.1, all.2.0);
        own = λ clean t holds meets. (it.own clean t holds meets).0;
        survives = it.survives;
      }

  pub silent_stop : ((t : Stored) → Knows t → IsWithin name t.version) → (e : CheckError) (q : Result Found CheckError)
      → IsErrAnd q (λ x. x ≡ e) → SilentCheck (Err e) → ChecksBy a d q
  silent_stop within e q is checks =
      fails name a b d Knows IsAnything chain survives e q is within (λ t k. checks t (needed t k))

-- ---- tables of which something is found

module _ (found : Found) (a : State) where
  abbrev pub KnowsOwners : Vec (List ℕ) → Stored → Type 0
  KnowsOwners owners t = KnowsCounts found t × AreOwners t.tables.keys owners

  abbrev pub KnowsNames : Vec (List ℕ) → Vec (Vec (List ℕ)) → Stored → Type 0
  KnowsNames owners lists t = KnowsOwners owners t × KnowsCustodians t.tables.custodians lists

  -- what the check of each table says
  abbrev pub KeysChecks : State → State → Result (Vec (List ℕ)) CheckError → Type 0
  KeysChecks b d q = (t : Stored) → KnowsCounts found t → ChecksTable Keys t AreOwners b d q

  abbrev pub CustodiansCheck : Vec (List ℕ) → State → State → Result (Vec (Vec (List ℕ))) CheckError → Type 0
  CustodiansCheck owners b d q = (HasCleanDisk b → IsTrue b.is_open) → (t : Stored) → found.version ≡ t.version
      → owners.items ≡ owners_of t.tables.keys → ChecksTable Custodian t KnowsCustodians b d q

  module _ (b d : State) (survives : Survives b d (λ _. ⊥)) where
    pub keys_pass : Chain (before Keys) (KnowsCounts found) a b → (owners : Vec (List ℕ)) → KeysChecks b d (Ok owners)
        → Chain (before Custodian) (KnowsOwners owners) a d
    keys_pass chain owners checks =
        passes Keys a b d (KnowsCounts found) AreOwners chain survives (λ t c p. p) owners (λ t c k. k) checks

    pub keys_stop : Chain (before Keys) (KnowsCounts found) a b → (e : CheckError) (q : Result Found CheckError)
        → IsErrAnd q (λ x. x ≡ e) → KeysChecks b d (Err e) → ChecksBy a d q
    keys_stop chain e q is checks =
        fails Keys a b d (KnowsCounts found) AreOwners chain survives e q is
        (λ t k. in_both Keys (omega arith) t.version) checks

    module _ (owners : Vec (List ℕ)) where
      module _ (chain : Chain (before Custodian) (KnowsOwners owners) a b) where
        opened : HasCleanDisk b → IsTrue b.is_open
        opened = is_open (before Custodian) (KnowsOwners owners) a b chain

        pub custodians_pass : (lists : Vec (Vec (List ℕ))) → CustodiansCheck owners b d (Ok lists)
            → Chain (before Approval) (KnowsNames owners lists) a d
        custodians_pass lists checks =
            passes Custodian a b d (KnowsOwners owners) KnowsCustodians chain survives (λ t c p. p) lists (λ t c k. k)
            (λ t k. checks opened t (version_of found t k.0) k.1)

        pub custodians_stop : (e : CheckError) (q : Result Found CheckError) → IsErrAnd q (λ x. x ≡ e)
            → CustodiansCheck owners b d (Err e) → ChecksBy a d q
        custodians_stop e q is checks =
            fails Custodian a b d (KnowsOwners owners) KnowsCustodians chain survives e q is
            (λ t k. in_both Custodian (omega arith) t.version) (λ t k. checks opened t (version_of found t k.0) k.1)
