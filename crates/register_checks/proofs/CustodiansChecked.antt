-- The check of the table of custodians.
use Rattle.std.proofs.Common.{◌≡◌, ◌≢◌, ◌⊎◌, ◌↔◌, ◌==◌, ◌≤◌, ◌<◌, ◌+◌, inl, inr, ℕ, zero, suc, Bool, true, false, cond}
use Rattle.std.proofs.Common.{List, [], ◌∷◌, ◌++◌, length, map, filter, slice_get, get_or, Option, None, Some, Result}
use Rattle.std.proofs.Common.{Ok, Err, IsTrue, refl, sym, ap, subst, ◌∙◌, arith, bytes_eq}
use Rattle.std.proofs.lemmas.Bool.{eq-eqb, eqb-true}
use Rattle.std.proofs.lemmas.List.{append-nil, length-append}
use Rattle.std.proofs.lemmas.List.Sorted.{IsPermutation-map, length_permutation, list_any-IsPermutation}
use Rattle.std.specs.{Prelude.IsErrAnd, List.AllByRecursion, List.Sorted.IsPermutation, Global.Vec, Vec.vec_len}
use Rattle.sqlite.specs.declared.types.Value.TheVariants.{Null, Int, Text as Words}
use Rattle.sqlite.specs.State.{State, HasCleanDisk, IsUnchanged, Survives}
use Rattle.sqlite.specs.{Effect.Database as Db, Order.Row, Order.column, Term.eval_all}
use Rattle.sqlite_rules.proofs.ListLemmas.{all_has}
use Rattle.sqlite_rules.specs.Lists.{Has}
use Rattle.row_checks.specs.declared.error.RowsError.TheVariants.{NoMeaning, Refused, Memory}
use Rattle.row_checks.specs.ShownRows.{HasNoMeaning, ShowsAll, ShowsFirst}
use Rattle.row_checks.specs.{declared.error.RowsError.RowsError, EachRow.ShowEach}
use Rattle.row_checks.proofs.Each.{all_prefix, all_last, all_more, show_prefix, show_less, show_more, show_same}
use Rattle.sql_steps.proofs.Members.{filter_permutation}
use Rattle.register_requests.specs.{Version.custodians_of, Name.is_among}
use Rattle.register_core.specs.KeyName.{KeyName, is_at, names_at}
use Rattle.register_checks.specs.declared.refusal.CheckError.TheVariants.{Memory as Ran_out}
use Rattle.register_tables.specs.declared.table.TableName.TheVariants.{Custodian}
use Rattle.register_checks.specs.CheckedTables.{IsOdd, ShowsName, check_error, check_text}
use Rattle.register_checks.specs.CheckedRows.{AreKept, HasCustodians, IsListed, RefusesCustodians, list_at}
use Rattle.register_checks.specs.Within.CheckedRows.{AreEmpty, KnowsCustodians}
use Rattle.register_checks.specs.OpeningChecks.{AreCustodians, IsCustodian, MayBeCustodian, owner_at, owners_of}
use Rattle.register_checks.specs.{declared.refusal.CheckError.CheckError, Within.CheckedTables.ChecksTable}
use Rattle.register_checks.specs.Stored.{HoldsStored, Stored}
use Rattle.register_tables.specs.Tables.{IsNamed, name_cells}
use Rattle.register_checks.proofs.Asked.{AnswersTo, IsWithin, ShowsOwn, in_both, shown_of_table, checks_table}
use Rattle.register_checks.proofs.EntriesChecked.{all_permuted, own_entries}
use Rattle.register_tables.proofs.Decoding.{same_number, same_words}
use Rattle.register_tables.proofs.Actions.{shows_all}
use Rattle.register_checks.proofs.MetaChecked.{newer_not}
use Rattle.register_checks.proofs.NameLists.{get_below, get_some}
use Rattle.register_checks.proofs.RowsFailed.{reason_of}

-- ---- rows of names at keys

pub one_name : (row : Row) (a b : KeyName) → ShowsName row a → ShowsName row b → a ≡ b
one_name row a b x y i = record { key = same_number _ _ _ x.key y.key i; name = same_words _ _ _ x.name y.name i }

one_list : (rows : List Row) (c d : List KeyName) → ShowEach ShowsName rows c → ShowEach ShowsName rows d → c ≡ d
one_list = show_same ShowsName one_name

-- ---- the names at a key

names_more : (key : ℕ) (entries others : List KeyName)
    → names_at key (entries ++ others) ≡ names_at key entries ++ names_at key others
names_more key [] others = refl
names_more key (e ∷ entries) others = search (arith, names_more key entries others)

more_here : (key : ℕ) (entries : List KeyName) (entry : KeyName) → entry.key ≡ key
    → names_at key (entries ++ entry ∷ []) ≡ names_at key entries ++ entry.name ∷ []
more_here key entries entry here = search (arith, names_more, eq-eqb)

more_other : (key : ℕ) (entries : List KeyName) (entry : KeyName) → is_at key entry ≡ false
    → names_at key (entries ++ entry ∷ []) ≡ names_at key entries
more_other key entries entry off = search (arith, names_more, append-nil)

-- an entry at the key of a name that is among those at it
among_at : (key : ℕ) (name : List ℕ) (entries : List KeyName) → is_among name (names_at key entries) ≡ true
    → (entry : KeyName) × Has entries entry × (entry.key ≡ key)
among_at key name [] among = absurd (cc)
among_at key name (e ∷ entries) among = search (arith, eqb-true, among_at key name entries)

names_permuted : (key : ℕ) (c d : List KeyName) → IsPermutation c d → IsPermutation (names_at key c) (names_at key d)
names_permuted key c d same = search (arith, IsPermutation-map, filter_permutation)

pub custodian_permuted : (c d : List KeyName) → IsPermutation c d → (entry : KeyName)
    → is_among entry.name (names_at entry.key c) ≡ is_among entry.name (names_at entry.key d)
custodian_permuted c d same entry = search (arith, list_any-IsPermutation, bytes_eq, names_permuted)

-- ---- owners

owner_range : (owners : List (List ℕ)) (key : ℕ) (owner : List ℕ) → owner_at owners key ≡ Some owner
    → (1 ≤ key) × (key ≤ length owners)
owner_range owners key owner e = search (arith, get_below)

pub owner_seen : (owners : List (List ℕ)) (key at : ℕ) (seen : List ℕ) → key ≡ suc at → at < length owners
    → seen ≡ get_or owners at seen → owner_at owners key ≡ Some seen
owner_seen owners key at seen e low is =
    let it = get_some owners at low in
    ap (owner_at owners) e ∙ it.1 ∙ ap (λ (n : List ℕ). Some n) (sym (is ∙ it.2 seen))

-- the list at a place has the names at its key
pub kept_at : (entries : List KeyName) (lists : List (Vec (List ℕ))) (key at : ℕ) (seen : Vec (List ℕ))
    → key ≡ suc at → at < length lists → AreKept entries lists → seen ≡ get_or lists at seen
    → seen.items ≡ names_at key entries
kept_at entries lists key at seen e low kept is =
    let it = get_some lists at low in
    let same : seen ≡ it.0 = is ∙ it.2 seen in
    ap (λ (v : Vec (List ℕ)). v.items) same ∙ kept at it.0 it.1 ∙ ap (λ k. names_at k entries) (sym e)

-- ---- one row after the other

pub begin_custodians : (most : ℕ) (owners : List (List ℕ)) (lists : List (Vec (List ℕ))) → AreEmpty lists
    → length lists ≡ length owners → HasCustodians most owners lists []
begin_custodians most owners lists none counted = search arith

module _ (most : ℕ) (owners : List (List ℕ)) (lists : List (Vec (List ℕ))) (rows : List Row) (row : Row)
    (taken : HasCustodians most owners lists rows) where
  pub custodians_more : (entry : KeyName) → ShowsName row entry → MayBeCustodian owners entry
      → length (names_at entry.key taken.entries) < most → (at : ℕ) → entry.key ≡ suc at → (new : List (Vec (List ℕ)))
      → length new ≡ length lists
      → ((names : Vec (List ℕ)) → slice_get new at ≡ Some names
      → (before : Vec (List ℕ)) × (slice_get lists at ≡ Some before) × (names.items ≡ before.items ++ entry.name ∷ []))
      → ((k : ℕ) → k ≢ at → slice_get new k ≡ slice_get lists k) → HasCustodians most owners new (rows ++ row ∷ [])
  custodians_more entry shows may room at key new counted added others = record {
    entries = taken.entries ++ entry ∷ [];
    shown = show_more ShowsName rows taken.entries row entry taken.shown shows;
    are = search (arith, all_more, more_here, length-append, more_other);
    counted = counted ∙ taken.counted;
    kept = grind (arith, slice_get, more_here, more_other);
  }

  -- what the row would have to show
  would : (entries : List KeyName) → ShowEach ShowsName (rows ++ row ∷ []) entries → AreCustodians most owners entries
      → (entry : KeyName) × ShowsName row entry × MayBeCustodian owners entry
      × (length (names_at entry.key taken.entries) < most)
  would entries shown are =
      let it = show_less ShowsName rows row entries shown in
      let same : it.0 ≡ taken.entries = one_list rows it.0 taken.entries it.3 taken.shown in
      let few = are.few it.1.key in
      let grown = ap (names_at it.1.key) it.2 ∙ more_here it.1.key it.0 it.1 refl in (
        it.1,
        it.4,
        all_last (MayBeCustodian owners) it.0 it.1 (subst (AllByRecursion (MayBeCustodian owners)) it.2 are.each),
        omega (
          arith,
          ap length grown,
          length-append (names_at it.1.key it.0) (it.1.name ∷ []),
          few,
          ap length (ap (names_at it.1.key) same),
        ),
      )

  pub not_shown : ((entry : KeyName) → ¬ ShowsName row entry) → RefusesCustodians most owners (rows ++ row ∷ [])
  not_shown none entries shown are = let it = would entries shown are in none it.0 it.1

  module _ (key : ℕ) (key_is : column row 0 ≡ Int (Rattle.std.proofs.Common.pos key)) where
    pub not_there : ((1 ≤ key) × (key ≤ length owners) → ⊥) → RefusesCustodians most owners (rows ++ row ∷ [])
    not_there off entries shown are = search (arith, would, same_number, owner_range)

    pub is_full : most ≤ length (names_at key taken.entries) → RefusesCustodians most owners (rows ++ row ∷ [])
    is_full full entries shown are = search (arith, would, same_number)

    pub is_owner : (name : List ℕ) → column row 1 ≡ Words name → owner_at owners key ≡ Some name
        → RefusesCustodians most owners (rows ++ row ∷ [])
    is_owner name name_is owns entries shown are = search (arith, would, same_number, same_words)

-- ---- a register's own rows

pub names_past : (r : Row)
    → eval_all (shown_of_table Custodian) ([] ∷ r ∷ [])
    ≡ eval_all (shown_of_table Custodian) ([] ∷ (Null ∷ Rattle.std.specs.Prelude.drop 1 r) ∷ [])
names_past r = search arith

pub own_row : (entry : KeyName) → IsNamed entry
    → ShowsName (eval_all (shown_of_table Custodian) ([] ∷ (Null ∷ name_cells entry) ∷ [])) entry
own_row entry is = record { key = refl; name = refl; in_range = is }

are_permuted : (most : ℕ) (owners : List (List ℕ)) (c d : List KeyName) → IsPermutation c d
    → AreCustodians most owners c → AreCustodians most owners d
are_permuted most owners c d same are = record {
  each = all_permuted (MayBeCustodian owners) c d same are.each;
  few = λ key. let few = are.few key in omega (arith, few, length_permutation _ _ (names_permuted key c d same));
}

pub own_custodians : (t : Stored) (db : Db) (rows : List Row) (holds : HoldsStored t db)
    → AnswersTo holds.schema.layout Custodian db rows → ShowsOwn Custodian t rows
own_custodians t db rows holds sure =
    let it = own_entries name_cells ShowsName IsNamed (holds.schema.layout.tree Custodian) (shown_of_table Custodian)
    names_past own_row db t.tables.custodians rows (holds.in_range Custodian) (holds.shown Custodian)
    (shows_all db.trees (holds.schema.layout.tree Custodian)) sure in search (arith, are_permuted)

knows_like : (c d : List KeyName) (lists : Vec (Vec (List ℕ))) → IsPermutation d c → KnowsCustodians c lists
    → KnowsCustodians d lists
knows_like c d lists same knows entry =
    let alike = custodian_permuted d c same entry in
    ((λ listed. alike ∙ (knows entry).0 listed), (λ is. (knows entry).1 (sym alike ∙ is)))

-- ---- what was read

custodians_within : (t : Stored) → IsWithin Custodian t.version
custodians_within t = in_both Custodian (omega arith) t.version

knows_so : (most : ℕ) (owners : List (List ℕ)) (lists : Vec (Vec (List ℕ))) (rows : List Row)
    → (taken : HasCustodians most owners lists.items rows) → KnowsCustodians taken.entries lists
knows_so most owners lists rows taken entry = ((λ listed. forth entry.key refl listed), (λ is. back entry.key refl is))
  where
    forth : (key : ℕ) → entry.key ≡ key → IsListed lists.items entry → IsCustodian taken.entries entry
    forth zero at listed =
        absurd (let e = sym (ap (Rattle.register_checks.specs.CheckedRows.list_at lists.items) at) ∙ listed.there in cc)
    forth (suc k) at listed =
        let there = sym (ap (Rattle.register_checks.specs.CheckedRows.list_at lists.items) at) ∙ listed.there in
        ap (is_among entry.name) (ap (λ n. names_at n taken.entries) at ∙ sym (taken.kept k listed.names there))
        ∙ listed.among

    back : (key : ℕ) → entry.key ≡ key → IsCustodian taken.entries entry → IsListed lists.items entry
    back key at is =
        let it = among_at entry.key entry.name taken.entries is in
        let may = all_has (MayBeCustodian owners) taken.entries it.0 taken.are.each it.1 in
        let range = owner_range owners it.0.key may.owner may.there in
        placed key at (omega (arith, range.0, it.2, at)) (omega (arith, range.1, it.2, at, taken.counted))
      where
        placed : (key : ℕ) → entry.key ≡ key → 1 ≤ key → key ≤ length lists.items → IsListed lists.items entry
        placed zero at low high = absurd (omega arith)
        placed (suc k) at low high =
            let here = get_some lists.items k (omega arith) in
            record {
              names = here.0;
              there = ap (Rattle.register_checks.specs.CheckedRows.list_at lists.items) at ∙ here.1;
              among = search arith;
            }

module _ (t : Stored) (most : ℕ) (most_is : most ≡ custodians_of t.version) (owners : List (List ℕ)) (are : owners
    ≡ owners_of t.tables.keys) (old new : State) (survives : Survives old new (λ _. ⊥)) where
  abbrev Checked : Result (Vec (Vec (List ℕ))) CheckError → Type 0
  Checked q = ChecksTable Custodian t KnowsCustodians old new q

  pub custodians_read : (lists : Vec (Vec (List ℕ)))
      → (HasCleanDisk new → ShowsAll (check_text Custodian) (HasCustodians most owners lists.items) old new)
      → Checked (Ok lists)
  custodians_read lists all =
      checks_table Custodian t (custodians_within t) (own_custodians t) (newer_not t) KnowsCustodians
      (λ c d x like says. knows_like c d x like says) one_list old new (Ok lists)
      (λ clean.
      let it = all clean in (
        it.holds.entries,
        record { rows = it.rows; shown = it.shown; holds = it.holds.shown; same = it.same },
        subst (λ m. AreCustodians m (owners_of t.tables.keys) it.holds.entries) most_is
            (subst (λ o. AreCustodians most o it.holds.entries) are it.holds.are),
        knows_so most owners lists it.rows it.holds,
      ))
      (λ clean. tt) survives

  odd : (rows : List Row) → RefusesCustodians most owners rows → (tail : List Row) → IsOdd Custodian t (rows ++ tail)
  odd rows refuses tail = record {
    fails = λ c shows meets.
        let it = show_prefix ShowsName rows tail c shows in
        let whole = subst (λ o. AreCustodians most o (it.0 ++ it.1)) (sym are)
        (grind arith) in
        refuses it.0 it.3 (record {
          each = all_prefix (MayBeCustodian owners) it.0 it.1 whole.each;
          few = λ key.
              let few = whole.few key in search (arith, names_more, length-append);
        });
    no_newer = λ none. none;
  }

  pub custodians_fail : (error : RowsError) (q : Result (Vec (Vec (List ℕ))) CheckError)
      → IsErrAnd q (λ e. e ≡ check_error error)
      → (HasCleanDisk new → error ≡ NoMeaning → HasNoMeaning (check_text Custodian) old new)
      → (HasCleanDisk new → error ≡ Refused
      → ShowsFirst (check_text Custodian) (RefusesCustodians most owners) old new)
      → (HasCleanDisk new → error ≡ Memory → IsUnchanged old new) → Checked q
  custodians_fail error (Ok x) is meaning refused memory = absurd is
  custodians_fail error (Err e) is meaning refused memory =
      checks_table Custodian t (custodians_within t) (own_custodians t) (newer_not t) KnowsCustodians
      (λ c d x like says. knows_like c d x like says) one_list old new (Err e) (λ clean. tt)
      (search (arith, reason_of, odd)) survives

-- ---- approvals

-- the list at a place
pub list_seen : (lists : List (Vec (List ℕ))) (key at : ℕ) (seen : Vec (List ℕ)) → key ≡ suc at → at < length lists
    → seen ≡ get_or lists at seen → list_at lists key ≡ Some seen
list_seen lists key at seen e low is =
    let it = get_some lists at low in search arith

-- the list that is read there, where the place was seen to be below the length
pub list_read : (lists : Vec (Vec (List ℕ))) (key at len : ℕ) (seen : Vec (List ℕ)) → key ≡ suc at → at < len
    → len ≡ vec_len lists → seen ≡ get_or lists.items at seen → list_at lists.items key ≡ Some seen
list_read lists key at len seen e room is read = list_seen lists.items key at seen e (omega (arith, room, is)) read

-- a key that is not there has no list
pub not_listed : (lists : List (Vec (List ℕ))) (entry : KeyName) → ((1 ≤ entry.key) × (entry.key ≤ length lists) → ⊥)
    → ¬ IsListed lists entry
not_listed lists entry off listed = search (arith, get_below)

-- memory gave out before the rows were read
pub custodians_unread : (t : Stored) (old : State) → (HasCleanDisk old → IsTrue old.is_open) → (e : CheckError)
    → e ≡ Ran_out → (q : Result (Vec (Vec (List ℕ))) CheckError) → IsErrAnd q (λ x. x ≡ e)
    → ChecksTable Custodian t KnowsCustodians old old q
custodians_unread t old is_open e out q is = search arith
