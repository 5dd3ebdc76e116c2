-- The check of the table of keys.
use Rattle.std.proofs.Common.{◌≡◌, ◌≢◌, ◌==◌, ◌≤◌, ◌<◌, ◌+◌, Bool, true, false, ℕ, suc, Result, Ok, Err, List, [], ◌∷◌}
use Rattle.std.proofs.Common.{◌++◌, length, length-append, map, sym, ap, subst, ◌∙◌, refl, arith, Option}
use Rattle.std.proofs.lemmas.Bool.{eq-eqb, eqb-true}
use Rattle.std.proofs.lemmas.List.{map-append}
use Rattle.std.specs.{List.AllByRecursion, List.enumerate_from, Global.Vec, Bool.then_some, Option.ok_or}
use Rattle.sqlite.specs.State.{State, HasCleanDisk, IsUnchanged, Survives}
use Rattle.sqlite.specs.{Effect.Database as Db, Order.Row, Program.overlay, Tree.IsTable}
use Rattle.row_checks.specs.declared.error.RowsError.TheVariants.{NoMeaning, Refused, Memory}
use Rattle.row_checks.specs.ShownRows.{HasNoMeaning, ShowsAll, ShowsFirst}
use Rattle.row_checks.specs.{declared.error.RowsError.RowsError, EachRow.ShowEach}
use Rattle.row_checks.proofs.Each.{all_prefix, all_last, all_more, show_prefix, show_length, show_more, show_same}
use Rattle.row_checks.proofs.Each.{show_split}
use Rattle.register_core.specs.declared.key.Key.{Key}
use Rattle.register_checks.specs.CheckedTables.{IsOdd, ShowsNumbered, ShowsRows, check_error, check_text, mark_of}
use Rattle.register_tables.specs.Tables.{Counts, IsKey, key_row, numbered}
use Rattle.register_checks.specs.CheckedRows.{AreCounted, HasCountedKeys, RefusesKeys}
use Rattle.register_checks.specs.{declared.refusal.CheckError.TheVariants.NotARegister, Within.CheckedRows.AreOwners}
use Rattle.register_checks.specs.OpeningChecks.{IsSoundAt, owners_of}
use Rattle.register_checks.specs.Within.CheckedRows.{owners_where}
use Rattle.register_checks.specs.{declared.found.Found.Found, declared.refusal.CheckError.CheckError}
use Rattle.register_tables.specs.declared.table.TableName.TheVariants.{Keys}
use Rattle.register_checks.specs.Within.CheckedTables.{ChecksTable}
use Rattle.register_checks.specs.Stored.{HoldsStored, Stored, mark}
use Rattle.register_tables.specs.Schema.{table_rows}
use Rattle.register_requests.specs.declared.version.Version.{Version}
use Rattle.register_checks.proofs.Asked.{AnswersTo, IsWithin, ShowsOwn, in_both, shown_of_table, checks_table}
use Rattle.register_tables.proofs.Numbers.{enumerate_append, is_table}
use Rattle.register_tables.proofs.Decoding.{one_key, same_number}
use Rattle.register_tables.proofs.{Actions.shows_all, RowFound.shows_key}
use Rattle.register_checks.proofs.Ordered.{in_order, shown_of}
use Rattle.register_checks.proofs.{MetaChecked.newer_not, RowsFailed.reason_of}

-- ---- numbered keys

length_numbered : (n : ℕ) (keys : List Key) → length (enumerate_from n keys) ≡ length keys
length_numbered n [] = refl
length_numbered n (k ∷ keys) = ap suc (length_numbered (n + 1) keys)

keys_back : (n : ℕ) (keys : List Key) → map (λ (x : ℕ × Key). x.1) (enumerate_from n keys) ≡ keys
keys_back n [] = refl
keys_back n (k ∷ keys) = ap (λ l. k ∷ l) (keys_back (n + 1) keys)

-- the first of the numbered keys are the first keys, numbered
numbered_prefix : (n : ℕ) (keys : List Key) (prefix back : List (ℕ × Key)) → enumerate_from n keys ≡ prefix ++ back
    → (these : List Key) × (others : List Key) × (keys ≡ these ++ others) × (prefix ≡ enumerate_from n these)
numbered_prefix n keys [] back e = ([], keys, refl, refl)
numbered_prefix n [] (x ∷ prefix) back e = absurd (cc)
numbered_prefix n (k ∷ keys) (x ∷ prefix) back e =
    let it = numbered_prefix (n + 1) keys prefix back (cc) in
    let head : x ≡ (n, k) = cc in
    (k ∷ it.0, it.1, ap (λ l. k ∷ l) it.2, λ i. head i ∷ it.3 i)

-- a list that is not empty has a last
ends : (n : ℕ) (keys : List Key) → length keys ≡ suc n → (these : List Key) × (last : Key)
    × (keys ≡ these ++ last ∷ []) × (length these ≡ n)
ends n [] e = absurd (omega arith)
ends n (k ∷ []) e = ([], k, refl, omega arith)
ends n (k ∷ j ∷ keys) e =
    let it = ends (length keys) (j ∷ keys) refl in (k ∷ it.0, it.1, ap (λ l. k ∷ l) it.2, omega (arith, it.3))

-- ---- one row after the other

module _ (found : Found) (count : ℕ) (owners : List (List ℕ)) (rows : List Row) (row : Row)
    (taken : HasCountedKeys found count owners rows) where
  more_are : (keys : List Key) → AreCounted found (rows ++ row ∷ []) keys → length keys ≡ suc count
  more_are keys are = search (arith, show_length, length_numbered, length-append)

  -- one row more than are counted
  pub keys_full : found.keys ≤ count → RefusesKeys found (rows ++ row ∷ [])
  keys_full full keys are = let within = are.within in omega (arith, more_are keys are, within, full)

  -- a row that is not that of the next key
  pub keys_odd : ((k : Key) → ShowsNumbered row (count + 1, k) → ¬ IsSoundAt found.version found.latest k)
      → RefusesKeys found (rows ++ row ∷ [])
  keys_odd odd keys are =
      let it = ends count keys (more_are keys are) in
      let all : numbered keys ≡ numbered it.0 ++ (1 + length it.0, it.1) ∷ [] = grind (arith, enumerate_append) in
      let last = (show_split ShowsNumbered rows row (numbered it.0) (
        1 + length it.0,
        it.1,
      ) (subst (ShowEach ShowsNumbered (rows ++ row ∷ [])) all are.shown)).1 in
      let next : 1 + length it.0 ≡ count + 1 = omega (arith, it.3) in search (arith, all_last)

  -- the row of the next key
  pub keys_more : count < found.keys → (k : Key) → ShowsNumbered row (count + 1, k)
      → IsSoundAt found.version found.latest k → (more : List (List ℕ)) → more ≡ owners ++ k.owner ∷ []
      → HasCountedKeys found (count + 1) more (rows ++ row ∷ [])
  keys_more room k shows sound more is =
      let counted = taken.counted in
      let next : count + 1 ≡ 1 + length taken.keys = omega (arith, counted) in
      let long = length-append taken.keys (k ∷ []) in search (arith, enumerate_append, show_more, all_more, map-append)

-- ---- a register's own rows

own_shown : (n : ℕ) (keys : List Key) → AllByRecursion IsKey keys
    → ShowEach ShowsNumbered (map (shown_of 0 (shown_of_table Keys)) (map key_row (enumerate_from n keys)))
    (enumerate_from n keys)
own_shown n [] all = tt
own_shown n (k ∷ keys) all = search (arith, shows_key, own_shown (n + 1) keys all.1)

pub own_keys : (t : Stored) (db : Db) (rows : List Row) (holds : HoldsStored t db)
    → AnswersTo holds.schema.layout Keys db rows → ShowsOwn Keys t rows
own_keys t db rows holds sure =
    let table : IsTable (table_rows holds.schema.layout Keys db) = grind (arith, is_table) in
    let is = in_order (holds.schema.layout.tree Keys) (shown_of_table Keys) (overlay db.trees []) rows
    (subst IsTable (sym (shows_all db.trees (holds.schema.layout.tree Keys))) table) sure
    ∙ ap (map (shown_of 0 (shown_of_table Keys))) (search (arith, shows_all)) in
    record {
      c = t.tables.keys;
      shows = subst (λ rs. ShowEach ShowsNumbered rs (numbered t.tables.keys)) (sym is)
          (own_shown 1 t.tables.keys (holds.in_range Keys));
      like = refl;
      meets = λ meets. meets;
    }

one_numbered : (row : Row) (a b : ℕ × Key) → ShowsNumbered row a → ShowsNumbered row b → a ≡ b
one_numbered row a b x y = λ i. (same_number _ _ _ x.number y.number i, one_key row a.1 b.1 x.cells y.cells i)

pub one_keys : (rows : List Row) (c d : List Key) → ShowsRows Keys rows c → ShowsRows Keys rows d → c ≡ d
one_keys rows c d x y =
    sym (keys_back 1 c)
    ∙ ap (map (λ (x : ℕ × Key). x.1)) (show_same ShowsNumbered one_numbered rows (numbered c) (numbered d) x y)
    ∙ keys_back 1 d

-- ---- what was read

-- no row yet
pub keys_begin : (found : Found) (owners : List (List ℕ)) → owners ≡ [] → HasCountedKeys found 0 owners []
keys_begin found owners none = search arith

module _ (t : Stored) (found : Found) (told : mark_of found ≡ mark t) (old new : State)
    (survives : Survives old new (λ _. ⊥)) where
  keys_within : IsWithin Keys t.version
  keys_within = in_both Keys (omega arith) t.version

  key_count_is : found.keys ≡ t.tables.counts.key_count
  key_count_is = ap (λ (m : Version × Counts). m.1.key_count) told

  -- rows that do not pass do not begin rows that do
  odd_on : (rows : List Row) → RefusesKeys found rows → (tail : List Row) → IsOdd Keys t (rows ++ tail)
  odd_on rows refuses tail = search (arith, show_prefix, numbered_prefix, all_prefix, length-append, key_count_is)

  abbrev Checked : Result (Vec (List ℕ)) CheckError → Type 0
  Checked q = ChecksTable Keys t AreOwners old new q

  -- all of them
  pub keys_read : (count : ℕ) (owners : Vec (List ℕ))
      → (HasCleanDisk new → ShowsAll (check_text Keys) (HasCountedKeys found count owners.items) old new)
      → (HasCleanDisk new → count ≡ found.keys) → Checked (Ok owners)
  keys_read count owners all is =
      checks_table Keys t keys_within (own_keys t) (newer_not t) AreOwners
      (λ c d x like says. says ∙ ap owners_of like) one_keys old new (Ok owners)
      (search (arith, key_count_is))
      (λ clean. tt) survives

  -- fewer than are counted
  pub keys_fewer : (count : ℕ) (owners : List (List ℕ))
      → (HasCleanDisk new → ShowsAll (check_text Keys) (HasCountedKeys found count owners) old new)
      → (HasCleanDisk new → count ≢ found.keys) → Checked (Err NotARegister)
  keys_fewer count owners all off =
      checks_table Keys t keys_within (own_keys t) (newer_not t) AreOwners
      (λ c d x like says. says ∙ ap owners_of like) one_keys old new (Err NotARegister) (λ clean. tt)
      (search (arith, one_keys, key_count_is))
      survives

  -- an error of the reader
  pub keys_fail : (error : RowsError) (q : Result (Vec (List ℕ)) CheckError)
      → Rattle.std.specs.Prelude.IsErrAnd q (λ e. e ≡ check_error error)
      → (HasCleanDisk new → error ≡ NoMeaning → HasNoMeaning (check_text Keys) old new)
      → (HasCleanDisk new → error ≡ Refused → ShowsFirst (check_text Keys) (RefusesKeys found) old new)
      → (HasCleanDisk new → error ≡ Memory → IsUnchanged old new) → Checked q
  keys_fail error (Ok x) is meaning refused memory = absurd is
  keys_fail error (Err e) is meaning refused memory =
      checks_table Keys t keys_within (own_keys t) (newer_not t) AreOwners
      (λ c d x like says. says ∙ ap owners_of like) one_keys old new (Err e) (λ clean. tt)
      (search (arith, reason_of, odd_on)) survives

  -- what is given of them
  module _ (seen : Found) (count : ℕ) (owners : Vec (List ℕ)) (all : HasCleanDisk new
      → ShowsAll (check_text Keys) (λ rows. (seen ≡ found) × HasCountedKeys found count owners.items rows) old new) where
    taken : HasCleanDisk new → ShowsAll (check_text Keys) (HasCountedKeys found count owners.items) old new
    taken clean = let it = all clean in record { rows = it.rows; shown = it.shown; holds = it.holds.1; same = it.same }

    seen_is : HasCleanDisk new → seen.keys ≡ found.keys
    seen_is clean = let it = all clean in ap (λ (f : Found). f.keys) it.holds.0

    given_by : (enough : Bool) → (count == seen.keys) ≡ enough → Checked (owners_where enough owners)
    given_by true is = keys_read count owners taken (λ clean. eqb-true count seen.keys is ∙ seen_is clean)
    given_by false is =
        keys_fewer count owners.items taken
        (λ clean same. absurd (let e = sym is ∙ eq-eqb count seen.keys (same ∙ sym (seen_is clean)) in cc))

    pub keys_given : (q : Result (Vec (List ℕ)) CheckError) → q ≡ owners_where (count == seen.keys) owners → Checked q
    keys_given q is = subst Checked (sym is) (given_by (count == seen.keys) refl)

-- ---- whether there are as many as are counted

pub given_where : (all : Bool) (owners : Vec (List ℕ)) (found : Option (Vec (List ℕ)))
    (q : Result (Vec (List ℕ)) CheckError) → found ≡ then_some all owners → q ≡ ok_or found NotARegister
    → q ≡ owners_where all owners
given_where all owners found q found_is is = search arith
