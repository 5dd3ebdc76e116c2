-- What an UPDATE of keys does: of the one with a number, or of any others.
use Rattle.std.proofs.Common.{◌≡◌, ◌==◌, ℕ, ◌+◌, pos, List, [], ◌∷◌, ◌++◌, codes, map, Bool, cond, Ok, Option, Some}
use Rattle.std.proofs.Common.{not, ◌&&◌, true, false, refl, sym, ap₂, subst, arith}
use Rattle.std.proofs.Math.Bool.{and-true}
use Rattle.std.specs.List.{AllByRecursion, enumerate_from}
use Rattle.sqlite.specs.declared.types.Value.TheVariants.{Int, Text as Words}
use Rattle.sqlite.specs.State.{State as View, Executes}
use Rattle.sqlite.specs.Term.{Term, eval, col, op1, op2}
use Rattle.sqlite.specs.{Collation.TheVariants.Binary, Order.Row as Cells, Ops.from_truth, Tree.IsTable}
use Rattle.sqlite_sql.specs.declared.ops.BinaryOp.TheVariants.{Compare}
use Rattle.sqlite_sql.specs.{declared.ops.CompareOp.TheVariants.Eq, declared.ops.UnaryOp.TheVariants.Not}
use Rattle.sqlite_tied.specs.Compute.{everything}
use Rattle.sql_steps.proofs.Changing as changing
use Rattle.sql_steps.proofs.Updates as typed
use Rattle.sql_steps.proofs.Comparing.{equal_integers, equal_numbers, equal_texts, opposite}
use Rattle.sql_steps.proofs.Statements.{plain_query, cast_int, cast_null}
use Rattle.moment_core.specs.Moment.{IsMoment}
use Rattle.lifecycle_core.specs.{declared.dates.Dates.Dates, declared.row.Row.Row, State.state_code}
use Rattle.register_core.specs.{declared.key.Key.Key, Dates.AreDates}
use Rattle.register_requests.specs.Name.{IsName}
use Rattle.register_tables.specs.Tables.{Layout, fresh, place_of, IsKey, date_cell, key_row, numbered}
use Rattle.register_tables.specs.TableChanges.{Makes, with_owner_and_row, where_number, with_key_at}
use Rattle.register_tables.specs.{declared.table.TableName.TheVariants.Keys, Columns.joined, Within.Tables.keys}
use Rattle.register_tables.specs.Schema.{schema_with, Holds, table_rows}
use Rattle.register_rows.specs.Within.TableChanges.{Always}
use Rattle.register_tables.proofs.ColumnTerms.{key_kept, with_given}
use Rattle.register_tables.proofs.Meanings.{Sets, classes, placed, sets}
use Rattle.register_rows.proofs.KeyStands.{both_so, given_places, stands, stands_so, where_it_differs}
use Rattle.register_tables.proofs.Actions.{idle, shows_all}
use Rattle.register_tables.proofs.{Frame.holds_with, Numbers.is_table}
use Rattle.sqlite_resolve.specs.Compile.{first}

-- the text gives the rows that pass other cells
abbrev pub IsUpdate : List ℕ → List Term → List Term → Type 0
IsUpdate sql passes shown = (l : Layout) → Sets (schema_with l) (keys l) (place_of Keys) sql
    (plain_query (l.tree Keys) passes (col 1 0 ∷ shown))

-- what f makes of a key, where it is for it
abbrev pub changed_where : (ℕ × Key → Bool) → (Key → Key) → ℕ × Key → Key
changed_where is_for f p = cond (is_for p) (f p.1) p.1

module _ (sql : List ℕ) (passes shown : List Term) (parts : IsUpdate sql passes shown) (params : Cells) (is_for : ℕ
    × Key → Bool) (f : Key → Key) (keeps : (k : Key) → IsKey k → IsKey (f k)) where
  abbrev set : ℕ × Key → ℕ × Key
  set p = (p.0, f p.1)

  abbrev changed : ℕ × Key → ℕ × Key
  changed = changing.changed key_row (λ p. pos p.0) (λ _. refl) (keys (fresh [])) params passes shown set

  -- what the statement makes of a row, and whether it does
  abbrev pub image_of : ℕ × Key → Cells
  image_of p = typed.g key_row (λ p. pos p.0) (λ _. refl) (keys (fresh [])) params passes shown set (key_row p)

  abbrev pub passes_row : ℕ × Key → Bool
  passes_row = typed.check key_row (λ p. pos p.0) (λ _. refl) (keys (fresh [])) params passes shown set

  one : (n : ℕ) (k : Key) (b : Bool) → key_row (cond b (set (n, k)) (n, k)) ≡ key_row (n, cond b (f k) k)
  one n k b = search arith

  in_range : (n : ℕ) (ks : List Key) → AllByRecursion IsKey ks
      → AllByRecursion IsKey (map (changed_where is_for f) (enumerate_from n ks))
  in_range n [] all = tt
  in_range n (k ∷ ks) all = (stays (is_for (n, k)), in_range (n + 1) ks all.1)
    where
      stays : (b : Bool) → IsKey (cond b (f k) k)
      stays true = keeps k all.0
      stays false = all.0

  module _ (is : (p : ℕ × Key) → passes_row p ≡ is_for p) where
    each : (n : ℕ) (ks : List Key)
        → map key_row (map changed (enumerate_from n ks))
        ≡ map key_row (enumerate_from n (map (changed_where is_for f) (enumerate_from n ks)))
    each n [] = refl
    each n (k ∷ ks) = search (arith, one, each (n + 1) ks)

    -- each key that passes is changed, and no other
    pub changes_keys : ((p : ℕ × Key) → image_of p ≡ key_row (set p)) → (old new : View) (count : ℕ)
        → Executes sql params old new (Ok count)
        → Makes Always (λ t. record t { keys = map (changed_where is_for f) (numbered t.keys) }) old.now new.now
    changes_keys image old new count h t holds always =
        let l = holds.schema.layout in
        let m = sets (schema_with l) (keys l) (classes l (placed t old.now holds) Keys) _ _ _ (parts l) in
        let ordered : IsTable (table_rows l Keys old.now) = subst IsTable (sym (holds.shown Keys)) (is_table t.keys) in
        let wrote = changing.changes key_row (λ p. pos p.0) (λ _. refl) (keys l) params passes shown set sql
        (schema_with l) (place_of Keys) refl
        m.is m.plain (idle l holds.schema.apart Keys refl 0) (λ db. shows_all db (l.tree Keys)) image (λ p. refl) old
        new count h holds.schema.is (numbered t.keys) (holds.shown Keys) ordered in
        holds_with Keys (map (changed_where is_for f) (numbered t.keys)) t old.now new.now _ holds wrote
        (in_range 1 t.keys (holds.in_range Keys)) (each 1 t.keys)

-- ---- what an accepted request can change

-- the columns with the parameters that they are given
abbrev given_texts : List (List ℕ)
given_texts =
    codes "owner = ?2" ∷ codes "state = ?3" ∷ codes "activation = ?4" ∷ codes "protect_stop = ?5"
    ∷ codes "deactivation = ?6" ∷ codes "destroyed = ?7" ∷ codes "compromised = ?8" ∷ codes "occurrence = ?9" ∷ []

abbrev pub key_text : List ℕ
key_text =
    codes "UPDATE keys SET " ++ joined (codes ", ") given_texts ++ codes " WHERE number = ?1 AND NOT ("
    ++ joined (codes " AND ") given_texts ++ codes ")"

-- the rowid is the one that is given first, and the key stands otherwise than it is to
abbrev differs : List Term
differs = op2 (Compare Eq Binary) (col 1 0) (col 0 0) ∷ op1 Not stands_so ∷ []

abbrev key_given : List Term
key_given = with_given 1 given_places key_kept

key_parts : IsUpdate key_text differs key_given
unfolding everything first
key_parts l = record { p = _; name = _; sets = _; check = _; d = _; parsed = refl; untimed = refl; is = refl; named = refl; there = refl; drafted = refl; same = refl; from = refl; accepted = refl }

abbrev pub key_params : ℕ → List ℕ → Row → Cells
key_params number owner row =
    let d = row.dates in
    Int (pos number) ∷ Words owner ∷ Int (pos (state_code row.state)) ∷ Int (pos (date_cell d.activation))
    ∷ Int (pos (date_cell d.protect_stop)) ∷ Int (pos (date_cell d.deactivation))
    ∷ Int (pos (date_cell d.destroy)) ∷ Int (pos (date_cell d.compromise))
    ∷ Int (pos (date_cell d.compromise_occurrence)) ∷ []

-- the dates that may change are in range, whatever the Initial Date is
abbrev pub AreLaterDates : Dates → Type 0
AreLaterDates d = (initial : ℕ) → IsMoment initial → AreDates (record d { initial = initial })

stays_key : (owner : List ℕ) (row : Row) → IsName owner → AreLaterDates row.dates → (k : Key) → IsKey k
    → IsKey (with_owner_and_row owner row k)
stays_key owner row name dates k is = search arith

module _ (number : ℕ) (owner : List ℕ) (row : Row) where
  abbrev is_to_change : ℕ × Key → Bool
  is_to_change p = (p.0 == number) && not (stands owner row p.1)

  condition_is : (k : Key) → eval stands_so (key_params number owner row ∷ key_row (number, k) ∷ [])
      ≡ from_truth (Some (stands owner row k))
  condition_is k =
      let d = row.dates in
      let e = k.row.dates in
      let date = λ (a b : Option ℕ). equal_integers (date_cell a) (date_cell b) in
      both_so _ _ _ _ (both_so _ _ _ _ (both_so _ _ _ _ (search (arith, both_so, equal_texts, equal_integers))
      (date e.destroy d.destroy)) (date e.compromise d.compromise))
      (date e.compromise_occurrence d.compromise_occurrence)

  all_alike : AreLaterDates row.dates → (n : ℕ) (ks : List Key) → AllByRecursion IsKey ks
      → map (changed_where is_to_change (with_owner_and_row owner row)) (enumerate_from n ks)
      ≡ map (where_number number (with_owner_and_row owner row)) (enumerate_from n ks)
  all_alike dates n [] all = refl
  all_alike dates n (k ∷ ks) all =
      let head = where_it_differs number owner row (n, k) all.0 (dates k.row.dates.initial all.0.dates.initial) in
      let tail = all_alike dates (n + 1) ks all.1 in
      λ i. head i ∷ tail i

  pub updates_key : IsName owner → AreLaterDates row.dates → (old new : View) (count : ℕ)
      → Executes key_text (key_params number owner row) old new (Ok count)
      → Makes Always (with_key_at number (with_owner_and_row owner row)) old.now new.now
  updates_key name dates old new count ran t holds always =
      let made = changes_keys key_text differs key_given key_parts (key_params number owner row) is_to_change
      (with_owner_and_row owner row) (stays_key owner row name dates)
      (search (arith, ap₂, equal_numbers, condition_is, and-true, opposite, stands))
      (λ p. simp (cast_int, cast_null)) old new count ran in
      subst (λ ks. Holds (record t { keys = ks }) new.now) (all_alike dates 1 t.keys (holds.in_range Keys))
      (made t holds tt)
