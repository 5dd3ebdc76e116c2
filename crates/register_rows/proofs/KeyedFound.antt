-- What a search finds in a table whose rows go by a number of their own: the value of the entry with the number.
use Rattle.std.proofs.Common.{◌≡◌, ◌==◌, inl, inr, ℕ, Bool, true, false, cond, List, [], ◌∷◌, map, filter, drop, Option}
use Rattle.std.proofs.Common.{None, Some, Ok, Err, refl, sym, ap, subst, ◌∙◌, arith}
use Rattle.std.proofs.lemmas.Bool.{cases_Bool, eqb-true}
use Rattle.std.proofs.lemmas.List.Sorted.{IsPermutation-map}
use Rattle.std.specs.{Prelude.find, Option.option_map, List.Sorted.IsPermutation}
use Rattle.sqlite.specs.declared.error.Error.TheVariants.{QueryReturnedNoRows}
use Rattle.sqlite.specs.{Order.Row as Cells, State.State, State.QueriesRow, Term.eval_all}
use Rattle.sqlite_rules.proofs.ListLemmas.{all_has, has_filtered}
use Rattle.sqlite_rules.specs.Lists.{Has}
use Rattle.sqlite_trees.proofs.ListLemmas.{all_of, filter-map, filter_same, map-map}
use Rattle.sql_steps.proofs.{Members.filter_permutation, SameRows.map_has, Statements.picked, Statements.is_picked}
use Rattle.register_tables.specs.Schema.{Holds, table_rows}
use Rattle.register_tables.specs.Tables.{Tables}
use Rattle.register_rows.proofs.SettingTables.{IsSetting, Setting, check_is, find_text, names, number_params, row}
use Rattle.register_rows.proofs.SettingTables.{shown, table_in_range, table_shown}
use Rattle.register_tables.proofs.RowFound.{ReadsRow, answer_read, none_is, row_is}
use Rattle.register_tables.proofs.Readings.{IsSearch, search_by}
use Rattle.register_rows.proofs.KeyedRows.{one_row}
use Rattle.register_tables.proofs.Texts.{has_number}

module _ {A X : Type 0} {s : Setting A X} (set : IsSetting s) where
  pub searched : IsSearch (find_text s) s.name has_number (shown s) (names s)
  searched = search_by (find_text s) s.name has_number (shown s) (names s) set.finds

module _ {A X : Type 0} {s : Setting A X} (set : IsSetting s) (n : ℕ) where
  abbrev is_its : A → Bool
  is_its a = s.number_of a == n

  abbrev its_values : Tables → List X
  its_values t = map s.value_of (filter is_its (s.entries t))

  -- the value of the first entry with the number, if there is one
  abbrev pub value_at : Tables → Option X
  value_at t = option_map s.value_of (find is_its (s.entries t))

  abbrev check : Cells → Bool
  check = is_picked (number_params n) 0 has_number (shown s)

  abbrev row_shown : Cells → Cells
  row_shown r = eval_all (shown s) (number_params n ∷ r ∷ [])

  picks : (t : Tables) (old : State) (holds : Holds t old.now)
      → IsPermutation (picked (number_params n) 0 has_number (shown s) (table_rows holds.schema.layout s.name old.now))
      (map s.cells (its_values t))
  picks t old holds =
      let rows = table_rows holds.schema.layout s.name old.now in
      let passing : filter check (map (row s) (s.entries t)) ≡ map (row s) (filter is_its (s.entries t)) =
      filter-map check (row s) (s.entries t) ∙ ap (map (row s)) (filter_same (λ a. check (row s a)) is_its (s.entries t)
      (all_of (λ a. check (row s a) ≡ is_its a) (check_is s (shown s) n) (s.entries t))) in
      let right : map row_shown (filter check (map (row s) (s.entries t))) ≡ map s.cells (its_values t) =
      ap (map row_shown) passing ∙ map-map row_shown (row s) (filter is_its (s.entries t))
      ∙ shown_each (filter is_its (s.entries t)) ∙ sym (map-map s.cells s.value_of (filter is_its (s.entries t))) in
      subst (IsPermutation (picked (number_params n) 0 has_number (shown s) rows)) right
      (IsPermutation-map row_shown _ _
      (filter_permutation check rows (map (row s) (s.entries t)) (table_shown set t old.now holds).rows_are))
    where
      shown_each : (sets : List A) → map (λ a. row_shown (row s a)) sets ≡ map (λ a. s.cells (s.value_of a)) sets
      shown_each [] = refl
      shown_each (a ∷ sets) = λ i. set.shown_is n a i ∷ shown_each sets i

  -- the first of the entries with the number, where there is one
  first_at : (sets : List A) (set : A) → Has sets set → is_its set ≡ true
      → (other : A) × (find is_its sets ≡ Some other) × Has sets other × (is_its other ≡ true)
  first_at [] set h is = absurd h
  first_at (x ∷ xs) set h is = elim (cases_Bool (is_its x)) [
    | inl here ↦ (x, ap (λ (b : Bool). cond b (Some x) (find is_its xs)) here, inl refl, here)
    | inr past ↦
        let rest = first_at xs set (after past h) is in
        (rest.0, ap (λ (b : Bool). cond b (Some x) (find is_its xs)) past ∙ rest.1, inr rest.2, rest.3)
  ]
    where
      after : is_its x ≡ false → Has (x ∷ xs) set → Has xs set
      after past (inl same) = absurd (let both : true ≡ false = sym is ∙ ap is_its same ∙ past in cc)
      after past (inr there) = there

  none_at : (sets : List A) → map s.value_of (filter is_its sets) ≡ [] → find is_its sets ≡ None
  none_at [] none = refl
  none_at (x ∷ xs) none = search (arith, none_at xs)

  -- a value that stands at the number is the one
  is_value : (t : Tables) (old : State) → Holds t old.now → (x : X) → Has (its_values t) x → value_at t ≡ Some x
  is_value t old holds x among =
      let it = map_has s.value_of (filter is_its (s.entries t)) x among in
      let here = has_filtered is_its (s.entries t) it.0 it.1 in
      let other = first_at (s.entries t) it.0 here.0 here.1 in
      let keys : s.number_of other.0 ≡ s.number_of it.0 = eqb-true _ _ other.3 ∙ sym (eqb-true _ _ here.1) in
      let one = one_row (row s) s.number_of (λ a. refl) (s.entries t)
      (table_rows holds.schema.layout s.name old.now) (table_shown set t old.now holds) other.0 it.0 other.2 here.0 keys in
      ap (option_map s.value_of) other.1 ∙ ap (λ y. Some y)
      (set.cells_same (s.value_of other.0) (s.value_of it.0) (ap (drop 2) one) ∙ sym it.2)

  each : (t : Tables) (old : State) → Holds t old.now → (x : X) → Has (its_values t) x
      → s.IsOne x × s.ShowsOne (s.cells x) x
  each t old holds x among =
      let it = map_has s.value_of (filter is_its (s.entries t)) x among in
      let its = subst s.IsOne (sym it.2) (all_has (λ a. s.IsOne (s.value_of a)) (s.entries t) it.0
      (table_in_range set t old.now holds) (has_filtered is_its (s.entries t) it.0 it.1).0) in
      (its, set.shows x its)

  abbrev same : (x y : X) → s.IsOne x → s.ShowsOne (s.cells x) x → s.ShowsOne (s.cells x) y → y ≡ x
  same x y is own shows = set.same x y shows

  -- it stands at the number, and is the one
  abbrev IsSought : Tables → X → Type 0
  IsSought t x = (value_at t ≡ Some x) × Has (its_values t) x

  its_row : (old new : State) (t : Tables) → Holds t old.now → (row : Cells)
      → QueriesRow (find_text s) (number_params n) old new (Ok row) → (x : X) × IsSought t x × (row ≡ s.cells x)
  its_row old new t holds row h =
      let it = row_is s.IsOne s.ShowsOne s.cells (find_text s) s.name has_number (shown s) (names s) (searched set)
      (number_params n) its_values picks each same (λ t found. Unit {0}) (λ t found among. tt) old new t holds row h in
      (it.0, (is_value t old holds it.0 it.1, it.1), it.2)

  no_row : (old new : State) (t : Tables) → Holds t old.now
      → QueriesRow (find_text s) (number_params n) old new (Err QueryReturnedNoRows) → value_at t ≡ None
  no_row old new t holds h =
      let none = none_is s.IsOne s.ShowsOne s.cells (find_text s) s.name has_number (shown s) (names s) (searched set)
      (number_params n) its_values picks each same (λ t found. Unit {0}) (λ t found among. tt) old new t holds h in
      ap (option_map s.value_of) (none_at (s.entries t) none)

  pub value_read : ReadsRow s.IsOne s.ShowsOne (find_text s) (number_params n) (λ t found. found ≡ value_at t)
  value_read = answer_read s.IsOne s.ShowsOne s.cells (find_text s) (searched set).query (number_params n) IsSought
      (λ t. value_at t ≡ None) its_row no_row (λ t old holds x sought. each t old holds x sought.1) same
      (λ t found. found ≡ value_at t) (λ t x sought. sym sought.0) (λ t none. sym none)
