-- What the statements do by which an entry is taken out of a table by its number, and by which one is put in.
use Rattle.std.proofs.Common.{◌≢◌, ◌==◌, ℕ, [], ◌∷◌, ◌++◌, filter, not, Ok, sym, ap, refl, subst, Bool, Result, arith}
use Rattle.std.proofs.lemmas.Bool.{eq-eqb}
use Rattle.sqlite.specs.{Edit.put_all, State.State, State.Executes}
use Rattle.sqlite_rules.proofs.ListLemmas.{has_filtered}
use Rattle.sqlite_rules.specs.Lists.{Has}
use Rattle.sqlite_trees.proofs.ListLemmas.{all-filter}
use Rattle.sql_steps.specs.{Steps.StepsBy, Within.Then}
use Rattle.sql_steps.proofs.Stepping.{steps_then, steps_weaker}
use Rattle.sql_steps.proofs.{Deletes.ids_shown, Inserting.puts, Removing.removes, Statements.is_picked}
use Rattle.register_core.proofs.Lawful.{all_more}
use Rattle.register_tables.specs.Tables.{ShowsKeyed, Tables, place_of, table_of}
use Rattle.register_tables.specs.{TableChanges.Makes, Schema.schema_with}
use Rattle.register_rows.specs.Within.TableChanges.{Always}
use Rattle.register_rows.proofs.KeyedRows.{keyed_counted, keyed_left, keyed_more}
use Rattle.register_tables.proofs.Meanings.{classes, placed, takes}
use Rattle.register_rows.proofs.SettingTables.{IsEntry, IsSetting, Setting, check_is, clear_text, entries_are}
use Rattle.register_rows.proofs.SettingTables.{number_params, params, put_text, row, table_holds, table_in_range}
use Rattle.register_rows.proofs.SettingTables.{there, tree_shown, width}
use Rattle.register_tables.proofs.{Actions.shows_all, ColumnTerms.inserted, Texts.has_number}

module _ {A X : Type 0} {s : Setting A X} (set : IsSetting s) where
  abbrev is_other : ℕ → A → Bool
  is_other n a = not (s.number_of a == n)

  -- the tables without the entry of the number
  abbrev pub without : ℕ → Tables → Tables
  without n t = s.with_entries (filter (is_other n) (s.entries t)) t

  -- the tables with one entry more
  abbrev pub more : A → Tables → Tables
  more a t = s.with_entries (s.entries t ++ a ∷ []) t

  -- no entry has the number
  abbrev pub HasNone : ℕ → Tables → Type 0
  HasNone n t = (a : A) → Has (s.entries t) a → s.number_of a ≢ n

  pub takes_out : (n : ℕ) (old new : State) (count : ℕ) → Executes (clear_text s) (number_params n) old new (Ok count)
      → Makes Always (without n) old.now new.now
  takes_out n old new count h t holds always =
      let l = holds.schema.layout in
      let m = takes (schema_with l) (table_of l s.name) (classes l (placed t old.now holds) s.name) _ _ _
      (set.clears l) in
      let shown = tree_shown set t old.now holds in
      let rows = old.now.trees (table_of l s.name).tree in
      let wrote = removes (table_of l s.name) (number_params n) has_number (clear_text s) (schema_with l)
      (place_of s.name) (there l s.name) m.is m.plain (λ olds. set.idle l holds.schema.apart olds [])
      (λ db. shows_all db (table_of l s.name).tree) old new count h
      holds.schema.is shown.ordered (keyed_counted (row s) s.number_of (λ a. refl) (s.entries t) rows shown) in
      table_holds set (filter (is_other n) (s.entries t)) t old.now new.now _ holds wrote
      (all-filter (IsEntry s) (is_other n) (s.entries t) (table_in_range set t old.now holds))
      (keyed_left (row s) s.number_of (λ a. refl) (λ r. not (is_picked (number_params n) 0 has_number ids_shown r))
      (is_other n) (λ a. ap not (check_is s ids_shown n a)) (s.entries t) rows shown)

  pub puts_in : (a : A) → IsEntry s a → (old new : State) (count : ℕ)
      → Executes (put_text s) (params s a) old new (Ok count)
      → Makes (HasNone (s.number_of a)) (more a) old.now new.now
  puts_in a is old new count h t holds none =
      let l = holds.schema.layout in
      let rows = old.now.trees (table_of l s.name).tree in
      let wrote = puts (table_of l s.name) (params s a) (inserted s.columns) (width s) (put_text s) (schema_with l)
      (place_of s.name) (there l s.name)
      (set.puts l).0 (set.puts l).1 (set.idle l holds.schema.apart []) old new count h holds.schema.is in
      table_holds set (s.entries t ++ a ∷ []) t old.now new.now _ holds wrote
      (all_more (IsEntry s) (s.entries t) a (table_in_range set t old.now holds) is)
      (subst (ShowsKeyed (row s) (s.entries t ++ a ∷ []))
      (sym (ap (put_all rows) (set.news_are a l old holds.schema.is)))
      (keyed_more (row s) s.number_of (λ a. refl) (s.entries t) rows a none (tree_shown set t old.now holds)))

  -- where the entry of a number is taken out, none has it
  none_left : (n : ℕ) (t : Tables) → HasNone n (without n t)
  none_left n t a h same = search (arith, has_filtered, not, eq-eqb, entries_are)

  -- an entry is put in the place of that of its number: the one is taken out, then the other is put in
  pub put_anew : {X Y E F : Type 0} (a : A) (old mid new : State) (x : X) (r : Result Y F)
      → StepsBy {E = E} (λ _. Makes Always (without (s.number_of a))) old mid (Ok x)
      → StepsBy (λ _. Makes (HasNone (s.number_of a)) (more a)) mid new r
      → StepsBy (λ _. Makes Always (λ t. more a (without (s.number_of a) t))) old new r
  put_anew a old mid new x r one two =
      let Clears = Makes Always (without (s.number_of a)) in
      let Adds = Makes (HasNone (s.number_of a)) (more a) in
      steps_weaker (λ _. Then Clears Adds) (λ _. Makes Always (λ t. more a (without (s.number_of a) t))) old new r
      (λ _ start end done t holds always.
      done.2 (without (s.number_of a) t) (done.1 t holds tt) (none_left (s.number_of a) t))
      (steps_then (λ _. Clears) (λ _. Adds) old mid new x r one two)
