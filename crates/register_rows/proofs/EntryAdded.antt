-- What an INSERT of one entry does, under a rowid that is chosen.
use Rattle.std.proofs.Common.{◌≡◌, ℕ, List, [], ◌∷◌, ◌++◌, slice_get, false, Some, Ok, ap, sym, subst}
use Rattle.sqlite.specs.{Command.TheVariants.Insert, Edit.put_all, Listing.understood, Order.Row as Cells}
use Rattle.sqlite.specs.{Source.TheVariants.Values, State.State, State.Executes, Table.Table, Term.Term}
use Rattle.sqlite.proofs.Callers.{IsPlain, command_of}
use Rattle.sqlite_rules.specs.Action.{works}
use Rattle.sqlite_schema.specs.declared.schema.Keys.TheVariants.{Enforced}
use Rattle.sql_steps.proofs.{Appending.chosen, Inserting.edit, Inserting.puts, Written.Wrote}
use Rattle.register_tables.specs.Tables.{Layout, ShowsEntries}
use Rattle.register_tables.specs.Schema.{schema_with}
use Rattle.register_tables.proofs.EntryRows.{shows_more}

-- the text adds a row of these terms to the table at this place
abbrev pub IsInsert : List ℕ → ℕ → List Term → ℕ → Type 0
IsInsert sql at terms width = (l : Layout) → (command_of (understood (schema_with l) sql) ≡ Insert at
    (Values terms width)) × IsPlain (understood (schema_with l) sql)

-- the rows that the table has then, which show one entry more
pub record AddsEntry {A : Type 0} (cells_of : A → Cells) (l : Layout) (tree : ℕ) (entries : List A) (entry : A)
    (old new : State) : Type 0 where
  pub rows : List Cells
  pub wrote : Wrote (schema_with l) tree rows old.now new.now
  pub shows : ShowsEntries cells_of (entries ++ entry ∷ []) rows

module _ {A : Type 0} (cells_of : A → Cells) (table_in : Layout → Table) (terms : List Term) (width : ℕ)
    (sql : List ℕ) (at : ℕ) (parts : IsInsert sql at terms width) (entry : A)
    (news_are : (l : Layout) (old : State) (has : old.now.schema ≡ schema_with l)
    → (edit (table_in l) (cells_of entry) terms width (schema_with l) old has at).news ≡ chosen (cells_of entry)
    (old.now.trees (table_in l).tree) ∷ []) where
  pub adds_entry : (old new : State) (count : ℕ) → Executes sql (cells_of entry) old new (Ok count)
      → (l : Layout) (has : old.now.schema ≡ schema_with l)
      → slice_get (schema_with l).tables at ≡ Some (record (table_in l) { is_counted = false })
      → ((news : List Cells) → works (schema_with l) Enforced 0 (table_in l).tree [] news ≡ [])
      → (entries : List A) → ShowsEntries cells_of entries (old.now.trees (table_in l).tree)
      → AddsEntry cells_of l (table_in l).tree entries entry old new
  adds_entry old new count h l has there idle entries shows = record {
    rows = _;
    wrote = puts (table_in l) (cells_of entry) terms width sql (schema_with l) at there (parts l).0 (parts l).1 idle
        old new count h has;
    shows = subst (ShowsEntries cells_of (entries ++ entry ∷ []))
        (sym (ap (put_all (old.now.trees (table_in l).tree)) (news_are l old has)))
        (shows_more cells_of entries entry (old.now.trees (table_in l).tree) shows);
  }
