-- What the INSERT of a key does.
use Rattle.std.proofs.Common.{◌≡◌, ℕ, ◌+◌, pos, List, [], ◌∷◌, ◌++◌, codes, length, Ok, refl, ap, ◌∙◌}
use Rattle.sqlite.specs.{declared.types.Value.TheVariants.Int, Edit.put_all, Listing.understood, Order.Row as Cells}
use Rattle.sqlite.specs.{State.State, State.Executes, Term.Term, Tree.put_row}
use Rattle.sqlite_tied.specs.Compute.{everything}
use Rattle.sql_steps.proofs.{Inserting.edit, Inserting.puts, Statements.cast_int, Statements.cast_null}
use Rattle.register_core.proofs.Lawful.{all_more}
use Rattle.register_core.specs.declared.key.Key.{Key}
use Rattle.register_tables.specs.Tables.{place_of, IsKey, key_cells, key_row}
use Rattle.register_tables.specs.{declared.table.TableName.TheVariants.Keys, Columns.key_columns, Within.Tables.keys}
use Rattle.register_tables.specs.Schema.{schema_with, table_rows}
use Rattle.register_tables.specs.TableChanges.{Makes, with_key}
use Rattle.register_tables.proofs.ColumnTerms.{inserted, inserts}
use Rattle.register_tables.proofs.{Actions.idle, Frame.holds_with, Numbers.put_next}
use Rattle.register_rows.proofs.EntryAdded.{IsInsert}

abbrev pub insert_text : List ℕ
insert_text = inserts (codes "keys") (codes "number") key_columns

abbrev terms : List Term
terms = inserted key_columns

-- how many there are
abbrev width : ℕ
width = length key_columns + 2

insert_parts : IsInsert insert_text (place_of Keys) terms width
unfolding understood everything
insert_parts l = (refl, (refl, refl))

-- the values of the statement, by their numbers
abbrev pub params : ℕ → Key → Cells
params number k = Int (pos number) ∷ key_cells k

pub adds_key : (number : ℕ) (k : Key) → IsKey k → (old new : State) (count : ℕ)
    → Executes insert_text (params number k) old new (Ok count)
    → Makes (λ t. number ≡ length t.keys + 1) (with_key k) old.now new.now
adds_key number k is old new count h t holds next =
    let l = holds.schema.layout in
    let wrote = puts (keys l) (params number k) terms width insert_text (schema_with l) (place_of Keys) refl
    (insert_parts l).0 (insert_parts l).1 (idle l holds.schema.apart Keys refl 0 []) old new count h
    holds.schema.is in
    let news : (edit (keys l) (params number k) terms width (schema_with l) old holds.schema.is
    (place_of Keys)).news ≡ key_row (number, k) ∷ [] = simp (cast_int, cast_null) in
    let rows = ap (put_all (table_rows l Keys old.now)) news ∙ ap (put_row (key_row (number, k))) (holds.shown Keys)
    ∙ put_next t.keys number k next in
    holds_with Keys (t.keys ++ k ∷ []) t old.now new.now _ holds wrote
    (all_more IsKey t.keys k (holds.in_range Keys) is) rows
