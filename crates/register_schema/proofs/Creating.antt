-- What the statements that make the tables and the indexes do.
use Rattle.std.proofs.Common.{◌≡◌, ℕ, pos, List, [], ◌∷◌, ◌++◌, codes, Ok, refl, sym, ap, subst, ◌∙◌, arith}
use Rattle.sqlite.specs.declared.types.Value.TheVariants.{Null, Int}
use Rattle.sqlite.specs.{Command.TheVariants.Insert, Edit.put_all, Order.Row as Cells, Listing.understood}
use Rattle.sqlite.specs.{Source.TheVariants.Values, State.State, State.Executes, Term.Term, Term.col, Term.lit}
use Rattle.sqlite.proofs.Callers.{IsPlain, command_of}
use Rattle.sqlite_tied.specs.Compute.{everything}
use Rattle.sql_steps.proofs.Statements.{cast_int, cast_null}
use Rattle.sql_steps.proofs.{Creating.makes, Creating.indexes, Inserting.edit, Inserting.puts}
use Rattle.register_tables.specs.Tables.{fresh, place_of, content, no_rows, version, create_statement}
use Rattle.register_tables.specs.Within.Tables.{meta, Shows, counts_row}
use Rattle.register_schema.specs.Within.Creation.{MakesTable, MakesIndex, AddsMeta}
use Rattle.register_tables.specs.{declared.key_index.KeyIndex.KeyIndex, declared.table.TableName.TableName}
use Rattle.register_tables.specs.Columns.{meta_columns, listed}
use Rattle.register_tables.specs.declared.table.TableName.TheVariants.{Meta}
use Rattle.register_tables.specs.Schema.{schema_with, made_indexes, table_rows}
use Rattle.register_tables.specs.KeyIndex.{index_text}
use Rattle.register_tables.proofs.EachTable.{apart_all, each, content_with, create_is, fresh_apart, unplaced}
use Rattle.register_tables.proofs.{Actions.idle, Frame.rows_kept}
use Rattle.register_schema.proofs.EachIndex as each_index

-- ---- one table

abbrev Made : TableName → Type 1
Made name =
    (old new : State) (count : ℕ) → Executes (create_statement name) [] old new (Ok count)
    → MakesTable name old.now new.now

pub makes_table : (name : TableName) → Made name
makes_table name =
    let p = create_is name in search (arith, makes, unplaced)

-- ---- one index

pub makes_index : (index : KeyIndex) (old new : State) (count : ℕ) → Executes (index_text index) [] old new (Ok count)
    → MakesIndex index old.now new.now
makes_index index =
    let p = each_index.create_is index in search (arith, indexes, each_index.schema_before, each_index.unplaced)

-- ---- the row of meta

abbrev pub row_text : List ℕ
row_text = codes "INSERT INTO meta (id, " ++ listed meta_columns ++ codes ") VALUES (1, ?1, 0, 0)"

-- the version
abbrev pub row_params : Cells
row_params = Int (pos version) ∷ []

abbrev row_terms : List Term
row_terms = lit (Int (pos 1)) ∷ lit Null ∷ col 0 0 ∷ lit (Int (pos 0)) ∷ lit (Int (pos 0)) ∷ []

row_parts : (command_of (understood (schema_with (fresh made_indexes)) row_text) ≡ Insert (place_of Meta)
    (Values row_terms 5)) × IsPlain (understood (schema_with (fresh made_indexes)) row_text)
unfolding understood everything
row_parts = (refl, (refl, refl))

pub adds_meta : (old new : State) (count : ℕ) → Executes row_text row_params old new (Ok count)
    → AddsMeta old.now new.now
adds_meta old new count h first =
    let wrote = puts (meta (fresh [])) row_params row_terms 5 row_text (schema_with (fresh made_indexes))
    (place_of Meta) refl row_parts.0 row_parts.1
    (idle (fresh made_indexes) (fresh_apart made_indexes) Meta refl 0 []) old new count
    h first.schema in
    let news : (edit (meta (fresh [])) row_params row_terms 5 (schema_with (fresh made_indexes)) old first.schema
    (place_of Meta)).news ≡ counts_row no_rows.counts ∷ [] = search (arith, cast_int, cast_null) in
    let counts : table_rows (fresh []) Meta new.now ≡ counts_row no_rows.counts ∷ [] =
    wrote.rows_are ∙ ap (put_all (table_rows (fresh []) Meta old.now)) news
    ∙ ap (λ rows. put_all rows (counts_row no_rows.counts ∷ [])) (first.empty Meta) in
    let own_tree = apart_all (fresh made_indexes) (fresh_apart made_indexes) in
    let other = rows_kept (fresh made_indexes) (λ (tree : ℕ). tree ≡ (fresh []).tree Meta) old.now new.now wrote.kept in
    record {
      holds = record {
        schema = record { layout = fresh made_indexes; apart = fresh_apart made_indexes; is = wrote.kept.schema_is };
        sound = wrote.kept.sound;
        in_range = λ name. (each name).in_range;
        shown = λ name. content_with (λ n held. Shows n held (table_rows (fresh []) n new.now)) Meta name no_rows.counts
            no_rows counts
            (λ apart. subst (Shows name (content name no_rows))
            (sym (other name (λ same. apart (own_tree name Meta same)) ∙ first.empty name))
            ((each name).empty apart));
      };
      indexed = wrote.kept.schema_is;
    }
