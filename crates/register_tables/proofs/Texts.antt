-- What the text of the search for a key means, computed.
use Rattle.std.proofs.Common.{ℕ, List, [], ◌∷◌, map, codes, refl}
use Rattle.sqlite.specs.{Term.Term, Term.col, Term.op2, Collation.TheVariants.Binary}
use Rattle.sqlite_sql.specs.{declared.ops.BinaryOp.TheVariants.Compare, declared.ops.CompareOp.TheVariants.Eq}
use Rattle.sqlite_tied.specs.Compute.{everything}
use Rattle.sqlite_resolve.specs.Compile.{first}
use Rattle.sql_steps.proofs.Statements.{plain_query}
use Rattle.register_tables.specs.Columns.{key_columns, select}
use Rattle.register_tables.specs.declared.table.TableName.TheVariants.{Keys}
use Rattle.register_tables.specs.Tables.{Layout, table_of}
use Rattle.register_tables.specs.{TableForms.name_of, Schema.schema_with}
use Rattle.register_tables.proofs.Readings.{IsSearch, search_by}
use Rattle.register_tables.proofs.{ColumnTerms.key_shown, Meanings.Asks}

abbrev pub find_text : List ℕ
find_text = select key_columns (codes " FROM keys WHERE number = ?1")

-- the rowid is the one that is given
abbrev pub has_number : List Term
has_number = op2 (Compare Eq Binary) (col 1 0) (col 0 0) ∷ []

abbrev pub find_names : List (List ℕ)
find_names = map name_of key_columns

asks_key : (l : Layout)
    → Asks (schema_with l) (table_of l Keys) find_text (plain_query (l.tree Keys) has_number key_shown) find_names
unfolding everything first
asks_key l = record { p = _; select = _; d = _; by = _; parsed = refl; untimed = refl; is = refl; drafted = refl; same = refl; from = refl; accepted = refl }

pub find_is : IsSearch find_text Keys has_number key_shown find_names
find_is = search_by find_text Keys has_number key_shown find_names asks_key
