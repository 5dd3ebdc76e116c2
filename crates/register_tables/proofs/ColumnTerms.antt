-- What a statement shows or gives of columns, by their places.
use Rattle.std.proofs.Common.{ℕ, ◌+◌, List, [], ◌∷◌, ◌++◌, codes, set}
use Rattle.sqlite.specs.{declared.types.Value.TheVariants.Null, Term.Term, Term.col, Term.lit}
use Rattle.register_tables.specs.Columns.{key_columns, listed}
use Rattle.register_tables.specs.{Within.Columns.given, TableForms.Named}

-- the cells of a row that stand in the columns from this place on
abbrev pub shown_from : ℕ → List Named → List Term
shown_from place [] = []
shown_from place (column ∷ columns) = col 1 place ∷ shown_from (place + 1) columns

-- the parameters from this place on, one for each column
abbrev pub given_from : ℕ → List Named → List Term
given_from place [] = []
given_from place (column ∷ columns) = col 0 place ∷ given_from (place + 1) columns

-- ---- a row that is put in a table, under its INTEGER PRIMARY KEY and with these columns past it

abbrev pub inserts : List ℕ → List ℕ → List Named → List ℕ
inserts table key columns =
    codes "INSERT INTO " ++ table ++ codes " (" ++ key ++ codes ", " ++ listed columns
    ++ codes ") VALUES (:" ++ key ++ given columns ++ codes ")"

-- the key is the rowid, and is kept as NULL
abbrev pub inserted : List Named → List Term
inserted columns = col 0 0 ∷ lit Null ∷ given_from 1 columns

-- ---- keys

-- the cells of a key past the number
abbrev pub key_shown : List Term
key_shown = shown_from 2 key_columns

-- a whole row of keys, kept as it is: its first cell shows the rowid, and is kept as NULL
abbrev pub key_kept : List Term
key_kept = col 1 0 ∷ lit Null ∷ key_shown

-- a row in which these places have the parameters from this one on
abbrev pub with_given : ℕ → List ℕ → List Term → List Term
with_given from [] terms = terms
with_given from (place ∷ places) terms = with_given (from + 1) places (set terms place (col 0 from))
