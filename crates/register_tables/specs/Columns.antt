-- The columns of each table past its key, in their order. No other definition names all of them: what makes a table,
-- what writes or reads a whole row, and where its cells stand are read off these lists.
use Rattle.std.specs.Prelude.{ℕ, List, [], ◌∷◌, ◌++◌, map, codes}
use Rattle.sqlite.specs.Table.{Table}
use Rattle.sqlite_schema.specs.declared.schema.Reference.{Reference}
use Rattle.register_tables.specs.TableForms.{Named, Numbers, Texts, indexed, name_of}

-- the columns of meta past its id
abbrev pub meta_columns : List Named
meta_columns = Numbers (codes "version") ∷ Numbers (codes "latest") ∷ Numbers (codes "key_count") ∷ []

-- the columns of keys past the number
abbrev pub key_columns : List Named
key_columns =
    Numbers (codes "kind") ∷ Texts (codes "owner") ∷ Texts (codes "purpose") ∷ Numbers (codes "state")
    ∷ Numbers (codes "initial") ∷ Numbers (codes "activation") ∷ Numbers (codes "protect_stop")
    ∷ Numbers (codes "deactivation") ∷ Numbers (codes "destroyed") ∷ Numbers (codes "compromised")
    ∷ Numbers (codes "occurrence") ∷ []

-- of both tables of names at keys, of which they are the key
abbrev pub name_columns : List Named
name_columns = Numbers (codes "key_no") ∷ Texts (codes "name") ∷ []

-- a table of names at keys, which refers to another table
abbrev pub paired : List ℕ → Reference → ℕ → Table
paired name reference = indexed name name_columns (reference ∷ [])

-- what is kept of a request, past whose it is
abbrev pub request_columns : List Named
request_columns =
    Texts (codes "command") ∷ Numbers (codes "key_no") ∷ Numbers (codes "state") ∷ Numbers (codes "moment") ∷ []

-- the columns of period past the kind
abbrev pub period_columns : List Named
period_columns = Numbers (codes "originator") ∷ Numbers (codes "recipient") ∷ []

-- the column of quorum past the key
abbrev pub need_columns : List Named
need_columns = Numbers (codes "need") ∷ []

-- ---- what texts say of them

-- each of these texts after another
abbrev pub after_each : List ℕ → List (List ℕ) → List ℕ
after_each between [] = []
after_each between (text ∷ texts) = between ++ text ++ after_each between texts

-- these texts with another between them
abbrev pub joined : List ℕ → List (List ℕ) → List ℕ
joined between [] = []
joined between (text ∷ texts) = text ++ after_each between texts

-- the names, with commas between them
abbrev pub listed : List Named → List ℕ
listed columns = joined (codes ", ") (map name_of columns)

-- a search that shows these columns, and goes on so
abbrev pub select : List Named → List ℕ → List ℕ
select columns rest = codes "SELECT " ++ listed columns ++ rest
