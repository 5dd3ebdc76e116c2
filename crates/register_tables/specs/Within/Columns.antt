-- What functions within the crate say of one another, beside `specs/Columns.antt`.
use Rattle.std.specs.Prelude.{ℕ, List, map, codes}
use Rattle.register_tables.specs.TableForms.{Named, name_of}
use Rattle.register_tables.specs.Columns.{after_each}

-- ---- what texts say of them

-- the parameters of these names, after one that comes before
abbrev pub given : List Named → List ℕ
given columns = after_each (codes ", :") (map name_of columns)
