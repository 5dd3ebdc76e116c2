-- The text of each table: it is a CREATE TABLE of that table, from its first byte to its last, whatever the schema is.
use Rattle.std.proofs.Common.{◌≡◌, ℕ, Bool, true, false, List, [], length, Option, None, Some, Result, Ok, Err, refl}
use Rattle.std.proofs.Common.{sym, ap}
use Rattle.std.specs.Prelude.{nat_eq, slice_range}
use Rattle.sqlite.specs.{Compile.table_defined_by, Table.Table}
use Rattle.sqlite_ast.specs.{declared.CreateTable.CreateTable, declared.Statement.Statement}
use Rattle.sqlite_ast.specs.declared.Statement.TheVariants as written
use Rattle.sqlite_resolve.specs.{Compile.first, Compile.is_reserved, declared.error.CompileError.CompileError}
use Rattle.sqlite_resolve.specs.Define as define
use Rattle.sqlite_syntax.specs.declared.statement.Parsed.{Parsed}
use Rattle.sqlite_tied.specs.Compute.{everything}
use Rattle.register_tables.specs.declared.table.TableName.TheVariants.{Meta, Keys, Custodian, Approval, Request, Period}
use Rattle.register_tables.specs.declared.table.TableName.TheVariants.{Quorum}
use Rattle.register_tables.specs.{declared.table.TableName.TableName, Tables.create_statement}
use Rattle.register_tables.proofs.EachTable.{unplaced}
use Rattle.register_schema.proofs.NextTexts.{IsText}

-- what stands where a text is none of a statement
abbrev no_text : Parsed
no_text = record { statement = written.Empty; names = []; formats = []; start = 0; end = 0; tail = 0 }

abbrev pub read_as : Result Parsed CompileError → Parsed
read_as (Ok p) = p
read_as (Err e) = no_text

abbrev pub parsed : TableName → Parsed
parsed name = read_as (first (create_statement name))

abbrev no_table : CreateTable
no_table = record {
  if_missing = true;
  name = [];
  body = record { columns = []; rules = [] };
  is_strict = false;
  resolves = false;
}

abbrev written_as : Statement → CreateTable
written_as (written.CreateTable def) = def
written_as _ = no_table

abbrev pub def_of : TableName → CreateTable
def_of name = written_as (parsed name).statement

-- What a text says, read once: each fact of it is a part of one value, so that nothing is computed twice.
record Facts : Type 0 where
  if_missing : Bool
  reserved : Bool
  table : Result Table CompileError
  resolves : Bool
  whole : List ℕ

abbrev facts_in : List ℕ → Parsed → Statement → Option Facts
facts_in text p (written.CreateTable def) = Some record {
  if_missing = def.if_missing;
  reserved = is_reserved def.name;
  table = define.table p.formats def;
  resolves = def.resolves;
  whole = slice_range text p.start p.end;
}
facts_in text p _ = None

abbrev facts_of : List ℕ → Result Parsed CompileError → Option Facts
facts_of text (Ok p) = facts_in text p p.statement
facts_of text (Err e) = None

abbrev wanted : TableName → Facts
wanted name = record {
  if_missing = false;
  reserved = false;
  table = Ok (unplaced name);
  resolves = false;
  whole = create_statement name;
}

-- and a table has as many computed columns as its stamps have places
says : (name : TableName) → (facts_of (create_statement name) (first (create_statement name)) ≡ Some (wanted name))
    × (nat_eq (length (unplaced name).computed) (length (unplaced name).stamps.places) ≡ true)
unfolding everything
says Meta = (refl, refl)
says Keys = (refl, refl)
says Custodian = (refl, refl)
says Approval = (refl, refl)
says Request = (refl, refl)
says Period = (refl, refl)
says Quorum = (refl, refl)

-- what is read is a table's definition, with these facts
record Reads (text : List ℕ) (r : Result Parsed CompileError) (facts : Facts) : Type 0 where
  ok : r ≡ Ok (read_as r)
  is : (read_as r).statement ≡ written.CreateTable (written_as (read_as r).statement)
  has : facts ≡ record {
    if_missing = (written_as (read_as r).statement).if_missing;
    reserved = is_reserved (written_as (read_as r).statement).name;
    table = define.table (read_as r).formats (written_as (read_as r).statement);
    resolves = (written_as (read_as r).statement).resolves;
    whole = slice_range text (read_as r).start (read_as r).end;
  }

reads_in : (text : List ℕ) (p : Parsed) (s : Statement) (facts : Facts) → p.statement ≡ s
    → facts_in text p s ≡ Some facts → Reads text (Ok p) facts
reads_in text p (written.CreateTable def) facts is e =
    record { ok = refl; is = rw is refl; has = rw is cc }
reads_in text p s facts is e = absurd (cc)

reads : (text : List ℕ) (r : Result Parsed CompileError) (facts : Facts) → facts_of text r ≡ Some facts
    → Reads text r facts
reads text (Ok p) facts e = reads_in text p p.statement facts refl e
reads text (Err e) facts is = absurd (cc)

reads_table : (name : TableName) → Reads (create_statement name) (first (create_statement name)) (wanted name)
reads_table name = reads _ _ _ (says name).0

is_text : (name : TableName) → IsText (create_statement name) (parsed name) (def_of name) (unplaced name)
is_text name =
    let it = reads_table name in
    let resolves = ap (λ (f : Facts). f.resolves) it.has in
    record {
      parsed = it.ok;
      is = it.is;
      always = sym (ap (λ (f : Facts). f.if_missing) it.has);
      own = sym (ap (λ (f : Facts). f.reserved) it.has);
      defined = sym (ap (λ (f : Facts). f.table) it.has);
      computed = rw ((says name).1, sym resolves) refl;
    }

defined_by : (text : List ℕ) (p : Parsed) (def : CreateTable) (table : Table) → IsText text p def table
    → table_defined_by text ≡ Ok table
unfolding everything
defined_by text p def table t = rw (t.parsed, t.is) t.defined

-- the text is that of the table, from its first byte to its last
pub record IsWhole (name : TableName) : Type 0 where
  pub text : IsText (create_statement name) (parsed name) (def_of name) (unplaced name)
  pub whole : slice_range (create_statement name) (parsed name).start (parsed name).end ≡ create_statement name
  pub defined : table_defined_by (create_statement name) ≡ Ok (unplaced name)

pub whole_is : (name : TableName) → IsWhole name
whole_is name = record {
  text = is_text name;
  whole = sym (ap (λ (f : Facts). f.whole) (reads_table name).has);
  defined = defined_by _ _ _ _ (is_text name);
}
