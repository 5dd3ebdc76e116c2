-- A text that is a SELECT commits nothing and returns no rows of a write, whatever the schema is. Of a text `sql` that
-- is one, `(_, _, refl, refl, refl)` shows it, where `everything` and `first` are unfolded.
use Rattle.std.proofs.Common.{◌≡◌, ℕ, List, [], None, Option, Ok, subst₂, arith}
use Rattle.sqlite_ast.specs.declared.Statement.TheVariants as written
use Rattle.sqlite_ast.specs.declared.Select.{Select}
use Rattle.sqlite_syntax.specs.declared.statement.Parsed.{Parsed}
use Rattle.sqlite_schema.specs.declared.command.Returning.{Returning}
use Rattle.sqlite_schema.specs.{declared.schema.Schema.Schema, declared.command.Command.Command}
use Rattle.sqlite_resolve.specs.Compile.{compiled, first, planned, meaning, returning, timed, command}
use Rattle.sqlite_resolve.specs.{declared.compiled.Compiled.Compiled, Lowering.Checked}
use Rattle.sqlite.specs.Listing.{understood, if_select}
use Rattle.row_checks.specs.ShownRows.{IsQuery}

-- the text is one SELECT that does not read the time
abbrev pub IsSelect : List ℕ → Type 0
IsSelect sql = (p : Parsed) × (s : Select) × (first sql ≡ Ok p) × (p.statement ≡ written.Select s) × (p.formats ≡ [])

abbrev Plan : Type 0
Plan = List (List ℕ) × (Command × Option Returning)

planned_so : (schema : Schema) (p : Parsed) (s : Select) → p.statement ≡ written.Select s → p.formats ≡ []
    → (plan : Plan) → planned schema p ≡ Ok plan → (plan.0 ≡ []) × (plan.1.1 ≡ None)
unfolding planned meaning returning timed command
planned_so schema p s is none plan h = grind (arith, subst₂)

compiled_plain : (sql : List ℕ) → IsSelect sql → (schema : Schema) (c : Compiled) → compiled schema sql ≡ Ok c
    → (c.returning ≡ None) × (c.formats ≡ [])
unfolding compiled
compiled_plain sql is schema c h = grind (arith, planned_so)

of_select : (r : Checked Compiled) (c : Compiled) → if_select r ≡ Ok c → r ≡ Ok c
of_select r c h = grind arith

pub select_plain : (sql : List ℕ) → IsSelect sql → IsQuery sql
unfolding understood
select_plain sql is schema c h = grind (arith, compiled_plain, of_select)
