-- What a text comes to in a schema of which nothing is known: it is a command of its statement's kind, or is refused.
use Rattle.std.proofs.Common.{◌≡◌, ◌⊎◌, inl, inr, ℕ, false, cond, List, [], Option, None, Some, Ok, Err, refl}
use Rattle.std.proofs.Common.{sym, ap, subst, ◌∙◌, subst₂, arith}
use Rattle.std.proofs.lemmas.Bool.{cases_Bool}
use Rattle.std.specs.Prelude.{◌+◌, slice_range, length, not, ◌&&◌, nat_eq, ◌++◌}
use Rattle.sqlite.specs.Command.TheVariants.{CreateTable as MakeTable, CreateIndex as MakeIndex, Insert, Update}
use Rattle.sqlite.specs.Command.TheVariants.{Nothing}
use Rattle.sqlite.specs.Listing.{understood, listing_schema, misses_table, if_select, is_select}
use Rattle.sqlite.specs.Clock.{timed as timed_params}
use Rattle.sqlite.specs.State.{State, Executes, ExecutesIn, Runs, shows_rows, text_of}
use Rattle.sqlite.specs.{Command.Command, Does.AtPlace, Order.Row, Rows.Part, Schema.Schema, Table.Table, Source.Source}
use Rattle.sqlite_resolve.specs.declared.error.CompileError.TheVariants.{Unsupported, NoSuchTable}
use Rattle.sqlite_resolve.specs.Compile.{first, compiled, planned, meaning, returning, timed, command, create_table}
use Rattle.sqlite_resolve.specs.Compile.{create_index, insert, update, insert_or_abort, target, shows, small}
use Rattle.sqlite_resolve.specs.Compile.{formats_of, with_command}
use Rattle.sqlite_resolve.specs.declared.compiled.Compiled.{Compiled}
use Rattle.sqlite_resolve.specs.{Lowering.Checked, Lowering.and_then, Program.program, Write.updated}
use Rattle.sqlite_ast.specs.declared.CreateIndex.{CreateIndex}
use Rattle.sqlite_ast.specs.{declared.CreateTable.CreateTable, declared.Expr.Expr, declared.Rows.Rows}
use Rattle.sqlite_ast.specs.declared.Conflict.TheVariants as conflict
use Rattle.sqlite_ast.specs.declared.Statement.TheVariants as written
use Rattle.sqlite_draft.specs.declared.query.Draft.{Draft}
use Rattle.sqlite_schema.specs.declared.program.Program.{Program}
use Rattle.sql_steps.proofs.Statements.{same_value}
use Rattle.register_schema.proofs.NextTexts.{IsText, planned_as}
use Rattle.sqlite_syntax.specs.declared.statement.Parsed.{Parsed}

-- the text comes to a command of which P holds, and gives no rows
pub record Comes (p : Parsed) (P : Command → Type 0) (c : Compiled) : Type 0 where
  pub returning : c.returning ≡ None
  pub command : P c.command
  pub start : c.start ≡ p.start
  pub end : c.end ≡ p.end

-- so it is of a text that no query on the list of tables can be
module _ (text : List ℕ) (p : Parsed) (P : Schema → Command → Type 0)
    (no_select : (s : Schema) (k : Command) → P s k → is_select k ≡ false)
    (each : (s : Schema) (c : Compiled) → compiled s text ≡ Ok c → Comes p (P s) c) where
  no_listing : (r : Checked Compiled) → compiled listing_schema text ≡ r → (c : Compiled) → if_select r ≡ Ok c
      → ⊥
  no_listing (Ok k) is c h =
      let off = no_select listing_schema k.command (each listing_schema k is).command in
      let same : cond (is_select k.command) (Ok k) (Err NoSuchTable) ≡ Ok c = h in
      let other : Err NoSuchTable ≡ Ok c = subst (λ b. cond b (Ok k) (Err NoSuchTable) ≡ Ok c) off same in cc
  no_listing (Err e) is c h = cc

  by : (s : Schema) (r : Checked Compiled) → compiled s text ≡ r → (c : Compiled)
      → cond (misses_table r) (if_select (compiled listing_schema text)) r ≡ Ok c → Comes p (P s) c
  by s (Ok k) is c h = each s c (is ∙ h)
  by s (Err NoSuchTable) is c h = absurd (no_listing (compiled listing_schema text) refl c h)
  by s (Err e) is c h = absurd (cc)

  pub understood_so : (s : Schema) (c : Compiled) → understood s text ≡ Ok c → Comes p (P s) c
  unfolding understood
  understood_so s c h = by s (compiled s text) refl c h

-- what gives a value gave it through each of its parts
through : {A B : Type 0} (r : Checked A) (f : A → Checked B) (b : B) → and_then r f ≡ Ok b
    → (a : A) × (r ≡ Ok a) × (f a ≡ Ok b)
through r f b h = search arith

-- a statement whose command is this one comes to it
comes_to : (p : Parsed) (P : Command → Type 0) (formats : List (List ℕ)) (r : Checked Command) (c : Compiled)
    → and_then r (λ k. Ok (with_command p (formats, (k, None)))) ≡ Ok c → ((k : Command) → r ≡ Ok k → P k) → Comes p P c
comes_to p P formats r c h shape = search (arith, through, same_value)

-- ---- CREATE TABLE

module _ (text : List ℕ) (p : Parsed) (def : CreateTable) (table : Table) (t : IsText text p def table) where
  abbrev pub MakesTable : Schema → Command → Type 0
  MakesTable s k = (k ≡ MakeTable) ⊎ (k ≡ Nothing)

  abbrev checked : Table → Checked Command
  checked t =
      cond (nat_eq (length t.computed) (length t.stamps.places) && not def.resolves) (Ok MakeTable) (Err Unsupported)

  table_shape : (s : Schema) (k : Command) → create_table s p.formats def ≡ Ok k → MakesTable s k
  unfolding create_table
  table_shape s k h = search (arith, through, same_value)

  pub table_understood : (s : Schema) (c : Compiled) → understood s text ≡ Ok c → Comes p (MakesTable s) c
  table_understood =
      understood_so text p MakesTable (λ s k it. elim it [ inl is ↦ ap is_select is | inr is ↦ ap is_select is ])
      (λ s c h. comes_to p (MakesTable s) [] (create_table s p.formats def) c
      (sym (planned_as text p def table t s _ refl) ∙ h)
      (table_shape s))

-- ---- CREATE INDEX

module _ (text : List ℕ) (p : Parsed) (def : CreateIndex) (parsed : first text ≡ Ok p)
    (is : p.statement ≡ written.CreateIndex def) where
  abbrev pub MakesIndex : Schema → Command → Type 0
  MakesIndex s k = ((at : ℕ) × (k ≡ MakeIndex at)) ⊎ (k ≡ Nothing)

  index_planned : (s : Schema) (r : Checked Command) → create_index s def ≡ r
      → compiled s text ≡ and_then r (λ k. Ok (with_command p (p.formats, (k, None))))
  unfolding compiled planned meaning returning timed command
  index_planned s r h = search arith

  index_shape : (s : Schema) (k : Command) → create_index s def ≡ Ok k → MakesIndex s k
  unfolding create_index
  index_shape s k h = search (arith, through, same_value)

  pub index_understood : (s : Schema) (c : Compiled) → understood s text ≡ Ok c → Comes p (MakesIndex s) c
  index_understood =
      understood_so text p MakesIndex (λ s k it. elim it [ inl (at, is) ↦ ap is_select is | inr is ↦ ap is_select is ])
      (search (arith, comes_to, index_planned, index_shape))

-- ---- INSERT

module _ (text : List ℕ) (p : Parsed) (name : List ℕ) (columns : List (List ℕ)) (rows : Rows)
    (parsed : first text ≡ Ok p) (is : p.statement ≡ written.Insert conflict.Abort name columns rows [] []) where
  abbrev pub Inserts : Schema → Command → Type 0
  Inserts s k = (at : ℕ) × (from : Source) × (target s name ≡ Ok at) × (k ≡ Insert at from)

  abbrev wanted : Schema → List (List ℕ)
  wanted s = p.formats ++ formats_of s name

  abbrev inserting : Schema → Checked Command
  inserting s = insert s (small p.names + small (wanted s)) name columns rows

  insert_planned : (s : Schema) (r : Checked Command) → inserting s ≡ r
      → compiled s text ≡ and_then r (λ k. Ok (with_command p (wanted s, (k, None))))
  unfolding compiled planned meaning returning timed command shows insert_or_abort
  insert_planned s r h = search arith

  insert_shape : (s : Schema) (k : Command) → inserting s ≡ Ok k → Inserts s k
  unfolding insert
  insert_shape s k h = search (arith, through, same_value)

  pub insert_understood : (s : Schema) (c : Compiled) → understood s text ≡ Ok c → Comes p (Inserts s) c
  insert_understood =
      understood_so text p Inserts (λ s k it. ap is_select it.3)
      (λ s c h. comes_to p (Inserts s) (wanted s) (inserting s) c (sym (insert_planned s _ refl) ∙ h) (insert_shape s))

-- ---- UPDATE

module _ (text : List ℕ) (p : Parsed) (name : List ℕ) (sets : List (List ℕ × Expr)) (test : Option Expr)
    (parsed : first text ≡ Ok p) (is : p.statement ≡ written.Update name sets test []) where
  abbrev pub Updates : Schema → Command → Type 0
  Updates s k = (at : ℕ) × (q : Program) × (target s name ≡ Ok at) × (k ≡ Update at q)

  update_planned : (s : Schema) (r : Checked Command) → update s name sets test ≡ r
      → compiled s text ≡ and_then r (λ k. Ok (with_command p (p.formats, (k, None))))
  unfolding compiled planned meaning returning timed command shows
  update_planned s r h = search arith

  abbrev rows_set : Schema → ℕ → Draft → Checked Command
  rows_set s at d = and_then (program s [] d) (λ q. Ok (Update at q))

  abbrev drafted : Schema → ℕ → Table → Checked Command
  drafted s at table = and_then (updated s at table sets test) (rows_set s at)

  update_shape : (s : Schema) (k : Command) → update s name sets test ≡ Ok k → Updates s k
  unfolding update
  update_shape s k h = search (arith, through, same_value)

  pub update_understood : (s : Schema) (c : Compiled) → understood s text ≡ Ok c → Comes p (Updates s) c
  update_understood =
      understood_so text p Updates (λ s k it. ap is_select it.3)
      (search (arith, comes_to, update_planned, update_shape))

-- ---- what is run

-- a text that was executed ran the command that it comes to
pub ran_as : (text : List ℕ) (p : Parsed) (P : Schema → Command → Type 0)
    → ((s : Schema) (c : Compiled) → understood s text ≡ Ok c → Comes p (P s) c)
    → (old new : State) (params : Row) (count : ℕ) → Executes text params old new (Ok count)
    → (k : Command) × P old.now.schema k × (given : Row)
    × Runs old new None k (slice_range text p.start p.end) given count
unfolding ExecutesIn
ran_as text p P understood_as old new params count h =
    let it = understood_as old.now.schema h.0 h.1.is in
    let given = timed_params params h.0.formats h.1.now in
    let ran : Runs old new h.0.returning h.0.command (text_of text h.0) given count =
    elim (cases_Bool (shows_rows false h.0)) [
      | inl shows ↦ absurd (let e = (rw shows at h.2).0 in cc)
      | inr runs ↦ rw runs at h.2
    ] in
    let sql : text_of text h.0 ≡ slice_range text p.start p.end = cc in
    (h.0.command, it.command, given, subst₂ (λ r s. Runs old new r h.0.command s given count) it.returning sql ran)

-- what is done at a place is done where something stands there
pub at_place : {X A : Type 0} (P : X → Part A) (o : Option X) (a : A) → AtPlace P o (Ok a)
    → (x : X) × (o ≡ Some x) × P x (Ok a)
at_place P o a h = search arith
