use Rattle.std.proofs.Common.{◌≡◌, Bool, true, false, Ok, inl, inr, subst, sym, ◌∙◌}
use Rattle.sqlite.specs.{Effect.Database, Held.state, declared.error.Error.Error}
use Rattle.sql_steps.specs.{Steps.StepsBy, Within.Then}
use Rattle.sql_steps.proofs.Stepping.{steps_as, steps_then, steps_weaker}
use Rattle.register_tables.specs.declared.table.TableName.TheVariants.{Period, Quorum}
use Rattle.register_schema.specs.{Creation.IsThere, Migration.HasNewTable, Within.Creation.Answers}
use Rattle.register_schema.proofs.migration.MigrationSchemaChange.finds_table_it_would_make.Goals as goal

-- the one of them is there
pub returns-then-branch-clause-answer : goal.returns-then-branch-clause-answer
returns-then-branch-clause-answer g c =
    let a = state g.S.Store c.args.tx.now.conn.now in
    let b = state g.S.Store c.is_table_there.new.tx.conn.now in
    let found = subst (λ (there : Bool). StepsBy (Answers (IsThere Period)) a b (Ok there)) c.if-branch.true
    c.in_ok-is_table_there.ensures.answer in
    steps_as (Answers (IsThere Period)) (Answers HasNewTable) a b true true (λ old new there. inl there) found

-- after a look that found none, what the other tells
or_other : (there : Bool) (old new : Database) → Then (Answers (IsThere Period) false) (Answers (IsThere Quorum) there) old new
    → Answers HasNewTable there old new
or_other true old new done = inr (subst (λ (db : Database). IsThere Quorum db.schema) done.1.1 done.2)
or_other false old new done = (
  λ either. elim either [
    | inl first ↦ done.1.0 first
    | inr second ↦ done.2.0 (subst (λ (db : Database). IsThere Quorum db.schema) (sym done.1.1) second)
  ],
  done.2.1 ∙ done.1.1,
)

pub returns-clause-answer : goal.returns-clause-answer
returns-clause-answer g c =
    let a = state g.S.Store c.args.tx.now.conn.now in
    let b = state g.S.Store c.is_table_there.new.tx.conn.now in
    let d = state g.S.Store c.is_table_there-2.new.tx.conn.now in
    let none = subst (λ (there : Bool). StepsBy (Answers (IsThere Period)) a b (Ok there)) c.if-branch.false
    c.in_ok-is_table_there.ensures.answer in
    let first = steps_as {F = Error} (Answers (IsThere Period)) (λ (_ : Unit {0}). Answers (IsThere Period) false) a b false tt
    (λ old new is. is) none in
    steps_weaker (λ there. Then (Answers (IsThere Period) false) (Answers (IsThere Quorum) there)) (Answers HasNewTable)
    a d c.is_table_there-2.result or_other
    (steps_then (λ (_ : Unit {0}). Answers (IsThere Period) false) (Answers (IsThere Quorum)) a b d tt
    c.is_table_there-2.result first c.is_table_there-2.ensures.answer)
