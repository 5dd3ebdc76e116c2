use Rattle.std.proofs.Common.{Bool, true, Ok, subst, rules, arith}
use Rattle.sqlite.specs.{Effect.Database, Held.state}
use Rattle.sql_steps.specs.{Steps.StepsBy, Within.Then}
use Rattle.sql_steps.proofs.Stepping.{steps_as, steps_then}
use Rattle.register_schema.specs.Creation.{HasTable, IsThere}
use Rattle.register_schema.specs.Within.Creation.{Answers, LacksFirst}
use Rattle.register_schema.proofs.RowCounts.{lacks_next, table_at}
use Rattle.register_tables.proofs.EachTable.{placed_low}
use Rattle.register_schema.proofs.creation.CreationSchemaChange.finds_table_it_would_make.Goals as goal

pub loop-table-preserved : goal.loop-table-preserved
loop-table-preserved g c = record {
  same = search rules;
  so_far = lacks_next c.loop-table.table-index (state g.S.Store c.args.tx.now.conn.now)
      (state g.S.Store c.loop-table.tx.conn.now) (state g.S.Store c.is_table_there.new.tx.conn.now)
      c.in_ok-is_table_there.field-0
      c.if-branch.false c.loop-table.invariant.so_far c.in_ok-is_table_there.ensures.answer;
}

pub returns-clause-answer : goal.returns-clause-answer
returns-clause-answer g c = search (arith, steps_as, placed_low)

pub returns-then-branch-clause-answer : goal.returns-then-branch-clause-answer
returns-then-branch-clause-answer g c =
    let n = c.loop-table.table-index in
    let a = state g.S.Store c.args.tx.now.conn.now in
    let b = state g.S.Store c.loop-table.tx.conn.now in
    let d = state g.S.Store c.is_table_there.new.tx.conn.now in
    let found = subst (λ (there : Bool). StepsBy (Answers (IsThere (table_at n))) b d (Ok there)) c.if-branch.true
    c.in_ok-is_table_there.ensures.answer in
    let both = steps_then (λ (_ : Unit {0}). LacksFirst n) (Answers (IsThere (table_at n))) a b d tt (Ok true)
    c.loop-table.invariant.so_far found in
    steps_as (λ (there : Bool). Then (LacksFirst n) (Answers (IsThere (table_at n)) there)) (Answers HasTable) a d true
    true (λ old new done.
    (table_at n, subst (λ (db : Database). IsThere (table_at n) db.schema) done.1.same done.2)) both
