use Rattle.std.proofs.Common.{Ok, arith}
use Rattle.sqlite.specs.Held.{state}
use Rattle.sql_steps.specs.Within.{Then}
use Rattle.sql_steps.proofs.Stepping.{steps_then}
use Rattle.register_tables.specs.declared.table.TableName.TheVariants.{Period, Quorum}
use Rattle.register_tables.specs.Within.Beside.{Adds, IsMadeAs, UpdatesMeta}
use Rattle.register_schema.specs.Within.Migration.{MakesNext, SetsVersion}
use Rattle.register_schema.specs.Migration.{TakesToSecond}
use Rattle.register_schema.proofs.Beside.{IsOther, adds_other, migrates_beside, steps_both}
use Rattle.register_schema.proofs.{BesideMade.adds_then, VersionSet.begins}
use Rattle.register_schema.proofs.migration.MigrationSchemaChange.make.Goals as goal

pub returns-clause-made : goal.returns-clause-made
returns-clause-made g c =
    let a = state g.S.Store c.args.tx.now.conn.now in
    let b = state g.S.Store c.make_table.new.tx.conn.now in
    let d = state g.S.Store c.make_table-2.new.tx.conn.now in
    let e = state g.S.Store c.set_version.new.tx.conn.now in
    let two = steps_then (λ _. MakesNext Period) (λ _. MakesNext Quorum) a b d c.in_ok-make_table.field-0
    (Ok c.in_ok-make_table-2.field-0) (c.in_ok-make_table.ensures.next (omega arith))
    (c.in_ok-make_table-2.ensures.next (omega arith)) in
    let three = steps_then (λ _. Then (MakesNext Period) (MakesNext Quorum)) (λ _. SetsVersion) a d e
    c.in_ok-make_table-2.field-0 (Ok c.in_ok-set_version.field-0) two c.in_ok-set_version.ensures.made in
    let Periods = Adds (IsMadeAs Period) in
    let Needs = Adds (IsMadeAs Quorum) in
    let beside_two = steps_then (λ _. Periods) (λ _. Needs) a b d c.in_ok-make_table.field-0
    (Ok c.in_ok-make_table-2.field-0) c.in_ok-make_table.ensures.beside c.in_ok-make_table-2.ensures.beside in
    let beside_three = steps_then (λ _. Then Periods Needs) (λ _. UpdatesMeta) a d e c.in_ok-make_table-2.field-0
    (Ok c.in_ok-set_version.field-0) beside_two c.in_ok-set_version.ensures.beside in
    steps_both (λ _. Then (Then (MakesNext Period) (MakesNext Quorum)) SetsVersion)
    (λ _. Then (Then Periods Needs) UpdatesMeta) (λ _. TakesToSecond) a e c.in_ok-set_version.field-0
    c.in_ok-set_version.field-0 (tt {0})
    (λ old new done kept. record {
      second = λ t holds. done.2 t (done.1.2 t (done.1.1 t (begins t old holds)));
      others = migrates_beside old kept.0 new (adds_then IsOther old kept.1.0 kept.0
          (adds_other Period (λ e. absurd (cc)) old kept.1.0 kept.1.1)
          (adds_other Quorum (λ e. absurd (cc)) kept.1.0 kept.0 kept.1.2)) kept.2;
    }) three beside_three
