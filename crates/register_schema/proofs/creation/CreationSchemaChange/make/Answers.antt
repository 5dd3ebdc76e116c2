use Rattle.std.proofs.Common.{Ok}
use Rattle.sqlite.specs.Held.{state}
use Rattle.sql_steps.specs.Within.{Then}
use Rattle.sql_steps.proofs.Stepping.{steps_then}
use Rattle.register_schema.specs.Within.Creation.{AddsIndexes, AddsMeta, MakesTables}
use Rattle.register_tables.specs.Within.Beside.{AddsUncounted, InsertsMeta}
use Rattle.register_schema.specs.Creation.{MakesAll}
use Rattle.register_schema.proofs.Beside.{makes_beside, steps_both}
use Rattle.register_schema.proofs.creation.CreationSchemaChange.make.Goals as goal

pub returns-clause-made : goal.returns-clause-made
returns-clause-made g c =
    let a = state g.S.Store c.args.tx.now.conn.now in
    let b = state g.S.Store c.make_tables.new.tx.conn.now in
    let d = state g.S.Store c.make_indexes.new.tx.conn.now in
    let e = state g.S.Store c.insert_meta.new.tx.conn.now in
    let two = steps_then (λ _. MakesTables) (λ _. AddsIndexes) a b d c.in_ok-make_tables.field-0
    (Ok c.in_ok-make_indexes.field-0) c.in_ok-make_tables.ensures.made c.in_ok-make_indexes.ensures.made in
    let three = steps_then (λ _. Then MakesTables AddsIndexes) (λ _. AddsMeta) a d e c.in_ok-make_indexes.field-0
    (Ok c.in_ok-insert_meta.field-0) two c.in_ok-insert_meta.ensures.made in
    let beside_two = steps_then (λ _. AddsUncounted) (λ _. AddsUncounted) a b d c.in_ok-make_tables.field-0
    (Ok c.in_ok-make_indexes.field-0) c.in_ok-make_tables.ensures.beside c.in_ok-make_indexes.ensures.beside in
    let beside_three = steps_then (λ _. Then AddsUncounted AddsUncounted) (λ _. InsertsMeta) a d e
    c.in_ok-make_indexes.field-0 (Ok c.in_ok-insert_meta.field-0) beside_two c.in_ok-insert_meta.ensures.beside in
    steps_both (λ _. Then (Then MakesTables AddsIndexes) AddsMeta)
    (λ _. Then (Then AddsUncounted AddsUncounted) InsertsMeta) (λ _. MakesAll) a e
    c.in_ok-insert_meta.field-0 c.in_ok-insert_meta.field-0 (tt {0})
    (λ old new done kept. record {
      register = λ first. done.2 (done.1.2 (done.1.1 first));
      others = makes_beside old kept.1.0 kept.0 new kept.1.1 kept.1.2 kept.2;
    }) three beside_three
