use Rattle.std.proofs.Common.{arith, rules}
use Rattle.sql_steps.proofs.Stepping.{runs}
use Rattle.register_schema.proofs.{Beside.index_adds, Creating.makes_index}
use Rattle.register_schema.proofs.creation.make_index.Goals as goal

pub returns : goal.returns
returns g c = record {
  same_reference = search rules;
  made = grind (arith, runs, makes_index);
  beside = search (arith, runs, index_adds);
}
