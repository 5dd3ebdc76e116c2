use Rattle.register_report.proofs.TableRead.{same_rows, same_table}
use Rattle.register_report.proofs.laws.inputs_have_one_list_of_rows.Goals as goal

pub returns-clause-rows : goal.returns-clause-rows
returns-clause-rows c = same_rows

pub returns-clause-items : goal.returns-clause-items
returns-clause-items c = same_table
