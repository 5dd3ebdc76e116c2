use Rattle.register_report.proofs.TableRead.{table_in}
use Rattle.register_report.proofs.laws.inputs_with_header_have_row_items.Goals as goal

pub returns : goal.returns
returns c = table_in
