use Rattle.std.proofs.Common.{[], map, take}
use Rattle.key_rows.specs.{Within.cell_text, Within.HasFields}
use Rattle.key_rows.proofs.export.put_row.Given as goal

abbrev pub invariant-loop-cell : goal.invariant-loop-cell
invariant-loop-cell l =
    HasFields l.fn.row [] → HasFields l.row (map cell_text (take l.cell-index l.cell-items))
