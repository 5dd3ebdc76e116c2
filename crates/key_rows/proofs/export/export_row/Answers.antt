use Rattle.std.proofs.Common.{[], subst, refl, ◌∙◌}
use Rattle.std.proofs.lemmas.Result.{IfOk-weaker}
use Rattle.std.specs.{Prelude.Some, Io.KnownBytes.Keeps}
use Rattle.key_rows.specs.Within.{HasFields}
use Rattle.key_rows.proofs.RowWriting.{if_ok_mapped}
use Rattle.key_rows.proofs.export.export_row.Goals as goal

pub returns : goal.returns
returns c =
    let from = c.from_writer-row.ensures in
    let empty : HasFields c.from_writer-row.result [] = record {
      setup = from.cfg ∙ c.new.ensures;
      count = from.fields;
      text = rw (from.wtr, c.new-2.ensures.items, from.empty) refl;
      printable = tt;
    } in
    let row = c.in_ok-put_row.ensures empty in
    if_ok_mapped _ _ c.into_inner.result _ c.map_err.ensures.cases c.map_err.ensures.variant
    (IfOk-weaker c.into_inner.result _ _
    (λ bytes keeps. subst (λ o. Keeps o (Some bytes.items)) row keeps) c.into_inner.ensures.ok)
