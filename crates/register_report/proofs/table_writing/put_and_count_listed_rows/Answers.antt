use Rattle.std.proofs.Common.{◌≡◌, ◌+◌, true, false, refl, ap, subst, ◌∙◌, arith}
use Rattle.std.specs.Prelude.{OnSome}
use Rattle.register_desk.specs.KeyRows.{GoOn}
use Rattle.register_report.specs.Within.KeyTable.{has_line_for}
use Rattle.register_report.proofs.RowsWritten.{Next, at_most_one, none_so_far, one_if, one_more, part_of_line}
use Rattle.register_report.proofs.RowsWritten.{rows_passed_on}
use Rattle.register_report.proofs.table_writing.put_and_count_listed_rows.Goals.{then-branch, else-branch}
use Rattle.register_report.proofs.table_writing.put_and_count_listed_rows.Goals as goal

pub lines-init : goal.lines-init
lines-init g c = record {
  same_reference = refl;
  so_far =
      none_so_far g.W.Write.contents g.S.Store c.args.table.now c.args.writer.now
      c.args.written.now c.args.rows.now;
  going = λ going. going;
  within = omega arith;
}

pub lines-preserved : goal.lines-preserved
lines-preserved g c =
    let found = c.in_ok-row.ensures in
    let next : Next c.lines.rows c.next_key.new.self c.in_ok-row.field-0 =
    record { reads = found.reads; mark = found.mark; until = found.until; gives = found.gives } in
    let one = subst (Next c.lines.rows c.next_key.new.self) c.in-Some.is next in
    let listed = c.in_ok-put_row_if_listed.ensures.listed in
    let counted : c.if-branch.count ≡ c.lines.count + one_if (has_line_for c.args.table.now c.in-Some.row) =
    elim c.if-branch.branch [
      | then-branch w ↦
          let is : has_line_for c.args.table.now c.in-Some.row ≡ true = cc in
          let unit = ap one_if is in omega (arith, w.count-is, unit)
      | else-branch w ↦
          let is : has_line_for c.args.table.now c.in-Some.row ≡ false = cc in
          let none = ap one_if is in omega (arith, w.count-is, none)
    ] in
    record {
      same_reference = found.same_reference ∙ c.lines.invariant.same_reference;
      so_far = one_more c.lines.invariant.so_far one c.if-branch.count counted c.in_ok-put_row_if_listed.ensures.puts;
      going = λ going. subst (λ o. OnSome o (GoOn c.next_key.new.self)) c.in-Some.is found.goes_on;
      within = let most = at_most_one (has_line_for c.args.table.now c.in-Some.row) in
          omega (arith, counted, most, c.lines.invariant.within);
    }

pub returns-in_err-put_row_if_listed-clause-rows : goal.returns-in_err-put_row_if_listed-clause-rows
returns-in_err-put_row_if_listed-clause-rows g c =
    let found = c.in_ok-row.ensures in
    let next : Next c.lines.rows c.next_key.new.self c.in_ok-row.field-0 =
    record { reads = found.reads; mark = found.mark; until = found.until; gives = found.gives } in
    let one = subst (Next c.lines.rows c.next_key.new.self) c.in-Some.is next in
    rows_passed_on c.from_residual-in_err-put_row_if_listed.result c.from_residual-in_err-put_row_if_listed.ensures.1
    (part_of_line c.lines.invariant.so_far one c.in_err-put_row_if_listed.ensures.puts)
