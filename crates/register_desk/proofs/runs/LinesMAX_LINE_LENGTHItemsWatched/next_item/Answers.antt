use Rattle.std.proofs.Common.{◌≡◌, subst, rules}
use Rattle.register_requests.specs.Request.{IsItem}
use Rattle.register_desk.proofs.LinesCut.{lines_more}
use Rattle.register_desk.proofs.runs.LinesMAX_LINE_LENGTHItemsWatched.next_item.Goals as goal

pub returns-in-Ok-Line-clause-came : goal.returns-in-Ok-Line-clause-came
returns-in-Ok-Line-clause-came g c item is start items came =
    let cut = c.in-Ok-Line.ensures.line c.in-Ok-Line.field-0-is in
    let same : c.item_of_line.result ≡ item = cc in
    let taken = c.next.ensures.taken in
    lines_more (c.next.new.self, c.next.new.reader) cut.0 item came cut.1
    (subst (IsItem cut.0) same (c.item_of_line.ensures.item cut.0 cut.1.counted cut.1.kept))
    (record {
      bytes = taken.0;
      consumed = taken.1.consumed;
      counted = taken.1.counted;
      bounded = c.next.ensures.bounded;
    })

pub returns-in-Err-clause-ends : goal.returns-in-Err-clause-ends
returns-in-Err-clause-ends g c = search rules
