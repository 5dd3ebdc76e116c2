use Rattle.std.proofs.Common.{length, ap}
use Rattle.streams.specs.Lines.{Cut}
use Rattle.streams.proofs.LinesLemmas.{cut_at_line_feed, cut_nowhere}
use Rattle.streams.proofs.lines.Lines.take_to_line_feed.Goals as goal

pub returns-in-Some-clause-found : goal.returns-in-Some-clause-found
returns-in-Some-clause-found g c =
    let skipped = c.skip_byte.ensures in
    cut_at_line_feed c.args.self.now c.move_bytes_to_line.new.self c.skip_byte.new.self
    c.unread_bytes.result.now c.in-Some.at
    c.in-Some.ensures c.unread_bytes.ensures
    c.move_bytes_to_line.ensures.unread c.move_bytes_to_line.ensures.line (ap (λ (cut : Cut). cut.unread) skipped)
    (ap (λ (cut : Cut). cut.line) skipped)
    (ap (λ (cut : Cut). cut.line_length) skipped) (ap (λ (cut : Cut). cut.taken) skipped)

pub returns-in-None-clause-none : goal.returns-in-None-clause-none
returns-in-None-clause-none g c =
    cut_nowhere c.args.self.now c.move_bytes_to_line-in-None.new.self c.unread_bytes.result.now _ c.in-None.ensures
    c.unread_bytes.ensures
    (ap length c.unread_bytes-all.ensures)
    c.move_bytes_to_line-in-None.ensures.unread c.move_bytes_to_line-in-None.ensures.line
