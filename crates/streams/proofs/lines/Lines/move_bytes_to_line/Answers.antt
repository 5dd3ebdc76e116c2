use Rattle.std.proofs.Common.{drop, refl, ap, ◌∙◌, ◌≤◌, ◌+◌}
use Rattle.streams.specs.Lines.{Cut}
use Rattle.streams.proofs.LinesLemmas.{slice_range-add, slice_range-take, unread_within, Extends-by_part}
use Rattle.streams.proofs.lines.Lines.move_bytes_to_line.Goals as goal

pub returns-clause-unread : goal.returns-clause-unread
returns-clause-unread g c =
    slice_range-add c.self.inside.piece c.self.inside.start c.args.count c.self.inside.end
    ∙ ap (λ (cut : Cut). drop c.args.count cut.unread) c.self.view_is

pub returns-clause-line : goal.returns-clause-line
returns-clause-line g c =
    let within : c.self.inside.start + c.args.count ≤ c.self.inside.end =
    unread_within _ c.args.self.now c.self.inside.piece c.self.inside.start c.args.count c.self.inside.end
    c.self.view_is refl c.self.invariant.ordered c.requires in
    Extends-by_part _ c.args.self.now _ c.self.inside.held c.append_within_room.new.held _ c.args.count c.self.view_is
    c.requires
    (slice_range-take c.self.inside.piece c.self.inside.start c.args.count c.self.inside.end within) refl c.self.told2
    c.append_within_room.ensures refl refl refl
