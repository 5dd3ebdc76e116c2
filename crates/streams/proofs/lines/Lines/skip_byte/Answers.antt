use Rattle.streams.proofs.LinesLemmas.{slice_range-add, skipped}
use Rattle.streams.proofs.lines.Lines.skip_byte.Goals as goal

pub returns : goal.returns
returns g c = skipped _ _ c.self.view_is (slice_range-add c.self.inside.piece c.self.inside.start 1 c.self.inside.end)
