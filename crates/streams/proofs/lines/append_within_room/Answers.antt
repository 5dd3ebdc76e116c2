use Rattle.std.proofs.Common.{◌≡◌, rules, ap, take}
use Rattle.std.proofs.lemmas.List.{places}
use borrow.Rule.Slice.PartMut.{put_mid}
use Rattle.streams.proofs.LinesLemmas.{take-written}
use Rattle.streams.proofs.lines.append_within_room.Goals as goal

pub returns : goal.returns
returns c =
    let part : c.copy_from_slice.new.self ≡ take c.min-more.result c.args.part.now = search rules in
    take-written c.args.held.now _ c.args.part.now c.args.count c.min-filled.result c.min-more.result _
    c.min-filled.ensures c.min-more.ensures (search (rules, places))
    (ap (put_mid c.min-filled.result _ c.args.held.now) part)
