use Rattle.std.proofs.Common.{◌++◌, ◌<◌, ◌∙◌, sym, length, subst}
use Rattle.http_messages.specs.Asked.{cut_short}
use Rattle.http_messages.proofs.Answering.{left_at_end, left_is, body_is}
use Rattle.http_messages.proofs.asking.read_asked_by_post.Goals as goal

pub returns-in-Ok-None-clause-asks : goal.returns-in-Ok-None-clause-asks
returns-in-Ok-None-clause-asks g c = λ left known.
    let gets = rw (c.in-Ok-None.is, c.in-Ok-None.field-0-is) at c.read_body-read.ensures.gets in
    let all = left_at_end _ _ gets.0 left known gets.1 gets.2 in
    cut_short (subst (λ l. length (c.args.after.now ++ l) < c.args.post.length) (sym all) gets.3)

pub returns-in-Ok-Some-clause-asks : goal.returns-in-Ok-Some-clause-asks
returns-in-Ok-Some-clause-asks g c = λ left known.
    let (more, took, within, is) = rw (c.in-Ok-Some.is, c.in-Ok-Some.field-0-is) at c.read_body-read.ensures.gets in
    let (rest, whole) = left_is _ _ more left known took in
    let (long, same) = body_is c.args.post.length c.args.after.now more left rest whole within in
    c.asked_by_body.ensures.asks (c.args.after.now ++ left) c.args.post.length long (c.deref.ensures.value ∙ is ∙ same)
