use Rattle.matchit.proofs.OnLiterals.{matchit_on_literals}
use Rattle.http_messages.proofs.route.make_router.Goals as goal

pub returns : goal.returns
unfolding matchit_on_literals
returns c =
    let a = c.in_ok-insert.ensures in
    let b = c.in_ok-insert-2.ensures in
    let d = c.in_ok-insert-3.ensures in
    let b' = rw (a.1, c.new-router.ensures) at b in
    rw (b'.1) at d.1
