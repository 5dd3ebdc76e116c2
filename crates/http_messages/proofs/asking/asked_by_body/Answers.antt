use Rattle.http_messages.proofs.Answering.{no_value, other_value, command_handed}
use Rattle.http_messages.proofs.asking.asked_by_body.Goals as goal

pub returns-in_default-clause-asks : goal.returns-in_default-clause-asks
returns-in_default-clause-asks c = λ after n within e.
    let none = rw c.in_default.is at c.in_ok-value.ensures.none in
    no_value n c.args.post.sender.caller c.args.post.sender.number after c.args.body.now within e none

pub returns-in_default-command_of-clause-asks : goal.returns-in_default-command_of-clause-asks
returns-in_default-command_of-clause-asks c = λ after n within e.
    let found = rw c.in-Some.is at c.in_ok-value.ensures.found in
    other_value n c.args.post.sender.caller c.args.post.sender.number after c.args.body.now _ within e found.1
    c.in_default-command_of.ensures.none

pub returns-clause-asks : goal.returns-clause-asks
returns-clause-asks c = λ after n within e.
    let found = rw c.in-Some.is at c.in_ok-value.ensures.found in
    let is = c.in-Some-command_of.ensures.found in
    command_handed n c.args.post.sender.caller c.args.post.sender.number after c.args.body.now
    c.in-Some-command_of.command _
    within e found.0 found.1 is.0 is.1
