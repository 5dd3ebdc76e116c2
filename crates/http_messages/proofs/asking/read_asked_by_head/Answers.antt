use Rattle.std.proofs.Common.{◌++◌, drop, subst}
use Rattle.std.proofs.lemmas.List.{take_rest}
use Rattle.std.proofs.lemmas.Result.{IfOk-weaker}
use Rattle.std.specs.Prelude.{IfOk, IsSomeAnd}
use Rattle.http_messages.specs.{HeaderFields.AreGathered, Asked.AsksBody, Within.IsFor}
use Rattle.http_messages.specs.Asked as rule
use Rattle.http_messages.proofs.Answering.{head_asks, head_posts}
use Rattle.http_messages.proofs.asking.read_asked_by_head.Goals as goal

pub returns-in-Show-clause-asks : goal.returns-in-Show-clause-asks
returns-in-Show-clause-asks g c = λ h left at known.
    let is = subst (IsFor h) c.in-Show.is (c.in-Ok-route_or_rejection_of_head.ensures.ok h at) in
    head_asks h _ _ c.with_nothing_read-in-Show.result c.with_nothing_read-in-Show.ensures
    (rule.show c.in-Show.key is.host is.target is.method)

pub returns-in-Usage-clause-asks : goal.returns-in-Usage-clause-asks
returns-in-Usage-clause-asks g c = λ h left at known.
    let is = subst (IsFor h) c.in-Usage.is (c.in-Ok-route_or_rejection_of_head.ensures.ok h at) in
    head_asks h _ _ c.with_nothing_read-in-Usage.result c.with_nothing_read-in-Usage.ensures
    (rule.usage c.in-Usage.key is.host is.target is.method)

pub returns-in-Ok-body_length_and_sender_of-clause-asks : goal.returns-in-Ok-body_length_and_sender_of-clause-asks
returns-in-Ok-body_length_and_sender_of-clause-asks g c = λ h left at known.
    let is = subst (IsFor h) c.in-Requests.is (c.in-Ok-route_or_rejection_of_head.ensures.ok h at) in
    let all = subst (λ lines. AreGathered lines c.gather_lines-fields.result) at.fields c.gather_lines-fields.ensures in
    let post = c.in-Ok-body_length_and_sender_of.post in
    let says = c.in-Ok-body_length_and_sender_of.ensures.ok _ all in
    let bytes = c.args.head.now.bytes.now in
    let n = c.args.head.now.spans.len in
    IfOk-weaker c.read_asked_by_post.result.asked _ _ (λ o asks. head_posts h (drop n bytes) left post o is says asks)
    (subst (λ after. IfOk c.read_asked_by_post.result.asked
    (λ o. IsSomeAnd o (AsksBody post.length post.sender.caller post.sender.number (after ++ left))))
    (take_rest bytes n) (c.read_asked_by_post.ensures.asks left known))

pub returns-in-Err-body_length_and_sender_of-clause-asks : goal.returns-in-Err-body_length_and_sender_of-clause-asks
returns-in-Err-body_length_and_sender_of-clause-asks g c = λ h left at known.
    let is = subst (IsFor h) c.in-Requests.is (c.in-Ok-route_or_rejection_of_head.ensures.ok h at) in
    let all = subst (λ lines. AreGathered lines c.gather_lines-fields.result) at.fields c.gather_lines-fields.ensures in
    let rest = drop c.args.head.now.spans.len c.args.head.now.bytes.now ++ left in
    head_asks h _ _ c.rejected-in-Err-body_length_and_sender_of.result
    c.rejected-in-Err-body_length_and_sender_of.ensures
    (rule.post _ is.host is.target is.method (c.in-Err-body_length_and_sender_of.ensures.err _ all rest))
