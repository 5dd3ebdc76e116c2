use Rattle.std.proofs.Common.{◌++◌, ◌∷◌, [], append_assoc, codes}
use Rattle.std.proofs.lemmas.Result.{IfOk-weaker}
use Rattle.http_messages.proofs.reply_text.reply_text_with_allow.Goals as goal

pub returns : goal.returns
returns c =
    IfOk-weaker c.format.result _ _
    (λ s h. rw (append_assoc c.args.method.now (13 ∷ 10 ∷ []) (codes "Connection: close\r\n\r\n" ++ c.args.body.now))
    h) c.format.ensures.ok
