use Rattle.std.proofs.Common.{◌∙◌, ap}
use Rattle.std.proofs.lemmas.Result.{IfOk-weaker}
use Rattle.http_messages.specs.{AnswerText.json_reply, AnswerValue.refusal_data, HttpReply.reply_bytes}
use Rattle.http_messages.proofs.reply_text.refused_reply_text.Goals as goal

pub returns : goal.returns
returns c =
    IfOk-weaker c.json_reply_text.result _ _
    (λ s written. written ∙ ap (λ v. reply_bytes (json_reply c.refusal_status.result v)) c.in_ok-value.ensures
    ∙ ap (λ n. reply_bytes (json_reply n (refusal_data c.args.refusal.now))) c.refusal_status.ensures)
    c.json_reply_text.ensures
