use Rattle.std.proofs.Common.{List, ℕ, None, ◌∙◌, ap}
use Rattle.std.proofs.lemmas.Result.{IfOk-weaker}
use Rattle.http_messages.specs.HttpReply.{reply_bytes}
use Rattle.http_messages.proofs.reply_text.json_reply_text.Goals as goal

pub returns : goal.returns
returns c =
    let text = c.as_str.ensures.value ∙ c.in_ok-body.ensures.text c.requires in
    let same = ap (λ (b : List ℕ). reply_bytes (record { status = c.args.status; allow = None; body = b })) text in
    IfOk-weaker c.reply_text.result _ _ (λ s written. written ∙ same) c.reply_text.ensures
