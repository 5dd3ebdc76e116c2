use Rattle.std.proofs.Common.{◌∙◌, ap}
use Rattle.serde_json.specs.Written.{has_float}
use Rattle.http_messages.proofs.NoFloats.{key_has_none}
use Rattle.http_messages.proofs.reply_text.key_reply_text.Goals as goal

pub json_reply_text-requires : goal.json_reply_text-requires
json_reply_text-requires c = ap has_float c.in_ok-value.ensures ∙ key_has_none c.args.shown.now
