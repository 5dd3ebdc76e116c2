-- The replies with which the register answers, as JSON. The statuses are RFC 9110's, section 15;
-- which refusal has which is this register's own.
use Rattle.std.specs.Prelude.{ℕ, None, Result, Ok, Err}
use Rattle.serde_json.specs.{Data.Data, Written.compact_text}
use Rattle.lifecycle_core.specs.declared.usage_types.Usage.{Usage}
use Rattle.register_core.specs.declared.reply.Reply as core
use Rattle.register_core.specs.declared.reply.Refusal.{Refusal}
use Rattle.register_core.specs.declared.reply.Refusal.TheVariants.{BadLine, UnknownKey}
use Rattle.key_rows.specs.declared.record.Record.{Record}
use Rattle.http_messages.specs.AnswerValue.{key_data, refusal_data, reply_data, usage_data}
use Rattle.http_messages.specs.HttpReply.{HttpReply}

-- a reply with this status, whose body is the compact text of a JSON value
abbrev pub json_reply : ℕ → Data → HttpReply
json_reply status value = record { status = status; allow = None; body = compact_text value }

-- 400 Bad Request, 404 Not Found, 409 Conflict
abbrev pub refusal_status : Refusal → ℕ
refusal_status BadLine = 400
refusal_status UnknownKey = 404
refusal_status refusal = 409

-- The HTTP reply to a request that was answered: 200 OK where it was accepted.
abbrev pub outcome_reply : Result core.Reply Refusal → HttpReply
outcome_reply (Ok reply) = json_reply 200 (reply_data reply)
outcome_reply (Err refusal) = json_reply (refusal_status refusal) (refusal_data refusal)

-- The HTTP reply to the question what a key may be used for.
abbrev pub usage_reply : Usage → HttpReply
usage_reply usage = json_reply 200 (usage_data usage)

-- The HTTP reply to the question for a key.
abbrev pub key_reply : Record → HttpReply
key_reply shown = json_reply 200 (key_data shown)
