-- What a register answers to what an exchange asks, and what it is then. All of it is this register's own.
use Rattle.std.specs.Prelude.{ℕ, Bool, true, false, List, [], ◌∷◌, Option, None, Some, Err}
use Rattle.register_requests.specs.declared.request.Request.{Request}
use Rattle.register_core.specs.declared.reply.Refusal.TheVariants.{UnknownKey}
use Rattle.register_core.specs.{Answer.outcome, Fold.history, Verdict.answer}
use Rattle.register_desk.specs.Shown.{shown, usage}
use Rattle.http_messages.specs.declared.asked.Asked.{Asked}
use Rattle.http_messages.specs.declared.asked.Asked.TheVariants.{Reject, ShowKey, ShowUsage, Apply}
use Rattle.http_messages.specs.AnswerText.{key_reply, outcome_reply, usage_reply}
use Rattle.http_messages.specs.{declared.asked.Sent.Sent, Rejection.reply_of, HttpReply.HttpReply}

-- the request that is made of what was sent, at the moment of the exchange
abbrev pub request_at : ℕ → Sent → Request
request_at moment sent = record { moment = moment; caller = sent.caller; number = sent.number; command = sent.command }

-- the item that what was asked hands to the register: its request, or none
abbrev pub item_of : ℕ → Option Asked → Option Request
item_of moment None = None
item_of moment (Some (Reject rejection)) = None
item_of moment (Some (ShowKey key)) = None
item_of moment (Some (ShowUsage key)) = None
item_of moment (Some (Apply sent)) = Some (request_at moment sent)

-- the register is asked
abbrev pub uses_register : Asked → Bool
uses_register (Reject rejection) = false
uses_register (ShowKey key) = true
uses_register (ShowUsage key) = true
uses_register (Apply sent) = true

-- the history after it
abbrev pub history_after_asked : List Request → ℕ → Asked → List Request
history_after_asked h moment (Reject rejection) = h
history_after_asked h moment (ShowKey key) = h
history_after_asked h moment (ShowUsage key) = h
history_after_asked h moment (Apply sent) = history h (Some (request_at moment sent) ∷ [])

-- what is found of a key is replied so, and where there is none, that the key is unknown
abbrev pub found_reply : {T : Type 0} → (T → HttpReply) → Option T → HttpReply
found_reply reply None = outcome_reply (Err UnknownKey)
found_reply reply (Some found) = reply found

-- the reply of the register of this history
abbrev pub reply_to_asked : List Request → ℕ → Asked → HttpReply
reply_to_asked h moment (Reject rejection) = reply_of rejection
reply_to_asked h moment (ShowKey key) = found_reply key_reply (shown h key)
reply_to_asked h moment (ShowUsage key) = found_reply usage_reply (usage h key)
reply_to_asked h moment (Apply sent) = outcome_reply (outcome (answer h (request_at moment sent)))
