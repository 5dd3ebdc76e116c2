use Rattle.std.proofs.Common.{◌≡◌, subst, string_bytes}
use Rattle.std.specs.Prelude.{IfOk}
use Rattle.http_messages.specs.HttpReply.{reply_bytes, not_allowed}
use Rattle.http_messages.proofs.reply_text.rejection_text.Goals as goal

pub returns-in-BadRequest : goal.returns-in-BadRequest
returns-in-BadRequest c = rw c.in-BadRequest.is c.reply_text.ensures

pub returns-in-NoRoute : goal.returns-in-NoRoute
returns-in-NoRoute c = rw c.in-NoRoute.is c.reply_text-in-NoRoute.ensures

pub returns-in-LengthRequired : goal.returns-in-LengthRequired
returns-in-LengthRequired c = rw c.in-LengthRequired.is c.reply_text-in-LengthRequired.ensures

pub returns-in-TooLarge : goal.returns-in-TooLarge
returns-in-TooLarge c = rw c.in-TooLarge.is c.reply_text-in-TooLarge.ensures

pub returns-in-MethodNotAllowed : goal.returns-in-MethodNotAllowed
returns-in-MethodNotAllowed c =
    rw c.in-MethodNotAllowed.is
    (subst (λ m. IfOk c.reply_text_with_allow.result (λ s. string_bytes s ≡ reply_bytes (not_allowed m)))
    c.method.ensures c.reply_text_with_allow.ensures)
