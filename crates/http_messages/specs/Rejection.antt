-- The reply of each refusal.
use Rattle.http_messages.specs.declared.asked.Rejection.TheVariants.{BadRequest, NoRoute, MethodNotAllowed}
use Rattle.http_messages.specs.declared.asked.Rejection.TheVariants.{LengthRequired, TooLarge}
use Rattle.http_messages.specs.HttpReply.{HttpReply, bad_request, no_route, not_allowed, length_required, too_large}
use Rattle.http_messages.specs.{declared.asked.Rejection.Rejection, Route.method_of}

-- the reply to what is refused without a look at the register
abbrev pub reply_of : Rejection → HttpReply
reply_of BadRequest = bad_request
reply_of NoRoute = no_route
reply_of (MethodNotAllowed r) = not_allowed (method_of r)
reply_of LengthRequired = length_required
reply_of TooLarge = too_large
