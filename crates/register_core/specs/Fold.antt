-- What a list of items makes of a history, and what they are answered. An item is a request, or none for a line that
-- is no request. The words that end in _in are said of a version, the others of this program's.
use Rattle.std.specs.Prelude.{◌≡◌, List, [], ◌∷◌, ◌++◌, map, fold, Option, None, Some, Result, Err, if◌then◌else◌}
use Rattle.std.specs.List.{AllByRecursion}
use Rattle.register_requests.specs.declared.version.Version.{Version}
use Rattle.register_requests.specs.{declared.request.Request.Request, Request.IsRequest, Version.current}
use Rattle.register_core.specs.declared.reply.Refusal.TheVariants.{BadLine}
use Rattle.register_core.specs.Verdict.{verdict_in, is_accepted, told}
use Rattle.register_core.specs.{declared.reply.Reply.Reply, declared.reply.Refusal.Refusal, KeptReply.reply}

-- the history after an item: with the request at its end where that is accepted, else as it was
abbrev pub history_after_in : Version → List Request → Option Request → List Request
history_after_in version h None = h
history_after_in version h (Some q) = if is_accepted (verdict_in version h q) then h ++ q ∷ [] else h

-- the history after an item in this program's version
abbrev pub history_after : List Request → Option Request → List Request
history_after = history_after_in current

-- the history after the items, from the left
abbrev pub history_in : Version → List Request → List (Option Request) → List Request
history_in version h items = fold (history_after_in version) h items

-- the history after the items, from the left, in this program's version
abbrev pub history : List Request → List (Option Request) → List Request
history = history_in current

-- what an item is answered
abbrev pub answer_to_in : Version → List Request → Option Request → Result Reply Refusal
answer_to_in version h None = Err BadLine
answer_to_in version h (Some q) = told (verdict_in version h q) (reply h q)

-- what an item is answered after a history in this program's version
abbrev pub answer_to : List Request → Option Request → Result Reply Refusal
answer_to = answer_to_in current

-- what the items are answered, one after the other
abbrev pub answers_in : Version → List Request → List (Option Request) → List (Result Reply Refusal)
answers_in version h [] = []
answers_in version h (item ∷ items) =
    answer_to_in version h item ∷ answers_in version (history_after_in version h item) items

-- what the items are answered in this program's version, one after the other
abbrev pub answers : List Request → List (Option Request) → List (Result Reply Refusal)
answers = answers_in current

-- these requests as items
abbrev pub items : List Request → List (Option Request)
items h = map (λ (q : Request). Some q) h

-- a list of requests that the register comes to have accepted: each is in its range, and accepted after those before it
pub record IsLawfulIn (version : Version) (h : List Request) : Type 0 where
  pub in_range : AllByRecursion IsRequest h
  pub accepted : history_in version [] (map (λ (q : Request). Some q) h) ≡ h

-- a list of requests that the register comes to have accepted in this program's version
abbrev pub IsLawful : List Request → Type 0
IsLawful = IsLawfulIn current
