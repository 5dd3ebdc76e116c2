use Rattle.std.proofs.Common.{◌≡◌, map, take}
use Rattle.serde_json.specs.{Data.string, View.view}
use Rattle.http_messages.proofs.reply_text.names_value.Given as goal

-- the values so far are the names so far
abbrev pub invariant-loop-name : goal.invariant-loop-name
invariant-loop-name l =
    map view l.values.items ≡ map (λ name. string name) (take l.name-index l.names)
