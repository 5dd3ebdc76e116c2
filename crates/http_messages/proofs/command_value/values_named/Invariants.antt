use Rattle.std.proofs.Common.{◌≡◌, ◌≤◌, length, map}
use Rattle.serde_json.specs.View.{view, members_view}
use Rattle.http_messages.specs.declared.command_value.TheConstants.{MAX_MEMBERS}
use Rattle.http_messages.proofs.NamedMembers.{Given, Left}
use Rattle.http_messages.proofs.command_value.values_named.Given as goal

abbrev pub invariant-loop-at : goal.invariant-loop-at
invariant-loop-at l = record {
  given : Given (members_view l.members.entries) (members_view l.rest) (map (λ name. name.now) l.names)
      (map (λ value. view value.now) l.values) l.at;
  left : Left (members_view l.members.entries) (members_view l.rest) (map (λ name. name.now) l.names) l.at;
  most : l.at ≤ length l.names;
  room : length l.values ≡ MAX_MEMBERS;
}
