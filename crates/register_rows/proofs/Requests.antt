-- What the calls of one accepted request make of the tables, one after the other.
use Rattle.std.proofs.Common.{◌≡◌, ℕ, ◌+◌, subst, ◌∙◌}
use Rattle.std.proofs.lemmas.List.{length-map}
use Rattle.sqlite.specs.Effect.{Database}
use Rattle.sql_steps.specs.Within.{Then}
use Rattle.register_core.specs.declared.kept_reply.KeptReply.{KeptReply}
use Rattle.register_core.specs.{declared.change.Change.Change, KeptReply.IsKeptReply}
use Rattle.register_tables.specs.TableChanges.{Makes, AreRightAt, HasKeys, advanced, with_recorded, with_keys_advanced}
use Rattle.register_rows.specs.AcceptedRequest.{CanTake, with_request}
use Rattle.register_rows.specs.Change.{made_count, with_change}
use Rattle.register_tables.specs.Schema.{Holds}

pub makes_request : (keys latest count : ℕ) (change : Change) (kept : KeptReply) → count ≡ keys + made_count change
    → (old new : Database)
    → Then (Then (Makes (AreRightAt latest) (with_keys_advanced kept.reply.moment))
    (Makes (HasKeys keys) (with_change change))) (Makes (λ _. IsKeptReply kept) (with_recorded kept count)) old new
    → Makes (CanTake keys latest kept) (with_request keys change kept) old new
makes_request keys latest count change kept counted old new all t holds can =
    let at = kept.reply.moment in
    let moved = with_keys_advanced at t in
    let changed = with_change change moved in
    let one : Holds moved all.1.0 = all.1.1 t holds can.right in
    let two : Holds changed all.0 = all.1.2 moved one (length-map t.keys (advanced at) ∙ can.counted) in
    let three : Holds (with_recorded kept count changed) new = all.2 changed two can.in_range in
    subst (λ (n : ℕ). Holds (with_recorded kept n changed) new) counted three
