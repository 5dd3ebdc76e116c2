use Rattle.std.proofs.Common.{◌≡◌, Some, None, sym, ◌∙◌, true≢false}
use Rattle.serde_json.specs.View.{view}
use Rattle.register_requests.specs.Request.{IsEdit}
use Rattle.register_requests.specs.declared.request.Edit.TheVariants.{Keep, Clear, Set}
use Rattle.http_messages.specs.CommandValue.{edit_data}
use Rattle.http_messages.proofs.member_values.edit_of.Goals as goal

pub returns-in-None-clause-none : goal.returns-in-None-clause-none
returns-in-None-clause-none c = λ edit.
    elim edit as (λ w. IsEdit w → view c.args.value.now ≡ edit_data w → ⊥) [
      | Keep ↦ λ i e. true≢false (sym (c.is_text.ensures.1 e) ∙ c.if-is_text.false)
      | Clear ↦ λ i e. c.in-None.ensures.none None i e
      | Set date ↦ λ i e. c.in-None.ensures.none (Some date) i e
    ]
