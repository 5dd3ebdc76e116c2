use Rattle.std.proofs.Common.{Err, Some, [], inl, ◌∷◌, refl, sym, subst, ap, ◌∙◌}
use Rattle.std.proofs.lemmas.Result.{err_from_is_err_and}
use Rattle.register_core.specs.{Answer.outcome, Fold.history, Verdict.answer}
use Rattle.register_requests.specs.Request.{IsRequest}
use Rattle.register_http.proofs.ActingLemmas.{changes_answered, went_applied, acts_text, applied_ends, outcome_told}
use Rattle.register_http.proofs.exchanging.reply_text_after_applying.Goals as goal

pub returns-clause-acts : goal.returns-clause-acts
returns-clause-acts g c =
    let request = c.request_at-request.result in
    let is = c.request_at-request.ensures.is in
    let in_range = subst IsRequest (sym is) (c.request_at-request.ensures.in_range c.requires) in
    acts_text _ c.args.moment _ _ _ c.answer_reply_text.result c.text_or_end.result
    (went_applied _ c.args.moment _ _ _ (λ h. history h (Some request ∷ []))
    (λ h. ap (λ q. history h (Some q ∷ [])) (sym is)) c.in_ok-answer.ensures.clean c.in_ok-answer.ensures.ends
    (λ h stands clean. ((c.in_ok-answer.ensures.to h).answers stands in_range clean).stands))
    (changes_answered _ _ _ c.in_ok-answer.answer c.answer_reply_text.result c.text_or_end.result
    c.in_ok-answer.ensures.unchanged c.answer_reply_text.ensures c.text_or_end.ensures.ok c.text_or_end.ensures.err)
    (λ rejection same. absurd (cc))
    (λ h stands clean. outcome_told (outcome c.in_ok-answer.answer) _ c.answer_reply_text.result
    (ap outcome (((c.in_ok-answer.ensures.to h).answers stands in_range clean).answer_is ∙ ap (answer h) is))
    c.answer_reply_text.ensures)
    c.text_or_end.ensures.ok c.text_or_end.ensures.err

pub returns-in_err-answer-clause-acts : goal.returns-in_err-answer-clause-acts
returns-in_err-answer-clause-acts g c =
    let request = c.request_at-request.result in
    let is = c.request_at-request.ensures.is in
    let in_range = subst IsRequest (sym is) (c.request_at-request.ensures.in_range c.requires) in
    let ended = err_from_is_err_and c.from_residual.result c.from_residual.ensures.1 in
    applied_ends _ c.args.moment _ _ _ c.in_err-answer.field-0.0 _ refl (λ rejection same. absurd (cc))
    c.in_err-answer.ensures.clean
    c.in_err-answer.ensures.ends (λ h. (c.in_err-answer.ensures.to h).still)
    (λ h. history h (Some request ∷ [])) (λ h. ap (λ q. history h (Some q ∷ [])) (sym is))
    (λ h stands clean store. (c.in_err-answer.ensures.to h).leaves stands in_range clean store)
    c.in_err-answer.ensures.unchanged
    (inl refl) (ended.1 ∙ ap Err ended.2)
