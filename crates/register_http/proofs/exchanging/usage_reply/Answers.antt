use Rattle.std.proofs.Common.{Some, None, Err, inl, refl, sym, ap, ◌∙◌}
use Rattle.std.proofs.lemmas.Result.{err_from_is_err_and}
use Rattle.http_messages.specs.AnswerText.{usage_reply}
use Rattle.register_http.proofs.ActingLemmas.{went_reading, acts_text, question_ends, found_text}
use Rattle.register_http.proofs.exchanging.usage_reply.Goals as goal

pub returns-in-Some-clause-acts : goal.returns-in-Some-clause-acts
returns-in-Some-clause-acts g c = λ moment.
    acts_text _ moment _ _ _ c.usage_reply_text.result c.text_or_end.result
    (went_reading _ moment _ _ _ (record { same = λ h. refl; uses = refl; asks = λ rejection is. absurd (cc) })
    c.in_ok-usage.ensures.asks.ends c.in_ok-usage.ensures.asks.reads)
    (inl c.in_ok-usage.ensures.asks.reads)
    (λ rejection is. absurd (cc))
    (λ h stands clean. found_text usage_reply (Some _) _ c.usage_reply_text.result (sym c.in-Some.is
    ∙ c.in_ok-usage.ensures.used h stands clean) c.usage_reply_text.ensures)
    c.text_or_end.ensures.ok c.text_or_end.ensures.err

pub returns-in-None-clause-acts : goal.returns-in-None-clause-acts
returns-in-None-clause-acts g c = λ moment.
    acts_text _ moment _ _ _ c.unknown_key_text.result c.text_or_end-in-None.result
    (went_reading _ moment _ _ _ (record { same = λ h. refl; uses = refl; asks = λ rejection is. absurd (cc) })
    c.in_ok-usage.ensures.asks.ends c.in_ok-usage.ensures.asks.reads)
    (inl c.in_ok-usage.ensures.asks.reads)
    (λ rejection is. absurd (cc))
    (λ h stands clean. found_text usage_reply (None) _ c.unknown_key_text.result (sym c.in-None.is
    ∙ c.in_ok-usage.ensures.used h stands clean) c.unknown_key_text.ensures)
    c.text_or_end-in-None.ensures.ok c.text_or_end-in-None.ensures.err

pub returns-in_err-usage-clause-acts : goal.returns-in_err-usage-clause-acts
returns-in_err-usage-clause-acts g c = λ moment.
    let ended = err_from_is_err_and c.from_residual.result c.from_residual.ensures.1 in
    question_ends _ moment _ _ _ c.in_err-usage.field-0.0 _
    (record { same = λ h. refl; uses = refl; asks = λ rejection is. absurd (cc) }) c.in_err-usage.ensures.asks.ends
    c.in_err-usage.ensures.asks.reads (ended.1 ∙ ap Err ended.2)
