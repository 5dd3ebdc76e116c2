use Rattle.std.proofs.Common.{inl, refl, sym}
use Rattle.register_desk.proofs.Readings.{nothing_done}
use Rattle.http_messages.specs.declared.asked.Asked.TheVariants.{Reject, ShowKey, ShowUsage}
use Rattle.register_http.proofs.ActingLemmas.{asked_same, went_unasked, acts_text, rejected_text}
use Rattle.register_http.proofs.exchanging.answer_asked.Goals as goal

pub returns-in-Reject-clause-acts : goal.returns-in-Reject-clause-acts
returns-in-Reject-clause-acts g c =
    asked_same _ c.args.moment (Reject c.in-Reject.rejection) c.args.asked.now _ _ _ (sym c.in-Reject.is)
    (acts_text _ c.args.moment (Reject c.in-Reject.rejection) _ _ c.rejection_text.result c.text_or_end.result
    (went_unasked _ c.args.moment c.in-Reject.rejection _) (inl (nothing_done _ _))
    (λ rejection is. (
      refl,
      rejected_text c.in-Reject.rejection rejection c.rejection_text.result
          c.rejection_text.ensures is,
    ))
    (λ h stands clean. c.rejection_text.ensures) c.text_or_end.ensures.ok c.text_or_end.ensures.err)

pub returns-in-ShowKey-clause-acts : goal.returns-in-ShowKey-clause-acts
returns-in-ShowKey-clause-acts g c =
    asked_same _ c.args.moment (ShowKey c.in-ShowKey.key) c.args.asked.now _ _ _ (sym c.in-ShowKey.is)
    (c.reply_text_showing_key.ensures.acts c.args.moment)

pub returns-in-ShowUsage-clause-acts : goal.returns-in-ShowUsage-clause-acts
returns-in-ShowUsage-clause-acts g c =
    asked_same _ c.args.moment (ShowUsage c.in-ShowUsage.key) c.args.asked.now _ _ _ (sym c.in-ShowUsage.is)
    (c.usage_reply.ensures.acts c.args.moment)
