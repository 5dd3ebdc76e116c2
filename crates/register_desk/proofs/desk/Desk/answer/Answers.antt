use Rattle.std.proofs.Common.{Err, arith, ap, sym, subst, ◌∙◌}
use Rattle.std.proofs.lemmas.Result.{err_from_is_err_and}
use Rattle.std.specs.Prelude.{◌≤◌, ℕ, Bool, if◌then◌else◌, IfSome}
use Rattle.register_core.specs.Verdict.{answer_by, is_same_command, Repeats, Refuses}
use Rattle.register_core.specs.{declared.answer.Answer.Answer, declared.kept_reply.KeptReply.KeptReply}
use Rattle.register_core.specs.{declared.reply.Reply.Reply, declared.reply.Refusal.TheVariants.RequestReused}
use Rattle.register_tables.specs.TableReads.{HasRequest}
use Rattle.register_desk.specs.Desk.{IsClean, latest_of, keys_of, RepeatsWithin}
use Rattle.register_desk.specs.{Register.IsOver, TablesView.reply_over}
use Rattle.register_desk.proofs.Applying.{answers_again, applies_ended, unchanged_so, unless_accepted}
use Rattle.register_desk.proofs.Readings.{nothing_then, over_still, steps_then}
use Rattle.register_desk.proofs.desk.Desk.answer.Goals as goal

-- ---- what is kept could not be looked up

pub returns-in_err-before-clause-over : goal.returns-in_err-before-clause-over
returns-in_err-before-clause-over g c t =
    let ended = err_from_is_err_and c.from_residual.result c.from_residual.ensures.1 in
    applies_ended g.S.Store t _ _ _ _ _ (ended.1 ∙ ap Err ended.2) c.requires c.in_err-before.ensures.looks.reads

-- ---- a request that comes again

pub returns-in-Some-clause-over : goal.returns-in-Some-clause-over
returns-in-Some-clause-over g c t = record {
  answers = λ over request clean.
      let looks = c.in_ok-before.ensures.looks in
      answers_again g.S.Store _ t c.args.request.now c.in-Some.before _ (over_still g.S.Store _ _ looks.reads t over)
      (subst (HasRequest c.args.request.now.caller c.args.request.now.number t) c.in-Some.is
      (c.in_ok-before.ensures.kept t over.sees clean))
      (c.answer_to_repeat.ensures (reply_over t c.args.request.now));
  still = λ over. tt;
  leaves = λ over request clean. tt;
}

pub returns-in-Some-clause-unchanged : goal.returns-in-Some-clause-unchanged
returns-in-Some-clause-unchanged g c = unless_accepted _ _ c.in_ok-before.ensures.looks.reads

-- ---- a new one

pub returns-in-None-clause-over : goal.returns-in-None-clause-over
returns-in-None-clause-over g c t =
    let still = over_still g.S.Store _ _ c.in_ok-before.ensures.looks.reads t in
    let new = c.answer_new.ensures in
    let none = λ (over : IsOver g.S.Store c.args.self.now t) (clean : IsClean g.S.Store c.answer_new.new.self).
    subst (HasRequest c.args.request.now.caller c.args.request.now.number t) c.in-None.is
    (c.in_ok-before.ensures.kept t over.sees (new.clean clean)) in
    record {
      answers = λ over request clean. (new.over t (none over)).answers (still over) request clean;
      still = λ over. (new.over t (none over)).still (still over);
      leaves = λ over request clean. (new.over t (none over)).leaves (still over) request clean;
    }

pub returns-in-None-clause-steps : goal.returns-in-None-clause-steps
returns-in-None-clause-steps g c =
    let looks = c.in_ok-before.ensures.looks in
    steps_then g.S.Store _ c.look_up_kept_reply.new.self c.answer_new.new.self 2 49 looks.reads looks.steps
    c.answer_new.ensures.clean c.answer_new.ensures.steps

pub returns-in-None-clause-unchanged : goal.returns-in-None-clause-unchanged
returns-in-None-clause-unchanged g c =
    unchanged_so c.answer_new.result _ _ (nothing_then g.S.Store _ _ _ c.in_ok-before.ensures.looks.reads)
    c.answer_new.ensures.unchanged

-- ---- a reply that is given again

again_within : (latest keys : ℕ) (before : KeptReply) (new : Reply) (b : Bool) → (before.reply.moment ≤ latest)
    × (before.reply.key ≤ keys)
    → RepeatsWithin latest keys (answer_by (if b then Repeats before.reply else Refuses RequestReused) new)
again_within latest keys before new b within = grind arith

pub returns-in-Some-clause-within : goal.returns-in-Some-clause-within
returns-in-Some-clause-within g c =
    let before = c.in-Some.before in
    let old = c.args.self.now in
    let within = subst (λ found. IfSome found (λ (kept : KeptReply). (kept.reply.moment ≤ latest_of old)
    × (kept.reply.key ≤ keys_of old))) c.in-Some.is c.in_ok-before.ensures.within in
    subst (λ (given : Answer). RepeatsWithin (latest_of old) (keys_of old) given)
    (sym (c.answer_to_repeat.ensures before.reply))
    (again_within (latest_of old) (keys_of old) before before.reply
    (is_same_command before.command c.args.request.now.command) within)
