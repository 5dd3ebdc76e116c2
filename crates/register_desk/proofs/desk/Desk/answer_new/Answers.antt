use Rattle.std.proofs.Common.{◌≤◌, ℕ, Err, ap, sym, subst, ◌∙◌, arith, rules}
use Rattle.std.proofs.lemmas.Result.{err_from_is_err_and}
use Rattle.register_core.specs.Verdict.{max_keys}
use Rattle.register_desk.specs.Desk.{IsClean}
use Rattle.register_desk.proofs.Applying.{answers_refusal, answers_request, applies_broken, applies_ended}
use Rattle.register_desk.proofs.Applying.{leaves_request, over_broken, room_left}
use Rattle.register_desk.proofs.Readings.{over_still}
use Rattle.register_desk.proofs.desk.Desk.answer_new.Goals as goal

pub commit_accepted-requires-clause-room : goal.commit_accepted-requires-clause-room
commit_accepted-requires-clause-room g c =
    let mid = c.look_up_needed_view.new.self in
    let view = c.in_ok-view.view in
    let room = room_left view c.args.request.now c.in-Ok.accept.change
    (subst (λ (n : ℕ). n ≤ max_keys) (sym c.in_ok-view.ensures.keys) (search rules))
    c.in-Ok.ensures.accepted c.in-Ok.ensures.change in
    omega (arith, room, c.in_ok-view.ensures.keys)

-- ---- what the decision needs could not be looked up

pub returns-in_err-view-clause-over : goal.returns-in_err-view-clause-over
returns-in_err-view-clause-over g c t new =
    let ended = err_from_is_err_and c.from_residual.result c.from_residual.ensures.1 in
    applies_ended g.S.Store t _ _ _ _ _ (ended.1 ∙ ap Err ended.2) c.requires.whole c.in_err-view.ensures.looks.reads

-- ---- it is refused

pub returns-in-Err-clause-over : goal.returns-in-Err-clause-over
returns-in-Err-clause-over g c t new = record {
  answers = λ over request clean.
      let looks = c.in_ok-view.ensures.looks in
      answers_refusal g.S.Store _ t c.args.request.now c.in_ok-view.view c.in-Err.refusal
      (over_still g.S.Store _ _ looks.reads t over) (new clean)
      (c.in_ok-view.ensures.found t over.sees over.latest_is (sym over.counted) clean) c.in-Err.ensures.refused;
  still = λ over. tt;
  leaves = λ over request clean. tt;
}

-- ---- it is to be accepted

pub returns-in_err-commit_accepted-in-Ok-clause-over : goal.returns-in_err-commit_accepted-in-Ok-clause-over
returns-in_err-commit_accepted-in-Ok-clause-over g c t new =
    let mid = c.look_up_needed_view.new.self in
    let looks = c.in_ok-view.ensures.looks in
    let failed = c.in_err-commit_accepted-in-Ok.ensures in
    let result = c.from_residual-in_err-commit_accepted-in-Ok.result in
    let ended = err_from_is_err_and result c.from_residual-in_err-commit_accepted-in-Ok.ensures.1 in
    let still = over_still g.S.Store c.args.self.now mid looks.reads t in
    applies_broken g.S.Store t c.args.request.now c.args.self.now c.commit_accepted.new.self result _
    (ended.1 ∙ ap Err ended.2) failed.end
    (λ over. over_broken g.S.Store t c.args.request.now mid c.commit_accepted.new.self failed.err (still over))
    (λ over request clean.
    let early : IsClean g.S.Store mid = omega (arith, failed.written.stop.clean, clean) in
    leaves_request g.S.Store mid c.commit_accepted.new.self t c.args.request.now c.in_ok-view.view
    c.in-Ok.accept.change c.in-Ok.accept.reply (looks.mark ∙ c.requires.whole) (still over) request
    (search rules) c.in-Ok.ensures.change c.in-Ok.ensures.reply c.in-Ok.ensures.accepted
    (c.in_ok-view.ensures.found t over.sees over.latest_is (sym over.counted) early) (new clean) _ failed.written
    looks.opened clean)

pub returns-clause-over : goal.returns-clause-over
returns-clause-over g c t new =
    let mid = c.look_up_needed_view.new.self in
    let looks = c.in_ok-view.ensures.looks in
    let commits = c.in_ok-commit_accepted-in-Ok.ensures in
    record {
      answers = λ over request clean.
          let early : IsClean g.S.Store mid = omega (arith, commits.written.stop.clean, clean) in
          answers_request g.S.Store mid c.commit_accepted.new.self t c.args.request.now c.in_ok-view.view
          c.in-Ok.accept.change c.in-Ok.accept.reply (looks.mark ∙ c.requires.whole)
          (over_still g.S.Store _ _ looks.reads t over) request
          (search rules) c.in-Ok.ensures.change c.in-Ok.ensures.reply c.in-Ok.ensures.accepted
          (c.in_ok-view.ensures.found t over.sees over.latest_is (sym over.counted) early) (new clean)
          c.in_ok-commit_accepted-in-Ok.field-0 commits.written g.met.S.Store.settled commits.latest commits.keys;
      still = λ over. tt;
      leaves = λ over request clean. tt;
    }
