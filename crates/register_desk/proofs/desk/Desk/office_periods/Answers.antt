use Rattle.std.proofs.Common.{◌≡◌, ◌+◌, ◌*◌, ◌≤◌, ℕ, arith, sym, subst, ◌∙◌, rules}
use Rattle.register_tables.specs.StepCount.{Rises}
use Rattle.register_desk.proofs.Readings.{nothing_then}
use Rattle.register_desk.proofs.TablesInRange.{AreSet, all_set, one_more_set}
use Rattle.register_core.proofs.Histories.{periods_are}
use Rattle.register_desk.specs.{Desk.IsWhole, Register.tables}
use Rattle.register_desk.proofs.desk.Desk.office_periods.Goals as goal

steps_then : {start mid end : ℕ} (first next most : ℕ) → Rises first start mid → Rises next mid end
    → first + next ≤ most → Rises most start end
steps_then first next most before after few = record {
  risen = omega (arith, before.risen, after.risen);
  within = omega (arith, before.within, after.within, few);
}

pub kinds-preserved : goal.kinds-preserved
kinds-preserved g c =
    let before = c.kinds.invariant in
    record {
      mark = c.in_ok-look_up_office_period.ensures.mark ∙ before.mark;
      steps = steps_then (2 * c.kinds.kind-index) 2 _ before.steps c.in_ok-look_up_office_period.ensures.steps
          (omega arith);
      reads = nothing_then g.S.Store _ _ _ before.reads c.in_ok-look_up_office_period.ensures.reads;
      found = λ t sees whole clean.
          subst (AreSet t (c.kinds.kind-index + 1)) (sym c.set.ensures)
          (one_more_set t c.kinds.kind-index c.kinds.periods _ _ (search rules)
          (c.in_ok-look_up_office_period.ensures.found t (before.reads.rows t sees) (before.mark ∙ whole) clean)
          (before.found t sees whole (c.in_ok-look_up_office_period.ensures.reads.clean clean)));
    }

pub returns-in_err-look_up_office_period-clause-steps : goal.returns-in_err-look_up_office_period-clause-steps
returns-in_err-look_up_office_period-clause-steps g c =
    steps_then (2 * c.kinds.kind-index) 2 14 c.kinds.invariant.steps c.look_up_office_period.ensures.steps
    (search rules)

pub returns-clause-steps : goal.returns-clause-steps
returns-clause-steps g c = search rules

pub returns-clause-found : goal.returns-clause-found
returns-clause-found g c h stands clean kind =
    let whole : IsWhole c.args.self.now = search rules in
    let seven : c.kinds.kind-index ≡ 7 = search rules in
    let those = c.kinds.invariant.found (tables h) stands.over.sees whole clean in
    all_set (tables h) c.kinds.periods (subst (λ n. AreSet (tables h) n c.kinds.periods) seven those) kind
    ∙ periods_are h kind
