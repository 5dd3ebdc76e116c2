use Rattle.std.proofs.Common.{◌≡◌, Option, Result, Ok, IfOk, ap, subst, ◌∙◌}
use Rattle.period_core.specs.Period.{Period, period_or_default}
use Rattle.register_core.proofs.Histories.{periods_are}
use Rattle.register_tables.specs.declared.error.StoreError.{StoreError}
use Rattle.register_desk.specs.Register.{tables}
use Rattle.register_desk.proofs.desk.Desk.look_up_period.Goals as goal

-- what was told is what was found
told_so : (other set : Option Period) (told : Result (Option Period) StoreError) → told ≡ Ok set
    → IfOk told (λ found. found ≡ other) → set ≡ other
told_so other set told is found =
    subst (λ (result : Result (Option Period) StoreError). IfOk result (λ found. found ≡ other)) is found

pub returns-clause-found : goal.returns-clause-found
returns-clause-found g c h stands clean =
    let set = told_so _ c.in_ok-set.set c.look_up_office_period.result c.in_ok-set.was
    (c.look_up_office_period.ensures.found (tables h) stands.over.sees c.requires clean) in
    c.period_or_default.ensures
    ∙ ap (λ (told : Option Period). period_or_default told c.args.kind) (set ∙ periods_are h c.args.kind)
