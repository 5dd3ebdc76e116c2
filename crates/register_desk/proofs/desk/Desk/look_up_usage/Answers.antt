use Rattle.std.proofs.Common.{ℕ, Some, sym, ap, ◌∙◌}
use Rattle.std.specs.Option.{option_map}
use Rattle.lifecycle_core.specs.Usage.{usage_at}
use Rattle.register_core.specs.{declared.key.Key.Key, History.latest}
use Rattle.register_desk.specs.Register.{tables}
use Rattle.register_desk.proofs.Readings.{looks_given, stands_still}
use Rattle.register_desk.proofs.Grows.{usage_is}
use Rattle.register_desk.proofs.desk.Desk.look_up_usage.Goals as goal

pub returns-in-Some-clause-used : goal.returns-in-Some-clause-used
returns-in-Some-clause-used g c h stands clean =
    let key = c.in-Some.key in
    let row = c.in_ok-key.ensures.found (tables h) stands.over.sees clean in
    let after = stands_still g.S.Store _ _ c.in_ok-key.ensures.looks.reads h stands in
    ap Some (c.usage.ensures ∙ ap (λ (t : ℕ). usage_at key.row.dates t) after.over.latest_is)
    ∙ ap (option_map (λ (k : Key). usage_at k.row.dates (latest h))) (sym c.in-Some.is ∙ row) ∙ usage_is h c.args.number

pub returns-in-None-clause-used : goal.returns-in-None-clause-used
returns-in-None-clause-used g c h stands clean =
    let row = c.in_ok-key.ensures.found (tables h) stands.over.sees clean in
    ap (option_map (λ (k : Key). usage_at k.row.dates (latest h))) (sym c.in-None.is ∙ row) ∙ usage_is h c.args.number

pub returns-in-Some-clause-looks : goal.returns-in-Some-clause-looks
returns-in-Some-clause-looks g c = looks_given g.S.Store 2 _ _ _ _ c.in_ok-key.ensures.looks

pub returns-in-None-clause-looks : goal.returns-in-None-clause-looks
returns-in-None-clause-looks g c = looks_given g.S.Store 2 _ _ _ _ c.in_ok-key.ensures.looks
