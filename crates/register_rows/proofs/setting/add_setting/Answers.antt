use Rattle.std.proofs.Common.{rules, arith, refl}
use Rattle.register_core.specs.Settings.{KeyNeed, TypePeriod}
use Rattle.register_rows.specs.Within.TableChanges.{HasNoneSet, more_set}
use Rattle.register_rows.specs.declared.setting.Setting.{Setting}
use Rattle.register_tables.specs.TableChanges.{Makes}
use Rattle.register_rows.proofs.SettingTables.{params, put_text}
use Rattle.register_rows.proofs.SettingTexts.{needs, needs_are, periods, periods_are}
use Rattle.register_tables.proofs.Wrote.{ran, wrote_so}
use Rattle.register_rows.proofs.KeyedChange.{puts_in}
use Rattle.register_rows.proofs.setting.add_setting.Goals as goal

pub returns-in_ok-execute-in-Period : goal.returns-in_ok-execute-in-Period
returns-in_ok-execute-in-Period g c =
    let entry : TypePeriod = record { kind = c.in-Period.kind; period = c.in-Period.period } in
    wrote_so (λ (set : Setting). Makes (HasNoneSet set) (more_set set)) c.in-Period.is
    (ran (put_text periods) (params periods entry) c.in_ok-execute-in-Period.field-0 (search rules)
    (search rules) (puts_in periods_are entry (search rules) _ _) refl (search arith)
    c.in_ok-execute-in-Period.ensures.runs c.in_ok-execute-in-Period.ensures.survives)

pub returns-in_ok-execute-in-Need : goal.returns-in_ok-execute-in-Need
returns-in_ok-execute-in-Need g c =
    let entry : KeyNeed = record { key = c.in-Need.key; need = c.in-Need.need } in
    wrote_so (λ (set : Setting). Makes (HasNoneSet set) (more_set set)) c.in-Need.is
    (ran (put_text needs) (params needs entry) c.in_ok-execute-in-Need.field-0 (search rules) (search rules)
    (puts_in needs_are entry (search rules) _ _) refl (search arith)
    c.in_ok-execute-in-Need.ensures.runs c.in_ok-execute-in-Need.ensures.survives)
