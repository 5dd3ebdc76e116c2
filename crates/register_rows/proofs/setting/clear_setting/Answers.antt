use Rattle.std.proofs.Common.{rules, arith, refl}
use Rattle.period_core.specs.KeyType.{key_type_code}
use Rattle.register_rows.specs.Within.TableChanges.{Always, without_set}
use Rattle.register_rows.specs.declared.setting.Setting.{Setting}
use Rattle.register_tables.specs.TableChanges.{Makes}
use Rattle.register_rows.proofs.SettingTables.{clear_text, number_params}
use Rattle.register_rows.proofs.SettingTexts.{needs, needs_are, periods, periods_are}
use Rattle.register_tables.proofs.Wrote.{ran, wrote_so}
use Rattle.register_rows.proofs.KeyedChange.{takes_out}
use Rattle.register_rows.proofs.setting.clear_setting.Goals as goal

pub returns-in_ok-execute-in-Period : goal.returns-in_ok-execute-in-Period
returns-in_ok-execute-in-Period g c =
    let number = key_type_code c.in-Period.kind in
    wrote_so (λ (set : Setting). Makes Always (without_set set)) c.in-Period.is
    (ran (clear_text periods) (number_params number) c.in_ok-execute-in-Period.field-0 (search rules)
    (search rules) (takes_out periods_are number _ _)
    refl (search arith)
    c.in_ok-execute-in-Period.ensures.runs c.in_ok-execute-in-Period.ensures.survives)

pub returns-in_ok-execute-in-Need : goal.returns-in_ok-execute-in-Need
returns-in_ok-execute-in-Need g c =
    wrote_so (λ (set : Setting). Makes Always (without_set set)) c.in-Need.is
    (ran (clear_text needs) (number_params c.in-Need.key) c.in_ok-execute-in-Need.field-0 (search rules)
    (search rules)
    (takes_out needs_are c.in-Need.key _ _) refl (search arith)
    c.in_ok-execute-in-Need.ensures.runs c.in_ok-execute-in-Need.ensures.survives)
