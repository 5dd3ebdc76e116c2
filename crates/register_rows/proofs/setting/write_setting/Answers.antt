use Rattle.std.proofs.Common.{Result, Ok, rules}
use Rattle.sqlite.specs.State.{State}
use Rattle.sql_steps.specs.Steps.{StepsBy}
use Rattle.register_rows.specs.declared.setting.Setting.TheVariants.{Need, Period}
use Rattle.register_rows.specs.Within.TableChanges.{Always, HasNoneSet, more_set, with_setting, without_set}
use Rattle.register_rows.specs.declared.setting.Setting.{Setting}
use Rattle.register_tables.specs.TableChanges.{Makes}
use Rattle.register_rows.proofs.SettingTexts.{needs_are, periods_are}
use Rattle.register_rows.proofs.KeyedChange.{put_anew}
use Rattle.register_tables.proofs.Wrote.{wrote}
use Rattle.register_rows.proofs.setting.write_setting.Goals as goal

set_anew : {X Y E F : Type 0} (setting : Setting) (old mid new : State) (x : X) (r : Result Y F)
    → StepsBy {E = E} (λ _. Makes Always (without_set setting)) old mid (Ok x)
    → StepsBy (λ _. Makes (HasNoneSet setting) (more_set setting)) mid new r
    → StepsBy (λ _. Makes Always (with_setting setting)) old new r
set_anew (Period kind period) = put_anew periods_are (record { kind = kind; period = period })
set_anew (Need key need) = put_anew needs_are (record { key = key; need = need })

pub returns : goal.returns
returns g c =
    wrote (search rules) (search rules)
    (set_anew c.args.setting _ _ _ _ _ c.in_ok-clear_setting.ensures.made c.add_setting.ensures.made)
