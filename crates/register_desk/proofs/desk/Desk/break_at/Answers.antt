use Rattle.std.proofs.Common.{◌≡◌, ◌≤◌, true, ap, sym, ◌∙◌}
use Rattle.std.proofs.Math.Bridge.{le_prop}
use Rattle.sqlite_trees.specs.declared.store.Store.{Ghosts}
use Rattle.register_core.specs.Verdict.{max_keys}
use Rattle.register_desk.specs.declared.end.End.TheVariants.{Store}
use Rattle.register_desk.specs.{declared.desk.Desk.Desk, declared.end.End.End, Within.left_at}
use Rattle.register_desk.proofs.desk.Desk.break_at.Goals as goal

-- there is one proof that the keys are within their limit
broken_alike : {S : Type 0} {g : Ghosts S} (desk : Desk S g) (within : desk.keys ≤ max_keys)
    → record desk { is_broken = true; within = within } ≡ left_at Store desk
broken_alike desk within i = record desk { is_broken = true; within = le_prop within desk.within i }

pub returns-in-Store : goal.returns-in-Store
returns-in-Store g c =
    broken_alike c.args.self.now _ ∙ sym (ap (λ (end : End). left_at end c.args.self.now) c.in-Store.is)
