use Rattle.std.proofs.Common.{pos, [], ◌∷◌, rules, arith, refl}
use Rattle.sqlite.specs.declared.types.Value.TheVariants.{Int}
use Rattle.register_rows.proofs.NameChanges.{approvals_text, removes_approvals}
use Rattle.register_tables.proofs.Wrote.{ran}
use Rattle.register_rows.proofs.stored_key.end_approvals.Goals as goal

pub returns : goal.returns
returns g c =
    ran approvals_text (Int (pos c.args.key) ∷ []) c.in_ok-execute.field-0 (search rules) (search rules)
    (removes_approvals c.args.key _ _) refl (search arith) c.in_ok-execute.ensures.runs
    c.in_ok-execute.ensures.survives
