use Rattle.std.proofs.Common.{◌≡◌, Some, sym, ap, ◌∙◌}
use Rattle.register_checks.proofs.NameLists.{set_here, set_other, get_some}
use Rattle.register_checks.proofs.custody_check.add_name_to_list_at.Goals as goal

pub returns-clause-added : goal.returns-clause-added
returns-clause-added c names is =
    let lists = c.args.lists.now.items in
    let at = c.args.at in
    let before = c.index_mut.result.now in
    let now = set_here lists at c.push.new.self c.requires in
    let same : names ≡ c.push.new.self = cc in
    let was = get_some lists at c.requires in
    let it : was.0 ≡ before = sym (was.2 before) ∙ sym c.index_mut.ensures.value in
    (before, was.1 ∙ ap (λ v. Some v) it, ap (λ v. v.items) same ∙ c.in_ok-push.ensures.items)

pub returns-clause-others : goal.returns-clause-others
returns-clause-others c k apart = set_other c.args.lists.now.items c.args.at k c.push.new.self apart
