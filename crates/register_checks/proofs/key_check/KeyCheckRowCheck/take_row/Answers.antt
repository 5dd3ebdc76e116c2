use Rattle.std.proofs.Common.{ap, arith}
use Rattle.register_checks.specs.declared.found.Found.{Found}
use Rattle.register_checks.proofs.KeysChecked.{keys_full, keys_more, keys_odd}
use Rattle.register_checks.proofs.key_check.KeyCheckRowCheck.take_row.Goals as goal

pub returns-then-self-clause-refused : goal.returns-then-self-clause-refused
returns-then-self-clause-refused c result first rows taken =
    let self = c.args.self.now in
    let same = ap (λ (f : Found). f.keys) taken.0 in
    keys_full first.found self.count self.owners.items rows c.args.row.now taken.1
    (let full = c.if-self.true in omega (arith, full, same))

pub returns-in_default-clause-refused : goal.returns-in_default-clause-refused
returns-in_default-clause-refused c result first rows taken =
    let self = c.args.self.now in
    keys_odd first.found self.count self.owners.items rows c.args.row.now taken.1
    (search arith)

pub returns-clause-taken : goal.returns-clause-taken
returns-clause-taken c result first rows taken = search (arith, keys_more)
