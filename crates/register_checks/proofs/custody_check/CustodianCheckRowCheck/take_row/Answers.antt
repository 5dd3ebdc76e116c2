use Rattle.std.proofs.Common.{◌≡◌, ◌<◌, suc, length, Some, sym, ap, subst, ◌∙◌, arith}
use Rattle.std.specs.Cmp.Lexicographic.{bytes_decides}
use Rattle.register_core.specs.KeyName.{key_name, names_at}
use Rattle.register_checks.specs.OpeningChecks.{MayBeCustodian, owner_at}
use Rattle.register_checks.proofs.CustodiansChecked.{custodians_more, is_full, is_owner, kept_at, not_shown}
use Rattle.register_checks.proofs.CustodiansChecked.{not_there}
use Rattle.register_checks.proofs.CustodiansChecked.{owner_seen}
use Rattle.register_checks.proofs.custody_check.CustodianCheckRowCheck.take_row.Goals.{then-at-len-via-then-at-len}
use Rattle.register_checks.proofs.custody_check.CustodianCheckRowCheck.take_row.Goals.{then-at-len-via-else-at-len+then-at-len-2}
use Rattle.register_checks.proofs.custody_check.CustodianCheckRowCheck.take_row.Goals.{then-len-self-via-then-len-self}
use Rattle.register_checks.proofs.custody_check.CustodianCheckRowCheck.take_row.Goals.{then-len-self-via-else-len-self+then-eq}
use Rattle.register_checks.proofs.custody_check.CustodianCheckRowCheck.take_row.Goals as goal

pub returns-in_default-clause-refused : goal.returns-in_default-clause-refused
returns-in_default-clause-refused c result first rows taken =
    not_shown first.most first.owners.items c.args.self.now.custodians.items rows c.args.row.now taken.2
    c.in_default.ensures

pub returns-in_default-index_of_key_number-clause-refused : goal.returns-in_default-index_of_key_number-clause-refused
returns-in_default-index_of_key_number-clause-refused c result first rows taken =
    let none : c.in-Some.shown.key ≡ 0 = c.in_default-index_of_key_number.ensures in
    not_there first.most first.owners.items c.args.self.now.custodians.items rows c.args.row.now taken.2
    c.in-Some.shown.key c.in-Some.ensures.key (λ within. let low = within.0 in omega (arith, low, none))

pub returns-then-at-len-clause-refused : goal.returns-then-at-len-clause-refused
returns-then-at-len-clause-refused c result first rows taken =
    let key = c.in-Some.shown.key in
    let at : key ≡ suc c.in-Some-index_of_key_number.at = c.in-Some-index_of_key_number.ensures in
    let owners = ap length taken.1 in
    let lists = taken.2.counted in
    not_there first.most first.owners.items c.args.self.now.custodians.items rows c.args.row.now taken.2 key
    c.in-Some.ensures.key (search (arith, then-at-len-via-then-at-len, then-at-len-via-else-at-len+then-at-len-2))

pub returns-then-len-self-clause-refused : goal.returns-then-len-self-clause-refused
returns-then-len-self-clause-refused c result first rows taken =
    let key = c.in-Some.shown.key in
    let at : key ≡ suc c.in-Some-index_of_key_number.at = c.in-Some-index_of_key_number.ensures in
    let lists = c.args.self.now.custodians.items in
    elim c.then-len-self.branch [
      | then-len-self-via-then-len-self w ↦
          let full = w.if-len-self.true in
          let len = c.len-2.ensures in
          let names = kept_at taken.2.entries lists key c.in-Some-index_of_key_number.at
          c.index.result.now at (let a = c.if-at-len-2.false in let b = c.len-else-at-len.ensures in omega (
            arith,
            a,
            b,
          )) taken.2.kept c.index.ensures in
          is_full first.most first.owners.items lists rows c.args.row.now taken.2 key c.in-Some.ensures.key
          (omega (arith, ap length names, len, full, taken.0))
      | then-len-self-via-else-len-self+then-eq w ↦
          let seen = w.index-else-len-self.result.now in
          let owns = owner_seen c.args.self.now.owners.items key c.in-Some-index_of_key_number.at seen at
          (let a = c.if-at-len.false in let b = c.len.ensures in omega (arith, a, b))
          w.index-else-len-self.ensures in
          let same : seen ≡ c.in-Some.shown.name = (bytes_decides seen c.in-Some.shown.name).0
          (sym w.eq.ensures ∙ w.if-eq.true) in
          is_owner first.most first.owners.items lists rows c.args.row.now taken.2 key c.in-Some.ensures.key
          c.in-Some.shown.name c.in-Some.ensures.name
          (subst (λ owners. owner_at owners key ≡ Some c.in-Some.shown.name) taken.1 (owns ∙ ap (λ n. Some n) same))
    ]

pub returns-clause-taken : goal.returns-clause-taken
returns-clause-taken c result first rows taken =
    let key = c.in-Some.shown.key in
    let name = c.in-Some.shown.name in
    let entries = taken.2.entries in
    let at : key ≡ suc c.in-Some-index_of_key_number.at = c.in-Some-index_of_key_number.ensures in
    let lists = c.args.self.now.custodians.items in
    let seen = c.index-else-len-self.result.now in
    let owns = owner_seen c.args.self.now.owners.items key c.in-Some-index_of_key_number.at seen at
    (let a = c.if-at-len.false in let b = c.len.ensures in omega (arith, a, b))
    c.index-else-len-self.ensures in
    let names = kept_at entries lists key c.in-Some-index_of_key_number.at
    c.index.result.now at (let a = c.if-at-len-2.false in let b = c.len-else-at-len.ensures in omega (
      arith,
      a,
      b,
    )) taken.2.kept c.index.ensures in
    let room : length (names_at key entries) < first.most = search arith in
    let may : MayBeCustodian first.owners.items (key_name key name) = record {
      owner = seen;
      there = subst (λ owners. owner_at owners key ≡ Some seen) taken.1 owns;
      other = λ e. let same = c.eq.ensures ∙ (bytes_decides seen name).1 (sym e) in let off = c.if-eq.false in absurd
          (cc);
    } in (
      taken.0,
      taken.1,
      custodians_more first.most first.owners.items lists rows c.args.row.now taken.2 (key_name key name)
          c.in-Some.ensures may room c.in-Some-index_of_key_number.at at c.add_name_to_list_at.new.lists.items
          c.in_ok-add_name_to_list_at.ensures.counted
          c.in_ok-add_name_to_list_at.ensures.added
          c.in_ok-add_name_to_list_at.ensures.others,
    )
