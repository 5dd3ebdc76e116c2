use Rattle.std.proofs.Common.{◌≡◌, suc, true, false, length, Some, sym, ap, subst, ◌∙◌, arith}
use Rattle.register_core.specs.KeyName.{KeyName, key_name}
use Rattle.register_requests.specs.Name.{is_among}
use Rattle.register_checks.specs.CheckedRows.{IsListed, list_at}
use Rattle.register_checks.specs.CheckedTables.{ShowsName}
use Rattle.register_checks.proofs.CustodiansChecked.{list_read, not_listed, one_name}
use Rattle.register_checks.proofs.EntriesChecked.{one_more, one_odd}
use Rattle.register_checks.proofs.custody_check.ApprovalCheckRowCheck.take_row.Goals as goal

pub returns-in_default-clause-refused : goal.returns-in_default-clause-refused
returns-in_default-clause-refused c result first rows taken =
    one_odd ShowsName (IsListed first.custodians.items) rows c.args.row.now
    (λ entry shows is. c.in_default.ensures entry shows)

pub returns-in_default-index_of_key_number-clause-refused : goal.returns-in_default-index_of_key_number-clause-refused
returns-in_default-index_of_key_number-clause-refused c result first rows taken =
    let key = c.in-Some.shown.key in
    let none : key ≡ 0 = c.in_default-index_of_key_number.ensures in
    one_odd ShowsName (IsListed first.custodians.items) rows c.args.row.now (search (arith, one_name, not_listed))

pub returns-then-at-len-clause-refused : goal.returns-then-at-len-clause-refused
returns-then-at-len-clause-refused c result first rows taken =
    let key = c.in-Some.shown.key in
    let at : key ≡ suc c.in-Some-index_of_key_number.at = c.in-Some-index_of_key_number.ensures in
    let lists = ap length taken.0 in
    one_odd ShowsName (IsListed first.custodians.items) rows c.args.row.now (λ entry shows.
    let same =
    ap (λ (e : KeyName). e.key)
    (one_name c.args.row.now entry (key_name key c.in-Some.shown.name) shows c.in-Some.ensures) in
    not_listed first.custodians.items entry
    (search arith))

pub returns-clause-taken : goal.returns-clause-taken
returns-clause-taken c result first rows taken =
    let key = c.in-Some.shown.key in
    let name = c.in-Some.shown.name in
    let passed : c.contains.result ≡ true = cc in
    let told : c.contains.result ≡ is_among name c.deref.result.now = c.contains.ensures.value in
    let seen = list_read c.args.self.now.custodians key c.in-Some-index_of_key_number.at c.len.result
    c.index.result.now c.in-Some-index_of_key_number.ensures c.if-at-len.false c.len.ensures c.index.ensures in
    let listed : IsListed c.args.self.now.custodians.items (key_name key name) = record {
      names = c.index.result.now;
      there = seen;
      among = ap (is_among name) (sym c.deref.ensures.value) ∙ sym told ∙ passed;
    } in (
      taken.0,
      one_more ShowsName (IsListed first.custodians.items) rows c.args.row.now
          (key_name key name) taken.1 c.in-Some.ensures
          (subst (λ lists. IsListed lists (key_name key name)) taken.0 listed),
    )

pub returns-clause-refused : goal.returns-clause-refused
returns-clause-refused c result first rows taken =
    let key = c.in-Some.shown.key in
    let name = c.in-Some.shown.name in
    let seen = list_read c.args.self.now.custodians key c.in-Some-index_of_key_number.at c.len.result
    c.index.result.now c.in-Some-index_of_key_number.ensures c.if-at-len.false c.len.ensures c.index.ensures in
    one_odd ShowsName (IsListed first.custodians.items) rows c.args.row.now (λ entry shows is.
    let same = one_name c.args.row.now entry (key_name key name) shows c.in-Some.ensures in
    let listed = subst (IsListed first.custodians.items) same is in
    let there : list_at first.custodians.items key ≡ Some c.index.result.now =
    ap (λ lists. list_at lists key) (sym taken.0) ∙ seen in
    let own : listed.names ≡ c.index.result.now = let e = sym listed.there ∙ there in cc in
    let among : is_among name c.deref.result.now ≡ true = cc in
    let off : c.contains.result ≡ false = cc in
    let told : c.contains.result ≡ is_among name c.deref.result.now = c.contains.ensures.value in
    absurd (let e = sym off ∙ told ∙ among in cc))
