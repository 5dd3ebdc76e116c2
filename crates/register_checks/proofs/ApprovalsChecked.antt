-- The check of the table of approvals.
use Rattle.std.proofs.Common.{ℕ, List, [], ◌∷◌, arith}
use Rattle.std.specs.{List.AllByRecursion, Global.Vec}
use Rattle.sqlite.specs.{Effect.Database as Db, Order.Row}
use Rattle.row_checks.proofs.Each.{show_same}
use Rattle.register_tables.specs.declared.table.TableName.TheVariants.{Approval}
use Rattle.register_checks.specs.CheckedTables.{ShowsName}
use Rattle.register_checks.specs.Stored.{HoldsStored, Stored}
use Rattle.register_tables.specs.Tables.{IsNamed, name_cells}
use Rattle.register_checks.specs.{CheckedRows.IsListed, Within.CheckedRows.KnowsCustodians, OpeningChecks.IsCustodian}
use Rattle.register_checks.proofs.Asked.{AnswersTo, ShowsOwn, in_both, shown_of_table}
use Rattle.register_checks.proofs.CustodiansChecked.{names_past, one_name, own_row}
use Rattle.register_checks.proofs.EntriesChecked.{all_permuted, own_entries, AreChecked}
use Rattle.register_tables.proofs.Actions.{shows_all}

own_approvals : (t : Stored) (db : Db) (rows : List Row) (holds : HoldsStored t db)
    → AnswersTo holds.schema.layout Approval db rows → ShowsOwn Approval t rows
own_approvals t db rows holds sure =
    let it = own_entries name_cells ShowsName IsNamed (holds.schema.layout.tree Approval) (shown_of_table Approval)
    names_past own_row db t.tables.approvals rows (holds.in_range Approval) (holds.shown Approval)
    (shows_all db.trees (holds.schema.layout.tree Approval)) sure in
    let meets = all_permuted (IsCustodian t.tables.custodians) t.tables.approvals it.0 it.1 in
    record { c = it.0; shows = it.2; like = it.1; meets = meets }

all_as : {A : Type 0} (P Q : A → Type 0) → ((x : A) → P x → Q x) → (xs : List A) → AllByRecursion P xs
    → AllByRecursion Q xs
all_as P Q turn [] all = tt
all_as P Q turn (x ∷ xs) all = (turn x all.0, all_as P Q turn xs all.1)

-- the check asks of each that its name is in the key's list
pub are_checked : (t : Stored) (lists : Vec (Vec (List ℕ))) → KnowsCustodians t.tables.custodians lists
    → AreChecked Approval ShowsName (IsListed lists.items) t
are_checked t lists knows = record {
  within = in_both Approval (omega arith) t.version;
  own = own_approvals t;
  one = show_same ShowsName one_name;
  taken = search (arith, all_as);
  given = λ rows met. record {
    values = met.0;
    shown = met.1;
    each = all_as (IsCustodian t.tables.custodians) (IsListed lists.items) (λ entry. (knows entry).1) met.0 met.2;
  };
  no_newer = λ rows none. none;
}
