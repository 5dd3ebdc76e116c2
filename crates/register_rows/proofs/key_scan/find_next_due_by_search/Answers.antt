use Rattle.std.proofs.Common.{◌≡◌, ℕ, List, Option, Result, MatchOption, rules, arith}
use Rattle.sqlite.specs.Order.{Row}
use Rattle.sqlite_trees.specs.declared.store.Store.{Ghosts}
use Rattle.register_core.specs.declared.key.Key.{Key}
use Rattle.register_tables.specs.TableReads.{KeepsSight, ReadsBy, seen}
use Rattle.register_tables.specs.Within.TableReads.{ShowsAt}
use Rattle.register_tables.specs.FoundRows.{FindsOne}
use Rattle.register_rows.specs.Within.DueSearch.{HasFirst, IsNumbered, is_found, search_text}
use Rattle.register_tables.specs.{declared.counted.Counted.Counted, declared.error.StoreError.StoreError}
use Rattle.register_rows.specs.{declared.key_scan.DueCursor.DueCursor, declared.key_scan.DueSearch.DueSearch}
use Rattle.register_rows.proofs.DueFound.{due_read, passes_of, query_of, search_is}
use Rattle.register_tables.proofs.RowFound.{reads_one, keeps_sight}
use Rattle.register_rows.proofs.NextDue.{params_of, check_is}
use Rattle.register_rows.proofs.key_scan.find_next_due_by_search.Goals as goal

-- what a search does that was asked with these parameters
module _ {S : Type 0} (g : Ghosts S) (by : DueSearch) (until : ℕ) (last : DueCursor) {sql : List ℕ} {params : Row}
    {Gives : Row → Option (ℕ × Key) → Type 0} {old new : Counted S g} {result : Result (Option (ℕ × Key)) StoreError}
    (sql_is : sql ≡ search_text by) (params_are : params ≡ params_of until last by)
    (asked : FindsOne g sql params Gives old new result) where
  one : FindsOne g (search_text by) (params_of until last by) Gives old new result
  one = rw (sql_is, params_are) at asked

  found : ((row : Row) (given : Option (ℕ × Key)) → Gives row given
      → MatchOption given ((x : ℕ × Key) → IsNumbered x → ¬ ShowsAt row x) (ShowsAt row))
      → ReadsBy (HasFirst (is_found by until last)) (seen g old) (seen g new) result
  found reads =
      reads_one g
      (due_read (search_text by) (query_of by) (passes_of by) (search_is by) (params_of until last by)
      (is_found by until last) (check_is until last by)) reads old new result one

  seen_still : KeepsSight (seen g old) (seen g new)
  seen_still =
      keeps_sight (search_text by) (params_of until last by) (query_of by) (seen g old) (seen g new) one.answer one.row

pub returns-in-LaterStop-clause-reads : goal.returns-in-LaterStop-clause-reads
returns-in-LaterStop-clause-reads g c =
    found g.S.Store c.args.by c.args.until c.args.last.now c.sql.ensures (search arith) c.find_one_row.ensures.finds
    (search rules)

pub returns-in-LaterStop-clause-sight : goal.returns-in-LaterStop-clause-sight
returns-in-LaterStop-clause-sight g c =
    seen_still g.S.Store c.args.by c.args.until c.args.last.now c.sql.ensures (search arith)
    c.find_one_row.ensures.finds

pub returns-in-SameStop : goal.returns-in-SameStop
returns-in-SameStop g c =
    let is = c.in-SameStop.is in
    let by = c.args.by in
    let asked = c.find_one_row-in-SameStop.ensures.finds in record {
      counted = c.find_one_row-in-SameStop.ensures.calls;
      sight = seen_still g.S.Store by c.args.until c.args.last.now c.sql-in-SameStop.ensures (search arith) asked;
      reads = found g.S.Store by c.args.until c.args.last.now c.sql-in-SameStop.ensures (search arith) asked
          (search rules);
      moment = c.params-to_sql-in-SameStop-2.ensures.in_range;
    }
