-- What a DELETE of some rows takes out and leaves.
use Rattle.std.proofs.Common.{◌≡◌, ℕ, ℤ, List, [], ◌∷◌, map, filter, not, Bool, true, IsTrue, sym, ap, subst, ◌∙◌}
use Rattle.std.proofs.Common.{arith}
use Rattle.std.proofs.lemmas.Cmp.{tied_itself}
use Rattle.std.proofs.lemmas.List.Sorted.{IsPermutation-sym}
use Rattle.std.specs.{Ordering.is_eq, List.Sorted.IsPermutation}
use Rattle.sqlite.specs.{declared.types.Value.TheVariants.Int, Edit.id_in, Edit.row_at, Edit.without_all, Order.Row}
use Rattle.sqlite.specs.{Order.value_cmp, Term.Term, Term.col, Term.eval_all, Tree.IsTable, Tree.rowid, Tree.has_rowid}
use Rattle.sqlite_trees.specs.View.{is_int}
use Rattle.sqlite_rules.proofs.{ListLemmas.all_has, PlaceLemmas.row_at_is, TableLemmas.int_is}
use Rattle.sqlite_rules.specs.{Calls.ids_of, Lists.Has}
use Rattle.sqlite_value.proofs.OrderLemmas.{value_cmp_total}
use Rattle.sql_steps.proofs.SameRows.{deletes_each, has_map, map_has}
use Rattle.sql_steps.proofs.Statements.{env_of, picked, is_picked}
use Rattle.sql_steps.proofs.{Appending.AreCounted, Members.from_picked, Members.to_picked, Updates.has_permutation}

-- a DELETE asks for the rowids of the rows that pass
abbrev pub ids_shown : List Term
ids_shown = col 1 0 ∷ []

pub has_own : (x : Row) (id : ℤ) → rowid x ≡ Int id → has_rowid id x ≡ true
has_own x id e = ap (λ v. is_eq (value_cmp v (Int id))) e ∙ ap is_eq (tied_itself value_cmp_total (Int id))

module _ (params : Row) (tree : ℕ) (passes : List Term) (rows : List Row) (ordered : IsTable rows)
    (counted : AreCounted rows)
    (answer : List Row) (answered : IsPermutation (picked params tree passes ids_shown rows) answer) where
  abbrev p : Row → Bool
  p = is_picked params tree passes ids_shown

  id_of : (x : Row) → Has rows x → rowid x ≡ Int (id_in (rowid x))
  id_of x h = int_is (rowid x) (all_has (λ row. IsTrue (is_int (rowid row))) rows x counted h)

  ids_from : (id : ℤ) → Has (ids_of answer) id → (x : Row) × Has rows x × (p x ≡ true) × (rowid x ≡ Int id)
  ids_from id h =
      let s = map_has (λ r. id_in (rowid r)) answer id h in
      let x = from_picked (λ r. eval_all ids_shown (env_of params tree passes ids_shown r)) p rows s.0
      (has_permutation answer _ s.0 (IsPermutation-sym _ _ answered) s.1) in
      (x.0, x.1, x.2, id_of x.0 x.1 ∙ ap (λ r. Int (id_in (rowid r))) (sym x.3) ∙ ap Int (sym s.2))

  ids_all : (x : Row) → Has rows x → p x ≡ true → (id : ℤ) × Has (ids_of answer) id × (rowid x ≡ Int id)
  ids_all x h is =
      let shown = has_permutation _ answer _ answered
      (to_picked (λ r. eval_all ids_shown (env_of params tree passes ids_shown r)) p rows x h is) in
      (id_in (rowid x), has_map (λ r. id_in (rowid r)) answer _ shown, id_of x h)

  -- the rows that don't pass are left
  pub left : without_all rows (ids_of answer) ≡ filter (λ r. not (p r)) rows
  left = deletes_each rows (ids_of answer) p ordered ids_from ids_all

  -- those that pass are taken, and no other
  pub taken_all : (x : Row) → Has rows x → p x ≡ true → Has (map (row_at rows) (ids_of answer)) x
  taken_all x h is =
      let id = ids_all x h is in
      let same = row_at_is rows id.0 x ordered h (has_own x id.0 id.2) in
      subst (Has (map (row_at rows) (ids_of answer))) same (has_map (row_at rows) (ids_of answer) id.0 id.1)

  pub taken_from : (y : Row) → Has (map (row_at rows) (ids_of answer)) y → Has rows y × (p y ≡ true)
  taken_from y h = search (arith, map_has, ids_from, row_at_is, has_own)
