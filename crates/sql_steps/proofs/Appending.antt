-- An INSERT below which all rows stand puts its row at the end, and so does one whose rowid is chosen.
use Rattle.std.proofs.Common.{◌≡◌, ℤ, pos, ◌+ℤ◌, List, [], ◌∷◌, ◌++◌, map, drop, IsTrue, refl, sym, ap, subst, ◌∙◌}
use Rattle.std.proofs.Common.{arith}
use Rattle.std.proofs.lemmas.List.{map-append}
use Rattle.std.specs.{List.AllByRecursion, declared.cmp.Ordering.TheVariants.Less}
use Rattle.sqlite.specs.Tree.{IsTable, rowid, put_row}
use Rattle.sqlite.specs.{declared.types.Value.TheVariants.Int, Edit.id_in, Edit.next_rowid, Order.Row, Order.value_cmp}
use Rattle.sqlite_rules.proofs.{ListLemmas.all_has, ListLemmas.all_from, TableLemmas.int_is, TableLemmas.put_has}
use Rattle.sqlite_trees.proofs.{ListLemmas.all_weaker, TreeLemmas.IsTable-put_row}
use Rattle.sqlite_trees.specs.View.{is_int}
use Rattle.sqlite_value.proofs.OrderLemmas.{value_cmp_total, value_cmp-Int}

abbrev pub Below : Row → Row → Type 0
Below a b = value_cmp (rowid a) (rowid b) ≡ Less

pub put_last : (rows : List Row) (r : Row) → AllByRecursion (λ x. Below x r) rows → put_row r rows ≡ rows ++ r ∷ []
put_last [] r low = refl
put_last (x ∷ xs) r low = search (arith, put_last xs r low.1)

-- ---- a rowid that is chosen

abbrev pub AreCounted : List Row → Type 0
AreCounted rows = AllByRecursion (λ row. IsTrue (is_int (rowid row))) rows

-- one above the last rowid, or this where there is none
abbrev top : ℤ → List Row → ℤ
top start [] = start
top start (r ∷ rs) = top (id_in (rowid r) +ℤ pos 1) rs

below_top : (x : Row) (xs : List Row) (cells : Row) → IsTable (x ∷ xs)
    → AllByRecursion (λ row. rowid row ≡ Int (id_in (rowid row))) (x ∷ xs)
    → AllByRecursion (λ y. Below y (Int (top (id_in (rowid x) +ℤ pos 1) xs) ∷ cells)) (x ∷ xs)
below_top x [] cells t i = search (arith, value_cmp-Int)
below_top x (y ∷ ys) cells t i =
    let rest = below_top y ys cells t.1 i.1 in (value_cmp_total.trans _ _ _ t.0.0 rest.0, rest)

next_is : (rows : List Row) → next_rowid rows ≡ top (pos 1) rows
next_is rows = search arith

module _ (cells : Row) where
  abbrev pub chosen : List Row → Row
  chosen rows = Int (next_rowid rows) ∷ cells

  -- the row goes to the end
  pub chosen_last : (rows : List Row) → IsTable rows → AreCounted rows
      → map (drop 1) (put_row (chosen rows) rows) ≡ map (drop 1) rows ++ cells ∷ []
  chosen_last [] t i = refl
  chosen_last (x ∷ xs) t i =
      let ids = all_weaker (λ row. IsTrue (is_int (rowid row))) (λ row. rowid row ≡ Int (id_in (rowid row)))
      (λ row is. int_is (rowid row) is) (x ∷ xs) i in
      let low = subst (λ n. AllByRecursion (λ y. Below y (Int n ∷ cells)) (x ∷ xs)) (sym (next_is (x ∷ xs)))
      (below_top x xs cells t ids) in
      ap (map (drop 1)) (put_last (x ∷ xs) (chosen (x ∷ xs)) low) ∙ map-append (drop 1) (x ∷ xs) (chosen (x ∷ xs) ∷ [])

  pub chosen_ordered : (rows : List Row) → IsTable rows → IsTable (put_row (chosen rows) rows)
  chosen_ordered rows t = IsTable-put_row (chosen rows) rows t

  pub chosen_counted : (rows : List Row) → AreCounted rows → AreCounted (put_row (chosen rows) rows)
  chosen_counted rows i = search (arith, all_from, put_has, all_has)
