-- What a table of entries shows after a row is added or some are taken out, and what a query picks of its rows.
use Rattle.std.proofs.Common.{◌≡◌, ℕ, List, [], ◌∷◌, ◌++◌, map, filter, drop, Bool, sym, subst, arith}
use Rattle.std.proofs.lemmas.List.{map-append}
use Rattle.std.proofs.lemmas.List.Sorted.{IsPermutation-append, IsPermutation-map, IsPermutation-refl}
use Rattle.std.specs.List.Sorted.{IsPermutation}
use Rattle.sqlite.specs.declared.types.Value.TheVariants.{Null}
use Rattle.sqlite.specs.{Order.Row as Cells, Term.Term, Term.eval_all, Tree.put_row}
use Rattle.sqlite_rules.specs.Lists.{Has}
use Rattle.sqlite_trees.proofs.ListLemmas.{all-filter, all_of, ascending-filter, filter-map, filter_same, map-map}
use Rattle.sql_steps.proofs.Appending.{chosen, chosen_last, chosen_ordered, chosen_counted}
use Rattle.sql_steps.proofs.Statements.{picked, is_picked}
use Rattle.sql_steps.proofs.{Members.filter_permutation, SameRows.has_map, SameRows.map_has, Updates.has_permutation}
use Rattle.register_tables.specs.Tables.{ShowsEntries, ShowsKeyed}

module _ {A : Type 0} (cells_of : A → Cells) where
  pub shows_none : ShowsEntries cells_of [] []
  shows_none = record { cells = IsPermutation-refl []; ordered = tt; counted = tt }

  -- one more, under the rowid that is chosen for it
  pub shows_more : (entries : List A) (entry : A) (rows : List Cells) → ShowsEntries cells_of entries rows
      → ShowsEntries cells_of (entries ++ entry ∷ []) (put_row (chosen (cells_of entry) rows) rows)
  shows_more entries entry rows shows =
      search (arith, chosen_last, map-append, IsPermutation-append, IsPermutation-refl, chosen_ordered, chosen_counted)

  -- the entry that a row shows
  pub entry_of : (entries : List A) (rows : List Cells) → ShowsEntries cells_of entries rows → (r : Cells)
      → Has rows r → (entry : A) × (drop 1 r ≡ cells_of entry)
  entry_of entries rows shows r h =
      let it = map_has cells_of entries (drop 1 r)
      (has_permutation (map (drop 1) rows) (map cells_of entries) (drop 1 r) shows.cells
      (has_map (drop 1) rows r h)) in
      (it.0, it.2)

  -- a check of rows that looks past their rowids, and says of an entry what another says of its cells
  module _ (p : Cells → Bool) (q : A → Bool) (past : (r : Cells) → p r ≡ p (Null ∷ drop 1 r)) (each : (entry : A)
      → p (Null ∷ cells_of entry) ≡ q entry) where
    abbrev over : Cells → Bool
    over cells = p (Null ∷ cells)

    cells_filtered : (entries : List A) (rows : List Cells) → IsPermutation (map (drop 1) rows) (map cells_of entries)
        → IsPermutation (map (drop 1) (filter p rows)) (map cells_of (filter q entries))
    cells_filtered entries rows same =
        let left : map (drop 1) (filter p rows)
        ≡ filter over (map (drop 1) rows) = grind (arith, filter_same, all_of, filter-map) in
        let right : filter over (map cells_of entries)
        ≡ map cells_of (filter q entries) = search (arith, filter-map, filter_same, all_of) in
        subst (λ cells. IsPermutation cells (map cells_of (filter q entries))) (sym left)
        (subst (IsPermutation (filter over (map (drop 1) rows))) right (filter_permutation over _ _ same))

    -- the entries that pass
    pub shows_filtered : (entries : List A) (rows : List Cells) → ShowsEntries cells_of entries rows
        → ShowsEntries cells_of (filter q entries) (filter p rows)
    shows_filtered entries rows shows = search (arith, cells_filtered, ascending-filter, all-filter)

  -- a query whose condition is such a check, and whose terms look past the rowids too
  module _ (params : Cells) (tree : ℕ) (passes shown : List Term) (q : A → Bool)
      (past : (r : Cells) → is_picked params tree passes shown r ≡ is_picked params tree passes shown (Null ∷ drop 1 r))
      (each : (entry : A) → is_picked params tree passes shown (Null ∷ cells_of entry) ≡ q entry)
      (shown_past : (r : Cells) → eval_all shown (params ∷ r ∷ []) ≡ eval_all shown (params ∷ (Null ∷ drop 1 r) ∷ []))
    where
      abbrev shown_of : Cells → Cells
      shown_of cells = eval_all shown (params ∷ (Null ∷ cells) ∷ [])

      -- what is picked is what the terms show of the entries that pass
      pub picks_entries : (entries : List A) (rows : List Cells) → ShowsEntries cells_of entries rows
          → IsPermutation (picked params tree passes shown rows)
          (map (λ entry. shown_of (cells_of entry)) (filter q entries))
      picks_entries entries rows shows =
          let passing = filter (is_picked params tree passes shown) rows in
          let left : picked params tree passes shown rows
          ≡ map shown_of (map (drop 1) passing) = grind (arith, map-map) in
          subst (λ cells. IsPermutation cells (map (λ entry. shown_of (cells_of entry)) (filter q entries))) (sym left)
          (subst (IsPermutation (map shown_of (map (drop 1) passing))) (map-map shown_of cells_of (filter q entries))
          (search (arith, IsPermutation-map, cells_filtered, is_picked)))

module _ {A : Type 0} (row_of : A → Cells) where
  pub keyed_none : ShowsKeyed row_of [] []
  keyed_none = record { rows_are = IsPermutation-refl []; ordered = tt }
