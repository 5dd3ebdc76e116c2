-- What a table shows whose rows go by a number of their own, after a row is added or some are taken out.
use Rattle.std.proofs.Common.{◌≡◌, ◌≢◌, inl, inr, ℕ, pos, List, [], ◌∷◌, ◌++◌, map, filter, Bool, IsTrue, refl, sym, ap}
use Rattle.std.proofs.Common.{subst, ◌∙◌, arith}
use Rattle.std.proofs.lemmas.List.{map-append}
use Rattle.std.proofs.lemmas.List.Sorted.{IsPermutation-append, IsPermutation-append_comm, IsPermutation-middle}
use Rattle.std.proofs.lemmas.List.Sorted.{IsPermutation-refl, IsPermutation-sym, IsPermutation-trans}
use Rattle.std.proofs.lemmas.Cmp.{tied_itself, int_cmp_total}
use Rattle.std.specs.Ordering.{match_ordering, int_cmp}
use Rattle.std.specs.declared.cmp.Ordering.TheVariants.{Less, Equal, Greater}
use Rattle.std.specs.{List.Sorted.IsPermutation, declared.cmp.Ordering.Ordering}
use Rattle.sqlite.specs.declared.types.Value.TheVariants.{Int}
use Rattle.sqlite.specs.{Order.Row as Cells, Order.value_cmp, Tree.rowid, Tree.put_row}
use Rattle.sqlite_rules.proofs.ListLemmas.{all_from}
use Rattle.sqlite_rules.specs.Lists.{Has}
use Rattle.sqlite_trees.proofs.ListLemmas.{ascending-filter, filter-map, filter_same, all_of}
use Rattle.sqlite_trees.proofs.TreeLemmas.{IsTable-put_row}
use Rattle.sqlite_trees.specs.View.{is_int}
use Rattle.sqlite_value.proofs.OrderLemmas.{value_cmp-Int}
use Rattle.sql_steps.proofs.SameRows.{has_map, map_has, same_row}
use Rattle.sql_steps.proofs.{Appending.AreCounted, Members.filter_permutation, Updates.has_permutation}
use Rattle.register_tables.specs.Tables.{ShowsKeyed}

-- where no row has its rowid, a row is put among the others
put_new : (new : Cells) (rows : List Cells)
    → ((x : Cells) → Has rows x → value_cmp (rowid x) (rowid new) ≢ Equal)
    → IsPermutation (put_row new rows) (new ∷ rows)
put_new new [] none = IsPermutation-refl (new ∷ [])
put_new new (x ∷ xs) none = go (value_cmp (rowid x) (rowid new)) refl (put_new new xs (λ y h. none y (inr h)))
  where
    go : (o : Ordering) → value_cmp (rowid x) (rowid new) ≡ o → IsPermutation (put_row new xs) (new ∷ xs)
        → IsPermutation (match_ordering o (x ∷ put_row new xs) (new ∷ xs) (new ∷ x ∷ xs)) (new ∷ x ∷ xs)
    go Less e more =
        IsPermutation-trans _ _ _
        (IsPermutation-append (x ∷ []) (x ∷ []) (put_row new xs) (new ∷ xs) (IsPermutation-refl (x ∷ [])) more)
        (IsPermutation-middle (x ∷ []) new xs)
    go Equal e more = absurd (none x (inl refl) e)
    go Greater e more = IsPermutation-refl (new ∷ x ∷ xs)

same_number : (m n : ℕ) → int_cmp (pos m) (pos n) ≡ Equal → m ≡ n
same_number m n e = search arith

number_same : (m n : ℕ) → m ≡ n → int_cmp (pos m) (pos n) ≡ Equal
number_same m n is = search (arith, tied_itself, int_cmp_total)

module _ {A : Type 0} (row_of : A → Cells) (key_of : A → ℕ) (rowid_is : (a : A)
    → rowid (row_of a) ≡ Int (pos (key_of a))) where
  -- the entry of a row
  pub row_entry : (entries : List A) (rows : List Cells) → ShowsKeyed row_of entries rows → (r : Cells) → Has rows r
      → (a : A) × Has entries a × (r ≡ row_of a)
  row_entry entries rows shows r h =
      map_has row_of entries r (has_permutation rows (map row_of entries) r shows.rows_are h)

  -- the row of an entry
  entry_row : (entries : List A) (rows : List Cells) → ShowsKeyed row_of entries rows → (a : A) → Has entries a
      → Has rows (row_of a)
  entry_row entries rows shows a h =
      has_permutation (map row_of entries) rows (row_of a) (IsPermutation-sym rows (map row_of entries) shows.rows_are)
      (has_map row_of entries a h)

  pub keyed_counted : (entries : List A) (rows : List Cells) → ShowsKeyed row_of entries rows → AreCounted rows
  keyed_counted entries rows shows = all_from _ rows (λ r h.
      let it = row_entry entries rows shows r h in
      subst (λ v. IsTrue (is_int v)) (sym (ap rowid it.2 ∙ rowid_is it.0)) refl)

  compared : (a b : A) → value_cmp (rowid (row_of a)) (rowid (row_of b)) ≡ int_cmp (pos (key_of a)) (pos (key_of b))
  compared a b = search (arith, value_cmp-Int)

  apart_rows : (a b : A) → key_of a ≢ key_of b → value_cmp (rowid (row_of a)) (rowid (row_of b)) ≢ Equal
  apart_rows a b off same = off (same_number (key_of a) (key_of b) (sym (compared a b) ∙ same))

  -- entries with one number have one row
  pub one_row : (entries : List A) (rows : List Cells) → ShowsKeyed row_of entries rows → (a b : A) → Has entries a
      → Has entries b → key_of a ≡ key_of b → row_of a ≡ row_of b
  one_row entries rows shows a b ha hb same =
      same_row rows (row_of a) (row_of b) shows.ordered (entry_row entries rows shows a ha)
      (entry_row entries rows shows b hb) (compared a b ∙ number_same (key_of a) (key_of b) same)

  pub keyed_more : (entries : List A) (rows : List Cells) (new : A)
      → ((a : A) → Has entries a → key_of a ≢ key_of new) → ShowsKeyed row_of entries rows
      → ShowsKeyed row_of (entries ++ new ∷ []) (put_row (row_of new) rows)
  keyed_more entries rows new fresh shows =
      let free = λ (x : Cells) (h : Has rows x).
      let it = row_entry entries rows shows x h in
      subst (λ r. value_cmp (rowid r) (rowid (row_of new)) ≢ Equal) (sym it.2)
      (apart_rows it.0 new (fresh it.0 it.1)) in
      record {
        rows_are = IsPermutation-trans _ _ _ (put_new (row_of new) rows free)
            (IsPermutation-trans _ _ _ (IsPermutation-append (row_of new ∷ []) (row_of new ∷ []) rows
            (map row_of entries) (IsPermutation-refl (row_of new ∷ [])) shows.rows_are)
            (search (arith, map-append, IsPermutation-append_comm)));
        ordered = IsTable-put_row (row_of new) rows shows.ordered;
      }

  pub keyed_left : (p : Cells → Bool) (q : A → Bool) → ((a : A) → p (row_of a) ≡ q a) → (entries : List A)
      (rows : List Cells) → ShowsKeyed row_of entries rows → ShowsKeyed row_of (filter q entries) (filter p rows)
  keyed_left p q each entries rows shows = record {
    rows_are = subst (IsPermutation (filter p rows)) (search (arith, filter-map, filter_same, all_of))
        (filter_permutation p rows (map row_of entries) shows.rows_are);
    ordered = ascending-filter _ p rows shows.ordered;
  }
