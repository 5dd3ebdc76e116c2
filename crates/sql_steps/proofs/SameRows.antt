-- Two tables with the same rows are one, and what an UPDATE of some rows leaves.
use Rattle.std.proofs.Common.{◌≡◌, inl, inr, ℤ, List, [], ◌∷◌, map, filter, not, Bool, true, false, cond, refl, sym, ap}
use Rattle.std.proofs.Common.{subst, ◌∙◌, arith}
use Rattle.std.proofs.lemmas.Cmp.{tied_itself}
use Rattle.std.proofs.lemmas.Bool.{cases_Bool}
use Rattle.std.specs.{Ordering.is_eq, declared.cmp.Ordering.TheVariants.Less, declared.cmp.Ordering.TheVariants.Equal}
use Rattle.sqlite.specs.Tree.{IsTable, rowid, has_rowid, put_row, without_rowid}
use Rattle.sqlite.specs.Edit.{put_all, without_all, are_fresh}
use Rattle.sqlite.specs.{declared.types.Value.TheVariants.Int, Order.Row, Order.value_cmp}
use Rattle.sqlite_rules.specs.Lists.{Has}
use Rattle.sqlite_rules.proofs.ListLemmas.{all_has, all_from, has_filtered, has_kept}
use Rattle.sqlite_rules.proofs.TableLemmas.{put_all_has, put_all_keeps, put_all_adds, without_all_has}
use Rattle.sqlite_trees.proofs.TreeLemmas.{IsTable-put_row}
use Rattle.sqlite_value.proofs.OrderLemmas.{value_cmp_total}

abbrev Below : Row → Row → Type 0
Below a b = value_cmp (rowid a) (rowid b) ≡ Less

never_below : (a : Row) → Below a a → ⊥
never_below a h = let e = tied_itself value_cmp_total (rowid a) in cc

never_both : (a b : Row) → Below a b → Below b a → ⊥
never_both a b p q = never_below a (value_cmp_total.trans _ _ _ p q)

-- two tables with the same rows are one
pub same_tables : (xs ys : List Row) → IsTable xs → IsTable ys → ((x : Row) → Has xs x → Has ys x)
    → ((y : Row) → Has ys y → Has xs y) → xs ≡ ys
same_tables [] [] tx ty there back = refl
same_tables [] (y ∷ ys) tx ty there back = absurd (back y (inl refl))
same_tables (x ∷ xs) [] tx ty there back = absurd (there x (inl refl))
same_tables (x ∷ xs) (y ∷ ys) tx ty there back =
    let first : x ≡ y = elim (there x (inl refl)) [
      | inl same ↦ same
      | inr later ↦
          elim (back y (inl refl)) [
            | inl same ↦ sym same
            | inr after ↦ absurd
                (never_both x y (all_has (Below x) xs y tx.0 after) (all_has (Below y) ys x ty.0 later))
          ]
    ] in
    let on : (z : Row) → Has xs z → Has ys z = search (arith, never_below, all_has) in
    let off : (z : Row) → Has ys z → Has xs z = search (arith, never_below, all_has) in
    let rest = same_tables xs ys tx.1 ty.1 on off in
    ap (λ r. r ∷ xs) first ∙ ap (λ rs. y ∷ rs) rest

-- a rowid stands once
pub same_row : (rows : List Row) (x y : Row) → IsTable rows → Has rows x → Has rows y
    → value_cmp (rowid x) (rowid y) ≡ Equal → x ≡ y
same_row [] x y t h k e = absurd h
same_row (r ∷ rows) x y t (inl p) (inl q) e = p ∙ sym q
same_row (r ∷ rows) x y t (inl p) (inr q) e =
    absurd (let b = subst (λ z. Below z y) (sym p) (all_has (Below r) rows y t.0 q) in cc)
same_row (r ∷ rows) x y t (inr p) (inl q) e =
    absurd (let b = subst (λ z. Below z x) (sym q) (all_has (Below r) rows x t.0 p) in
    let back = value_cmp_total.congr _ _ (rowid x) e ∙ b in let self = tied_itself value_cmp_total (rowid x) in cc)
same_row (r ∷ rows) x y t (inr p) (inr q) e = same_row rows x y t.1 p q e

pub table_put_all : (news rows : List Row) → IsTable rows → IsTable (put_all rows news)
table_put_all [] rows t = t
table_put_all (n ∷ news) rows t = table_put_all news (put_row n rows) (IsTable-put_row n rows t)

table_filter : (p : Row → Bool) (rows : List Row) → IsTable rows → IsTable (filter p rows)
table_filter p [] t = tt
table_filter p (r ∷ rows) t = search (arith, all_from, all_has, has_filtered, table_filter p rows t.1)

pub table_without_all : (ids : List ℤ) (rows : List Row) → IsTable rows → IsTable (without_all rows ids)
table_without_all [] rows t = t
table_without_all (id ∷ ids) rows t = table_without_all ids (without_rowid id rows) (table_filter _ rows t)

turned : (b : Bool) → not b ≡ true → b ≡ false
turned b e = search arith

pub without_all_drops : (ids : List ℤ) (rows : List Row) (x : Row) (id : ℤ) → Has (without_all rows ids) x
    → Has ids id → has_rowid id x ≡ false
without_all_drops [] rows x id h k = absurd k
without_all_drops (i ∷ ids) rows x id h (inl same) = search (arith, has_filtered, without_all_has, turned)
without_all_drops (i ∷ ids) rows x id h (inr later) = without_all_drops ids (without_rowid i rows) x id h later

pub without_all_keeps : (ids : List ℤ) (rows : List Row) (x : Row) → Has rows x
    → ((id : ℤ) → Has ids id → has_rowid id x ≡ false) → Has (without_all rows ids) x
without_all_keeps [] rows x h none = h
without_all_keeps (i ∷ ids) rows x h none =
    without_all_keeps ids (without_rowid i rows) x (has_kept _ rows x h (ap not (none i (inl refl))))
    (λ id k. none id (inr k))

pub has_map : {A B : Type 0} (f : A → B) (xs : List A) (x : A) → Has xs x → Has (map f xs) (f x)
has_map f [] x h = absurd h
has_map f (y ∷ ys) x (inl e) = inl (ap f e)
has_map f (y ∷ ys) x (inr h) = inr (has_map f ys x h)

pub map_has : {A B : Type 0} (f : A → B) (xs : List A) (y : B) → Has (map f xs) y → (x : A) × Has xs x × (y ≡ f x)
map_has f [] y h = absurd h
map_has f (x ∷ xs) y (inl e) = (x, inl refl, e)
map_has f (x ∷ xs) y (inr h) = let r = map_has f xs y h in (r.0, inr r.1, r.2)

table_map : (f : Row → Row) (rows : List Row) → ((r : Row) → Has rows r → rowid (f r) ≡ rowid r) → IsTable rows
    → IsTable (map f rows)
table_map f [] keeps t = tt
table_map f (r ∷ rows) keeps t =
    search (arith, all_from, map_has, all_has, table_map f rows (λ x h. keeps x (inr h)) t.1)

has_its_rowid : (x : Row) (id : ℤ) → rowid x ≡ Int id → has_rowid id x ≡ true
has_its_rowid x id e = ap (λ v. is_eq (value_cmp v (Int id))) e ∙ ap is_eq (tied_itself value_cmp_total (Int id))

-- a DELETE of the rows that pass leaves the others, in their order
module _ (rows : List Row) (ids : List ℤ) (p : Row → Bool) (table : IsTable rows)
    (ids_from : (id : ℤ) → Has ids id → (x : Row) × Has rows x × (p x ≡ true) × (rowid x ≡ Int id))
    (ids_all : (x : Row) → Has rows x → p x ≡ true → (id : ℤ) × Has ids id × (rowid x ≡ Int id)) where
  left_fails : (y : Row) → Has (without_all rows ids) y → p y ≡ false
  left_fails y h = search (arith, cases_Bool, without_all_has, without_all_drops, has_its_rowid)

  fails_left : (x : Row) → Has rows x → p x ≡ false → Has (without_all rows ids) x
  fails_left x h fails = search (arith, without_all_keeps, cases_Bool, same_row)

  stays : (y : Row) → Has (without_all rows ids) y → Has (filter (λ r. not (p r)) rows) y
  stays y h = has_kept (λ r. not (p r)) rows y (without_all_has ids rows y h) (ap not (left_fails y h))

  was_kept : (y : Row) → Has (filter (λ r. not (p r)) rows) y → Has (without_all rows ids) y
  was_kept y h = let it = has_filtered (λ r. not (p r)) rows y h in fails_left y it.0 (turned (p y) it.1)

  pub deletes_each : without_all rows ids ≡ filter (λ r. not (p r)) rows
  deletes_each = same_tables _ _ (table_without_all ids rows table) (table_filter _ rows table) stays was_kept

abbrev pub changed_by : (Row → Bool) → (Row → Row) → Row → Row
changed_by p g r = cond (p r) (g r) r

-- an UPDATE of the rows that pass changes those and no other
module _ (rows news : List Row) (ids : List ℤ) (p : Row → Bool) (g : Row
    → Row) (table : IsTable rows) (keeps : (r : Row) → Has rows r → rowid (g r) ≡ rowid r)
    (ids_from : (id : ℤ) → Has ids id → (x : Row) × Has rows x × (p x ≡ true) × (rowid x ≡ Int id))
    (ids_all : (x : Row) → Has rows x → p x ≡ true → (id : ℤ) × Has ids id × (rowid x ≡ Int id))
    (news_from : (y : Row) → Has news y → (x : Row) × Has rows x × (p x ≡ true) × (y ≡ g x))
    (news_all : (x : Row) → Has rows x → p x ≡ true → Has news (g x)) (fresh : are_fresh (without_all rows ids) news
    ≡ true) where
  abbrev changed : Row → Row
  changed = changed_by p g

  on : (y : Row) → Has (put_all (without_all rows ids) news) y → Has (map changed rows) y
  on y h = elim (put_all_has news (without_all rows ids) y h) [
    | inl new ↦ let it = news_from y new in subst (Has (map changed rows)) (cc) (has_map changed rows it.0 it.1)
    | inr old ↦
        let fails = left_fails rows ids p table ids_from ids_all y old in
        subst (Has (map changed rows)) (ap (λ b. cond b (g y) y) fails)
        (has_map changed rows y (without_all_has ids rows y old))
  ]

  off : (y : Row) → Has (map changed rows) y → Has (put_all (without_all rows ids) news) y
  off y h =
      let it = map_has changed rows y h in
      elim (cases_Bool (p it.0)) [
        | inl passes ↦ search (arith, put_all_adds)
        | inr fails ↦ put_all_keeps news (without_all rows ids) y fresh
            (subst (Has (without_all rows ids)) (sym (it.2 ∙ ap (λ b. cond b (g it.0) it.0) fails))
            (fails_left rows ids p table ids_from ids_all it.0 it.1 fails))
      ]

  pub updates_each : put_all (without_all rows ids) news ≡ map (changed_by p g) rows
  updates_each = search (arith, same_tables, table_put_all, table_without_all, table_map, on, off)
