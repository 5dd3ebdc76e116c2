-- Rows that show values one by one: one more, and one less.
use Rattle.std.proofs.Common.{◌≡◌, ◌<◌, ℕ, suc, List, [], ◌∷◌, ◌++◌, length, map, set, slice_index_or, refl, sym, ap}
use Rattle.std.proofs.Common.{◌∙◌, arith}
use Rattle.std.proofs.lemmas.List.{length-map, map-set, get_or-map}
use Rattle.std.proofs.lemmas.List.Edits.{swap_is}
use Rattle.std.proofs.lemmas.List.Sorted.{IsPermutation-keeps, IsPermutation-refl, IsPermutation-swap}
use Rattle.std.proofs.lemmas.List.Sorted.{IsPermutation-trans}
use Rattle.std.specs.{List.AllByRecursion, List.swap, List.Sorted.IsPermutation}
use Rattle.sqlite.specs.Order.{Row}
use Rattle.row_checks.specs.EachRow.{ShowEach}

module _ {A : Type 0} (Shows : Row → A → Type 0) where
  -- one more row, which shows one more value
  pub show_more : (rows : List Row) (values : List A) (row : Row) (value : A) → ShowEach Shows rows values
      → Shows row value → ShowEach Shows (rows ++ row ∷ []) (values ++ value ∷ [])
  show_more [] [] row value each last = (last, tt)
  show_more [] (v ∷ values) row value each last = absurd each
  show_more (r ∷ rows) [] row value each last = absurd each
  show_more (r ∷ rows) (v ∷ values) row value each last = (each.0, show_more rows values row value each.1 last)

  -- the last row shows the last value, and the others the others
  pub show_less : (rows : List Row) (row : Row) (values : List A) → ShowEach Shows (rows ++ row ∷ []) values
      → (prefix : List A) × (last : A) × (values ≡ prefix ++ last ∷ []) × ShowEach Shows rows prefix × Shows row last
  show_less [] row [] each = absurd each
  show_less [] row (v ∷ []) each = ([], v, refl, tt, each.0)
  show_less [] row (v ∷ w ∷ values) each = absurd each.1
  show_less (r ∷ rows) row [] each = absurd each
  show_less (r ∷ rows) row (v ∷ values) each =
      let it = show_less rows row values each.1 in (v ∷ it.0, it.1, ap (λ l. v ∷ l) it.2, (each.0, it.3), it.4)

  -- a row that shows a last value, after as many as there are
  pub show_split : (rows : List Row) (row : Row) (values : List A) (value : A)
      → ShowEach Shows (rows ++ row ∷ []) (values ++ value ∷ []) → ShowEach Shows rows values × Shows row value
  show_split [] row [] value each = (tt, each.0)
  show_split [] row (v ∷ []) value each = absurd each.1
  show_split [] row (v ∷ w ∷ values) value each = absurd each.1
  show_split (r ∷ []) row [] value each = absurd each.1
  show_split (r ∷ s ∷ rows) row [] value each = absurd each.1
  show_split (r ∷ rows) row (v ∷ values) value each = grind (arith, show_split rows row values value each.1)

  -- the first rows show the first values
  pub show_prefix : (rows tail : List Row) (values : List A) → ShowEach Shows (rows ++ tail) values
      → (prefix : List A) × (back : List A) × (values ≡ prefix ++ back) × ShowEach Shows rows prefix
  show_prefix [] tail values each = ([], values, refl, tt)
  show_prefix (r ∷ rows) tail [] each = absurd each
  show_prefix (r ∷ rows) tail (v ∷ values) each =
      let it = show_prefix rows tail values each.1 in (v ∷ it.0, it.1, ap (λ l. v ∷ l) it.2, (each.0, it.3))

  -- there are as many
  pub show_length : (rows : List Row) (values : List A) → ShowEach Shows rows values → length rows ≡ length values
  show_length [] [] each = refl
  show_length [] (v ∷ values) each = absurd each
  show_length (r ∷ rows) [] each = absurd each
  show_length (r ∷ rows) (v ∷ values) each = ap suc (show_length rows values each.1)

  -- where a row shows one value alone, rows show one list
  pub show_same : ((row : Row) (a b : A) → Shows row a → Shows row b → a ≡ b)
      → (rows : List Row) (these others : List A) → ShowEach Shows rows these → ShowEach Shows rows others
      → these ≡ others
  show_same one [] [] [] x y = refl
  show_same one [] [] (b ∷ others) x y = absurd y
  show_same one [] (a ∷ these) others x y = absurd x
  show_same one (r ∷ rows) [] others x y = absurd x
  show_same one (r ∷ rows) (a ∷ these) [] x y = absurd y
  show_same one (r ∷ rows) (a ∷ these) (b ∷ others) x y =
      λ i. one r a b x.0 y.0 i ∷ show_same one rows these others x.1 y.1 i

  -- the rows of values that each show them
  pub show_mapped : (row_of : A → Row) (Is : A → Type 0) → ((value : A) → Is value → Shows (row_of value) value)
      → (values : List A) → AllByRecursion Is values → ShowEach Shows (map row_of values) values
  show_mapped row_of Is each [] all = tt
  show_mapped row_of Is each (v ∷ values) all = (each v all.0, show_mapped row_of Is each values all.1)

-- what holds of all of a list, and of one more
pub all_more : {A : Type 0} (P : A → Type 0) (xs : List A) (x : A) → AllByRecursion P xs → P x
    → AllByRecursion P (xs ++ x ∷ [])
all_more P [] x all last = (last, tt)
all_more P (y ∷ xs) x all last = (all.0, all_more P xs x all.1 last)

pub all_last : {A : Type 0} (P : A → Type 0) (xs : List A) (x : A) → AllByRecursion P (xs ++ x ∷ []) → P x
all_last P [] x all = all.0
all_last P (y ∷ xs) x all = all_last P xs x all.1

pub all_prefix : {A : Type 0} (P : A → Type 0) (xs ys : List A) → AllByRecursion P (xs ++ ys) → AllByRecursion P xs
all_prefix P [] ys all = tt
all_prefix P (x ∷ xs) ys all = (all.0, all_prefix P xs ys all.1)

map_swap : {X Y : Type 0} (f : X → Y) (xs : List X) (i j : ℕ) (d : X) → i < length xs → j < length xs
    → map f (swap xs i j) ≡ swap (map f xs) i j
map_swap f xs i j d a b = grind (arith, length-map, swap_is, map-set, set, slice_index_or, get_or-map)

-- a permutation of what f makes of a list is what it makes of one of the list
pub lift_permutation : {X Y : Type 0} (f : X → Y) (zs : List X) (ys : List Y) → IsPermutation (map f zs) ys
    → (ws : List X) × (map f ws ≡ ys) × IsPermutation zs ws
lift_permutation {X} {Y} f zs ys p =
    IsPermutation-keeps (map f zs) (λ l. (ws : List X) × (map f ws ≡ l) × IsPermutation zs ws) (
      zs,
      refl,
      IsPermutation-refl zs,
    ) step ys p
  where
    step : (l : List Y) (i j : ℕ) → i < length l → j < length l
        → ((ws : List X) × (map f ws ≡ l) × IsPermutation zs ws) → (ws : List X) × (map f ws ≡ swap l i j)
        × IsPermutation zs ws
    step l i j a b h = go h.0 h.1 h.2
      where
        go : (ws : List X) → map f ws ≡ l → IsPermutation zs ws → (vs : List X) × (map f vs ≡ swap l i j)
            × IsPermutation zs vs
        go [] e q = absurd (omega (arith, a, ap length (sym e)))
        go (w ∷ ws) e q =
            let long : length (w ∷ ws) ≡ length l = sym (length-map (w ∷ ws) f) ∙ ap length e in (
              swap (w ∷ ws) i j,
              map_swap f (w ∷ ws) i j w (omega (arith, a, long)) (omega (arith, b, long)) ∙ ap (λ v. swap v i j) e,
              IsPermutation-trans _ _ _ q
                  (IsPermutation-swap _ _ i j (omega (arith, a, long)) (omega (arith, b, long)) refl),
            )
