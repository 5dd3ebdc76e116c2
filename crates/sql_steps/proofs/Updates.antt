-- What an UPDATE of some rows leaves, where the rows stand for values of a type.
use Rattle.std.proofs.Common.{◌≡◌, ℤ, List, [], ◌∷◌, map, drop, Bool, true, cond, refl, ap, subst, arith}
use Rattle.std.proofs.lemmas.List.Sorted.{Contains-permutation, IsPermutation-sym}
use Rattle.std.specs.List.Sorted.{IsPermutation}
use Rattle.sqlite.specs.Edit.{edit_of, edited, left_by, numbered, are_fresh, id_in}
use Rattle.sqlite.specs.{declared.types.Value.TheVariants.Int, Order.Row, Term.Term, Term.col, Term.eval_all}
use Rattle.sqlite.specs.{Table.Table, Tree.Trees, Tree.IsTable, Tree.rowid, Cast.cast_row, Rowids.TheVariants.Given}
use Rattle.sqlite_rules.specs.{Calls.ids_of, Lists.Has}
use Rattle.sql_steps.proofs.Statements.{picked, is_picked, env_of}
use Rattle.sql_steps.proofs.Members.{contains_has, has_contains, from_picked, to_picked}
use Rattle.sql_steps.proofs.SameRows.{updates_each, changed_by, has_map, map_has}

pub has_permutation : {X : Type 0} (xs ys : List X) (x : X) → IsPermutation xs ys → Has xs x → Has ys x
has_permutation xs ys x h k = contains_has ys x (Contains-permutation xs ys x h (has_contains xs x k))

pub numbered_given : (news rows : List Row) → numbered Given rows news ≡ news
numbered_given [] rows = refl
numbered_given (n ∷ news) rows = ap (λ ns. n ∷ ns) (numbered_given news _)

module _ {A : Type 0} (enc : A → Row) (number : A → ℤ) (rowid_is : (a : A)
    → rowid (enc a) ≡ Int (number a)) (table : Table) (params : Row) (passes more : List Term) (f : A → A) where
  abbrev pub shown : List Term
  shown = col 1 0 ∷ more

  abbrev pub check : A → Bool
  check a = is_picked params table.tree passes shown (enc a)

  abbrev pub updated : A → A
  updated a = cond (check a) (f a) a

  abbrev pub g : Row → Row
  g r = cast_row table (drop 1 (eval_all shown (env_of params table.tree passes shown r)))

  module _ (image : (a : A) → g (enc a) ≡ enc (f a)) (same : (a : A)
      → number (f a) ≡ number a) (db : Trees) (items : List A) (rows_are : db table.tree ≡ map enc items)
      (ordered : IsTable (db table.tree))
      (answer : List Row) (answered : IsPermutation (picked params table.tree passes shown (db table.tree)) answer)
      (fresh : are_fresh (left_by db (edit_of db table (ids_of answer) Given 1 answer))
      (edit_of db table (ids_of answer) Given 1 answer).news ≡ true) where
    abbrev rows : List Row
    rows = db table.tree

    abbrev p : Row → Bool
    p = is_picked params table.tree passes shown

    item_of : (x : Row) → Has rows x → (a : A) × (x ≡ enc a)
    item_of x h = let it = map_has enc items x (subst (λ rs. Has rs x) rows_are h) in (it.0, it.2)

    id_of : (x : Row) → Has rows x → rowid x ≡ Int (id_in (rowid x))
    id_of x h = let it = item_of x h in rw (it.1, rowid_is it.0)

    from_answer : (s : Row) → Has answer s → (x : Row) × Has rows x × (p x ≡ true)
        × (s ≡ eval_all shown (env_of params table.tree passes shown x))
    from_answer s h =
        from_picked (λ r. eval_all shown (env_of params table.tree passes shown r)) p rows s
        (has_permutation answer _ s (IsPermutation-sym _ _ answered) h)

    in_answer : (x : Row) → Has rows x → p x ≡ true
        → Has answer (eval_all shown (env_of params table.tree passes shown x))
    in_answer x h is =
        has_permutation _ answer _ answered
        (to_picked (λ r. eval_all shown (env_of params table.tree passes shown r)) p rows x h is)

    news_are : (edit_of db table (ids_of answer) Given 1 answer).news ≡ map (λ s. cast_row table (drop 1 s)) answer
    news_are = numbered_given _ _

    keeps : (r : Row) → Has rows r → rowid (g r) ≡ rowid r
    keeps r h = search (arith, item_of)

    ids_from : (id : ℤ) → Has (ids_of answer) id → (x : Row) × Has rows x × (p x ≡ true) × (rowid x ≡ Int id)
    ids_from id h = search (arith, map_has, from_answer, id_of)

    ids_all : (x : Row) → Has rows x → p x ≡ true → (id : ℤ) × Has (ids_of answer) id × (rowid x ≡ Int id)
    ids_all x h is = (id_in (rowid x), has_map (λ r. id_in (rowid r)) answer _ (in_answer x h is), id_of x h)

    news_from : (y : Row) → Has (map (λ s. cast_row table (drop 1 s)) answer) y
        → (x : Row) × Has rows x × (p x ≡ true) × (y ≡ g x)
    news_from y h = search (arith, map_has, from_answer)

    news_all : (x : Row) → Has rows x → p x ≡ true → Has (map (λ s. cast_row table (drop 1 s)) answer) (g x)
    news_all x h is = has_map (λ s. cast_row table (drop 1 s)) answer _ (in_answer x h is)

    each : (a : A) (b : Bool) → cond b (g (enc a)) (enc a) ≡ enc (cond b (f a) a)
    each a b = search arith

    all_each : (xs : List A) → map (changed_by p g) (map enc xs) ≡ map enc (map updated xs)
    all_each [] = refl
    all_each (a ∷ xs) = search (arith, changed_by, each, all_each xs)

    abbrev news : List Row
    news = map (λ s. cast_row table (drop 1 s)) answer

    -- each row is changed exactly where the check holds
    pub changes_each : edited db (edit_of db table (ids_of answer) Given 1 answer) ≡ map enc (map updated items)
    changes_each =
        grind (arith, news_are, updates_each, keeps, ids_from, ids_all, news_from, news_all, changed_by, all_each)
