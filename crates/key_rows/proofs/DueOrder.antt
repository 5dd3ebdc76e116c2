-- The order of the rows that are due, and lists in that order.
use Rattle.std.proofs.Common.{◌≡◌, ◌≢◌, ◌⊎◌, inl, inr, zero, suc, List, [], ◌∷◌, ◌++◌, refl, sym, ap, subst, ◌∙◌, arith}
use Rattle.std.proofs.lemmas.Bool.{cases_lt}
use Rattle.std.proofs.lemmas.List.Elements.{All-cons, All-weaker}
use Rattle.std.proofs.lemmas.List.Kept.{AllPairs-cons}
use Rattle.std.proofs.lemmas.List.Sorted.{All-permutation, IsPermutation-cons, IsPermutation-middle, IsPermutation-refl}
use Rattle.std.proofs.lemmas.List.Sorted.{IsPermutation-sym, IsPermutation-trans}
use Rattle.std.specs.{List.All, List.AllPairs, List.Contains, List.Sorted.IsPermutation}
use Rattle.key_rows.specs.declared.key_row.KeyRow.{KeyRow}
use Rattle.key_rows.specs.DueRows.{stop_of, IsBefore, IsAfter, AreInOrder}

-- ---- two rows

not_before_itself : (a : KeyRow) → IsBefore a a → ⊥
not_before_itself a (inl earlier) = absurd (omega arith)
not_before_itself a (inr (same, lower)) = absurd (omega arith)

pub before_trans : (a b c : KeyRow) → IsBefore a b → IsBefore b c → IsBefore a c
before_trans a b c (inl p) (inl q) = inl (omega arith)
before_trans a b c (inl p) (inr (same, lower)) = inl (omega arith)
before_trans a b c (inr (same, lower)) (inl q) = inl (omega arith)
before_trans a b c (inr (same, lower)) (inr (equal, less)) = inr (omega arith, omega arith)

-- one of two rows comes before the other
abbrev pub AreApart : KeyRow → KeyRow → Type 0
AreApart a b = IsBefore a b ⊎ IsBefore b a

pub apart : (a b : KeyRow) → a.number ≢ b.number → AreApart a b
apart a b other = elim (cases_lt (stop_of a) (stop_of b)) [
  | inl earlier ↦ inl (inl earlier)
  | inr no_earlier ↦ elim (cases_lt (stop_of b) (stop_of a)) [
    | inl later ↦ inr (inl later)
    | inr no_later ↦ elim (cases_lt a.number b.number) [
      | inl lower ↦ inl (inr (omega (arith, no_earlier, no_later), lower))
      | inr no_lower ↦ elim (cases_lt b.number a.number) [
        | inl higher ↦ inr (inr (omega (arith, no_earlier, no_later), higher))
        | inr no_higher ↦ absurd (other (omega (arith, no_lower, no_higher)))
      ]
    ]
  ]
]

-- ---- lists in order

pub rest_in_order : (R : KeyRow → KeyRow → Type 0) (r : KeyRow) (rows : List KeyRow) → AllPairs R (r ∷ rows)
    → AllPairs R rows
rest_in_order R r rows of i j d lt within = of (suc i) (suc j) d (omega arith) (omega arith)

after_first : (x r : KeyRow) (rows : List KeyRow) → AreInOrder (x ∷ rows) → Contains rows r → IsBefore x r
after_first x r rows of (i, below, is) = subst (IsBefore x) is (of 0 (suc i) r (omega arith) (omega arith))

-- what is after the first, and in a list with the same first, is after that first
past_first : (x y r : KeyRow) (rows others : List KeyRow) → x ≡ y → AreInOrder (x ∷ rows) → Contains rows r
    → Contains (y ∷ others) r → Contains others r
past_first x y r rows others same of here (zero, below, is) =
    absurd (not_before_itself x (subst (IsBefore x) (sym (same ∙ is)) (after_first x r rows of here)))
past_first x y r rows others same of here (suc i, below, is) = (i, omega arith, is)

-- some rows in order begin others that have them, and of which all but them come after them
pub begun : (rows all : List KeyRow) → AreInOrder rows → AreInOrder all
    → ((r : KeyRow) → Contains rows r → Contains all r)
    → ((r : KeyRow) → Contains all r → Contains rows r ⊎ IsAfter rows r) → (rest : List KeyRow) × (all ≡ rows ++ rest)
begun [] all of_rows of_all to from = (all, refl)
begun (x ∷ rows) [] of_rows of_all to from = let none = to x (0, omega arith, refl) in absurd (omega (arith, none.1))
begun (x ∷ rows) (y ∷ all) of_rows of_all to from =
    let same = first (to x (0, omega arith, refl)) (from y (0, omega arith, refl)) in
    let rest = begun rows all (rest_in_order IsBefore x rows of_rows) (rest_in_order IsBefore y all of_all)
    (λ r h. past_first x y r rows all same of_rows h (to r (below x rows r h)))
    (λ r h. elim (from r (below y all r h)) [
      | inl there ↦ inl (past_first y x r all rows (sym same) of_all h there)
      | inr after ↦ inr (λ i d within. after (suc i) d (omega arith))
    ]) in
    (rest.0, ap (λ z. z ∷ all) (sym same) ∙ ap (λ zs. x ∷ zs) rest.1)
  where
    below : (z : KeyRow) (rows : List KeyRow) (r : KeyRow) → Contains rows r → Contains (z ∷ rows) r
    below z rows r (i, within, is) = (suc i, omega arith, is)

    not_back : IsBefore y x → IsBefore x y → ⊥
    not_back p q = not_before_itself x (before_trans x y x q p)

    first : Contains (y ∷ all) x → Contains (x ∷ rows) y ⊎ IsAfter (x ∷ rows) y → x ≡ y
    first (zero, within, is) there = sym is
    first (suc i, within, is) (inl (zero, inside, it)) = it
    first (suc i, within, is) (inl (suc j, inside, it)) =
        let back = after_first x y rows of_rows (j, omega arith, it) in
        absurd (not_back (after_first y x all of_all (i, omega arith, is)) back)
    first (suc i, within, is) (inr after) =
        absurd (not_back (after_first y x all of_all (i, omega arith, is)) (after 0 x (omega arith)))

-- ---- rows put in order

placed : (r : KeyRow) (rows : List KeyRow) → AreInOrder rows → All (AreApart r) rows
    → (out : List KeyRow) × IsPermutation (r ∷ rows) out × AreInOrder out
placed r [] of others = (r ∷ [], IsPermutation-refl (r ∷ []), λ i j d lt within. absurd (omega arith))
placed r (x ∷ rows) of others = elim (others 0 x (omega arith)) [
  | inl before ↦ (
    r ∷ x ∷ rows,
    IsPermutation-refl (r ∷ x ∷ rows),
    AllPairs-cons IsBefore r (x ∷ rows) (All-cons (IsBefore r) x rows before (All-weaker (IsBefore x) (IsBefore r)
        (λ s after. before_trans r x s before after) rows after_x)) of,
  )
  | inr after ↦ let (out, are, of_out) = placed r rows (rest_in_order IsBefore x rows of)
      (λ i d within. others (suc i) d (omega arith)) in (
        x ∷ out,
        IsPermutation-trans (r ∷ x ∷ rows) (x ∷ r ∷ rows) (x ∷ out)
            (IsPermutation-sym (x ∷ r ∷ rows) (r ∷ x ∷ rows) (IsPermutation-middle (x ∷ []) r rows))
            (IsPermutation-cons x (r ∷ rows) out are),
        AllPairs-cons IsBefore x out
            (All-permutation (IsBefore x) (r ∷ rows) out are (All-cons (IsBefore x) r rows after after_x)) of_out,
      )
]
  where
    after_x : All (IsBefore x) rows
    after_x i d within = of 0 (suc i) d (omega arith) (omega arith)

-- rows of which no two tie, in order
pub ordered : (rows : List KeyRow) → AllPairs AreApart rows
    → (out : List KeyRow) × IsPermutation rows out × AreInOrder out
ordered [] of = ([], IsPermutation-refl [], λ i j d lt within. absurd (omega arith))
ordered (r ∷ rows) of =
    let (others, are, in_order) = ordered rows (rest_in_order AreApart r rows of) in
    let (out, all, of_all) = placed r others in_order
    (All-permutation (AreApart r) rows others are (λ i d within. of 0 (suc i) d (omega arith) (omega arith))) in
    (out, IsPermutation-trans (r ∷ rows) (r ∷ others) out (IsPermutation-cons r rows others are) all, of_all)
