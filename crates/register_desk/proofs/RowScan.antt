-- Rows that are given one after the other are the first of all, and after the last they are all.
use Rattle.std.proofs.Common.{◌≡◌, ◌≢◌, ◌≤◌, inl, inr, ℕ, zero, suc, ◌+◌, true, List, [], ◌∷◌, ◌++◌, length, map, take}
use Rattle.std.proofs.Common.{slice_get, Option, None, Some, refl, sym, ap, subst, ◌∙◌, add-one, arith}
use Rattle.std.proofs.lemmas.Bool.{cases_lt}
use Rattle.std.proofs.lemmas.List.Elements.{All-cons, All-contains, All-nil, All-tail, All-weaker}
use Rattle.std.proofs.lemmas.List.Kept.{AllPairs-cons}
use Rattle.std.proofs.lemmas.Option.{slice_get_past}
use Rattle.std.specs.{List.All, List.Contains, List.enumerate_from, Option.option_map}
use Rattle.sql_steps.proofs.{Members.contains_has, Members.has_contains, SameRows.has_map, SameRows.map_has}
use Rattle.key_rows.specs.declared.key_row.KeyRow.{KeyRow}
use Rattle.key_rows.specs.DueRows.{AreDue, AreFirstDue, AreInOrder, HaveOwnNumbers, IsBefore, is_due, stop_of}
use Rattle.key_rows.specs.DueRows.{IsAfter as IsAfterAll}
use Rattle.key_rows.proofs.{DueOrder.before_trans, DueOrder.rest_in_order, DueRows.all_first, DueRows.next_first}
use Rattle.register_core.specs.declared.key.Key.{Key}
use Rattle.register_rows.specs.KeyScan.{ComesAfter, HasNextDue}
use Rattle.register_rows.specs.declared.key_scan.DueCursor.{DueCursor}
use Rattle.register_tables.specs.Tables.{Tables, numbered}
use Rattle.register_rows.specs.KeyScan.{IsAfterKey}
use Rattle.register_tables.specs.TableChanges.{key_at}
use Rattle.register_desk.specs.declared.rows.Scan.TheVariants.{ByNumber, ByStop}
use Rattle.register_desk.specs.KeyRows.{AreAll, AreSoFar, IsAfterRows, due_until, first_cursor, last_cursor}
use Rattle.register_desk.specs.KeyRows.{cursor_of_row, row_of, rows_of}
use Rattle.register_desk.specs.Within.{HasNextRow, after_row}
use Rattle.register_desk.specs.declared.rows.Scan.{Scan}

-- ---- the first of a list

one_more : {X : Type 0} (xs : List X) (n : ℕ) (x : X) → slice_get xs n ≡ Some x → take n xs ++ x ∷ [] ≡ take (suc n) xs
one_more [] n x is = absurd cc
one_more (y ∷ xs) zero x is = let same : y ≡ x = cc in ap (λ z. z ∷ []) (sym same)
one_more (y ∷ xs) (suc n) x is = ap (λ zs. y ∷ zs) (one_more xs n x is)

no_more : {X : Type 0} (xs : List X) (n : ℕ) → slice_get xs n ≡ None → take n xs ≡ xs
no_more {X} [] n is = none n
  where
    none : (n : ℕ) → take {A = X} n [] ≡ []
    none zero = refl
    none (suc n) = refl
no_more (y ∷ xs) zero is = absurd cc
no_more (y ∷ xs) (suc n) is = ap (λ zs. y ∷ zs) (no_more xs n is)

longer : {X : Type 0} (xs : List X) (x : X) → length (xs ++ x ∷ []) ≡ suc (length xs)
longer [] x = refl
longer (y ∷ xs) x = ap suc (longer xs x)

-- ---- by number

row_at : (n : ℕ) (keys : List Key) (i : ℕ)
    → slice_get (map row_of (enumerate_from n keys)) i ≡ option_map (λ k. row_of (n + i, k)) (slice_get keys i)
row_at n [] i = refl
row_at n (k ∷ keys) zero = let here : n ≡ n + 0 = omega arith in ap (λ m. Some (row_of (m, k))) here
row_at n (k ∷ keys) (suc i) =
    let next : n + 1 + i ≡ n + suc i = omega arith in row_at (n + 1) keys i
    ∙ ap (λ m. option_map (λ j. row_of (m, j)) (slice_get keys i)) next

pub key_next : (keys : List Key) (last : ℕ) → key_at keys (last + 1) ≡ slice_get keys last
key_next keys last = rw add-one refl

-- the row after a number stands at the number's cursor
next_at : (t : Tables) (last : ℕ) (found : Option KeyRow) → HasNextRow (ByNumber last) t found
    → slice_get (rows_of t) last ≡ found
next_at t last found next =
    let number : 1 + last ≡ last + 1 = omega arith in
    row_at 1 t.keys last ∙ ap (λ m. option_map (λ k. row_of (m, k)) (slice_get t.keys last)) number
    ∙ ap (option_map (λ k. row_of (last + 1, k))) (sym (key_next t.keys last)) ∙ sym next

number_of : (last : ℕ) (row : KeyRow) (key : Option Key) → Some row ≡ option_map (λ k. row_of (last + 1, k)) key
    → row.number ≡ last + 1
number_of last row None is = absurd cc
number_of last row (Some k) is = let same : row ≡ row_of (last + 1, k) = cc in ap (λ (r : KeyRow). r.number) same

none_past : (t : Tables) (last : ℕ) → length t.keys ≤ last → HasNextRow (ByNumber last) t None
none_past t last past =
    ap (option_map (λ k. row_of (last + 1, k))) (sym (key_next t.keys last ∙ slice_get_past t.keys last past))

-- ---- by Protect Stop

-- a row after the cursor of the last of some rows in order is after all of them
after_all : (cursor : DueCursor) (rows : List KeyRow) (r : KeyRow) → AreInOrder rows
    → IsAfterKey (last_cursor cursor rows) (cursor_of_row r) → IsAfterAll rows r
after_all cursor [] r in_order after = All-nil (λ x. IsBefore x r)
after_all cursor (x ∷ []) r in_order after = All-cons (λ y. IsBefore y r) x [] after (All-nil (λ y. IsBefore y r))
after_all cursor (x ∷ y ∷ rows) r in_order after =
    let rest = after_all (cursor_of_row x) (y ∷ rows) r (rest_in_order IsBefore x (y ∷ rows) in_order) after in
    let next = in_order 0 1 r (omega arith) (omega arith) in
    All-cons (λ z. IsBefore z r) x (y ∷ rows) (before_trans x y r next (rest 0 r (omega arith))) rest

-- and the other way round
after_last : (rows : List KeyRow) (r : KeyRow) → 1 ≤ r.number → IsAfterAll rows r
    → IsAfterKey (last_cursor first_cursor rows) (cursor_of_row r)
after_last [] r numbered_from after = elim (cases_lt 0 (stop_of r)) [
  | inl later ↦ inl later
  | inr none ↦ inr (omega (arith, none), omega (arith, numbered_from))
]
after_last (x ∷ rows) r numbered_from after = from x rows after
  where
    from : (x : KeyRow) (rows : List KeyRow) → IsAfterAll (x ∷ rows) r
        → IsAfterKey (last_cursor (cursor_of_row x) rows) (cursor_of_row r)
    from x [] after = after 0 x (omega arith)
    from x (y ∷ rows) after = from y rows (All-tail (λ z. IsBefore z r) x (y ∷ rows) after)

last_is : (cursor : DueCursor) (rows : List KeyRow) (r : KeyRow) → last_cursor cursor (rows ++ r ∷ []) ≡ cursor_of_row r
last_is cursor [] r = refl
last_is cursor (x ∷ rows) r = last_is (cursor_of_row x) rows r

-- numbers rise from the first on
from_number : (n : ℕ) (keys : List Key) → All (λ (r : KeyRow). n ≤ r.number) (map row_of (enumerate_from n keys))
from_number n [] = All-nil (λ (r : KeyRow). n ≤ r.number)
from_number n (k ∷ keys) =
    let rows = map row_of (enumerate_from (n + 1) keys) in
    All-cons (λ (r : KeyRow). n ≤ r.number) (row_of (n, k)) rows (omega arith)
    (All-weaker (λ (r : KeyRow). n + 1 ≤ r.number) (λ (r : KeyRow). n ≤ r.number) (λ r le. omega (arith, le)) rows
    (from_number (n + 1) keys))

numbers_differ : (n : ℕ) (keys : List Key) → HaveOwnNumbers (map row_of (enumerate_from n keys))
numbers_differ n [] = λ i j d less within. absurd (omega arith)
numbers_differ n (k ∷ keys) =
    let rows = map row_of (enumerate_from (n + 1) keys) in
    AllPairs-cons (λ (r s : KeyRow). r.number ≢ s.number) (row_of (n, k)) rows
    (All-weaker (λ (r : KeyRow). n + 1 ≤ r.number) (λ (r : KeyRow). n ≢ r.number)
    (λ r le same. absurd (omega (arith, le, same))) rows (from_number (n + 1) keys)) (numbers_differ (n + 1) keys)

pub own_numbers_of : (t : Tables) → HaveOwnNumbers (rows_of t)
own_numbers_of t = numbers_differ 1 t.keys

module _ (t : Tables) (until : ℕ) (given : List KeyRow) (first : AreFirstDue (rows_of t) until given) where
  abbrev last : DueCursor
  last = last_cursor first_cursor given

  -- a due row that is after those is that of a key which comes after the last
  came : (s : KeyRow) → Contains (rows_of t) s → is_due until s ≡ true → IsAfterAll given s
      → (y : ℕ × Key) × (s ≡ row_of y) × ComesAfter until last t y
  came s there due after =
      let at = map_has row_of (numbered t.keys) s (contains_has (rows_of t) s there) in
      let y = at.0 in
      let number = All-contains (λ (r : KeyRow). 1 ≤ r.number) (rows_of t) s (from_number 1 t.keys) there in (
        y,
        at.2,
        record {
          there = at.1;
          due = subst (λ (r : KeyRow). is_due until r ≡ true) at.2 due;
          after = subst (λ (r : KeyRow). IsAfterKey last (cursor_of_row r)) at.2 (after_last given s number after);
        },
      )

  due_next : (x : ℕ × Key) → HasNextDue until last t (Some x) → AreFirstDue (rows_of t) until (given ++ row_of x ∷ [])
  due_next x next =
      let it = next.0 in
      next_first (rows_of t) until given (row_of x) first
      (has_contains (rows_of t) (row_of x) (has_map row_of (numbered t.keys) x it.there)) it.due
      (after_all first_cursor given (row_of x) first.in_order it.after)
      (λ s there due after.
      let y = came s there due after in
      elim (next.1 y.0 y.2) [
        | inl same ↦ inl (y.1 ∙ ap row_of same)
        | inr after ↦ inr (subst (IsBefore (row_of x)) (sym y.1) after)
      ])

  due_none : HasNextDue until last t None → AreDue (rows_of t) until given
  due_none none =
      all_first (rows_of t) until given (own_numbers_of t) first
      (λ s there due after. let y = came s there due after in none y.0 y.2)

-- ---- one row more

-- these rows are the first, and the scan is after them
pub record Scanned (scan : Scan) (all given : List KeyRow) : Type 0 where
  pub so_far : AreSoFar (due_until scan) all given
  pub after : IsAfterRows scan given

pub gives_some : (scan : Scan) (t : Tables) (given : List KeyRow) (row : KeyRow) → Scanned scan (rows_of t) given
    → HasNextRow scan t (Some row) → Scanned (after_row scan row) (rows_of t) (given ++ row ∷ [])
gives_some (ByNumber last) t given row so next =
    let at = next_at t last (Some row) next in
    let count : length (given ++ row ∷ []) ≡ suc last = longer given row ∙ ap suc (sym so.after) in
    let own : given ≡ take last (rows_of t) = so.so_far ∙ ap (λ n. take n (rows_of t)) (sym so.after) in
    record {
      so_far = ap (λ rows. rows ++ row ∷ []) own
          ∙ one_more (rows_of t) last row at ∙ ap (λ n. take n (rows_of t)) (sym count);
      after = let number = number_of last row (key_at t.keys (last + 1)) next in omega (arith, number, count);
    }
gives_some (ByStop until last run) t given row so next =
    let first = so.so_far in
    let here : HasNextDue until (last_cursor first_cursor given) t (Some next.0) = subst
    (λ cursor. HasNextDue until cursor t (Some next.0)) so.after next.2 in
    record {
      so_far = subst (λ r. AreFirstDue (rows_of t) until (given ++ r ∷ [])) (sym next.1)
          (due_next t until given first next.0 here);
      after = sym (last_is first_cursor given row);
    }

pub gives_none : (scan : Scan) (t : Tables) (given : List KeyRow) → Scanned scan (rows_of t) given
    → HasNextRow scan t None → AreAll (due_until scan) (rows_of t) given
gives_none (ByNumber last) t given so next =
    let own : given ≡ take last (rows_of t) = so.so_far ∙ ap (λ n. take n (rows_of t)) (sym so.after) in
    own ∙ no_more (rows_of t) last (next_at t last None next)
gives_none (ByStop until last run) t given so next =
    due_none t until given so.so_far (subst (λ cursor. HasNextDue until cursor t None) so.after next)

-- after the last number there is none
pub none_after : (t : Tables) (last count : ℕ) → length t.keys ≡ count → count ≤ last
    → HasNextRow (ByNumber last) t None
none_after t last count counted past = none_past t last (omega (arith, counted, past))
