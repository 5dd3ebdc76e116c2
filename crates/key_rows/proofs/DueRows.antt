-- The rows that are due, gathered one after another, and the laws about them.
use Rattle.std.proofs.Common.{◌≡◌, ◌≢◌, ◌⊎◌, inl, inr, ℕ, Bool, true, not, List, [], ◌∷◌, ◌++◌, length, refl, sym, ap}
use Rattle.std.proofs.Common.{subst, ◌∙◌, arith, slice_index_or, append-nil, length-append}
use Rattle.std.proofs.lemmas.List.Elements.{All-contains, All-contains_itself, All-filter, All-push}
use Rattle.std.proofs.lemmas.List.Elements.{Contains-append_cases, Contains-append_left, Contains-push}
use Rattle.std.proofs.lemmas.List.Elements.{Contains-push_cases, filter_passes}
use Rattle.std.proofs.lemmas.List.Kept.{AllPairs-filter}
use Rattle.std.proofs.lemmas.List.Quantifiers.{all_pairs_push}
use Rattle.std.proofs.lemmas.List.Sorted.{Contains-permutation, IsPermutation-filter_both, IsPermutation-sym}
use Rattle.std.specs.{Prelude.filter, List.Contains}
use Rattle.key_rows.specs.declared.key_row.KeyRow.{KeyRow}
use Rattle.key_rows.specs.DueRows.{is_due, IsBefore, IsAfter, AreInOrder, AreDue, AreThose, AreFirstDue, HaveOwnNumbers}
use Rattle.key_rows.proofs.DueOrder.{apart, begun, ordered}

-- ---- those for which something holds

left_of : (p : KeyRow → Bool) (rows : List KeyRow) (x : KeyRow) → Contains (filter p rows) x
    → Contains rows x × (p x ≡ true)
left_of p rows x there = (
  All-contains (Contains rows) (filter p rows) x (All-filter p (Contains rows) rows (All-contains_itself rows)) there,
  All-contains (λ y. p y ≡ true) (filter p rows) x (filter_passes p rows) there,
)

stays_left : (p : KeyRow → Bool) (rows : List KeyRow) (x : KeyRow) → Contains rows x → p x ≡ true
    → Contains (filter p rows) x
stays_left p rows x there is =
    let others = filter (λ y. not (p y)) rows in
    let both = IsPermutation-filter_both p (λ y. not (p y)) (λ y. refl) rows in
    let in_both = Contains-permutation rows (filter p rows ++ others) x both there in
    elim (Contains-append_cases (filter p rows) others x in_both) [
      | inl left ↦ left
      | inr other ↦ absurd (let fails = (left_of (λ y. not (p y)) rows x other).1 in cc)
    ]

-- a row stands among those for which something holds where it stands among all, and it holds of it
module _ (holds : KeyRow → Bool) (all rows : List KeyRow) (those : AreThose holds all rows) (r : KeyRow) where
  each : Contains rows r → Contains all r × (holds r ≡ true)
  each there = left_of holds all r
      (Contains-permutation rows (filter holds all) r (IsPermutation-sym (filter holds all) rows those.are) there)

  every : Contains all r → holds r ≡ true → Contains rows r
  every there is = Contains-permutation (filter holds all) rows r those.are (stays_left holds all r there is)

-- two lists in order with the same rows
same_rows : (rows others : List KeyRow) → AreInOrder rows → AreInOrder others
    → ((r : KeyRow) → Contains rows r → Contains others r) → ((r : KeyRow) → Contains others r → Contains rows r)
    → rows ≡ others
same_rows rows others of_rows of_others to from =
    let (rest, is) = begun rows others of_rows of_others to (λ r h. inl (from r h)) in
    let (more, it) = begun others rows of_others of_rows from (λ r h. inl (to r h)) in
    let lengths = length-append rows rest in
    let counts = length-append others more in
    let none : length rest ≡ 0 = omega (arith, lengths, counts, ap length is, ap length it) in
    sym (is ∙ ap (λ zs. rows ++ zs) (nothing rest none) ∙ append-nil rows)
  where
    nothing : (zs : List KeyRow) → length zs ≡ 0 → zs ≡ []
    nothing [] none = refl
    nothing (z ∷ zs) none = absurd (omega arith)

-- ---- the laws

pub one_list : (holds : KeyRow → Bool) (all rows others : List KeyRow) → AreThose holds all rows
    → AreThose holds all others → rows ≡ others
one_list holds all rows others p q = same_rows rows others p.in_order q.in_order
    (λ r h. let e = each holds all rows p r h in every holds all others q r e.0 e.1)
    (λ r h. let e = each holds all others q r h in every holds all rows p r e.0 e.1)

pub first_begin : (all : List KeyRow) (until : ℕ) (first rows : List KeyRow) → AreFirstDue all until first
    → AreDue all until rows → (rest : List KeyRow) × (rows ≡ first ++ rest)
first_begin all until first rows p q = begun first rows p.in_order q.in_order
    (λ r h. let e = p.each r h in every (is_due until) all rows q r e.0 e.1)
    (λ r h. let e = each (is_due until) all rows q r h in p.others r e.0 e.1)

pub a_list : (holds : KeyRow → Bool) (all : List KeyRow) → HaveOwnNumbers all
    → (rows : List KeyRow) × AreThose holds all rows
a_list holds all own =
    let some = filter holds all in
    let numbers = AllPairs-filter (λ r s. r.number ≢ s.number) holds all own in
    let (rows, are, of) = ordered some
    (λ i j d lt within. apart (slice_index_or some i d) (slice_index_or some j d) (numbers i j d lt within)) in
    (rows, record { in_order = of; are = are })

-- those of the rows for which more holds are those of all
pub fewer : (wide narrow : KeyRow → Bool) (all rows those : List KeyRow) → AreThose wide all rows
    → AreThose narrow all those → ((r : KeyRow) → Contains all r → narrow r ≡ true → wide r ≡ true)
    → filter narrow rows ≡ those
fewer wide narrow all rows those p q within =
    same_rows (filter narrow rows) those (AllPairs-filter IsBefore narrow rows p.in_order) q.in_order
    (λ r h.
    let e = left_of narrow rows r h in
    every narrow all those q r (each wide all rows p r e.0).0 e.1)
    (λ r h.
    let e = each narrow all those q r h in
    stays_left narrow rows r (every wide all rows p r e.0 (within r e.0 e.1)) e.1)

-- ---- one after another

-- With the next of them they are the first: it comes after all of them, and before each other that is due after them.
pub next_first : (all : List KeyRow) (until : ℕ) (rows : List KeyRow) (r : KeyRow) → AreFirstDue all until rows
    → Contains all r → is_due until r ≡ true → IsAfter rows r
    → ((s : KeyRow) → Contains all s → is_due until s ≡ true → IsAfter rows s → (s ≡ r) ⊎ IsBefore r s)
    → AreFirstDue all until (rows ++ r ∷ [])
next_first all until rows r first there due later next = record {
  in_order = all_pairs_push IsBefore rows r first.in_order later;
  each = λ s h. elim (Contains-push_cases rows r s h) [
    | inl k ↦ first.each s k
    | inr e ↦ (subst (Contains all) e there, subst (λ x. is_due until x ≡ true) e due)
  ];
  others = λ s is_there is_due_then. elim (first.others s is_there is_due_then) [
    | inl k ↦ inl (Contains-append_left rows (r ∷ []) s k)
    | inr after ↦ elim (next s is_there is_due_then after) [
      | inl e ↦ inl (subst (Contains (rows ++ r ∷ [])) (sym e) (Contains-push rows r))
      | inr before ↦ inr (All-push (λ x. IsBefore x s) rows r after before)
    ]
  ];
}

-- where no other is due after them, they are all
pub all_first : (all : List KeyRow) (until : ℕ) (rows : List KeyRow) → HaveOwnNumbers all → AreFirstDue all until rows
    → ((s : KeyRow) → Contains all s → is_due until s ≡ true → IsAfter rows s → ⊥) → AreDue all until rows
all_first all until rows own first none =
    let (whole, are) = a_list (is_due until) all own in
    let same = same_rows whole rows are.in_order first.in_order
    (λ r h. let e = each (is_due until) all whole are r h in elim (first.others r e.0 e.1) [
      | inl there ↦ there
      | inr later ↦ absurd (none r e.0 e.1 later)
    ])
    (λ r h. let e = first.each r h in every (is_due until) all whole are r e.0 e.1) in
    subst (AreDue all until) same are
