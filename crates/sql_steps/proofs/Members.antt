-- Membership in lists.
use Rattle.std.proofs.Common.{◌≡◌, inl, inr, zero, suc, List, [], ◌∷◌, map, filter, Bool, true, cond, refl, sym, subst}
use Rattle.std.proofs.Common.{arith}
use Rattle.std.specs.{List.Contains, List.flat_map, List.Sorted.IsPermutation}
use Rattle.sqlite_trees.proofs.ListLemmas.{filter_as_flat_map, IsPermutation-flat_map}
use Rattle.sqlite_rules.specs.Lists.{Has}

pub contains_has : {A : Type 0} (xs : List A) (x : A) → Contains xs x → Has xs x
contains_has [] x (i, below, is) = absurd (omega arith)
contains_has (y ∷ ys) x (zero, below, is) = inl (sym is)
contains_has (y ∷ ys) x (suc i, below, is) = inr (contains_has ys x (i, omega arith, is))

pub has_contains : {A : Type 0} (xs : List A) (x : A) → Has xs x → Contains xs x
has_contains [] x h = absurd h
has_contains (y ∷ ys) x (inl e) = (0, omega arith, sym e)
has_contains (y ∷ ys) x (inr h) = let r = has_contains ys x h in (suc r.0, omega arith, r.2)

-- what a filter and a map picked came from an element that passes
step_from : {A B : Type 0} (f : A → B) (q : A
    → Bool) (x : A) (xs : List A) (y : B) (later : Has (map f (filter q xs)) y → (z : A) × Has xs z × (q z ≡ true)
    × (y ≡ f z)) (b : Bool) → q x ≡ b
    → Has (map f (cond b (x ∷ filter q xs) (filter q xs))) y → (z : A) × Has (x ∷ xs) z × (q z ≡ true) × (y ≡ f z)
step_from f q x xs y later b is k = search arith

pub from_picked : {A B : Type 0} (f : A → B) (q : A → Bool) (xs : List A) (y : B) → Has (map f (filter q xs)) y
    → (x : A) × Has xs x × (q x ≡ true) × (y ≡ f x)
from_picked f q [] y h = absurd h
from_picked f q (x ∷ xs) y h = step_from f q x xs y (from_picked f q xs y) (q x) refl h

-- an element that passes is picked
step_to : {A B : Type 0} (f : A → B) (q : A → Bool) (y : A) (ys : List A) (x : A) (later : Has ys x
    → Has (map f (filter q ys)) (f x)) → q x ≡ true → (b : Bool) → q y ≡ b → Has (y ∷ ys) x
    → Has (map f (cond b (y ∷ filter q ys) (filter q ys))) (f x)
step_to f q y ys x later is b here it = search arith

pub to_picked : {A B : Type 0} (f : A → B) (q : A → Bool) (xs : List A) (x : A) → Has xs x → q x ≡ true
    → Has (map f (filter q xs)) (f x)
to_picked f q [] x h is = absurd h
to_picked f q (y ∷ ys) x h is = step_to f q y ys x (λ k. to_picked f q ys x k is) is (q y) refl h

-- what passes of a permutation is a permutation of what passes
pub filter_permutation : {A : Type 0} (q : A → Bool) (xs ys : List A) → IsPermutation xs ys
    → IsPermutation (filter q xs) (filter q ys)
filter_permutation q xs ys same =
    subst (λ l. IsPermutation l (filter q ys)) (sym (filter_as_flat_map q xs))
    (subst (IsPermutation (flat_map (λ x. cond (q x) (x ∷ []) []) xs)) (sym (filter_as_flat_map q ys))
    (IsPermutation-flat_map (λ x. cond (q x) (x ∷ []) []) xs ys same))
