-- Members that are taken one after the other, by their names.
use Rattle.std.proofs.Common.{◌≡◌, ◌≢◌, ℕ, zero, suc, ◌+◌, ◌<◌, ◌≤◌, List, [], ◌∷◌, ◌++◌, length}
use Rattle.std.proofs.Common.{take, drop, get_or, map, refl, sym, ap, ◌∙◌, arith, append_assoc, append-nil}
use Rattle.std.proofs.lemmas.List.{drop_more, drop_all}
use Rattle.std.specs.List.{zip}
use Rattle.serde_json.specs.Data.{Data, Members, null, member, no_members}
use Rattle.std.specs.Borrow.{Bor}
use Rattle.serde_json.specs.View.{view}
use Rattle.serde_json.specs.declared.value.Value.{Value}
use Rattle.http_messages.specs.CommandValue.{members_of}
use Rattle.http_messages.specs.declared.command_value.TheConstants.{MAX_MEMBERS}

-- these names, with whatever values come after the first ones, are all the members if the rest are the names left
abbrev pub Given : Members → Members → List (List ℕ) → List Data → ℕ → Type 0
Given all rest names values at =
    (tail : List Data) → length tail + at ≡ length names → rest ≡ members_of (zip (drop at names) tail)
    → all ≡ members_of (zip names (take at values ++ tail))

-- where all the members have these names, the rest have those that are left
abbrev pub Left : Members → Members → List (List ℕ) → ℕ → Type 0
Left all rest names at =
    (values : List Data) → length values ≡ length names → all ≡ members_of (zip names values)
    → rest ≡ members_of (zip (drop at names) (drop at values))

module _ (all rest : Members) (names : List (List ℕ)) (at : ℕ) (name : List ℕ) (within : at < length names)
    (name_is : name ≡ get_or names at name) where
  names_left : drop at names ≡ name ∷ drop (at + 1) names
  names_left = drop_more names at name within ∙ ap (λ n. n ∷ drop (at + 1) names) (sym name_is)

  module _ (value : Data) (more : Members) (is : rest ≡ member name value more) where
    pub Given-more : (values later : List Data) → take (at + 1) later ≡ take at values ++ value ∷ []
        → Given all rest names values at → Given all more names later (at + 1)
    Given-more values later stored given tail long left =
        let whole : rest ≡ members_of (zip (drop at names) (value ∷ tail)) =
        is ∙ ap (member name value) left ∙ sym (ap (λ l. members_of (zip l (value ∷ tail))) names_left) in
        given (value ∷ tail) (omega arith) whole
        ∙ ap (λ l. members_of (zip names l)) (sym (append_assoc (take at values) (value ∷ []) tail)
        ∙ ap (λ l. l ++ tail) (sym stored))

    pub Left-more : Left all rest names at → Left all more names (at + 1)
    Left-more left values long whole =
        let values_left = drop_more values at value (omega arith) in
        let both = left values long whole
        ∙ (λ i. members_of (zip (names_left i) (values_left i))) in
        cc (is, both)

  -- no member of this name comes next
  pub none_next : ((d : Data) (more : Members) → rest ≢ member name d more) → Left all rest names at
      → (values : List Data) → length values ≡ length names → all ≢ members_of (zip names values)
  none_next none left values long whole =
      let values_left = drop_more values at null (omega arith) in
      none _ _ (left values long whole ∙ (λ i. members_of (zip (names_left i) (values_left i))))

zip-nil : (names : List (List ℕ)) → zip {X = Data} names [] ≡ []
zip-nil [] = refl
zip-nil (name ∷ names) = refl

zip-take : (names : List (List ℕ)) (values : List Data) → zip names (take (length names) values) ≡ zip names values
zip-take [] values = refl
zip-take (name ∷ names) [] = refl
zip-take (name ∷ names) (value ∷ values) = ap (λ pairs. (name, value) ∷ pairs) (zip-take names values)

-- no name is left, and no member
pub Given-end : (all rest : Members) (names : List (List ℕ)) (values : List Data) (at : ℕ) → at ≡ length names
    → rest ≡ no_members → Given all rest names values at → all ≡ members_of (zip names values)
Given-end all rest names values at end none given =
    given [] (omega arith) (none ∙ ap members_of (sym (zip-nil (drop at names))))
    ∙ ap (λ l. members_of (zip names l)) (append-nil (take at values) ∙ ap (λ n. take n values) end)
    ∙ ap members_of (zip-take names values)

-- no name is left, and a member
pub none_more : (all rest : Members) (names : List (List ℕ)) (at : ℕ) → length names ≤ at → Left all rest names at
    → (rest ≡ no_members → ⊥) → (values : List Data) → length values ≡ length names
    → all ≢ members_of (zip names values)
none_more all rest names at end left some values long whole =
    some (left values long whole ∙ ap (λ l. members_of (zip l (drop at values))) (drop_all at names end))

-- ---- values by their places

-- from this place on the values show these
abbrev pub ShowFrom : ℕ → List (Bor Value) → List Data → Type 0
ShowFrom at values [] = Unit {0}
ShowFrom at values (shown ∷ more) =
    ((d : Bor Value) × (view (get_or values at d).now ≡ shown)) × ShowFrom (at + 1) values more

-- so the members are these
pub named_as : (names : List (List ℕ)) (values : List (Bor Value)) (shown : List Data) (at : ℕ)
    → length shown ≡ length names → length values ≡ MAX_MEMBERS → at + length names ≤ MAX_MEMBERS
    → ShowFrom at values shown
    → members_of (zip names (map (λ value. view value.now) (drop at values))) ≡ members_of (zip names shown)
named_as [] values shown at many room few each = refl
named_as (name ∷ names) values [] at many room few each = absurd (cc)
named_as (name ∷ names) values (x ∷ shown) at many room few each =
    let front = drop_more values at each.0.0 (omega arith) in
    let rest = named_as names values shown (at + 1) (omega arith) room (omega arith) each.1 in
    ap (λ l. members_of (zip (name ∷ names) (map (λ value. view value.now) l))) front
    ∙ (λ i. member name (each.0.1 i) (rest i))

-- and where they are these, the value at a place shows this
pub at_place : (names : List (List ℕ)) (values : List (Bor Value)) (shown : List Data) (at : ℕ) (d : Bor Value)
    → members_of (zip names (map (λ value. view value.now) values)) ≡ members_of (zip names shown)
    → at < length names → length names ≤ length values → length shown ≡ length names
    → view (get_or values at d).now ≡ get_or shown at null
at_place [] values shown at d same within room many = absurd (omega arith)
at_place (name ∷ names) [] shown at d same within room many = absurd (omega arith)
at_place (name ∷ names) (value ∷ values) [] at d same within room many = absurd (cc)
at_place (name ∷ names) (value ∷ values) (x ∷ shown) zero d same within room many = cc
at_place (name ∷ names) (value ∷ values) (x ∷ shown) (suc at) d same within room many =
    at_place names values shown at d (cc) (omega arith) (omega arith) (omega arith)

-- the same, where all that is known is whose members these are
pub shown_at : (names : List (List ℕ)) (shown : List Data) (at : ℕ) {ms : Members} (values : List (Bor Value))
    (d : Bor Value) → length values ≡ MAX_MEMBERS → ms ≡ members_of (zip names (map (λ value. view value.now) values))
    → ms ≡ members_of (zip names shown) → at < length names → length names ≤ MAX_MEMBERS
    → length shown ≡ length names → view (get_or values at d).now ≡ get_or shown at null
shown_at names shown at values d room found is within few many =
    at_place names values shown at d (sym found ∙ is) within (omega arith) many
