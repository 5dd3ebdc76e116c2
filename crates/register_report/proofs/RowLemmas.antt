-- What a row that asks for a registration has in its fields.
use Rattle.std.proofs.Common.{◌≡◌, ◌≢◌, ℕ, zero, suc, ◌<◌, List, [], ◌∷◌, length, None, Some, arith}
use Rattle.csv.specs.Records.{field_at}

-- a place within a record has a field
pub has_field_at : (fields : List (List ℕ)) (place : ℕ) → place < length fields
    → field_at fields place ≢ None
unfolding field_at
has_field_at [] place lt e = absurd (omega arith)
has_field_at (f ∷ fields) zero lt e = absurd cc
has_field_at (f ∷ fields) (suc place) lt e = has_field_at fields place (omega arith) e

some_same : {A : Type 0} (a b : A) → Some a ≡ Some b → a ≡ b
some_same a b e = cc

-- a record of six fields is the list of them
pub six : (fields : List (List ℕ)) (a b c d e f : List ℕ) → length fields ≡ 6
    → field_at fields 0 ≡ Some a → field_at fields 1 ≡ Some b
    → field_at fields 2 ≡ Some c → field_at fields 3 ≡ Some d → field_at fields 4 ≡ Some e
    → field_at fields 5 ≡ Some f
    → fields ≡ a ∷ b ∷ c ∷ d ∷ e ∷ f ∷ []
unfolding field_at
six (u ∷ v ∷ w ∷ x ∷ y ∷ z ∷ []) a b c d e f len pa pb pc pd pe pf =
    let ea = some_same u a pa in
    let eb = some_same v b pb in
    let ec = some_same w c pc in
    let ed = some_same x d pd in
    let ee = some_same y e pe in
    let ef = some_same z f pf in
    cc
six [] a b c d e f len pa pb pc pd pe pf = absurd cc
six (u ∷ []) a b c d e f len pa pb pc pd pe pf = absurd cc
six (u ∷ v ∷ []) a b c d e f len pa pb pc pd pe pf = absurd cc
six (u ∷ v ∷ w ∷ []) a b c d e f len pa pb pc pd pe pf = absurd cc
six (u ∷ v ∷ w ∷ x ∷ []) a b c d e f len pa pb pc pd pe pf = absurd cc
six (u ∷ v ∷ w ∷ x ∷ y ∷ []) a b c d e f len pa pb pc pd pe pf = absurd cc
six (u ∷ v ∷ w ∷ x ∷ y ∷ z ∷ t ∷ rest) a b c d e f len pa pb pc pd pe pf = absurd (omega arith)
