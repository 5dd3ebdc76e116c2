-- The rows of keys stand in order of their numbers.
use Rattle.std.proofs.Common.{◌≡◌, ℕ, ◌+◌, ◌≤◌, ◌<◌, pos, List, [], ◌∷◌, ◌++◌, length, map, sym, ap, ◌∙◌, arith}
use Rattle.std.proofs.lemmas.Int.{ints}
use Rattle.std.proofs.lemmas.List.{map-append}
use Rattle.std.specs.{Cmp.int_cmp_is, List.AllByRecursion, List.enumerate_from, declared.cmp.Ordering.TheVariants.Less}
use Rattle.sqlite.specs.Tree.{IsTable, put_row}
use Rattle.sqlite_value.proofs.OrderLemmas.{value_cmp-Int}
use Rattle.sql_steps.proofs.Appending.{Below, put_last}
use Rattle.register_core.specs.declared.key.Key.{Key}
use Rattle.register_tables.specs.Tables.{key_row, numbered}

below : (m n : ℕ) (k j : Key) → m < n → Below (key_row (m, k)) (key_row (n, j))
below m n k j less = value_cmp-Int (pos m) (pos n) ∙ sym (int_cmp_is (pos m) (pos n) Less (omega (arith, ints)))

-- a key whose number is lower stands before all of them
above : (m n : ℕ) (k : Key) (keys : List Key) → m < n
    → AllByRecursion (Below (key_row (m, k))) (map key_row (enumerate_from n keys))
above m n k [] less = tt
above m n k (j ∷ keys) less = (below m n k j less, above m (n + 1) k keys (omega arith))

ascends : (n : ℕ) (keys : List Key) → IsTable (map key_row (enumerate_from n keys))
ascends n [] = tt
ascends n (k ∷ keys) = (above n (n + 1) k keys (omega arith), ascends (n + 1) keys)

pub is_table : (keys : List Key) → IsTable (map key_row (numbered keys))
is_table keys = ascends 1 keys

-- a key whose number is higher stands after all of them
under : (n m : ℕ) (keys : List Key) (k : Key) → n + length keys ≤ m
    → AllByRecursion (λ row. Below row (key_row (m, k))) (map key_row (enumerate_from n keys))
under n m [] k most = tt
under n m (j ∷ keys) k most = (below n m j k (omega arith), under (n + 1) m keys k (omega arith))

pub enumerate_append : (n : ℕ) (keys : List Key) (k : Key)
    → enumerate_from n (keys ++ k ∷ []) ≡ enumerate_from n keys ++ (n + length keys, k) ∷ []
enumerate_append n [] k = ap (λ m. (m, k) ∷ []) (omega arith)
enumerate_append n (j ∷ keys) k = search (arith, enumerate_append (n + 1) keys k)

-- the row of the key that comes next goes to the end
pub put_next : (keys : List Key) (number : ℕ) (k : Key) → number ≡ length keys + 1
    → put_row (key_row (number, k)) (map key_row (numbered keys)) ≡ map key_row (numbered (keys ++ k ∷ []))
put_next keys number k next =
    let same : 1 + length keys ≡ number = omega arith in
    put_last (map key_row (numbered keys)) (key_row (number, k)) (under 1 number keys k (omega arith))
    ∙ sym (map-append key_row (numbered keys) ((number, k) ∷ []))
    ∙ ap (λ m. map key_row (numbered keys ++ (m, k) ∷ [])) (sym same)
    ∙ ap (map key_row) (sym (enumerate_append 1 keys k))
