-- What functions within the crate say of one another, beside `specs/Text.antt`.
use Rattle.std.proofs.Common.{◌≡◌, ℕ, ◌-◌, ◌≤◌, List, ◌++◌, length, drop, replicate, refl, ◌∙◌, arith}
use Rattle.std.proofs.lemmas.List.{length-append, length-drop, length-replicate, drop_at, drop-replicate}

-- after a text that was copied into zeros there are zeros still
abbrev zeros : ℕ → List ℕ
zeros n = replicate n 0

pub filled_length : (n : ℕ) (xs : List ℕ) → length xs ≤ n → length (xs ++ drop (length xs) (replicate n 0)) ≡ n
filled_length n xs le =
    let all : length (zeros n) ≡ n = length-replicate n 0 in
    omega (arith, length-append xs (drop (length xs) (zeros n)), length-drop (length xs) (zeros n), all)

pub filled_rest : (n : ℕ) (xs : List ℕ) → drop (length xs) (xs ++ drop (length xs) (replicate n 0))
    ≡ replicate (n - length xs) 0
filled_rest n xs = drop_at xs (drop (length xs) (zeros n)) (length xs) refl ∙ drop-replicate (length xs) n 0
