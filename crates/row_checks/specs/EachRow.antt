-- Rows that show values one by one.
use Rattle.std.specs.Prelude.{List, [], ◌∷◌}
use Rattle.sqlite.specs.Order.{Row}

-- there are as many rows as values, and each row shows the value at its place
abbrev pub ShowEach : {A : Type 0} → (Row → A → Type 0) → List Row → List A → Type 0
ShowEach Shows [] [] = Unit {0}
ShowEach Shows (row ∷ rows) (value ∷ values) = Shows row value × ShowEach Shows rows values
ShowEach Shows [] (value ∷ values) = ⊥
ShowEach Shows (row ∷ rows) [] = ⊥
