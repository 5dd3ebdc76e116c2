-- How many approvals, of different custodians, the destruction of a key needs. The range is this register's own.
use Rattle.std.specs.Prelude.{ℕ, ◌≤◌}

-- the fewest approvals that the destruction of a key may need, which it needs where its owner has set no number (own)
abbrev pub min_approvals : ℕ
min_approvals = 2

-- a number of approvals that the destruction of a key may need: 2 to 5 (own)
abbrev pub IsQuorum : ℕ → Type 0
IsQuorum n = (min_approvals ≤ n) × (n ≤ 5)
