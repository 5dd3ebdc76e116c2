-- What a turn at a reader or a writer leaves of its counts.
use Rattle.std.specs.Prelude.{◌≡◌, ◌⊎◌, ℕ, ◌+◌, ◌-◌, ◌≤◌, ◌^◌, max, min, Bool, true}

-- A count with one added, but none past the last of a `u64`. Own.
abbrev pub one_more : ℕ → ℕ
one_more count = max count (min (count + 1) (2 ^ 64 - 1))

-- why a call gave up: a turn failed, or the bound on turns was met
abbrev pub IsFaulted : Bool → ℕ → ℕ → Type 0
IsFaulted failed max_turns turns = (failed ≡ true) ⊎ (max_turns ≤ turns)
