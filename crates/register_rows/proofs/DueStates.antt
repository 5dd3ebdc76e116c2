-- Two moves, one after the other, bring each key to its state at a later moment.
use Rattle.std.proofs.Common.{◌≡◌, ◌≤◌, ◌==◌, ◌&&◌, cond, ℕ, Bool, true, not, List, [], ◌∷◌, map, refl, subst, arith}
use Rattle.std.specs.List.{AllByRecursion}
use Rattle.sqlite.specs.Effect.{Database}
use Rattle.lifecycle_core.specs.declared.state.State.TheVariants.{PreActive, Active, Deactivated, Compromised}
use Rattle.lifecycle_core.specs.declared.state.State.TheVariants.{Destroyed, DestroyedCompromised}
use Rattle.lifecycle_core.specs.{declared.state.State.State, State.state_code, Row.IsRightAt}
use Rattle.sql_steps.specs.Within.{Then}
use Rattle.register_core.specs.declared.key.Key.{Key}
use Rattle.register_tables.specs.TableChanges.{Makes, AreRightAt, advanced, with_keys_advanced}
use Rattle.register_rows.specs.declared.accepted_request.DueDate.TheVariants.{Activation, Deactivation}
use Rattle.register_rows.specs.Within.Due.{moved_on, with_each}
use Rattle.register_tables.specs.Schema.{Holds}
use Rattle.register_rows.specs.Within.TableChanges.{Always}

-- the state where a key is destroyed, compromised, activated or deactivated, or not
abbrev state_by : (d c a e : Bool) → State
state_by d c a e =
    cond (d && c) DestroyedCompromised
    (cond d Destroyed (cond c Compromised (cond (not a) PreActive (cond e Deactivated Active))))

abbrev stepped : State → State → Bool → State → State
stepped from to reached s = cond ((state_code s == state_code from) && reached) to s

-- what was reached stays so
abbrev Stays : Bool → Bool → Type 0
Stays before after = before ≡ true → after ≡ true

key_moved : (k : Key) (latest at : ℕ) → latest ≤ at → IsRightAt k.row latest
    → moved_on Deactivation at (moved_on Activation at k) ≡ advanced at k
key_moved k latest at later right = search arith

keys_moved : (keys : List Key) (latest at : ℕ) → latest ≤ at → AllByRecursion (λ k. IsRightAt k.row latest) keys
    → map (moved_on Deactivation at) (map (moved_on Activation at) keys) ≡ map (advanced at) keys
keys_moved [] latest at later right = refl
keys_moved (k ∷ keys) latest at later right = search (arith, key_moved, keys_moved keys latest at later right.1)

-- the two, one after the other
pub moves_all : (latest at : ℕ) → latest ≤ at → (old new : Database)
    → Then (Makes Always (with_each (moved_on Activation at))) (Makes Always (with_each (moved_on Deactivation at)))
    old new → Makes (AreRightAt latest) (with_keys_advanced at) old new
moves_all latest at later old new both t holds right =
    subst (λ ks. Holds (record t { keys = ks }) new) (keys_moved t.keys latest at later right)
    (both.2 (with_each (moved_on Activation at) t) (both.1 t holds tt) tt)

-- nothing is to do where no time has passed
stay : (keys : List Key) (at : ℕ) → AllByRecursion (λ k. IsRightAt k.row at) keys → keys ≡ map (advanced at) keys
stay [] at right = refl
stay (k ∷ keys) at right = search (arith, stay keys at right.1)

pub none_moves : (at : ℕ) (old : Database) → Makes (AreRightAt at) (with_keys_advanced at) old old
none_moves at old t holds right = subst (λ ks. Holds (record t { keys = ks }) old) (stay t.keys at right) holds
