-- What a call in a transaction does, from its parts.
use Rattle.std.proofs.Common.{◌≡◌, ℕ, Result, Ok, sym, subst}
use Rattle.std.specs.{Borrow.MutBor, Prelude.IsTrue, Prelude.List}
use Rattle.sqlite.specs.State.{State, Executes, ExecutesInside, HasCleanDisk, Survives}
use Rattle.sqlite.specs.{declared.error.Error.Error, Held.Held, Held.state, Order.Row as Cells}
use Rattle.sql_steps.specs.Steps.{DatabaseChange, StepsBy}
use Rattle.sql_steps.proofs.Stepping.{runs, writes}
use Rattle.sqlite_trees.specs.declared.store.Store.{Ghosts}
use Rattle.register_tables.specs.declared.counted.StepCount.{StepCount}
use Rattle.register_tables.specs.{StepCount.TakesInside, Within.Beside.Alters, Within.StepCount.WritesInside}

module _ {A E : Type 0} {sees : A → State} {name : A → ℕ} {most : ℕ} {old new : A} {before after : StepCount} where
  pub wrote : {Made : DatabaseChange} {r : Result (Unit {0}) E} → name new ≡ name old → TakesInside most before after
      → StepsBy (λ _. Made) (sees old) (sees new) r → WritesInside sees name most Made old new before after r
  wrote same counted made = record { same_reference = same; counted = counted; made = made }

  -- one statement was run, of this text and with these parameters
  pub ran : {Made : DatabaseChange} {asked : List ℕ} {bound : Cells} (sql : List ℕ) (params : Cells) (count : ℕ)
      → name new ≡ name old → TakesInside most before after
      → ((count : ℕ) → Executes sql params (sees old) (sees new) (Ok count) → Made (sees old).now (sees new).now)
      → asked ≡ sql → bound ≡ params
      → (HasCleanDisk (sees new) → IsTrue (sees old).in_transaction
      → ExecutesInside 0 asked bound (sees old) (sees new) (Ok count))
      → Survives (sees old) (sees new) (λ _. ⊥) → WritesInside {E = E} sees name most Made old new before after (Ok tt)
  ran {Made} sql params count same counted does sql_is params_are run survives =
      wrote same counted (runs Made sql params (sees old) (sees new) count does
      (λ clean inside. rw (sql_is, params_are) at (run clean inside)) survives)

  -- what was written is what was asked for
  pub wrote_so : {V : Type 0} {r : Result (Unit {0}) E} (Made : V → DatabaseChange) {asked made : V} → asked ≡ made
      → WritesInside sees name most (Made made) old new before after r
      → WritesInside sees name most (Made asked) old new before after r
  wrote_so {V} {r} Made is did = subst (λ v. WritesInside sees name most (Made v) old new before after r) (sym is) did

-- the same of a statement that changes the schema or meta, with what it does beside
pub altered : {S : Type 0} {g : Ghosts S} {Made Beside : DatabaseChange} {old new : MutBor (Held S)} {r : Result ℕ Error}
    {bound : Cells} (sql : List ℕ) (params : Cells) → new.ghost_name ≡ old.ghost_name
    → ((count : ℕ) → Executes sql params (state g old.now) (state g new.now) (Ok count)
    → Made (state g old.now).now (state g new.now).now)
    → ((count : ℕ) → Executes sql params (state g old.now) (state g new.now) (Ok count)
    → Beside (state g old.now).now (state g new.now).now)
    → bound ≡ params
    → (HasCleanDisk (state g new.now) → IsTrue (state g old.now).in_transaction
    → ExecutesInside 0 sql bound (state g old.now) (state g new.now) r)
    → Survives (state g old.now) (state g new.now) (λ _. ⊥) → Alters g Made Beside old new r
altered sql params same made beside params_are run survives = record {
  same_reference = same;
  made = writes _ sql params _ _ _ made (λ clean inside. rw params_are at (run clean inside)) survives;
  beside = writes _ sql params _ _ _ beside (λ clean inside. rw params_are at (run clean inside)) survives;
}
