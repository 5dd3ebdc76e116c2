-- What is made where a look for tables found none.
use Rattle.std.proofs.Common.{◌≡◌, Bool, false, Ok, arith}
use Rattle.sqlite.specs.{Schema.Schema, State.State}
use Rattle.sql_steps.specs.Steps.{DatabaseChange, StepsBy}
use Rattle.sql_steps.proofs.Stepping.{steps_as, steps_then}
use Rattle.register_schema.specs.{Creation.WhereNone, Within.Creation.Answers}

pub made_where_none : {E F G : Type 0} (HasOne : Schema
    → Type 0) (Made : DatabaseChange) (a b d : State) (found : Bool) (x : Unit {0})
    → found ≡ false → StepsBy {E = E} (Answers HasOne) a b (Ok found) → StepsBy {E = F} (λ _. Made) b d (Ok x)
    → StepsBy {E = G} (λ _. WhereNone HasOne Made) a d (Ok (tt {0}))
made_where_none {E = E} {F = F} {G = G} HasOne Made a b d found x none look made = search (arith, steps_as, steps_then)
