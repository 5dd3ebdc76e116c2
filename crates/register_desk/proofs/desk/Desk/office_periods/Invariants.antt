use Rattle.std.proofs.Common.{◌≡◌, ◌*◌}
use Rattle.register_desk.specs.Desk.{ChangesNothing, IsClean, IsWhole, TakesSteps}
use Rattle.register_desk.specs.Register.{Sees}
use Rattle.register_tables.specs.Tables.{Tables}
use Rattle.register_desk.proofs.TablesInRange.{AreSet}
use Rattle.register_desk.proofs.desk.Desk.office_periods.Given as goal

abbrev pub invariant-kinds : goal.invariant-kinds
invariant-kinds g l = record {
  mark : l.self.is_broken ≡ l.fn.self.is_broken;
  reads : ChangesNothing g.S.Store l.fn.self l.self;
  steps : TakesSteps (2 * l.kind-index) l.fn.self l.self;
  found :
      (t : Tables) → Sees g.S.Store t l.fn.self → IsWhole l.fn.self → IsClean g.S.Store l.self
      → AreSet t l.kind-index l.periods;
}
