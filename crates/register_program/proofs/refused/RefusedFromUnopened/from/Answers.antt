use Rattle.std.proofs.Common.{refl, subst}
use Rattle.sqlite.specs.Held.{Held}
use Rattle.register_program.specs.Life.{ClosesAs}
use Rattle.register_program.proofs.refused.RefusedFromUnopened.from.Goals as goal

pub returns : goal.returns
returns g c = record {
  same = c.refusal.ensures;
  store = c.close_connection_into_store.result;
  back = refl;
  closes = subst (λ (k : Held _). ClosesAs g.S.Store k c.close_connection_into_store.result)
      c.into_connection.ensures c.close_connection_into_store.ensures;
}
