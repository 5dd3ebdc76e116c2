use Rattle.std.proofs.Common.{[], arith, refl}
use Rattle.register_desk.specs.OpenRefusal.{connection_in, refusal_in}
use Rattle.register_desk.proofs.Found.{finds_nothing, leaves_alone, shows_table}
use Rattle.register_program.proofs.{Living.of_desk, Refusing.made_closed, Refusing.made_none, Refusing.refuses_making}
use Rattle.register_program.proofs.register_file.init_file.Goals as goal

pub returns : goal.returns
returns g c = record {
  leaves = λ none clean.
      let after = c.close_desk-closed.ensures.clean clean in
      let desk = c.in_ok-desk in
      let stands = desk.ensures.made.stands
      (finds_nothing _ _ none (c.in_ok-connection.ensures.shows (desk.ensures.made.clean after))) in
      let alone = leaves_alone g.F.Opened.Store [] desk.desk stands desk.ensures.made.whole after in
      of_desk (c.close_desk-closed.ensures.closes clean) (λ may leaves. leaves.one_of [] [] alone);
  made = λ clean.
      let desk = c.in_ok-desk in
      let after = c.close_desk-closed.ensures.clean clean in
      record {
        old = c.in_ok-connection.connection;
        shows = c.in_ok-connection.ensures.shows (desk.ensures.made.clean after);
        none = λ there. (desk.ensures.spares there).refused after;
        leaves = of_desk (c.close_desk-closed.ensures.closes clean)
            (λ may leaves. leaves.made c.in_ok-connection.connection (desk.ensures.made.leaves_new after));
      };
  spares = λ h holds clean.
      let desk = c.in_ok-desk in
      let after = c.close_desk-closed.ensures.clean clean in
      let there = shows_table h _ _ holds (c.in_ok-connection.ensures.shows (desk.ensures.made.clean after)) in
      (desk.ensures.spares there).refused after;
  refuses = tt;
}

pub returns-in_err-connection : goal.returns-in_err-connection
returns-in_err-connection g c =
    made_closed _ _ _ _
    c.in_err-connection.field-0.0.failed c.in_err-connection.ensures.stands c.in_err-connection.field-0.0.error
    c.from_residual.result c.from_residual.ensures.1

pub returns-in_err-desk : goal.returns-in_err-desk
returns-in_err-desk g c =
    let it = c.in_err-desk.ensures in
    let unopened = c.in_err-desk.field-0.0 in
    made_none _ _ _ _ _ c.from_residual-in_err-desk.result
    c.from_residual-in_err-desk.ensures.1
    (λ refused gives. refuses_making _ _ _ _ g.met.F.Files.opens_again
    c.in_ok-connection.connection (connection_in unopened) c.in_ok-connection.ensures.shows
    (λ clean. omega (arith, it.refused.leaves.stop.clean, clean)) (refusal_in unopened) it.refused.reason
    (λ is. (it.refused.there is).there)
    it.refused.leaves_there it.refused.leaves_made (λ there. (it.spares there).leaves) unopened
    refused gives refl refl)
