use Rattle.std.proofs.Common.{arith, refl}
use Rattle.register_desk.specs.OpenRefusal.{connection_in, refusal_in}
use Rattle.register_desk.proofs.Found.{finds_nothing, finds_register, lawful_there}
use Rattle.register_desk.proofs.Opened.{meet_checks, stored_in}
use Rattle.register_desk.proofs.NoRegister.{passes_nothing}
use Rattle.register_program.proofs.Refusing.{opens_closed, opens_none, refuses_opened}
use Rattle.register_program.proofs.register_file.open_file.Goals as goal

pub returns : goal.returns
returns g c =
    let desk = c.in_ok-desk.ensures in
    let shows = c.in_ok-connection.ensures.shows in
    record {
      stands = λ h lawful holds clean.
          desk.stands holds.version h (lawful_there h _ holds lawful)
          (finds_register h _ _ holds (shows (omega (arith, desk.stop.clean, clean))) lawful) clean;
      whole = desk.whole;
      nothing = λ none clean.
          let passed = desk.passed clean in
          passes_nothing passed.stored _ (finds_nothing _ _ none (shows (omega (arith, desk.stop.clean, clean))))
          passed.passes;
      refuses = tt;
    }

pub returns-in_err-connection : goal.returns-in_err-connection
returns-in_err-connection g c =
    opens_closed _ _ _ _
    c.in_err-connection.field-0.0.failed c.in_err-connection.ensures.stands c.in_err-connection.field-0.0.error
    c.from_residual.result c.from_residual.ensures.1

pub returns-in_err-desk : goal.returns-in_err-desk
returns-in_err-desk g c =
    let it = c.in_err-desk.ensures in
    let unopened = c.in_err-desk.field-0.0 in
    opens_none _ _ _ _ _ c.from_residual-in_err-desk.result
    c.from_residual-in_err-desk.ensures.1
    (λ refused gives. refuses_opened _ _ _ _ g.met.F.Files.opens_again
    c.in_ok-connection.connection (connection_in unopened) c.in_ok-connection.ensures.shows
    (λ clean. omega (arith, it.stop.clean, clean)) (refusal_in unopened) it.refused.reason it.refused.blames_none
    it.refused.leaves
    (λ version h lawful had. it.refused.leaves_stored (stored_in version h) had (meet_checks version h lawful)) unopened
    refused gives refl refl)
