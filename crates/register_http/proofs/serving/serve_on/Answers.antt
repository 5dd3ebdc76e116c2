use Rattle.std.proofs.Common.{ℕ, [], ◌∷◌, ◌++◌, ◌+◌, ◌≤◌, ◌∙◌, ap, arith, length-append, refl, rules, sym}
use Rattle.register_http.specs.declared.attendance.Attendance.{Attendance}
use Rattle.register_http.specs.ServedExchanges.{ServedClient}
use Rattle.register_http.proofs.Served.{attends_alone, attends_one_more, ends_serving, explains_end, goes_on_by}
use Rattle.register_http.proofs.Served.{last_on, leaves_at_end, leaves_at_fault, leaves_by, not_store, notes_none, notes_on}
use Rattle.register_http.proofs.Served.{served_all, served_next, served_none, served_to_end}
use Rattle.register_http.proofs.ServedOne.{serves_client}
use Rattle.register_desk.proofs.Lived.{still}
use Rattle.register_http.proofs.serving.serve_on.Goals as goal

pub exchanges-init : goal.exchanges-init
exchanges-init g c = record {
  clients = [];
  visits = notes_none _;
  served = refl;
  so_far = λ h stands whole clean. served_none g.S.Store h _ stands whole;
  clean = λ clean. clean;
  within = omega arith;
  accepted = ap (λ (a : Attendance). a.accepted) c.requires;
  sound = ap (λ (a : Attendance). a.failed) c.requires;
  goes_on = still _ _;
}

pub exchanges-preserved : goal.exchanges-preserved
exchanges-preserved g c =
    let so = c.exchanges.invariant in
    let exchange = c.serve_connection-connection in
    let end = exchange.result.outcome.end in
    let told = c.in-Some-tell_moment.ensures.tells in
    let client : ServedClient = record {
      input = g.N.ReadHalf.ReadHalf.remaining c.in-Some.client.read_half;
      old = g.N.WriteHalf.WriteHalf.contents c.in-Some.client.write_half;
      time = told.time;
      new = g.N.WriteHalf.WriteHalf.contents exchange.result.client.write_half;
      outcome = exchange.result.outcome;
    } in
    let goes = not_store end (sym c.may_serve_on.ensures ∙ c.if-not-may_serve_on.false) in
    record {
      clients = so.clients ++ client ∷ [];
      visits = notes_on _ _ _ _ _ so.clients client so.visits c.in-Some.ensures.comes told.told c.see_off.ensures;
      served = length-append so.clients (client ∷ []) ∙ ap (λ (n : ℕ). n + 1) so.served;
      so_far = λ h stands whole clean. served_next g.S.Store h so.clients client c.exchanges.desk exchange.new.desk
          (so.so_far h stands whole (exchange.ensures.clean clean))
          (λ k stood was_whole. serves_client g.S.Store client _ c.exchanges.desk exchange.new.desk told.moment_is
          (search rules) exchange.ensures.exchanges k stood was_whole clean) goes;
      clean = λ clean. so.clean (exchange.ensures.clean clean);
      within = omega (arith, c.exchanges-test.true);
      accepted = ap (λ (a : Attendance). a.accepted) (c.in-Some-tell_moment.ensures.same ∙ c.in-Some.ensures.counts)
          ∙ ap (λ (n : ℕ). n + 1) so.accepted;
      sound = ap (λ (a : Attendance). a.failed) (c.in-Some-tell_moment.ensures.same ∙ c.in-Some.ensures.counts)
          ∙ so.sound;
      goes_on = goes_on_by _ _ c.exchanges.desk _ end so.goes_on exchange.ensures.desk goes;
    }

pub returns-in_default : goal.returns-in_default
returns-in_default g c =
    let so = c.exchanges.invariant in
    record {
      clients = so.clients;
      attends = attends_alone _ _ _ so.clients _ c.exchanges.served _ (λ is. absurd (cc)) so.visits (c.accept.ensures.fails (search rules)).1
          so.served ((c.accept.ensures.fails (search rules)).0.counted ∙ so.accepted);
      few = omega (arith, so.served, so.within);
      leaves = λ h stands whole clean. served_all g.S.Store h so.clients _ _ refl refl (so.so_far h stands whole clean)
          clean;
      clean = so.clean;
      ends = tt;
      cause = (c.accept.ensures.fails (search rules)).0.failed;
      desk = leaves_at_fault _ _ c.exchanges.desk so.goes_on;
    }

pub returns-in_default-tell_moment : goal.returns-in_default-tell_moment
returns-in_default-tell_moment g c =
    let so = c.exchanges.invariant in
    let fails = c.tell_moment.ensures.fails (search rules) in
    record {
      clients = so.clients;
      attends = attends_one_more _ _ _ _ so.clients _ c.exchanges.served _ _ fails.1.more so.visits
          c.in-Some.ensures.comes fails.1.noted so.served
          (fails.0.counted ∙ ap (λ (a : Attendance). a.accepted) c.in-Some.ensures.counts
          ∙ ap (λ (n : ℕ). n + 1) so.accepted);
      few = omega (arith, so.served, so.within);
      leaves = λ h stands whole clean. served_all g.S.Store h so.clients _ _ refl refl (so.so_far h stands whole clean)
          clean;
      clean = so.clean;
      ends = tt;
      cause = fails.0.failed;
      desk = leaves_at_fault _ _ c.exchanges.desk so.goes_on;
    }

pub returns-then-not-may_serve_on : goal.returns-then-not-may_serve_on
returns-then-not-may_serve_on g c =
    let so = c.exchanges.invariant in
    let exchange = c.serve_connection-connection in
    let end = exchange.result.outcome.end in
    let on = sym c.may_serve_on.ensures ∙ c.if-not-may_serve_on.true in
    let told = c.in-Some-tell_moment.ensures.tells in
    let client : ServedClient = record {
      input = g.N.ReadHalf.ReadHalf.remaining c.in-Some.client.read_half;
      old = g.N.WriteHalf.WriteHalf.contents c.in-Some.client.write_half;
      time = told.time;
      new = g.N.WriteHalf.WriteHalf.contents exchange.result.client.write_half;
      outcome = exchange.result.outcome;
    } in
    let counted = ap (λ (a : Attendance). a.accepted)
    (c.in-Some-tell_moment.ensures.same ∙ c.in-Some.ensures.counts) in
    let more = length-append so.clients (client ∷ []) in
    let within : c.exchanges.served + 1 ≤ c.args.exchanges = omega (arith, c.exchanges-test.true) in
    record {
      clients = so.clients ++ client ∷ [];
      attends = attends_alone _ _ _ (so.clients ++ client ∷ []) _ (c.exchanges.served + 1) _
          (λ is. last_on so.clients client end refl)
          (notes_on _ _ _ _ _ so.clients client so.visits c.in-Some.ensures.comes told.told c.see_off.ensures) refl
          (more ∙ ap (λ (n : ℕ). n + 1) so.served) (counted ∙ ap (λ (n : ℕ). n + 1) so.accepted);
      few = omega (arith, more, so.served, within);
      leaves = λ h stands whole clean. served_to_end g.S.Store h so.clients client c.exchanges.desk exchange.new.desk end
          refl on exchange.ensures.desk (so.so_far h stands whole (exchange.ensures.clean clean))
          (λ k stood was_whole. serves_client g.S.Store client _ c.exchanges.desk exchange.new.desk told.moment_is
          (search rules) exchange.ensures.exchanges k stood was_whole clean);
      clean = λ clean. so.clean (exchange.ensures.clean clean);
      ends = ends_serving end on;
      cause = explains_end end c.args.exchanges c.tell_moment.new.self on (omega (arith, counted));
      desk = leaves_by _ _ c.exchanges.desk _ end so.goes_on exchange.ensures.desk on;
    }

pub returns : goal.returns
returns g c =
    let so = c.exchanges.invariant in
    record {
      clients = so.clients;
      attends = attends_alone _ _ _ so.clients _ c.exchanges.served _ (λ is. absurd (cc)) so.visits refl so.served so.accepted;
      few = omega (arith, so.served, so.within);
      leaves = λ h stands whole clean. served_all g.S.Store h so.clients _ _ refl refl (so.so_far h stands whole clean)
          clean;
      clean = so.clean;
      ends = refl;
      cause = (omega (arith, so.within, so.accepted, c.exchanges-test.false), so.sound);
      desk = leaves_at_end _ _ c.exchanges.desk so.goes_on;
    }
