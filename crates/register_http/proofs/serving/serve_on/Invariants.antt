-- After each exchange the desk is whole and of the items of the clients who were served.
use Rattle.std.proofs.Common.{◌≡◌, ◌-◌, ◌≤◌, List, false, flat_map, length}
use Rattle.machine_traits.specs.Network.{Notes}
use Rattle.register_requests.specs.declared.request.Request.{Request}
use Rattle.register_desk.specs.Desk.{GoesOn, IsClean, IsWhole}
use Rattle.register_desk.specs.Register.{StandsFor}
use Rattle.register_http.specs.ServedExchanges.{ServedClient, visits_of}
use Rattle.register_http.specs.Within.{StandsForServed}
use Rattle.register_http.proofs.serving.serve_on.Given as goal

abbrev pub invariant-exchanges : goal.invariant-exchanges
invariant-exchanges g l = record {
  clients : List ServedClient;
  visits : Notes (g.N.Network.visits l.fn.network) (g.N.Network.visits l.network) (flat_map visits_of clients);
  served : length clients ≡ l.served;
  so_far : (h : List Request) → StandsFor g.S.Store l.fn.desk h → IsWhole l.fn.desk → IsClean g.S.Store l.desk
      → StandsForServed g.S.Store h clients l.desk;
  clean : IsClean g.S.Store l.desk → IsClean g.S.Store l.fn.desk;
  within : l.served ≤ l.exchanges;
  accepted : l.attendance.accepted ≡ l.served;
  sound : l.attendance.failed ≡ false;
  goes_on : GoesOn l.fn.desk l.desk;
}

abbrev pub decreases-exchanges : goal.decreases-exchanges
decreases-exchanges g l = l.exchanges - l.served
