-- Exchanges that were served one after the other.
use Rattle.std.proofs.Common.{◌≡◌, ◌≢◌, inl, inr, ◌+◌, ◌≤◌, ◌++◌, ℕ, List, [], ◌∷◌, length, Option, None, Some, sym, ap}
use Rattle.std.proofs.Common.{subst, subst₂, ◌∙◌, ◌-◌, arith, refl, true, false, suc, flat_map, length-append, take, IfSome}
use Rattle.std.proofs.Common.{Result, Ok, Err}
use Rattle.std.proofs.lemmas.List.{append-nil, append_assoc, take_all}
use Rattle.std.proofs.lemmas.Grind.{flat_map-append}
use Rattle.std.proofs.Math.Seq.{take-append_seam}
use Rattle.std.proofs.lemmas.List.Sums.{fold-append}
use Rattle.std.specs.{Prelude.MatchResult, Prelude.String, declared.alloc.Global.Global}
use Rattle.sqlite_trees.specs.declared.store.Store.{Ghosts}
use Rattle.register_requests.specs.{declared.request.Request.Request, Request.IsRequest}
use Rattle.register_core.specs.Fold.{history, history_after}
use Rattle.register_core.proofs.Lawful.{all_more}
use Rattle.register_desk.specs.declared.end.End.TheVariants.{Memory, Store, Broken, ReadFault, WriteFault, BadHeader}
use Rattle.register_desk.specs.declared.outcome.Finish.TheVariants.{AtEnd, Ended}
use Rattle.register_desk.specs.Desk.{GoesOn, IsClean, IsWhole, LeavesEither}
use Rattle.register_desk.specs.Lives.{IsLife, LeavesLife, MayApplyOneMore, life_of}
use Rattle.register_desk.specs.{declared.desk.Desk.Desk, declared.end.End.End, declared.outcome.Finish.Finish}
use Rattle.register_desk.specs.{declared.outcome.Outcome.Outcome, Register.StandsFor, Run.LeavesDesk}
use Rattle.register_desk.proofs.Found.{leaves_alone}
use Rattle.register_desk.proofs.Lived.{goes_then, leaves_going, leaves_stopped, still}
use Rattle.http_messages.specs.{declared.asked.AskFault.AskFault, declared.asked.Asked.Asked}
use Rattle.http_messages.specs.declared.asked.AskFault.TheVariants as fault
use Rattle.register_http.specs.Exchange.{EndsAs, Exchanges, ServesAsked}
use Rattle.register_http.specs.Action.{StopsAsked}
use Rattle.register_http.specs.ServedExchanges.{AreServed, EndsServing, ExplainsEnd, IsServed, LeavesServed, ServedClient}
use Rattle.register_http.specs.ServedExchanges.{Attends, LastEnded, count_known, visits_of}
use Rattle.machine_traits.specs.Network.{Came, Notes, Told, Visit, Went}
use Rattle.register_http.specs.declared.attendance.Attendance.{Attendance}
use Rattle.register_http.specs.Within.{StandsForServed, may_serve_on}
use Rattle.register_http.proofs.ServedOne.{ServesOne}

-- the register may be asked again
pub not_store : (end : Finish) → may_serve_on end ≡ true → end ≢ Ended Store
not_store end on same = let off = sym (ap may_serve_on same) ∙ on in absurd (cc)

pub ends_serving : (end : Finish) → may_serve_on end ≡ false → EndsServing end
ends_serving (AtEnd rest) off = absurd (cc)
ends_serving (Ended Memory) off = absurd (cc)
ends_serving (Ended Store) off = tt
ends_serving (Ended Broken) off = tt
ends_serving (Ended ReadFault) off = absurd (cc)
ends_serving (Ended WriteFault) off = absurd (cc)
ends_serving (Ended BadHeader) off = absurd (cc)

one_more : (h : List Request) (items : List (Option Request)) (item : Option Request) → history h (items ++ item ∷ [])
    ≡ history_after (history h items) item
one_more h items item = fold-append history_after h items (item ∷ [])

-- one client after others
served_on : (h : List Request) (clients : List ServedClient) (items : List (Option Request)) (client : ServedClient)
    (item : Option Request) → AreServed h clients items → IsServed (history h items) client item
    → AreServed h (clients ++ client ∷ []) (items ++ item ∷ [])
served_on h [] [] client item served one = (one, tt)
served_on h (first ∷ clients) (its ∷ items) client item served one =
    (served.0, served_on (history_after h its) clients items client item served.1 one)
served_on h [] (its ∷ items) client item served one = absurd served
served_on h (first ∷ clients) [] client item served one = absurd served

-- one item of each client
as_many : (h : List Request) (clients : List ServedClient) (items : List (Option Request)) → AreServed h clients items
    → length items ≡ length clients
as_many h [] [] served = refl
as_many h (client ∷ clients) (item ∷ items) served =
    ap suc (as_many (history_after h item) clients items served.1)
as_many h [] (item ∷ items) served = absurd served
as_many h (client ∷ clients) [] served = absurd served

module _ {S : Type 0} (g : Ghosts S) (h : List Request) where
  pub served_none : (desk : Desk S g) → StandsFor g desk h → IsWhole desk → StandsForServed g h [] desk
  served_none desk stands whole = record {
    items = [];
    served = tt;
    in_range = tt;
    stands = stands;
    whole = whole;
  }

  -- a client was served after whom the desk is whole
  pub served_next : (clients : List ServedClient) (client : ServedClient) (kept now : Desk S g)
      → StandsForServed g h clients kept
      → ((k : List Request) → StandsFor g kept k → IsWhole kept → ServesOne g k client now)
      → client.outcome.end ≢ Ended Store → StandsForServed g h (clients ++ client ∷ []) now
  served_next clients client kept now so_far serves other =
      let one = serves (history h so_far.items) so_far.stands so_far.whole in
      record {
        items = so_far.items ++ one.item ∷ [];
        served = served_on h clients so_far.items client one.item so_far.served one.served;
        in_range = all_more (λ item. IfSome item IsRequest) so_far.items one.item so_far.in_range one.in_range;
        stands = subst (StandsFor g now) (sym (one_more h so_far.items one.item)) (one.stands other);
        whole = one.whole other;
      }

  -- a stop leaves the register after so many items, or perhaps one more
  either_life : (items : List (Option Request)) (end : Finish) (n : ℕ) (desk : Desk S g)
      → IsLife end false (life_of items n false) → IsLife end true (life_of items n true)
      → LeavesEither g (history h (take (n + 0) items)) (history h (take (n + 1) items)) desk
      → LeavesLife g h items end n desk
  either_life items end n desk none one leaves trees may_leave =
      let (db, holds, is) = leaves trees may_leave in elim holds [
        | inl first ↦ (false, none, db, first, is)
        | inr more ↦ (true, one, db, more, is)
      ]

  -- after all of them
  all_life : (items : List (Option Request)) (end : Finish) (n : ℕ) (desk : Desk S g)
      → IsLife end false (life_of items n false)
      → LeavesEither g (history h (take (n + 0) items)) (history h (take (n + 0) items)) desk
      → LeavesLife g h items end n desk
  all_life items end n desk none leaves trees may_leave =
      let (db, holds, is) = leaves trees may_leave in
      (false, none, db, elim holds [ inl one ↦ one | inr two ↦ two ], is)

  -- no more are served
  pub served_all : (clients : List ServedClient) (end : Finish) (desk : Desk S g) → MayApplyOneMore end false
      → count_known end (length clients) ≡ length clients → StandsForServed g h clients desk → IsClean g desk
      → LeavesServed g h clients end desk
  served_all clients end desk may known so_far clean =
      let items = so_far.items in
      let count = as_many h clients items so_far.served in
      let n = count_known end (length clients) in
      let all : take (n + 0) items ≡ items = take_all (n + 0) items (omega (arith, known, count)) in
      record {
        items = items;
        served = so_far.served;
        in_range = so_far.in_range;
        leaves = all_life items end n desk
            (record { in_range = so_far.in_range; one_more_is = may; enough = omega (arith, known, count) })
            (subst (λ (taken : List (Option Request)). LeavesEither g (history h taken) (history h taken) desk) (sym all)
            (leaves_alone g (history h items) desk so_far.stands so_far.whole clean));
      }

  -- nobody was served
  pub served_nothing : (end : Finish) (desk : Desk S g) → MayApplyOneMore end false → count_known end 0 ≡ 0
      → StandsFor g desk h → IsWhole desk → IsClean g desk → LeavesServed g h [] end desk
  served_nothing end desk may known stands whole clean =
      served_all [] end desk may known (served_none desk stands whole) clean

  -- the database refused the last one
  pub served_last : (clients : List ServedClient) (client : ServedClient) (kept now : Desk S g)
      → StandsForServed g h clients kept
      → ((k : List Request) → StandsFor g kept k → IsWhole kept → ServesOne g k client now)
      → LeavesServed g h (clients ++ client ∷ []) (Ended Store) now
  served_last clients client kept now so_far serves =
      let items = so_far.items in
      let one = serves (history h items) so_far.stands so_far.whole in
      let all = items ++ one.item ∷ [] in
      let in_range = all_more (λ item. IfSome item IsRequest) items one.item so_far.in_range one.in_range in
      let count = as_many h clients items so_far.served in
      let more = length-append clients (client ∷ []) in
      let longer = length-append items (one.item ∷ []) in
      let n = length (clients ++ client ∷ []) - 1 in
      let same : n + 0 ≡ length items = omega (arith, count, more) in
      let first : take (n + 0) all ≡ items =
      ap (λ (m : ℕ). take m all) same ∙ take-append_seam items (one.item ∷ []) in
      let both : take (n + 1) all ≡ all = take_all (n + 1) all (omega (arith, count, more, longer)) in
      record {
        items = all;
        served = served_on h clients items client one.item so_far.served one.served;
        in_range = in_range;
        leaves = either_life all (Ended Store) n now
            (record { in_range = in_range; one_more_is = tt; enough = omega (arith, count, more, longer) })
            (record { in_range = in_range; one_more_is = tt; enough = omega (arith, count, more, longer) })
            (subst₂ (λ (k m : List Request). LeavesEither g k m now) (ap (history h) (sym first))
            (sym (ap (history h) both ∙ one_more h items one.item)) one.leaves);
      }

  -- an exchange was the last one
  pub served_to_end : (clients : List ServedClient) (client : ServedClient) (kept now : Desk S g) (end : Finish)
      → client.outcome.end ≡ end → may_serve_on end ≡ false → LeavesDesk kept now end
      → StandsForServed g h clients kept
      → ((k : List Request) → StandsFor g kept k → IsWhole kept → ServesOne g k client now)
      → LeavesServed g h (clients ++ client ∷ []) end now
  served_to_end clients client kept now (Ended Store) is off leaves so_far serves =
      served_last clients client kept now so_far serves
  served_to_end clients client kept now (Ended Broken) is off leaves so_far serves =
      absurd (let both = sym so_far.whole ∙ leaves.was_broken refl in cc)
  served_to_end clients client kept now (AtEnd rest) is off leaves so_far serves = absurd (cc)
  served_to_end clients client kept now (Ended Memory) is off leaves so_far serves = absurd (cc)
  served_to_end clients client kept now (Ended ReadFault) is off leaves so_far serves = absurd (cc)
  served_to_end clients client kept now (Ended WriteFault) is off leaves so_far serves = absurd (cc)
  served_to_end clients client kept now (Ended BadHeader) is off leaves so_far serves = absurd (cc)

-- why an exchange ended it
pub explains_end : (end : Finish) (exchanges : ℕ) (attendance : Attendance) → may_serve_on end ≡ false
    → 1 ≤ attendance.accepted → ExplainsEnd exchanges attendance end
explains_end (Ended Store) exchanges attendance ends some = some
explains_end (Ended Broken) exchanges attendance ends some = some
explains_end (AtEnd rest) exchanges attendance ends some = absurd (cc)
explains_end (Ended Memory) exchanges attendance ends some = absurd (cc)
explains_end (Ended ReadFault) exchanges attendance ends some = absurd (cc)
explains_end (Ended WriteFault) exchanges attendance ends some = absurd (cc)
explains_end (Ended BadHeader) exchanges attendance ends some = absurd (cc)

-- ---- what is left of the desk

module _ {S : Type 0} (g : Ghosts S) (old new : Desk S g) where
  as_it_was : new ≡ old → GoesOn old new
  as_it_was same = record { whole = λ whole. subst IsWhole (sym same) whole; broken = λ broken. same }

  -- nothing of the desk's ended it
  went_on : (end : Finish) → may_serve_on end ≡ true → GoesOn old new → LeavesDesk old new end
  went_on end on goes = leaves_going g old new end
      (λ is. let off = sym (ap may_serve_on is) ∙ on in cc) (λ is. let off = sym (ap may_serve_on is) ∙ on in cc) goes

  pub leaves_at_end : GoesOn old new → LeavesDesk old new (AtEnd 0)
  leaves_at_end = went_on (AtEnd 0) refl

  pub leaves_at_fault : GoesOn old new → LeavesDesk old new (Ended ReadFault)
  leaves_at_fault = went_on (Ended ReadFault) refl

  stopped_by : (e : End) → StopsAsked g old new e → LeavesDesk old new (Ended e)
  stopped_by Memory goes = went_on (Ended Memory) refl goes
  stopped_by Store ends = leaves_stopped g old old new Store (still g old) ends
  stopped_by Broken ends = leaves_stopped g old old new Broken (still g old) ends
  stopped_by ReadFault ends = absurd ends
  stopped_by WriteFault ends = absurd ends
  stopped_by BadHeader ends = absurd ends

  left_by : (end other : Finish) → end ≡ other → LeavesDesk old new other → LeavesDesk old new end
  left_by end other is leaves = subst (LeavesDesk old new) (sym is) leaves

  left_served : (result : Result (String Global) End) (end : Finish) (replies : ℕ)
      → MatchResult result (λ _. GoesOn old new) (StopsAsked g old new) → EndsAs result end replies
      → LeavesDesk old new end
  left_served (Ok text) end replies goes (inl is) = left_by end (AtEnd 0) is.0 (leaves_at_end goes)
  left_served (Ok text) end replies goes (inr is) =
      left_by end (Ended WriteFault) is.0 (went_on (Ended WriteFault) refl goes)
  left_served (Err e) end replies ends is = left_by end (Ended e) is (stopped_by e ends)

  left_asked : (moment : ℕ) (asked : Result (Option Asked) AskFault) (before after : Option (List ℕ))
      (outcome : Outcome) → ServesAsked g moment asked old new before after outcome → LeavesDesk old new outcome.end
  left_asked moment (Ok (Some asked)) before after outcome served =
      left_served served.result outcome.end outcome.replies served.acts.ends served.ends
  left_asked moment (Ok None) before after outcome served =
      left_by outcome.end (AtEnd 0) served.0.ends (leaves_at_end (as_it_was served.0.same))
  left_asked moment (Err fault.Memory) before after outcome served =
      left_by outcome.end (Ended Memory) served.ends (went_on (Ended Memory) refl (as_it_was served.same))
  left_asked moment (Err fault.ReadFault) before after outcome served =
      left_by outcome.end (Ended ReadFault) served.0.ends (leaves_at_fault (as_it_was served.0.same))

  pub left_exchange : (moment : ℕ) (input before after : Option (List ℕ)) (outcome : Outcome)
      → Exchanges g moment input old new before after outcome → LeavesDesk old new outcome.end
  left_exchange moment input before after outcome it = left_asked moment it.asked before after outcome it.serves

-- ---- whom the network had

pub notes_then : (old mid new : Option (List Visit)) (first later : List Visit) → Notes old mid first
    → Notes mid new later → Notes old new (first ++ later)
notes_then None None None first later one two = tt
notes_then (Some old) (Some mid) (Some new) first later one two =
    two ∙ ap (λ (had : List Visit). had ++ later) one ∙ append_assoc old first later
notes_then None None (Some new) first later one two = absurd two
notes_then None (Some mid) new first later one two = absurd one
notes_then (Some old) None new first later one two = absurd one
notes_then (Some old) (Some mid) None first later one two = absurd two

pub notes_none : (old : Option (List Visit)) → Notes old old []
notes_none None = tt
notes_none (Some old) = sym (append-nil old)

-- and then nobody else
pub notes_still : (old mid new : Option (List Visit)) (had : List Visit) → Notes old mid had → new ≡ mid
    → Notes old new (had ++ [])
notes_still old mid new had one same =
    notes_then old mid new had [] one (subst (λ (now : Option (List Visit)). Notes mid now []) (sym same) (notes_none mid))

visits_on : (clients : List ServedClient) (client : ServedClient)
    → flat_map visits_of clients ++ visits_of client ≡ flat_map visits_of (clients ++ client ∷ [])
visits_on clients client = sym (flat_map-append visits_of clients (client ∷ []))

-- one client after others
pub notes_on : (old a b c d : Option (List Visit)) (clients : List ServedClient) (client : ServedClient)
    → Notes old a (flat_map visits_of clients) → Notes a b (Came client.input client.old ∷ [])
    → Notes b c (Told client.time ∷ []) → Notes c d (Went client.new ∷ [])
    → Notes old d (flat_map visits_of (clients ++ client ∷ []))
notes_on old a b c d clients client had came told went =
    subst (Notes old d) (visits_on clients client)
    (notes_then old a d (flat_map visits_of clients) (visits_of client) had
    (notes_then a b d (Came client.input client.old ∷ []) (Told client.time ∷ Went client.new ∷ []) came
    (notes_then b c d (Told client.time ∷ []) (Went client.new ∷ []) told went)))

-- ---- what serving came to

pub last_on : (clients : List ServedClient) (client : ServedClient) (end : Finish) → client.outcome.end ≡ end
    → LastEnded end (clients ++ client ∷ [])
last_on [] client end is = is
last_on (first ∷ []) client end is = is
last_on (first ∷ next ∷ clients) client end is = last_on (next ∷ clients) client end is

-- no client was accepted any more
pub attends_alone : (old mid new : Option (List Visit)) (clients : List ServedClient) (accepted n : ℕ) (end : Finish)
    → (end ≡ Ended Store → LastEnded end clients)
    → Notes old mid (flat_map visits_of clients) → new ≡ mid → length clients ≡ n → accepted ≡ n
    → Attends old new clients accepted end
attends_alone old mid new clients accepted n end refused had same served counted = record {
  turned_away = [];
  visits = notes_still old mid new (flat_map visits_of clients) had same;
  counted = omega (arith, served, counted);
  all = λ other. refl;
  refused = refused;
}

-- or no moment told
pub attends_one_more : (old a b c : Option (List Visit)) (clients : List ServedClient) (accepted n : ℕ)
    (input out : Option (List ℕ)) (more : List Visit) → Notes old a (flat_map visits_of clients)
    → Notes a b (Came input out ∷ []) → Notes b c more → length clients ≡ n → accepted ≡ n + 1
    → Attends old c clients accepted (Ended ReadFault)
attends_one_more old a b c clients accepted n input out more had came told served counted = record {
  turned_away = Came input out ∷ more;
  visits = notes_then old a c (flat_map visits_of clients) (Came input out ∷ more) had
      (notes_then a b c (Came input out ∷ []) more came told);
  counted = omega (arith, served, counted);
  all = λ other. absurd (other refl);
  refused = λ is. absurd (cc);
}

-- one exchange after others
pub goes_on_by : {S : Type 0} (g : Ghosts S) (old mid new : Desk S g) (end : Finish) → GoesOn old mid
    → LeavesDesk mid new end → end ≢ Ended Store → GoesOn old new
goes_on_by g old mid new end goes leaves sound =
    goes_then g old mid new goes (record { whole = λ whole. leaves.whole whole sound; broken = leaves.broken })

-- of which it is the last
pub leaves_by : {S : Type 0} (g : Ghosts S) (old mid new : Desk S g) (end : Finish) → GoesOn old mid
    → LeavesDesk mid new end → may_serve_on end ≡ false → LeavesDesk old new end
leaves_by g old mid new (Ended Store) goes leaves off = leaves_stopped g old mid new Store goes (leaves.store refl)
leaves_by g old mid new (Ended Broken) goes leaves off =
    let broken = leaves.was_broken refl in leaves_stopped g old mid new Broken goes (broken, leaves.broken broken)
leaves_by g old mid new (AtEnd rest) goes leaves off = absurd (cc)
leaves_by g old mid new (Ended Memory) goes leaves off = absurd (cc)
leaves_by g old mid new (Ended ReadFault) goes leaves off = absurd (cc)
leaves_by g old mid new (Ended WriteFault) goes leaves off = absurd (cc)
leaves_by g old mid new (Ended BadHeader) goes leaves off = absurd (cc)
