-- What serving exchanges one after the other comes to: who was served, with what, and what is left.
use Rattle.std.specs.Prelude.{◌≡◌, ◌≢◌, ◌⊎◌, ℕ, ◌+◌, ◌-◌, ◌/◌, ◌≤◌, true, false, List, [], ◌∷◌, ◌++◌, length, flat_map}
use Rattle.std.specs.Prelude.{Option, None, Some}
use Rattle.std.specs.Io.KnownBytes.{Consumes}
use Rattle.sqlite_trees.specs.declared.store.Store.{Ghosts}
use Rattle.machine_traits.specs.Network.{Visit, Came, Told, Went, Notes}
use Rattle.register_requests.specs.declared.request.Request.{Request}
use Rattle.register_core.specs.Fold.{history_after}
use Rattle.register_desk.specs.declared.end.End.TheVariants.{Memory, Store, Broken, ReadFault, WriteFault, BadHeader}
use Rattle.register_desk.specs.declared.outcome.Finish.TheVariants.{AtEnd, Ended}
use Rattle.register_desk.specs.declared.outcome.Outcome.{Outcome}
use Rattle.register_desk.specs.Desk.{IsClean, IsWhole}
use Rattle.register_desk.specs.{declared.desk.Desk.Desk, declared.outcome.Finish.Finish}
use Rattle.register_desk.specs.{Register.StandsFor, Lives.AreInRange, Lives.LeavesLife, Run.LeavesDesk}
use Rattle.http_messages.specs.{declared.asked.Asked.Asked, Asked.AsksFor, HttpReply.reply_bytes}
use Rattle.register_http.specs.{ActionReply.item_of, ActionReply.reply_to_asked}
use Rattle.register_http.specs.{SentReply.Sends, SentReply.end_reply}
use Rattle.register_http.specs.declared.attendance.Attendance.{Attendance}

-- of the bytes that were to come this number was read, and some behind them were taken off
pub record TookThenSome (before after : Option (List ℕ)) (read : ℕ) : Type 0 where
  pub bytes : List ℕ
  pub behind : List ℕ
  pub took : Consumes before after (bytes ++ behind)
  pub counted : read ≡ length bytes

-- how serving ends: as many exchanges as were asked for came and went, or none may follow, or no connection was
-- accepted or no moment read
abbrev pub EndsServing : Finish → Type 0
EndsServing (AtEnd rest) = rest ≡ 0
EndsServing (Ended Memory) = ⊥
EndsServing (Ended Store) = Unit {0}
EndsServing (Ended Broken) = Unit {0}
EndsServing (Ended ReadFault) = Unit {0}
EndsServing (Ended WriteFault) = ⊥
EndsServing (Ended BadHeader) = ⊥

-- nobody was accepted yet, and nothing failed
abbrev pub nobody : Attendance
nobody = record { accepted = 0; failed = false }

-- Why serving so many exchanges ended so: as many clients came, or one of them had the exchange that none may follow,
-- or the network or the clock failed, as is marked.
abbrev pub ExplainsEnd : ℕ → Attendance → Finish → Type 0
ExplainsEnd exchanges attendance (AtEnd rest) = (attendance.accepted ≡ exchanges) × (attendance.failed ≡ false)
ExplainsEnd exchanges attendance (Ended Memory) = ⊥
ExplainsEnd exchanges attendance (Ended Store) = 1 ≤ attendance.accepted
ExplainsEnd exchanges attendance (Ended Broken) = 1 ≤ attendance.accepted
ExplainsEnd exchanges attendance (Ended ReadFault) = attendance.failed ≡ true
ExplainsEnd exchanges attendance (Ended WriteFault) = ⊥
ExplainsEnd exchanges attendance (Ended BadHeader) = ⊥

-- ---- who was served

-- A client who was served: what was still to come of it and what it had been sent as it came, where that is known; the
-- time that was told then, in nanoseconds since 1970; what it had been sent as it went; and what its exchange came to.
pub record ServedClient : Type 0 where
  pub input : Option (List ℕ)
  pub old : Option (List ℕ)
  pub time : ℕ
  pub new : Option (List ℕ)
  pub outcome : Outcome

-- the moment of its exchange, in seconds
abbrev pub moment_of : ServedClient → ℕ
moment_of client = client.time / 1_000_000_000

-- what a network has of it: it came, then the time was told, and then it went
abbrev pub visits_of : ServedClient → List Visit
visits_of client = Came client.input client.old ∷ Told client.time ∷ Went client.new ∷ []

-- the bytes of the register's reply to what was asked, or none where nothing was
abbrev pub answer_bytes : List Request → ℕ → Option Asked → List ℕ
answer_bytes h moment None = []
answer_bytes h moment (Some asked) = reply_bytes (reply_to_asked h moment asked)

-- what is to be sent after an exchange that ended so: the register's reply, or that to the end
abbrev pub bytes_to_send : List Request → ℕ → Option Asked → Finish → List ℕ
bytes_to_send h moment asked (AtEnd rest) = answer_bytes h moment asked
bytes_to_send h moment asked (Ended Memory) = end_reply Memory
bytes_to_send h moment asked (Ended Store) = end_reply Store
bytes_to_send h moment asked (Ended Broken) = end_reply Broken
bytes_to_send h moment asked (Ended ReadFault) = []
bytes_to_send h moment asked (Ended WriteFault) = answer_bytes h moment asked
bytes_to_send h moment asked (Ended BadHeader) = []

-- Nothing was asked, since memory gave out, or the client's bytes did not come.
abbrev pub AskedNothing : Option Asked → Finish → Type 0
AskedNothing asked end = (asked ≡ None) × ((end ≡ Ended Memory) ⊎ (end ≡ Ended ReadFault))

-- The client was served by the register of this history, and handed it this item: the request that its bytes ask for, at
-- its moment, or none where they ask for none; and what was to be sent was, or a prefix of it.
pub record IsServed (h : List Request) (client : ServedClient) (item : Option Request) : Type 0 where
  pub asked : Option Asked
  pub asks : (bytes : List ℕ) → client.input ≡ Some bytes → AsksFor bytes asked ⊎ AskedNothing asked client.outcome.end
  pub hands : item ≡ item_of (moment_of client) asked
  pub sends : Sends (bytes_to_send h (moment_of client) asked client.outcome.end) client.old client.new
      client.outcome.written client.outcome.replies

-- Each client was served by the register of the history after the items of those before it: one item of each.
abbrev pub AreServed : List Request → List ServedClient → List (Option Request) → Type 0
AreServed h [] [] = Unit {0}
AreServed h (client ∷ clients) (item ∷ items) = IsServed h client item × AreServed (history_after h item) clients items
AreServed h [] (item ∷ items) = ⊥
AreServed h (client ∷ clients) [] = ⊥

-- how many of so many exchanges are known to have acted as they say: all, but for the last one where the database
-- refused
abbrev pub count_known : Finish → ℕ → ℕ
count_known (Ended Store) served = served - 1
count_known end served = served

-- These clients were served from the history h on, and a stop leaves the register after the items that they handed on;
-- where the database refused, perhaps without the last one's.
pub record LeavesServed {S : Type 0} (g : Ghosts S) (h : List Request) (clients : List ServedClient) (end : Finish)
    (desk : Desk S g) : Type 0 where
  pub items : List (Option Request)
  pub served : AreServed h clients items
  pub in_range : AreInRange items
  pub leaves : LeavesLife g h items end (count_known end (length clients)) desk

-- ---- what serving comes to

-- whether somebody came who was not served: 1, or 0
abbrev pub count_turned_away : List Visit → ℕ
count_turned_away [] = 0
count_turned_away (visit ∷ visits) = 1

-- the last one's exchange ended so
abbrev pub LastEnded : Finish → List ServedClient → Type 0
LastEnded end [] = ⊥
LastEnded end (client ∷ []) = client.outcome.end ≡ end
LastEnded end (client ∷ next ∷ clients) = LastEnded end (next ∷ clients)

-- Whom a network had, and who of them was served: all, but for the last one where no moment was told. Where the database
-- refused, it did at the exchange of the last.
pub record Attends (before after : Option (List Visit)) (clients : List ServedClient) (accepted : ℕ) (end : Finish)
    : Type 0 where
  pub turned_away : List Visit
  pub visits : Notes before after (flat_map visits_of clients ++ turned_away)
  pub counted : accepted ≡ length clients + count_turned_away turned_away
  pub all : end ≢ Ended ReadFault → turned_away ≡ []
  pub refused : end ≡ Ended Store → LastEnded end clients

-- What serving at most so many exchanges comes to: who was served and what a stop leaves of each history, how it ended
-- and why, and what it leaves of the desk.
pub record ServesClients {S : Type 0} (g : Ghosts S) (exchanges : ℕ) (before after : Option (List Visit))
    (attendance : Attendance) (old new : Desk S g) (end : Finish) : Type 0 where
  pub clients : List ServedClient
  pub attends : Attends before after clients attendance.accepted end
  pub few : length clients ≤ exchanges
  pub leaves : (h : List Request) → StandsFor g old h → IsWhole old → IsClean g new → LeavesServed g h clients end new
  pub clean : IsClean g new → IsClean g old
  pub ends : EndsServing end
  pub cause : ExplainsEnd exchanges attendance end
  pub desk : LeavesDesk old new end
