-- What one exchange over a whole input reads, writes and leaves.
use Rattle.std.specs.Prelude.{◌≡◌, ◌⊎◌, ℕ, ◌≤◌, true, false, List, [], Option, None, Some, String, Result, Ok, Err}
use Rattle.std.specs.Prelude.{IfOk, IfSome}
use Rattle.std.specs.declared.alloc.Global.{Global}
use Rattle.sqlite_trees.specs.declared.store.Store.{Ghosts}
use Rattle.streams.specs.{declared.watched.Watched.Watched, Watched.IsFaulted}
use Rattle.register_desk.specs.declared.end.End.TheVariants.{Memory, ReadFault, WriteFault}
use Rattle.register_desk.specs.declared.outcome.Finish.TheVariants.{AtEnd, Ended}
use Rattle.register_desk.specs.{declared.desk.Desk.Desk, declared.end.End.End, declared.outcome.Finish.Finish}
use Rattle.register_desk.specs.Run.{TookBytes, max_idle_turns}
use Rattle.register_desk.specs.declared.outcome.Outcome.{Outcome}
use Rattle.http_messages.specs.{declared.asked.AskFault.AskFault, declared.asked.Asked.Asked, Asked.AsksFor}
use Rattle.http_messages.specs.CommandBody.{IsAskedInRange}
use Rattle.http_messages.specs.declared.asked.AskFault.TheVariants as fault
use Rattle.register_http.specs.{Action.Acts, SentReply.Sends, SentReply.end_reply, SentReply.sent_text}

-- the most reads in one exchange (this register's own)
abbrev pub max_exchange_reads : ℕ
max_exchange_reads = 80_000

-- how an exchange ends after an answer: at the end of what there is to do where the reply was written whole, at a
-- fault of the writer where it was not, and at the end that the desk came to whatever became of its reply
abbrev pub EndsAs : Result (String Global) End → Finish → ℕ → Type 0
EndsAs (Ok text) end replies = ((end ≡ AtEnd 0) × (replies ≡ 1)) ⊎ ((end ≡ Ended WriteFault) × (replies ≡ 0))
EndsAs (Err e) end replies = end ≡ Ended e

module _ {S : Type 0} (g : Ghosts S) where
  -- the desk was asked this, and a prefix of its reply was written
  pub record ServesExchange (moment : ℕ) (asked : Asked) (kept now : Desk S g) (old new : Option (List ℕ))
      (outcome : Outcome) : Type 0 where
    pub result : Result (String Global) End
    pub acts : Acts g moment asked kept now result
    pub sends : Sends (sent_text result) old new outcome.written outcome.replies
    pub ends : EndsAs result outcome.end outcome.replies

  -- the desk was not asked, and is as it was
  pub record LeavesUnasked (end : Finish) (reply : List ℕ) (kept now : Desk S g) (old new : Option (List ℕ))
      (outcome : Outcome) : Type 0 where
    pub same : now ≡ kept
    pub sends : Sends reply old new outcome.written outcome.replies
    pub ends : outcome.end ≡ end

  -- by what reading gave: something is asked, or nothing, as the input is empty; or memory gave out, or a read
  -- failed
  abbrev pub ServesAsked : ℕ → Result (Option Asked) AskFault → Desk S g → Desk S g → Option (List ℕ)
      → Option (List ℕ) → Outcome → Type 0
  ServesAsked moment (Ok (Some asked)) kept now old new outcome = ServesExchange moment asked kept now old new outcome
  ServesAsked moment (Ok None) kept now old new outcome =
      LeavesUnasked (AtEnd 0) [] kept now old new outcome × (outcome.replies ≡ 0)
  ServesAsked moment (Err fault.Memory) kept now old new outcome =
      LeavesUnasked (Ended Memory) (end_reply Memory) kept now old new outcome
  ServesAsked moment (Err fault.ReadFault) kept now old new outcome =
      LeavesUnasked (Ended ReadFault) [] kept now old new outcome × (outcome.replies ≡ 0)

  -- An exchange at this moment: what is asked is what the whole input asks for, where the reader's bytes are known, and
  -- it was served.
  pub record Exchanges (moment : ℕ) (input : Option (List ℕ)) (kept now : Desk S g) (old new : Option (List ℕ))
      (outcome : Outcome) : Type 0 where
    pub asked : Result (Option Asked) AskFault
    pub asks : (bytes : List ℕ) → input ≡ Some bytes → IfOk asked (AsksFor bytes)
    pub in_range : IfOk asked (λ it. IfSome it IsAskedInRange)
    pub serves : ServesAsked moment asked kept now old new outcome

-- What it leaves of its reader: each byte that was read is counted, a read that failed is reported, a fault is the
-- reader's own or the bound on reads, and that is never passed. The turns are those of this exchange alone.
pub record LeavesHttpReader {R : Type 0} (remaining : R → Option (List ℕ)) (old new : Watched R)
    (outcome : Outcome) : Type 0 where
  pub took : TookBytes (remaining old.inner) (remaining new.inner) outcome.read
  pub told : new.failed ≡ true → outcome.end ≡ Ended ReadFault
  pub fault : outcome.end ≡ Ended ReadFault → IsFaulted new.failed max_exchange_reads new.turns
  pub bounded : new.turns ≤ max_exchange_reads

-- No reply is left out but where nothing is asked, where the reader failed, or at a fault of the writer.
pub record LeavesHttpWriter {W : Type 0} (new : Watched W) (outcome : Outcome) : Type 0 where
  pub flushed : outcome.replies ≡ 1 → new.unflushed ≡ false
  pub unanswered : outcome.replies ≡ 0
      → (outcome.end ≡ AtEnd 0) ⊎ ((outcome.end ≡ Ended ReadFault) ⊎ IsFaulted new.failed max_idle_turns new.idle)
  pub fault : outcome.end ≡ Ended WriteFault → IsFaulted new.failed max_idle_turns new.idle
  pub bounded : new.idle ≤ max_idle_turns
