-- What a desk does where it is asked something, apart from the bytes of the exchange.
use Rattle.std.specs.Prelude.{◌≡◌, ◌≢◌, ◌⊎◌, ℕ, true, List, String, string_bytes, Result, Ok, Err, MatchResult, IfOk}
use Rattle.std.specs.Prelude.{IfErr, OnOk}
use Rattle.std.specs.declared.alloc.Global.{Global}
use Rattle.sqlite_trees.specs.declared.store.Store.{Ghosts}
use Rattle.register_core.specs.declared.reply.Reply as core
use Rattle.register_requests.specs.declared.request.Request.{Request}
use Rattle.register_desk.specs.declared.end.End.TheVariants.{Memory, Store, Broken, ReadFault, WriteFault, BadHeader}
use Rattle.register_desk.specs.Desk.{ChangesNothing, EndsBy, GoesOn, IsBroken, IsClean, IsWhole, LeavesEither}
use Rattle.register_desk.specs.{declared.desk.Desk.Desk, declared.end.End.End, Register.StandsFor}
use Rattle.http_messages.specs.declared.asked.Asked.TheVariants.{Reject, ShowKey, ShowUsage, Apply}
use Rattle.http_messages.specs.{declared.asked.Rejection.Rejection, HttpReply.HttpReply, HttpReply.reply_bytes}
use Rattle.http_messages.specs.{declared.asked.Asked.Asked, AnswerText.outcome_reply, Rejection.reply_of}
use Rattle.register_http.specs.ActionReply.{history_after_asked, reply_to_asked, uses_register}

-- the text is the reply's
abbrev pub IsTextOf : HttpReply → String Global → Type 0
IsTextOf reply text = string_bytes text ≡ reply_bytes reply

-- what may have changed the register: a request that was accepted, whose reply is the text if there was memory for it,
-- or that the database refused
abbrev pub MayChange : Asked → Result (String Global) End → Type 0
MayChange (Reject rejection) result = ⊥
MayChange (ShowKey key) result = ⊥
MayChange (ShowUsage key) result = ⊥
MayChange (Apply sent) result =
    (result ≡ Err Store) ⊎ ((reply : core.Reply) × IfOk result (IsTextOf (outcome_reply (Ok reply))))

module _ {S : Type 0} (g : Ghosts S) where
  -- the desk after an end: memory may give out at a broken one too, where it is not asked
  abbrev pub StopsAsked : Desk S g → Desk S g → End → Type 0
  StopsAsked old new Memory = GoesOn old new
  StopsAsked old new Store = EndsBy old new Store
  StopsAsked old new Broken = EndsBy old new Broken
  StopsAsked old new ReadFault = EndsBy old new ReadFault
  StopsAsked old new WriteFault = EndsBy old new WriteFault
  StopsAsked old new BadHeader = EndsBy old new BadHeader

  -- want of memory before the register acted leaves it as it was, and after that as it is then
  abbrev pub StandsForEither : List Request → List Request → Desk S g → Type 0
  StandsForEither h other desk = StandsFor g desk h ⊎ StandsFor g desk other

  -- The desk was asked this at a moment, and gave the text of a reply, or an end.
  pub record Acts (moment : ℕ) (asked : Asked) (old new : Desk S g) (result : Result (String Global) End) : Type 0 where
    pub clean : IsClean g new → IsClean g old
    pub ends : MatchResult result (λ _. GoesOn old new) (StopsAsked old new)
    pub uses : IfErr result (λ end. end ≢ Memory → uses_register asked ≡ true)
    pub broken : uses_register asked ≡ true → IsBroken old → result ≡ Err Broken
    pub rejects : (rejection : Rejection) → asked ≡ Reject rejection → (new ≡ old)
        × IfOk result (IsTextOf (reply_of rejection))
    -- whatever the tables hold
    pub changes : ChangesNothing g old new ⊎ MayChange asked result
    pub text : (h : List Request) → StandsFor g old h → IsClean g new
        → IfOk result (IsTextOf (reply_to_asked h moment asked))
    pub stands : (h : List Request) → StandsFor g old h → IsClean g new
        → OnOk result (StandsFor g new (history_after_asked h moment asked))
    pub memory : (h : List Request) → StandsFor g old h → IsClean g new
        → IfErr result (λ end. end ≡ Memory → StandsForEither h (history_after_asked h moment asked) new)
    pub leaves : (h : List Request) → StandsFor g old h → IsWhole old → IsClean g new
        → LeavesEither g h (history_after_asked h moment asked) new
