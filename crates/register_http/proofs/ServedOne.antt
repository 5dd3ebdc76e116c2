-- A client who was served.
use Rattle.std.proofs.Common.{◌≡◌, ◌≢◌, inl, inr, ℕ, List, Option, Some, None, String, Result, Ok, Err, refl, sym, ap}
use Rattle.std.proofs.Common.{subst, ◌∙◌, ◌⊎◌, IfOk, IfSome}
use Rattle.std.specs.declared.alloc.Global.{Global}
use Rattle.sqlite_trees.specs.declared.store.Store.{Ghosts}
use Rattle.moment_core.specs.Moment.{IsMoment}
use Rattle.register_requests.specs.{declared.request.Request.Request, Request.IsRequest}
use Rattle.register_core.specs.Fold.{history_after}
use Rattle.register_desk.specs.declared.end.End.TheVariants.{Memory, Store, Broken, ReadFault, WriteFault, BadHeader}
use Rattle.register_desk.specs.declared.outcome.Finish.TheVariants.{Ended}
use Rattle.register_desk.specs.Desk.{IsClean, IsWhole, LeavesEither}
use Rattle.register_desk.specs.{declared.desk.Desk.Desk, declared.end.End.End, declared.outcome.Finish.Finish}
use Rattle.register_desk.specs.Register.{StandsFor}
use Rattle.register_desk.proofs.Found.{leaves_alone}
use Rattle.http_messages.specs.declared.asked.AskFault.{AskFault}
use Rattle.http_messages.specs.declared.asked.AskFault.TheVariants as fault
use Rattle.http_messages.specs.{declared.asked.Asked.Asked, Asked.AsksFor, CommandBody.IsAskedInRange}
use Rattle.register_http.specs.{Action.Acts, ActionReply.item_of, Exchange.EndsAs, Exchange.Exchanges}
use Rattle.register_http.specs.Exchange.{ServesAsked}
use Rattle.register_http.specs.SentReply.{Sends, sent_text}
use Rattle.register_http.specs.ServedExchanges.{AskedNothing, IsServed, ServedClient, bytes_to_send, moment_of}
use Rattle.register_http.proofs.ServingLemmas.{handed, item_in_range}

-- The client handed an item to the register of the history h, which has it then and is whole, but where the database
-- refused.
pub record ServesOne {S : Type 0} (g : Ghosts S) (h : List Request) (client : ServedClient) (now : Desk S g) : Type 0
  where
    pub item : Option Request
    pub served : IsServed h client item
    pub in_range : IfSome item IsRequest
    pub leaves : LeavesEither g h (history_after h item) now
    pub whole : client.outcome.end ≢ Ended Store → IsWhole now
    pub stands : client.outcome.end ≢ Ended Store → StandsFor g now (history_after h item)

module _ {S : Type 0} (g : Ghosts S) (client : ServedClient) (kept now : Desk S g) (h : List Request)
    (stands : StandsFor g kept h) (whole : IsWhole kept) (clean : IsClean g now) where
  abbrev moment : ℕ
  moment = moment_of client

  abbrev end : Finish
  end = client.outcome.end

  -- this was sent
  abbrev SendsThis : List ℕ → Type 0
  SendsThis reply = Sends reply client.old client.new client.outcome.written client.outcome.replies

  -- the desk was not asked
  unasked : (asked : Option Asked) → asked ≡ None
      → ((bytes : List ℕ) → client.input ≡ Some bytes → AsksFor bytes asked ⊎ AskedNothing asked end)
      → SendsThis (bytes_to_send h moment asked end) → now ≡ kept → ServesOne g h client now
  unasked asked none asks sends same =
      let stood = subst (λ (d : Desk S g). StandsFor g d h) (sym same) stands in
      let is_whole = subst (λ (d : Desk S g). IsWhole d) (sym same) whole in
      record {
        item = None;
        served = record { asked = asked; asks = asks; hands = sym (ap (item_of moment) none); sends = sends };
        in_range = tt;
        leaves = leaves_alone g h now stood is_whole clean;
        whole = λ other. is_whole;
        stands = λ other. stood;
      }

  -- it was asked
  module _ (is_moment : IsMoment moment) (one : Asked) (in_range : IsAskedInRange one)
      (asks : (bytes : List ℕ) → client.input ≡ Some bytes → AsksFor bytes (Some one)) where
    served_so : SendsThis (bytes_to_send h moment (Some one) end) → IsServed h client (item_of moment (Some one))
    served_so sends = record { asked = Some one; asks = λ bytes known. inl (asks bytes known); hands = refl; sends = sends }

    asked_so : (result : Result (String Global) End) → Acts g moment one kept now result
        → SendsThis (sent_text result) → EndsAs result end client.outcome.replies → ServesOne g h client now
    asked_so (Ok text) acts sends ends = record {
      item = item_of moment (Some one);
      served = served_so (subst SendsThis (acts.text h stands clean ∙ sym (elim ends [
        | inl sent ↦ ap (bytes_to_send h moment (Some one)) sent.0
        | inr part ↦ ap (bytes_to_send h moment (Some one)) part.0
      ])) sends);
      in_range = item_in_range moment is_moment one in_range;
      leaves = subst (λ k. LeavesEither g h k now) (handed h moment one) (acts.leaves h stands whole clean);
      whole = λ other. acts.ends.whole whole;
      stands = λ other. subst (StandsFor g now) (handed h moment one) (acts.stands h stands clean);
    }
    asked_so (Err Memory) acts sends ends = elim (acts.memory h stands clean refl) [
      | inl before ↦ record {
        item = None;
        served = record {
          asked = None;
          asks = λ bytes known. inr (refl, inl ends);
          hands = refl;
          sends = subst SendsThis (sym (ap (bytes_to_send h moment None) ends)) sends;
        };
        in_range = tt;
        leaves = leaves_alone g h now before (acts.ends.whole whole) clean;
        whole = λ other. acts.ends.whole whole;
        stands = λ other. before;
      }
      | inr after ↦ record {
        item = item_of moment (Some one);
        served = served_so (subst SendsThis (sym (ap (bytes_to_send h moment (Some one)) ends)) sends);
        in_range = item_in_range moment is_moment one in_range;
        leaves = subst (λ k. LeavesEither g h k now) (handed h moment one) (acts.leaves h stands whole clean);
        whole = λ other. acts.ends.whole whole;
        stands = λ other. subst (StandsFor g now) (handed h moment one) after;
      }
    ]
    asked_so (Err Store) acts sends ends = record {
      item = item_of moment (Some one);
      served = served_so (subst SendsThis (sym (ap (bytes_to_send h moment (Some one)) ends)) sends);
      in_range = item_in_range moment is_moment one in_range;
      leaves = subst (λ k. LeavesEither g h k now) (handed h moment one) (acts.leaves h stands whole clean);
      whole = λ other. absurd (other ends);
      stands = λ other. absurd (other ends);
    }
    asked_so (Err Broken) acts sends ends = absurd (let both = sym whole ∙ acts.ends.0 in cc)
    asked_so (Err ReadFault) acts sends ends = absurd acts.ends
    asked_so (Err WriteFault) acts sends ends = absurd acts.ends
    asked_so (Err BadHeader) acts sends ends = absurd acts.ends

  pub serves_one : IsMoment moment → (asked : Result (Option Asked) AskFault)
      → IfOk asked (λ it. IfSome it IsAskedInRange)
      → ((bytes : List ℕ) → client.input ≡ Some bytes → IfOk asked (AsksFor bytes))
      → ServesAsked g moment asked kept now client.old client.new client.outcome → ServesOne g h client now
  serves_one is_moment (Ok (Some one)) in_range asks s =
      asked_so is_moment one in_range asks s.result s.acts s.sends s.ends
  serves_one is_moment (Ok None) in_range asks s =
      unasked None refl (λ bytes known. inl (asks bytes known))
      (subst SendsThis (sym (ap (bytes_to_send h moment None) s.0.ends)) s.0.sends) s.0.same
  serves_one is_moment (Err fault.Memory) in_range asks s =
      unasked None refl (λ bytes known. inr (refl, inl s.ends))
      (subst SendsThis (sym (ap (bytes_to_send h moment None) s.ends)) s.sends) s.same
  serves_one is_moment (Err fault.ReadFault) in_range asks s =
      unasked None refl (λ bytes known. inr (refl, inr s.0.ends))
      (subst SendsThis (sym (ap (bytes_to_send h moment None) s.0.ends)) s.0.sends) s.0.same

-- by what its exchange says
pub serves_client : {S : Type 0} (g : Ghosts S) (client : ServedClient) (at : ℕ) (kept now : Desk S g)
    → at ≡ moment_of client → IsMoment at
    → Exchanges g at client.input kept now client.old client.new client.outcome
    → (h : List Request) → StandsFor g kept h → IsWhole kept → IsClean g now → ServesOne g h client now
serves_client g client at kept now is is_moment it h stands whole clean =
    serves_one g client kept now h stands whole clean (subst IsMoment is is_moment) it.asked it.in_range it.asks
    (subst (λ (m : ℕ). ServesAsked g m it.asked kept now client.old client.new client.outcome) is it.serves)
