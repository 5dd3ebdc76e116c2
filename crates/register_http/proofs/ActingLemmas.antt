-- What a desk leaves that was asked something, by what came of its call and of the memory for the text.
use Rattle.std.proofs.Common.{◌≡◌, ◌≢◌, ◌⊎◌, inl, inr, ℕ, true, List, Option, String, Result, Ok, Err, refl, sym, subst}
use Rattle.std.proofs.Common.{ap, ◌∙◌}
use Rattle.std.specs.{Prelude.IfOk, Prelude.OnErr, declared.alloc.Global.Global, declared.alloc.AllocError.AllocError}
use Rattle.sqlite_trees.specs.declared.store.Store.{Ghosts}
use Rattle.register_core.specs.declared.answer.Answer.TheVariants.{Accepted, Repeated, Refused}
use Rattle.register_core.specs.Answer.{UnlessAccepted, outcome}
use Rattle.register_core.specs.{declared.answer.Answer.Answer, declared.reply.Refusal.Refusal}
use Rattle.register_requests.specs.declared.request.Request.{Request}
use Rattle.register_core.specs.declared.reply.Reply as core
use Rattle.http_messages.specs.declared.asked.Asked.TheVariants.{Reject}
use Rattle.http_messages.specs.{AnswerText.outcome_reply, declared.asked.Asked.Asked}
use Rattle.http_messages.specs.{declared.asked.Rejection.Rejection, Rejection.reply_of, HttpReply.HttpReply}
use Rattle.register_desk.specs.declared.end.End.TheVariants.{Memory, Store, Broken, ReadFault, WriteFault, BadHeader}
use Rattle.register_desk.specs.Desk.{ChangesNothing, EndsBy, GoesOn, IsBroken, IsClean, IsWhole, LeavesEither}
use Rattle.register_desk.specs.{declared.desk.Desk.Desk, declared.end.End.End, Register.StandsFor}
use Rattle.register_desk.proofs.Found.{leaves_alone, leaves_still}
use Rattle.register_desk.proofs.Readings.{stands_still}
use Rattle.register_http.specs.Action.{Acts, IsTextOf, MayChange, StopsAsked}
use Rattle.register_http.specs.ActionReply.{found_reply, history_after_asked, reply_to_asked, uses_register}

whole_not_broken : {A : Type 0} {S : Type 0} {g : Ghosts S} (desk : Desk S g) → IsWhole desk → IsBroken desk → A
whole_not_broken desk whole broken = let both = sym whole ∙ broken in absurd (cc)

module _ {S : Type 0} (g : Ghosts S) where
  -- a stop leaves one of two histories where it leaves the first, or the second
  pub leaves_first : (h other : List Request) (desk : Desk S g) → LeavesEither g h h desk → LeavesEither g h other desk
  leaves_first h other desk leaves = λ trees left. let (db, holds, is) = leaves trees left in
      (db, inl (elim holds [ inl one ↦ one | inr two ↦ two ]), is)

  pub leaves_second : (h other : List Request) (desk : Desk S g) → LeavesEither g other other desk
      → LeavesEither g h other desk
  leaves_second h other desk leaves = λ trees left. let (db, holds, is) = leaves trees left in
      (db, inr (elim holds [ inl one ↦ one | inr two ↦ two ]), is)

  -- a call of the database that a broken desk refuses ends by that
  broken_ends : (old new : Desk S g) (end : End) → EndsBy old new end → IsBroken old → end ≡ Broken
  broken_ends old new Memory ends broken = whole_not_broken old ends.0 broken
  broken_ends old new Store ends broken = whole_not_broken old ends.0 broken
  broken_ends old new Broken ends broken = refl
  broken_ends old new ReadFault ends broken = absurd ends
  broken_ends old new WriteFault ends broken = absurd ends
  broken_ends old new BadHeader ends broken = absurd ends

  both_whole : (old new : Desk S g) → IsWhole old → IsWhole new → GoesOn old new
  both_whole old new was is = record { whole = λ _. is; broken = λ broken. whole_not_broken old was broken }

  stops_by : (old new : Desk S g) (end : End) → EndsBy old new end → StopsAsked g old new end
  stops_by old new Memory ends = both_whole old new ends.0 ends.1
  stops_by old new Store ends = ends
  stops_by old new Broken ends = ends
  stops_by old new ReadFault ends = ends
  stops_by old new WriteFault ends = ends
  stops_by old new BadHeader ends = ends

  module _ (moment : ℕ) (asked : Asked) (old new : Desk S g) where
    -- what was asked is a question: it adds no request, uses the register, and is not rejected
    pub record IsQuestion : Type 0 where
      pub same : (h : List Request) → history_after_asked h moment asked ≡ h
      pub uses : uses_register asked ≡ true
      pub asks : (rejection : Rejection) → asked ≢ Reject rejection

    -- the desk's call went on to its end
    pub record Went : Type 0 where
      pub clean : IsClean g new → IsClean g old
      pub goes_on : GoesOn old new
      pub whole : uses_register asked ≡ true → IsWhole old
      pub stands : (h : List Request) → StandsFor g old h → IsClean g new
          → StandsFor g new (history_after_asked h moment asked)
      pub leaves : (h : List Request) → StandsFor g old h → IsWhole old → IsClean g new
          → LeavesEither g h (history_after_asked h moment asked) new

    pub went_reading : IsQuestion → IsWhole old × IsWhole new → ChangesNothing g old new → Went
    went_reading question both reads = record {
      clean = reads.clean;
      goes_on = both_whole old new both.0 both.1;
      whole = λ uses. both.0;
      stands = λ h s clean. subst (StandsFor g new) (sym (question.same h)) (stands_still g old new reads h s);
      leaves = λ h s whole clean. subst (λ k. LeavesEither g h k new) (sym (question.same h))
          (leaves_still g h old new reads s whole clean);
    }

    -- a text was made of the answer, or memory for it gave out
    pub acts_text : (made : Result (String Global) AllocError) (result : Result (String Global) End) → Went
        → ChangesNothing g old new ⊎ MayChange asked result
        → ((rejection : Rejection) → asked ≡ Reject rejection → (new ≡ old) × IfOk made (IsTextOf (reply_of rejection)))
        → ((h : List Request) → StandsFor g old h → IsClean g new → IfOk made (IsTextOf (reply_to_asked h moment asked)))
        → IfOk made (λ s. result ≡ Ok s) → OnErr made (result ≡ Err Memory) → Acts g moment asked old new result
    acts_text (Ok s) result went changes rejects text ok err = subst (Acts g moment asked old new) (sym ok) (record {
      changes = subst (λ r. ChangesNothing g old new ⊎ MayChange asked r) ok changes;
      clean = went.clean;
      ends = went.goes_on;
      uses = tt;
      broken = λ uses broken. whole_not_broken old (went.whole uses) broken;
      rejects = rejects;
      text = text;
      stands = went.stands;
      memory = λ h stands clean. tt;
      leaves = went.leaves;
    })
    acts_text (Err e) result went changes rejects text ok err = subst (Acts g moment asked old new) (sym err) (record {
      changes = subst (λ r. ChangesNothing g old new ⊎ MayChange asked r) err changes;
      clean = went.clean;
      ends = went.goes_on;
      uses = λ other. absurd (other refl);
      broken = λ uses broken. whole_not_broken old (went.whole uses) broken;
      rejects = λ rejection is. ((rejects rejection is).0, tt);
      text = λ h stands clean. tt;
      stands = λ h stands clean. tt;
      memory = λ h stands clean is. inr (went.stands h stands clean);
      leaves = went.leaves;
    })

    -- the desk's call came to an end
    pub acts_end : (end : End) (result : Result (String Global) End) → uses_register asked ≡ true
        → ((rejection : Rejection) → asked ≢ Reject rejection)
        → (IsClean g new → IsClean g old) → EndsBy old new end
        → ((h : List Request) → StandsFor g old h → StandsFor g new h)
        → ((h : List Request) → StandsFor g old h → IsWhole old → IsClean g new
        → LeavesEither g h (history_after_asked h moment asked) new)
        → ChangesNothing g old new ⊎ MayChange asked (Err end) → result ≡ Err end → Acts g moment asked old new result
    acts_end end result uses asks clean ends stands leaves changes is =
        subst (Acts g moment asked old new) (sym is) (record {
          changes = changes;
          clean = clean;
          ends = stops_by old new end ends;
          uses = λ other. uses;
          broken = λ used broken. ap Err (broken_ends old new end ends broken);
          rejects = λ rejection same. absurd (asks rejection same);
          text = λ h s was_clean. tt;
          stands = λ h s was_clean. tt;
          memory = λ h s was_clean same. inl (stands h s);
          leaves = leaves;
        })

    pub question_ends : (end : End) (result : Result (String Global) End) → IsQuestion → EndsBy old new end
        → ChangesNothing g old new
        → result ≡ Err end → Acts g moment asked old new result
    question_ends end result question ends reads is =
        acts_end end result question.uses question.asks reads.clean ends (λ h s. stands_still g old new reads h s)
        (λ h s whole clean. subst (λ k. LeavesEither g h k new) (sym (question.same h))
        (leaves_still g h old new reads s whole clean)) (inl reads) is

    -- the request was applied, and answered
    pub went_applied : (h' : List Request → List Request)
        → ((h : List Request) → history_after_asked h moment asked ≡ h' h) → (IsClean g new → IsClean g old)
        → IsWhole old × IsWhole new → ((h : List Request) → StandsFor g old h → IsClean g new → StandsFor g new (h' h)) → Went
    went_applied h' is clean both stands = record {
      clean = clean;
      goes_on = both_whole old new both.0 both.1;
      whole = λ uses. both.0;
      stands = λ h s was_clean. subst (StandsFor g new) (sym (is h)) (stands h s was_clean);
      leaves = λ h s whole was_clean. subst (λ k. LeavesEither g h k new) (sym (is h))
          (leaves_second h (h' h) new (leaves_alone g (h' h) new (stands h s was_clean) both.1 was_clean));
    }

    leaves_applied : (end : End) (h other : List Request) → EndsBy old new end → StandsFor g old h → IsWhole old
        → IsClean g new
        → (end ≡ Store → LeavesEither g h other new) → (end ≢ Store → ChangesNothing g old new)
        → LeavesEither g h other new
    leaves_applied Memory h other ends s whole clean store same = leaves_first h other new
        (leaves_still g h old new (same (λ e. absurd (cc))) s whole clean)
    leaves_applied Store h other ends s whole clean store same = store refl
    leaves_applied Broken h other ends s whole clean store same = whole_not_broken old whole ends.0
    leaves_applied ReadFault h other ends s whole clean store same = absurd ends
    leaves_applied WriteFault h other ends s whole clean store same = absurd ends
    leaves_applied BadHeader h other ends s whole clean store same = absurd ends

    changes_applied : (end : End) → EndsBy old new end → (end ≢ Store → ChangesNothing g old new)
        → MayChange asked (Err Store) → ChangesNothing g old new ⊎ MayChange asked (Err end)
    changes_applied Memory ends same may = inl (same (λ e. absurd (cc)))
    changes_applied Store ends same may = inr may
    changes_applied Broken ends same may = inl (same (λ e. absurd (cc)))
    changes_applied ReadFault ends same may = absurd ends
    changes_applied WriteFault ends same may = absurd ends
    changes_applied BadHeader ends same may = absurd ends

    -- the request was not answered
    pub applied_ends : (end : End) (result : Result (String Global) End) → uses_register asked ≡ true
        → ((rejection : Rejection) → asked ≢ Reject rejection)
        → (IsClean g new → IsClean g old) → EndsBy old new end
        → ((h : List Request) → StandsFor g old h → StandsFor g new h)
        → (h' : List Request → List Request) → ((h : List Request) → history_after_asked h moment asked ≡ h' h)
        → ((h : List Request) → StandsFor g old h → IsClean g new → end ≡ Store → LeavesEither g h (h' h) new)
        → (end ≢ Store → ChangesNothing g old new) → MayChange asked (Err Store) → result ≡ Err end
        → Acts g moment asked old new result
    applied_ends end result uses asks clean ends stands h' after store same may is =
        acts_end end result uses asks clean ends stands
        (λ h s whole was_clean. subst (λ k. LeavesEither g h k new) (sym (after h))
        (leaves_applied end h (h' h) ends s whole was_clean (store h s was_clean) same))
        (changes_applied end ends same may) is

  -- an answer that is no acceptance changed nothing, and what an acceptance is told is its reply
  pub changes_answered : (old new : Desk S g) (answer : Answer) (made : Result (String Global) AllocError)
      (result : Result (String Global) End) → UnlessAccepted answer (ChangesNothing g old new)
      → IfOk made (IsTextOf (outcome_reply (outcome answer))) → IfOk made (λ s. result ≡ Ok s)
      → OnErr made (result ≡ Err Memory)
      → ChangesNothing g old new ⊎ ((result ≡ Err Store)
      ⊎ ((reply : core.Reply) × IfOk result (IsTextOf (outcome_reply (Ok reply)))))
  changes_answered old new (Accepted reply) (Ok s) result same text ok err =
      inr (inr (
        reply,
        subst (λ (r : Result (String Global) End). IfOk r (IsTextOf (outcome_reply (Ok reply))))
            (sym ok) text,
      ))
  changes_answered old new (Accepted reply) (Err e) result same text ok err =
      inr (inr (
        reply,
        subst (λ (r : Result (String Global) End). IfOk r (IsTextOf (outcome_reply (Ok reply))))
            (sym err) tt,
      ))
  changes_answered old new (Repeated first) made result same text ok err = inl same
  changes_answered old new (Refused refusal) made result same text ok err = inl same

  -- the desk is not asked
  pub went_unasked : (moment : ℕ) (rejection : Rejection) (desk : Desk S g) → Went moment (Reject rejection) desk desk
  went_unasked moment rejection desk = record {
    clean = λ clean. clean;
    goes_on = record { whole = λ whole. whole; broken = λ _. refl };
    whole = λ uses. absurd (cc);
    stands = λ h s clean. s;
    leaves = λ h s whole clean. leaves_alone g h desk s whole clean;
  }

rejection_is : (r k : Rejection) → Reject r ≡ Reject k → r ≡ k
rejection_is r k e = cc

-- the text of a rejection is known without the register
pub rejected_text : (r k : Rejection) (made : Result (String Global) AllocError) → IfOk made (IsTextOf (reply_of r))
    → Reject r ≡ Reject k → IfOk made (IsTextOf (reply_of k))
rejected_text r k made text e = subst (λ x. IfOk made (IsTextOf (reply_of x))) (rejection_is r k e) text

-- what is found of a key is told
pub found_text : {T : Type 0} (reply : T → HttpReply) (o p : Option T) (made : Result (String Global) AllocError)
    → o ≡ p → IfOk made (IsTextOf (found_reply reply o)) → IfOk made (IsTextOf (found_reply reply p))
found_text reply o p made e text = subst (λ x. IfOk made (IsTextOf (found_reply reply x))) e text

-- what was asked, by another name of it
pub asked_same : {S : Type 0} (g : Ghosts S) (moment : ℕ) (a b : Asked) (old new : Desk S g)
    (result : Result (String Global) End) → a ≡ b → Acts g moment a old new result → Acts g moment b old new result
asked_same g moment a b old new result e acts = subst (λ (x : Asked). Acts g moment x old new result) e acts

-- what was answered, by another name of it
pub outcome_told : (o p : Result core.Reply Refusal) (made : Result (String Global) AllocError) → o ≡ p
    → IfOk made (IsTextOf (outcome_reply o)) → IfOk made (IsTextOf (outcome_reply p))
outcome_told o p made e text = subst (λ (x : Result core.Reply Refusal). IfOk made (IsTextOf (outcome_reply x))) e text
