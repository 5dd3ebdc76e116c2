-- An exchange hands at most one request to the register.
use Rattle.std.proofs.Common.{◌≡◌, ◌≢◌, inl, inr, ℕ, List, [], Option, Some, None, String, Result, Ok, Err, refl}
use Rattle.std.proofs.Common.{sym, subst, ◌∙◌, IfOk, IfSome, ◌⊎◌, ap, ◌≤◌, true, false}
use Rattle.std.proofs.lemmas.Result.{IfErr-at_err}
use Rattle.std.specs.{declared.alloc.Global.Global, Io.KnownBytes.Consumes, Prelude.IfErr, Prelude.OnOk}
use Rattle.sqlite_trees.specs.declared.store.Store.{Ghosts}
use Rattle.register_requests.specs.{declared.request.Request.Request, Request.IsRequest}
use Rattle.moment_core.specs.Moment.{IsMoment}
use Rattle.register_core.specs.Fold.{history_after}
use Rattle.register_desk.specs.declared.end.End.TheVariants.{Memory, Store, Broken, ReadFault, WriteFault, BadHeader}
use Rattle.register_desk.specs.declared.outcome.Finish.TheVariants.{Ended, AtEnd}
use Rattle.register_desk.specs.Desk.{IsClean, IsWhole, LeavesEither}
use Rattle.register_desk.specs.{declared.desk.Desk.Desk, declared.end.End.End, declared.outcome.Finish.Finish}
use Rattle.register_desk.specs.{declared.outcome.Outcome.Outcome, Register.StandsFor}
use Rattle.register_desk.proofs.{Found.leaves_alone, Appended.appends_none}
use Rattle.http_messages.specs.declared.asked.AskFault.{AskFault}
use Rattle.http_messages.specs.declared.asked.Asked.TheVariants.{Reject, ShowKey, ShowUsage, Apply}
use Rattle.http_messages.specs.{declared.asked.Asked.Asked, CommandBody.IsAskedInRange, Content.HasRead}
use Rattle.http_messages.specs.declared.asked.AskFault.TheVariants as fault
use Rattle.register_http.specs.ActionReply.{history_after_asked, item_of}
use Rattle.register_http.specs.Exchange.{EndsAs, ServesExchange, ServesAsked, LeavesUnasked, LeavesHttpReader}
use Rattle.register_http.specs.Exchange.{max_exchange_reads}
use Rattle.register_http.specs.SentReply.{Sends, sent_text}
use Rattle.register_http.specs.{Action.Acts, Action.StandsForEither, OneItem.LeavesOne}
use Rattle.streams.specs.{declared.watched.Watched.Watched, Watched.IsFaulted}

pub handed : (h : List Request) (moment : ℕ) (asked : Asked)
    → history_after_asked h moment asked ≡ history_after h (item_of moment (Some asked))
handed h moment (Reject rejection) = refl
handed h moment (ShowKey key) = refl
handed h moment (ShowUsage key) = refl
handed h moment (Apply sent) = refl

-- it is in its range where what is asked is
pub item_in_range : (moment : ℕ) → IsMoment moment → (asked : Asked) → IsAskedInRange asked
    → IfSome (item_of moment (Some asked)) IsRequest
item_in_range moment is (Reject rejection) in_range = tt
item_in_range moment is (ShowKey key) in_range = tt
item_in_range moment is (ShowUsage key) in_range = tt
item_in_range moment is (Apply sent) in_range = record {
  moment = is;
  caller = in_range.caller;
  number = in_range.number;
  command = in_range.command;
}

module _ {S : Type 0} (g : Ghosts S) (moment : ℕ) (kept now : Desk S g) (is_moment : IsMoment moment) where
  -- the desk after an answer, or after an end that is not the database's
  went_on : (asked : Asked) (result : Result (String Global) End) → Acts g moment asked kept now result
      → (h : List Request) → StandsFor g kept h → IsWhole kept → IsClean g now
      → (result ≢ Err Store) → IsWhole now × StandsForEither g h (history_after_asked h moment asked) now
  went_on asked (Ok text) acts h s whole clean other = (acts.ends.whole whole, inr (acts.stands h s clean))
  went_on asked (Err Memory) acts h s whole clean other = (acts.ends.whole whole, acts.memory h s clean refl)
  went_on asked (Err Store) acts h s whole clean other = absurd (other refl)
  went_on asked (Err Broken) acts h s whole clean other = let both = sym whole ∙ acts.ends.0 in absurd (cc)
  went_on asked (Err ReadFault) acts h s whole clean other = absurd acts.ends
  went_on asked (Err WriteFault) acts h s whole clean other = absurd acts.ends
  went_on asked (Err BadHeader) acts h s whole clean other = absurd acts.ends

  not_store : (result : Result (String Global) End) (end : Finish) (replies : ℕ) → EndsAs result end replies
      → end ≢ Ended Store → result ≢ Err Store
  not_store (Ok text) end replies ends other e = absurd (cc)
  not_store (Err Memory) end replies ends other e = absurd (cc)
  not_store (Err Store) end replies ends other e = other ends
  not_store (Err Broken) end replies ends other e = absurd (cc)
  not_store (Err ReadFault) end replies ends other e = absurd (cc)
  not_store (Err WriteFault) end replies ends other e = absurd (cc)
  not_store (Err BadHeader) end replies ends other e = absurd (cc)

  one_of : (asked : Asked) (outcome : Outcome) (old new : Option (List ℕ)) → IsAskedInRange asked
      → ServesExchange g moment asked kept now old new outcome
      → (h : List Request) → StandsFor g kept h → IsWhole kept → IsClean g now → LeavesOne g h now outcome.end
  one_of asked outcome old new in_range s h stands whole clean =
      let on = λ (other : outcome.end ≢ Ended Store). went_on asked s.result s.acts h stands whole clean
      (not_store s.result outcome.end outcome.replies s.ends other) in
      record {
        item = item_of moment (Some asked);
        in_range = item_in_range moment is_moment asked in_range;
        leaves = subst (λ k. LeavesEither g h k now) (handed h moment asked) (s.acts.leaves h stands whole clean);
        whole = λ other. (on other).0;
        stands = λ other. subst (λ k. StandsForEither g h k now) (handed h moment asked) (on other).1;
      }

  -- the desk was not asked
  none_of : (end : Finish) → now ≡ kept → (h : List Request) → StandsFor g kept h → IsWhole kept → IsClean g now
      → LeavesOne g h now end
  none_of end same h stands whole clean =
      let stood = subst (λ (d : Desk S g). StandsFor g d h) (sym same) stands in
      let is_whole = subst (λ (d : Desk S g). IsWhole d) (sym same) whole in
      record {
        item = None;
        in_range = tt;
        leaves = leaves_alone g h now stood is_whole clean;
        whole = λ other. is_whole;
        stands = λ other. inl stood;
      }

  pub leaves_one : (asked : Result (Option Asked) AskFault) (outcome : Outcome) (old new : Option (List ℕ))
      → IfOk asked (λ o. IfSome o IsAskedInRange) → ServesAsked g moment asked kept now old new outcome
      → (h : List Request) → StandsFor g kept h → IsWhole kept → IsClean g now → LeavesOne g h now outcome.end
  leaves_one (Ok (Some asked)) outcome old new in_range s h stands whole clean =
      one_of asked outcome old new in_range s h stands whole clean
  leaves_one (Ok None) outcome old new in_range (s, none) h stands whole clean =
      none_of outcome.end s.same h stands whole clean
  leaves_one (Err fault.Memory) outcome old new in_range s h stands whole clean =
      none_of outcome.end s.same h stands whole clean
  leaves_one (Err fault.ReadFault) outcome old new in_range (s, none) h stands whole clean =
      none_of outcome.end s.same h stands whole clean

module _ {S : Type 0} (g : Ghosts S) (moment : ℕ) (kept now : Desk S g) where
  pub was_clean : (asked : Result (Option Asked) AskFault) (outcome : Outcome) (old new : Option (List ℕ))
      → ServesAsked g moment asked kept now old new outcome
      → IsClean g now → IsClean g kept
  was_clean (Ok (Some asked)) outcome old new s clean = s.acts.clean clean
  was_clean (Ok None) outcome old new (s, none) clean = subst (λ (d : Desk S g). IsClean g d) s.same clean
  was_clean (Err fault.Memory) outcome old new s clean = subst (λ (d : Desk S g). IsClean g d) s.same clean
  was_clean (Err fault.ReadFault) outcome old new (s, none) clean = subst (λ (d : Desk S g). IsClean g d) s.same clean

-- ---- What an exchange was served comes to, however many bytes were read before.

-- the end that was answered, or what became of the writing where a text was
pub ends_by : (answered : Result (String Global) End) (otherwise end : Finish) (replies : ℕ)
    → ((otherwise ≡ AtEnd 0) × (replies ≡ 1)) ⊎ ((otherwise ≡ Ended WriteFault) × (replies ≡ 0))
    → OnOk answered (end ≡ otherwise)
    → IfErr answered (λ e. end ≡ Ended e) → EndsAs answered end replies
ends_by (Ok text) otherwise end replies both ok err =
    subst (λ (f : Finish). ((f ≡ AtEnd 0) × (replies ≡ 1)) ⊎ ((f ≡ Ended WriteFault) × (replies ≡ 0))) (sym ok) both
ends_by (Err e) otherwise end replies both ok err = err

module _ {S : Type 0} (g : Ghosts S) (moment : ℕ) (kept now : Desk S g) where
  reads_too : (asked : Result (Option Asked) AskFault) (old new : Option (List ℕ)) (o : Outcome) (n : ℕ)
      → ServesAsked g moment asked kept now old new o
      → ServesAsked g moment asked kept now old new (record o { read = n })
  reads_too (Ok (Some asked)) old new o n s = record {
    result = s.result;
    acts = s.acts;
    sends = s.sends;
    ends = s.ends;
  }
  reads_too (Ok None) old new o n (s, none) = (record { same = s.same; sends = s.sends; ends = s.ends }, none)
  reads_too (Err fault.Memory) old new o n s = record { same = s.same; sends = s.sends; ends = s.ends }
  reads_too (Err fault.ReadFault) old new o n (s, none) =
      (record { same = s.same; sends = s.sends; ends = s.ends }, none)

  pub served_after : (asked : Result (Option Asked) AskFault) (begun old new : Option (List ℕ)) (o : Outcome) (n : ℕ)
      → begun ≡ old
      → ServesAsked g moment asked kept now begun new o
      → ServesAsked g moment asked kept now old new (record o { read = n })
  served_after asked begun old new o n e s =
      subst (λ w. ServesAsked g moment asked kept now w new (record o { read = n })) e (reads_too asked begun new o n s)

  -- an answer never comes to a fault of the reader
  no_read_fault : {A : Type 0} (asked : Asked) (result : Result (String Global) End) (end : Finish) (replies : ℕ)
      → Acts g moment asked kept now result → EndsAs result end replies → end ≡ Ended ReadFault → A
  no_read_fault asked (Ok text) end replies acts ends is = elim ends [
    | inl whole ↦ let both = sym whole.0 ∙ is in absurd (cc)
    | inr part ↦ let both = sym part.0 ∙ is in absurd (cc)
  ]
  no_read_fault asked (Err Memory) end replies acts ends is = let both = sym ends ∙ is in absurd (cc)
  no_read_fault asked (Err Store) end replies acts ends is = let both = sym ends ∙ is in absurd (cc)
  no_read_fault asked (Err Broken) end replies acts ends is = let both = sym ends ∙ is in absurd (cc)
  no_read_fault asked (Err ReadFault) end replies acts ends is = absurd acts.ends
  no_read_fault asked (Err WriteFault) end replies acts ends is = let both = sym ends ∙ is in absurd (cc)
  no_read_fault asked (Err BadHeader) end replies acts ends is = let both = sym ends ∙ is in absurd (cc)

  -- where the reader failed, that is the end, and nowhere else
  pub read_fault : (asked : Result (Option Asked) AskFault) (old new : Option (List ℕ)) (o : Outcome)
      → asked ≡ Err fault.ReadFault → ServesAsked g moment asked kept now old new o → o.end ≡ Ended ReadFault
  read_fault asked old new o is s =
      (subst (λ (a : Result (Option Asked) AskFault). ServesAsked g moment a kept now old new o) is s).0.ends

  pub was_read_fault : (asked : Result (Option Asked) AskFault) (old new : Option (List ℕ)) (o : Outcome)
      → ServesAsked g moment asked kept now old new o → o.end ≡ Ended ReadFault → asked ≡ Err fault.ReadFault
  was_read_fault (Ok (Some asked)) old new o s is =
      no_read_fault asked s.result o.end o.replies s.acts s.ends is
  was_read_fault (Ok None) old new o (s, none) is = let both = sym s.ends ∙ is in absurd (cc)
  was_read_fault (Err fault.Memory) old new o s is = let both = sym s.ends ∙ is in absurd (cc)
  was_read_fault (Err fault.ReadFault) old new o (s, none) is = refl

  -- what was asked was answered, and the reply to that was sent
  pub sent_answer : (asked : Result (Option Asked) AskFault) (one : Asked) (old new : Option (List ℕ)) (o : Outcome)
      (answered : Result (String Global) End) (left : Desk S g) (given : Result (String Global) End) → now ≡ left
      → answered ≡ given → Acts g moment one kept left given
      → Sends (sent_text answered) old new o.written o.replies → EndsAs answered o.end o.replies
      → asked ≡ Ok (Some one) → ServesAsked g moment asked kept now old new o
  sent_answer asked one old new o answered left given desk_is given_is acts sends ends is =
      let made = subst (λ (d : Desk S g). Acts g moment one kept d given) (sym desk_is) acts in
      subst (λ (a : Result (Option Asked) AskFault). ServesAsked g moment a kept now old new o) (sym is) (record {
        result = answered;
        acts = subst (λ (r : Result (String Global) End). Acts g moment one kept now r) (sym given_is) made;
        sends = sends;
        ends = ends;
      })

  -- memory gave out as it was read what is asked, and the reply to that was sent
  pub sent_memory : (asked : Result (Option Asked) AskFault) (old new : Option (List ℕ)) (o : Outcome)
      (answered : Result (String Global) End) → asked ≡ Err fault.Memory → now ≡ kept → answered ≡ Err Memory
      → Sends (sent_text answered) old new o.written o.replies → EndsAs answered o.end o.replies
      → ServesAsked g moment asked kept now old new o
  sent_memory asked old new o answered is same memory sends ends =
      subst (λ (a : Result (Option Asked) AskFault). ServesAsked g moment a kept now old new o) (sym is) (record {
        same = same;
        sends = subst (λ (r : Result (String Global) End). Sends (sent_text r) old new o.written o.replies) memory
            sends;
        ends = subst (λ (r : Result (String Global) End). EndsAs r o.end o.replies) memory ends;
      })

  -- nothing was done, and nothing written
  silent : (end : Finish) (w : Option (List ℕ)) (o : Outcome) → now ≡ kept
      → o ≡ record { read = 0; written = 0; replies = 0; end = end }
      → LeavesUnasked g end [] kept now w w o × (o.replies ≡ 0)
  silent end w o same is = subst (λ (x : Outcome). LeavesUnasked g end [] kept now w w x × (x.replies ≡ 0)) (sym is) (
    record {
      same = same;
      sends = record { part = []; prefix = ([], refl); wrote = appends_none w; counted = refl; whole = inr refl };
      ends = refl;
    },
    refl,
  )

  pub sent_nothing : (asked : Result (Option Asked) AskFault) (w : Option (List ℕ)) (o : Outcome) → asked ≡ Ok None
      → now ≡ kept → o ≡ record { read = 0; written = 0; replies = 0; end = AtEnd 0 }
      → ServesAsked g moment asked kept now w w o
  sent_nothing asked w o is same all =
      subst (λ (a : Result (Option Asked) AskFault). ServesAsked g moment a kept now w w o) (sym is)
      (silent (AtEnd 0) w o same all)

  pub sent_no_reply : (asked : Result (Option Asked) AskFault) (w : Option (List ℕ)) (o : Outcome)
      → asked ≡ Err fault.ReadFault → now ≡ kept
      → o ≡ record { read = 0; written = 0; replies = 0; end = Ended ReadFault }
      → ServesAsked g moment asked kept now w w o
  sent_no_reply asked w o is same all =
      subst (λ (a : Result (Option Asked) AskFault). ServesAsked g moment a kept now w w o) (sym is)
      (silent (Ended ReadFault) w o same all)

  -- where the writer failed, no reply was written whole
  cut_off : (asked : Asked) (result : Result (String Global) End) (end : Finish) (replies : ℕ)
      → Acts g moment asked kept now result → EndsAs result end replies → end ≡ Ended WriteFault → replies ≡ 0
  cut_off asked (Ok text) end replies acts ends is = elim ends [
    | inl whole ↦ let both = sym whole.0 ∙ is in absurd (cc)
    | inr part ↦ part.1
  ]
  cut_off asked (Err Memory) end replies acts ends is = let both = sym ends ∙ is in absurd (cc)
  cut_off asked (Err Store) end replies acts ends is = let both = sym ends ∙ is in absurd (cc)
  cut_off asked (Err Broken) end replies acts ends is = let both = sym ends ∙ is in absurd (cc)
  cut_off asked (Err ReadFault) end replies acts ends is = let both = sym ends ∙ is in absurd (cc)
  cut_off asked (Err WriteFault) end replies acts ends is = absurd acts.ends
  cut_off asked (Err BadHeader) end replies acts ends is = let both = sym ends ∙ is in absurd (cc)

  pub was_cut_off : (asked : Result (Option Asked) AskFault) (old new : Option (List ℕ)) (o : Outcome)
      → ServesAsked g moment asked kept now old new o → o.end ≡ Ended WriteFault → o.replies ≡ 0
  was_cut_off (Ok (Some asked)) old new o s is = cut_off asked s.result o.end o.replies s.acts s.ends is
  was_cut_off (Ok None) old new o (s, none) is = none
  was_cut_off (Err fault.Memory) old new o s is = let both = sym s.ends ∙ is in absurd (cc)
  was_cut_off (Err fault.ReadFault) old new o (s, none) is = none

  module _ (asked : Result (Option Asked) AskFault) (v w : Option (List ℕ)) (o : Outcome)
      (serves : ServesAsked g moment asked kept now v w o) where
    -- what is left of the reader, by what came of asking
    pub leaves_reader : {R : Type 0} (remaining : R → Option (List ℕ)) (old reset new : Watched R) (n : ℕ)
        → reset ≡ record old { turns = 0; idle = 0 } → o.read ≡ n
        → HasRead (remaining reset.inner) (remaining new.inner) n → (reset.failed ≡ false → new.failed ≡ true → asked ≡ Err fault.ReadFault) → old.failed ≡ false
        → IfErr asked (λ f. f ≡ fault.ReadFault → IsFaulted new.failed max_exchange_reads new.turns)
        → new.turns ≤ max_exchange_reads → LeavesHttpReader remaining old new o
    leaves_reader remaining old reset new n is counted read tells sound faulted bounded = record {
      took = (
        read.0,
        subst (λ (r : Watched _). Consumes (remaining r.inner) (remaining new.inner) read.0) is read.1,
        counted ∙ sym read.2,
      );
      told = λ failed. read_fault asked v w o
          (tells (ap (λ (r : Watched _). r.failed) is ∙ sound) failed) serves;
      fault = λ is. IfErr-at_err (λ f. f ≡ fault.ReadFault → IsFaulted new.failed max_exchange_reads new.turns)
          (was_read_fault asked v w o serves is) faulted refl;
      bounded = bounded;
    }
