-- What is lawful in a version is lawful in this program's, and answered alike; and what the first version sets.
use Rattle.std.proofs.Common.{◌≡◌, ℕ, true, List, [], ◌∷◌, ◌++◌, fold, Option, None, Some, Result, refl, sym, ap, ◌∙◌}
use Rattle.std.proofs.Common.{arith}
use Rattle.std.proofs.lemmas.List.{map-append}
use Rattle.std.proofs.lemmas.Bool.Decides.{nat_tests}
use Rattle.std.specs.{Prelude.IfSome, List.AllByRecursion}
use Rattle.period_core.specs.{declared.key_type.KeyType.KeyType, Period.Period}
use Rattle.register_requests.specs.declared.version.Version.TheVariants.{First}
use Rattle.register_requests.specs.{declared.request.Request.Request, declared.request.Command.Command}
use Rattle.register_requests.specs.{declared.version.Version.Version, Request.IsRequest, Version.current, Version.knows}
use Rattle.register_core.specs.Fold.{answers_in, history_after_in, history_in, items, IsLawful, IsLawfulIn}
use Rattle.register_core.specs.Settings.{KeyNeed, TypePeriod, all_needs, all_periods, needs_after, periods_after}
use Rattle.register_core.specs.Verdict.{Accepts, told, judge_in, judgement, verdict, verdict_in}
use Rattle.register_core.specs.{declared.reply.Refusal.Refusal, declared.reply.Reply.Reply, declared.view.Held.Held}
use Rattle.register_core.specs.{Effect.period_after, History.set_period, KeptReply.reply}
use Rattle.register_core.proofs.Lawful.{all_but_last, all_more, holds_in, lawful_after_in, lawful_with}
use Rattle.register_core.proofs.{Folds.answers_push, Verdicts.judged_in}

-- ---- one request

judged_still : (last keys : ℕ) (periods : KeyType → Period) (key : Option Held) (q : Request)
    → judge_in First last keys periods key q ≡ None → judge_in current last keys periods key q ≡ None
judged_still last keys periods key q none = grind (arith, nat_tests)

-- what a version accepts is accepted still
pub still : (version : Version) (h : List Request) (q : Request) → verdict_in version h q ≡ Accepts
    → (judgement h q ≡ None) × (verdict h q ≡ Accepts)
still version h q accepted = grind (arith, judged_in, judged_still)

-- ---- whole histories

abbrev answered : Version → List Request → List (Result Reply Refusal)
answered version h = answers_in version [] (items h)

answered_more : (version : Version) (h : List Request) (q : Request) → IsLawfulIn version h
    → verdict_in version h q ≡ Accepts
    → answered version (h ++ q ∷ []) ≡ answered version h ++ told Accepts (reply h q) ∷ []
answered_more version h q lawful accepted = grind (arith, map-append, answers_push)

abbrev IsKnown : Version → Request → Type 0
IsKnown version q = knows version q.command ≡ true

record Stays (version : Version) (h : List Request) : Type 0 where
  lawful : IsLawful h
  known : AllByRecursion (IsKnown version) h
  answers : answered current h ≡ answered version h

abbrev StaysSo : Version → List Request → Type 0
StaysSo version h = AllByRecursion IsRequest h → Stays version h

module _ (version : Version) where
  stays_next : (h : List Request) (q : Request) → IsLawfulIn version h → verdict_in version h q ≡ Accepts
      → StaysSo version h → StaysSo version (h ++ q ∷ [])
  stays_next h q lawful accepted before each =
      let parts = all_but_last IsRequest h q each in
      let so = before parts.0 in
      let next = still version h q accepted in
      record {
        lawful = lawful_with h q parts.1 so.lawful next.1;
        known = all_more (IsKnown version) h q so.known (judged_in version h q accepted).known;
        answers = answered_more current h q so.lawful next.1
            ∙ ap (λ l. l ++ told Accepts (reply h q) ∷ []) so.answers
            ∙ sym (answered_more version h q lawful accepted);
      }

  stays : (h : List Request) → IsLawfulIn version h → Stays version h
  stays h lawful =
      holds_in version (StaysSo version) stays_next
      (λ each. record { lawful = record { in_range = tt; accepted = refl }; known = tt; answers = refl })
      h lawful lawful.in_range

  pub lawful_still : (h : List Request) → IsLawfulIn version h → IsLawful h
  lawful_still h lawful = (stays h lawful).lawful

  pub all_known : (h : List Request) → IsLawfulIn version h → AllByRecursion (λ q. knows version q.command ≡ true) h
  all_known h lawful = (stays h lawful).known

  pub answered_still : (h : List Request) → IsLawfulIn version h
      → answers_in current [] (items h) ≡ answers_in version [] (items h)
  answered_still h lawful = (stays h lawful).answers

-- ---- items

abbrev AreRequests : List (Option Request) → Type 0
AreRequests given = AllByRecursion (λ item. IfSome item IsRequest) given

lawful_from : (version : Version) (h : List Request) (given : List (Option Request)) → IsLawfulIn version h
    → AreRequests given → IsLawfulIn version (history_in version h given)
lawful_from version h [] lawful all = lawful
lawful_from version h (None ∷ later) lawful all = lawful_from version h later lawful all.1
lawful_from version h (Some q ∷ later) lawful all =
    lawful_from version (history_after_in version h (Some q)) later (lawful_after_in version h q all.0 lawful) all.1

-- those of a version come first, those of this program's after them
pub versions_follow : (version : Version) (old new : List (Option Request)) → AreRequests old → AreRequests new
    → IsLawful (history_in current (history_in version [] old) new)
versions_follow version old new all_old all_new =
    let first = lawful_from version [] old (record { in_range = tt; accepted = refl }) all_old in
    lawful_from current (history_in version [] old) new (lawful_still version (history_in version [] old) first) all_new

-- ---- what the first version sets: nothing

module _ {X : Type 0} (step : X → Request → X) (start : X) (stays_so : (q : Request) → IsKnown First q
    → step start q ≡ start) where
  unmoved : (h : List Request) → AllByRecursion (IsKnown First) h → fold step start h ≡ start
  unmoved [] all = refl
  unmoved (q ∷ later) all = ap (λ x. fold step x later) (stays_so q all.0) ∙ unmoved later all.1

no_period_by : (kind : KeyType) (c : Command) → knows First c ≡ true → period_after kind None c ≡ None
no_period_by kind c e = grind arith

no_periods_by : (c : Command) → knows First c ≡ true → periods_after [] c ≡ []
no_periods_by c e = grind arith

no_needs_by : (c : Command) → knows First c ≡ true → needs_after [] c ≡ []
no_needs_by c e = grind arith

module _ (h : List Request) (lawful : IsLawfulIn First h) where
  pub no_period : (kind : KeyType) → set_period h kind ≡ None
  no_period kind =
      unmoved (λ (before : Option Period) q. period_after kind before q.command) None
      (λ q known. no_period_by kind q.command known) h (all_known First h lawful)

  pub no_periods : all_periods h ≡ []
  no_periods =
      unmoved (λ (before : List TypePeriod) q. periods_after before q.command) []
      (λ q known. no_periods_by q.command known) h (all_known First h lawful)

  pub no_needs : all_needs h ≡ []
  no_needs =
      unmoved (λ (before : List KeyNeed) q. needs_after before q.command) []
      (λ q known. no_needs_by q.command known) h (all_known First h lawful)
