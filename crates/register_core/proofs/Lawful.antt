-- What holds of the empty history and stays with each accepted request holds of every lawful history.
use Rattle.std.proofs.Common.{◌≡◌, ◌+◌, ◌≤◌, Bool, true, false, cond, List, [], ◌∷◌, ◌++◌, length, None, Some, refl}
use Rattle.std.proofs.Common.{sym, ap, subst, ◌∙◌, append_assoc, arith}
use Rattle.std.proofs.lemmas.List.{append-nil, length-append, map-append}
use Rattle.std.proofs.lemmas.List.Sums.{fold-append}
use Rattle.std.specs.List.{AllByRecursion}
use Rattle.register_requests.specs.declared.version.Version.{Version}
use Rattle.register_requests.specs.{declared.request.Request.Request, Request.IsRequest, Version.current}
use Rattle.register_core.specs.Verdict.{Verdict, Accepts, verdict, verdict_in, judgement, is_accepted}
use Rattle.register_core.specs.Fold.{history_after, history_after_in, history_in, items, IsLawful, IsLawfulIn}
use Rattle.register_core.specs.Laws.{IsAccepted}
use Rattle.register_core.proofs.{Verdicts.judged, Folds.history_within}

-- what holds of each of a list and of one after it holds of each
pub all_more : {X : Type 0} (P : X → Type 0) (xs : List X) (x : X) → AllByRecursion P xs → P x
    → AllByRecursion P (xs ++ x ∷ [])
all_more P [] x all here = (here, tt)
all_more P (y ∷ ys) x all here = (all.0, all_more P ys x all.1 here)

pub all_but_last : {X : Type 0} (P : X → Type 0) (xs : List X) (x : X) → AllByRecursion P (xs ++ x ∷ [])
    → AllByRecursion P xs × P x
all_but_last P [] x all = (tt, all.0)
all_but_last P (y ∷ ys) x all = let rest = all_but_last P ys x all.1 in ((all.0, rest.0), rest.1)

pub all_weaker : {X : Type 0} (P Q : X → Type 0) → ((x : X) → P x → Q x) → (xs : List X) → AllByRecursion P xs
    → AllByRecursion Q xs
all_weaker P Q weaker [] all = tt
all_weaker P Q weaker (x ∷ xs) all = (weaker x all.0, all_weaker P Q weaker xs all.1)

from_check : (v : Verdict) → is_accepted v ≡ true → v ≡ Accepts
from_check v e = grind arith

-- ---- in any version

module _ (version : Version) where
  lawful_grows : (h : List Request) (q : Request) → IsLawfulIn version h
      → history_in version [] (items (h ++ q ∷ [])) ≡ history_after_in version h (Some q)
  lawful_grows h q lawful =
      cc (
        map-append (λ (p : Request). Some p) h (q ∷ []),
        fold-append (history_after_in version) [] (items h) (Some q ∷ []),
      )

  pub lawful_after_in : (h : List Request) (q : Request) → IsRequest q → IsLawfulIn version h
      → IsLawfulIn version (history_after_in version h (Some q))
  lawful_after_in h q request lawful =
      (elim (is_accepted (verdict_in version h q)) as (λ b. history_in version [] (items (h ++ q ∷ []))
      ≡ cond b (h ++ q ∷ []) h → IsLawfulIn version (cond b (h ++ q ∷ []) h)) [
        | true ↦ λ grown. record { in_range = all_more IsRequest h q lawful.in_range request; accepted = grown }
        | false ↦ λ _. lawful
      ]) (lawful_grows h q lawful)

  -- the history with an accepted request is lawful
  pub lawful_with_in : (h : List Request) (q : Request) → IsRequest q → IsLawfulIn version h
      → verdict_in version h q ≡ Accepts → IsLawfulIn version (h ++ q ∷ [])
  lawful_with_in h q request lawful accepted =
      subst (IsLawfulIn version) (ap (λ (v : Verdict). cond (is_accepted v) (h ++ q ∷ []) h) accepted)
      (lawful_after_in h q request lawful)

  history_length : (later : List Request) (h : List Request)
      → length (history_in version h (items later)) ≤ length h + length later
  history_length [] h = omega arith
  history_length (q ∷ later) h =
      omega (arith, history_length later (history_after_in version h (Some q)), history_within version h (Some q))

  module _ (P : List Request → Type 0) (step : (h : List Request) (q : Request) → IsLawfulIn version h
      → verdict_in version h q ≡ Accepts → P h → P (h ++ q ∷ [])) where
    accepted_from : (later h : List Request) → AllByRecursion IsRequest later → IsLawfulIn version h → P h
        → history_in version h (items later) ≡ h ++ later → P (h ++ later)
    accepted_from [] h each lawful holds whole = subst P (sym (append-nil h)) holds
    accepted_from (q ∷ later) h each lawful holds whole =
        by (is_accepted (verdict_in version h q)) refl whole (accepted_from later (h ++ q ∷ []) each.1)
      where
        by : (b : Bool) → is_accepted (verdict_in version h q) ≡ b
            → history_in version (cond b (h ++ q ∷ []) h) (items later) ≡ h ++ q ∷ later
            → (IsLawfulIn version (h ++ q ∷ []) → P (h ++ q ∷ [])
            → history_in version (h ++ q ∷ []) (items later) ≡ (h ++ q ∷ []) ++ later → P ((h ++ q ∷ []) ++ later))
            → P (h ++ q ∷ later)
        by true e rest next =
            let accepted = from_check (verdict_in version h q) e in
            subst P (append_assoc h (q ∷ []) later)
            (next (lawful_with_in h q each.0 lawful accepted) (step h q lawful accepted holds)
            (rest ∙ sym (append_assoc h (q ∷ []) later)))
        by false e rest next =
            absurd (omega (arith, ap length rest, history_length later h, length-append h (q ∷ later)))

    pub holds_in : P [] → (h : List Request) → IsLawfulIn version h → P h
    holds_in first h lawful =
        accepted_from h [] lawful.in_range (record { in_range = tt; accepted = refl }) first lawful.accepted

-- ---- in this program's

pub lawful_after : (h : List Request) (q : Request) → IsRequest q → IsLawful h → IsLawful (history_after h (Some q))
lawful_after = lawful_after_in current

pub lawful_with : (h : List Request) (q : Request) → IsRequest q → IsLawful h → verdict h q ≡ Accepts
    → IsLawful (h ++ q ∷ [])
lawful_with = lawful_with_in current

module _ (P : List Request → Type 0) (step : (h : List Request) (q : Request) → IsAccepted h q → P h
    → P (h ++ q ∷ [])) where
  pub holds_of_each : P [] → (h : List Request) → IsLawful h → P h
  holds_of_each = holds_in current P (λ h q lawful accepted. step h q (record { lawful = lawful; accepted = accepted }))

-- the same of a step that rests on the judgement alone
module _ (P : List Request → Type 0) (step : (h : List Request) (q : Request) → IsLawful h → judgement h q ≡ None
    → P h → P (h ++ q ∷ [])) where
  pub lawful_holds : P [] → (h : List Request) → IsLawful h → P h
  lawful_holds = holds_of_each P (λ h q is. step h q is.lawful (judged h q is.accepted))
