use Rattle.std.proofs.Common.{◌≡◌, List, ℕ, Option, [], ◌∷◌, get_or, refl, ◌∙◌, rules}
use Rattle.std.proofs.Common.{sym, ap, true, false, None, lit<, lit≤}
use Rattle.std.specs.Prelude.{codes}
use Rattle.serde_json.specs.{Data.Data, View.view}
use Rattle.http_messages.specs.CommandValue.{number_data, date_data}
use Rattle.http_messages.proofs.CommandValues.{one_date, one_reason_data}
use Rattle.http_messages.proofs.NamedMembers.{named_as, shown_at}
use Rattle.lifecycle_core.specs.{declared.reason.Reason.Reason, Reason.reason_code, Reason.is_compromise}
use Rattle.std.specs.Option.{is_some}
use Rattle.http_messages.proofs.command_value.revocation_fields_of.Goals as goal

abbrev names : List (List ℕ)
names = codes "key" ∷ codes "kind" ∷ codes "occurrence" ∷ codes "reason" ∷ []

abbrev shown : ℕ → Reason → Option ℕ → Data → List Data
shown key reason occurrence kind =
    number_data key ∷ kind ∷ date_data occurrence ∷ number_data (reason_code reason) ∷ []

pub returns-in_err-values-clause-none : goal.returns-in_err-values-clause-none
returns-in_err-values-clause-none c = rw c.from_residual.ensures (λ key reason occurrence kind _ is.
    c.in_err-values.ensures.none (shown key reason occurrence kind) refl is)

pub returns-in_err-key-clause-none : goal.returns-in_err-key-clause-none
returns-in_err-key-clause-none c = rw c.from_residual-in_err-key.ensures
    (λ key reason occurrence kind in_range is.
    let read = c.in_ok-values.ensures in
    c.in_err-key.ensures.none key in_range.0
    (shown_at names (shown key reason occurrence kind) 0 _ _ read.room read.found is (lit< tt) (lit≤ tt) refl))

pub returns-in_err-occurrence-clause-none : goal.returns-in_err-occurrence-clause-none
returns-in_err-occurrence-clause-none c = rw c.from_residual-in_err-occurrence.ensures
    (λ key reason occurrence kind in_range is.
    let read = c.in_ok-values.ensures in
    c.in_err-occurrence.ensures.none occurrence in_range.1
    (shown_at names (shown key reason occurrence kind) 2 _ _ read.room read.found is (lit< tt) (lit≤ tt) refl))

pub returns-in_err-reason-clause-none : goal.returns-in_err-reason-clause-none
returns-in_err-reason-clause-none c = rw c.from_residual-in_err-reason.ensures
    (λ key reason occurrence kind in_range is.
    let read = c.in_ok-values.ensures in
    c.in_err-reason.ensures.none reason
    (shown_at names (shown key reason occurrence kind) 3 _ _ read.room read.found is (lit< tt) (lit≤ tt) refl))

some_is_none : {read : Option ℕ} → true ≡ is_some read → read ≡ None → ⊥
some_is_none some none = let same = ap is_some none in cc

-- an occurrence stands only beside a compromise
misplaced : {given read : Option ℕ} {reason why : Reason} → given ≡ read → reason ≡ why → true ≡ is_some read
    → is_compromise why ≡ false → (is_compromise reason ≡ false → given ≡ None) → ⊥
misplaced same_occurrence same_reason some not in_range =
    some_is_none some (sym same_occurrence ∙ in_range (ap is_compromise same_reason ∙ not))

pub returns-then-not-is_compromise-clause-none : goal.returns-then-not-is_compromise-clause-none
returns-then-not-is_compromise-clause-none c = λ key reason occurrence kind in_range is.
    let these = shown key reason occurrence kind in
    let read = c.in_ok-values.ensures in
    let occurrences =
    shown_at names these 2 _ c.index-values-2.result read.room read.found is (lit< tt) (lit≤ tt) refl in
    let reasons = shown_at names these 3 _ c.index-values-3.result read.room read.found is (lit< tt) (lit≤ tt) refl in
    let same_occurrence = one_date _ _ (sym occurrences ∙ c.in_ok-occurrence.ensures.found.1) in
    let same_reason = one_reason_data _ _ (sym reasons ∙ c.in_ok-reason.ensures.found) in
    misplaced same_occurrence same_reason c.if-is_some.ensures (sym c.if-not-is_compromise.ensures) in_range.2

pub returns-clause-found : goal.returns-clause-found
returns-clause-found c _ =
    let (key_in, keys) = c.in_ok-key.ensures.found in
    let (occurrence_in, occurrences) = c.in_ok-occurrence.ensures.found in
    let values = c.in_ok-values.field-0.values in
    let kind = view (get_or values 1 c.index-values-0.result).now in
    let these = shown c.in_ok-key.key c.in_ok-reason.reason c.in_ok-occurrence.occurrence kind in (
      (key_in, occurrence_in, search rules),
      refl,
      (
        kind,
        c.in_ok-values.ensures.found ∙ named_as names values these 0 refl c.in_ok-values.ensures.room (lit≤ tt)
            ((_, keys), ((_, refl), ((_, occurrences), ((_, c.in_ok-reason.ensures.found), tt)))),
      ),
    )
