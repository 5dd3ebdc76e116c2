-- What is known where a request is accepted, of the key that it makes, names or leaves alone.
use Rattle.std.proofs.Common.{◌≡◌, ◌⊎◌, inl, inr, ℕ, ◌+◌, ◌≤◌, Bool, true, false, cond, List, [], ◌∷◌, ◌++◌, Option}
use Rattle.std.proofs.Common.{None, Some, refl, ap, subst, ◌∙◌, arith}
use Rattle.std.proofs.lemmas.Bool.{and_parts, leb-true}
use Rattle.std.proofs.lemmas.Bool.Decides.{eqb_tells}
use Rattle.lifecycle_core.specs.{declared.dates.Dates.Dates, State.state_at}
use Rattle.period_core.specs.Fitting.{dates_with_defaults}
use Rattle.register_requests.specs.declared.request.Registration.{Registration}
use Rattle.register_requests.specs.Subject.{Subject, Makes, Names, NoKey, subject, key_by, is_key, named}
use Rattle.register_requests.specs.CommandRule.{is_one_of, rule}
use Rattle.register_requests.specs.{declared.request.Request.Request, Within.Subject.key_concerned, Version.current}
use Rattle.register_core.specs.History.{latest, count, period, dates}
use Rattle.register_core.specs.Verdict.{giver_refusal, freeze_refusal, dates_refusal, occurrence_refusal, judge}
use Rattle.register_core.specs.Verdict.{judgement}
use Rattle.register_core.specs.{declared.reply.Refusal.Refusal, declared.view.Held.Held, Custody.held}
use Rattle.register_core.specs.{Effect.given_dates, CustodyRefusal.custody_refusal_in}
use Rattle.std.specs.Option.{option_and_then}
use Rattle.register_core.proofs.Decisions.{standing, is_there, unknown_named, new_names}
use Rattle.register_core.proofs.{Histories.count_grows, Histories.dates_made, CustodyLeads.IsNew, Refusals.passes}

-- ---- an accepted request that names key k

pub record IsOn (h : List Request) (q : Request) (k : ℕ) : Type 0 where
  pub names : named q.command ≡ Some k
  pub low : 1 ≤ k
  pub high : k ≤ count h
  pub fits_state : is_one_of (rule q.command).states (state_at (dates h k) q.moment) ≡ true
  pub not_frozen : freeze_refusal (Some (standing h k)) q.moment q.command ≡ None
  pub fit : dates_refusal (period h) (Some (standing h k)) q.moment q.command ≡ None
  pub custody : custody_refusal_in current (Some (standing h k)) q.caller q.command ≡ None
  pub occurred : occurrence_refusal q.moment q.command ≡ None
  pub givers_own : giver_refusal (rule q.command).giver (Some (standing h k)) q.caller ≡ None
  pub new : IsNew h q k

right_state : (b : Bool) (refusal : Refusal) → cond b None (Some refusal) ≡ None → b ≡ true
right_state b refusal e = grind arith

abbrev judged : List Request → Request → Option Held → Option Refusal
judged h q key = judge (latest h) (count h) (period h) key q

pub not_after : (h : List Request) (q : Request) → judgement h q ≡ None → latest h ≤ q.moment
not_after h q accepted = grind arith

on_there : (h : List Request) (q : Request) (k : ℕ) → named q.command ≡ Some k → is_there h k ≡ true
    → judged h q (Some (standing h k)) ≡ None → IsOn h q k
on_there h q k names there accepted =
    let key : Option Held = Some (standing h k) in
    let passed = passes current (latest h) (count h) (period h) key q accepted in
    grind (arith, and_parts, leb-true, right_state, new_names)

-- the key that it names is judged as that stands
judged_named : (h : List Request) (q : Request) (k : ℕ) (b : Bool) → judgement h q ≡ None → named q.command ≡ Some k
    → is_there h k ≡ b → judged h q (cond b (Some (standing h k)) None) ≡ None
judged_named h q k b accepted names there =
    subst (λ (has : Bool). judged h q (cond has (Some (standing h k)) None) ≡ None) there
    (subst (λ (key : Option ℕ). judged h q (option_and_then (held h) key) ≡ None) names accepted)

unknown : (h : List Request) (q : Request) (k : ℕ) → named q.command ≡ Some k → judged h q None ≡ None → ⊥
unknown h q k names accepted =
    let passed = passes current (latest h) (count h) (period h) None q accepted in
    grind (arith, unknown_named)

pub on_key : (h : List Request) (q : Request) (k : ℕ) → judgement h q ≡ None → named q.command ≡ Some k → IsOn h q k
on_key h q k accepted names = by (is_there h k) refl
  where
    by : (b : Bool) → is_there h k ≡ b → IsOn h q k
    by true there = on_there h q k names there (judged_named h q k true accepted names there)
    by false there = absurd (unknown h q k names (judged_named h q k false accepted names there))

-- ---- each key

-- the request makes key k
pub record IsMade (h : List Request) (q : Request) (k : ℕ) : Type 0 where
  pub next : k ≡ count h + 1
  pub registration : Registration
  pub makes : subject q.command ≡ Makes registration
  pub fit : dates_refusal (period h) None q.moment q.command ≡ None

-- the dates that the registration was given
abbrev pub given_to : Request → Registration → Dates
given_to q r = given_dates q.moment r

pub dates_when_made : (h : List Request) (q : Request) (k : ℕ) (made : IsMade h q k)
    → dates (h ++ q ∷ []) k ≡ dates_with_defaults (period h made.registration.kind) (given_to q made.registration)
dates_when_made h q k made = ap (dates (h ++ q ∷ [])) made.next ∙ dates_made h q made.registration made.makes

-- it neither makes nor names it
pub record IsOther (h : List Request) (q : Request) (k : ℕ) : Type 0 where
  pub high : k ≤ count h
  pub other : is_key k (key_concerned (count h) q.command) ≡ false

abbrev pub Concerns : List Request → Request → ℕ → Type 0
Concerns h q k = IsMade h q k ⊎ IsOn h q k ⊎ IsOther h q k

-- a subject that is not key k leaves the number of keys
apart_from : (h : List Request) (q : Request) (s : Subject) (k : ℕ) → subject q.command ≡ s
    → is_key k (key_by (count h) s) ≡ false → k ≤ count h → IsOther h q k
apart_from h q s k is other high = grind arith

pub which : (h : List Request) (q : Request) (k : ℕ) → judgement h q ≡ None → k ≤ count (h ++ q ∷ []) → Concerns h q k
which h q k accepted high = by (subject q.command) refl
  where
    by : (s : Subject) → subject q.command ≡ s → Concerns h q k
    by (Makes r) is = elim (eqb_tells (count h + 1) k) [
      | inl both ↦ grind arith
      | inr apart ↦ inr (inr (apart_from h q (Makes r) k is apart.0 (grind (arith, count_grows))))
    ]
    by (Names n) is = elim (eqb_tells n k) [
      | inl both ↦ inr (inl (on_key h q k accepted (cc)))
      | inr apart ↦ inr (inr (apart_from h q (Names n) k is apart.0 (grind (arith, count_grows))))
    ]
    by NoKey is = inr (inr (apart_from h q NoKey k is refl (grind (arith, count_grows))))
