-- A key that is destroyed was so behind the approvals that it then needed.
use Rattle.std.proofs.Common.{◌≡◌, ℕ, ◌≤◌, Bool, true, false, List, [], ◌∷◌, ◌++◌, length, Option, IsSome, inl, inr, refl}
use Rattle.std.proofs.Common.{sym, ap, subst, ◌∙◌, arith, append_assoc}
use Rattle.lifecycle_core.specs.declared.dates.Dates.{Dates}
use Rattle.register_requests.specs.{declared.request.Request.Request, declared.request.Command.TheVariants.Destroy}
use Rattle.register_requests.specs.{Name.is_among, Quorum.min_approvals}
use Rattle.register_core.specs.History.{type, period, dates, owner}
use Rattle.register_core.specs.{Custody.approvals}
use Rattle.register_core.specs.{Fold.IsLawful, Laws.IsAccepted, Laws.HasKey, Laws.WasDestroyed}
use Rattle.register_core.proofs.OnKey.{IsOn, dates_when_made, given_to, which}
use Rattle.register_core.proofs.{Histories.dates_named, Histories.dates_other, Histories.need_in_range}
use Rattle.register_core.proofs.CustodyLaws.{destroy_same, other_approvals, stay}
use Rattle.register_core.proofs.{ApartLaw.never_owner, Approvers.approve, CustodyLeads.custody_lead, DateSteps.filled_keeps}
use Rattle.register_core.proofs.{Lawful.holds_of_each, Verdicts.judged}

not_owned : (h : List Request) → IsLawful h → (k : ℕ) → is_among (owner h k) (approvals h k) ≡ false
not_owned h lawful k = by (is_among (owner h k) (approvals h k)) refl
  where
    by : (b : Bool) → is_among (owner h k) (approvals h k) ≡ b → is_among (owner h k) (approvals h k) ≡ false
    by false is = is
    by true is = absurd (let e = sym (approve h lawful k (owner h k) is) ∙ never_owner h lawful k in cc)

-- the request is the destruction
destroyed_now : (h : List Request) (q : Request) (k n : ℕ) → IsLawful h → IsOn h q k → q.command ≡ Destroy n
    → WasDestroyed (h ++ q ∷ []) k
destroyed_now h q k n lawful on is =
    let lead = custody_lead h q k on.names on.new in
    record {
      before = h;
      request = q;
      later = [];
      among = refl;
      lawful = lawful;
      destroys = grind arith;
      enough = grind arith;
      others = not_owned h lawful k;
      stay = grind arith;
    }

-- it was destroyed before the request
destroyed_still : (h : List Request) (q : Request) (k : ℕ) → WasDestroyed h k
    → approvals (h ++ q ∷ []) k ≡ approvals h k → WasDestroyed (h ++ q ∷ []) k
destroyed_still h q k was same = record {
  before = was.before;
  request = was.request;
  later = was.later ++ q ∷ [];
  among = ap (λ (l : List Request). l ++ q ∷ []) was.among ∙ append_assoc was.before (was.request ∷ was.later) (q ∷ []);
  lawful = was.lawful;
  destroys = was.destroys;
  enough = was.enough;
  others = was.others;
  stay = same ∙ was.stay;
}

abbrev AllDestroyed : List Request → Type 0
AllDestroyed h = (k : ℕ) → HasKey h k → IsSome (dates h k).destroy → WasDestroyed h k

destroyed_next : (h : List Request) (q : Request) → IsAccepted h q → AllDestroyed h → AllDestroyed (h ++ q ∷ [])
destroyed_next h q is before k has set = elim (which h q k (judged h q is.accepted) has.1) [
  | inl made ↦
      let its = dates_when_made h q k made in
      let keeps = filled_keeps (period h made.registration.kind) (given_to q made.registration) in
      let none = subst (λ (o : Option ℕ). IsSome o) (ap (λ (d : Dates). d.destroy) its ∙ keeps.destroy) set in
      absurd (cc)
  | inr (inl on) ↦ elim (destroy_same (period h (type h k)) (dates h k) q.moment k q.command on.names) [
    | inl destruction ↦ destroyed_now h q k destruction.0 is.lawful on destruction.1
    | inr same ↦
        let was : IsSome (dates h k).destroy = grind (arith, dates_named) in
        destroyed_still h q k (before k (on.low, on.high) was) (stay h q is k (on.low, on.high) was)
  ]
  | inr (inr other) ↦
      let was : IsSome (dates h k).destroy = grind (arith, dates_other) in
      destroyed_still h q k (before k (has.0, other.high) was)
      (other_approvals h q k (judged h q is.accepted) other)
]

pub were_destroyed : (h : List Request) → IsLawful h → AllDestroyed h
were_destroyed = holds_of_each AllDestroyed destroyed_next (λ k has set. absurd (omega (arith, has.0, has.1)))

pub enough : (h : List Request) (q : Request) → IsAccepted h q → (k : ℕ) → HasKey (h ++ q ∷ []) k
    → IsSome (dates (h ++ q ∷ []) k).destroy → min_approvals ≤ length (approvals (h ++ q ∷ []) k)
enough h q is k has set =
    let was = destroyed_next h q is (were_destroyed h is.lawful) k has set in
    let least = need_in_range was.before was.lawful.in_range k in
    omega (arith, least, was.enough, ap length was.stay)
