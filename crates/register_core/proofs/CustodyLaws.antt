-- Laws of the custody of keys, over lawful histories.
use Rattle.std.proofs.Common.{◌≡◌, ℕ, ◌<◌, false, List, [], ◌∷◌, ◌++◌, Option, None, Some, refl, ap}
use Rattle.std.proofs.Common.{arith, IsSome, ◌⊎◌, inl, inr}
use Rattle.std.proofs.lemmas.Bool.Decides.{eqb_tells}
use Rattle.std.specs.Prelude.{nat_eq}
use Rattle.lifecycle_core.specs.declared.dates.Dates.{Dates}
use Rattle.period_core.specs.Period.{Period}
use Rattle.register_requests.specs.{declared.request.Request.Request, declared.request.Command.Command}
use Rattle.register_requests.specs.{declared.request.Command.TheVariants.Destroy, Subject.named}
use Rattle.register_core.specs.History.{count, dates}
use Rattle.register_core.specs.Custody.{all_custodians, all_approvals, approvals}
use Rattle.register_core.specs.{KeyName.names_at, Names.sorted_names, Effect.dates_after, Verdict.judgement}
use Rattle.register_core.specs.{Fold.IsLawful, Laws.IsAccepted, Laws.HasKey}
use Rattle.register_core.proofs.Histories.{count_grows}
use Rattle.register_core.proofs.OnKey.{IsOther, on_key, which}
use Rattle.register_core.proofs.CustodyStay.{custody_same, custody_other, approvals_stay}
use Rattle.register_core.proofs.Lawful.{lawful_holds}
use Rattle.register_core.proofs.{Verdicts.judged}

-- ---- keys that are not made yet

abbrev NobodyAt : List Request → ℕ → Type 0
NobodyAt h k = (names_at k (all_custodians h) ≡ []) × (names_at k (all_approvals h) ≡ [])

abbrev NobodyBeyond : List Request → Type 0
NobodyBeyond h = (k : ℕ) → count h < k → NobodyAt h k

nobody_next : (h : List Request) (q : Request) → IsLawful h → judgement h q ≡ None → NobodyBeyond h
    → NobodyBeyond (h ++ q ∷ [])
nobody_next h q lawful accepted before k beyond =
    let grown = count_grows h q in
    let later : count h < k = omega (arith, beyond, grown) in
    let same = custody_same h q k accepted
    (λ n names. below n (omega (arith, (on_key h q n accepted names).high, later))) in
    grind arith
  where
    below : (n : ℕ) → n < k → nat_eq n k ≡ false
    below n lt = elim (eqb_tells n k) [ inl both ↦ absurd (omega (arith, both.1, lt)) | inr apart ↦ apart.0 ]

pub nobody_yet : (h : List Request) → IsLawful h → NobodyBeyond h
nobody_yet h lawful = lawful_holds NobodyBeyond nobody_next (λ k beyond. (refl, refl)) h lawful

-- ---- destroyed keys

-- a request that names no key, or another, leaves the approvals of key k as they were
pub other_approvals : (h : List Request) (q : Request) (k : ℕ) → judgement h q ≡ None → IsOther h q k
    → approvals (h ++ q ∷ []) k ≡ approvals h k
other_approvals h q k accepted other = ap sorted_names (custody_other h q k accepted other).approvals

pub stay : (h : List Request) (q : Request) → IsAccepted h q → (k : ℕ) → HasKey h k → IsSome (dates h k).destroy
    → approvals (h ++ q ∷ []) k ≡ approvals h k
stay h q is k has set = elim (which h q k (judged h q is.accepted) (omega (arith, has.1, count_grows h q))) [
  | inl made ↦ absurd (let next = made.next in omega (arith, next, has.1))
  | inr (inl on) ↦ let date = some_date (dates h k).destroy set in approvals_stay h q k date.0 on date.1
  | inr (inr other) ↦ other_approvals h q k (judged h q is.accepted) other
]
  where
    some_date : (o : Option ℕ) → IsSome o → (x : ℕ) × (o ≡ Some x)
    some_date (Some x) some = (x, refl)
    some_date None some = absurd cc

-- only Destroy sets the Destroy Date
abbrev pub IsDestruction : Command → Type 0
IsDestruction c = (n : ℕ) × (c ≡ Destroy n)

pub destroy_same : (p : Period) (d : Dates) (t k : ℕ) (c : Command) → named c ≡ Some k
    → IsDestruction c ⊎ ((dates_after p d t c).destroy ≡ d.destroy)
destroy_same p d t k c names = grind arith
