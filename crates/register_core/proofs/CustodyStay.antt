-- Who stays as they were: the custody of other keys, and the approvals of a key that is destroyed.
use Rattle.std.proofs.Common.{◌≡◌, ℕ, Bool, true, false, List, [], ◌∷◌, ◌++◌, filter, Option, None, Some, refl, sym, ap}
use Rattle.std.proofs.Common.{◌∙◌, arith}
use Rattle.std.proofs.lemmas.List.{append-nil}
use Rattle.std.specs.Prelude.{nat_eq}
use Rattle.register_requests.specs.{declared.request.Request.Request, Subject.named_by, Subject.is_key, Subject.named}
use Rattle.register_core.specs.KeyName.{KeyName, key_name, is_at, names_at}
use Rattle.register_core.specs.Custody.{all_custodians, all_approvals, approvals}
use Rattle.register_core.specs.{declared.change.CustodyChange.CustodyChange, History.count, History.dates}
use Rattle.register_core.specs.{Verdict.judgement, Decision.custodians_by, Decision.approvals_by}
use Rattle.register_core.proofs.CustodyLeads.{nobody_changes, custody_lead, names_joined}
use Rattle.register_core.proofs.OnKey.{IsOn, IsMade, IsOther, on_key}
use Rattle.register_core.proofs.Histories.{key_named}

-- ---- the custody of other keys

kept_names : (k : ℕ) (p : KeyName → Bool) → ((entry : KeyName) → is_at k entry ≡ true → p entry ≡ true)
    → (entries : List (KeyName)) → names_at k (filter p entries) ≡ names_at k entries
kept_names k p all [] = refl
kept_names k p all (entry ∷ entries) = grind (arith, kept_names k p all entries)

one_more : (key k : ℕ) (name : List ℕ) (entries : List (KeyName)) → nat_eq key k ≡ false
    → names_at k (entries ++ key_name key name ∷ []) ≡ names_at k entries
one_more key k name entries other = grind (arith, names_joined, append-nil)

other_custodians : (key k : ℕ) (custody : CustodyChange) (entries : List (KeyName)) → nat_eq key k ≡ false
    → names_at k (custodians_by key custody entries) ≡ names_at k entries
other_custodians key k custody entries other = grind (arith, one_more, kept_names)

other_approvals : (key k : ℕ) (custody : CustodyChange) (entries : List (KeyName)) → nat_eq key k ≡ false
    → names_at k (approvals_by key custody entries) ≡ names_at k entries
other_approvals key k custody entries other = grind (arith, kept_names, one_more)

pub record CustodySame (h : List Request) (q : Request) (k : ℕ) : Type 0 where
  pub custodians : names_at k (all_custodians (h ++ q ∷ [])) ≡ names_at k (all_custodians h)
  pub approvals : names_at k (all_approvals (h ++ q ∷ [])) ≡ names_at k (all_approvals h)

-- a request that names no key, or another, leaves the custody of key k as they were
pub custody_same : (h : List Request) (q : Request) (k : ℕ) → judgement h q ≡ None
    → ((n : ℕ) → named q.command ≡ Some n → nat_eq n k ≡ false) → CustodySame h q k
custody_same h q k accepted others = by (named q.command) refl
  where
    by : (n : Option ℕ) → named q.command ≡ n → CustodySame h q k
    by None none =
        let lead = nobody_changes h q k none in
        record { custodians = ap (names_at k) lead.custodians_are; approvals = ap (names_at k) lead.approvals_are }
    by (Some n) names =
        let lead = custody_lead h q n names (on_key h q n accepted names).new in
        grind (arith, other_custodians, other_approvals)

-- one that makes key k, or leaves it alone, does neither
pub custody_made : (h : List Request) (q : Request) (k : ℕ) → judgement h q ≡ None → IsMade h q k → CustodySame h q k
custody_made h q k accepted made =
    custody_same h q k accepted
    (λ n names. absurd (let none : named q.command ≡ None = ap named_by made.makes in let e = sym names ∙ none in cc))

pub custody_other : (h : List Request) (q : Request) (k : ℕ) → judgement h q ≡ None → IsOther h q k → CustodySame h q k
custody_other h q k accepted other =
    custody_same h q k accepted (λ n names. sym (ap (is_key k) (key_named q.command (count h) n names)) ∙ other.other)

-- ---- the approvals of a destroyed key

-- they stay where a request names the key
pub approvals_stay : (h : List Request) (q : Request) (k x : ℕ) → IsOn h q k → (dates h k).destroy ≡ Some x
    → approvals (h ++ q ∷ []) k ≡ approvals h k
approvals_stay h q k x on set =
    let lead = custody_lead h q k on.names on.new in
    grind arith
