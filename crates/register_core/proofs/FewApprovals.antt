-- No more approve of a key's destruction than a key may have custodians.
use Rattle.std.proofs.Common.{◌≡◌, ℕ, ◌≤◌, suc, Bool, true, false, not, List, [], ◌∷◌, length, filter, ap, ◌∙◌, arith}
use Rattle.std.proofs.lemmas.Slice.Eq.{bytes_eq-Decides}
use Rattle.std.proofs.lemmas.List.Sums.{length-filter, count_by-le-length}
use Rattle.std.proofs.lemmas.Map.Views.{any-filter_same}
use Rattle.std.specs.Str.{bytes_eq}
use Rattle.register_requests.specs.declared.request.Request.{Request}
use Rattle.register_requests.specs.{declared.version.Version.Version, Name.is_among, Version.custodians_of}
use Rattle.register_core.specs.Custody.{all_approvals, custodians, approvals}
use Rattle.register_core.specs.{KeyName.names_at, Laws.AreDifferent, Fold.IsLawfulIn}
use Rattle.register_core.proofs.FewLaws.{sorted_length, few_custodians}
use Rattle.register_core.proofs.{CustodyLeads.different, Approvers.approve, Versions.lawful_still}

-- ---- names among others

abbrev is_other : List ℕ → List ℕ → Bool
is_other name other = not (bytes_eq other name)

-- a name that is among these leaves fewer after
taken_out : (name : List ℕ) (names : List (List ℕ)) → is_among name names ≡ true
    → suc (length (filter (is_other name) names)) ≤ length names
taken_out name [] there = absurd cc
taken_out name (other ∷ names) there = grind (arith, length-filter, count_by-le-length, taken_out name names)

-- another stays
stays : (name other : List ℕ) (names : List (List ℕ)) → bytes_eq other name ≡ false
    → is_among other (filter (is_other name) names) ≡ is_among other names
stays name other names apart =
    any-filter_same (λ one. bytes_eq one other) (is_other name) true
    (λ one is. ap (λ (x : List ℕ). not (bytes_eq x name)) ((bytes_eq-Decides one other).0 is) ∙ ap not apart) names

-- different names, each of them among others, are no more than those
no_more : (names others : List (List ℕ)) → AreDifferent names
    → ((name : List ℕ) → is_among name names ≡ true → is_among name others ≡ true) → length names ≤ length others
no_more [] others apart within = omega arith
no_more (name ∷ names) others apart within =
    grind (arith, bytes_eq-Decides, stays, taken_out, no_more names (filter (is_other name) others) apart.1)

-- ---- approvals, in any version

pub few : (version : Version) (h : List Request) → IsLawfulIn version h → (k : ℕ)
    → length (approvals h k) ≤ custodians_of version
few version h lawful k =
    let among = approve h (lawful_still version h lawful) k in
    omega (arith, no_more (approvals h k) (custodians h k) (different h k).1 among, few_custodians version h lawful k)

-- also before they are put in order
pub few_approvals : (version : Version) (h : List Request) → IsLawfulIn version h → (k : ℕ)
    → length (names_at k (all_approvals h)) ≤ custodians_of version
few_approvals version h lawful k = omega (arith, sorted_length (names_at k (all_approvals h)), few version h lawful k)
