-- A lawful history has no more keys than the register takes, and no key of it more custodians than its version allows.
use Rattle.std.proofs.Common.{◌≡◌, ℕ, ◌+◌, ◌≤◌, suc, Bool, cond, List, [], ◌∷◌, ◌++◌, length, filter, Option, None}
use Rattle.std.proofs.Common.{Some, refl, sym, ap, subst, ◌∙◌, arith, inl, inr}
use Rattle.std.proofs.lemmas.Bool.{cases_lt}
use Rattle.std.proofs.lemmas.Bool.Decides.{nat_tests}
use Rattle.std.proofs.lemmas.List.{length-append}
use Rattle.register_requests.specs.declared.request.Command.TheVariants.{Revoke, AddCustodian, RemoveCustodian}
use Rattle.register_requests.specs.Version.{current, custodians_of}
use Rattle.register_requests.specs.{declared.request.Request.Request, declared.version.Version.Version}
use Rattle.register_requests.specs.{declared.request.Command.Command, Within.Subject.made_by}
use Rattle.register_core.specs.History.{latest, count, period, dates}
use Rattle.register_core.specs.Custody.{all_custodians, custodians, held}
use Rattle.register_core.specs.Verdict.{Accepts, max_keys, limit_refusal, named_key, judgement, judgement_in}
use Rattle.register_core.specs.Verdict.{verdict_in}
use Rattle.register_core.specs.{KeyName.KeyName, KeyName.names_at, Names.with_name, Names.sorted_names}
use Rattle.register_core.specs.{Effect.custody_change, declared.view.Held.Held, CustodyRefusal.custody_refusal_in}
use Rattle.register_core.specs.{Decision.custodians_by, Fold.IsLawful, Fold.IsLawfulIn}
use Rattle.std.specs.Option.{option_and_then}
use Rattle.register_core.proofs.CustodyLeads.{kept_custodians, custody_lead, names_joined}
use Rattle.register_core.proofs.CustodyStay.{custody_made, custody_other}
use Rattle.register_core.proofs.{Filling.past, Histories.count_grows, Refusals.passes, Decisions.standing}
use Rattle.register_core.proofs.{Decisions.there, CustodyLaws.nobody_yet, Lawful.holds_in, Lawful.lawful_holds}
use Rattle.register_core.proofs.{OnKey.IsOn, OnKey.which, Verdicts.judged_in, Versions.lawful_still, Versions.still}

-- ---- keys

room : (keys : ℕ) (c : Command) → limit_refusal keys c ≡ None → keys ≤ max_keys → keys + made_by c ≤ max_keys
room keys c free few = grind arith

keys_next : (h : List Request) (q : Request) → IsLawful h → judgement h q ≡ None → count h ≤ max_keys → count (h ++ q
    ∷ []) ≤ max_keys
keys_next h q lawful accepted few =
    let free = (passes current (latest h) (count h) (period h) (named_key h q.command) q accepted).numbered in
    omega (arith, room (count h) q.command free few, count_grows h q)

pub few_keys : (h : List Request) → IsLawful h → count h ≤ max_keys
few_keys h lawful = lawful_holds (λ h. count h ≤ max_keys) keys_next (omega arith) h lawful

-- ---- how many names there are

with_length : (name : List ℕ) (names : List (List ℕ)) → length (with_name name names) ≡ suc (length names)
with_length name [] = refl
with_length name (first ∷ others) = grind (arith, with_length name others)

pub sorted_length : (names : List (List ℕ)) → length (sorted_names names) ≡ length names
sorted_length [] = refl
sorted_length (name ∷ others) = with_length name (sorted_names others) ∙ ap suc (sorted_length others)

fewer : (k : ℕ) (p : KeyName → Bool) (entries : List KeyName) → length (names_at k (filter p entries)) ≤ length
    (names_at k entries)
fewer k p [] = omega arith
fewer k p (entry ∷ entries) = grind (arith, fewer k p entries)

one_more : (k : ℕ) (entries : List KeyName) (entry : KeyName) → length (names_at k (entries ++ entry ∷ [])) ≤ length
    (names_at k entries) + 1
one_more k entries entry = grind (arith, names_joined, length-append)

-- ---- custodians, in any version

module _ (version : Version) where
  abbrev IsFew : ℕ → List KeyName → Type 0
  IsFew k entries = length (names_at k entries) ≤ custodians_of version

  few_after : (h : List Request) (q : Request) (k : ℕ) (c : Command)
      → custody_refusal_in version (Some (standing h k)) q.caller c ≡ None → IsFew k (all_custodians h)
      → IsFew k (custodians_by k (custody_change (dates h k) q.caller c) (all_custodians h))
  few_after h q k (Revoke key reason occurrence) free few = grind (arith, kept_custodians)
  few_after h q k (AddCustodian key name) free few =
      grind (arith, nat_tests, sorted_length, one_more, past)
  few_after h q k (RemoveCustodian key name) free few = grind (arith, fewer)
  few_after h q k c free few = few

  -- there is room on the key that the request names
  on_room : (h : List Request) (q : Request) (k : ℕ) → IsOn h q k → judgement_in version h q ≡ None
      → custody_refusal_in version (Some (standing h k)) q.caller q.command ≡ None
  on_room h q k on passed =
      let stands = ap (λ (has : Bool). cond has (Some (standing h k)) None) (there h k on.low on.high) in
      subst (λ (key : Option Held). custody_refusal_in version key q.caller q.command ≡ None)
      (ap (option_and_then (held h)) on.names ∙ stands)
      (passes version (latest h) (count h) (period h) (named_key h q.command) q passed).custody

  abbrev AllFew : List Request → Type 0
  AllFew h = (k : ℕ) → k ≤ count h → IsFew k (all_custodians h)

  custodians_next : (h : List Request) (q : Request) → IsLawfulIn version h → verdict_in version h q ≡ Accepts
      → AllFew h → AllFew (h ++ q ∷ [])
  custodians_next h q lawful accepted before k high =
      let judged = (still version h q accepted).0 in
      elim (which h q k judged high) [
        | inl made ↦
            let same = (custody_made h q k judged made).custodians in
            let nobody = (nobody_yet h (lawful_still version h lawful) k (omega (arith, made.next))).0 in
            omega (arith, ap length (same ∙ nobody))
        | inr (inl on) ↦
            let lead = custody_lead h q k on.names on.new in
            let free = on_room h q k on (judged_in version h q accepted).passed in
            subst (IsFew k) (sym lead.custodians_are) (few_after h q k q.command free (before k on.high))
        | inr (inr other) ↦
            let same = (custody_other h q k judged other).custodians in
            omega (arith, before k other.high, ap length same)
      ]

  pub at_most : (h : List Request) → IsLawfulIn version h → (k : ℕ) → IsFew k (all_custodians h)
  at_most h lawful k = elim (cases_lt (count h) k) [
    | inl beyond ↦ omega (arith, ap length (nobody_yet h (lawful_still version h lawful) k beyond).0)
    | inr high ↦ holds_in version AllFew custodians_next (λ k high. omega arith) h lawful k high
  ]

  pub few_custodians : (h : List Request) → IsLawfulIn version h → (k : ℕ)
      → length (custodians h k) ≤ custodians_of version
  few_custodians h lawful k = omega (arith, sorted_length (names_at k (all_custodians h)), at_most h lawful k)
