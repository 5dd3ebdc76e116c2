-- What the office set for the types, one after the other.
use Rattle.std.proofs.Common.{◌≡◌, ◌≢◌, inl, inr, ℕ, ◌+◌, ◌≤◌, nat_le, ◌==◌, Bool, true, false, cond, List, Option}
use Rattle.std.proofs.Common.{refl, sym, ap, ◌∙◌, arith, zero, suc, [], ◌∷◌, ◌++◌, filter, None, Some, subst}
use Rattle.std.proofs.lemmas.Bool.{leb-true, leb-false}
use Rattle.std.proofs.lemmas.Bool.Decides.{eqb_tells}
use Rattle.std.proofs.lemmas.Option.{slice_get_cases}
use Rattle.std.specs.{Prelude.find, Prelude.fold, Option.option_map, List.AllByRecursion, List.cons_option}
use Rattle.period_core.specs.declared.key_type.KeyType.TheVariants.{DataEncryption, Authentication, KeyWrapping}
use Rattle.period_core.specs.declared.key_type.KeyType.TheVariants.{PrivateSignature, PrivateAuthentication}
use Rattle.period_core.specs.declared.key_type.KeyType.TheVariants.{PrivateTransport, Master}
use Rattle.period_core.specs.{declared.key_type.KeyType.KeyType, declared.office.OfficePeriods.OfficePeriods}
use Rattle.period_core.specs.{KeyType.key_type_code, Office.set_in, Office.with_set, Period.Period}
use Rattle.period_core.proofs.{Types.of_each_type, Sets.set_then}
use Rattle.register_core.specs.Settings.{TypePeriod, period_at, KeyNeed, needs_after, periods_after}
use Rattle.register_core.specs.Custody.{added_by, all_custodians, approved_by, approvals_from}
use Rattle.register_core.specs.Within.{custodian_of, approval_of}
use Rattle.register_core.specs.{Effect.owner_after, Fold.IsLawful, History.owner, History.registrations}
use Rattle.register_core.specs.{KeptReply.IsKeptReply, KeptReply.kept, Laws.HasKey, Laws.IsKeptIn, Verdict.judgement}
use Rattle.register_tables.specs.Tables.{Tables, IsKey, IsNamed, IsSetNeed, IsSetPeriod}
use Rattle.sqlite_trees.proofs.ListLemmas.{all-slice_get}
use Rattle.moment_core.specs.Moment.{IsMoment}
use Rattle.register_requests.specs.declared.request.Registration.{Registration}
use Rattle.register_requests.specs.{Subject.subject, Subject.Makes, declared.request.Request.Request}
use Rattle.register_requests.specs.{declared.request.Command.Command, Request.IsRequest, Request.IsCommand, Name.IsName}
use Rattle.register_requests.specs.{Purpose.IsPurpose, Within.Subject.registration_of}
use Rattle.register_core.proofs.Histories.{owner_made, owner_named, owner_other}
use Rattle.register_core.proofs.Lawful.{all_but_last, all_more, all_weaker, lawful_holds}
use Rattle.register_core.proofs.{DateRanges.dates_in_range, Kept.all_kept, OnKey.which}
use Rattle.register_tables.proofs.Ranged.{AreInRange}
use Rattle.register_desk.specs.Register.{key_of, tables}
use Rattle.register_desk.specs.Shown.{purpose}
use Rattle.register_desk.proofs.Grows.{each_key, purpose_at, purpose_in}

-- for the first so many types this is what is set
abbrev pub AreSet : Tables → ℕ → OfficePeriods → Type 0
AreSet t n set = (kind : KeyType) → key_type_code kind ≤ n → set_in set kind ≡ period_at kind t.periods

-- codes tell types apart
same_code : (kind other : KeyType) (sets : List TypePeriod) → key_type_code other ≡ key_type_code kind
    → period_at kind sets ≡ period_at other sets
same_code kind other sets same =
    ap (λ (code : ℕ). option_map (λ (set : TypePeriod). set.period)
    (find (λ (set : TypePeriod). key_type_code set.kind == code) sets)) (sym same)

pub none_yet : (t : Tables) (set : OfficePeriods) → AreSet t 0 set
none_yet t set DataEncryption low = absurd (omega (arith, low))
none_yet t set Authentication low = absurd (omega (arith, low))
none_yet t set KeyWrapping low = absurd (omega (arith, low))
none_yet t set PrivateSignature low = absurd (omega (arith, low))
none_yet t set PrivateAuthentication low = absurd (omega (arith, low))
none_yet t set PrivateTransport low = absurd (omega (arith, low))
none_yet t set Master low = absurd (omega (arith, low))

-- one that is not the next stands before it
before_next : (n code next : ℕ) → next ≡ n + 1 → code ≤ n + 1 → code ≢ next → code ≤ n
before_next n code next is low apart = by (nat_le code n) refl
  where
    by : (b : Bool) → nat_le code n ≡ b → code ≤ n
    by true e = leb-true code n e
    by false e = absurd (apart (let above = leb-false code n e in omega (arith, above, low, is)))

pub one_more_set : (t : Tables) (n : ℕ) (set : OfficePeriods) (kind : KeyType) (period : Option Period)
    → key_type_code kind ≡ n + 1 → period ≡ period_at kind t.periods → AreSet t n set
    → AreSet t (n + 1) (with_set set kind period)
one_more_set t n set kind period next is those other low =
    set_then set kind period other ∙ elim (eqb_tells (key_type_code other) (key_type_code kind)) [
      | inl both ↦
          ap (λ b. cond b period (set_in set other)) both.0 ∙ is ∙ same_code kind other t.periods both.1
      | inr both ↦
          ap (λ b. cond b period (set_in set other)) both.0
          ∙ those other (before_next n (key_type_code other) (key_type_code kind) next low both.1)
    ]

pub all_set : (t : Tables) (set : OfficePeriods) → AreSet t 7 set → (kind : KeyType)
    → set_in set kind ≡ period_at kind t.periods
all_set t set those =
    of_each_type (λ kind. set_in set kind ≡ period_at kind t.periods)
    (those DataEncryption (omega arith)) (those Authentication (omega arith)) (those KeyWrapping (omega arith))
    (those PrivateSignature (omega arith)) (those PrivateAuthentication (omega arith))
    (those PrivateTransport (omega arith)) (those Master (omega arith))

-- ---- What the tables of a lawful history hold is in its ranges.

abbrev All : {X : Type 0} → (X → Type 0) → List X → Type 0
All P xs = AllByRecursion P xs

joined : {X : Type 0} (P : X → Type 0) (xs ys : List X) → All P xs → All P ys → All P (xs ++ ys)
joined P [] ys all others = others
joined P (x ∷ xs) ys all others = (all.0, joined P xs ys all.1 others)

left : {X : Type 0} (P : X → Type 0) (p : X → Bool) (xs : List X) → All P xs → All P (filter p xs)
left P p [] all = tt
left P p (x ∷ xs) all = grind (arith, left P p xs all.1)

-- ---- the latest moment

latest_from : (h : List Request) (t : ℕ) → IsMoment t → All IsRequest h
    → IsMoment (fold (λ (before : ℕ) (q : Request). q.moment) t h)
latest_from [] t is all = is
latest_from (q ∷ later) t is all = latest_from later q.moment all.0.moment all.1

-- ---- keys

owner_by : (c : Command) (before : List ℕ) → IsCommand c → IsName before → IsName (owner_after before c)
owner_by c before is was = grind arith

owner_given : (c : Command) (r : Registration) → registration_of c ≡ Some r → IsCommand c → IsName r.owner
owner_given c r makes is = grind arith

registers : (c : Command) (r : Registration) → subject c ≡ Makes r → registration_of c ≡ Some r
registers c r makes = grind arith

purpose_given : (c : Command) (r : Registration) → registration_of c ≡ Some r → IsCommand c → IsPurpose r.purpose
purpose_given c r makes is = grind arith

-- ---- names at keys

added : (c : Command) → IsCommand c → All IsNamed (added_by c)
added c is = grind arith

custodians_named : (h : List Request) → All IsRequest h → All IsNamed (all_custodians h)
custodians_named [] all = tt
custodians_named (q ∷ later) all =
    joined IsNamed (custodian_of q later) (all_custodians later)
    (left IsNamed _ (added_by q.command) (added q.command all.0.command)) (custodians_named later all.1)

approved : (caller : List ℕ) (c : Command) → IsName caller → All IsNamed (approved_by caller c)
approved caller c is = grind arith

approvals_named : (before h : List Request) → All IsRequest h → All IsNamed (approvals_from before h)
approvals_named before [] all = tt
approvals_named before (q ∷ later) all =
    joined IsNamed (approval_of before q later) (approvals_from (before ++ q ∷ []) later)
    (left IsNamed _ (approved_by q.caller q.command) (approved q.caller q.command all.0.caller))
    (approvals_named (before ++ q ∷ []) later all.1)

-- ---- what is set

periods_by : (sets : List TypePeriod) (c : Command) → IsCommand c → All IsSetPeriod sets
    → All IsSetPeriod (periods_after sets c)
periods_by sets c is all = grind (arith, all_more, left)

needs_by : (sets : List KeyNeed) (c : Command) → IsCommand c → All IsSetNeed sets → All IsSetNeed (needs_after sets c)
needs_by sets c is all = grind (arith, all_more, left)

-- what a command keeps of all that is set, a history keeps
module _ {X : Type 0} (Is : X → Type 0) (after : List X → Command → List X)
    (keeps : (sets : List X) (c : Command) → IsCommand c → All Is sets → All Is (after sets c)) where
  set_from : (h : List Request) (sets : List X) → All Is sets → All IsRequest h
      → All Is (fold (λ (before : List X) (q : Request). after before q.command) sets h)
  set_from [] sets each all = each
  set_from (q ∷ later) sets each all =
      set_from later (after sets q.command) (keeps sets q.command all.0.command each) all.1

-- ---- keys

abbrev AllOwned : List Request → Type 0
AllOwned h = All IsRequest h → (k : ℕ) → HasKey h k → IsName (owner h k)

owned_next : (h : List Request) (q : Request) → IsLawful h → judgement h q ≡ None → AllOwned h → AllOwned (h ++ q ∷ [])
owned_next h q lawful accepted before all k has =
    let each = all_but_last IsRequest h q all in
    elim (which h q k accepted has.1) [
      | inl made ↦
          let given = owner_given q.command made.registration (registers q.command made.registration made.makes)
          each.1.command in
          subst IsName (sym (ap (owner (h ++ q ∷ [])) made.next
          ∙ owner_made h q made.registration made.makes)) given
      | inr (inl on) ↦ subst IsName (sym (owner_named h q k on.names))
          (owner_by q.command (owner h k) each.1.command (before each.0 k (on.low, on.high)))
      | inr (inr other) ↦ subst IsName (sym (owner_other h q k other.other)) (before each.0 k (has.0, other.high))
    ]

owned : (h : List Request) → IsLawful h → (k : ℕ) → HasKey h k → IsName (owner h k)
owned h lawful = lawful_holds AllOwned owned_next
    (λ all k has. absurd (omega (arith, has.0, has.1))) h lawful lawful.in_range

purposes : (h : List Request) → All IsRequest h → All (λ (r : Registration). IsPurpose r.purpose) (registrations h)
purposes [] all = tt
purposes (q ∷ later) all = by (registration_of q.command) refl (purposes later all.1)
  where
    by : (o : Option Registration) → registration_of q.command ≡ o
        → All (λ (r : Registration). IsPurpose r.purpose) (registrations later)
        → All (λ (r : Registration). IsPurpose r.purpose) (cons_option o (registrations later))
    by None is rest = rest
    by (Some r) is rest = (purpose_given q.command r is all.0.command, rest)

purposed : (h : List Request) → All IsRequest h → (k : ℕ) → HasKey h k → IsPurpose (purpose h k)
purposed h all zero has = absurd (omega (arith, has.0))
purposed h all (suc i) has = elim (slice_get_cases (registrations h) i).1 [
  | inl (made, low, at, same) ↦
      subst (λ (p : List ℕ). IsPurpose p) (sym (purpose_at h i ∙ ap purpose_in at))
      (all-slice_get (λ (r : Registration). IsPurpose r.purpose) (registrations h) i made at (purposes h all))
  | inr (past, none) ↦ absurd (omega (arith, past, has.1))
]

module _ (h : List Request) (lawful : IsLawful h) where
  key_ranged : (k : ℕ) → HasKey h k → IsKey (key_of h k)
  key_ranged k has =
      record {
        owner = owned h lawful k has;
        purpose = purposed h lawful.in_range k has;
        dates = dates_in_range h lawful.in_range k;
      }

  -- ---- all tables

  pub tables_in_range : AreInRange (tables h)
  tables_in_range = record {
    latest = latest_from h 0 (omega arith) lawful.in_range;
    keys = each_key h IsKey key_ranged;
    custodians = custodians_named h lawful.in_range;
    approvals = approvals_named [] h lawful.in_range;
    requests = all_weaker (IsKeptIn h) IsKeptReply (λ k within. within.in_range) (kept h) (all_kept h lawful);
    periods = set_from IsSetPeriod periods_after periods_by h [] tt lawful.in_range;
    needs = set_from IsSetNeed needs_after needs_by h [] tt lawful.in_range;
  }
