-- What a history with one more request at its end says.
use Rattle.std.proofs.Common.{◌≡◌, ℕ, ◌+◌, ◌≤◌, ◌<◌, false, cond, List, [], ◌∷◌, ◌++◌, length, get_or, take, None, Some}
use Rattle.std.proofs.Common.{sym, ap, ◌∙◌, arith, append_assoc, ◌==◌, not, Bool, Option, IfSome, refl}
use Rattle.std.proofs.lemmas.List.{length-append, append-nil, take_more}
use Rattle.std.proofs.lemmas.List.Elements.{filter_map-append}
use Rattle.std.proofs.lemmas.List.Sums.{fold-append}
use Rattle.std.proofs.lemmas.Grind.{common_steps}
use Rattle.std.proofs.lemmas.Bool.Decides.{nat_tests}
use Rattle.std.specs.Prelude.{fold, filter, find, unwrap_or}
use Rattle.std.specs.List.{AllByRecursion}
use Rattle.lifecycle_core.specs.declared.dates.Dates.{Dates}
use Rattle.period_core.specs.{declared.key_type.KeyType.TheVariants.DataEncryption, declared.key_type.KeyType.KeyType}
use Rattle.period_core.specs.{Fitting.dates_with_defaults, KeyType.key_type_code, Period.Period}
use Rattle.register_requests.specs.declared.request.Registration.{Registration}
use Rattle.register_requests.specs.Subject.{Makes, subject, key_by, named, is_key}
use Rattle.register_requests.specs.Within.Subject.{registration_of, key_concerned, made_by}
use Rattle.register_requests.specs.declared.request.Command.TheVariants.{SetPeriod, SetQuorum}
use Rattle.register_requests.specs.{declared.request.Request.Request, declared.request.Command.Command}
use Rattle.register_requests.specs.{Quorum.min_approvals, Quorum.IsQuorum, Request.IsRequest}
use Rattle.register_core.specs.History.{latest, registrations, count, Placed, own_from, own, period, type, dates, owner}
use Rattle.register_core.specs.History.{dated_by, set_period}
use Rattle.register_core.specs.Effect.{unset_dates, given_dates, dates_after, owner_after, sets_dates, need_after}
use Rattle.register_core.specs.Effect.{period_after}
use Rattle.register_core.specs.Settings.{KeyNeed, TypePeriod, needs_after, all_needs, need_at, periods_after}
use Rattle.register_core.specs.Settings.{all_periods, period_at}
use Rattle.register_core.specs.{Within.kind_after, Custody.need, Within.set_need}
use Rattle.register_requests.proofs.Subjects.{is_registration, is_named}

-- ---- lists with one more

pub latest_grows : (h : List Request) (q : Request) → latest (h ++ q ∷ []) ≡ q.moment
latest_grows h q = fold-append (λ (before : ℕ) (p : Request). p.moment) 0 h (q ∷ [])

pub registrations_grow : (h : List Request) (q : Request)
    → registrations (h ++ q ∷ []) ≡ registrations h ++ registrations (q ∷ [])
registrations_grow h q = filter_map-append (λ (p : Request). registration_of p.command) h (q ∷ [])

pub count_grows : (h : List Request) (q : Request) → count (h ++ q ∷ []) ≡ count h + made_by q.command
count_grows h q = grind (arith, registrations_grow, length-append)

-- the request with the history before it
abbrev pub placed : List Request → Request → Placed
placed h q = record { before = h; request = q }

-- the same, where it makes or names key k
abbrev pub concerning : List Request → Request → ℕ → List Placed
concerning h q k = cond (is_key k (key_concerned (count h) q.command)) (placed h q ∷ []) []

pub own_grows_from : (before h : List Request) (q : Request) (k : ℕ)
    → own_from before (h ++ q ∷ []) k ≡ own_from before h k ++ concerning (before ++ h) q k
own_grows_from before [] q k = append-nil _ ∙ ap (λ (g : List Request). concerning g q k) (sym (append-nil before))
own_grows_from before (p ∷ h) q k = simp (append_assoc, own_grows_from (before ++ p ∷ []) h q k)

pub own_grows : (h : List Request) (q : Request) (k : ℕ) → own (h ++ q ∷ []) k ≡ own h k ++ concerning h q k
own_grows h q k = own_grows_from [] h q k

-- a command that names no key concerns none that was there before
pub not_concerned : (c : Command) (keys k : ℕ) → k ≤ keys → named c ≡ None → is_key k (key_concerned keys c) ≡ false
not_concerned c keys k le none = grind arith

-- a command that names a key makes none
pub key_named : (c : Command) (keys k : ℕ) → named c ≡ Some k → key_concerned keys c ≡ Some k
key_named c keys k names = ap (key_by keys) (is_named (subject c) k names)

pub own_same : (h : List Request) (q : Request) (k : ℕ) → is_key k (key_concerned (count h) q.command) ≡ false
    → own (h ++ q ∷ []) k ≡ own h k
own_same h q k other = grind (arith, own_grows, append-nil)

-- the requests of the key that a command makes or names end with it
pub own_ends : (h : List Request) (q : Request) (k : ℕ) → key_concerned (count h) q.command ≡ Some k
    → own (h ++ q ∷ []) k ≡ own h k ++ placed h q ∷ []
own_ends h q k is = grind (arith, own_grows)

-- ---- what the requests of a key give it, with one more

abbrev pub kind_step : KeyType → Placed → KeyType
kind_step before p = kind_after before p.request.command

abbrev pub owner_step : List ℕ → Placed → List ℕ
owner_step before p = owner_after before p.request.command

abbrev pub dates_step : KeyType → Dates → Placed → Dates
dates_step kind d p = dates_after (period p.before kind) d p.request.moment p.request.command

fold_same : {X : Type 0} (step : X → Placed → X) (first : X) (h : List Request) (q : Request) (k : ℕ)
    → is_key k (key_concerned (count h) q.command) ≡ false
    → fold step first (own (h ++ q ∷ []) k) ≡ fold step first (own h k)
fold_same step first h q k other = ap (fold step first) (own_same h q k other)

fold_ends : {X : Type 0} (step : X → Placed → X) (first : X) (h : List Request) (q : Request) (k : ℕ)
    → key_concerned (count h) q.command ≡ Some k
    → fold step first (own (h ++ q ∷ []) k) ≡ step (fold step first (own h k)) (placed h q)
fold_ends step first h q k is = simp (own_ends, fold-append)

-- ---- a request of another key

pub kind_other : (h : List Request) (q : Request) (k : ℕ) → is_key k (key_concerned (count h) q.command) ≡ false
    → type (h ++ q ∷ []) k ≡ type h k
kind_other h q k other = fold_same kind_step DataEncryption h q k other

pub owner_other : (h : List Request) (q : Request) (k : ℕ) → is_key k (key_concerned (count h) q.command) ≡ false
    → owner (h ++ q ∷ []) k ≡ owner h k
owner_other h q k other = fold_same owner_step [] h q k other

pub dates_other : (h : List Request) (q : Request) (k : ℕ) → is_key k (key_concerned (count h) q.command) ≡ false
    → dates (h ++ q ∷ []) k ≡ dates h k
dates_other h q k other = grind (arith, own_same)

pub dated_other : (h : List Request) (q : Request) (k : ℕ) → is_key k (key_concerned (count h) q.command) ≡ false
    → dated_by (h ++ q ∷ []) k ≡ dated_by h k
dated_other h q k other = grind (arith, own_same)

-- ---- a request that names the key

pub kind_named : (h : List Request) (q : Request) (k : ℕ) → named q.command ≡ Some k → type (h ++ q ∷ []) k ≡ type h k
kind_named h q k names = grind (arith, fold_ends)

pub owner_named : (h : List Request) (q : Request) (k : ℕ) → named q.command ≡ Some k
    → owner (h ++ q ∷ []) k ≡ owner_after (owner h k) q.command
owner_named h q k names = fold_ends owner_step [] h q k (key_named q.command (count h) k names)

pub dates_named : (h : List Request) (q : Request) (k : ℕ) → named q.command ≡ Some k
    → dates (h ++ q ∷ []) k ≡ dates_after (period h (type h k)) (dates h k) q.moment q.command
dates_named h q k names = search (kind_named, fold_ends, key_named)

pub dated_named : (h : List Request) (q : Request) (k : ℕ) → named q.command ≡ Some k
    → dated_by (h ++ q ∷ []) k ≡ cond (sets_dates q.command) (period h (type h k)) (dated_by h k)
dated_named h q k names = grind (arith, fold_ends)

-- ---- the registration of the key, which overrides whatever came before

pub kind_made : (h : List Request) (q : Request) (r : Registration) → subject q.command ≡ Makes r
    → type (h ++ q ∷ []) (count h + 1) ≡ r.kind
kind_made h q r makes = grind (arith, fold_ends)

pub owner_made : (h : List Request) (q : Request) (r : Registration) → subject q.command ≡ Makes r
    → owner (h ++ q ∷ []) (count h + 1) ≡ r.owner
owner_made h q r makes = grind (arith, fold_ends)

pub dates_made : (h : List Request) (q : Request) (r : Registration) → subject q.command ≡ Makes r →
    dates (h ++ q ∷ []) (count h + 1)
    ≡ dates_with_defaults (period h r.kind) (given_dates q.moment r)
dates_made h q r makes =
    let before : Dates = fold (dates_step r.kind) unset_dates (own h (count h + 1)) in
    rw (
      kind_made h q r makes,
      fold_ends (dates_step r.kind) unset_dates h q (count h + 1) (cc),
      is_registration q.command r makes,
    )

pub dated_made : (h : List Request) (q : Request) (r : Registration) → subject q.command ≡ Makes r
    → dated_by (h ++ q ∷ []) (count h + 1) ≡ period h r.kind
dated_made h q r makes = grind (arith, fold_ends)

-- ---- the prefix of a history, one request longer

pub next_prefix : (h : List Request) (i : ℕ) (q : Request) → i < length h → q ≡ get_or h i q
    → take (i + 1) h ≡ take i h ++ q ∷ []
next_prefix h i q lt is = take_more h i q lt ∙ ap (λ (p : Request). take i h ++ p ∷ []) (sym is)

pub count_next : (h : List Request) (i : ℕ) (q : Request) → i < length h → q ≡ get_or h i q
    → count (take (i + 1) h) ≡ count (take i h) + made_by q.command
count_next h i q lt is = ap count (next_prefix h i q lt is) ∙ count_grows (take i h) q

-- what the key's requests in a history give, by what those in its prefix do
pub fold_next : {X : Type 0} (step : X → Placed → X) (first : X) (h : List Request) (i : ℕ) (q : Request) (k : ℕ)
    → i < length h → q ≡ get_or h i q →
    let prefix = take i h in
    let before = fold step first (own prefix k) in
    fold step first (own (take (i + 1) h) k)
    ≡ cond (is_key k (key_concerned (count prefix) q.command)) (step before (placed prefix q)) before
fold_next step first h i q k lt is = grind (arith, common_steps, own_grows)

-- The same of a loop over the history, which knows what the prefix gave, and how many keys it made.
pub fold_with : {X : Type 0} (step : X → Placed → X) (first : X) (h : List Request) (k : ℕ)
    {i : ℕ} {q : Request} {made : ℕ} {before after : X} → i < length h → q ≡ get_or h i q
    → made ≡ count (take i h) → before ≡ fold step first (own (take i h) k)
    → after ≡ cond (is_key k (key_concerned made q.command)) (step before (placed (take i h) q)) before
    → after ≡ fold step first (own (take (i + 1) h) k)
fold_with {X} step first h k {i} {q} {made} {before} lt is counted given now = grind (arith, fold_next)

pub count_with : (h : List Request) {i : ℕ} {q : Request} {made more : ℕ} → i < length h → q ≡ get_or h i q
    → made ≡ count (take i h) → more ≡ made_by q.command →
    made + more ≡ count (take (i + 1) h)
count_with h {i} {q} lt is counted one = let next = count_next h i q lt is in omega (arith, next, counted, one)

-- ---- The lists of what was set say what the history says of each type and of each key.

abbrev need_step : Option ℕ → Placed → Option ℕ
need_step before p = need_after before p.request.command

-- one request more
pub needs_next : (h : List Request) (q : Request) → all_needs (h ++ q ∷ []) ≡ needs_after (all_needs h) q.command
needs_next h q = fold-append (λ (before : List KeyNeed) (p : Request). needs_after before p.command) [] h (q ∷ [])

pub periods_next : (h : List Request) (q : Request)
    → all_periods (h ++ q ∷ []) ≡ periods_after (all_periods h) q.command
periods_next h q = simp (fold-append)

-- ---- what stands for a key after another entry took the place of its own

module _ {A : Type 0} (key : A → ℕ) where
  abbrev set_in : List A → A → List A
  set_in sets new = filter (λ (e : A). not (key e == key new)) sets ++ new ∷ []

  found : (sets : List A) (new : A) (k : ℕ)
      → find (λ (e : A). key e == k) (set_in sets new)
      ≡ cond (key new == k) (Some new) (find (λ (e : A). key e == k) sets)
  found [] new k = refl
  found (x ∷ xs) new k = grind (arith, nat_tests, found xs new k)

-- ---- the period of a type

period_step : (sets : List TypePeriod) (kind : KeyType) (c : Command)
    → period_at kind (periods_after sets c) ≡ period_after kind (period_at kind sets) c
period_step sets kind (SetPeriod other p) =
    let new : TypePeriod = record { kind = other; period = p } in
    let is = found (λ (e : TypePeriod). key_type_code e.kind) sets new (key_type_code kind) in
    grind arith
period_step sets kind c = refl

periods_from : (h : List Request) (sets : List TypePeriod) (kind : KeyType) (first : Option Period)
    → period_at kind sets ≡ first
    → period_at kind (fold (λ (before : List TypePeriod) (q : Request). periods_after before q.command) sets h)
    ≡ fold (λ (before : Option Period) (q : Request). period_after kind before q.command) first h
periods_from [] sets kind first same = same
periods_from (q ∷ later) sets kind first same =
    periods_from later (periods_after sets q.command) kind (period_after kind first q.command)
    (period_step sets kind q.command ∙ ap (λ (o : Option Period). period_after kind o q.command) same)

pub periods_are : (h : List Request) (kind : KeyType) → period_at kind (all_periods h) ≡ set_period h kind
periods_are h kind = periods_from h [] kind None refl

-- ---- the need of a key

asked : (b : Bool) (before : List Request) (q : Request) (n : ℕ) (first : Option ℕ)
    → need_after first q.command ≡ Some n
    → cond b (Some n) first ≡ fold need_step first (cond b (placed before q ∷ []) [])
asked b before q n first is = grind arith

need_one : (before : List Request) (q : Request) (sets : List KeyNeed) (k : ℕ) (c : Command) → q.command ≡ c
    → need_at k (needs_after sets c) ≡ fold need_step (need_at k sets) (concerning before q k)
need_one before q sets k (SetQuorum key n) is =
    let new : KeyNeed = record { key = key; need = n } in
    let found_is = found (λ (e : KeyNeed). e.key) sets new k in
    grind (arith, asked)
need_one before q sets k c is = grind arith

needs_from : (h before : List Request) (sets : List KeyNeed) (k : ℕ)
    → need_at k (fold (λ (before : List KeyNeed) (q : Request). needs_after before q.command) sets h)
    ≡ fold need_step (need_at k sets) (own_from before h k)
needs_from [] before sets k = refl
needs_from (q ∷ later) before sets k =
    grind (arith, need_one, fold-append, needs_from later (before ++ q ∷ []) (needs_after sets q.command) k)

pub needs_are : (h : List Request) (k : ℕ) → need_at k (all_needs h) ≡ set_need h k
needs_are h k = needs_from h [] [] k

-- ---- ranges

abbrev IsEnough : Option ℕ → Type 0
IsEnough set = IfSome set IsQuorum

one_step : (before : List Request) (q : Request) (k : ℕ) (first : Option ℕ) → IsRequest q → IsEnough first
    → IsEnough (fold need_step first (concerning before q k))
one_step before q k first is enough = grind arith

all_steps : (h before : List Request) (k : ℕ) (first : Option ℕ) → AllByRecursion IsRequest h → IsEnough first
    → IsEnough (fold need_step first (own_from before h k))
all_steps [] before k first all enough = enough
all_steps (q ∷ later) before k first all enough =
    grind (arith, all_steps later (before ++ q ∷ []) k _ all.1 (one_step before q k first all.0 enough))

shown : (o : Option ℕ) → IsEnough o → IsQuorum (unwrap_or o min_approvals)
shown o enough = grind arith

-- what the destruction of a key needs is in its range
pub need_in_range : (h : List Request) → AllByRecursion IsRequest h → (k : ℕ) → IsQuorum (need h k)
need_in_range h all k = shown (set_need h k) (all_steps h [] k None all tt)
