-- The custody of a history with one more request at its end.
use Rattle.std.proofs.Common.{◌≡◌, Bool, true, not, ◌&&◌, ◌||◌, List, [], ◌∷◌, ◌++◌, filter, refl, ◌∙◌, append_assoc}
use Rattle.std.proofs.Common.{arith, ℕ, false, cond, None, Some, sym, ap, subst, zero, suc, ◌+◌, ◌<◌, length, get_or}
use Rattle.std.proofs.Common.{take, drop, map, Option}
use Rattle.std.proofs.lemmas.List.{append-nil, take_more, drop_more}
use Rattle.std.proofs.lemmas.Slice.Eq.{bytes_eq-Decides}
use Rattle.std.specs.{List.list_any, Prelude.is_none, Str.bytes_eq}
use Rattle.register_requests.specs.declared.request.Command.TheVariants.{Revoke, AddCustodian, RemoveCustodian, Approve}
use Rattle.register_requests.specs.declared.request.Command.TheVariants.{Withdraw, SetQuorum}
use Rattle.register_requests.specs.declared.request.Request.{Request}
use Rattle.register_requests.specs.{declared.request.Command.Command, Name.is_among, Subject.named}
use Rattle.register_core.specs.KeyName.{KeyName, key_name, is_key_name, is_at, names_at}
use Rattle.register_core.specs.Custody.{added_by, is_about, all_custodians, approved_by, ends_by, is_ended}
use Rattle.register_core.specs.Custody.{approvals_from, all_approvals, custodians, approvals}
use Rattle.register_core.specs.declared.change.CustodyChange.TheVariants.{Kept, ApprovalsEnded}
use Rattle.register_core.specs.Decision.{custodians_by, approvals_by, needs_by, CustodyLead}
use Rattle.register_core.specs.Settings.{KeyNeed, needs_after, all_needs}
use Rattle.register_core.specs.{declared.reply.Refusal.Refusal, declared.change.CustodyChange.CustodyChange}
use Rattle.register_core.specs.{Names.with_name, Names.sorted_names, History.dates, Effect.custody_change}
use Rattle.register_core.specs.{Within.approval_of, Within.name_list, Laws.AreDifferent}
use Rattle.lifecycle_core.specs.Reason.{is_compromise}
use Rattle.register_core.proofs.Histories.{needs_next}

-- ---- lists

pub filter_every : {X : Type 0} (p : X → Bool) → ((x : X) → p x ≡ true) → (xs : List X) → filter p xs ≡ xs
filter_every p all [] = refl
filter_every p all (x ∷ xs) = grind (arith, filter_every p all xs)

filter_twice : {X : Type 0} (p q r : X → Bool) → ((x : X) → r x ≡ p x && q x) → (xs : List X)
    → filter r xs ≡ filter q (filter p xs)
filter_twice p q r both [] = refl
filter_twice p q r both (x ∷ xs) = grind (arith, filter_twice p q r both xs)

pub filter_joined : {X : Type 0} (p : X → Bool) (xs ys : List X) → filter p (xs ++ ys) ≡ filter p xs ++ filter p ys
filter_joined p [] ys = refl
filter_joined p (x ∷ xs) ys = grind (arith, filter_joined p xs ys)

any_grows : {X : Type 0} (p : X → Bool) (xs : List X) (x : X) → list_any p (xs ++ x ∷ []) ≡ list_any p xs || p x
any_grows p [] x = grind arith
any_grows p (y ∷ xs) x = grind (arith, any_grows p xs x)

-- ---- custodians

pub all_custodians_grow : (h : List Request) (q : Request)
    → all_custodians (h ++ q ∷ []) ≡ filter (λ entry. not (is_about entry q.command)) (all_custodians h)
    ++ added_by q.command
all_custodians_grow [] q = append-nil _ ∙ filter_every _ (λ entry. refl) (added_by q.command)
all_custodians_grow (p ∷ h) q = grind (arith, any_grows, all_custodians_grow h q)

-- ---- approvals

ended_grows : (before later : List Request) (q : Request) (entry : KeyName)
    → is_ended before entry (later ++ q ∷ []) ≡ is_ended before entry later
    || ends_by (before ++ later) entry q.caller q.command
ended_grows before [] q entry = grind (arith, append-nil)
ended_grows before (p ∷ later) q entry = grind (arith, append_assoc, ended_grows (before ++ p ∷ []) later q entry)

-- the approvals that the request leaves of those that the history gives
abbrev pub left_by : List Request → Request → KeyName → Bool
left_by before q entry = not (ends_by before entry q.caller q.command)

approvals_grow_from : (before h : List Request) (q : Request)
    → approvals_from before (h ++ q ∷ []) ≡ filter (left_by (before ++ h) q) (approvals_from before h)
    ++ approved_by q.caller q.command
approvals_grow_from before [] q = append-nil _ ∙ filter_every _ (λ entry. refl) (approved_by q.caller q.command)
approvals_grow_from before (p ∷ h) q =
    let prefix = before ++ p ∷ [] in
    grind (arith, append_assoc, filter_twice, ended_grows, filter_joined, approvals_grow_from prefix h q)

pub all_approvals_grow : (h : List Request) (q : Request)
    → all_approvals (h ++ q ∷ []) ≡ filter (left_by h q) (all_approvals h) ++ approved_by q.caller q.command
all_approvals_grow h q = approvals_grow_from [] h q

-- ---- What an accepted request makes of the custody of its key is what the history with it at its end says.

-- ---- a name that is not among those of the key

pub any_with : (p : List ℕ → Bool) (name : List ℕ) (names : List (List ℕ)) → list_any p (with_name name names)
    ≡ p name || list_any p names
any_with p name [] = refl
any_with p name (first ∷ others) = grind (arith, any_with p name others)

pub any_sorted_names : (p : List ℕ → Bool) (names : List (List ℕ)) → list_any p (sorted_names names) ≡ list_any p names
any_sorted_names p [] = refl
any_sorted_names p (name ∷ others) = simp (any_with, any_sorted_names p others)

pub any_of_key : (key : ℕ) (name : List ℕ) (entries : List (KeyName))
    → list_any (λ other. bytes_eq other name) (names_at key entries) ≡ list_any (is_key_name key name) entries
any_of_key key name [] = refl
any_of_key key name (entry ∷ entries) = grind (arith, any_of_key key name entries)

none_taken : {X : Type 0} (p : X → Bool) (xs : List X) → list_any p xs ≡ false → filter (λ x. not (p x)) xs ≡ xs
none_taken p [] none = refl
none_taken p (x ∷ xs) none = grind (arith, none_taken p xs)

-- nothing of the entries goes where the name is not among those of its key
absent : (key : ℕ) (name : List ℕ) (entries : List (KeyName))
    → is_among name (sorted_names (names_at key entries)) ≡ false
    → filter (λ entry. not (is_key_name key name entry)) entries ≡ entries
absent key name entries none =
    none_taken (is_key_name key name) entries (grind (arith, any_of_key, any_sorted_names))

pub not_refused : (b : Bool) (refusal : Refusal) → cond b (Some refusal) None ≡ None → b ≡ false
not_refused b refusal none = grind arith

-- ---- by command

-- a name that is added is new, and so is an approval
pub record IsNew (h : List Request) (q : Request) (k : ℕ) : Type 0 where
  pub custodian : (name : List ℕ) → q.command ≡ AddCustodian k name → is_among name (custodians h k) ≡ false
  pub approval : q.command ≡ Approve k → is_among q.caller (approvals h k) ≡ false

-- what the command leaves of the custodians and of the approvals, and what it adds
abbrev custodians_then : Command → List (KeyName) → List (KeyName)
custodians_then c entries = filter (λ entry. not (is_about entry c)) entries ++ added_by c

abbrev approvals_then : List Request → List ℕ → Command → List (KeyName) → List (KeyName)
approvals_then h caller c entries = filter (λ entry. not (ends_by h entry caller c)) entries ++ approved_by caller c

same_entries : (p : KeyName → Bool) → ((entry : KeyName) → p entry ≡ false) → (entries : List (KeyName))
    → filter (λ entry. not (p entry)) entries ++ [] ≡ entries
same_entries p none entries = grind (arith, append-nil, filter_every)

lead : (h : List Request) (q : Request) (c : Command) (key : ℕ) (custody : CustodyChange) → q.command ≡ c
    → custodians_then c (all_custodians h) ≡ custodians_by key custody (all_custodians h)
    → approvals_then h q.caller c (all_approvals h) ≡ approvals_by key custody (all_approvals h)
    → needs_after (all_needs h) c ≡ needs_by key custody (all_needs h) → CustodyLead h q key custody
lead h q c key custody is cs given needs = grind (arith, all_custodians_grow, all_approvals_grow, needs_next)

pub nobody_changes : (h : List Request) (q : Request) (key : ℕ) → named q.command ≡ None → CustodyLead h q key Kept
nobody_changes h q key none =
    grind (arith, all_custodians_grow, all_approvals_grow, needs_next, append-nil, filter_every)

revoked : (h : List Request) (q : Request) (k : ℕ) (compromise kept : Bool) (entries : List (KeyName))
    → filter (λ entry. not (is_at k entry && compromise && kept)) entries ++ []
    ≡ approvals_by k (cond (compromise && kept) ApprovalsEnded Kept) entries
revoked h q k compromise kept entries = grind (arith, append-nil, filter_every)

pub kept_custodians : (k : ℕ) (ends : Bool) (entries : List (KeyName))
    → custodians_by k (cond ends ApprovalsEnded Kept) entries ≡ entries
kept_custodians k ends entries = grind arith

kept_needs : (k : ℕ) (ends : Bool) (sets : List KeyNeed) → needs_by k (cond ends ApprovalsEnded Kept) sets ≡ sets
kept_needs k ends sets = grind arith

pub custody_lead : (h : List Request) (q : Request) (k : ℕ) → named q.command ≡ Some k → IsNew h q k
    → CustodyLead h q k (custody_change (dates h k) q.caller q.command)
custody_lead h q k names new = by q.command refl names
  where
    stays : (entries : List (KeyName)) → filter (λ entry. not false) entries ++ [] ≡ entries
    stays entries = same_entries (λ entry. false) (λ entry. refl) entries

    changed : (c : Command) → q.command ≡ c
        → custodians_then c (all_custodians h)
        ≡ custodians_by k (custody_change (dates h k) q.caller c) (all_custodians h)
        → approvals_then h q.caller c (all_approvals h)
        ≡ approvals_by k (custody_change (dates h k) q.caller c) (all_approvals h)
        → needs_after (all_needs h) c ≡ needs_by k (custody_change (dates h k) q.caller c) (all_needs h)
        → CustodyLead h q k (custody_change (dates h k) q.caller q.command)
    changed c is cs given needs =
        subst (CustodyLead h q k) (sym (ap (custody_change (dates h k) q.caller) is)) (lead h q c k _ is cs given needs)

    by : (c : Command) → q.command ≡ c → named c ≡ Some k
        → CustodyLead h q k (custody_change (dates h k) q.caller q.command)
    by (Revoke n reason occurrence) is e =
        changed (Revoke k reason occurrence) (cc) (grind (arith, append-nil, filter_every, kept_custodians))
        (revoked h q k (is_compromise reason) (is_none (dates h k).destroy) (all_approvals h))
        (sym (kept_needs k (is_compromise reason && is_none (dates h k).destroy) (all_needs h)))
    by (AddCustodian n name) is e =
        let here : q.command ≡ AddCustodian k name = cc in
        let new_name = absent k name (all_custodians h) (new.custodian name here) in
        changed (AddCustodian k name) here (ap (λ l. l ++ key_name k name ∷ []) new_name) (stays _) refl
    by (RemoveCustodian n name) is e = changed (RemoveCustodian k name) (cc) (append-nil _) (append-nil _) refl
    by (Approve n) is e =
        let here : q.command ≡ Approve k = cc in
        let new_name = absent k q.caller (all_approvals h) (new.approval here) in
        changed (Approve k) here (stays _) (ap (λ l. l ++ key_name k q.caller ∷ []) new_name) refl
    by (Withdraw n) is e = changed (Withdraw k) (cc) (stays _) (append-nil _) refl
    by (SetQuorum n need) is e = changed (SetQuorum k need) (cc) (stays _) (stays _) refl
    by c is e = changed c is (stays _) (stays _) refl

-- ---- Walking through a history, with the requests after the place in sight.

pub rest_at : (h : List Request) (at : ℕ) (q : Request) → at < length h → q ≡ get_or h at q
    → drop at h ≡ q ∷ drop (at + 1) h
rest_at h at q lt is = drop_more h at q lt ∙ ap (λ (p : Request). p ∷ drop (at + 1) h) (sym is)

pub prefix_at : (h : List Request) (at : ℕ) (q : Request) → at < length h → q ≡ get_or h at q
    → take (at + 1) h ≡ take at h ++ q ∷ []
prefix_at h at q lt is = take_more h at q lt ∙ ap (λ (p : Request). take at h ++ p ∷ []) (sym is)

map_joined : {X Y : Type 0} (f : X → Y) (xs ys : List X) → map f (xs ++ ys) ≡ map f xs ++ map f ys
map_joined f [] ys = refl
map_joined f (x ∷ xs) ys = ap (λ l. f x ∷ l) (map_joined f xs ys)

pub names_joined : (key : ℕ) (entries others : List (KeyName))
    → names_at key (entries ++ others) ≡ names_at key entries ++ names_at key others
names_joined key entries others = simp (filter_joined, map_joined)

pub approvals_step : (key : ℕ) (h : List Request) (at : ℕ) (q : Request) (found next : List (List ℕ))
    (one : Option (List ℕ)) → at < length h → q ≡ get_or h at q
    → name_list one ≡ names_at key (approval_of (take at h) q (drop (at + 1) h)) → next ≡ found ++ name_list one
    → found ++ names_at key (approvals_from (take at h) (drop at h)) ≡ names_at key (approvals_from [] h)
    → next ++ names_at key (approvals_from (take (at + 1) h) (drop (at + 1) h)) ≡ names_at key (approvals_from [] h)
approvals_step key h at q found next one lt is its pushed before = grind (arith, append_assoc, prefix_at, rest_at)

-- a request stands at each place of a history
pub one_at : (h : List Request) (at : ℕ) → at < length h → (q : Request) × (q ≡ get_or h at q)
one_at [] at lt = absurd (omega (arith, lt))
one_at (q ∷ h) zero lt = (q, refl)
one_at (q ∷ h) (suc at) lt = one_at h at (omega (arith, lt))

-- ---- No name stands twice among the custodians of a key, or among those who approve of its destruction.

-- ---- names in order

not_either : (a b : Bool) → a || b ≡ false → (a ≡ false) × (b ≡ false)
not_either a b e = grind arith

pub neither_of : (a b : Bool) → a ≡ false → b ≡ false → a || b ≡ false
neither_of a b e f = cc

same_turned : (a b : List ℕ) → bytes_eq a b ≡ false → bytes_eq b a ≡ false
same_turned a b e = grind (arith, bytes_eq-Decides)

different_with : (name : List ℕ) (names : List (List ℕ)) → is_among name names ≡ false → AreDifferent names
    → AreDifferent (with_name name names)
different_with name [] none apart = (refl, tt)
different_with name (first ∷ others) none apart =
    let parts = not_either (bytes_eq first name) (is_among name others) none in
    grind (arith, any_with, neither_of, same_turned, different_with name others parts.1 apart.1)

different_sorted_names : (names : List (List ℕ)) → AreDifferent names → AreDifferent (sorted_names names)
different_sorted_names [] apart = tt
different_sorted_names (name ∷ others) apart =
    grind (arith, different_with, any_sorted_names, different_sorted_names others apart.1)

-- ---- entries

abbrev is_in : KeyName → List (KeyName) → Bool
is_in entry entries = list_any (is_key_name entry.key entry.name) entries

abbrev AreApart : List (KeyName) → Type 0
AreApart [] = Unit {0}
AreApart (entry ∷ entries) = (is_in entry entries ≡ false) × AreApart entries

names_apart : (k : ℕ) (entries : List (KeyName)) → AreApart entries → AreDifferent (names_at k entries)
names_apart k [] apart = tt
names_apart k (entry ∷ entries) apart = grind (arith, any_of_key, names_apart k entries apart.1)

pub any_joined : {X : Type 0} (p : X → Bool) (xs ys : List X) → list_any p (xs ++ ys) ≡ list_any p xs || list_any p ys
any_joined p [] ys = refl
any_joined p (x ∷ xs) ys = grind (arith, any_joined p xs ys)

pub same_entry : (entry other : KeyName) → is_key_name entry.key entry.name other ≡ true → other ≡ entry
same_entry entry other is = grind (arith, bytes_eq-Decides)

-- whose entry is this one
pub not_its_entry : (key : ℕ) (name : List ℕ) (entry : KeyName) → is_key_name key name entry ≡ false
    → is_key_name entry.key entry.name (key_name key name) ≡ false
not_its_entry key name entry other = grind (arith, bytes_eq-Decides)

-- one entry, if it is chosen, is not the one that is looked for
not_chosen : (p : KeyName → Bool) (key : ℕ) (name : List ℕ) (entry : KeyName) → is_key_name key name entry ≡ false
    → is_in entry (filter p (key_name key name ∷ [])) ≡ false
not_chosen p key name entry other = grind (arith, not_its_entry)

-- ---- custodians

added_absent : (c : Command) (p : KeyName → Bool) (entry : KeyName) → is_about entry c ≡ false
    → is_in entry (filter p (added_by c)) ≡ false
added_absent c p entry other = grind (arith, not_chosen)

added_apart : (c : Command) (p : KeyName → Bool) (entries : List (KeyName)) → AreApart entries
    → ((entry : KeyName) → p entry ≡ true → is_in entry entries ≡ false) → AreApart (filter p (added_by c) ++ entries)
added_apart c p entries apart none = grind arith

absent_later : (entry : KeyName) (later : List Request) → list_any (λ q. is_about entry q.command) later ≡ false
    → is_in entry (all_custodians later) ≡ false
absent_later entry [] none = refl
absent_later entry (q ∷ later) none =
    let parts = not_either (is_about entry q.command) (list_any (λ p. is_about entry p.command) later) none in
    grind (arith, any_joined, neither_of, added_absent, absent_later entry later parts.1)

turned : (b : Bool) → not b ≡ true → b ≡ false
turned b e = grind arith

custodians_apart : (h : List Request) → AreApart (all_custodians h)
custodians_apart [] = tt
custodians_apart (q ∷ later) = grind (arith, added_apart, absent_later, custodians_apart later)

-- ---- approvals

approved_apart : (caller : List ℕ) (c : Command) (p : KeyName → Bool) (entries : List (KeyName)) → AreApart entries
    → ((entry : KeyName) → p entry ≡ true → is_in entry entries ≡ false)
    → AreApart (filter p (approved_by caller c) ++ entries)
approved_apart caller c p entries apart none = grind arith

absent_given : (before : List Request) (entry : KeyName) (later : List Request) → is_ended before entry later ≡ false
    → is_in entry (approvals_from before later) ≡ false
absent_given before entry [] none = refl
absent_given before entry (q ∷ later) none =
    let prefix = before ++ q ∷ [] in
    let parts = not_either (ends_by before entry q.caller q.command) (is_ended prefix entry later) none in
    grind (arith, any_joined, neither_of, not_its_entry, absent_given prefix entry later parts.1)

approvals_apart : (before h : List Request) → AreApart (approvals_from before h)
approvals_apart before [] = tt
approvals_apart before (q ∷ later) =
    let prefix = before ++ q ∷ [] in
    grind (arith, approved_apart, absent_given, turned, approvals_apart prefix later)

pub different : (h : List Request) (k : ℕ) → AreDifferent (custodians h k) × AreDifferent (approvals h k)
different h k = search (different_sorted_names, names_apart, custodians_apart, approvals_apart)
