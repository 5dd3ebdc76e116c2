-- What is kept of a history with one request more, and of a lawful one.
use Rattle.std.proofs.Common.{◌≡◌, ◌≤◌, ◌<◌, ℕ, ◌+◌, true, false, ◌&&◌, cond, List, [], ◌∷◌, ◌++◌, length, get_or, take}
use Rattle.std.proofs.Common.{drop, slice_get, Option, None, Some, refl, sym, ap, arith, append_assoc}
use Rattle.std.proofs.lemmas.Bool.Decides.{Decides-eqb, nat_tests}
use Rattle.std.proofs.lemmas.List.{append-nil, length-append, take-append-drop}
use Rattle.std.proofs.lemmas.List.Elements.{filter-append}
use Rattle.std.proofs.lemmas.Slice.Eq.{bytes_eq-Decides}
use Rattle.std.specs.{List.AllByRecursion, Prelude.nat_eq, Prelude.unwrap_or, Option.option_map, Str.bytes_eq}
use Rattle.lifecycle_core.specs.declared.state.State.{State}
use Rattle.register_core.specs.Decision.{change_of, change_by_request, change_without_key, reply_to, reply_of_view}
use Rattle.register_core.specs.KeptReply.{reply, kept_with, kept_from, kept, is_under, kept_under, fits_by, IsKeptReply}
use Rattle.register_core.specs.Verdict.{Accepts, Repeats, Refuses, max_keys, judge_view, verdict, is_accepted}
use Rattle.register_core.specs.Verdict.{is_same_command, repeated}
use Rattle.register_core.specs.{declared.change.Change.Change, declared.kept_reply.KeptReply.KeptReply}
use Rattle.register_core.specs.{declared.reply.Reply.Reply, declared.view.Held.Held, declared.view.View.View}
use Rattle.register_core.specs.{declared.reply.Refusal.TheVariants.RequestReused, Fold.IsLawful, Fold.history}
use Rattle.register_core.specs.{Within.kept_of, Laws.IsAccepted, Laws.IsKeptIn, Laws.sent_under}
use Rattle.period_core.specs.{declared.key_type.KeyType.KeyType, Period.Period, Period.period_or_default}
use Rattle.register_requests.specs.Subject.{Subject, Makes, Names, NoKey, named_by, key_by}
use Rattle.register_requests.specs.{declared.request.Request.Request, declared.request.Command.Command}
use Rattle.register_requests.specs.{Request.IsRequest, Request.max_key_number, Within.Subject.count_by}
use Rattle.register_core.proofs.Lawful.{holds_of_each, all_more, all_but_last, all_weaker}
use Rattle.register_core.proofs.{FewLaws.few_keys, Histories.count_grows, Histories.latest_grows, Histories.next_prefix}
use Rattle.register_core.proofs.{OnKey.not_after, Verdicts.is_new, Verdicts.judged, Verdicts.verdict_again}

-- what is kept of later requests stands after what is kept of those before
pub kept_append : (before h later : List Request)
    → kept_from before (h ++ later) ≡ kept_from before h ++ kept_from (before ++ h) later
kept_append before [] later = ap (λ (l : List Request). kept_from l later) (sym (append-nil before))
kept_append before (q ∷ h) later = simp (append_assoc, kept_append (before ++ q ∷ []) h later)

pub kept_grows : (h : List Request) (q : Request) → kept (h ++ q ∷ []) ≡ kept h ++ kept_of h q ∷ []
kept_grows h q = kept_append [] h (q ∷ [])

-- ---- one at most under a caller and a number

-- of each request one is kept, under its caller and number
kept_for_each : (caller : List ℕ) (number : ℕ) (before h : List Request)
    → length (kept_under caller number (kept_from before h)) ≡ length (sent_under caller number h)
kept_for_each caller number before [] = refl
kept_for_each caller number before (q ∷ h) = grind (arith, kept_for_each caller number (before ++ q ∷ []) h)

-- what is under a caller and a number has these
own_under : (caller : List ℕ) (number : ℕ) (q : Request) → (bytes_eq q.caller caller && nat_eq q.number number) ≡ true
    → (q.caller ≡ caller) × (q.number ≡ number)
own_under caller number q e = grind (arith, bytes_eq-Decides)

abbrev OneUnder : List Request → Type 0
OneUnder h = (caller : List ℕ) (number : ℕ) → length (kept_under caller number (kept h)) ≤ 1

under_grows : (caller : List ℕ) (number : ℕ) (h : List Request) (q : Request)
    → kept_under caller number (kept (h ++ q ∷ [])) ≡ kept_under caller number (kept h)
    ++ kept_under caller number (kept_of h q ∷ [])
under_grows caller number h q = simp (kept_grows, filter-append)

one_next : (h : List Request) (q : Request) → IsAccepted h q → OneUnder h → OneUnder (h ++ q ∷ [])
one_next h q is one caller number = grind (arith, under_grows, length-append, own_under)

pub one_kept : (h : List Request) → IsLawful h → OneUnder h
one_kept h lawful = holds_of_each OneUnder one_next (λ caller number. omega arith) h lawful

pub sent_once : (h : List Request) → IsLawful h → (caller : List ℕ) (number : ℕ)
    → length (sent_under caller number h) ≤ 1
sent_once h lawful caller number = omega (arith, one_kept h lawful caller number, kept_for_each caller number [] h)

-- ---- a request that comes again

-- whatever comes later stands after what is there
history_extends : (items : List (Option Request)) (h : List Request)
    → (later : List Request) × (history h items ≡ h ++ later)
history_extends [] h = ([], sym (append-nil h))
history_extends (None ∷ items) h = history_extends items h
history_extends (Some q ∷ items) h =
    elim (is_accepted (verdict h q)) as (λ b. (later : List Request) × (history (cond b (h ++ q ∷ []) h) items ≡ h ++
    later)) [
      | true ↦
          grind (arith, append_assoc, history_extends items (h ++ q ∷ []))
      | false ↦ history_extends items h
    ]

-- what is kept of a request is the first under its caller and number, where nothing is before it
pub first_at : (caller : List ℕ) (number : ℕ) (prefix : List Request) (q : Request) (later : List Request)
    → kept_under caller number (kept prefix) ≡ [] → is_under caller number (kept_of prefix q) ≡ true
    → kept_under caller number (kept ((prefix ++ q ∷ []) ++ later))
    ≡ kept_of prefix q ∷ kept_under caller number (kept_from (prefix ++ q ∷ []) later)
first_at caller number prefix q later none own = grind (arith, kept_append, filter-append)

-- a search through a history, from its first request on, finds it
pub first_found : (caller : List ℕ) (number : ℕ) (h : List Request) (i : ℕ) (q : Request) (found : KeptReply)
    → i < length h → q ≡ get_or h i q → kept_under caller number (kept (take i h)) ≡ []
    → ((before : List Request) → is_under caller number (kept_of before q) ≡ true) → found ≡ kept_of (take i h) q
    → Some found ≡ slice_get (kept_under caller number (kept h)) 0
first_found caller number h i q found lt is none own here =
    let later = drop (i + 1) h in
    let whole : h ≡ (take i h ++ q ∷ []) ++ later = cc (take-append-drop (i + 1) h, next_prefix h i q lt is) in
    cc (here, whole, first_at caller number (take i h) q later none (own (take i h)))

pub none_yet : (caller : List ℕ) (number : ℕ) (h : List Request) (i : ℕ) (q : Request) → i < length h
    → q ≡ get_or h i q → kept_under caller number (kept (take i h)) ≡ []
    → ((before : List Request) → is_under caller number (kept_of before q) ≡ false)
    → kept_under caller number (kept (take (i + 1) h)) ≡ []
none_yet caller number h i q lt is none other =
    cc (next_prefix h i q lt is, under_grows caller number (take i h) q, none, other (take i h))

-- so a request that is accepted after some repeats its reply after those with it, and whatever later ones
pub repeats_after : (h : List Request) (q : Request) (later : List Request) → verdict h q ≡ Accepts
    → verdict ((h ++ q ∷ []) ++ later) q ≡ Repeats (reply h q)
repeats_after h q later accepted = grind (arith, bytes_eq-Decides, Decides-eqb, first_at, is_new)

-- so it is of an accepted request, whatever comes later
first_under : (h : List Request) (q : Request) → IsAccepted h q → (items : List (Option Request))
    → (more : List KeptReply) × (kept_under q.caller q.number (kept (history (h ++ q ∷ []) items)) ≡ kept_of h q ∷ more)
first_under h q is items =
    let extends = history_extends items (h ++ q ∷ []) in (
      kept_under q.caller q.number (kept_from (h ++ q ∷ []) extends.0),
      grind (arith, bytes_eq-Decides, Decides-eqb, first_at, is_new),
    )

-- it decides on a request of the same caller and number
pub decided_by_first : (h : List Request) (q : Request) → IsAccepted h q
    → (items : List (Option Request)) (t : ℕ) (c : Command)
    → verdict (history (h ++ q ∷ []) items) (record q { moment = t; command = c }) ≡ repeated (kept_of h q) c
decided_by_first h q is items t c =
    let first = first_under h q is items in
    verdict_again (history (h ++ q ∷ []) items) (record q { moment = t; command = c }) (kept_of h q) first.0 first.1

pub repeats : (h : List Request) (q : Request) → IsAccepted h q → (items : List (Option Request)) (t : ℕ)
    → verdict (history (h ++ q ∷ []) items) (record q { moment = t }) ≡ Repeats (reply h q)
repeats h q is items t = grind (arith, bytes_eq-Decides, decided_by_first)

pub reuses : (h : List Request) (q : Request) → IsAccepted h q → (items : List (Option Request)) (t : ℕ) (c : Command)
    → is_same_command q.command c ≡ false
    → verdict (history (h ++ q ∷ []) items) (record q { moment = t; command = c }) ≡ Refuses RequestReused
reuses h q is items t c other = grind (arith, decided_by_first)

-- ---- ranges

-- the reply about a subject
abbrev reply_about : ℕ → (ℕ → State) → ℕ → Subject → Reply
reply_about keys state_of t s = record {
  key = unwrap_or (key_by keys s) 0;
  state = option_map state_of (key_by keys s);
  moment = t;
}

is_whole_about : (keys : ℕ) (state_of : ℕ → State) (t : ℕ) (s : Subject)
    → ((k : ℕ) → named_by s ≡ Some k → (1 ≤ k) × (k ≤ keys)) → fits_by s (reply_about keys state_of t s) ≡ true
is_whole_about keys state_of t s there = grind arith

key_about : (keys : ℕ) (s : Subject) → ((k : ℕ) → named_by s ≡ Some k → (1 ≤ k) × (k ≤ keys))
    → unwrap_or (key_by keys s) 0 ≤ keys + count_by s
key_about keys s there = grind arith

pub kept_here : (h : List Request) (q : Request) → IsAccepted h q → IsRequest q → IsLawful (h ++ q ∷ [])
    → IsKeptIn (h ++ q ∷ []) (kept_of h q)
kept_here h q is request lawful =
    grind (arith, nat_tests, judged, key_about, count_grows, few_keys, is_whole_about, latest_grows)

kept_longer : (h : List Request) (q : Request) → IsAccepted h q → (k : KeptReply) → IsKeptIn h k
    → IsKeptIn (h ++ q ∷ []) k
kept_longer h q is k within = grind (arith, not_after, judged, latest_grows, count_grows)

abbrev AllKept : List Request → Type 0
AllKept h = IsLawful h → AllByRecursion (IsKeptIn h) (kept h)

all_next : (h : List Request) (q : Request) → IsAccepted h q → AllKept h → AllKept (h ++ q ∷ [])
all_next h q is before lawful =
    let request = (all_but_last IsRequest h q lawful.in_range).1 in
    let those = all_weaker (IsKeptIn h) (IsKeptIn (h ++ q ∷ [])) (kept_longer h q is) (kept h) (before is.lawful) in
    grind (arith, kept_grows, all_more, kept_here)

pub all_kept : (h : List Request) → IsLawful h → AllByRecursion (IsKeptIn h) (kept h)
all_kept h lawful = holds_of_each AllKept all_next (λ lawful. tt) h lawful lawful

-- ---- the reply of a decision

without_key : (keys t : ℕ) (c : Command) → (reply_to keys t (change_without_key c)).key ≡ 0
without_key keys t c = grind arith

whole_decided : (keys t : ℕ) (ps : KeyType → Period) (key : Option Held) (q : Request) (s : Subject)
    → ((k : ℕ) → named_by s ≡ Some k → 1 ≤ k) → (key ≡ None → named_by s ≡ None)
    → fits_by s (reply_to keys t (change_of ps s key q)) ≡ true
whole_decided keys t ps key q s low known = grind arith

key_decided : (keys t : ℕ) (ps : KeyType → Period) (key : Option Held) (q : Request) (s : Subject) → keys ≤ max_keys
    → ((k : ℕ) → named_by s ≡ Some k → k ≤ max_key_number)
    → (reply_to keys t (change_of ps s key q)).key ≤ max_key_number
key_decided keys t ps key q (Makes r) few high = omega (arith, few)
key_decided keys t ps (Some held) q (Names k) few high = high k refl
key_decided keys t ps None q (Names k) few high = omega arith
key_decided keys t ps key q NoKey few high = omega (arith, without_key keys t q.command)

moment_decided : (keys t : ℕ) (change : Change) → (reply_to keys t change).moment ≡ t
moment_decided keys t change = grind arith

-- what is kept of a request that is accepted by a decision is in its ranges, whatever the decision rests on
pub decided_in_range : (view : View) (q : Request) → IsRequest q → view.keys ≤ max_keys → judge_view view q ≡ None
    → IsKeptReply (kept_with q (reply_of_view view q))
decided_in_range view q request few accepted = grind (arith, key_decided, moment_decided, whole_decided)

-- its reply is of the request's moment
pub decided_at : (view : View) (q : Request) → (reply_of_view view q).moment ≡ q.moment
decided_at view q = moment_decided view.keys q.moment (change_by_request (period_or_default view.period) view.key q)
