-- What applying a request does to a desk that is over some tables, whatever history they are of if any.
use Rattle.std.proofs.Common.{◌≡◌, ◌≤◌, inl, inr, ℕ, ◌+◌, Bool, false, if◌then◌else◌, List, [], ◌∷◌, length, map}
use Rattle.std.proofs.Common.{Option, None, Some, Result, Ok, Err, refl, sym, ap, subst, ◌∙◌, arith, ◌++◌, cond}
use Rattle.std.proofs.lemmas.Bool.Decides.{nat_tests}
use Rattle.std.proofs.lemmas.List.{length-append, length-map}
use Rattle.std.proofs.lemmas.List.FromFn.{length-enumerate_from}
use Rattle.std.proofs.lemmas.Result.{IfErr-weaker, IfOk-weaker, on_err_weaker}
use Rattle.std.specs.List.{AllByRecursion, enumerate_from, cons_option}
use Rattle.sqlite_trees.specs.declared.store.Store as store
use Rattle.sqlite.specs.Effect.{Database}
use Rattle.sql_steps.specs.Steps.{TransactsBy}
use Rattle.lifecycle_core.specs.{declared.row.Row.Row, Row.IsRightAt}
use Rattle.period_core.specs.{declared.key_type.KeyType.KeyType, Period.Period, Period.period_or_default}
use Rattle.register_requests.specs.declared.request.Request.{Request}
use Rattle.register_requests.specs.{Subject.Subject, Subject.subject, declared.request.Command.Command}
use Rattle.register_requests.specs.{Request.IsRequest, Version.current, Within.Subject.made_by}
use Rattle.register_core.specs.declared.answer.Answer.TheVariants.{Accepted, Refused}
use Rattle.register_core.specs.declared.change.Change.TheVariants.{Made, Nothing}
use Rattle.register_core.specs.declared.reply.Refusal.TheVariants.{RequestReused}
use Rattle.register_core.specs.Decision.{change_of, change_by_request, change_without_key, reply_of_view, reply_to}
use Rattle.register_core.specs.KeptReply.{kept_with, IsKeptReply, kept, kept_under, reply}
use Rattle.register_core.specs.Verdict.{answer_by, is_same_command, judge, judge_view, limit_refusal, max_keys}
use Rattle.register_core.specs.Verdict.{repeated, Repeats, Refuses, verdict_by, Verdict, Accepts, answer, is_accepted}
use Rattle.register_core.specs.Verdict.{judgement, named_key, unless_kept, verdict}
use Rattle.register_core.specs.declared.kept_reply.KeptReply.{KeptReply}
use Rattle.register_core.specs.{declared.answer.Answer.Answer, Answer.UnlessAccepted, declared.change.Change.Change}
use Rattle.register_core.specs.{declared.key.Key.Key, declared.reply.Refusal.Refusal, declared.reply.Reply.Reply}
use Rattle.register_core.specs.{declared.view.Held.Held, declared.view.View.View, Effect.needed_period_type}
use Rattle.register_core.specs.{Settings.period_at, Fold.history_after, Fold.IsLawful, History.latest, History.period}
use Rattle.register_core.specs.declared.change.Change.TheVariants as change
use Rattle.register_core.proofs.Needed.{AreSoFor, changed_by, judge_by, so_for, changed_so, judged_so}
use Rattle.register_core.proofs.{Kept.decided_at, Kept.decided_in_range, Kept.one_kept, Lawful.all_more}
use Rattle.register_core.proofs.{Lawful.lawful_after, Refusals.passes, Decisions.agrees_as, Verdicts.judged}
use Rattle.register_tables.specs.TableChanges.{AreRightAt, advanced, where_number, with_keys_advanced}
use Rattle.register_tables.specs.TableChanges.{with_owner_and_row}
use Rattle.register_rows.specs.AcceptedRequest.{CanTake, with_request}
use Rattle.register_tables.specs.TableReads.{HasRequest}
use Rattle.register_rows.specs.Change.{made_count, with_change}
use Rattle.register_tables.specs.{TableReads.seen, Schema.Holds, Tables.Tables}
use Rattle.register_tables.specs.TableChanges as tabled
use Rattle.register_desk.specs.Desk.{AppliesOver, ChangesNothing, IsAnsweredOver, IsClean, IsNew, IsOpen, IsWhole}
use Rattle.register_desk.specs.Desk.{KeepsCounts, LeavesWithRequest, UnlessChanged, AppliesTo, LeavesEither}
use Rattle.register_desk.specs.TablesView.{change_over, judgement_over, key_needed, period_over, reply_over}
use Rattle.register_desk.specs.TablesView.{tables_after, with_accepted, verdict_over}
use Rattle.register_desk.specs.Register.{IsOver, LeavesEitherOf, tables}
use Rattle.register_desk.specs.Within.{left_at, left_by}
use Rattle.register_desk.specs.declared.desk.Desk.{Desk}
use Rattle.register_desk.specs.{declared.end.End.End, declared.end.End.TheVariants.Store, Within.IsViewOver}
use Rattle.register_desk.proofs.Grows.{change_counts, tables_grow, keys_counted, period_is}
use Rattle.register_desk.proofs.Readings.{Settles, keeps_committed, leaves_nothing_else, over_still}
use Rattle.register_desk.proofs.Needing.{needed_is}
use Rattle.sqlite_rules.specs.Lists.{Has}
use Rattle.sqlite_trees.specs.declared.store.Store.{Ghosts}

-- ---- how many keys there are

keys_with : (made : Change) (t : Tables) → length (with_change made t).keys ≡ length t.keys + made_count made
keys_with made t = grind (arith, length-append, length-map, length-enumerate_from)

-- ---- the state of each key

abbrev AllRight : ℕ → List Key → Type 0
AllRight at keys = AllByRecursion (λ (k : Key). IsRightAt k.row at) keys

-- a key of a decision's change is in the state that its dates give
abbrev IsRightChange : ℕ → Change → Type 0
IsRightChange at (Made key) = IsRightAt key.row at
IsRightChange at (change.Held number owner row custody) = IsRightAt row at
IsRightChange at (change.PeriodSet kind period) = Unit {0}
IsRightChange at Nothing = Unit {0}

right_without : (t : ℕ) (c : Command) → IsRightChange t (change_without_key c)
right_without t c = grind arith

right_change : (periods : KeyType → Period) (s : Subject) (key : Option Held) (q : Request)
    → IsRightChange q.moment (change_of periods s key q)
right_change periods s key q = grind (arith, right_without)

advanced_right : (at : ℕ) (keys : List Key) → AllRight at (map (advanced at) keys)
advanced_right at [] = tt
advanced_right at (k ∷ keys) = (refl, advanced_right at keys)

-- the owner and the row of a change, at its key alone
held_right : (at number : ℕ) (owner : List ℕ) (row : Row) → IsRightAt row at → (n : ℕ) (keys : List Key)
    → AllRight at keys
    → AllRight at (map (where_number number (with_owner_and_row owner row)) (enumerate_from n keys))
held_right at number owner row right n [] each = tt
held_right at number owner row right n (k ∷ keys) each =
    grind (arith, held_right at number owner row right (n + 1) keys each.1)

right_with : (made : Change) (t : Tables) (at : ℕ) → IsRightChange at made
    → AreRightAt at (with_change made (with_keys_advanced at t))
right_with (Made key) t at right =
    all_more (λ (k : Key). IsRightAt k.row at) (map (advanced at) t.keys) key (advanced_right at t.keys) right
right_with (change.Held number owner row custody) t at right =
    held_right at number owner row right 1 (map (advanced at) t.keys) (advanced_right at t.keys)
right_with made t at right = advanced_right at t.keys

-- ---- a decision by a view

-- what the view gives is what these tables give, where it has what a decision on the request sees over them
module _ (t : Tables) (q : Request) (view : View) (is : IsViewOver t q view) where
  set_so : AreSoFor (needed_period_type view.key q.command) (period_or_default view.period) (period_over t)
  set_so = so_for _ view.period (λ kind. period_at kind t.periods) is.period_is

  pub judged_over : judge_view view q ≡ judgement_over t q
  judged_over =
      judge_by view.latest view.keys (period_or_default view.period) (period_over t) view.key q set_so
      ∙ (λ i. judge (is.latest_is i) (is.keys_are i) (period_over t) (is.key_is i) q)

  changed_over : change_by_request (period_or_default view.period) view.key q ≡ change_over t q
  changed_over =
      changed_by (period_or_default view.period) (period_over t) view.key q set_so
      ∙ ap (λ (k : Option Held). change_by_request (period_over t) k q) is.key_is

  replied_over : reply_of_view view q ≡ reply_over t q
  replied_over i = reply_to (is.keys_are i) q.moment (changed_over i)

room_for : (keys : ℕ) (c : Command) → keys ≤ max_keys → limit_refusal keys c ≡ None → keys + made_by c ≤ max_keys
room_for keys c within none = grind (arith, nat_tests)

-- where a request is accepted, there is room for what it makes
pub room_left : (view : View) (q : Request) (change : Change) → view.keys ≤ max_keys → judge_view view q ≡ None
    → change ≡ change_by_request (period_or_default view.period) view.key q → view.keys + made_count change ≤ max_keys
room_left view q change within accepted is =
    let counted : made_count change ≡ made_by q.command =
    ap made_count is ∙ change_counts (period_or_default view.period) view.key q in
    let room = room_for view.keys q.command within
    (passes current view.latest view.keys (period_or_default view.period) view.key q accepted).numbered in
    omega (arith, counted, room)

-- ---- after an acceptance

module _ {S : Type 0} (g : store.Ghosts S) (old new : Desk S g) (t : Tables) (q : Request) (view : View)
    (made : Change) (given : Reply) (whole : old.is_broken ≡ false) (over : IsOver g old t) (request : IsRequest q)
    (few : view.keys ≤ max_keys) (is : made ≡ change_by_request (period_or_default view.period) view.key q)
    (told : given ≡ reply_of_view view q) (accepted : judge_view view q ≡ None) (seen_so : IsViewOver t q view)
    (none : IsNew t q) where
  abbrev Commits : Database → Database → Type 0
  Commits =
      tabled.Makes (CanTake old.keys old.latest (kept_with q given)) (with_request old.keys made (kept_with q given))

  made_is : made ≡ change_over t q
  made_is = is ∙ changed_over t q view seen_so

  given_is : given ≡ reply_over t q
  given_is = told ∙ replied_over t q view seen_so

  pub none_refuses : judgement_over t q ≡ None
  none_refuses = sym (judged_over t q view seen_so) ∙ accepted

  moment_is : (reply_over t q).moment ≡ q.moment
  moment_is = ap (λ (x : Reply). x.moment) (sym (replied_over t q view seen_so)) ∙ decided_at view q

  keys_after : length (with_accepted t q).keys ≡ old.keys + made_count made
  keys_after =
      let grown = keys_with (change_over t q) (with_keys_advanced (reply_over t q).moment t) in
      let same = length-map t.keys (advanced (reply_over t q).moment) in
      let count = ap made_count made_is in
      let counted = over.counted in
      omega (arith, grown, same, count, counted)

  right_after : AreRightAt (reply_over t q).moment (with_accepted t q)
  right_after =
      right_with (change_over t q) t (reply_over t q).moment
      (subst (λ (m : ℕ). IsRightChange m (change_over t q)) (sym moment_is)
      (right_change (period_over t) (subject q.command) (key_needed t q) q))

  made_holds : (before after : Database) → Holds t before → Commits before after → Holds (with_accepted t q) after
  made_holds before after holds makes =
      let in_range = subst (λ (x : Reply). IsKeptReply (kept_with q x)) (sym told)
      (decided_in_range view q request few accepted) in
      let can : CanTake old.keys old.latest (kept_with q given) t =
      record { counted = over.counted; right = over.right; in_range = in_range } in
      subst (λ (u : Tables). Holds u after)
      (λ i. with_request (sym over.counted i) (made_is i) (kept_with q (given_is i)) t) (makes t holds can)

  -- a stop leaves the tables, or those with the request
  pub leaves_request : {A E : Type 0} (r : Result A E)
      → TransactsBy Commits (seen g old.connection) (seen g new.connection) r → IsOpen g old → IsClean g new
      → LeavesWithRequest g t q new
  leaves_request r written live clean = inr (
    record { new = none; judged = none_refuses },
    λ trees may.
        let early : IsClean g old = omega (arith, written.stop.clean) in
        let kept = over.sees whole early in
        elim (written.stop.crash clean trees may) [
          | inl before ↦ let it = kept.leaves trees before in (it.0, inl it.1, it.2)
          | inr after ↦ (
            after.0,
            inr (made_holds (seen g old.connection).now after.0 (kept.shows (live early)).holds after.1),
            after.2,
          )
        ],
  )

  pub answers_request : {A E : Type 0} (x : A)
      → TransactsBy {E = E} Commits (seen g old.connection) (seen g new.connection) (Ok x)
      → Settles g → new.latest ≡ given.moment → new.keys ≡ old.keys + made_count made
      → IsAnsweredOver g t q (Accepted given) new
  answers_request x written settled moment counted = record {
    found = None;
    kept = none;
    answer_is = λ i. answer_by (verdict_by (sym none_refuses i)) (given_is i);
    over = record {
      latest_is = moment ∙ ap (λ (x : Reply). x.moment) given_is;
      keys_are = counted ∙ ap (λ (n : ℕ). n + made_count made) (sym over.counted)
          ∙ ap (λ (c : Change). length t.keys + made_count c) made_is;
      counted = keys_after ∙ sym counted;
      right = subst (λ (m : ℕ). AreRightAt m (with_accepted t q))
          (sym (moment ∙ ap (λ (x : Reply). x.moment) given_is)) right_after;
      sees = λ still clean.
          let early : IsClean g old = omega (arith, written.stop.clean) in
          let did = written.accepted clean in
          let holds = made_holds (seen g old.connection).now (seen g new.connection).now
          ((over.sees whole early).shows did.2).holds did.0 in
          keeps_committed g settled new.connection.connection (with_accepted t q)
          (record { is_open = did.3; holds = holds; committed = did.1 });
    };
  }

-- ---- after a refusal, or a reply that is given again

pub answers_refusal : {S : Type 0} (g : store.Ghosts S) (desk : Desk S g) (t : Tables) (q : Request) (view : View)
    (refusal : Refusal) → IsOver g desk t → IsNew t q → IsViewOver t q view
    → judge_view view q ≡ Some refusal → IsAnsweredOver g t q (Refused refusal) desk
answers_refusal g desk t q view refusal over none seen_so refused = record {
  found = None;
  kept = none;
  answer_is = ap (λ (j : Option Refusal). answer_by (verdict_by j) (reply_over t q))
      (sym refused ∙ judged_over t q view seen_so);
  over = over;
}

over_again : {S : Type 0} (g : store.Ghosts S) (desk : Desk S g) (t : Tables) (q : Request) (before : KeptReply)
    (new : Reply) (b : Bool) → IsOver g desk t
    → IsOver g desk (tables_after t q (answer_by (if b then Repeats before.reply else Refuses RequestReused) new))
over_again g desk t q before new b over = grind arith

pub answers_again : {S : Type 0} (g : store.Ghosts S) (desk : Desk S g) (t : Tables) (q : Request)
    (before : KeptReply) (given : Answer) → IsOver g desk t → HasRequest q.caller q.number t (Some before)
    → given ≡ answer_by (repeated before q.command) (reply_over t q) → IsAnsweredOver g t q given desk
answers_again g desk t q before given over there is = record {
  found = Some before;
  kept = there;
  answer_is = is;
  over = subst (λ (a : Answer). IsOver g desk (tables_after t q a)) (sym is)
      (over_again g desk t q before (reply_over t q) (is_same_command before.command q.command) over);
}

-- ---- after an end

module _ {S : Type 0} (g : store.Ghosts S) (t : Tables) (q : Request) where
  -- an end before anything was changed
  pub applies_ended : (old new : Desk S g) (r : Result Answer End) (end : End) → r ≡ Err end → IsWhole old
      → ChangesNothing g old (left_at end new) → AppliesOver g t q old (left_by r new) r
  applies_ended old new r end is whole nothing =
      subst (λ (r : Result Answer End). AppliesOver g t q old (left_by r new) r) (sym is) (record {
        answers = λ over request clean. tt;
        still = over_still g old (left_at end new) nothing t;
        leaves = λ over request clean store.
            inl (leaves_nothing_else g old (left_at end new) nothing t over.sees whole clean);
      })

  -- the database refused the change
  pub applies_broken : (old new : Desk S g) (r : Result Answer End) (end : End) → r ≡ Err end → end ≡ Store
      → (IsOver g old t → IsOver g (left_at Store new) t)
      → (IsOver g old t → IsRequest q → IsClean g new → LeavesWithRequest g t q new)
      → AppliesOver g t q old (left_by r new) r
  applies_broken old new r end is store still leaves =
      subst (λ (r : Result Answer End). AppliesOver g t q old (left_by r new) r) (sym (is ∙ ap Err store)) (record {
        answers = λ over request clean. tt;
        still = still;
        leaves = λ over request clean same. leaves over request clean;
      })

  -- a broken desk is over what it was over, as long as it counts as before
  pub over_broken : (old new : Desk S g) → KeepsCounts old new → IsOver g old t → IsOver g (left_at Store new) t
  over_broken old new counts over = record {
    latest_is = counts.latest ∙ over.latest_is;
    keys_are = counts.keys ∙ over.keys_are;
    counted = over.counted ∙ sym counts.keys;
    right = subst (λ (latest : ℕ). AreRightAt latest t) (sym counts.latest) over.right;
    sees = λ whole clean. absurd cc;
  }

-- ---- what is so unless something was changed

pub unless_accepted : (given : Answer) (P : Type 0) → P → UnlessAccepted given P
unless_accepted given P holds = grind arith

pub unless_so : (given : Answer) (P R : Type 0) → (P → R) → UnlessAccepted given P → UnlessAccepted given R
unless_so given P R so holds = grind arith

pub unchanged_so : (r : Result Answer End) (P R : Type 0) → (P → R) → UnlessChanged r P → UnlessChanged r R
unchanged_so (Ok given) P R so holds = unless_so given P R so holds
unchanged_so (Err end) P R so holds = λ other. so (holds other)

-- the desk that is left is changed by its mark alone, and by that at the end 31
pub unchanged_left : {S : Type 0} (g : store.Ghosts S) (old mid : Desk S g) (r : Result Answer End)
    → UnlessChanged r (ChangesNothing g old mid) → UnlessChanged r (ChangesNothing g old (left_by r mid))
unchanged_left g old mid (Ok given) holds = holds
unchanged_left g old mid (Err Store) holds = λ other. absurd (other refl)
unchanged_left g old mid (Err end) holds = holds

-- ---- What applying a request does over the tables of a history it does to a desk that stands for the history.

-- ---- the tables of a history

-- an element of a list of one at most is all of it
alone : {X : Type 0} (xs : List X) (x : X) → Has xs x → length xs ≤ 1 → xs ≡ x ∷ []
alone [] x there one = absurd there
alone (y ∷ []) x (inl same) one = ap (λ z. z ∷ []) (sym same)
alone (y ∷ []) x (inr none) one = absurd none
alone (y ∷ z ∷ more) x there one = absurd (omega (arith, one))

-- what is found under a caller and a number is what the history keeps there
kept_is : (h : List Request) → IsLawful h → (caller : List ℕ) (number : ℕ) (found : Option KeptReply)
    → HasRequest caller number (tables h) found → kept_under caller number (kept h) ≡ cons_option found []
kept_is h lawful caller number None none = none
kept_is h lawful caller number (Some k) there =
    alone (kept_under caller number (kept h)) k there (one_kept h lawful caller number)

module _ (h : List Request) (q : Request) where
  judged_is : judgement_over (tables h) q ≡ judgement h q
  judged_is =
      (λ i. judge (latest h) (keys_counted h i) (λ (kind : KeyType). period_is h kind i) (needed_is h q i) q)
      ∙ judged_so h q

  verdict_is : IsLawful h → (found : Option KeptReply) → HasRequest q.caller q.number (tables h) found
      → verdict_over (tables h) q found ≡ verdict h q
  verdict_is lawful found there i =
      unless_kept (sym (kept_is h lawful q.caller q.number found there) i) q.command (verdict_by (judged_is i))

  -- an acceptance makes the tables of the history with the request
  module _ (lawful : IsLawful h) (accepted : verdict h q ≡ Accepts) where
    changed_is : change_over (tables h) q ≡ change_by_request (period h) (named_key h q.command) q
    changed_is =
        (λ i. change_by_request (λ (kind : KeyType). period_is h kind i) (needed_is h q i) q)
        ∙ changed_so h q (judged h q accepted)

    replied_is : reply_over (tables h) q ≡ reply h q
    replied_is =
        (agrees_as h q (length (tables h).keys) (change_over (tables h) q) (keys_counted h) changed_is
        (judged h q accepted)).0

    accepted_is : with_accepted (tables h) q ≡ tables (h ++ q ∷ [])
    accepted_is =
        (λ i. with_request (keys_counted h i) (changed_is i) (kept_with q (replied_is i)) (tables h))
        ∙ sym (tables_grow h q (record { lawful = lawful; accepted = accepted }))

  -- the answer over the tables is the history's, and after it they are those of the history after the request
  module _ (lawful : IsLawful h) where
    by_verdict : (v : Verdict) → verdict h q ≡ v
        → (answer_by v (reply_over (tables h) q) ≡ answer_by v (reply h q))
        × (tables_after (tables h) q (answer_by v (reply_over (tables h) q))
        ≡ tables (cond (is_accepted v) (h ++ q ∷ []) h))
    by_verdict Accepts is = (ap Accepted (replied_is lawful is), accepted_is lawful is)
    by_verdict (Repeats first) is = (refl, refl)
    by_verdict (Refuses refusal) is = (refl, refl)

    answered_is : (given : Answer) (found : Option KeptReply) → HasRequest q.caller q.number (tables h) found
        → given ≡ answer_by (verdict_over (tables h) q found) (reply_over (tables h) q)
        → (given ≡ answer h q) × (tables_after (tables h) q given ≡ tables (history_after h (Some q)))
    answered_is given found there is =
        let same = is ∙ ap (λ (v : Verdict). answer_by v (reply_over (tables h) q)) (verdict_is lawful found there) in
        let it = by_verdict (verdict h q) refl in
        (same ∙ it.0, ap (tables_after (tables h) q) same ∙ it.1)

-- ---- the desk of a history

module _ {S : Type 0} (g : Ghosts S) (h : List Request) (q : Request) (old new : Desk S g) where
  leaves_either : IsLawful h → LeavesWithRequest g (tables h) q new → LeavesEither g h (history_after h (Some q)) new
  leaves_either lawful (inl same) = λ trees may. let left = same trees may in (left.0, inl left.1, left.2)
  leaves_either lawful (inr (accepts, leaves)) =
      subst (λ (u : Tables). LeavesEitherOf (tables h) u (seen g new.connection))
      (answered_is h q lawful _ None accepts.new
      (ap (λ (j : Option Refusal). answer_by (verdict_by j) (reply_over (tables h) q)) (sym accepts.judged))).1 leaves

  pub history_follows : (result : Result Answer End) → AppliesOver g (tables h) q old new result
      → AppliesTo g h q old new result
  history_follows result applies = record {
    answers = λ stands request clean.
        IfOk-weaker result _ _ (λ given is.
        let it = answered_is h q stands.lawful given is.found is.kept is.answer_is in
        record {
          answer_is = it.0;
          stands = record {
            lawful = lawful_after h q request stands.lawful;
            over = subst (IsOver g new) it.1 is.over;
          };
        }) (applies.answers stands.over request clean);
    still = λ stands.
        on_err_weaker result (λ over. record { lawful = stands.lawful; over = over }) (applies.still stands.over);
    leaves = λ stands request clean.
        IfErr-weaker result _ _ (λ end left is. leaves_either stands.lawful (left is))
        (applies.leaves stands.over request clean);
  }
