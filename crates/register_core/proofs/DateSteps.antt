-- What a key's state says of its dates, and which states a command is for.
use Rattle.std.proofs.Common.{◌≡◌, ℕ, true, false, [], ◌∷◌, ◌⊎◌, arith, Bool, ◌&&◌, cond, Option, None, Some, refl, ◌∙◌}
use Rattle.std.proofs.Common.{◌≤◌, not, ◌||◌, IsTrue, List, ◌++◌, sym, ap, subst, inl, inr}
use Rattle.std.proofs.lemmas.Bool.{le-leb, leb-true, leb-false, and_parts, and_from, cases_lt}
use Rattle.std.proofs.lemmas.Bool.Decides.{nat_tests}
use Rattle.std.specs.{Prelude.is_some, Prelude.is_none, Option.option_map}
use Rattle.lifecycle_core.specs.declared.state.State.TheVariants.{PreActive, Active, Deactivated, Compromised}
use Rattle.lifecycle_core.specs.declared.state.State.TheVariants.{Destroyed, DestroyedCompromised}
use Rattle.lifecycle_core.specs.{State.state_at, State.is_reached_at, declared.state.State.State}
use Rattle.lifecycle_core.specs.{declared.dates.Dates.Dates, Transition.IsPath, Transition.HasPath}
use Rattle.register_requests.specs.CommandRule.{is_one_of, before_compromise, rule}
use Rattle.register_requests.specs.declared.request.Command.TheVariants.{Register as Registers, Activate, SetDates}
use Rattle.register_requests.specs.declared.request.Command.TheVariants.{Revoke, Destroy}
use Rattle.register_requests.specs.{declared.request.Command.Command, declared.request.Edit.Edit, Subject.named}
use Rattle.period_core.specs.Fitting.{is_not_after, originator_limit, recipient_limit, Fits, with_default_protect_stop}
use Rattle.period_core.specs.Fitting.{with_default_deactivation, cut_to_limit, dates_with_defaults}
use Rattle.period_core.specs.Fitting.{defaulted_dates_cut_to_limits, fill_refusals, first_that_holds, order_refusal}
use Rattle.period_core.specs.Fitting.{range_refusal, too_long_refusal, trim_refusals}
use Rattle.period_core.specs.{declared.date_fitting.DateRefusal.TheVariants.DateOrder, Period.Period}
use Rattle.period_core.specs.{declared.date_fitting.DateRefusal.DateRefusal, declared.key_type.KeyType.KeyType}
use Rattle.register_core.specs.Verdict.{refusal_of_dates, keeps_date, freeze_refusal, dates_refusal}
use Rattle.register_core.specs.Within.{edited_dates, compromised, deactivated}
use Rattle.register_core.specs.{declared.view.Held.Held, Effect.dates_after, Effect.sets_dates, Laws.MovesOnly}
use Rattle.register_core.proofs.{Filling.past, CustodyLeads.not_refused}
use Rattle.moment_core.specs.Calendar.{months_after}
use Rattle.moment_core.proofs.Forward.{months_forward}
use Rattle.lifecycle_core.proofs.Transitions.{is_transition, listed}

-- what the dates are like in a state
abbrev pub Shows : State → Dates → ℕ → Type 0
Shows PreActive d t =
    (is_some d.destroy ≡ false) × (is_some d.compromise ≡ false) × (is_reached_at d.activation t ≡ false)
Shows Active d t =
    (is_some d.destroy ≡ false) × (is_some d.compromise ≡ false) × (is_reached_at d.activation t ≡ true)
    × (is_reached_at d.deactivation t ≡ false)
Shows Deactivated d t =
    (is_some d.destroy ≡ false) × (is_some d.compromise ≡ false) × (is_reached_at d.activation t ≡ true)
    × (is_reached_at d.deactivation t ≡ true)
Shows Compromised d t = (is_some d.destroy ≡ false) × (is_some d.compromise ≡ true)
Shows Destroyed d t = (is_some d.destroy ≡ true) × (is_some d.compromise ≡ false)
Shows DestroyedCompromised d t = (is_some d.destroy ≡ true) × (is_some d.compromise ≡ true)

pub shows : (d : Dates) (t : ℕ) → Shows (state_at d t) d t
shows d t = grind arith

-- ---- the lists of states of the commands

pub is_pre_active : (s : State) → is_one_of (PreActive ∷ []) s ≡ true → s ≡ PreActive
is_pre_active s e = grind arith

pub is_active : (s : State) → is_one_of (Active ∷ []) s ≡ true → s ≡ Active
is_active s e = grind arith

pub is_early : (s : State) → is_one_of (PreActive ∷ Active ∷ []) s ≡ true → (s ≡ PreActive) ⊎ (s ≡ Active)
is_early s e = grind arith

pub not_destroyed : (s : State) (d : Dates) (t : ℕ) → Shows s d t
    → is_one_of (PreActive ∷ Deactivated ∷ Compromised ∷ []) s ≡ true → is_some d.destroy ≡ false
not_destroyed s d t h e = grind arith

-- ---- What Fill and Trim make of dates: which they keep, and that dates which they do not refuse fit.

-- ---- what they keep

kept : {X : Type 0} (f : Dates → X) (b : Bool) (x y : Dates) → f x ≡ f y → f (cond b x y) ≡ f y
kept f b x y same = grind arith

-- what looks at neither Protect Stop nor Deactivation
record IsApart {X : Type 0} (f : Dates → X) : Type 0 where
  pub stop : (d : Dates) (date : Option ℕ) → f (record d { protect_stop = date }) ≡ f d
  pub end : (d : Dates) (date : Option ℕ) → f (record d { deactivation = date }) ≡ f d

stop_kept : {X : Type 0} (f : Dates → X) → IsApart f → (period : Period) (d : Dates)
    → f (with_default_protect_stop period d) ≡ f d
stop_kept f apart period d = kept f (is_some d.activation && is_none d.protect_stop) _ d (apart.stop d _)

end_kept : {X : Type 0} (f : Dates → X) → IsApart f → (period : Period) (d : Dates)
    → f (with_default_deactivation period d) ≡ f d
end_kept f apart period d = kept f (is_some d.activation && is_none d.deactivation) _ d (apart.end d _)

filled_kept : {X : Type 0} (f : Dates → X) → IsApart f → (period : Period) (d : Dates)
    → f (dates_with_defaults period d) ≡ f d
filled_kept f apart period d = end_kept f apart period (with_default_protect_stop period d) ∙ stop_kept f apart period d

abbrev stopped : Period → Dates → Dates
stopped period d =
    let first = with_default_protect_stop period d in
    record first { protect_stop = cut_to_limit first.protect_stop (originator_limit period first) }

-- the dates that no date set by hand moves
pub record KeepsOthers (old new : Dates) : Type 0 where
  pub activation : new.activation ≡ old.activation
  pub initial : new.initial ≡ old.initial
  pub destroy : new.destroy ≡ old.destroy
  pub compromise : new.compromise ≡ old.compromise
  pub compromise_occurrence : new.compromise_occurrence ≡ old.compromise_occurrence

-- what keeps all that looks at neither Protect Stop nor Deactivation keeps these
keeps_by : (old new : Dates) → ((X : Type 0) (f : Dates → X) → IsApart f → f new ≡ f old) → KeepsOthers old new
keeps_by old new kept_by = record {
  activation = kept_by (Option ℕ) (λ x. x.activation) (record { stop = λ x date. refl; end = λ x date. refl });
  initial = kept_by ℕ (λ x. x.initial) (record { stop = λ x date. refl; end = λ x date. refl });
  destroy = kept_by (Option ℕ) (λ x. x.destroy) (record { stop = λ x date. refl; end = λ x date. refl });
  compromise = kept_by (Option ℕ) (λ x. x.compromise) (record { stop = λ x date. refl; end = λ x date. refl });
  compromise_occurrence = kept_by (Option ℕ) (λ x. x.compromise_occurrence)
      (record { stop = λ x date. refl; end = λ x date. refl });
}

pub filled_keeps : (period : Period) (d : Dates) → KeepsOthers d (dates_with_defaults period d)
filled_keeps period d = keeps_by d (dates_with_defaults period d) (λ X f apart. filled_kept f apart period d)

pub trimmed_keeps : (period : Period) (d : Dates) → KeepsOthers d (defaulted_dates_cut_to_limits period d)
trimmed_keeps period d = grind arith

-- Trim's Protect Stop
trimmed_stop_is : (period : Period) (d : Dates)
    → (defaulted_dates_cut_to_limits period d).protect_stop ≡ (stopped period d).protect_stop
trimmed_stop_is period d = grind arith

pub trimmed_stop : (period : Period) (d : Dates) (x : ℕ) → d.protect_stop ≡ Some x
    → (defaulted_dates_cut_to_limits period d).protect_stop ≡ cut_to_limit (Some x) (originator_limit period d)
trimmed_stop period d x set = grind arith

-- ---- that they fit

-- where Activation is set, so are the others
pub record IsWhole (d : Dates) : Type 0 where
  pub protect_stop : is_some d.activation ≡ true → is_some d.protect_stop ≡ true
  pub deactivation : is_some d.activation ≡ true → is_some d.deactivation ≡ true

passes : (refusal : Option DateRefusal) → option_map refusal_of_dates refusal ≡ None → refusal ≡ None
passes refusal e = grind arith

ordered : (b : Bool) → ◌≡◌ {A = Option DateRefusal} (cond b None (Some DateOrder)) None → b ≡ true
ordered b e = grind arith

limited : (date limit : Option ℕ) → too_long_refusal date limit ≡ None → is_not_after date limit ≡ true
limited date limit e = grind arith

whole : (d : Dates) → range_refusal d ≡ None → IsWhole d
whole d e = grind arith

-- dates that none of these refuses fit the period, and all are set
abbrev FitWhole : Period → Dates → List (Option DateRefusal) → Type 0
FitWhole period made refusals =
    option_map refusal_of_dates (first_that_holds refusals) ≡ None → Fits period made × IsWhole made

pub filled_fits : (period : Period) (d : Dates)
    → FitWhole period (dates_with_defaults period d) (fill_refusals period d)
filled_fits period d e =
    let full = dates_with_defaults period d in
    let originator = too_long_refusal full.protect_stop (originator_limit period full) in
    let recipient = too_long_refusal full.deactivation (recipient_limit period full) in
    let order = past (order_refusal full) (originator ∷ recipient ∷ range_refusal full ∷ []) (passes _ e) in
    let first = past originator (recipient ∷ range_refusal full ∷ []) order.later in
    grind (arith, past, ordered, limited, whole)

cut_within : (date limit : Option ℕ) → is_not_after (cut_to_limit date limit) limit ≡ true
cut_within date limit = grind arith

pub trimmed_fits : (period : Period) (d : Dates)
    → FitWhole period (defaulted_dates_cut_to_limits period d) (trim_refusals period d)
trimmed_fits period d e =
    let full = defaulted_dates_cut_to_limits period d in
    let first = with_default_protect_stop period d in
    let second = with_default_deactivation period (stopped period d) in
    let ordering = past (order_refusal full) (range_refusal full ∷ []) (passes _ e) in
    let range = past (range_refusal full) [] ordering.later in
    let limit : originator_limit period full ≡ originator_limit period first =
    grind arith in grind (arith, ordered, trimmed_stop_is, cut_within, whole)

-- ---- What an accepted command makes of the dates of its key: they stay sound, and move only where they may.

-- ---- dates that stay

pub nothing_moves : (d : Dates) (t : ℕ) → MovesOnly d t d
nothing_moves d t = grind arith

reached_stop : (stop : Option ℕ) (t : ℕ) → IsTrue (is_reached_at stop t) → (x : ℕ) × (stop ≡ Some x) × (x ≤ t)
reached_stop stop t reached = grind arith

no_cut : (x t n : ℕ) (limit : Option ℕ) → limit ≡ months_after t n → x ≤ t → cut_to_limit (Some x) limit ≡ Some x
no_cut x t n limit is le = grind (arith, months_forward)

-- ---- what holds of the dates of each key

pub record IsSound (period : Period) (d : Dates) : Type 0 where
  pub fits : Fits period d
  pub whole : IsWhole d
  pub occurs : is_some d.compromise ≡ is_some d.compromise_occurrence

pub sound_by : (period : Period) (d new : Dates) → Fits period new × IsWhole new → KeepsOthers d new
    → is_some d.compromise ≡ is_some d.compromise_occurrence → IsSound period new
sound_by period d new fits keeps occurs = grind arith

-- ---- Activate

activated_moves : (period : Period) (d : Dates) (t : ℕ) → state_at d t ≡ PreActive
    → MovesOnly d t (defaulted_dates_cut_to_limits period (record d { activation = Some t }))
activated_moves period d t early = grind (arith, reached_stop, trimmed_stop, no_cut)

-- ---- SetDates

edited_moves : (period : Period) (d : Dates) (t : ℕ) (activation protect_stop deactivation : Edit)
    → (state_at d t ≡ PreActive) ⊎ (state_at d t ≡ Active)
    → (not (keeps_date activation) && not (is_one_of (PreActive ∷ []) (state_at d t)))
    || (not (keeps_date protect_stop) && is_reached_at d.protect_stop t) ≡ false
    → MovesOnly d t (dates_with_defaults period (edited_dates activation protect_stop deactivation d))
edited_moves period d t activation protect_stop deactivation early free =
    let given : Dates = edited_dates activation protect_stop deactivation d in
    let keeps = filled_keeps period given in
    record {
      activation = grind arith;
      deactivation = grind arith;
      protect_stop = grind arith;
      initial = keeps.initial;
      destroy = grind arith;
      compromise = grind arith;
      compromise_occurrence = grind arith;
    }

-- ---- Revoke

deactivated_moves : (d : Dates) (t : ℕ) → state_at d t ≡ Active → MovesOnly d t (deactivated t d)
deactivated_moves d t active = grind arith

deactivated_sound : (period : Period) (d : Dates) (t : ℕ) → IsSound period d → Shows Active d t
    → IsSound period (deactivated t d)
deactivated_sound period d t sound active =
    grind (arith, and_from, leb-true, leb-false, le-leb, cases_lt, months_forward, and_parts)

-- ---- each command

pub record Steps (period : Period) (d : Dates) (t : ℕ) (new : Dates) : Type 0 where
  pub sound : IsSound period new
  pub moves : MovesOnly d t new

same_step : (period : Period) (d : Dates) (t : ℕ) → IsSound period d → Steps period d t d
same_step period d t sound = record { sound = sound; moves = nothing_moves d t }

revoked : (period : Period) (d : Dates) (t : ℕ) (b : Bool) (occurrence : Option ℕ) → IsSound period d
    → is_one_of (cond b before_compromise (Active ∷ [])) (state_at d t) ≡ true
    → Steps period d t (cond b (compromised t occurrence d) (deactivated t d))
revoked period d t true occurrence sound fits_state = grind arith
revoked period d t false occurrence sound fits_state = grind (arith, nat_tests, deactivated_sound, deactivated_moves)

-- the dates are sound by the period of the type where the command gives them, and else by the one that they were
-- sound by
pub step : (ps : KeyType → Period) (before : Period) (key : Held) (t k : ℕ) (c : Command) → named c ≡ Some k
    → IsSound before key.row.dates
    → is_one_of (rule c).states (state_at key.row.dates t) ≡ true → freeze_refusal (Some key) t c ≡ None
    → dates_refusal ps (Some key) t c ≡ None
    → Steps (cond (sets_dates c) (ps key.kind) before) key.row.dates t (dates_after (ps key.kind) key.row.dates t c)
step ps before key t k (Registers new) names sound fits_state free
    fit = cc
step ps before key t k (Activate n) names sound fits_state free fit =
    let given : Dates = record key.row.dates { activation = Some t } in
    record {
      sound = sound_by _ given _ (trimmed_fits _ given fit) (trimmed_keeps _ given) sound.occurs;
      moves = activated_moves _ _ t (is_pre_active _ fits_state);
    }
step ps before key t k (SetDates n activation protect_stop deactivation) names sound fits_state free fit =
    let given : Dates = edited_dates activation protect_stop deactivation key.row.dates in
    record {
      sound = sound_by _ given _ (filled_fits _ given fit) (filled_keeps _ given) sound.occurs;
      moves = grind (arith, edited_moves, is_early, not_refused);
    }
step ps before key t k (Revoke n reason occurrence) names sound fits_state free fit = search (revoked)
step ps before key t k (Destroy n) names sound fits_state free fit = grind arith
step ps before key t k c names sound fits_state free fit = same_step before key.row.dates t sound

-- ---- The paths along which an accepted command takes its key.

-- ---- paths

joined_paths : (from to : Option State) (path : List (Option State × State)) (mid : Option State)
    (more : List (Option State × State)) → IsPath from path mid → IsPath mid more to → IsPath from (path ++ more) to
joined_paths from to [] mid more first second = subst (λ (s : Option State). IsPath s more to) (sym first) second
joined_paths from to (step ∷ path) mid more first second =
    (first.0, first.1, joined_paths (Some step.1) to path mid more first.2 second)

pub then : (from mid to : Option State) → HasPath from mid → HasPath mid to → HasPath from to
then from mid to first second = (first.0 ++ second.0, joined_paths from to first.0 mid second.0 first.1 second.1)

stays : (state : Option State) → HasPath state state
stays state = ([], refl)

one_step : (from : Option State) (to : State) → is_transition from to ≡ true → HasPath from (Some to)
one_step from to passes = ((from, to) ∷ [], (refl, listed from to passes, refl))

-- ---- a key that is neither destroyed nor compromised

abbrev opened : Bool → Bool → State
opened active ended = cond (not active) PreActive (cond ended Deactivated Active)

from_pre_active : (active ended : Bool) → HasPath (Some PreActive) (Some (opened active ended))
from_pre_active false ended = stays _
from_pre_active true false = one_step (Some PreActive) Active refl
from_pre_active true true =
    then _ (Some Active) _ (one_step (Some PreActive) Active refl) (one_step (Some Active) Deactivated refl)

from_active : (ended : Bool) → HasPath (Some Active) (Some (opened true ended))
from_active false = stays _
from_active true = one_step (Some Active) Deactivated refl

leads_open : (from : State) (d : Dates) (t : ℕ) → is_some d.destroy ≡ false → is_some d.compromise ≡ false
    → HasPath (Some from) (Some (opened (is_reached_at d.activation t) (is_reached_at d.deactivation t)))
    → HasPath (Some from) (Some (state_at d t))
leads_open from d t no_destroy no_compromise path = grind arith

-- a key that is made
pub path_made : (d : Dates) (t : ℕ) → is_some d.destroy ≡ false → is_some d.compromise ≡ false
    → HasPath None (Some (state_at d t))
path_made d t no_destroy no_compromise =
    then None (Some PreActive) _ (one_step None PreActive refl)
    (grind (arith, leads_open, from_pre_active))

-- ---- each command

abbrev Goes : Dates → ℕ → Dates → Type 0
Goes d t new = HasPath (Some (state_at d t)) (Some (state_at new t))

abbrev From : State → ℕ → Dates → Type 0
From s t new = HasPath (Some s) (Some (state_at new t))

as_from : (d new : Dates) (t : ℕ) (s : State) → state_at d t ≡ s → From s t new → Goes d t new
as_from d new t s is path = subst (λ (x : State). From x t new) (sym is) path

its_shows : (d : Dates) (t : ℕ) (s : State) → state_at d t ≡ s → Shows s d t
its_shows d t s is = subst (λ (x : State). Shows x d t) is (shows d t)

still_unset : (old new : Option ℕ) → new ≡ old → is_some old ≡ false → is_some new ≡ false
still_unset old new same none = ap is_some same ∙ none

activated_path : (period : Period) (d : Dates) (t : ℕ) → state_at d t ≡ PreActive
    → Goes d t (defaulted_dates_cut_to_limits period (record d { activation = Some t }))
activated_path period d t early =
    let new : Dates = defaulted_dates_cut_to_limits period (record d { activation = Some t }) in
    let keeps = trimmed_keeps period (record d { activation = Some t }) in
    let old = its_shows d t PreActive early in
    as_from d new t PreActive early
    (leads_open PreActive new t (still_unset _ _ keeps.destroy old.0) (still_unset _ _ keeps.compromise old.1)
    (from_pre_active _ _))

edited_path : (period : Period) (d : Dates) (t : ℕ) (activation protect_stop deactivation : Edit)
    → (state_at d t ≡ PreActive) ⊎ (state_at d t ≡ Active)
    → MovesOnly d t (dates_with_defaults period (edited_dates activation protect_stop deactivation d))
    → Goes d t (dates_with_defaults period (edited_dates activation protect_stop deactivation d))
edited_path period d t activation protect_stop deactivation early moves =
    let new : Dates = dates_with_defaults period (edited_dates activation protect_stop deactivation d) in
    let keeps = filled_keeps period (edited_dates activation protect_stop deactivation d) in
    elim early [
      | inl pre ↦
          let old = its_shows d t PreActive pre in
          as_from d new t PreActive pre
          (grind (arith, leads_open, still_unset, from_pre_active))
      | inr active ↦
          let old = its_shows d t Active active in
          let kept : new.activation
          ≡ d.activation = grind arith in
          let reached : is_reached_at new.activation t ≡ true = ap (λ (x : Option ℕ). is_reached_at x t) kept ∙ old.2 in
          as_from d new t Active active
          (leads_open Active new t (still_unset _ _ keeps.destroy old.0) (still_unset _ _ keeps.compromise old.1)
          (subst (λ (b : Bool). HasPath (Some Active) (Some (opened b (is_reached_at new.deactivation t))))
          (sym reached) (from_active (is_reached_at new.deactivation t))))
    ]

deactivated_path : (d : Dates) (t : ℕ) → state_at d t ≡ Active → Goes d t (deactivated t d)
deactivated_path d t active = grind (arith, one_step)

compromised_by : (s : State) (d : Dates) (t : ℕ) (occurrence : Option ℕ) → Shows s d t
    → is_one_of (PreActive ∷ Active ∷ Deactivated ∷ Destroyed ∷ []) s ≡ true → From s t (compromised t occurrence d)
compromised_by s d t occurrence h e = grind (arith, one_step)

destroyed_by : (s : State) (d : Dates) (t : ℕ) → Shows s d t
    → is_one_of (PreActive ∷ Deactivated ∷ Compromised ∷ []) s ≡ true → From s t (record d { destroy = Some t })
destroyed_by s d t h e = grind (arith, one_step)

revoked_path : (d : Dates) (t : ℕ) (b : Bool) (occurrence : Option ℕ)
    → is_one_of (cond b before_compromise (Active ∷ [])) (state_at d t) ≡ true
    → Goes d t (cond b (compromised t occurrence d) (deactivated t d))
revoked_path d t true occurrence fits_state = compromised_by (state_at d t) d t occurrence (shows d t) fits_state
revoked_path d t false occurrence fits_state = deactivated_path d t (is_active (state_at d t) fits_state)

pub path_named : (period : Period) (d : Dates) (t k : ℕ) (c : Command) → named c ≡ Some k
    → is_one_of (rule c).states (state_at d t) ≡ true → MovesOnly d t (dates_after period d t c)
    → Goes d t (dates_after period d t c)
path_named period d t k (Registers new) names fits_state moves
    = cc
path_named period d t k (Activate n) names fits_state moves = grind (arith, activated_path)
path_named period d t k (SetDates n activation protect_stop deactivation) names fits_state moves =
    grind (arith, edited_path, is_early)
path_named period d t k (Revoke n reason occurrence) names fits_state moves = search (revoked_path)
path_named period d t k (Destroy n) names fits_state moves = destroyed_by (state_at d t) d t (shows d t) fits_state
path_named period d t k c names fits_state moves = stays _
