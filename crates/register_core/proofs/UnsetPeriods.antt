-- Where the office set no period of a type, its keys' dates were all set by the type's own.
use Rattle.std.proofs.Common.{◌≡◌, ℕ, false, cond, List, [], ◌∷◌, ◌++◌, Option, None, Some, refl, sym, subst, ◌∙◌}
use Rattle.std.proofs.Common.{append_assoc, arith}
use Rattle.std.proofs.lemmas.List.Sums.{fold-append}
use Rattle.std.specs.Prelude.{fold}
use Rattle.period_core.specs.Fitting.{Fits, is_either_use_too_long}
use Rattle.period_core.specs.{declared.key_type.KeyType.KeyType, Period.Period, Period.periods}
use Rattle.lifecycle_core.specs.declared.dates.Dates.{Dates}
use Rattle.register_requests.specs.declared.request.Request.{Request}
use Rattle.register_core.specs.History.{Placed, dates, own_from, period, set_period, type}
use Rattle.register_core.specs.{Effect.period_after, Effect.sets_dates, Fold.IsLawful, Laws.HasKey}
use Rattle.register_core.proofs.{Histories.concerning, DateLaws.all_sound}

abbrev step : KeyType → Option Period → Request → Option Period
step kind before q = period_after kind before q.command

none_before : (kind : KeyType) (first : Option Period) (later : List Request) → fold (step kind) first later ≡ None
    → first ≡ None
none_before kind first [] e = e
none_before kind None (q ∷ later) e = refl
none_before kind (Some p) (q ∷ later) e = grind (arith, none_before kind (step kind (Some p) q) later e)

module _ (kind : KeyType) where
  abbrev dated : Period → Placed → Period
  dated before p = cond (sets_dates p.request.command) (period p.before kind) before

  own_there : (before later : List Request) → set_period (before ++ later) kind ≡ None
      → period before kind ≡ periods kind
  own_there before later none =
      cc (none_before kind (set_period before kind) later (sym (fold-append (step kind) None before later) ∙ none))

  dated_once : (before later : List Request) (q : Request) (k : ℕ) (start : Period) → start ≡ periods kind
      → set_period (before ++ later) kind ≡ None → fold dated start (concerning before q k) ≡ periods kind
  dated_once before later q k start own none = grind (arith, own_there before later none)

  dated_from : (later before : List Request) (k : ℕ) (start : Period) → start ≡ periods kind
      → set_period (before ++ later) kind ≡ None → fold dated start (own_from before later k) ≡ periods kind
  dated_from [] before k start own none = own
  dated_from (q ∷ later) before k start own none =
      fold-append dated start (concerning before q k) (own_from (before ++ q ∷ []) later k)
      ∙ dated_from later (before ++ q ∷ []) k _ (dated_once before (q ∷ later) q k start own none)
      (rw append_assoc none)

-- dates that fit are not long
fitting : (p : Period) (d : Dates) → Fits p d → is_either_use_too_long p d ≡ false
fitting p d fits = cc

-- the dates of a key were then all held to the type's own
pub unset_fit : (h : List Request) → IsLawful h → (k : ℕ) → HasKey h k → set_period h (type h k) ≡ None
    → Fits (periods (type h k)) (dates h k)
unset_fit h lawful k has nothing =
    subst (λ (p : Period). Fits p (dates h k)) (dated_from (type h k) h [] k (periods (type h k)) refl nothing)
    (all_sound h lawful k has).fits

-- where no period of its type was ever set, a key is not long
pub none_long : (h : List Request) → IsLawful h → (k : ℕ) → HasKey h k → set_period h (type h k) ≡ None
    → is_either_use_too_long (period h (type h k)) (dates h k) ≡ false
none_long h lawful k has nothing = grind (arith, fitting, unset_fit)
