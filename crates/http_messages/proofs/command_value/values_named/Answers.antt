use Rattle.std.proofs.Common.{◌≡◌, ◌<◌, ◌+◌, false, true, ℕ, List, [], Option, None, Some, map, length, take}
use Rattle.std.proofs.Common.{get_or, replicate, refl, sym, ap, ◌∙◌, arith, length-set}
use Rattle.std.proofs.lemmas.List.{get_or-map, length-map, map-set, take_more_set}
use Rattle.std.specs.{Borrow.Bor, Option.MatchOption, Option.is_some}
use Rattle.serde_json.specs.View.{view, members_view}
use Rattle.http_messages.specs.declared.command_value.TheConstants.{MAX_MEMBERS}
use Rattle.http_messages.proofs.NamedMembers.{Given-more, Left-more, Given-end, none_next, none_more}
use Rattle.http_messages.proofs.command_value.values_named.Goals as goal

-- what a look for one more member tells
at_end : {A : Type 0} (o : Option A) (P : Type 0) (Q : A → Type 0) → false ≡ is_some o → MatchOption o P Q → P
at_end None P Q none p = p
at_end (Some x) P Q none q = absurd (cc)

at_one : {A : Type 0} (o : Option A) (P : Type 0) (Q : A → Type 0) → true ≡ is_some o → MatchOption o P Q
    → (x : A) × Q x
at_one None P Q some p = absurd (cc)
at_one (Some x) P Q some q = (x, q)

abbrev names_of : List (Bor (List ℕ)) → List (List ℕ)
names_of names = map (λ name. name.now) names

-- the name at a place, among the names
name_at : (names : List (Bor (List ℕ))) (at : ℕ) (d : Bor (List ℕ)) → at < length names
    → (at < length (names_of names)) × ((get_or names at d).now ≡ get_or (names_of names) at (get_or names at d).now)
name_at names at d within = (
  omega (arith, length-map names (λ name. name.now)),
  sym (get_or-map (λ name. name.now) names at d (get_or names at d).now within),
)

pub loop-at-init : goal.loop-at-init
loop-at-init c =
    let (within, name_is) = name_at c.args.names.now 0 _ c.requires.some in
    let found = sym (ap members_view c.iter-rest.ensures.rest) ∙ c.in_ok-first.ensures.found in
    let values = replicate MAX_MEMBERS (view c.in_ok-first.first.now) in
    record {
      given = Given-more _ _ _ 0 _ within name_is _ _ found [] values refl (λ tail long is. is);
      left = Left-more _ _ _ 0 _ within name_is _ _ found (λ values long is. is);
      most = omega arith;
      room = refl;
    }

pub loop-at-preserved : goal.loop-at-preserved
loop-at-preserved c =
    let at = c.loop-at.at in
    let held = c.loop-at.invariant in
    let value = c.in_ok-values.field-0 in
    let found = c.in_ok-values.ensures.found in
    let (within, name_is) = name_at c.args.names.now at _ (omega arith) in
    let many = length-map c.loop-at.values (λ value. view value.now) in
    let stored = ap (take (at + 1)) (map-set (λ value. view value.now) c.loop-at.values at value)
    ∙ take_more_set (map (λ value. view value.now) c.loop-at.values) at (view value.now)
    (omega (arith, many, held.room, c.requires.few)) in
    record {
      given = Given-more _ _ _ at _ within name_is _ _ found _ _ stored held.given;
      left = Left-more _ _ _ at _ within name_is _ _ found held.left;
      most = omega arith;
      room = length-set c.loop-at.values at value ∙ held.room;
    }

pub returns-in_err-values-clause-none : goal.returns-in_err-values-clause-none
returns-in_err-values-clause-none c =
    let at = c.loop-at.at in
    let (within, name_is) = name_at c.args.names.now at _ (omega arith) in
    rw c.from_residual-in_err-values.ensures (λ values long.
    none_next _ _ _ at _ within name_is c.in_err-values.ensures.none c.loop-at.invariant.left values
    (long ∙ sym (length-map c.args.names.now (λ name. name.now))))

pub returns : goal.returns
returns c =
    let end = at_end c.next.result _ _ c.if-is_some.ensures c.next.ensures.steps in
    let many = length-map c.args.names.now (λ name. name.now) in
    record {
      found = Given-end _ _ _ _ c.loop-at.at (omega (arith, many)) (ap members_view end.0) c.loop-at.invariant.given;
      room = c.loop-at.invariant.room;
      none = tt;
    }

pub returns-then-is_some : goal.returns-then-is_some
returns-then-is_some c =
    let one = at_one c.next.result _ _ c.if-is_some.ensures c.next.ensures.steps in
    let many = length-map c.args.names.now (λ name. name.now) in
    record {
      found = tt;
      room = tt;
      none = λ values long. none_more _ _ _ c.loop-at.at (omega (arith, many)) c.loop-at.invariant.left
          (λ none. absurd (let is = ap members_view one.1 in cc)) values (long ∙ sym many);
    }
