use Rattle.std.proofs.Common.{◌++◌, ◌∷◌, [], Ok, inl, refl, ap, ◌∙◌, arith}
use Rattle.sqlite.specs.{State.State, State.HasCleanDisk}
use Rattle.sqlite.specs.State.{Survives}
use Rattle.sqlite.proofs.{Callers.given_begin, Callers.unchanged_then, StateLemmas.survives_then}
use Rattle.row_checks.proofs.RowByRow.{given_same, shown_from, ok_no_err}
use Rattle.row_checks.proofs.RowByRow.{database_no_other, refused_no_other, memory_no_other}
use Rattle.row_checks.proofs.reading.check_rows_left.Goals as goal

-- no call yet
survives_none : (a : State) → Survives a a (λ _. ⊥)
survives_none a = record {
  clean = omega arith;
  shield = λ is. is;
  counts = omega arith;
  limit = refl;
  closes = λ _ is_open. inl is_open;
  crash = λ _ _ may. inl may;
}

-- a call that commits nothing, after others
survives_more : (a b c : State) → Survives a b (λ _. ⊥) → Survives b c (λ _. ⊥) → Survives a c (λ _. ⊥)
survives_more a b c = survives_then a b c (λ _. ⊥) (λ _. ⊥) (λ _. ⊥) (λ _ _ none. none) (λ _ _ none. none)

clean_before : (old new : State) → Survives old new (λ _. ⊥) → HasCleanDisk new → HasCleanDisk old
clean_before old new survives clean = omega (arith, survives.clean)

pub rows-init : goal.rows-init
rows-init g c = record {
  same_reference = refl;
  mode = λ idle. idle;
  survives = survives_none _;
  same = λ _ begun. ([], begun, given_same _ _ _ _ [] begun);
  read = λ _ begun first. ([], begun, first, given_same _ _ _ _ [] begun);
}

pub rows-preserved : goal.rows-preserved
rows-preserved g c =
    let sql = c.args.sql.now in
    let held = c.rows.invariant in
    let moved = rw (c.in-Ok-Some.is, c.in-Ok-Some.field-0-is) at c.next.follows.holds-at-none in
    let taken = c.in-Ok-true.ensures.taken (ap Ok c.in-Ok-true.field-0-test) in
    record {
      same_reference = moved.same_reference ∙ held.same_reference;
      mode = λ idle. moved.mode (held.mode idle);
      survives = survives_more _ _ _ held.survives moved.survives;
      same = λ clean begun.
          let (given, has, same) = held.same (clean_before _ _ moved.survives clean) begun in
          (given ++ _ ∷ [], moved.ok clean sql [] given has, unchanged_then _ _ _ same (moved.same clean));
      read = λ clean begun first.
          let (given, has, so_far, same) = held.read (clean_before _ _ moved.survives clean) begun first in (
            given ++ _ ∷ [],
            moved.ok clean sql [] given has,
            taken _ given so_far,
            unchanged_then _ _ _ same (moved.same clean),
          );
    }

pub returns-in-Ok-None : goal.returns-in-Ok-None
returns-in-Ok-None g c =
    let held = c.rows.invariant in
    let moved = rw (c.in-Ok-None.is, c.in-Ok-None.field-0-is) at c.next.follows.holds-at-none in
    record {
      same_reference = moved.same_reference ∙ held.same_reference;
      mode = λ idle. moved.mode (held.mode idle);
      met = λ clean begun first.
          let (given, has, so_far, same) = held.read (clean_before _ _ moved.survives clean) begun first in
          let shown = shown_from c.args.sql.now [] _ _ _ given c.requires same (moved.ok clean c.args.sql.now [] given has) in
          record { rows = given; shown = shown.0; holds = so_far; same = shown.1 };
      refused = λ clean begun first is. absurd (ok_no_err is);
      memory = λ clean begun is. absurd (ok_no_err is);
      meant = λ is. ok_no_err is;
      survives = survives_more _ _ _ held.survives moved.survives;
    }

pub returns-in-Err : goal.returns-in-Err
returns-in-Err g c =
    let held = c.rows.invariant in
    let moved = rw (c.in-Err.is) at c.next.follows.holds-at-none in
    record {
      same_reference = moved.same_reference ∙ held.same_reference;
      mode = λ idle. moved.mode (held.mode idle);
      met = λ _ _ _. tt;
      refused = λ _ _ _ is. absurd (database_no_other.0 is);
      memory = λ _ _ is. absurd (database_no_other.1 is);
      meant = database_no_other.2;
      survives = survives_more _ _ _ held.survives moved.survives;
    }

pub returns-in-Ok-false : goal.returns-in-Ok-false
returns-in-Ok-false g c =
    let held = c.rows.invariant in
    let moved = rw (c.in-Ok-Some.is, c.in-Ok-Some.field-0-is) at c.next.follows.holds-at-none in
    record {
      same_reference = moved.same_reference ∙ held.same_reference;
      mode = λ idle. moved.mode (held.mode idle);
      met = λ _ _ _. tt;
      refused = λ clean begun first _.
          let (given, has, so_far, same) = held.read (clean_before _ _ moved.survives clean) begun first in record {
            rows = given ++ _ ∷ [];
            shown = given_begin _ _ _ _ _ (moved.ok clean c.args.sql.now [] given has);
            holds = c.in-Ok-false.ensures.refused (ap Ok c.in-Ok-false.field-0-test) _ given so_far;
            same = unchanged_then _ _ _ same (moved.same clean);
          };
      memory = λ _ _ is. absurd (refused_no_other.0 is);
      meant = refused_no_other.1;
      survives = survives_more _ _ _ held.survives moved.survives;
    }

pub returns-in-Err-take_row : goal.returns-in-Err-take_row
returns-in-Err-take_row g c =
    let held = c.rows.invariant in
    let moved = rw (c.in-Ok-Some.is, c.in-Ok-Some.field-0-is) at c.next.follows.holds-at-none in
    record {
      same_reference = moved.same_reference ∙ held.same_reference;
      mode = λ idle. moved.mode (held.mode idle);
      met = λ _ _ _. tt;
      refused = λ _ _ _ is. absurd (memory_no_other.0 is);
      memory = λ clean begun _.
          let (given, has, same) = held.same (clean_before _ _ moved.survives clean) begun in
          unchanged_then _ _ _ same (moved.same clean);
      meant = memory_no_other.1;
      survives = survives_more _ _ _ held.survives moved.survives;
    }

pub returns : goal.returns
returns g c =
    let held = c.rows.invariant in
    record {
      same_reference = held.same_reference;
      mode = held.mode;
      met = λ _ _ _. tt;
      refused = λ _ _ _ is. absurd (database_no_other.0 is);
      memory = λ _ _ is. absurd (database_no_other.1 is);
      meant = database_no_other.2;
      survives = held.survives;
    }
