-- What a run leaves of its desk.
use Rattle.std.proofs.Common.{◌≡◌, Bool, true, false, sym, ap, refl, ◌∙◌, ℕ, ◌+◌, List, [], ◌∷◌, take, Option, None}
use Rattle.std.proofs.Common.{Some, inl, inr, subst, arith}
use Rattle.std.proofs.lemmas.Option.{slice_get_within}
use Rattle.sqlite_trees.specs.declared.store.Store as store
use Rattle.register_desk.specs.declared.end.End.TheVariants.{Memory, Store, Broken, ReadFault, WriteFault, BadHeader}
use Rattle.register_desk.specs.Desk.{GoesOn, IsWhole, IsBroken, IsClean}
use Rattle.register_desk.specs.declared.outcome.Finish.TheVariants.{Ended, AtEnd}
use Rattle.register_desk.specs.Run.{LeavesDesk, Answered, RunsOver}
use Rattle.register_desk.specs.Lives.{after, AreInRange, IsLife, LeavesLife, life_of, DeskLives, MayApplyOneMore}
use Rattle.register_desk.specs.{declared.desk.Desk.Desk, declared.end.End.End, declared.outcome.Finish.Finish}
use Rattle.register_desk.specs.Register.{StandsFor, tables}
use Rattle.register_desk.specs.{RunProgress.StopsBy, Input.AreItems}
use Rattle.register_tables.specs.Schema.{Holds}
use Rattle.sqlite_trees.specs.declared.store.Store.{Ghosts}
use Rattle.register_requests.specs.{declared.request.Request.Request, Request.IsItem, Request.IsRequest}
use Rattle.register_core.specs.Fold.{history}
use Rattle.std.specs.Prelude.{IfSome}

apart : (b : Bool) → b ≡ true → b ≡ false → ⊥
apart b is is_not = let both = sym is ∙ is_not in cc

module _ {S : Type 0} (g : store.Ghosts S) where
  pub still : (desk : Desk S g) → GoesOn desk desk
  still desk = record { whole = λ whole. whole; broken = λ broken. refl }

  pub goes_then : (old mid new : Desk S g) → GoesOn old mid → GoesOn mid new → GoesOn old new
  goes_then old mid new one two = record {
    whole = λ whole. two.whole (one.whole whole);
    broken = λ broken. let same = one.broken broken in two.broken (ap (λ (d : Desk S g). d.is_broken) same ∙ broken)
        ∙ same;
  }

  -- what a desk is it was
  was_whole : (old mid : Desk S g) → GoesOn old mid → IsWhole mid → (b : Bool) → old.is_broken ≡ b → IsWhole old
  was_whole old mid goes whole true is =
      absurd (apart mid.is_broken (ap (λ (d : Desk S g). d.is_broken) (goes.broken is) ∙ is) whole)
  was_whole old mid goes whole false is = is

  was_broken : (old mid : Desk S g) → GoesOn old mid → IsBroken mid → (b : Bool) → old.is_broken ≡ b → IsBroken old
  was_broken old mid goes broken true is = is
  was_broken old mid goes broken false is = absurd (apart mid.is_broken broken (goes.whole is))

  -- a run that nothing of the desk's ended
  pub leaves_going : (old new : Desk S g) (end : Finish) → (end ≡ Ended Store → ⊥) → (end ≡ Ended Broken → ⊥)
      → GoesOn old new → LeavesDesk old new end
  leaves_going old new end no_store no_broken goes = record {
    whole = λ whole sound. goes.whole whole;
    store = λ is. absurd (no_store is);
    broken = goes.broken;
    was_broken = λ is. absurd (no_broken is);
  }

  -- a run that an item ended
  pub leaves_stopped : (old mid new : Desk S g) (end : End) → GoesOn old mid → StopsBy g mid new end
      → LeavesDesk old new (Ended end)
  leaves_stopped old mid new Memory goes stops = record {
    whole = λ whole sound. stops.1;
    store = λ is. absurd cc;
    broken = λ broken. absurd (apart old.is_broken broken (was_whole old mid goes stops.0 old.is_broken refl));
    was_broken = λ is. absurd cc;
  }
  leaves_stopped old mid new Store goes stops = record {
    whole = λ whole sound. absurd (sound refl);
    store = λ is. (was_whole old mid goes stops.0 old.is_broken refl, stops.1);
    broken = λ broken. absurd (apart old.is_broken broken (was_whole old mid goes stops.0 old.is_broken refl));
    was_broken = λ is. absurd cc;
  }
  leaves_stopped old mid new Broken goes stops = record {
    whole = λ whole sound. absurd (apart old.is_broken (was_broken old mid goes stops.0 old.is_broken refl) whole);
    store = λ is. absurd cc;
    broken = λ broken. stops.1 ∙ goes.broken broken;
    was_broken = λ is. was_broken old mid goes stops.0 old.is_broken refl;
  }
  leaves_stopped old mid new WriteFault goes stops =
      leaves_going old new (Ended WriteFault) (λ is. cc) (λ is. cc) (goes_then old mid new goes stops)
  leaves_stopped old mid new ReadFault goes stops = absurd stops
  leaves_stopped old mid new BadHeader goes stops = absurd stops

-- ---- The life that a call over items was, whatever its reader told.

-- ---- items of lines are in range

item_in_range : (line : List ℕ) (item : Option Request) → IsItem line item → IfSome item IsRequest
item_in_range line None is = tt
item_in_range line (Some q) is = is.request

pub items_in_range : (lines : List (List ℕ)) (items : List (Option Request)) → AreItems lines items → AreInRange items
items_in_range [] [] each = tt
items_in_range (line ∷ lines) (item ∷ items) each = (item_in_range line item each.0, items_in_range lines items each.1)
items_in_range [] (item ∷ items) each = absurd each
items_in_range (line ∷ lines) [] each = absurd each

-- ---- what a stop leaves, by how the call ended

module _ {S : Type 0} (g : Ghosts S) (h : List Request) (items : List (Option Request)) (in_range : AreInRange items)
    (replies : ℕ) (now : Desk S g) (clean : IsClean g now) where
  left_after : (end : Finish) (one_more : Bool) → IsLife end one_more (life_of items replies one_more) → IsWhole now
      → StandsFor g now (after h (life_of items replies one_more)) → LeavesLife g h items end replies now
  left_after end one_more is whole stands trees may =
      let left = (stands.over.sees whole clean).leaves trees may in (one_more, is, left.0, left.1, left.2)

  none_more : (end : Finish) (old new : Option (List ℕ)) → MayApplyOneMore end false → IsWhole now
      → Answered g h items replies old new now → LeavesLife g h items end replies now
  none_more end old new may whole over =
      let n : replies ≡ replies + 0 = omega arith in
      left_after end false (record {
        in_range = in_range;
        one_more_is = may;
        enough = omega (arith, over.some);
      }) whole
      (subst (λ (n : ℕ). StandsFor g now (history h (take n items))) n over.stands)

  -- however a run of a whole desk ends
  leaves_life : (rest : List ℕ) (end : Finish) (old new : Option (List ℕ)) (kept : Desk S g) → LeavesDesk kept now end
      → RunsOver g h items rest end replies old new now → IsWhole kept → LeavesLife g h items end replies now
  leaves_life rest (AtEnd left) old new kept leaves over whole =
      none_more (AtEnd left) old new refl (leaves.whole whole (λ e. absurd cc)) (over.whole (λ e. absurd cc))
  leaves_life rest (Ended Memory) old new kept leaves over whole =
      none_more (Ended Memory) old new refl (leaves.whole whole (λ e. absurd cc)) (over.whole (λ e. absurd cc))
  leaves_life rest (Ended ReadFault) old new kept leaves over whole =
      none_more (Ended ReadFault) old new refl (leaves.whole whole (λ e. absurd cc)) (over.whole (λ e. absurd cc))
  leaves_life rest (Ended Broken) old new kept leaves over whole =
      absurd (let broken = leaves.was_broken refl in let both = sym whole ∙ broken in cc)
  leaves_life rest (Ended WriteFault) old new kept leaves over whole =
      left_after (Ended WriteFault) true
      (record { in_range = in_range; one_more_is = refl; enough = (over.in_part refl).some })
      (leaves.whole whole (λ e. absurd cc)) (over.in_part refl).stands
  leaves_life rest (Ended Store) old new kept leaves over whole = λ trees may.
      let left = over.next refl trees may in
      let stop = over.stops (inl refl) in
      let next = slice_get_within items replies (Some stop.request) stop.next in
      let n : replies ≡ replies + 0 = omega arith in
      elim left.1 [
        | inl holds ↦ (
          false,
          record {
            in_range = in_range;
            one_more_is = tt;
            enough = omega (arith, (over.whole (λ e. absurd cc)).some);
          },
          left.0,
          subst (λ (n : ℕ). Holds (tables (history h (take n items))) left.0) n
              holds,
          left.2,
        )
        | inr holds ↦ (
          true,
          record {
            in_range = in_range;
            one_more_is = tt;
            enough = omega (arith, next);
          },
          left.0,
          holds,
          left.2,
        )
      ]
  leaves_life rest (Ended BadHeader) old new kept leaves over whole = absurd (over.no_header refl)

  -- the life that it was
  pub lived : (rest : List ℕ) (end : Finish) (old new : Option (List ℕ)) (kept : Desk S g) → LeavesDesk kept now end
      → RunsOver g h items rest end replies old new now → DeskLives g h end replies old new kept now
  lived rest end old new kept leaves over =
      record {
        items = items;
        rest = rest;
        over = λ header. over;
        leaves = leaves_life rest end old new kept leaves
            over;
      }

  -- where none more was applied
  pub lived_alone : (rest : List ℕ) (end : Finish) (old new : Option (List ℕ)) (kept : Desk S g)
      → MayApplyOneMore end false → (IsWhole kept → IsWhole now) → Answered g h items replies old new now
      → ((end ≡ Ended BadHeader → ⊥) → RunsOver g h items rest end replies old new now)
      → DeskLives g h end replies old new kept now
  lived_alone rest end old new kept may whole answered over =
      record { items = items; rest = rest; over = over; leaves = λ was. none_more end old new may (whole was) answered }
