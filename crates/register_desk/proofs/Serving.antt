-- Items that came one after the other: what was answered so far, and what a call that answers them comes to.
use Rattle.std.proofs.Common.{◌≡◌, ℕ, ◌+◌, ◌≤◌, Bool, inl, inr, List, [], ◌∷◌, ◌++◌, length, take, Option, Some, refl}
use Rattle.std.proofs.Common.{sym, ap, subst, ◌∙◌, arith, append_assoc}
use Rattle.std.proofs.lemmas.List.{append-nil, length-append, length-replicate, length-take}
use Rattle.std.specs.{Prelude.replicate, Prelude.IfSome, Io.KnownBytes.Appends}
use Rattle.sqlite_trees.specs.declared.store.Store.{Ghosts}
use Rattle.register_requests.specs.{declared.request.Request.Request, Request.IsRequest}
use Rattle.register_core.proofs.Lawful.{all_more}
use Rattle.register_desk.specs.declared.end.End.TheVariants.{Memory, Store, Broken, ReadFault, WriteFault, BadHeader}
use Rattle.register_desk.specs.declared.outcome.Finish.TheVariants.{AtEnd, Ended}
use Rattle.register_desk.specs.Desk.{GoesOn, IsBroken, IsClean}
use Rattle.register_desk.specs.Items.{IsOfReading, ServedInPart, ServedItems, Serves}
use Rattle.register_desk.specs.Run.{AreFlushed, Answered, IsRequestNext, LeavesDesk, RefusedItems, RunsBroken}
use Rattle.register_desk.specs.Run.{RunsItems, RunsOver, LeavesWriter, Wrote, max_idle_turns}
use Rattle.register_desk.specs.RunProgress.{LeavesItem, ServesItem}
use Rattle.register_desk.specs.{declared.end.End.End, declared.outcome.Finish.Finish, declared.outcome.Outcome.Outcome}
use Rattle.register_desk.specs.Within.{AreAhead}
use Rattle.register_desk.specs.{declared.desk.Desk.Desk, Lives.DeskLives, Register.StandsFor}
use Rattle.streams.specs.declared.watched.Watched.{Watched}
use Rattle.register_desk.proofs.Answering.{answered_more, answered_none, prefix_refused}
use Rattle.register_desk.proofs.Appended.{appends_none, appends_then}
use Rattle.register_desk.proofs.Answering.{over_all, over_unread, prefix_so, stopped_broken, stopped_so, there}
use Rattle.register_desk.proofs.Lived.{leaves_going, still, lived}
use Rattle.register_desk.proofs.Found.{leaves_next}

pub ended_is : (one other : End) → Ended one ≡ Ended other → one ≡ other
ended_is one other same = cc

-- ---- bytes

pub wrote_begin : (w : Option (List ℕ)) → Wrote w w 0
wrote_begin w = ([], appends_none w, refl)

wrote_then : (v w x : Option (List ℕ)) (written count : ℕ) (bytes : List ℕ) → Wrote v w written → Appends w x bytes
    → count ≡ length bytes → Wrote v x (written + count)
wrote_then v w x written count bytes wrote appends counted = (
  wrote.0 ++ bytes,
  appends_then v w x wrote.0 bytes wrote.1 appends,
  omega (arith, wrote.2, counted, length-append wrote.0 bytes),
)

-- what is flushed is told of counts and marks that are the same
pub flushed_same : {written other : ℕ} {old mid new : Bool} → other ≡ written → new ≡ mid → AreFlushed written old mid
    → AreFlushed other old new
flushed_same counted same (inl flushed) = inl (same ∙ flushed)
flushed_same counted same (inr none) = inr (counted ∙ none.0, same ∙ none.1)

module _ {S : Type 0} (g : Ghosts S) where
  -- what an item leaves, as bytes written
  pub wrote_part : (v w x : Option (List ℕ)) (kept now : Desk S g) (item : Option Request) (end : End)
      (written part : ℕ) → Wrote v w written → LeavesItem g kept now w x item end part → Wrote v x (written + part)
  wrote_part v w x kept now item Memory written part wrote leaves =
      wrote_then v w x written part [] wrote leaves.1 leaves.2
  wrote_part v w x kept now item Store written part wrote leaves =
      wrote_then v w x written part [] wrote leaves.1 leaves.2
  wrote_part v w x kept now item Broken written part wrote leaves =
      wrote_then v w x written part [] wrote leaves.1 leaves.2
  wrote_part v w x kept now item WriteFault written part wrote leaves =
      wrote_then v w x written part (take part leaves.line) wrote leaves.written
      (omega (arith, length-take part leaves.line, leaves.within))
  wrote_part v w x kept now item ReadFault written part wrote leaves = absurd leaves
  wrote_part v w x kept now item BadHeader written part wrote leaves = absurd leaves

  pub wrote_item : (v w x : Option (List ℕ)) (kept now : Desk S g) (item : Option Request) (written count : ℕ)
      → Wrote v w written → ServesItem g kept now w x item count → Wrote v x (written + count)
  wrote_item v w x kept now item written count wrote serves =
      wrote_then v w x written count serves.line wrote serves.written serves.counted

  -- where a fault of the writer is not why an item's answer was not written whole, none of it was
  pub none_written : (kept now : Desk S g) (old new : Option (List ℕ)) (item : Option Request) (end : End) (part : ℕ)
      → LeavesItem g kept now old new item end part → (end ≡ WriteFault → ⊥) → part ≡ 0
  none_written kept now old new item Memory part leaves other = leaves.2
  none_written kept now old new item Store part leaves other = leaves.2
  none_written kept now old new item Broken part leaves other = leaves.2
  none_written kept now old new item ReadFault part leaves other = absurd leaves
  none_written kept now old new item WriteFault part leaves other = absurd (other refl)
  none_written kept now old new item BadHeader part leaves other = absurd leaves

  -- a disk that is clean after the item was so before
  was_clean : (kept now : Desk S g) (old new : Option (List ℕ)) (item : Option Request) (end : End) (part : ℕ)
      → LeavesItem g kept now old new item end part → IsClean g now → IsClean g kept
  was_clean kept now old new item Memory part leaves clean = leaves.0.clean clean
  was_clean kept now old new item Store part leaves clean = leaves.0.clean clean
  was_clean kept now old new item Broken part leaves clean =
      subst (λ (desk : Desk S g). IsClean g desk) leaves.0.same clean
  was_clean kept now old new item WriteFault part leaves clean = leaves.clean clean
  was_clean kept now old new item ReadFault part leaves clean = absurd leaves
  was_clean kept now old new item BadHeader part leaves clean = absurd leaves

unread_broken : (all : List (Option Request)) (rest : List ℕ) (replies : ℕ) (old new : Option (List ℕ)) (end : End)
    → IsOfReading end → RefusedItems all replies old new → RunsBroken all rest (Ended end) replies old new
unread_broken all rest replies old new Memory of_reading none = none
unread_broken all rest replies old new ReadFault of_reading none = none
unread_broken all rest replies old new Store of_reading none = absurd of_reading
unread_broken all rest replies old new Broken of_reading none = absurd of_reading
unread_broken all rest replies old new WriteFault of_reading none = absurd of_reading
unread_broken all rest replies old new BadHeader of_reading none = absurd of_reading

-- no write failed
pub leaves_sound : {W : Type 0} (contents : W → Option (List ℕ)) (old new : Watched W) (outcome : Outcome)
    → Wrote (contents old.inner) (contents new.inner) outcome.written
    → AreFlushed outcome.written old.unflushed new.unflushed → new.idle ≤ max_idle_turns
    → (outcome.end ≡ Ended WriteFault → ⊥) → LeavesWriter contents old new outcome
leaves_sound contents old new outcome wrote flushed bounded sound = record {
  wrote = wrote;
  flushed = λ other. flushed;
  fault = λ is. absurd (sound is);
  bounded = bounded;
}

-- a writer whose turns are counted from 0 again
pub leaves_from : {W : Type 0} {contents : W → Option (List ℕ)} (old : Watched W) {begun new : Watched W}
    {outcome : Outcome} → begun ≡ record old { turns = 0; idle = 0 } → LeavesWriter contents begun new outcome
    → LeavesWriter contents old new outcome
leaves_from {contents = contents} old {new = new} {outcome = outcome} same left = record {
  wrote = subst (λ w. Wrote (contents w.inner) (contents new.inner) outcome.written) same left.wrote;
  flushed = λ sound. subst (λ w. AreFlushed outcome.written w.unflushed new.unflushed) same (left.flushed sound);
  fault = left.fault;
  bounded = left.bounded;
}

pub of_reading_sound : (end : End) → IsOfReading end → Ended end ≡ Ended WriteFault → ⊥
of_reading_sound WriteFault of_reading is = of_reading
of_reading_sound end of_reading is = cc

-- what could not be read leaves the desk to go on
pub leaves_unread : {S : Type 0} (g : Ghosts S) (old new : Desk S g) (end : End) → IsOfReading end → GoesOn old new
    → LeavesDesk old new (Ended end)
leaves_unread g old new Memory of_reading goes = leaves_going g old new (Ended Memory) (λ is. cc) (λ is. cc) goes
leaves_unread g old new ReadFault of_reading goes = leaves_going g old new (Ended ReadFault) (λ is. cc) (λ is. cc) goes
leaves_unread g old new Store of_reading goes = absurd of_reading
leaves_unread g old new Broken of_reading goes = absurd of_reading
leaves_unread g old new WriteFault of_reading goes = absurd of_reading
leaves_unread g old new BadHeader of_reading goes = absurd of_reading

-- ---- one item more

module _ {P : Type 0} {Came : P → P → List (Option Request) → Type 0} {Ends : P → P → ℕ → Type 0}
    {Fails : P → P → End → Type 0} {S : Type 0} {g : Ghosts S} {start : P} where
  pub served_none : (w : Option (List ℕ)) (kept : Desk S g) → Came start start []
      → ServedItems Came Ends Fails g start start w w kept kept 0
  served_none w kept begins =
      record { items = []; in_range = tt; came = begins; counted = refl; so_far = answered_none g w kept }

  pub served_more : {place : P} (next : P) {v w x : Option (List ℕ)} {kept mid now : Desk S g} {replies count : ℕ}
      (item : Option Request) (served : ServedItems Came Ends Fails g start place v w kept mid replies)
      → Came start next (served.items ++ item ∷ []) → IfSome item IsRequest
      → ServesItem g mid now w x item count → GoesOn mid now
      → ServedItems Came Ends Fails g start next v x kept now (replies + 1)
  served_more next {v} {w} {x} {kept} {mid} {now} {replies} {count} item served came in_range serves goes = record {
    items = served.items ++ item ∷ [];
    in_range = all_more (λ i. IfSome i IsRequest) served.items item served.in_range in_range;
    came = came;
    counted = length-append served.items (item ∷ []) ∙ ap (λ (n : ℕ). n + 1) served.counted;
    so_far = answered_more g v w x kept mid now served.items item count served.so_far serves goes;
  }

-- ---- the items that were answered

module _ {P : Type 0} {Came : P → P → List (Option Request) → Type 0} {Ends : P → P → ℕ → Type 0}
    {Fails : P → P → End → Type 0} {S : Type 0} {g : Ghosts S} {start place : P} {old new : Option (List ℕ)}
    {kept now : Desk S g} {replies : ℕ}
    (served : ServedItems Came Ends Fails g start place old new kept now replies) where
  alone : (h : List Request) → StandsFor g kept h → IsClean g now → Answered g h served.items replies old new now
  alone h stands clean =
      prefix_so g served.items served.items replies served.counted [] (sym (append-nil served.items)) h old new kept
      now served.so_far stands clean

  -- where it is known what is to come
  module _ {all : List (Option Request)} {left : ℕ} (known : AreAhead Came Ends start all left) where
    prefix : (h : List Request) → StandsFor g kept h → IsClean g now → Answered g h all replies old new now
    prefix h stands clean =
        let so_far = known.first place served.items served.came in
        prefix_so g all served.items replies served.counted so_far.0 so_far.1 h old new kept now served.so_far stands
        clean

    refused : IsBroken kept → RefusedItems all replies old new
    refused broken =
        let so_far = known.first place served.items served.came in
        prefix_refused g all served.items replies served.counted so_far.0 so_far.1 old new kept now served.so_far broken

-- ---- what a call that answered them comes to

module _ {P : Type 0} {Came : P → P → List (Option Request) → Type 0} {Ends : P → P → ℕ → Type 0}
    {Fails : P → P → End → Type 0} {S : Type 0} {g : Ghosts S} {start last : P} {old new : Option (List ℕ)}
    {kept now : Desk S g} {replies : ℕ} where
  -- a disk that is clean after the call was so before
  pub clean_so : (end : Finish) → Serves Came Ends Fails g start last old new kept now replies end → IsClean g now
      → IsClean g kept
  clean_so (AtEnd rest) serves clean = serves.to.served.so_far.clean clean
  clean_so (Ended end) serves clean = elim serves.to [
    | inl unread ↦ unread.served.so_far.clean clean
    | inr it ↦ it.served.so_far.clean (was_clean g it.mid now it.so_far new it.item end it.part it.leaves clean)
  ]

  pub no_header_so : (end : Finish) → Serves Came Ends Fails g start last old new kept now replies end
      → end ≡ Ended BadHeader → ⊥
  no_header_so end serves is =
      elim (subst (Serves Came Ends Fails g start last old new kept now replies) is serves).to [
        | inl unread ↦ unread.of_reading
        | inr it ↦ it.leaves
      ]

  -- whatever its source tells of what is to come
  pub lives_so : (h : List Request) → StandsFor g kept h → IsClean g now → (end : Finish) → LeavesDesk kept now end
      → Serves Came Ends Fails g start last old new kept now replies end → DeskLives g h end replies old new kept now
  lives_so h stands clean (AtEnd rest) leaves serves =
      let served = serves.to.served in
      lived g h served.items served.in_range replies now clean (replicate rest 0) (AtEnd rest) old new kept leaves
      (over_all g h served.items (replicate rest 0) rest replies old new now (alone served h stands clean)
      (sym served.counted) (sym (length-replicate rest 0)))
  lives_so h stands clean (Ended end) leaves serves = elim serves.to [
    | inl unread ↦
        let served = unread.served in
        lived g h served.items served.in_range replies now clean [] (Ended end) old new kept leaves
        (over_unread g h served.items [] end replies old new now unread.of_reading (alone served h stands clean))
    | inr it ↦
        let served = it.served in
        lived g h (served.items ++ it.item ∷ [])
        (all_more (λ i. IfSome i IsRequest) served.items it.item served.in_range it.in_range)
        replies now clean [] (Ended end) old new kept leaves
        (stopped_so g (served.items ++ it.item ∷ []) served.items replies served.counted it.item [] refl old it.so_far
        new kept it.mid now served.so_far h stands clean end it.part [] it.leaves)
  ]

-- ---- where it is known what is to come

module _ {P : Type 0} {Came : P → P → List (Option Request) → Type 0} {Ends : P → P → ℕ → Type 0}
    {Fails : P → P → End → Type 0} {S : Type 0} {g : Ghosts S} {start last : P} {old new : Option (List ℕ)}
    {kept now : Desk S g} {replies : ℕ} {all : List (Option Request)} (rest : List ℕ)
    (known : AreAhead Came Ends start all (length rest)) where
  -- the item in hand stands after those that were answered
  pub next_so : (end : End) (it : ServedInPart Came Ends Fails g start last old new kept now replies end)
      → (more : List (Option Request)) × (all ≡ it.served.items ++ it.item ∷ more)
  next_so end it =
      let so_far = known.first last (it.served.items ++ it.item ∷ []) it.came in
      (so_far.0, so_far.1 ∙ append_assoc it.served.items (it.item ∷ []) so_far.0)

  over_so : (end : Finish) → Serves Came Ends Fails g start last old new kept now replies end → (h : List Request)
      → StandsFor g kept h → IsClean g now → RunsOver g h all rest end replies old new now
  over_so (AtEnd left) serves h stands clean =
      let served = serves.to.served in
      let whole = known.whole serves.to.place last served.items left served.came serves.to.ends in
      over_all g h all rest left replies old new now (prefix served known h stands clean)
      (sym served.counted ∙ ap length (sym whole.0)) whole.1
  over_so (Ended end) serves h stands clean = elim serves.to [
    | inl unread ↦
        over_unread g h all rest end replies old new now unread.of_reading (prefix unread.served known h stands clean)
    | inr it ↦
        let next = next_so end it in
        stopped_so g all it.served.items replies it.served.counted it.item next.0 next.1 old it.so_far new kept it.mid
        now it.served.so_far h stands clean end it.part rest it.leaves
  ]

  broken_so : (end : Finish) → Serves Came Ends Fails g start last old new kept now replies end
      → LeavesDesk kept now end → IsBroken kept → RunsBroken all rest end replies old new
  broken_so (AtEnd left) serves leaves broken =
      let served = serves.to.served in
      let whole = known.whole serves.to.place last served.items left served.came serves.to.ends in
      (refused served known broken, sym served.counted ∙ ap length (sym whole.0), whole.1)
  broken_so (Ended end) serves leaves broken = elim serves.to [
    | inl unread ↦
        unread_broken all rest replies old new end unread.of_reading (refused unread.served known broken)
    | inr it ↦
        let next = next_so end it in
        stopped_broken g all it.served.items replies it.served.counted it.item next.0 next.1 old it.so_far new kept
        it.mid now it.served.so_far end it.part rest broken leaves it.leaves
  ]

  uses_so : (end : Finish) → Serves Came Ends Fails g start last old new kept now replies end → end ≡ Ended Store
      → IsRequestNext all replies
  uses_so end serves is =
      elim (subst (Serves Came Ends Fails g start last old new kept now replies) is serves).to [
        | inl unread ↦ absurd unread.of_reading
        | inr it ↦
            let next = next_so Store it in
            let stop = it.leaves.0 in (
              stop.request,
              there g all it.served.items replies it.served.counted it.item next.0 next.1 ∙ ap (λ i. Some i) stop.is,
            )
      ]

  pub runs_so : (end : Finish) → LeavesDesk kept now end
      → Serves Came Ends Fails g start last old new kept now replies end
      → RunsItems g all rest end replies old new kept now
  runs_so end leaves serves = record {
    agrees = over_so end serves;
    leaves = λ h stands whole clean. leaves_next g h all replies now clean rest end old new kept whole leaves
        (over_so end serves h stands clean);
    uses = uses_so end serves;
    broken = broken_so end serves leaves;
  }

-- ---- a call that could read nothing

module _ {S : Type 0} (g : Ghosts S) (w : Option (List ℕ)) (kept : Desk S g) (end : End) (of_reading : IsOfReading end)
  where
    abbrev NoneCame : Unit {0} → Unit {0} → List (Option Request) → Type 0
    NoneCame from to came = came ≡ []

    abbrev NeverEnds : Unit {0} → Unit {0} → ℕ → Type 0
    NeverEnds from to rest = ⊥

    abbrev Fails : Unit {0} → Unit {0} → End → Type 0
    Fails from to why = Unit {0}

    unread : Serves NoneCame NeverEnds Fails g tt tt w w kept kept 0 (Ended end)
    unread = record {
      to = inl (record { place = tt; served = served_none w kept refl; of_reading = of_reading; fails = tt });
    }

    pub nothing_leaves : LeavesDesk kept kept (Ended end)
    nothing_leaves = leaves_unread g kept kept end of_reading (still g kept)

    pub nothing_runs : (all : List (Option Request)) (rest : List ℕ) → RunsItems g all rest (Ended end) 0 w w kept kept
    nothing_runs all rest =
        let known : AreAhead NoneCame NeverEnds tt all (length rest) = record {
          first = λ place came none. (all, rw none refl);
          whole = λ place last came left none ends. absurd ends;
        } in
        runs_so rest known (Ended end) nothing_leaves unread

    pub nothing_lives : (h : List Request) → StandsFor g kept h → IsClean g kept
        → DeskLives g h (Ended end) 0 w w kept kept
    nothing_lives h stands clean = lives_so h stands clean (Ended end) nothing_leaves unread
