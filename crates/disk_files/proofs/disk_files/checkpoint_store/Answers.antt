use Rattle.std.proofs.Common.{◌≡◌, IsTrue, arith, ap, true, false, inl, inr, refl, subst, sym, ◌∙◌}
use Rattle.std.proofs.Math.Logic.{∥∥₁_map}
use Rattle.sqlite.specs.{Files.HoldsDatabase, Files.over_files, Held.AreDatabases, Recovery.Image, Tree.Trees}
use Rattle.sqlite.proofs.Theorems.{copied, opens_again}
use Rattle.sqlite_disk.specs.declared.Disk.{Ghosts}
use Rattle.sqlite_store.specs.FileStore.{recovers, state, view}
use Rattle.sqlite_store.specs.{declared.store.FileStore.FileStore, Laws.not_broken, Laws.stays_at}
use Rattle.sqlite_trees.specs.View.{IsClean, View}
use Rattle.machine_traits.specs.declared.files.LogCopy.TheVariants.{Broken, Copied, Kept}
use Rattle.machine_traits.specs.Closing.{ClosesFiles, alone}
use Rattle.machine_traits.specs.declared.files.LogCopy.{LogCopy}
use Rattle.disk_files.proofs.disk_files.checkpoint_store.Goals as goal

-- nothing is new in what a stop leaves, and where the log was copied the database file alone holds it too
closes_by : {D : Type 0} {g : Ghosts D} (old last : FileStore D g) (log : LogCopy)
    → (IsClean (view last) → IsClean (view old))
    → (log ≡ Broken → IsClean (view last) → ((view old).is_broken ≡ false) × ((view last).is_broken ≡ true))
    → ((db : Trees) → recovers last db → recovers old db)
    → (IsClean (view last) → IsTrue (view old).is_numbered → (log ≡ Broken → IsTrue (view last).is_numbered)
    → IsTrue (view last).is_numbered)
    → (log ≡ Copied → IsClean (view last) → IsTrue (view last).is_numbered → AreDatabases (recovers last)
    → (whole : Image) → (state last).may_leave whole
    → ∥ ((db : Trees) × recovers last db × HoldsDatabase (alone whole) db) ∥₁)
    → ClosesFiles over_files (λ left. (state left).may_leave) old (record { store = last; log = log })
closes_by old last log clean shut outcomes numbered holds = record {
  clean = clean;
  shut = shut;
  leaves = λ none was sound left may.
      let sound_now = λ (db : Trees) (may : recovers last db). sound db (outcomes db may) in
      let now = numbered none was may.numbered in
      elim may.found [
        | inl found ↦ ∥∥₁_map (opens_again last now sound_now left found)
            (λ one. (one.0, outcomes one.0 one.1, one.2))
        | inr copy ↦ ∥∥₁_map (holds copy.0 none now sound_now copy.1 copy.2) (λ one. (
          one.0,
          outcomes one.0 one.1,
          subst (λ (image : Image). HoldsDatabase image one.0) (sym copy.3) one.2,
        ))
      ];
}

pub returns-then-is_broken : goal.returns-then-is_broken
returns-then-is_broken g c =
    closes_by c.args.store c.args.store Kept (λ none. none) (λ is. absurd (cc is)) (λ db may. may)
    (λ none was known. was)
    (λ is. absurd (cc is))

pub returns-in-Ok : goal.returns-in-Ok
returns-in-Ok g c =
    let last = c.checkpoint.new.self in
    let undone = c.rollback.ensures.undone in
    let first = c.rollback.ensures.quiet in
    let second = c.checkpoint.ensures.quiet in
    let kept : IsClean (view last) → IsClean (view c.rollback.new.self) = λ none. omega (arith, none, second.clean) in
    let stays = g.met.D.Disk.seen_may_stay in
    closes_by c.args.store last Copied (λ none. omega (arith, none, first.clean, second.clean)) (λ is. absurd (cc is))
    (λ db may. first.outcomes db (second.outcomes db may))
    (λ none was known. ap (λ (v : View). v.is_numbered) (c.checkpoint.ensures.same (c.in-Ok.ensures.open none))
    ∙ undone.numbered ∙ was)
    (λ is none now sound whole may.
    let is_open = c.in-Ok.ensures.open none in
    let before_open = subst (λ (v : View). IsTrue v.is_open) (c.checkpoint.ensures.same is_open) is_open in
    let empty = c.in-Ok.ensures.moved (c.rollback.ensures.logged ((undone.kept (kept none)).was_open before_open)) in
    ∥∥₁_map (copied last stays is_open now sound empty whole may).alone
    (λ held. ((view last).committed, stays_at last stays is_open, held)))

pub returns-in-Err : goal.returns-in-Err
returns-in-Err g c =
    let first = c.rollback.ensures.quiet in
    let second = c.checkpoint.ensures.quiet in
    closes_by c.args.store c.checkpoint.new.self Broken (λ none. omega (arith, none, first.clean, second.clean))
    (λ is none. (
      cc (c.if-is_broken.ensures.shown (omega (arith, none, first.clean, second.clean)), c.if-is_broken.false),
      cc (c.if-is_broken-2.ensures.shown none, c.if-is_broken-2.true),
    ))
    (λ db may. first.outcomes db (second.outcomes db may)) (λ none was known. known refl) (λ is. absurd (cc is))

pub returns-in-Err-2 : goal.returns-in-Err-2
returns-in-Err-2 g c =
    let last = c.checkpoint.new.self in
    let first = c.rollback.ensures.quiet in
    let second = c.checkpoint.ensures.quiet in
    closes_by c.args.store last Kept (λ none. omega (arith, none, first.clean, second.clean)) (λ is. absurd (cc is))
    (λ db may. first.outcomes db (second.outcomes db may))
    (λ none was known.
    let sound : (view last).is_broken ≡ false = cc (c.if-is_broken-2.ensures.shown none, c.if-is_broken-2.false) in
    ap (λ (v : View). v.is_numbered) (c.checkpoint.ensures.same (not_broken _ _ sound).1)
    ∙ c.rollback.ensures.undone.numbered ∙ was)
    (λ is. absurd (cc is))
