-- What is left of files that could not be opened stands for what was found.
use Rattle.std.proofs.Common.{◌≡◌, Bool, List, [], ◌∷◌, Option, None, Some, ℕ, cond, inl, inr, subst, subst₂, sym}
use Rattle.std.proofs.Math.Logic.{∥∥₁_map}
use Rattle.std.specs.Prelude.{IfSome}
use Rattle.sqlite.specs.Files.{HoldsDatabase, AreFoundIn, IsCleanLeft, IsNothing, IsUnderWay, LeavesFiles, image_of}
use Rattle.sqlite.specs.{WalFiles.outcomes, declared.file.Leftover.Leftover, Recovery.Image, Tree.Trees}
use Rattle.sqlite_disk.specs.Events.{Event, replay, settled}
use Rattle.sqlite_disk.specs.{History.MayLeave, declared.Disk.Ghosts, declared.Files.Files}
use Rattle.sqlite.specs.declared.file.Leftover.TheVariants as left
use Rattle.sqlite.proofs.FileLemmas.{is_something}
use Rattle.machine_traits.proofs.Empty.{finds_empty}
use Rattle.machine_traits.specs.Found.{HoldsNothing}
use Rattle.machine_traits.specs.Closing.{StandsAs}
use Rattle.disk_files.specs.LeftOver.{IsLeftOf, KeepsDatabase, MayBeLeft}

-- what is there still stands for itself
pub stands_still : (found left : Image) → left ≡ found → StandsAs found left
stands_still found left same = record {
  database = λ db holds. subst (λ (image : Image). HoldsDatabase image db) (sym same) holds;
  nothing = λ none. subst HoldsNothing (sym same) none;
}

-- a file on the disk that was only opened leaves what it held
abbrev pub SeenOf : List ℕ → List ℕ → Bool → List Event → List ℕ
SeenOf log db is_log history = (replay (cond is_log log db) history).seen

abbrev LeavesOf : Bool → List ℕ → List ℕ → List ℕ → Bool → List Event → Type 0
LeavesOf mixes log db c is_log history =
    let m = replay (cond is_log log db) history in MayLeave mixes m.seen m.synced m.steps c

pub leaves_only : (mixes : Bool) (log db c : List ℕ) (is_log given : Bool) (history : List Event) (key : ℕ)
    → is_log ≡ given → history ≡ settled key ∷ [] → LeavesOf mixes log db c is_log history → c ≡ cond given log db
leaves_only mixes log db c is_log given history key is fresh may =
    elim (subst₂ (LeavesOf mixes log db c) is fresh may) [ inl same ↦ same | inr same ↦ same ]

-- where there was no database none is lost, whatever a first page was made of
under_way : {D : Type 0} (g : Ghosts D) (found : Image) (files : Files D)
    → ((image : Image) → outcomes g files.log files.db image → image ≡ found)
    → IsNothing found → (image : Image) → IsUnderWay g files image → ∥ StandsAs found image ∥₁
under_way g found files only none image (inl same) = ∣ stands_still found image (only image same) ∣₁
under_way g found files only none image (inr (inl blank)) = ∣ record {
  database = λ db holds. absurd (is_something found db holds none);
  nothing = λ nothing. inl blank;
} ∣₁
under_way g found files only none image (inr (inr empty)) = ∥∥₁_map empty (λ one. record {
  database = λ db holds. absurd (is_something found db holds none);
  nothing = λ nothing. inr one;
})

-- an empty database stays one
still_nothing : (found image : Image) → KeepsDatabase found image → ¬ IsNothing found → HoldsNothing found
    → HoldsNothing image
still_nothing found image keeps some (inl none) = absurd (some none)
still_nothing found image keeps some (inr empty) = inr (empty.0, keeps empty.0 empty.1, empty.2)

module _ {D : Type 0} {g : Ghosts D} (found : Image) where
  -- of files that were given back
  stands_left : (files : Files D) → image_of g files ≡ found
      → ((image : Image) → outcomes g files.log files.db image → image ≡ found)
      → (rest : Leftover D g) → LeavesFiles files rest → (image : Image) → IsLeftOf found rest image
      → ∥ StandsAs found image ∥₁
  stands_left files seen only (left.Files now) leaves image may =
      ∣ stands_still found image (only image (leaves image may)) ∣₁
  stands_left files seen only (left.Unopened now) leaves image may = elim leaves [
    | inl new ↦ under_way g found files only (subst IsNothing seen new.0) image (new.1 image may.0)
    | inr old ↦ ∣ record {
      database = may.1;
      nothing = still_nothing found image may.1 (λ none. old.0 (subst IsNothing (sym seen) none));
    } ∣₁
  ]
  stands_left files seen only (left.Store now) leaves image one =
      let is = leaves one.0 one.1 in
      let same = λ (other : Trees) (holds : HoldsDatabase found other).
      is.1 other (subst (λ (i : Image). HoldsDatabase i other) (sym seen) holds) in
      ∣ record {
        database = λ other holds. subst (HoldsDatabase image) (same other holds) one.2;
        nothing = λ none. inr (
          one.0,
          one.2,
          finds_empty found one.0 none (subst (λ (i : Image). AreFoundIn i one.0) seen is.0) same,
        );
      } ∣₁

  pub stands_as : (rest : Option (Leftover D g)) (IsLog IsDb : D → Type 0) (Fails : Files D → Leftover D g → Type 0)
      → ((files : Files D) → IsLog files.log → IsDb files.db → (image_of g files ≡ found)
      × ((image : Image) → outcomes g files.log files.db image → image ≡ found))
      → IfSome rest (λ it. (files : Files D) × IsLog files.log × IsDb files.db
      × (IsCleanLeft it → Fails files it × LeavesFiles files it))
      → (image : Image) → MayBeLeft found rest image → ∥ StandsAs found image ∥₁
  stands_as None IsLog IsDb Fails fresh cause image same = ∣ stands_still found image same ∣₁
  stands_as (Some it) IsLog IsDb Fails fresh cause image may =
      let opened = fresh cause.0 cause.1 cause.2 in
      stands_left cause.0 opened.0 opened.1 it (cause.3 may.0).1 image may.1
