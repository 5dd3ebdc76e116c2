-- Files that hold nothing, as an opening finds them.
use Rattle.std.proofs.Common.{◌≡◌, inl, inr, arith, sym, subst, false, true}
use Rattle.std.proofs.Math.Logic.{∥∥₁_elim}
use Rattle.sqlite.specs.Files.{AreFoundIn, HoldsDatabase, IsEmpty, IsNothing}
use Rattle.sqlite.specs.{Recovery.Image, Tree.Trees}
use Rattle.sqlite_pool.specs.Stored.{used_size}
use Rattle.machine_traits.specs.Found.{HoldsNothing}
use Rattle.machine_traits.proofs.Adopted.{adopts_something}

-- where the files hold no database yet, the one that is found is empty
found_empty : (image : Image) (db : Trees) → IsNothing image → AreFoundIn image db → IsEmpty db
found_empty image db none (inl adopted) = absurd (∥∥₁_elim adopted.4 (λ x y. absurd x) (λ ours.
    let never = adopts_something adopted.0 image adopted.1 adopted.3 ours.file.sound in
    elim none [
      | inl plain ↦ never (used_size 4096 false) (omega arith) plain
      | inr summed ↦ never (used_size 4096 true) (omega arith) summed
    ]))
found_empty image db none (inr nothing) = nothing.1

-- and what is found in files that hold nothing
pub finds_empty : (image : Image) (db : Trees) → HoldsNothing image → AreFoundIn image db
    → ((other : Trees) → HoldsDatabase image other → db ≡ other) → IsEmpty db
finds_empty image db (inl none) reads holds = found_empty image db none reads
finds_empty image db (inr held) reads holds = subst IsEmpty (sym (holds held.0 held.1)) held.2
