-- Files from which a database is adopted have a first page.
use Rattle.std.proofs.Common.{◌≡◌, ℕ, ◌<◌, ◌∙◌, List, [], length, take, Option, Some, unwrap_or, slice_index, ap, arith}
use Rattle.std.proofs.Common.{get_or-take, sym}
use Rattle.std.proofs.lemmas.List.{length-take}
use Rattle.sqlite_pool.proofs.ProbeLemmas.{first_byte}
use Rattle.sqlite_pool.specs.{File.IsSoundFile, File.header_in, Header.first_page, Opening.IsBlankFile, Stored.Adopts}
use Rattle.sqlite_pool.specs.{Stored.sealed, StoredLaws.trimmed_some}
use Rattle.sqlite_wal.proofs.{AppendLemmas.some_value, CreateLemmas.begun_is_not_blank}
use Rattle.sqlite_wal.specs.Recovery.{Image, Pages}

-- so they hold something, whatever the page size
pub adopts_something : (size : ℕ) (image : Image) (pages : Pages) → Adopts size image pages → IsSoundFile size pages
    → (other : ℕ) → 0 < other → IsBlankFile other image → ⊥
adopts_something size image pages adopts sound other some blank =
    let (page, is) = some_value (adopts.stored 1) adopts.whole.first in
    let used : pages 1 ≡ Some (take size page) =
    ap (λ (p : Pages). p 1) (sym adopts.shows) ∙ trimmed_some size adopts.stored 1 page is in
    let head : header_in pages ≡ take 100 (take size page) =
    ap (λ (o : Option (List ℕ)). take 100 (unwrap_or o [])) used in
    let magic = sound.header.0.magic in
    let large : 1 < size = omega (
      arith,
      ap length magic,
      length-take 16 (header_in pages),
      ap length head,
      length-take 100 (take size page),
      length-take size page,
    ) in
    let first : slice_index page 0 ≡ 83 =
    sym (get_or-take size page 0 0 (omega arith)) ∙ sym (get_or-take 100 (take size page) 0 0 (omega arith))
    ∙ ap (λ (b : List ℕ). slice_index b 0) (sym head) ∙ sym (get_or-take 16 (header_in pages) 0 0 (omega arith))
    ∙ ap (λ (b : List ℕ). slice_index b 0) magic in
    let begun = first_byte other some in
    begun_is_not_blank (sealed (first_page other)) page _ image adopts.stored adopts.found is
    (adopts.whole.sized 1 page is) (omega arith) (first ∙ sym begun)
    (λ none. let never = sym begun ∙ none in omega arith)
    blank
