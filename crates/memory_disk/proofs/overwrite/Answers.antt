use Rattle.std.proofs.Common.{◌≡◌, ℕ, ◌+◌, ◌-◌, ◌<◌, ◌≤◌, List, ◌++◌, length, take, drop, slice_index, ap, sym, ◌∙◌}
use Rattle.std.proofs.Common.{refl, subst, arith, rules, length-append, length-drop, get_or-take, get_or-drop}
use Rattle.std.proofs.lemmas.List.{get_or_append_left, get_or-append_right, length-take-le, take_at}
use borrow.Rule.Slice.PartMut.{put_mid, post_of}
use Rattle.sqlite_disk.specs.Disk.{Holds, Torn, Cut}
use Rattle.sqlite_disk.proofs.EventLemmas.{Torn-within}
use Rattle.memory_disk.proofs.overwrite.Goals.{then-end-len+in_ok-resize, else-end-len}
use Rattle.memory_disk.proofs.overwrite.Goals as goal

-- bytes in the place of as many
module _ (file bytes : List ℕ) (at count : ℕ) (count_is : count ≡ length bytes)
    (within : at + length bytes ≤ length file) where
  abbrev put : List ℕ
  put = put_mid at count file bytes

  front : length (take at file) ≡ at
  front = length-take-le at file (omega arith)

  length-put : length put ≡ length file
  length-put =
      omega (
        arith,
        front,
        length-append (take at file) (bytes ++ post_of at count file),
        length-append bytes (post_of at count file),
        length-drop count (drop at file),
        length-drop at file,
      )

  Holds-put : Holds put at bytes
  Holds-put = record {
    within = omega (arith, length-put);
    each = λ i low.
        let back : at + i - at ≡ i = omega arith in
        get_or-append_right (take at file) _ at (at + i) 0 front (omega arith)
        ∙ get_or_append_left bytes _ 0 (at + i - at) (omega arith) ∙ ap (slice_index bytes) back;
  }

  Torn-put : Torn at (length bytes) file put
  Torn-put = record {
    no_shorter = omega (arith, length-put);
    no_longer = omega (arith, length-put);
    below = λ i _ low. get_or_append_left (take at file) _ 0 i (omega (arith, front)) ∙ get_or-take at file i 0 low;
    above = λ i _ high.
        let back : at + (count + (i - at - count)) ≡ i = omega arith in
        get_or-append_right (take at file) _ at i 0 front (omega arith)
        ∙ get_or-append_right bytes _ count (i - at) 0 (sym count_is) (omega arith)
        ∙ get_or-drop count (drop at file) (i - at - count) 0 ∙ get_or-drop at file (count + (i - at - count)) 0
        ∙ ap (slice_index file) back;
  }

-- the file reached so far, or was filled up to there
Torn-same : (at count : ℕ) (old new : List ℕ) → at + count ≤ length old → new ≡ old
    → Torn at count old new × (at + count ≤ length new)
Torn-same at count old new within same =
    subst (λ file. Torn at count old file × (at + count ≤ length file)) (sym same) (
      record { no_shorter = omega arith; no_longer = omega arith; below = λ _ _ _. refl; above = λ _ _ _. refl },
      within,
    )

Torn-filled : (at count end : ℕ) (old new : List ℕ) → end ≡ at + count → length old < end → length new ≡ end
    → Cut end old new → Torn at count old new × (at + count ≤ length new)
Torn-filled at count end old new end_is longer len cut = (
  record {
    no_shorter = omega arith;
    no_longer = omega arith;
    below = λ i within _. cut.below i within (omega arith);
    above = λ i within _. cut.below i within (omega arith);
  },
  omega arith,
)

over_file : (old file bytes copied rest : List ℕ) (at count len : ℕ) → Torn at (length bytes) old file → copied ≡ bytes
    → count ≡ length bytes → at + length bytes ≤ length file → len ≡ length file
    → Holds (take len (put_mid at count file copied ++ rest)) at bytes
    × Torn at (length bytes) old (take len (put_mid at count file copied ++ rest))
over_file old file bytes copied rest at count len grown copied_is count_is within len_is =
    let same : take len (put_mid at count file copied ++ rest) ≡ put_mid at count file bytes =
    ap (λ part. take len (put_mid at count file part ++ rest)) copied_is
    ∙ take_at (put_mid at count file bytes) rest len (length-put file bytes at count count_is within ∙ sym len_is) in
    subst (λ new. Holds new at bytes × Torn at (length bytes) old new) (sym same) (
      Holds-put file bytes at count count_is within,
      Torn-within at _ at _ old file _ (omega arith) (omega arith) grown (Torn-put file bytes at count count_is within),
    )

pub returns : goal.returns
returns c =
    let at = c.args.at in
    let bytes = c.args.bytes.now in
    let old = c.args.file.now.items in
    let file = c.if-end-len.file.items in
    let lent = c.deref_mut.result.now in
    let Grown : List ℕ → Type 0 = λ items. Torn at (length bytes) old items × (at + length bytes ≤ length items) in
    let end_is : c.in_ok-end.end ≡ at + length bytes = search rules in
    let old_len : c.len.result ≡ length old = search rules in
    let new_len : c.if-end-len.file.len ≡ length file = search rules in
    let grown : Grown file = elim c.if-end-len.branch [
      | then-end-len+in_ok-resize w ↦
          let longer : length old < c.in_ok-end.end = omega (arith, w.if-end-len.true) in
          subst Grown (sym (ap (λ vec. vec.items) w.file-is)) (Torn-filled at _ c.in_ok-end.end old w.resize.new.file.items
          end_is longer w.in_ok-resize.ensures.len w.resize.ensures.others)
      | else-end-len w ↦
          let within : at + length bytes ≤ length old = omega (arith, w.if-end-len.false) in
          Torn-same at (length bytes) old file within (ap (λ vec. vec.items) w.file-is)
    ] in
    let from : Grown lent = subst Grown (sym c.deref_mut.ensures.value) grown in
    let (written, others) = over_file old lent bytes c.copy_from_slice.new.self _ at (c.in_ok-end.end - at)
    c.if-end-len.file.len from.0 c.copy_from_slice.ensures.after (omega arith) from.1
    (new_len ∙ ap length (sym c.deref_mut.ensures.value)) in
    record { written = written; others = others }
