-- Lemmas on the parts of a piece, on line feeds, and on the bytes that are to come.
use Rattle.std.proofs.Common.{◌≡◌, ℕ, suc, ◌+◌, ◌-◌, ◌<◌, ◌≤◌, min, List, [], ◌∷◌, ◌++◌, Bool, length, take, drop}
use Rattle.std.proofs.Common.{get_or, slice_range, None, Some, refl, sym, ap, subst, ◌∙◌, arith, append_assoc}
use Rattle.std.proofs.Common.{take-append-drop, take-take, length-take, length-take-le, length-append, take_all}
use Rattle.std.proofs.Common.{eqb-true, inl, inr}
use Rattle.std.proofs.lemmas.Bool.{cases_lt, cond_below, cond_above}
use Rattle.std.proofs.lemmas.Bool.Decides.{eqb_tells}
use Rattle.std.proofs.lemmas.List.{drop-drop, drop_all, drop_more, nil_from_length, take_min, take-append-le}
use Rattle.std.proofs.lemmas.List.Quantifiers.{position-Some}
use Rattle.std.proofs.lemmas.Slice.{between_is, take-put_mid}
use Rattle.std.proofs.Math.Seq.{take-append-add}
use Rattle.std.proofs.KnownBytes.{Consumes-trans}
use Rattle.std.specs.Io.KnownBytes.{Consumes, prepend_known}
use Rattle.std.specs.{Prelude.◌==◌, Prelude.position, Prelude.Option, List.position_or_len}
use borrow.Rule.Slice.PartMut.{put_mid}
use Rattle.streams.specs.Lines.{line_feed, Cut, CutsLine, CutsRest, HasNoLineFeed, Takes, work_left}
use Rattle.streams.specs.declared.lines.TheConstants.{MAX_PIECE_LENGTH}
use Rattle.streams.specs.{Within.Extends, declared.watched.TheConstants.MAX_READS}

-- ---- line feeds

abbrev is_line_feed : ℕ → Bool
is_line_feed byte = byte == line_feed

-- none stands before the first
HasNoLineFeed-before_first : (xs : List ℕ) → HasNoLineFeed (take (position_or_len is_line_feed xs) xs)
HasNoLineFeed-before_first [] = tt
HasNoLineFeed-before_first (x ∷ xs) =
    let before = position_or_len is_line_feed xs in
    let more : suc before ≡ 1 + before = omega arith in
    elim (eqb_tells x line_feed) [
      | inl (is, same) ↦ rw is tt
      | inr (is, other) ↦ rw is (subst (λ n. HasNoLineFeed (take n (x ∷ xs))) more
          (other, HasNoLineFeed-before_first xs))
    ]

-- what stands round the first
pub first_line_feed : (xs : List ℕ) (at : ℕ) → Some at ≡ position (λ byte. byte == line_feed) xs
    → (at < length xs) × HasNoLineFeed (take at xs) × (xs ≡ take at xs ++ line_feed ∷ drop 1 (drop at xs))
first_line_feed xs at e =
    let (within, hit, before) = position-Some is_line_feed xs at 0 (sym e) in
    let first = position_or_len is_line_feed xs in
    let place : at ≡ first = elim (cases_lt first (length xs)) [
      | inl below ↦ let same : Some at ≡ Some first = e
          ∙ sym (cond_below first (length xs) (Some first) None below) in cc
      | inr above ↦ let none : Some at ≡ None = e ∙ sym
          (cond_above first (length xs) (Some first) None None above refl) in cc
    ] in
    let byte : get_or xs at 0 ≡ line_feed = eqb-true (get_or xs at 0) line_feed hit in
    let here = drop_more xs at 0 within in
    let later = drop-drop 1 at xs in
    let rest : drop at xs ≡ line_feed ∷ drop 1 (drop at xs) = cc in (
      within,
      subst (λ n. HasNoLineFeed (take n xs)) (sym place) (HasNoLineFeed-before_first xs),
      sym
          (take-append-drop at xs) ∙ ap (λ l. take at xs ++ l) rest,
    )

-- there is none
pub no_line_feed : (xs : List ℕ) → None ≡ position (λ byte. byte == line_feed) xs → HasNoLineFeed xs
no_line_feed xs e =
    let first = position_or_len is_line_feed xs in
    elim (cases_lt first (length xs)) [
      | inl below ↦ let none : None ≡ Some first = e ∙ sym (cond_below first (length xs) (Some first) None below) in cc
      | inr above ↦ subst HasNoLineFeed (take_all first xs above) (HasNoLineFeed-before_first xs)
    ]

-- ---- parts of a piece

-- a part that begins later
pub slice_range-add : (xs : List ℕ) (start n end : ℕ)
    → slice_range xs (start + n) end ≡ drop n (slice_range xs start end)
slice_range-add xs start n end = between_is xs (start + n) end ∙ sym (drop-drop n start (take end xs))
    ∙ ap (drop n) (sym (between_is xs start end))

-- a part that ends earlier
pub slice_range-take : (xs : List ℕ) (start n end : ℕ) → start + n ≤ end
    → slice_range xs start (start + n) ≡ take n (slice_range xs start end)
slice_range-take xs start n end within =
    let same : (start + n) - start ≡ n = omega arith in
    let less : n ≤ end - start = omega arith in
    ap (λ k. take k (drop start xs)) same ∙ sym (take-take n (end - start) (drop start xs) less)

-- after a write of as much of `part` as there is room for
pub take-written : (held new part : List ℕ) (count filled more k : ℕ) → filled ≡ min count (length held)
    → more ≡ min (length part) (length held - filled)
    → length new ≡ length held → new ≡ put_mid filled k held (take more part)
    → take (count + length part) new ≡ take (length held) (take count held ++ part)
take-written held new part count filled more k is_filled is_more long is_new =
    let fits : filled ≤ length held = omega arith in
    let short : more ≤ length part = omega arith in
    let put : filled + more ≡ filled + length (take more part) =
    ap (λ n. filled + n) (sym (length-take-le more part short)) in
    let written = ap (take (filled + more)) is_new ∙ take-put_mid filled k held (take more part) (filled + more) put
    fits in
    let cut : min (count + length part) (length new) ≡ filled + more = omega arith in
    let left = sym (take_min (count + length part) new) ∙ ap (λ n. take n new) cut ∙ written in
    let prefix : take filled held ≡ take count held = ap (λ n. take n held) is_filled ∙ take_min count held in
    let prefix_length : length (take count held) ≡ filled = length-take count held ∙ sym is_filled in
    let room : length held ≡ length (take count held) + (length held - filled) = omega arith in
    let less : min (length held - filled) (length part) ≡ more = omega arith in
    let right = ap (λ n. take n (take count held ++ part)) room
    ∙ take-append-add (take count held) part (length held - filled) in
    let tail = sym (take_min (length held - filled) part) ∙ ap (λ n. take n part) less in
    left ∙ ap (λ l. l ++ take more part) prefix ∙ sym (right ∙ ap (λ l. take count held ++ l) tail)

-- ---- what a cutter holds

-- unread bytes are within the piece
pub unread_within : (old now : Cut) (piece : List ℕ) (start n end : ℕ) → old ≡ now
    → old.unread ≡ slice_range piece start end → start ≤ end
    → n ≤ length now.unread → start + n ≤ end
unread_within old now piece start n end same is_unread ordered few =
    let long : length now.unread ≡ min (end - start) (length (drop start piece)) =
    ap (λ (cut : Cut). length cut.unread) (sym same) ∙ ap length is_unread
    ∙ length-take (end - start) (drop start piece) in
    omega arith

-- all but the unread bytes stays
pub skipped : (old now : Cut) {later : List ℕ} → old ≡ now → later ≡ drop 1 old.unread
    → ◌≡◌ {A = Cut} (record { unread = later; line = old.line; line_length = old.line_length; taken = old.taken })
    (record { unread = drop 1 now.unread; line = now.line; line_length = now.line_length; taken = now.taken })
skipped old now same e = cc

-- unread bytes moved to the line
pub Extends-by_part : {max_length : ℕ} (old now new : Cut) (held written part : List ℕ) (count : ℕ) → old ≡ now
    → count ≤ length now.unread
    → part ≡ take count old.unread → old.line ≡ take old.line_length held → length held ≡ max_length
    → take (old.line_length + length part) written ≡ take (length held) (take old.line_length held ++ part)
    → new.line ≡ take (old.line_length + count) written → new.line_length ≡ old.line_length + count
    → new.taken ≡ old.taken
    → Extends max_length now new (take count now.unread)
Extends-by_part old now new held written part count same within is_part is_line long wrote is_new is_length is_taken =
    let moved : part ≡ take count now.unread = is_part ∙ ap (λ (cut : Cut). take count cut.unread) same in
    let moved_length : length (take count now.unread) ≡ count = length-take-le count now.unread within in
    let part_length : length part ≡ count = ap length moved ∙ moved_length in
    let line : take old.line_length held ≡ now.line = sym is_line ∙ ap (λ (cut : Cut). cut.line) same in
    record { counted = cc; kept = cc; taken = cc }

-- the line so far and the bytes before a line feed, which is dropped
pub cut_at_line_feed : {max_length : ℕ} (old mid new : Cut) (xs : List ℕ) (at : ℕ)
    → Some at ≡ position (λ byte. byte == line_feed) xs → xs ≡ old.unread
    → mid.unread ≡ drop at old.unread → Extends max_length old mid (take at old.unread)
    → new.unread ≡ drop 1 mid.unread → new.line ≡ mid.line
    → new.line_length ≡ mid.line_length → new.taken ≡ mid.taken
    → (part : List ℕ) × HasNoLineFeed part × (old.unread ≡ part ++ line_feed ∷ new.unread)
    × Extends max_length old new part
cut_at_line_feed old mid new xs at found same rest moved skipped line line_length taken =
    let (within, unbroken, whole) = first_line_feed old.unread at
    (subst (λ l. Some at ≡ position (λ byte. byte == line_feed) l) same found) in
    let left : drop 1 (drop at old.unread) ≡ new.unread = cc in (
      take at old.unread,
      unbroken,
      subst (λ l. old.unread ≡ take at old.unread ++ line_feed ∷ l) left whole,
      record {
        counted = line_length ∙ moved.counted;
        kept = line ∙ moved.kept;
        taken = taken ∙ moved.taken;
      },
    )

-- all the unread bytes moved to the line
pub cut_nowhere : {max_length : ℕ} (old new : Cut) (xs : List ℕ) (all : ℕ)
    → None ≡ position (λ byte. byte == line_feed) xs → xs ≡ old.unread → all ≡ length old.unread
    → new.unread ≡ drop all old.unread → Extends max_length old new (take all old.unread)
    → HasNoLineFeed old.unread × (new.unread ≡ []) × Extends max_length old new old.unread
cut_nowhere {max_length} old new xs all none same long rest moved =
    let whole : take all old.unread ≡ old.unread = take_all all old.unread (omega arith) in
    let empty : drop all old.unread ≡ [] = drop_all all old.unread (omega arith) in (
      no_line_feed old.unread (subst (λ l. None ≡ position (λ byte. byte == line_feed) l) same none),
      rest
          ∙ empty,
      subst (Extends max_length old new) whole moved,
    )

-- ---- the line so far

HasNoLineFeed-append : (xs ys : List ℕ) → HasNoLineFeed xs → HasNoLineFeed ys → HasNoLineFeed (xs ++ ys)
HasNoLineFeed-append [] ys p q = q
HasNoLineFeed-append (x ∷ xs) ys p q = (p.0, HasNoLineFeed-append xs ys p.1 q)

-- what is held of a line that grows
take-append_taken : (n : ℕ) (xs ys : List ℕ) → take n (take n xs ++ ys) ≡ take n (xs ++ ys)
take-append_taken n xs ys =
    elim (cases_lt (length xs) n) [
      | inl short ↦ ap (λ l. take n (l ++ ys)) (take_all n xs (omega arith))
      | inr long ↦
          let held : n ≤ length (take n xs) = omega (arith, length-take-le n xs long) in
          take-append-le n (take n xs) ys held ∙ take-take n n xs (omega arith) ∙ sym (take-append-le n xs ys long)
    ]

-- these bytes, with no line feed, were consumed, and are the line so far
pub record Begun (max_length : ℕ) (before after : Option (List ℕ)) (cut : Cut) (so_far : List ℕ) : Type 0 where
  pub unbroken : HasNoLineFeed so_far
  pub consumed : Consumes before after so_far
  pub counted : cut.line_length ≡ length so_far
  pub kept : cut.line ≡ take max_length so_far

-- the prefix of the unread bytes was consumed
Consumes-unread : (known : Option (List ℕ)) (unread part rest : List ℕ) → unread ≡ part ++ rest
    → Consumes (prepend_known unread known) (prepend_known rest known) part
Consumes-unread None unread part rest e = tt
Consumes-unread (Some xs) unread part rest e = ap (λ l. l ++ xs) e ∙ append_assoc part rest xs

-- all the unread bytes were consumed, and new ones read
Consumes-refilled : (old new : Option (List ℕ)) (unread read : List ℕ) → Consumes old new read
    → Consumes (prepend_known unread old) (prepend_known read new) unread
Consumes-refilled None new unread read p = tt
Consumes-refilled (Some xs) None unread read p = absurd p
Consumes-refilled (Some xs) (Some ys) unread read p = ap (λ l. unread ++ l) p

Extends-line : (max_length : ℕ) (old new : Cut) (so_far part : List ℕ) → old.line ≡ take max_length so_far
    → Extends max_length old new part → new.line ≡ take max_length (so_far ++ part)
Extends-line max_length old new so_far part held more = more.kept ∙ ap (λ l. take max_length (l ++ part)) held
    ∙ take-append_taken max_length so_far part

Extends-length : {max_length : ℕ} (old new : Cut) (so_far part : List ℕ) → old.line_length ≡ length so_far
    → Extends max_length old new part → new.line_length ≡ length (so_far ++ part)
Extends-length old new so_far part counted more = more.counted ∙ ap (λ n. n + length part) counted
    ∙ sym (length-append so_far part)

-- a line feed came
pub CutsLine-at_line_feed : {max_length : ℕ} (before known : Option (List ℕ)) (old new : Cut) (so_far part : List ℕ)
    → Begun max_length before (prepend_known old.unread known) old so_far
    → HasNoLineFeed part → old.unread ≡ part ++ line_feed ∷ new.unread → Extends max_length old new part
    → CutsLine max_length before (prepend_known new.unread known) new (so_far ++ part)
CutsLine-at_line_feed {max_length} before known old new so_far part begun unbroken split more =
    let its_end : List ℕ = line_feed ∷ [] in
    let prefix : old.unread ≡ (part ++ its_end) ++ new.unread = split ∙ sym (append_assoc part its_end new.unread) in
    let consumed = Consumes-trans before _ _ so_far (part ++ its_end) begun.consumed
    (Consumes-unread known old.unread (part ++ its_end) new.unread prefix) in
    record {
      unbroken = HasNoLineFeed-append so_far part begun.unbroken unbroken;
      consumed = subst (Consumes before (prepend_known new.unread known)) (sym (append_assoc so_far part its_end))
          consumed;
      counted = Extends-length old new so_far part begun.counted more;
      kept = λ short. Extends-line max_length old new so_far part begun.kept more
          ∙ take_all max_length (so_far ++ part) short;
    }

-- no line feed came, and the next piece was read
pub Begun-refilled : {max_length : ℕ} (before known later : Option (List ℕ)) (old mid new : Cut) (so_far : List ℕ)
    → Begun max_length before (prepend_known old.unread known) old so_far
    → HasNoLineFeed old.unread → Extends max_length old mid old.unread → new.line ≡ mid.line
    → new.line_length ≡ mid.line_length → Consumes known later new.unread
    → Begun max_length before (prepend_known new.unread later) new (so_far ++ old.unread)
Begun-refilled {max_length} before known later old mid new so_far begun unbroken more line line_length read = record {
  unbroken = HasNoLineFeed-append so_far old.unread begun.unbroken unbroken;
  consumed = Consumes-trans before _ _ so_far old.unread begun.consumed
      (Consumes-refilled known later old.unread new.unread read);
  counted = line_length ∙ Extends-length old mid so_far old.unread begun.counted more;
  kept = line ∙ Extends-line max_length old mid so_far old.unread begun.kept more;
}

-- what was taken by one read after others
pub Takes-more : (a b c : Option (List ℕ)) (old now mid new : Cut) (bytes more : List ℕ) → Takes a b old now bytes
    → mid.taken ≡ now.taken → Takes b c mid new more
    → Takes a c old new (bytes ++ more)
Takes-more a b c old now mid new bytes more before same after = record {
  consumed = Consumes-trans a b c bytes more before.consumed after.consumed;
  counted =
      let both = length-append bytes more in
      let first = before.counted in
      let second = after.counted in
      omega arith;
}

-- a turn more was taken
pub work_left-after_turn : (turns later : ℕ) (old new : List ℕ) → turns < later → later ≤ MAX_READS
    → length new ≤ MAX_PIECE_LENGTH → work_left later new ≤ work_left turns old
work_left-after_turn turns later old new more within short = omega arith

-- nothing is left
pub CutsRest-at_end : {max_length : ℕ} (before after : Option (List ℕ)) (cut : Cut) (rest : List ℕ)
    → Begun max_length before after cut rest → length cut.unread ≡ 0 → CutsRest before after cut rest
CutsRest-at_end before after cut rest begun empty = record {
  unbroken = begun.unbroken;
  consumed = begun.consumed;
  counted = begun.counted;
  none_left = nil_from_length cut.unread empty;
}
