-- Lemmas on the bytes that were read while a head was looked for.
use Rattle.std.proofs.Common.{◌≡◌, ℕ, ◌+◌, ◌≤◌, List, ◌++◌, length, take, ap, sym, ◌∙◌, length-take-le}
use Rattle.std.proofs.lemmas.List.{take-append-le}
use Rattle.std.proofs.Math.Seq.{take-append-add}
use borrow.Rule.Slice.PartMut.{put_mid, post_of}

-- after a read after the first bytes
pub take-refilled : (held new : List ℕ) (filled k count : ℕ) → filled ≤ length held → count ≤ length new
    → take (filled + count) (put_mid filled k held new) ≡ take filled held ++ take count new
take-refilled held new filled k count within some =
    let after = post_of filled k held in
    let long : length (take filled held) ≡ filled = length-take-le filled held within in
    ap (λ n. take (n + count) (take filled held ++ (new ++ after))) (sym long)
    ∙ take-append-add (take filled held) (new ++ after) count
    ∙ ap (λ l. take filled held ++ l) (take-append-le count new after some)
