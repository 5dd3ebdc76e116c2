use Rattle.std.proofs.Common.{◌≡◌, ◌-◌, ◌≤◌, ℕ, List, [], length, take, drop, slice_range, subst, sym, ap, ◌∙◌}
use Rattle.std.proofs.Common.{arith, length-take, length-drop, length-take-le}
use Rattle.std.proofs.lemmas.Slice.{between_from_start}
use Rattle.std.proofs.lemmas.Result.{IfOk-from_err, MatchResult-from_err}
use Rattle.std.proofs.KnownBytes.{Consumes-nil, Consumes-kept}
use Rattle.std.specs.Io.KnownBytes.{Consumes}
use Rattle.streams.specs.{Lines.Cut, declared.lines.TheConstants.MAX_PIECE_LENGTH}
use Rattle.streams.proofs.lines.Lines.refill.Goals as goal

pub returns : goal.returns
returns g c =
    let count = c.in_ok-count.count in
    let piece = c.read_piece.new.piece in
    let read = c.in_ok-count.ensures in
    let view = c.self.view_is in
    let unread : slice_range piece 0 count ≡ take count piece = between_from_start piece count in
    let long : length (slice_range piece 0 count) ≡ count = ap length unread ∙ length-take-le count piece read.bound in
    let room : length piece ≡ MAX_PIECE_LENGTH = omega (arith, c.read_piece.auto.piece, c.self.told) in
    let taken : c.self.inside.taken ≡ c.args.self.now.taken = ap (λ (cut : Cut). cut.taken) view in
    record {
      line = (ap (λ (cut : Cut). cut.line) view, ap (λ (cut : Cut). cut.line_length) view);
      taken = record {
        consumed = subst (Consumes _ _) (sym unread) read.bytes;
        counted = omega (arith, long, taken);
      };
      count = sym long;
      end = λ none. read.end none (omega (arith, room));
      short = omega (arith, long, room, read.bound);
      within = omega (arith, taken, c.requires.within, read.within.0, room, read.bound);
      later = read.within;
      bounded = c.read_piece.ensures.bounded;
      sound = read.sound;
      err = tt;
      turns = c.read_piece.ensures.turns;
      failed = c.read_piece.ensures.failed;
    }

-- a part that held nothing holds nothing of another piece
no_part : (old new : List ℕ) (start end : ℕ) → end ≤ length old → slice_range old start end ≡ []
    → slice_range new start end ≡ []
no_part old new start end within empty =
    let none : end - start ≡ 0 =
    omega (arith, ap length empty, length-take (end - start) (drop start old), length-drop start old) in
    ap (λ n. take n (drop start new)) none

pub returns-in_err-count : goal.returns-in_err-count
returns-in_err-count g c =
    let result = c.from_residual.result in
    let is_err = c.from_residual.ensures.0 in
    let view = c.self.view_is in
    let piece = c.read_piece.new.piece in
    let inside = c.self.inside in
    let within : inside.end ≤ length inside.piece = omega (arith, c.self.told, c.self.invariant.in_piece) in
    let empty = ap (λ (cut : Cut). cut.unread) view ∙ c.requires.empty in
    let unread : slice_range piece inside.start inside.end ≡ [] =
    no_part inside.piece piece inside.start inside.end within empty in
    let taken : inside.taken ≡ c.args.self.now.taken = ap (λ (cut : Cut). cut.taken) view in
    record {
      line = (ap (λ (cut : Cut). cut.line) view, ap (λ (cut : Cut). cut.line_length) view);
      taken = record {
        consumed = subst (Consumes _ _) (sym unread)
            (Consumes-kept _ _ _ [] (Consumes-nil _) c.in_err-count.ensures.kept);
        counted = omega (arith, ap length unread, taken);
      };
      count = IfOk-from_err result _ is_err;
      end = IfOk-from_err result _ is_err;
      short = omega (arith, ap length unread);
      within = omega (arith, taken, c.requires.within, c.read_piece.ensures.turns);
      later = IfOk-from_err result _ is_err;
      bounded = c.read_piece.ensures.bounded;
      sound = IfOk-from_err result _ is_err;
      err = MatchResult-from_err result _ _ is_err (λ _. c.in_err-count.ensures.err);
      turns = c.read_piece.ensures.turns;
      failed = c.read_piece.ensures.failed;
    }
