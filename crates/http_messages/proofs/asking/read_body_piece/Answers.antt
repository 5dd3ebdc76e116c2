use Rattle.std.proofs.Common.{◌≡◌, ◌++◌, [], length, take, arith, rules, refl, length-take-le}
use Rattle.std.proofs.KnownBytes.{Consumes-nil, Consumes-kept}
use Rattle.std.proofs.lemmas.Grind.{common_steps}
use Rattle.http_messages.proofs.Answering.{untold}
use Rattle.http_messages.proofs.asking.read_body_piece.Goals as goal

pub returns-in_default : goal.returns-in_default
returns-in_default g c = record {
  bytes = ([], refl, Consumes-kept _ _ _ [] (Consumes-nil _) c.in_default.ensures.kept, tt);
  few = omega arith;
  end = tt;
  sound = tt;
  tells = λ _ _. refl;
  fault = λ _. c.in_default.ensures.err;
  bounded = c.read_piece.ensures.bounded;
}

pub returns-in-Ok-extend_from_slice : goal.returns-in-Ok-extend_from_slice
returns-in-Ok-extend_from_slice g c =
    let count = c.in-Ok.count in
    let piece = c.read_piece.new.piece in
    let read = c.in-Ok.ensures in
    let room : length piece ≡ c.min-room.result = search rules in
    let kept : c.extend_from_slice.new.self.items ≡ c.args.body.now.items ++ take count piece =
    grind (arith, common_steps) in
    record {
      bytes = (take count piece, length-take-le count piece read.bound, read.bytes, kept);
      few = omega (arith, room, read.bound, c.min-room.ensures);
      end = λ none. read.end none (omega (arith, room, c.min-room.ensures, c.requires));
      sound = read.sound;
      tells = untold _ _ read.sound;
      fault = tt;
      bounded = c.read_piece.ensures.bounded;
    }

pub returns-in-Err : goal.returns-in-Err
returns-in-Err g c =
    let count = c.in-Ok.count in
    let piece = c.read_piece.new.piece in
    let read = c.in-Ok.ensures in
    let room : length piece ≡ c.min-room.result = search rules in
    record {
      bytes = (take count piece, length-take-le count piece read.bound, read.bytes, tt);
      few = omega (arith, room, read.bound, c.min-room.ensures);
      end = tt;
      sound = tt;
      tells = untold _ _ read.sound;
      fault = λ memory. absurd (cc);
      bounded = c.read_piece.ensures.bounded;
    }
