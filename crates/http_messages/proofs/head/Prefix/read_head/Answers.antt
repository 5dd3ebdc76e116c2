use Rattle.std.proofs.Common.{◌≡◌, [], length, refl, sym, ap, subst, ◌∙◌, arith, rules}
use Rattle.std.proofs.KnownBytes.{Consumes-nil, Consumes-trans, Consumes-kept}
use Rattle.std.proofs.lemmas.Grind.{common_steps}
use Rattle.std.proofs.lemmas.Result.{IfOk-from_err, MatchResult-from_err}
use Rattle.std.specs.Io.KnownBytes.{Consumes, IsAtEnd}
use Rattle.http_messages.specs.HeadSearch.{FindsHead, FindsBad, FindsLarge}
use Rattle.http_messages.proofs.head.Prefix.read_head.Goals as goal

pub reads-init : goal.reads-init
reads-init g c = record {
  bytes = subst (Consumes _ _) (sym c.requires) (Consumes-nil _);
  sound = refl;
  turns = omega arith;
  bounded = λ e. e;
}

pub reads-preserved : goal.reads-preserved
reads-preserved g c =
    let held = c.reads.invariant in
    let read = c.in_ok-read_more_bytes.ensures in
    let (more, joined, long, took) = read.bytes in
    record {
      bytes = subst (Consumes _ _) (sym joined) (Consumes-trans _ _ _ _ _ held.bytes took);
      sound = read.sound ∙ held.sound;
      turns = omega (arith, read.turns, held.turns);
      bounded = λ e. read.bounded (held.bounded e);
    }

pub reads-smaller : goal.reads-smaller
reads-smaller g c = omega (arith, c.in_ok-read_more_bytes.ensures.later, c.in_ok-read_more_bytes.ensures.bound)

pub returns-in-Ok-Complete : goal.returns-in-Ok-Complete
returns-in-Ok-Complete g c =
    let held = c.reads.invariant in
    let found : FindsHead c.reads.self c.parse_request.new.headers c.in-Ok-Complete.spans = search rules in
    record {
      found = found;
      bytes = held.bytes;
      short = omega (arith, c.bytes.ensures.short, ap length c.bytes.ensures.value);
      sound = held.sound;
      err = tt;
      turns = held.turns;
      bounded = held.bounded;
    }

pub returns-in-Err : goal.returns-in-Err
returns-in-Err g c =
    let held = c.reads.invariant in
    let found : FindsBad c.reads.self (g.R.Read.remaining c.reads.reader.inner) = search rules in
    record {
      found = found;
      bytes = held.bytes;
      short = omega (arith, c.bytes.ensures.short, ap length c.bytes.ensures.value);
      sound = held.sound;
      err = tt;
      turns = held.turns;
      bounded = held.bounded;
    }

pub returns-then-bytes-eq-MAX_HEAD_LENGTH : goal.returns-then-bytes-eq-MAX_HEAD_LENGTH
returns-then-bytes-eq-MAX_HEAD_LENGTH g c =
    let held = c.reads.invariant in
    let found : FindsLarge c.reads.self = search rules in
    record {
      found = found;
      bytes = held.bytes;
      short = omega (arith, c.bytes.ensures.short, ap length c.bytes.ensures.value);
      sound = held.sound;
      err = tt;
      turns = held.turns;
      bounded = held.bounded;
    }

pub returns-in_err-read_more_bytes : goal.returns-in_err-read_more_bytes
returns-in_err-read_more_bytes g c =
    let held = c.reads.invariant in
    let read = c.in_err-read_more_bytes.ensures in
    let result = c.from_residual.result in
    let is_err = c.from_residual.ensures.0 in
    record {
      found = IfOk-from_err result _ is_err;
      bytes = subst (Consumes _ _) (sym read.kept.0) (Consumes-kept _ _ _ _ held.bytes read.kept.1);
      short = omega (arith, c.bytes.ensures.short, ap length c.bytes.ensures.value, ap length read.kept.0);
      sound = IfOk-from_err result _ is_err;
      err = MatchResult-from_err result _ _ is_err (λ _. read.err);
      turns = omega (arith, read.turns, held.turns);
      bounded = λ e. read.bounded (held.bounded e);
    }

pub returns-then-is_empty : goal.returns-then-is_empty
returns-then-is_empty g c =
    let held = c.reads.invariant in
    let read = c.in_ok-read_more_bytes.ensures in
    let (more, joined, long, took) = read.bytes in
    let found : (c.read_more_bytes.new.self ≡ []) × IsAtEnd (g.R.Read.remaining c.read_more_bytes.new.reader.inner) =
    grind (arith, common_steps) in
    record {
      found = found;
      bytes = subst (Consumes _ _) (sym joined) (Consumes-trans _ _ _ _ _ held.bytes took);
      short = omega (arith, c.bytes-then-branch-eq0.ensures.short, ap length c.bytes-then-branch-eq0.ensures.value);
      sound = read.sound ∙ held.sound;
      err = tt;
      turns = omega (arith, read.turns, held.turns);
      bounded = λ e. read.bounded (held.bounded e);
    }

pub returns-then-branch-eq0 : goal.returns-then-branch-eq0
returns-then-branch-eq0 g c =
    let held = c.reads.invariant in
    let read = c.in_ok-read_more_bytes.ensures in
    let (more, joined, long, took) = read.bytes in
    let found : FindsBad c.read_more_bytes.new.self (g.R.Read.remaining c.read_more_bytes.new.reader.inner) =
    grind (arith, common_steps) in
    record {
      found = found;
      bytes = subst (Consumes _ _) (sym joined) (Consumes-trans _ _ _ _ _ held.bytes took);
      short = omega (arith, c.bytes-then-branch-eq0.ensures.short, ap length c.bytes-then-branch-eq0.ensures.value);
      sound = read.sound ∙ held.sound;
      err = tt;
      turns = omega (arith, read.turns, held.turns);
      bounded = λ e. read.bounded (held.bounded e);
    }
