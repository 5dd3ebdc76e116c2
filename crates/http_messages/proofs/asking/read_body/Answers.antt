use Rattle.std.proofs.Common.{◌≡◌, ◌≤◌, ◌<◌, ℕ, List, [], ◌++◌, length, take}
use Rattle.std.proofs.Common.{Result, Err, inl, inr, arith, refl, sym, ap, ◌∙◌, append_assoc, append-nil}
use Rattle.std.proofs.Common.{length-append, length-take, take_all}
use Rattle.std.proofs.lemmas.List.{take-append-le, nil_from_length}
use Rattle.std.proofs.lemmas.Bool.{cases_lt}
use Rattle.std.proofs.KnownBytes.{Consumes-nil, Consumes-trans}
use Rattle.http_messages.specs.declared.asked.{AskFault.AskFault, AskFault.TheVariants.ReadFault}
use Rattle.http_messages.proofs.Answering.{held_first, untold}
use Rattle.http_messages.proofs.asking.read_body.Goals as goal

-- as many as are wanted, of what stood after the head and what came
body_whole : (items after more : List ℕ) (n : ℕ) → items ≡ take n after ++ more → length items ≤ n → n ≤ length items
    → (n ≤ length (after ++ more)) × (items ≡ take n (after ++ more))
body_whole items after more n is few many =
    let both = ap length is ∙ length-append (take n after) more in
    let front = length-take n after in
    let joined = length-append after more in
    elim (cases_lt n (length after)) [
      | inl below ↦
          let none : more ≡ [] = nil_from_length more (omega (arith, both, front, below)) in (
            omega (arith, joined, below),
            is ∙ ap (λ l. take n after ++ l) none ∙ append-nil (take n after)
                ∙ sym (take-append-le n after more (omega (arith, below))),
          )
      | inr above ↦
          let enough : n ≤ length (after ++ more) = omega (arith, both, front, joined, above) in (
            enough,
            is ∙ ap (λ l. l ++ more) (take_all n after above)
                ∙ sym (take_all n (after ++ more) (omega (arith, both, front, joined, above))),
          )
    ]

-- fewer came
body_short : (items after more : List ℕ) (n : ℕ) → items ≡ take n after ++ more → length items < n
    → length (after ++ more) < n
body_short items after more n is few =
    omega (arith, ap length is, length-append (take n after) more, length-take n after, length-append after more)

-- a fault of the reader, told on
told_on : {T U : Type 0} {kept : Result T AskFault} {fault : AskFault} → kept ≡ Err fault → kept ≡ Err ReadFault
    → ◌≡◌ {A = Result U AskFault} (Err fault) (Err ReadFault)
told_on is told = cc

pub reads-init : goal.reads-init
reads-init g c =
    let (all, few) =
    held_first c.args.after.now _ c.extend_from_slice.new.self.items c.args.length c.min-held.result
    c.in-Ok.ensures.items c.new-body.ensures.items c.min-held.ensures in
    record {
      got = ([], Consumes-nil _, all, refl);
      few = few;
      counted = omega arith;
      sound = refl;
      bounded = λ e. e;
    }

pub reads-preserved : goal.reads-preserved
reads-preserved g c =
    let (before, took, is, counted) = c.reads.invariant.got in
    let piece = c.read_body_piece-piece.ensures in
    let (more, long, took_more, kept) = piece.bytes in
    let grown = rw c.in-Ok-kept.is at kept in
    let held = ap length grown ∙ length-append c.reads.body.items more in
    record {
      got = (
        before ++ more,
        Consumes-trans _ _ _ _ _ took took_more,
        grown ∙ ap (λ l. l ++ more) is ∙ append_assoc (take c.args.length c.args.after.now) before more,
        omega (arith, length-append before more, counted, long),
      );
      few = omega (arith, held, long, piece.few);
      counted = omega (arith, held, long, c.reads.invariant.counted);
      sound = (rw c.in-Ok-kept.is at piece.sound) ∙ c.reads.invariant.sound;
      bounded = λ e. piece.bounded (c.reads.invariant.bounded e);
    }

pub returns-in-Err : goal.returns-in-Err
returns-in-Err g c = rw c.unfinished.ensures (record {
  gets = tt;
  read = ([], Consumes-nil _, refl);
  few = omega arith;
  tells = untold _ _ refl;
  fault = λ memory. absurd (cc);
  bounded = λ e. e;
})

pub returns-in-Err-kept : goal.returns-in-Err-kept
returns-in-Err-kept g c =
    let (before, took, is, counted) = c.reads.invariant.got in
    let piece = c.read_body_piece-piece.ensures in
    let (more, long, took_more, kept) = piece.bytes in
    rw c.unfinished-in-Err-kept.ensures (record {
      gets = tt;
      read = (
        before ++ more,
        Consumes-trans _ _ _ _ _ took took_more,
        omega (arith, length-append before more, counted, long),
      );
      few = omega (arith, piece.few, c.reads.invariant.counted);
      tells = λ sound failed. told_on c.in-Err-kept.is (piece.tells (c.reads.invariant.sound ∙ sound) failed);
      fault = rw c.in-Err-kept.is at piece.fault;
      bounded = λ e. piece.bounded (c.reads.invariant.bounded e);
    })

pub returns-then-piece-eq0 : goal.returns-then-piece-eq0
returns-then-piece-eq0 g c =
    let (before, took, is, counted) = c.reads.invariant.got in
    let piece = c.read_body_piece-piece.ensures in
    let (more, long, took_more, kept) = piece.bytes in
    let none : more ≡ [] = nil_from_length more (omega (arith, long)) in
    rw c.unfinished-then-piece-eq0.ensures (record {
      gets = (
        before ++ more,
        Consumes-trans _ _ _ _ _ took took_more,
        (rw c.in-Ok-kept.is at piece.end) c.if-piece-eq0.true,
        body_short c.reads.body.items c.args.after.now (before ++ more) c.args.length
            (is ∙ ap (λ l. take c.args.length c.args.after.now ++ l)
            (sym (append-nil before) ∙ ap (λ l. before ++ l) (sym none))) (omega arith),
      );
      read = (
        before ++ more,
        Consumes-trans _ _ _ _ _ took took_more,
        omega (arith, length-append before more, counted, long),
      );
      few = omega (arith, piece.few, c.reads.invariant.counted);
      tells = untold _ _ ((rw c.in-Ok-kept.is at piece.sound) ∙ c.reads.invariant.sound);
      fault = tt;
      bounded = λ e. piece.bounded (c.reads.invariant.bounded e);
    })

pub reads-smaller : goal.reads-smaller
reads-smaller g c =
    let piece = c.read_body_piece-piece.ensures in
    let (more, long, took_more, kept) = piece.bytes in
    let grown = rw c.in-Ok-kept.is at kept in
    let held = ap length grown ∙ length-append c.reads.body.items more in
    omega (arith, held, long, piece.few)

pub returns : goal.returns
returns g c =
    let (more, took, is, counted) = c.reads.invariant.got in
    let (enough, all) = body_whole c.reads.body.items c.args.after.now more c.args.length is c.reads.invariant.few
    (omega arith) in
    record {
      gets = (more, took, enough, all);
      read = (more, took, counted);
      few = omega (arith, c.reads.invariant.counted, c.reads.invariant.few);
      tells = untold _ _ c.reads.invariant.sound;
      fault = tt;
      bounded = c.reads.invariant.bounded;
    }
