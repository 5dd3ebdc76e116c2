-- Each input is cut into lines at its line feeds, and each line stands for an item.
use Rattle.std.proofs.Common.{◌≡◌, ◌==◌, ℕ, Bool, true, false, List, [], ◌∷◌, Option, refl, ap, ◌∙◌, subst, ◌++◌, None}
use Rattle.std.proofs.Common.{Some, sym, append_assoc, inl, inr, length, arith}
use Rattle.std.proofs.lemmas.Bool.{eqb-true, eqb-false}
use Rattle.std.proofs.lemmas.List.{append-nil, length-append}
use Rattle.register_requests.specs.{declared.request.Request.Request, Request.IsLineOf, Request.IsItem}
use Rattle.register_requests.proofs.Lines.{item_has}
use Rattle.streams.specs.{Lines.line_feed, Lines.HasNoLineFeed, Lines.CutsLine, Watched.IsFaulted}
use Rattle.register_desk.specs.Input.{IsCutInto, AreItems, HasItems, with_line_feeds}
use Rattle.register_desk.specs.declared.end.End.TheVariants.{BadHeader, Broken, Memory, ReadFault, Store, WriteFault}
use Rattle.register_desk.specs.declared.outcome.Finish.TheVariants.{AtEnd, Ended}
use Rattle.register_desk.specs.Run.{IsCustodyNext, LeavesDesk, max_reads}
use Rattle.register_desk.specs.RequestLines.{LinesCame, LinesEnd, LinesFail, Place, ReadsOn, ahead}
use Rattle.register_desk.specs.{declared.desk.Desk.Desk, declared.end.End.End, declared.outcome.Finish.Finish}
use Rattle.register_desk.specs.{Items.Serves, Within.AreAhead}
use Rattle.register_desk.specs.{Desk.IsWhole, RunProgress.LeavesItem}
use Rattle.std.specs.{List.AllByRecursion, Io.KnownBytes.Consumes, Io.KnownBytes.IsAtEnd, Io.KnownBytes.prepend_known}
use Rattle.sqlite_trees.specs.declared.store.Store.{Ghosts}
use Rattle.register_core.proofs.Lawful.{all_more}
use Rattle.register_desk.proofs.{Answering.there, Serving.ended_is, Serving.next_so}

-- the lines of some bytes, and the rest
record Cuts (bytes : List ℕ) : Type 0 where
  lines : List (List ℕ)
  rest : List ℕ
  cut : IsCutInto bytes lines rest

-- one byte more in prefix, which is no line feed, is of the first line, or of the rest where there is no line
longer : (byte : ℕ) (bytes : List ℕ) → (byte ≡ line_feed → ⊥) → (lines : List (List ℕ)) (rest : List ℕ)
    → IsCutInto bytes lines rest → Cuts (byte ∷ bytes)
longer byte bytes other [] rest cut = record {
  lines = [];
  rest = byte ∷ rest;
  cut = record {
    whole = ap (λ (l : List ℕ). byte ∷ l) cut.whole;
    unbroken = tt;
    rest_unbroken = (other, cut.rest_unbroken);
  };
}
longer byte bytes other (line ∷ lines) rest cut = record {
  lines = (byte ∷ line) ∷ lines;
  rest = rest;
  cut = record {
    whole = ap (λ (l : List ℕ). byte ∷ l) cut.whole;
    unbroken = ((other, cut.unbroken.0), cut.unbroken.1);
    rest_unbroken = cut.rest_unbroken;
  };
}

one_more : (byte : ℕ) (bytes : List ℕ) → Cuts bytes → (b : Bool) → (byte == line_feed) ≡ b → Cuts (byte ∷ bytes)
one_more byte bytes cuts true is = record {
  lines = [] ∷ cuts.lines;
  rest = cuts.rest;
  cut = record {
    whole = ap (λ (c : ℕ). c ∷ bytes) (eqb-true byte line_feed is) ∙ ap (λ (l : List ℕ). line_feed ∷ l) cuts.cut.whole;
    unbroken = (tt, cuts.cut.unbroken);
    rest_unbroken = cuts.cut.rest_unbroken;
  };
}
one_more byte bytes cuts false is = longer byte bytes (eqb-false byte line_feed is) cuts.lines cuts.rest cuts.cut

cuts_of : (bytes : List ℕ) → Cuts bytes
cuts_of [] = record { lines = []; rest = []; cut = record { whole = refl; unbroken = tt; rest_unbroken = tt } }
cuts_of (byte ∷ bytes) = one_more byte bytes (cuts_of bytes) (byte == line_feed) refl

items_of : (lines : List (List ℕ)) → (items : List (Option Request)) × AreItems lines items
items_of [] = ([], tt)
items_of (line ∷ lines) =
    let item = item_has line in
    let more = items_of lines in
    (item.0 ∷ more.0, (item.1, more.1))

pub items_in : (bytes : List ℕ) → (items : List (Option Request)) × (rest : List ℕ) × HasItems bytes items rest
items_in bytes =
    let cuts = cuts_of bytes in
    let items = items_of cuts.lines in
    (items.0, cuts.rest, (cuts.lines, cuts.cut, items.1))

-- ---- Lines that were taken one after the other are those that the whole input is cut into.

-- what is cut off at the first line feed
pub record SameCut (a b x y : List ℕ) : Type 0 where
  pub prefix : a ≡ b
  pub back : x ≡ y

-- two lines that begin the same bytes are the same line
pub first_line : (a b x y : List ℕ) → HasNoLineFeed a → HasNoLineFeed b → a ++ line_feed ∷ x ≡ b ++ line_feed ∷ y
    → SameCut a b x y
first_line [] [] x y p q e = record { prefix = refl; back = cc }
first_line [] (d ∷ b) x y p q e = let same : line_feed ≡ d = cc in absurd (q.0 (sym same))
first_line (c ∷ a) [] x y p q e = let same : c ≡ line_feed = cc in absurd (p.0 same)
first_line (c ∷ a) (d ∷ b) x y p q e =
    let head : c ≡ d = cc in
    let rest : a ++ line_feed ∷ x ≡ b ++ line_feed ∷ y = cc in
    let more = first_line a b x y p.1 q.1 rest in
    record { prefix = ap (λ (n : ℕ). n ∷ a) head ∙ ap (λ (l : List ℕ). d ∷ l) more.prefix; back = more.back }

-- bytes without a line feed do not begin with a line
no_line : (a x rest : List ℕ) → HasNoLineFeed rest → a ++ line_feed ∷ x ≡ rest → ⊥
no_line [] x [] p e = absurd cc
no_line [] x (r ∷ rest) p e = let same : line_feed ≡ r = cc in p.0 (sym same)
no_line (c ∷ a) x [] p e = absurd cc
no_line (c ∷ a) x (r ∷ rest) p e = let same : a ++ line_feed ∷ x ≡ rest = cc in no_line a x rest p.1 same

regroup : (line more : List ℕ) (lines : List (List ℕ))
    → with_line_feeds (line ∷ lines) ++ more ≡ line ++ line_feed ∷ (with_line_feeds lines ++ more)
regroup line more lines =
    append_assoc (line ++ line_feed ∷ []) (with_line_feeds lines) more
    ∙ append_assoc line (line_feed ∷ []) (with_line_feeds lines ++ more)

-- the input has these lines first, then more of them
pub record Begins (all lines : List (List ℕ)) (x rest : List ℕ) : Type 0 where
  pub more : List (List ℕ)
  pub parts : all ≡ lines ++ more
  pub left : x ≡ with_line_feeds more ++ rest
  pub unbroken : AllByRecursion HasNoLineFeed more

pub lines_begin : (all lines : List (List ℕ)) (x rest : List ℕ) → AllByRecursion HasNoLineFeed all
    → AllByRecursion HasNoLineFeed lines → HasNoLineFeed rest →
    with_line_feeds lines ++ x ≡ with_line_feeds all ++ rest → Begins all lines x rest
lines_begin all [] x rest p q r e = record { more = all; parts = refl; left = e; unbroken = p }
lines_begin [] (line ∷ lines) x rest p q r e = absurd
    (no_line line (with_line_feeds lines ++ x) rest r (sym (regroup line x lines) ∙ e))
lines_begin (first ∷ all) (line ∷ lines) x rest p q r e =
    let same = first_line line first _ _ q.0 p.0 (sym (regroup line x lines) ∙ e ∙ regroup first rest all) in
    let begun = lines_begin all lines x rest p.1 q.1 r same.back in
    record {
      more = begun.more;
      parts = ap (λ (l : List ℕ). l ∷ all) (sym same.prefix) ∙ ap (λ (ls : List (List ℕ)). line ∷ ls) begun.parts;
      left = begun.left;
      unbroken = begun.unbroken;
    }

-- what is left has no more lines where it has no line feed
pub none_left : (more : List (List ℕ)) (x rest : List ℕ) → HasNoLineFeed x → x ≡ with_line_feeds more ++ rest
    → (more ≡ []) × (x ≡ rest)
none_left [] x rest p e = (refl, e)
none_left (line ∷ more) x rest p e =
    absurd (no_line line (with_line_feeds more ++ rest) x p (sym (e ∙ regroup line rest more)))

-- ---- items

-- that no bytes are the line of two requests
abbrev pub OneRequest : Type 0
OneRequest = (line : List ℕ) (p q : Request) → IsLineOf line p → IsLineOf line q → p ≡ q

pub one_item : OneRequest → (line : List ℕ) (a b : Option Request) → IsItem line a → IsItem line b → a ≡ b
one_item one line None None p q = refl
one_item one line None (Some b) p q = absurd (p b q)
one_item one line (Some a) None p q = absurd (q a p)
one_item one line (Some a) (Some b) p q = ap (λ (r : Request). Some r) (one line a b p q)

-- the items of the lines first, then those of the others
pub record ItemsBegin (all items : List (Option Request)) (more_lines : List (List ℕ)) : Type 0 where
  pub more : List (Option Request)
  pub parts : all ≡ items ++ more
  pub each : AreItems more_lines more

pub items_begin : OneRequest → (lines more_lines : List (List ℕ)) (all items : List (Option Request))
    → AreItems (lines ++ more_lines) all → AreItems lines items → ItemsBegin all items more_lines
items_begin one [] more_lines all [] p q = record { more = all; parts = refl; each = p }
items_begin one [] more_lines all (item ∷ items) p q = absurd q
items_begin one (line ∷ lines) more_lines [] items p q = absurd p
items_begin one (line ∷ lines) more_lines (a ∷ all) [] p q = absurd q
items_begin one (line ∷ lines) more_lines (a ∷ all) (item ∷ items) p q =
    let begun = items_begin one lines more_lines all items p.1 q.1 in
    record {
      more = begun.more;
      parts = ap (λ (i : Option Request). i ∷ all) (one_item one line a item p.0 q.0)
          ∙ ap (λ (is : List (Option Request)). item ∷ is) begun.parts;
      each = begun.each;
    }

pub no_more_items : (more : List (Option Request)) → AreItems [] more → more ≡ []
no_more_items [] p = refl
no_more_items (item ∷ more) p = absurd p

-- ---- one more at the end

pub are_items_more : (lines : List (List ℕ)) (items : List (Option Request)) (line : List ℕ) (item : Option Request)
    → AreItems lines items → IsItem line item → AreItems (lines ++ line ∷ []) (items ++ item ∷ [])
are_items_more [] [] line item p q = (q, tt)
are_items_more [] (i ∷ items) line item p q = absurd p
are_items_more (l ∷ lines) [] line item p q = absurd p
are_items_more (l ∷ lines) (i ∷ items) line item p q = (p.0, are_items_more lines items line item p.1 q)

pub with_line_feeds_more : (lines : List (List ℕ)) (line : List ℕ)
    → with_line_feeds (lines ++ line ∷ []) ≡ with_line_feeds lines ++ (line ++ line_feed ∷ [])
with_line_feeds_more [] line = append-nil (line ++ line_feed ∷ [])
with_line_feeds_more (l ∷ lines) line =
    ap (λ (bytes : List ℕ). (l ++ line_feed ∷ []) ++ bytes) (with_line_feeds_more lines line)
    ∙ sym (append_assoc (l ++ line_feed ∷ []) (with_line_feeds lines) (line ++ line_feed ∷ []))

-- an input has one list of items, and one rest
pub same_input : OneRequest → (bytes : List ℕ) (items others : List (Option Request)) (rest other : List ℕ)
    → HasItems bytes items rest → HasItems bytes others other → (items ≡ others) × (rest ≡ other)
same_input one bytes items others rest other p q =
    let begun = lines_begin q.0 p.0 rest other q.1.unbroken p.1.unbroken q.1.rest_unbroken
    (sym p.1.whole ∙ q.1.whole) in
    let none = none_left begun.more rest other p.1.rest_unbroken begun.left in
    let begin = items_begin one p.0 begun.more others items (subst (λ ls. AreItems ls others) begun.parts q.2) p.2 in
    let empty : begin.more ≡ [] = no_more_items begin.more (subst (λ ls. AreItems ls begin.more) none.0 begin.each) in
    (sym (begin.parts ∙ ap (λ more. items ++ more) empty ∙ append-nil items), none.1)

-- ---- The items of request lines: those that came are the first of the input's, and what a run over them leaves of its
-- reader.

-- ---- known bytes

consumes_then : (a b c : Option (List ℕ)) (xs ys : List ℕ) → Consumes a b xs → Consumes b c ys
    → Consumes a c (xs ++ ys)
consumes_then None b c xs ys p q = tt
consumes_then (Some a) None c xs ys p q = absurd p
consumes_then (Some a) (Some b) None xs ys p q = absurd q
consumes_then (Some a) (Some b) (Some c) xs ys p q =
    p ∙ ap (λ (l : List ℕ). xs ++ l) q ∙ sym (append_assoc xs ys c)

consumes_none : (a : Option (List ℕ)) → Consumes a a []
consumes_none None = tt
consumes_none (Some a) = refl

known_left : (bytes xs : List ℕ) (b : Option (List ℕ)) → Consumes (Some bytes) b xs
    → (x : List ℕ) × (b ≡ Some x) × (bytes ≡ xs ++ x)
known_left bytes xs None p = absurd p
known_left bytes xs (Some x) p = (x, refl, p)

all_left : (b c : Option (List ℕ)) (x left : List ℕ) → b ≡ Some x → Consumes b c left → IsAtEnd c → x ≡ left
all_left None c x left same consumed end = absurd cc
all_left (Some y) None x left same consumed end = absurd consumed
all_left (Some y) (Some z) x left same consumed end =
    let is : y ≡ x = cc in sym is ∙ consumed ∙ ap (λ (l : List ℕ). left ++ l) end ∙ append-nil left

nothing_unread : (unread : List ℕ) (a : Option (List ℕ)) → unread ≡ [] → prepend_known unread a ≡ a
nothing_unread unread None e = refl
nothing_unread unread (Some xs) e = ap (λ (prefix : List ℕ). Some (prefix ++ xs)) e

-- ---- from place to place

module _ {R : Type 0} {remaining : R → Option (List ℕ)} where
  pub reads_none : (place : Place R) → ReadsOn remaining place place
  reads_none place = record {
    bytes = [];
    consumed = consumes_none (remaining place.1.inner);
    counted = omega arith;
    bounded = λ bounded. bounded;
  }

  reads_then : {from to next : Place R} → ReadsOn remaining from to → ReadsOn remaining to next
      → ReadsOn remaining from next
  reads_then {from} {to} {next} one two = record {
    bytes = one.bytes ++ two.bytes;
    consumed = consumes_then (remaining from.1.inner) (remaining to.1.inner) (remaining next.1.inner) one.bytes
        two.bytes one.consumed two.consumed;
    counted = omega (arith, one.counted, two.counted, length-append one.bytes two.bytes);
    bounded = λ bounded. two.bounded (one.bounded bounded);
  }

  pub lines_none : (place : Place R) → LinesCame remaining place place []
  lines_none place = record {
    lines = [];
    unbroken = tt;
    each = tt;
    consumed = consumes_none (ahead remaining place);
    read = reads_none place;
  }

  pub lines_more : {from to : Place R} (next : Place R) {items : List (Option Request)} {most : ℕ} (line : List ℕ)
      (item : Option Request) → LinesCame remaining from to items
      → CutsLine most (ahead remaining to) (ahead remaining next) next.0 line → IsItem line item
      → ReadsOn remaining to next → LinesCame remaining from next (items ++ item ∷ [])
  lines_more {from} {to} next {items} line item came cut is read = record {
    lines = came.lines ++ line ∷ [];
    unbroken = all_more HasNoLineFeed came.lines line came.unbroken cut.unbroken;
    each = are_items_more came.lines items line item came.each is;
    consumed = subst (Consumes (ahead remaining from) (ahead remaining next))
        (sym (with_line_feeds_more came.lines line))
        (consumes_then (ahead remaining from) (ahead remaining to) (ahead remaining next) (with_line_feeds came.lines)
        (line ++ line_feed ∷ []) came.consumed cut.consumed);
    read = reads_then came.read read;
  }

-- ---- what came is the first of the input

-- the items that came, and those that are left with their lines
record Splits (all items : List (Option Request)) (left rest : List ℕ) : Type 0 where
  more : List (Option Request)
  more_lines : List (List ℕ)
  parts : all ≡ items ++ more
  each : AreItems more_lines more
  left_is : left ≡ with_line_feeds more_lines ++ rest

splits : OneRequest → (bytes left : List ℕ) (all : List (Option Request)) (rest : List ℕ) (lines : List (List ℕ))
    (items : List (Option Request)) → HasItems bytes all rest → AllByRecursion HasNoLineFeed lines
    → AreItems lines items → bytes ≡ with_line_feeds lines ++ left → Splits all items left rest
splits one bytes left all rest lines items has unbroken each parts =
    let cut = has.1 in
    let begun = lines_begin has.0 lines left rest cut.unbroken unbroken cut.rest_unbroken (sym parts ∙ cut.whole) in
    let items_so = items_begin one lines begun.more all items (subst (λ ls. AreItems ls all) begun.parts has.2) each in
    record {
      more = items_so.more;
      more_lines = begun.more;
      parts = items_so.parts;
      each = items_so.each;
      left_is = begun.left;
    }

module _ {R : Type 0} {remaining : R → Option (List ℕ)} (one : OneRequest) (bytes : List ℕ)
    (all : List (Option Request)) (rest : List ℕ) (has : HasItems bytes all rest) (start : Place R)
    (unread : start.0.unread ≡ []) (known : remaining start.1.inner ≡ Some bytes) where
  left_at : (place : Place R) (items : List (Option Request)) (came : LinesCame remaining start place items)
      → (x : List ℕ) × (ahead remaining place ≡ Some x) × (bytes ≡ with_line_feeds came.lines ++ x)
  left_at place items came =
      known_left bytes (with_line_feeds came.lines) (ahead remaining place)
      (subst (λ (b : Option (List ℕ)). Consumes b (ahead remaining place) (with_line_feeds came.lines))
      (nothing_unread start.0.unread (remaining start.1.inner) unread ∙ known) came.consumed)

  split : (place : Place R) (items : List (Option Request)) (came : LinesCame remaining start place items)
      → Splits all items (left_at place items came).0 rest
  split place items came =
      let left = left_at place items came in
      splits one bytes left.0 all rest came.lines items has came.unbroken came.each left.2

  -- at the end of the input every item came, and the rest is what is left
  whole : (place last : Place R) (items : List (Option Request)) (left : ℕ) → LinesCame remaining start place items
      → LinesEnd remaining place last left → (all ≡ items) × (left ≡ length rest)
  whole place last items left came ends =
      let x = left_at place items came in
      let parts = split place items came in
      let end = subst IsAtEnd (sym (nothing_unread last.0.unread (remaining last.1.inner) ends.none_left))
      ends.at_end in
      let is = all_left (ahead remaining place) (ahead remaining last) x.0 ends.bytes x.1 ends.consumed end in
      let none = none_left parts.more_lines ends.bytes rest ends.unbroken (sym is ∙ parts.left_is) in
      let empty = no_more_items parts.more (subst (λ ls. AreItems ls parts.more) none.0 parts.each) in
      (parts.parts ∙ ap (λ l. items ++ l) empty ∙ append-nil items, ends.counted ∙ ap length none.1)

  pub lines_ahead : AreAhead (LinesCame remaining) (LinesEnd remaining) start all (length rest)
  lines_ahead = record {
    first = λ place items came. let parts = split place items came in (parts.more, parts.parts);
    whole = whole;
  }

-- ---- what a run over them leaves of its reader

-- a desk that is whole after it gave out was so before
whole_before : {S : Type 0} (g : Ghosts S) (kept now : Desk S g) → LeavesDesk kept now (Ended Memory) → IsWhole now
    → (b : Bool) → kept.is_broken ≡ b → IsWhole kept
whole_before g kept now leaves whole false is = is
whole_before g kept now leaves whole true is =
    absurd (let same = ap (λ (d : Desk _ g). d.is_broken) (leaves.broken is) in cc)

module _ {R : Type 0} {remaining : R → Option (List ℕ)} {S : Type 0} {g : Ghosts S} {start last : Place R}
    {old new : Option (List ℕ)} {kept now : Desk S g} {replies : ℕ} where
  pub reads_so : (end : Finish) → Serves (LinesCame remaining) (LinesEnd remaining) (LinesFail remaining) g start last
      old new kept now replies end → ReadsOn remaining start last
  reads_so (AtEnd rest) serves = reads_then serves.to.served.came.read serves.to.ends.read
  reads_so (Ended end) serves = elim serves.to [
    | inl unread ↦ reads_then unread.served.came.read unread.fails.read
    | inr it ↦ it.came.read
  ]

  pub at_end_so : (end : Finish) → Serves (LinesCame remaining) (LinesEnd remaining) (LinesFail remaining) g start last
      old new kept now replies end → (rest : ℕ) → end ≡ AtEnd rest → IsAtEnd (remaining last.1.inner)
  at_end_so (AtEnd left) serves rest is = serves.to.ends.at_end
  at_end_so (Ended end) serves rest is = absurd (cc)

  pub fault_so : (end : Finish) → Serves (LinesCame remaining) (LinesEnd remaining) (LinesFail remaining) g start last
      old new kept now replies end → end ≡ Ended ReadFault → IsFaulted last.1.failed max_reads last.1.turns
  fault_so (AtEnd left) serves is = absurd (cc)
  fault_so (Ended end) serves is = elim serves.to [
    | inl unread ↦ unread.fails.fault
    | inr it ↦ absurd (subst (λ (e : End). LeavesItem g it.mid now it.so_far new it.item e it.part) (ended_is _ _ is)
        it.leaves)
  ]

  pub memory_so : (end : Finish) → LeavesDesk kept now end → Serves (LinesCame remaining) (LinesEnd remaining)
      (LinesFail remaining) g start last old new kept now replies end → end ≡ Ended Memory
      → IsWhole kept × ((all : List (Option Request)) (rest : List ℕ)
      → AreAhead (LinesCame remaining) (LinesEnd remaining) start all (length rest) → IsCustodyNext all replies)
  memory_so (AtEnd left) leaves serves is = absurd (cc)
  memory_so (Ended ReadFault) leaves serves is = absurd (cc)
  memory_so (Ended Store) leaves serves is = absurd (cc)
  memory_so (Ended Broken) leaves serves is = absurd (cc)
  memory_so (Ended WriteFault) leaves serves is = absurd (cc)
  memory_so (Ended BadHeader) leaves serves is = absurd (cc)
  memory_so (Ended Memory) leaves serves is = elim serves.to [
    | inl unread ↦ absurd (let other = unread.fails.is in cc)
    | inr it ↦
        let stop = it.leaves.0 in (
          whole_before g kept now leaves stop.whole kept.is_broken refl,
          λ all rest known.
              let next = next_so rest known Memory it in (
                stop.request,
                there g all it.served.items replies it.served.counted it.item next.0 next.1
                    ∙ ap (λ i. Some i) stop.is,
                stop.looks,
              ),
        )
  ]
