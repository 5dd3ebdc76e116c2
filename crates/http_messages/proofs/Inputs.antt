-- What was found in the bytes that were read is so of the whole input.
use Rattle.std.proofs.Common.{◌≡◌, ℕ, ◌+◌, ◌-◌, ◌≤◌, inl, inr, List, ◌++◌, length, take, drop, Option, Some, None, refl}
use Rattle.std.proofs.Common.{sym, ap, subst, ◌∙◌, arith, append_assoc, length-append, length-take, Result, Ok}
use Rattle.std.proofs.Math.Seq.{take-append-add}
use Rattle.std.proofs.lemmas.List.{append-nil, length-map}
use Rattle.std.proofs.lemmas.Result.{IfOk-weaker}
use Rattle.std.specs.{Prelude.IfOk, Prelude.IsSomeAnd, Io.KnownBytes.Consumes}
use Rattle.httparse.specs.Grammar.{RequestHead, ReadsRequest, HasNoRequest, NeverHasRequest, MayBecomeRequest}
use Rattle.httparse.specs.Spans.{IsRequestAt, IsRequestWithin, header_bytes, name_and_value}
use Rattle.httparse.specs.{declared.spans.HeaderSpan.HeaderSpan, declared.spans.RequestSpans.RequestSpans}
use Rattle.httparse.proofs.GrammarLemmas.{ReadsRequest-append}
use Rattle.http_messages.specs.Head.{prefix, max_head_length, max_headers, HasManyLines, HasHead, HasBadHead}
use Rattle.http_messages.specs.Head.{HasLargeHead, BreaksOff}
use Rattle.http_messages.specs.HeadSearch.{FindsBad, FindsLarge, FindsHead}
use Rattle.http_messages.specs.declared.asked.AskFault.{AskFault}
use Rattle.http_messages.specs.Asked.{AsksSome, AsksFor, AsksAfter, whole_head}
use Rattle.http_messages.specs.{declared.asked.Asked.Asked, declared.asking.Asking.Asking}
use Rattle.http_messages.proofs.Answering.{left_is, left_at_end}

never_more : (bytes more : List ℕ) → NeverHasRequest bytes → NeverHasRequest (bytes ++ more)
never_more bytes more never =
    λ others h rest reads.
    let joined = append_assoc bytes more others in
    never (more ++ others) h rest (subst (λ b. ReadsRequest b h rest) joined reads)

many_more : (bytes more : List ℕ) → HasManyLines bytes → HasManyLines (bytes ++ more)
many_more bytes more many =
    let (start, rest, e, h, reads, over) = many.lines in
    record {
      lines = (start, rest ++ more, ap (λ l. l ++ more) e ∙ append_assoc start rest more, h, reads, over);
      over =
          λ others k q reads'.
          let joined = append_assoc bytes more others in
          many.over (more ++ others) k q (subst (λ b. ReadsRequest b k q) joined reads');
    }

-- the prefix of the input begins with what was read
prefix_is : (bytes rest : List ℕ) → length bytes ≤ max_head_length
    → prefix (bytes ++ rest) ≡ bytes ++ take (max_head_length - length bytes) rest
prefix_is bytes rest short =
    let whole : max_head_length ≡ length bytes + (max_head_length - length bytes) = omega arith in
    ap (λ n. take n (bytes ++ rest)) whole ∙ take-append-add bytes rest (max_head_length - length bytes)

pub bad_input : (old new : Option (List ℕ)) (input bytes : List ℕ) → old ≡ Some input → Consumes old new bytes
    → length bytes ≤ max_head_length → FindsBad bytes new → HasBadHead input
bad_input old new input bytes known took short found =
    let (rest, whole) = left_is old new bytes input known took in
    let more = take (max_head_length - length bytes) rest in
    let here : prefix input ≡ bytes ++ more = ap prefix whole ∙ prefix_is bytes rest short in
    elim found [
      | inl never ↦ inl (subst NeverHasRequest (sym here) (never_more bytes more never))
      | inr other ↦ elim other [
        | inl over ↦ inr (inl (subst HasManyLines (sym here) (many_more bytes more over)))
        | inr (some, cut, none, end) ↦
            let all : input ≡ bytes = left_at_end old new bytes input known took end in
            inr (inr (subst BreaksOff (sym all) (record { some = some; short = cut; none = none })))
      ]
    ]

pub large_input : (old new : Option (List ℕ)) (input bytes : List ℕ) → old ≡ Some input
    → Consumes old new bytes → FindsLarge bytes → HasLargeHead input
large_input old new input bytes known took found =
    let (rest, whole) = left_is old new bytes input known took in
    let short : length bytes ≤ max_head_length = omega (arith, found.full) in
    let none_more : max_head_length - length bytes ≡ 0 = omega (arith, found.full) in
    let here : prefix input ≡ bytes =
    ap prefix whole ∙ prefix_is bytes rest short ∙ ap (λ n. bytes ++ take n rest) none_more ∙ append-nil bytes in
    let long : length input ≡ length bytes + length rest = ap length whole ∙ length-append bytes rest in
    record {
      long = omega (arith, found.full, long);
      none = subst HasNoRequest (sym here) found.none;
      may = subst MayBecomeRequest (sym here) found.may;
    }

head_of : (input bytes rest : List ℕ) (headers : List HeaderSpan) (spans : RequestSpans)
    → input ≡ bytes ++ rest → length bytes ≤ max_head_length → length headers ≡ max_headers
    → (h : RequestHead) → IsRequestAt bytes headers spans h → IsRequestWithin bytes headers spans
    → HasHead input h (drop spans.len bytes ++ rest)
head_of input bytes rest headers spans whole short room h at within =
    let fields : length (take spans.headers headers) ≡ length h.fields =
    sym (length-map (take spans.headers headers) (header_bytes bytes)) ∙ ap length at.fields
    ∙ length-map h.fields name_and_value in
    let left = drop spans.len bytes in
    let reads = ReadsRequest-append bytes h left rest at.reads in
    record {
      reads = subst (λ b. ReadsRequest b h (left ++ rest)) (sym whole) reads;
      within = omega (arith, at.len, within.section.len_fits, short);
      few = omega (arith, fields, length-take spans.headers headers, room);
    }

some_is : (xs ys : List ℕ) → Some xs ≡ Some ys → xs ≡ ys
some_is xs ys e = cc

left_known : (old new : Option (List ℕ)) (more left : List ℕ) → old ≡ Some left → Consumes old new more
    → (rest : List ℕ) × (new ≡ Some rest) × (left ≡ more ++ rest)
left_known None new more left e p = absurd (cc)
left_known (Some xs) None more left e p = absurd p
left_known (Some xs) (Some ys) more left e p = (ys, refl, some_is left xs (sym e) ∙ p)

-- what is asked after a head is asked
some_asked : (input : List ℕ) (h : RequestHead) (rest : List ℕ) → HasHead input h rest → (o : Option Asked)
    → IsSomeAnd o (AsksAfter h rest) → AsksFor input o
some_asked input h rest head (Some a) asks = whole_head h rest a head asks
some_asked input h rest head None asks = absurd asks

pub whole_asked : (old new : Option (List ℕ)) (input bytes shown : List ℕ) (headers : List HeaderSpan)
    (spans : RequestSpans) (r : Result (Option Asked) AskFault) → old ≡ Some input → Consumes old new bytes
    → length bytes ≤ max_head_length → length headers ≡ max_headers → FindsHead bytes headers spans → shown ≡ bytes
    → ((h : RequestHead) (left : List ℕ) → IsRequestAt shown headers spans h → new ≡ Some left
    → IfOk r (λ o. IsSomeAnd o (AsksAfter h (drop spans.len shown ++ left))))
    → IfOk r (AsksFor input)
whole_asked old new input bytes shown headers spans r known took short room found same asks =
    let (rest, left, whole) = left_known old new bytes input known took in
    let head : HasHead input found.h (drop spans.len bytes ++ rest) =
    head_of input bytes rest headers spans whole short room found.h found.at found.within in
    let at : IsRequestAt shown headers spans found.h =
    subst (λ b. IsRequestAt b headers spans found.h) (sym same) found.at in
    let after : drop spans.len shown ++ rest ≡ drop spans.len bytes ++ rest =
    ap (λ b. drop spans.len b ++ rest) same in
    IfOk-weaker r _ _
    (λ o asked. some_asked input found.h _ head o (subst (λ b. IsSomeAnd o (AsksAfter found.h b)) after asked))
    (asks found.h rest at left)

-- what is asked where nothing is read after the head
pub unread_asks : (input : List ℕ) (a : Asked) (o : Asking) → o ≡ record { read = 0; asked = Ok (Some a) }
    → AsksSome input a → IfOk o.asked (AsksFor input)
unread_asks input a o e asks = subst (λ (o : Asking). IfOk o.asked (AsksFor input)) (sym e) asks
