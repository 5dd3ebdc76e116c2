use Rattle.std.proofs.Common.{◌≡◌, ◌≢◌, ℕ, ◌+◌, ◌<◌, ◌≤◌, min, List, [], ◌∷◌, length, arith, refl, sym, ap, subst, ◌∙◌}
use Rattle.http_messages.specs.Asked.{max_body_length, encoded, no_length, bad_length, large_body, no_sender}
use Rattle.http_messages.specs.{HeaderFields.AreFound, HeaderFields.IsLength, declared.header_fields.Values.Values}
use Rattle.http_messages.specs.declared.header_fields.Values.TheVariants as found
use Rattle.http_messages.proofs.asking.body_length_and_sender_of.Goals as goal

one_not_none : (vs : List (List ℕ)) (v : List ℕ) → vs ≡ v ∷ [] → vs ≢ []
one_not_none vs v e f = let both = sym e ∙ f in absurd (cc)

several_not_none : (vs : List (List ℕ)) → 2 ≤ length vs → vs ≢ []
several_not_none vs p f = let none : length vs ≡ 0 = ap length f in omega arith

some_value : (vs : List (List ℕ)) (values : Values) → AreFound vs values → (values ≡ found.None → ⊥) → vs ≢ []
some_value vs found.None is other = absurd (other refl)
some_value vs (found.One v) is other = one_not_none vs v.now is
some_value vs found.Several is other = several_not_none vs is

several_not_one : (vs : List (List ℕ)) (v : List ℕ) → 2 ≤ length vs → vs ≡ v ∷ [] → ⊥
several_not_one vs v p f = let one : length vs ≡ 1 = ap length f in omega arith

same_one : (vs : List (List ℕ)) (v w : List ℕ) → vs ≡ v ∷ [] → vs ≡ w ∷ [] → w ≡ v
same_one vs v w e f = cc

past : (m n : ℕ) → n ≡ min m (max_body_length + 1) → 65536 < n → max_body_length < m
past m n e p = omega arith

within : (m n : ℕ) → n ≡ min m (max_body_length + 1) → n ≤ 65536 → m ≤ max_body_length
within m n e p = omega arith

pub returns-in_default-clause-err : goal.returns-in_default-clause-err
returns-in_default-clause-err c = λ lines all rest. encoded (some_value _ _ all.transfer_encoding c.in_default.not-None)

pub returns-in-None-content_length-clause-err : goal.returns-in-None-content_length-clause-err
returns-in-None-content_length-clause-err c =
    λ lines all rest. no_length (rw c.in-None-content_length.is at all.content_length)

pub returns-in-Several-clause-err : goal.returns-in-Several-clause-err
returns-in-Several-clause-err c = λ lines all rest.
    let several = rw c.in-Several.is at all.content_length in
    bad_length (rw c.in-None.is at all.transfer_encoding) (several_not_none _ several)
    (λ n a. several_not_one _ a.0 several a.1)

pub returns-in_default-capped_content_length_of-clause-err : goal.returns-in_default-capped_content_length_of-clause-err
returns-in_default-capped_content_length_of-clause-err c = λ lines all rest.
    let one = rw c.in-One.is at all.content_length in
    bad_length (rw c.in-None.is at all.transfer_encoding) (one_not_none _ _ one)
    (λ n a. c.in_default-capped_content_length_of.ensures.none n
    (subst (λ v. IsLength v n) (same_one _ _ a.0 one a.1) a.2))

pub returns-then-length-gt-MAX_BODY_LENGTH-clause-err : goal.returns-then-length-gt-MAX_BODY_LENGTH-clause-err
returns-then-length-gt-MAX_BODY_LENGTH-clause-err c = λ lines all rest.
    let (m, is, cut) = c.in-Some.ensures.found in
    let one = rw c.in-One.is at all.content_length in
    large_body m (rw c.in-None.is at all.transfer_encoding) (c.in-One.text.now, one, is)
    (past m c.in-Some.length cut c.if-length-gt-MAX_BODY_LENGTH.true)

pub returns-in_default-caller_and_number_of-clause-err : goal.returns-in_default-caller_and_number_of-clause-err
returns-in_default-caller_and_number_of-clause-err c = λ lines all rest.
    let (m, is, cut) = c.in-Some.ensures.found in
    let one = rw c.in-One.is at all.content_length in
    no_sender m (rw c.in-None.is at all.transfer_encoding) (c.in-One.text.now, one, is)
    (within m c.in-Some.length cut c.if-length-gt-MAX_BODY_LENGTH.false)
    (λ caller number p. c.in_default-caller_and_number_of.ensures.none lines all caller number p)
