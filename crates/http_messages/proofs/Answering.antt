-- What answers a body answers the input that it stands in.
use Rattle.std.proofs.Common.{◌≡◌, ◌≢◌, ℕ, Bool, true, false, ◌+◌, ◌≤◌, List, [], ◌++◌, length, take, min}
use Rattle.std.proofs.Common.{Option, Some, None, sym, ap, subst, ◌∙◌, arith, append_assoc, length-append, length-take}
use Rattle.std.proofs.lemmas.List.{take-append-le, append-nil, take_min}
use Rattle.std.specs.Prelude.{IfOk, IsSomeAnd, IsUtf8, Ok}
use Rattle.std.specs.Io.KnownBytes.{Consumes, IsAtEnd}
use Rattle.serde_json.specs.{Data.Data, Read.read}
use Rattle.register_requests.specs.{declared.request.Command.Command, Request.IsCommand}
use Rattle.http_messages.specs.declared.asked.Asked.TheVariants.{Reject, Apply}
use Rattle.http_messages.specs.declared.asked.Rejection.TheVariants.{BadRequest}
use Rattle.http_messages.specs.Asked.{AsksBody, AsksAfter, cut_short, lines_of, no_command, command, sent}
use Rattle.http_messages.specs.{CommandValue.command_data, declared.asked.Asked.Asked, declared.asking.Asking.Asking}
use Rattle.http_messages.specs.{declared.route.Route.TheVariants.Requests, Within.IsFor, Within.Says}
use Rattle.httparse.specs.Grammar.{RequestHead}
use Rattle.http_messages.specs.declared.asking.Post as post
use Rattle.http_messages.specs.Asked as rule

one_value : (v w : Data) → Some v ≡ Some w → v ≡ w
one_value v w e = cc

some_is : (xs ys : List ℕ) → Some xs ≡ Some ys → xs ≡ ys
some_is xs ys e = cc

module _ (n : ℕ) (caller : List ℕ) (serial : ℕ) (after : List ℕ) where
  pub no_value : (body : List ℕ) → n ≤ length after → body ≡ take n after
      → ((v : Data) → IsUtf8 body → read body ≢ Some v) → AsksBody n caller serial after (Reject BadRequest)
  no_value body within e none =
      no_command within (λ q b. none (command_data q) (subst IsUtf8 (sym e) b.text) (ap read e ∙ b.value))

  pub other_value : (body : List ℕ) (v : Data) → n ≤ length after → body ≡ take n after → read body ≡ Some v
      → ((q : Command) → IsCommand q → v ≢ command_data q) → AsksBody n caller serial after (Reject BadRequest)
  other_value body v within e is_v none =
      no_command within (λ q b. none q b.command (one_value v (command_data q) (sym is_v ∙ ap read e ∙ b.value)))

  pub command_handed : (body : List ℕ) (q : Command) (v : Data) → n ≤ length after → body ≡ take n after
      → IsUtf8 body → read body ≡ Some v → IsCommand q → v ≡ command_data q
      → AsksBody n caller serial after (Apply (record { caller = caller; number = serial; command = q }))
  command_handed body q v within e utf8 is_v is_q same =
      command q within (record {
        command = is_q;
        text = subst IsUtf8 e utf8;
        value = sym (ap read e) ∙ is_v ∙ ap (λ w. Some w) same;
      })

-- ---- faults of the reader

-- a reader that did not fail tells nothing
pub untold : {P : Type 0} (before now : Bool) → now ≡ before → before ≡ false → now ≡ true → P
untold before now same sound failed = absurd (cc)

-- ---- a body of which a part was read with the head

-- what is held at first is the prefix of what stands after the head
pub held_first : (after none items : List ℕ) (n m : ℕ) → items ≡ none ++ take m after → none ≡ []
    → m ≡ min n (length after) → (items ≡ take n after ++ []) × (length items ≤ n)
held_first after none items n m is empty least =
    let same : items ≡ take n after =
    is ∙ ap (λ l. l ++ take m after) empty ∙ ap (λ k. take k after) least ∙ take_min n after in
    (same ∙ sym (append-nil (take n after)), omega (arith, ap length same, length-take n after))

pub left_is : (old new : Option (List ℕ)) (more left : List ℕ) → old ≡ Some left → Consumes old new more
    → (rest : List ℕ) × (left ≡ more ++ rest)
left_is None new more left e p = absurd (cc)
left_is (Some xs) None more left e p = absurd p
left_is (Some xs) (Some ys) more left e p = (ys, some_is left xs (sym e) ∙ p)

pub left_at_end : (old new : Option (List ℕ)) (more left : List ℕ) → old ≡ Some left → Consumes old new more
    → IsAtEnd new → left ≡ more
left_at_end None new more left e p q = absurd (cc)
left_at_end (Some xs) None more left e p q = absurd p
left_at_end (Some xs) (Some ys) more left e p q = some_is left xs (sym e) ∙ p ∙ ap (λ l. more ++ l) q ∙ append-nil more

-- the body is the prefix of all that stands after the head
pub body_is : (n : ℕ) (after more left rest : List ℕ) → left ≡ more ++ rest → n ≤ length (after ++ more)
    → (n ≤ length (after ++ left)) × (take n (after ++ more) ≡ take n (after ++ left))
body_is n after more left rest e within =
    let whole : after ++ left ≡ (after ++ more) ++ rest =
    ap (λ l. after ++ l) e ∙ sym (append_assoc after more rest) in
    let long : length (after ++ left) ≡ length (after ++ more) + length rest =
    ap length whole ∙ length-append (after ++ more) rest in
    (omega arith, sym (ap (take n) whole ∙ take-append-le n (after ++ more) rest within))

-- ---- what a head asks for

pub head_asks : (h : RequestHead) (rest : List ℕ) (a : Asked) (o : Asking)
    → o ≡ record { read = 0; asked = Ok (Some a) } → AsksAfter h rest a
    → IfOk o.asked (λ asked. IsSomeAnd asked (AsksAfter h rest))
head_asks h rest a o e asks =
    subst (λ (o : Asking). IfOk o.asked (λ asked. IsSomeAnd asked (AsksAfter h rest))) (sym e) asks

pub head_posts : (h : RequestHead) (after left : List ℕ) (p : post.Post) (o : Option Asked) → IsFor h Requests
    → Says (lines_of h) p → IsSomeAnd o (AsksBody p.length p.sender.caller p.sender.number (after ++ left))
    → IsSomeAnd o (AsksAfter h (after ++ left))
head_posts h after left p None is says asks = asks
head_posts h after left p (Some a) is says asks =
    let whole = sent p.length p.sender.number p.sender.caller a says.plain says.length says.short says.sender asks in
    rule.post a is.host is.target is.method whole
