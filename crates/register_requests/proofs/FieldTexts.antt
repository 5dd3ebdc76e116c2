-- The texts of the fields: none has a space in it but that of a purpose, and each is of one value.
use Rattle.std.proofs.Common.{◌≡◌, ◌≢◌, ℕ, suc, ◌<◌, ◌≤◌, ◌^◌, nat_le, Bool, true, false, ◌&&◌, ◌↔◌, inl, inr, List, []}
use Rattle.std.proofs.Common.{◌∷◌, length, Option, Some, None, IfSome, IfNone, refl, sym, ap, subst, ◌∙◌, arith}
use Rattle.std.proofs.lemmas.Bool.Decides.{nat_tests}
use Rattle.std.proofs.lemmas.Fmt.{decimal_is_IsNumeral, decimal_injective}
use Rattle.std.proofs.lemmas.Grind.{common_steps}
use Rattle.std.proofs.lemmas.Slice.Eq.{bytes_eq-Decides}
use Rattle.std.proofs.lemmas.Str.{IsUtf8-from_is_utf8, is_utf8-from_IsUtf8}
use Rattle.std.specs.Prelude.{◌⊎◌, decimal, find, codes, not, slice_index, ◌-◌}
use Rattle.std.specs.Str.Parse.{AllDigits, digits_value}
use Rattle.std.specs.{List.All, List.list_all, Fmt.digits, Str.bytes_eq, Str.is_utf8}
use Rattle.moment_core.specs.Moment.{IsMoment, last_second}
use Rattle.lifecycle_core.specs.declared.reason.Reason.TheVariants.{Unspecified, KeyCompromise, CaCompromise}
use Rattle.lifecycle_core.specs.declared.reason.Reason.TheVariants.{AffiliationChanged, Superseded}
use Rattle.lifecycle_core.specs.declared.reason.Reason.TheVariants.{CessationOfOperation, PrivilegeWithdrawn}
use Rattle.lifecycle_core.specs.{declared.reason.Reason.Reason, Reason.reason_code}
use Rattle.period_core.specs.KeyType.{key_type_text}
use Rattle.period_core.proofs.Types.{types}
use Rattle.register_requests.specs.declared.command_fields.CommandKind.{CommandKind}
use Rattle.register_requests.specs.declared.request.Edit.TheVariants.{Keep, Clear, Set}
use Rattle.register_requests.specs.Request.{IsDate, IsKeyNumber, IsEdit, IsReadAs, date_text, edit_text, max_key_number}
use Rattle.register_requests.specs.Within.FieldText.{Writes, IsAny, itself, IsShort, reason_text, is_space, HasNoSpace}
use Rattle.register_requests.specs.{declared.request.Edit.Edit, CommandKind.command_kind_text, Name.IsName}
use Rattle.register_requests.specs.{Name.is_name_byte, Number.IsNumber, Number.max_request_number, Purpose.IsPurpose}
use Rattle.register_requests.specs.{Purpose.is_purpose_byte, Quorum.IsQuorum, Quorum.min_approvals}
use Rattle.register_requests.specs.declared.command_fields.CommandKind.TheVariants as kinds
use Rattle.register_requests.proofs.Texts.{IsExact, IsFieldText}

-- ---- numbers

digits_solid : (ds : List ℕ) → AllDigits 10 ds → HasNoSpace ds
digits_solid [] h = refl
digits_solid (c ∷ cs) h = grind (arith, digits_solid cs h.1)

decimal_solid : (n : ℕ) → n < 2 ^ 64 → HasNoSpace (decimal n)
decimal_solid n lt = digits_solid (decimal n) ((decimal_is_IsNumeral n lt).0.1)

-- the bytes are the decimal of the number that their digits make, which is from the least to the most
is_number : ℕ → ℕ → List ℕ → Bool
is_number least most field =
    let number = digits_value 10 field in
    nat_le least number && nat_le number most && bytes_eq (decimal number) field

number_is : (least most : ℕ) (field : List ℕ) → is_number least most field ≡ true
    → (least ≤ digits_value 10 field) × (digits_value 10 field ≤ most) × (field ≡ decimal (digits_value 10 field))
unfolding is_number
number_is least most field e = grind (arith, bytes_eq-Decides)

is_of_number : (least most n : ℕ) → most < 2 ^ 64 → least ≤ n → n ≤ most → is_number least most (decimal n) ≡ true
unfolding is_number
is_of_number least most n small low high = grind (arith, common_steps, decimal_is_IsNumeral, bytes_eq-Decides)

module _ (P : ℕ → Type 0) (least most : ℕ) (small : most < 2 ^ 64)
    (range : (n : ℕ) → P n ↔ (least ≤ n) × (n ≤ most)) where
  number_small : (n : ℕ) → P n → n < 2 ^ 64
  number_small n in_range = let within = (range n).0 in_range in omega arith

  number_field : IsFieldText (Writes P decimal)
  number_field = record {
    exact = record { one = one; has = λ field. by field (is_number least most field) refl };
    solid = λ field n is. subst HasNoSpace (sym is.1) (decimal_solid n (number_small n is.0));
  }
    where
      one : (field : List ℕ) (m n : ℕ) → Writes P decimal field m → Writes P decimal field n → m ≡ n
      one field m n x y = decimal_injective m n (number_small m x.0) (number_small n y.0) (sym x.1 ∙ y.1)

      by : (field : List ℕ) → (check : Bool) → is_number least most field ≡ check
          → (o : Option ℕ) × IsReadAs (Writes P decimal) field o
      by field true e =
          let is = number_is least most field e in
          (Some (digits_value 10 field), ((range _).1 (is.0, is.1), is.2))
      by field false e = (None, none e)
        where
          none : (e : is_number least most field ≡ false) (n : ℕ) → Writes P decimal field n → ⊥
          none e n is =
              let within = (range n).0 is.0 in
              let yes = is_of_number least most n small within.0 within.1 in
              absurd (cc (sym e ∙ ap (is_number least most) is.1 ∙ yes))

pub moments : IsFieldText (Writes IsMoment decimal)
moments = number_field IsMoment 0 last_second (omega arith) (λ n. grind arith)

pub key_numbers : IsFieldText (Writes IsKeyNumber decimal)
key_numbers = number_field IsKeyNumber 1 max_key_number (omega arith) (λ n. grind arith)

pub request_numbers : IsFieldText (Writes IsNumber decimal)
request_numbers = number_field IsNumber 1 max_request_number (omega arith) (λ n. grind arith)

pub quorums : IsFieldText (Writes IsQuorum decimal)
quorums = number_field IsQuorum min_approvals 5 (omega arith) (λ n. grind arith)

pub shorts : IsFieldText (Writes IsShort decimal)
shorts = number_field IsShort 0 65535 (omega arith) (λ n. (λ is. (omega arith, omega arith), λ is. omega arith))

-- ---- dates and edits, which have signs beside moments

-- no number is written as a sign that is no digit
sign_no_number : (sign : List ℕ) → (AllDigits 10 sign → ⊥) → (n : ℕ) → n < 2 ^ 64 → sign ≡ decimal n → ⊥
sign_no_number sign no_digits n lt e = no_digits (rw e ((decimal_is_IsNumeral n lt).0.1))

dash_no_moment : (m : ℕ) → IsMoment m → codes "-" ≡ decimal m → ⊥
dash_no_moment m in_range = sign_no_number (codes "-") (λ digits. omega (arith, digits.0)) m (omega arith)

equals_no_moment : (m : ℕ) → IsMoment m → codes "=" ≡ decimal m → ⊥
equals_no_moment m in_range = sign_no_number (codes "=") (λ digits. omega (arith, digits.0)) m (omega arith)

one_moment : (m n : ℕ) → IsMoment m → IsMoment n → decimal m ≡ decimal n → m ≡ n
one_moment m n p q e = decimal_injective m n (omega arith) (omega arith) e

-- the field is this text, or it is not
is_text : (field text : List ℕ) → (field ≡ text) ⊎ (field ≡ text → ⊥)
is_text field text = by (bytes_eq field text) refl
  where
    by : (check : Bool) → bytes_eq field text ≡ check → (field ≡ text) ⊎ (field ≡ text → ⊥)
    by true e = inl ((bytes_eq-Decides field text).0 e)
    by false e = inr (λ same. absurd (cc (sym e ∙ (bytes_eq-Decides field text).1 same)))

-- no date is in a field that is neither its sign nor a moment's
no_date : (field : List ℕ) → (field ≡ codes "-" → ⊥) → IsReadAs (Writes IsMoment decimal) field None
    → IsReadAs (Writes IsDate date_text) field None
no_date field other none = λ date is. grind arith

one_date : (field : List ℕ) (a b : Option ℕ) → Writes IsDate date_text field a → Writes IsDate date_text field b → a ≡ b
one_date field None None p q = refl
one_date field None (Some n) p q = absurd (dash_no_moment n q.0 (sym p.1 ∙ q.1))
one_date field (Some m) None p q = absurd (dash_no_moment m p.0 (sym q.1 ∙ p.1))
one_date field (Some m) (Some n) p q = ap (λ (k : ℕ). Some k) (one_moment m n p.0 q.0 (sym p.1 ∙ q.1))

date_has : (field : List ℕ) → (o : Option (Option ℕ)) × IsReadAs (Writes IsDate date_text) field o
date_has field = by (is_text field (codes "-")) (moments.exact.has field)
  where
    by : (field ≡ codes "-") ⊎ (field ≡ codes "-" → ⊥) → (o : Option ℕ) × IsReadAs (Writes IsMoment decimal) field o
        → (o : Option (Option ℕ)) × IsReadAs (Writes IsDate date_text) field o
    by (inl same) found = (Some None, (tt, same))
    by (inr other) (Some m, found) = (Some (Some m), found)
    by (inr other) (None, none) = (None, no_date field other none)

date_solid : (field : List ℕ) (x : Option ℕ) → Writes IsDate date_text field x → HasNoSpace field
date_solid field x is = grind (arith, moments.solid)

pub dates : IsFieldText (Writes IsDate date_text)
dates = record { exact = record { one = one_date; has = date_has }; solid = date_solid }

no_edit : (field : List ℕ) → (field ≡ codes "=" → ⊥) → (field ≡ codes "-" → ⊥)
    → IsReadAs (Writes IsMoment decimal) field None → IsReadAs (Writes IsEdit edit_text) field None
no_edit field other another none = λ edit is. grind arith

one_edit : (field : List ℕ) (a b : Edit) → Writes IsEdit edit_text field a → Writes IsEdit edit_text field b → a ≡ b
one_edit field a b p q = grind (arith, dash_no_moment, equals_no_moment, one_moment)

edit_has : (field : List ℕ) → (o : Option Edit) × IsReadAs (Writes IsEdit edit_text) field o
edit_has field = by (is_text field (codes "=")) (is_text field (codes "-")) (moments.exact.has field)
  where
    by : (field ≡ codes "=") ⊎ (field ≡ codes "=" → ⊥) → (field ≡ codes "-") ⊎ (field ≡ codes "-" → ⊥)
        → (o : Option ℕ) × IsReadAs (Writes IsMoment decimal) field o
        → (o : Option Edit) × IsReadAs (Writes IsEdit edit_text) field o
    by (inl same) dash found = (Some Keep, (tt, same))
    by (inr other) (inl same) found = (Some Clear, (tt, same))
    by (inr other) (inr another) (Some m, found) = (Some (Set m), found)
    by (inr other) (inr another) (None, none) = (None, no_edit field other another none)

edit_solid : (field : List ℕ) (x : Edit) → Writes IsEdit edit_text field x → HasNoSpace field
edit_solid field x is = grind (arith, moments.solid)

pub edits : IsFieldText (Writes IsEdit edit_text)
edits = record { exact = record { one = one_edit; has = edit_has }; solid = edit_solid }

-- ---- types of keys, kinds of commands and reasons

find_passes : {A : Type 0} (p : A → Bool) (ks : List A) (k : A) → find p ks ≡ Some k → p k ≡ true
find_passes p [] k e = absurd cc
find_passes p (x ∷ ks) k e = grind (arith, find_passes p ks k)

some_is : {A : Type 0} (x y : A) → Some x ≡ Some y → x ≡ y
some_is x y e = cc

-- of these values the one whose text the field is
named_field : {A : Type 0} (text : A → List ℕ) (values : List A)
    → ((x : A) → find (λ y. bytes_eq (text y) (text x)) values ≡ Some x) → ((x : A) → HasNoSpace (text x))
    → IsFieldText (Writes IsAny text)
named_field {A} text values again solid = record {
  exact = record { one = one; has = λ field. by field (find (λ y. bytes_eq (text y) field) values) refl };
  solid = λ field x is. subst HasNoSpace (sym is.1) (solid x);
}
  where
    found : (field : List ℕ) (x : A) → field ≡ text x → find (λ y. bytes_eq (text y) field) values ≡ Some x
    found field x e = subst (λ (f : List ℕ). find (λ y. bytes_eq (text y) f) values ≡ Some x) (sym e) (again x)

    one : (field : List ℕ) (x y : A) → Writes IsAny text field x → Writes IsAny text field y → x ≡ y
    one field x y p q = some_is x y (sym (found field x p.1) ∙ found field y q.1)

    by : (field : List ℕ) (o : Option A) → find (λ y. bytes_eq (text y) field) values ≡ o
        → (o : Option A) × IsReadAs (Writes IsAny text) field o
    by field (Some x) e =
        let passes = find_passes (λ (y : A). bytes_eq (text y) field) values x e in
        (Some x, (tt, sym ((bytes_eq-Decides (text x) field).0 passes)))
    by field None e = (None, λ x is. absurd (cc (sym e ∙ found field x is.1)))

-- no text is of two values that all have one
pub one_text : {A : Type 0} {text : A → List ℕ} → IsFieldText (Writes IsAny text) → (a b : A) → text a ≡ text b → a ≡ b
one_text {A} {text} own a b e = own.exact.one (text a) a b (tt, refl) (tt, e)

pub key_types : IsFieldText (Writes IsAny key_type_text)
key_types = named_field key_type_text types (λ k. grind arith) (λ k. grind arith)

-- each reason once
all_reasons : List Reason
all_reasons = Unspecified ∷ KeyCompromise ∷ CaCompromise ∷ AffiliationChanged ∷ Superseded ∷ CessationOfOperation
    ∷ PrivilegeWithdrawn ∷ []

reason_again : (r : Reason) → find (λ y. bytes_eq (reason_text y) (reason_text r)) all_reasons ≡ Some r
unfolding all_reasons digits
reason_again Unspecified = refl
reason_again KeyCompromise = refl
reason_again CaCompromise = refl
reason_again AffiliationChanged = refl
reason_again Superseded = refl
reason_again CessationOfOperation = refl
reason_again PrivilegeWithdrawn = refl

reason_small : (r : Reason) → reason_code r < 2 ^ 64
reason_small r = grind arith

pub reasons : IsFieldText (Writes IsAny reason_text)
reasons = named_field reason_text all_reasons reason_again (λ r. decimal_solid (reason_code r) (reason_small r))

-- each kind of command once
abbrev pub all_kinds : List CommandKind
all_kinds =
    kinds.Register ∷ kinds.Activate ∷ kinds.SetDates ∷ kinds.Revoke ∷ kinds.Assign ∷ kinds.AddCustodian
    ∷ kinds.RemoveCustodian ∷ kinds.Approve ∷ kinds.Withdraw ∷ kinds.Destroy ∷ kinds.Advance ∷ kinds.SetQuorum
    ∷ kinds.SetPeriod ∷ []

kind_again : (k : CommandKind) → find (λ j. bytes_eq (command_kind_text j) (command_kind_text k)) all_kinds ≡ Some k
kind_again k = grind arith

pub command_kinds : IsFieldText (Writes IsAny command_kind_text)
command_kinds = named_field command_kind_text all_kinds kind_again (λ k. grind arith)

-- what holds of each element of a list holds of the one that is found
holds_of_found : {A : Type 0} (P : A → Type 0) (p : A → Bool) (xs : List A) (k : A) → All P xs → find p xs ≡ Some k
    → P k
holds_of_found P p [] k all e = absurd cc
holds_of_found P p (x ∷ xs) k all e =
    grind (arith, all 0 x (omega arith), holds_of_found P p xs k (λ i d lt. all (suc i) d (omega arith)))

-- what holds of each kind in the list holds of each kind
pub each_kind : (P : CommandKind → Type 0) → All P all_kinds → (k : CommandKind) → P k
each_kind P all k =
    holds_of_found P (λ kind. bytes_eq (command_kind_text kind) (command_kind_text k)) all_kinds k all (kind_again k)

-- ---- names and purposes

name_bytes_solid : (bytes : List ℕ) → list_all is_name_byte bytes ≡ true → HasNoSpace bytes
name_bytes_solid [] h = refl
name_bytes_solid (b ∷ bytes) h = grind (arith, nat_tests, name_bytes_solid bytes)

-- a text that is its own value
own_text : (P : List ℕ → Type 0) (test : List ℕ → Bool) → ((bytes : List ℕ) → test bytes ≡ true → P bytes)
    → ((bytes : List ℕ) → P bytes → test bytes ≡ true) → IsExact (Writes P itself)
own_text P test sure again = record {
  one = λ bytes x y p q. sym p.1 ∙ q.1;
  has = λ bytes. by bytes (test bytes) refl;
}
  where
    by : (bytes : List ℕ) (check : Bool) → test bytes ≡ check
        → (o : Option (List ℕ)) × IsReadAs (Writes P itself) bytes o
    by bytes true e = (Some bytes, (sure bytes e, refl))
    by bytes false e = (None, λ x is. absurd (cc (sym e ∙ again bytes (subst P (sym is.1) is.0))))

is_name : List ℕ → Bool
is_name bytes = nat_le 1 (length bytes) && nat_le (length bytes) 64 && list_all is_name_byte bytes

names_exact : IsExact (Writes IsName itself)
unfolding is_name
names_exact = own_text IsName is_name (λ bytes e. grind arith) (λ bytes is. grind arith)

pub names : IsFieldText (Writes IsName itself)
names = record {
  exact = names_exact;
  solid = λ bytes name is. name_bytes_solid bytes ((subst IsName (sym is.1) is.0).2);
}

is_purpose : List ℕ → Bool
is_purpose bytes =
    nat_le 1 (length bytes) && nat_le (length bytes) 200 && is_utf8 bytes
    && list_all is_purpose_byte bytes && not (is_space (slice_index bytes 0))
    && not (is_space (slice_index bytes (length bytes - 1)))

pub purposes : IsExact (Writes IsPurpose itself)
unfolding is_purpose
purposes = own_text IsPurpose is_purpose (λ bytes e. grind (arith, IsUtf8-from_is_utf8))
    (λ bytes is. grind (arith, is_utf8-from_IsUtf8))

-- ---- what a function finds is what its field stands for

pub any_stands : {A : Type 0} (text : A → List ℕ) (field : List ℕ) (o : Option A)
    → IfSome o (λ x. field ≡ text x) → IfNone o ((x : A) → field ≢ text x) → IsReadAs (Writes IsAny text) field o
any_stands text field (Some x) found none = (tt, found)
any_stands text field None found none = λ x is. none x is.1
