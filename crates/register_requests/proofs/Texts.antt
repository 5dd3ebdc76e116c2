-- Texts of values, one after another with a space between: no bytes are the text of two values, and it is decided of
-- which they are.
use Rattle.std.proofs.Common.{◌≡◌, ℕ, ◌+◌, Bool, true, false, List, [], ◌∷◌, ◌++◌, length, take, drop, one-add, Option}
use Rattle.std.proofs.Common.{Some, None, refl, sym, ap, subst, ◌∙◌, arith, inl, inr}
use Rattle.std.proofs.lemmas.List.{append-nil, length-append, take_all}
use Rattle.std.proofs.lemmas.List.Sums.{split_at_first, passes_at_first}
use Rattle.std.specs.Prelude.{option_map, not, position, ◌⊎◌}
use Rattle.std.specs.List.{list_all, prefix_len}
use Rattle.register_requests.specs.Request.{IsReadAs}
use Rattle.register_requests.specs.Within.FieldText.{IsItself, is_space, HasNoSpace, AreSplit, after_word}

-- ---- texts

pub record IsExact {A : Type 0} (IsText : List ℕ → A → Type 0) : Type 0 where
  -- no bytes are the text of two values
  pub one : (bytes : List ℕ) (x y : A) → IsText bytes x → IsText bytes y → x ≡ y
  -- what the bytes stand for
  pub has : (bytes : List ℕ) → (o : Option A) × IsReadAs IsText bytes o

-- and no text has a space in it
pub record IsFieldText {A : Type 0} (IsText : List ℕ → A → Type 0) : Type 0 where
  pub exact : IsExact IsText
  pub solid : (bytes : List ℕ) (x : A) → IsText bytes x → HasNoSpace bytes

-- the bytes of one kind of text are those of another, whose values are made of its
pub record Makes {A B : Type 0} (IsText : List ℕ → A → Type 0) (made : A → B) (IsOther : List ℕ → B → Type 0) : Type 0
  where
    pub there : (bytes : List ℕ) (x : A) → IsText bytes x → IsOther bytes (made x)
    pub back : (bytes : List ℕ) (y : B) → IsOther bytes y → (x : A) × IsText bytes x × (y ≡ made x)

module _ {A B : Type 0} {IsText : List ℕ → A → Type 0} {made : A → B} {IsOther : List ℕ → B → Type 0}
    (makes : Makes IsText made IsOther) where
  pub made_stands : (bytes : List ℕ) (o : Option A) → IsReadAs IsText bytes o
      → IsReadAs IsOther bytes (option_map made o)
  made_stands bytes (Some x) is = makes.there bytes x is
  made_stands bytes None none = λ y is. let of = makes.back bytes y is in none of.0 of.1

  pub made_exact : IsExact IsText → IsExact IsOther
  made_exact exact = record {
    one = λ bytes x y p q.
        let of = makes.back bytes x p in
        let other = makes.back bytes y q in
        of.2 ∙ ap made (exact.one bytes of.0 other.0 of.1 other.1) ∙ sym other.2;
    has = λ bytes.
        let found = exact.has bytes in (option_map made found.0, made_stands bytes found.0 found.1);
  }

-- of these texts those whose value P holds of
abbrev pub Only : {A : Type 0} → (List ℕ → A → Type 0) → (A → Type 0) → List ℕ → A → Type 0
Only IsText P bytes x = IsText bytes x × P x

module _ {A : Type 0} (IsText : List ℕ → A → Type 0) (P : A → Type 0) where
  pub only_none : (bytes : List ℕ) → IsReadAs IsText bytes None → IsReadAs (Only IsText P) bytes None
  only_none bytes none = λ x is. none x is.0

  pub only_not : IsExact IsText → (bytes : List ℕ) (x : A) → IsText bytes x → (P x → ⊥)
      → IsReadAs (Only IsText P) bytes None
  only_not exact bytes x is other = λ y of. other (subst P (exact.one bytes y x of.0 is) of.1)

  pub only_exact : IsExact IsText → ((x : A) → P x ⊎ (P x → ⊥)) → IsExact (Only IsText P)
  only_exact exact decide = record {
    one = λ bytes x y p q. exact.one bytes x y p.0 q.0;
    has = λ bytes. by bytes (exact.has bytes);
  }
    where
      of : (bytes : List ℕ) (x : A) → IsText bytes x → P x ⊎ (P x → ⊥)
          → (o : Option A) × IsReadAs (Only IsText P) bytes o
      of bytes x is (inl holds) = (Some x, (is, holds))
      of bytes x is (inr other) = (None, only_not exact bytes x is other)

      by : (bytes : List ℕ) → (o : Option A) × IsReadAs IsText bytes o
          → (o : Option A) × IsReadAs (Only IsText P) bytes o
      by bytes (None, none) = (None, only_none bytes none)
      by bytes (Some x, is) = of bytes x is (decide x)

-- ---- the first space

-- what stands before it and after it is one
pub one_split : (a b rest after : List ℕ) → HasNoSpace a → HasNoSpace b → a ++ (32 ∷ rest) ≡ b ++ (32 ∷ after)
    → (a ≡ b) × (rest ≡ after)
one_split [] [] rest after p q e = (refl, cc)
one_split [] (y ∷ b) rest after p q e = absurd (let space : 32 ≡ y = cc in grind arith)
one_split (x ∷ a) [] rest after p q e = absurd (let space : x ≡ 32 = cc in grind arith)
one_split (x ∷ a) (y ∷ b) rest after p q e = grind (arith, one_split a b rest after)

solid_prefix : (bytes : List ℕ) → HasNoSpace (take (prefix_len (λ byte. not (is_space byte)) bytes) bytes)
solid_prefix [] = refl
solid_prefix (byte ∷ bytes) = by (is_space byte) refl (solid_prefix bytes)
  where
    by : (check : Bool) → is_space byte ≡ check
        → HasNoSpace (take (prefix_len (λ byte. not (is_space byte)) bytes) bytes)
        → HasNoSpace (take (prefix_len (λ byte. not (is_space byte)) (byte ∷ bytes)) (byte ∷ bytes))
    by true e solid = rw e refl
    by false e solid = rw (e, one-add) (grind arith)

-- the first space is found
pub split_there : (bytes : List ℕ) (i : ℕ) → Some i ≡ position is_space bytes
    → AreSplit IsItself IsItself bytes (take i bytes, drop (i + 1) bytes)
split_there bytes i e = record {
  field = take i bytes;
  rest = drop (i + 1) bytes;
  solid = grind (arith, solid_prefix bytes);
  split = grind (arith, split_at_first is_space bytes 0, passes_at_first is_space bytes 0);
  first = (tt, refl);
  second = (tt, refl);
}

prefix_len-append : (q : ℕ → Bool) (xs : List ℕ) (b : ℕ) (rest : List ℕ) → list_all q xs ≡ true → q b ≡ false
    → prefix_len q (xs ++ (b ∷ rest)) ≡ length xs
prefix_len-append q [] b rest all other = rw other refl
prefix_len-append q (x ∷ xs) b rest all other = grind (arith, prefix_len-append q xs b rest)

space_at : (field rest : List ℕ) → HasNoSpace field → position is_space (field ++ (32 ∷ rest)) ≡ Some (length field)
space_at field rest solid = grind (arith, prefix_len-append, length-append)

-- or there is none
pub no_field : (bytes : List ℕ) → None ≡ position is_space bytes
    → IsReadAs (AreSplit IsItself IsItself) bytes None
no_field bytes e = λ x is.
    let some = space_at is.field is.rest is.solid in
    absurd (cc (e ∙ ap (position is_space) is.split ∙ some))

-- what stands before the first space, and what stands after it
first_field : (bytes : List ℕ) → (o : Option (List ℕ × List ℕ)) × IsReadAs (AreSplit IsItself IsItself) bytes o
first_field bytes = by (position is_space bytes) refl
  where
    by : (o : Option ℕ) → o ≡ position is_space bytes
        → (o : Option (List ℕ × List ℕ)) × IsReadAs (AreSplit IsItself IsItself) bytes o
    by None e = (None, no_field bytes e)
    by (Some i) e = (Some (take i bytes, drop (i + 1) bytes), split_there bytes i e)

-- bytes with no field before a space have no space
pub no_space : (bytes : List ℕ) → IsReadAs (AreSplit IsItself IsItself) bytes None → HasNoSpace bytes
no_space bytes none = by (position is_space bytes) refl
  where
    by : (o : Option ℕ) → o ≡ position is_space bytes → HasNoSpace bytes
    by None e = grind (arith, solid_prefix bytes, take_all)
    by (Some i) e = absurd (none (take i bytes, drop (i + 1) bytes) (split_there bytes i e))

-- the word at the start, and what stands after it
pub split_word : (bytes : List ℕ)
    → (word : List ℕ) × (after : Option (List ℕ)) × HasNoSpace word × (bytes ≡ word ++ after_word after)
split_word bytes = by (first_field bytes)
  where
    by : (o : Option (List ℕ × List ℕ)) × IsReadAs (AreSplit IsItself IsItself) bytes o
        → (word : List ℕ) × (after : Option (List ℕ)) × HasNoSpace word × (bytes ≡ word ++ after_word after)
    by (None, none) = (bytes, None, no_space bytes none, sym (append-nil bytes))
    by (Some x, first) = (
      x.0,
      Some x.1,
      subst HasNoSpace first.first.1 first.solid,
      cc (first.split, first.first.1, first.second.1),
    )

-- ---- two texts with a space between

module _ {A B : Type 0} (IsFirst : List ℕ → A → Type 0) (IsSecond : List ℕ → B → Type 0) (bytes : List ℕ) where
  pub split_none : IsReadAs (AreSplit IsItself IsItself) bytes None → IsReadAs (AreSplit IsFirst IsSecond) bytes None
  split_none none = λ x is. none (is.field, is.rest) (record {
    field = is.field;
    rest = is.rest;
    solid = is.solid;
    split = is.split;
    first = (tt, refl);
    second = (tt, refl);
  })

  module _ (field rest : List ℕ) (split : AreSplit IsItself IsItself bytes (field, rest)) where
    -- what stands before the space and after it
    one_field : (x : A × B) → (is : AreSplit IsFirst IsSecond bytes x) → (is.field ≡ field) × (is.rest ≡ rest)
    one_field x is =
        let same =
        one_split is.field split.field is.rest split.rest is.solid split.solid (sym is.split ∙ split.split) in
        (same.0 ∙ split.first.1, same.1 ∙ split.second.1)

    pub first_none : IsReadAs IsFirst field None → IsReadAs (AreSplit IsFirst IsSecond) bytes None
    first_none none = λ x is. none x.0 (subst (λ (b : List ℕ). IsFirst b x.0) (one_field x is).0 is.first)

    pub second_none : IsReadAs IsSecond rest None → IsReadAs (AreSplit IsFirst IsSecond) bytes None
    second_none none = λ x is. none x.1 (subst (λ (b : List ℕ). IsSecond b x.1) (one_field x is).1 is.second)

    pub both : (x : A) (y : B) → IsFirst field x → IsSecond rest y → AreSplit IsFirst IsSecond bytes (x, y)
    both x y first second = record {
      field = field;
      rest = rest;
      solid = subst HasNoSpace split.first.1 split.solid;
      split = cc (split.split, split.first.1, split.second.1);
      first = first;
      second = second;
    }

    both_has : (o : Option A) × IsReadAs IsFirst field o → (o : Option B) × IsReadAs IsSecond rest o
        → (o : Option (A × B)) × IsReadAs (AreSplit IsFirst IsSecond) bytes o
    both_has (None, none) second = (None, first_none none)
    both_has (Some x, first) (None, none) = (None, second_none none)
    both_has (Some x, first) (Some y, second) = (Some (x, y), both x y first second)

pub split_exact : {A B : Type 0} {IsFirst : List ℕ → A → Type 0} {IsSecond : List ℕ → B → Type 0} → IsExact IsFirst
    → IsExact IsSecond → IsExact (AreSplit IsFirst IsSecond)
split_exact {A} {B} {IsFirst} {IsSecond} first second = record {
  one = one;
  has = λ bytes. by bytes (first_field bytes);
}
  where
    one : (bytes : List ℕ) (x y : A × B) → AreSplit IsFirst IsSecond bytes x → AreSplit IsFirst IsSecond bytes y → x ≡ y
    one bytes (a, b) (c, d) p q =
        let split = one_split p.field q.field p.rest q.rest p.solid q.solid (sym p.split ∙ q.split) in
        let of_first = first.one q.field a c (subst (λ (t : List ℕ). IsFirst t a) split.0 p.first) q.first in
        let of_second = second.one q.rest b d (subst (λ (t : List ℕ). IsSecond t b) split.1 p.second) q.second in
        cc (of_first, of_second)

    by : (bytes : List ℕ) → (o : Option (List ℕ × List ℕ)) × IsReadAs (AreSplit IsItself IsItself) bytes o
        → (o : Option (A × B)) × IsReadAs (AreSplit IsFirst IsSecond) bytes o
    by bytes (None, none) = (None, split_none IsFirst IsSecond bytes none)
    by bytes (Some x, split) =
        both_has IsFirst IsSecond bytes x.0 x.1 split (first.has x.0) (second.has x.1)
