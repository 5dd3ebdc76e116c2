-- The values of one line more.
use Rattle.std.proofs.Common.{◌≡◌, ℕ, ◌+◌, ◌<◌, List, [], ◌∷◌, ◌++◌, Bool, true, false, cond, map, length, take, get_or}
use Rattle.std.proofs.Common.{refl, ap, ◌∙◌}
use Rattle.std.proofs.lemmas.List.{take_more, map-append, append-nil}
use Rattle.httparse.specs.{declared.spans.HeaderSpan.HeaderSpan, Spans.header_bytes}
use Rattle.http_messages.specs.HeaderFields.{HeaderLines, is_named, values_of}

abbrev one_value : Bool → List ℕ → List (List ℕ)
one_value v value = cond v (value ∷ []) []

prefix_cond : (v : Bool) (x : List ℕ) (xs ys : List (List ℕ))
    → cond v (x ∷ (xs ++ ys)) (xs ++ ys) ≡ cond v (x ∷ xs) xs ++ ys
prefix_cond true x xs ys = refl
prefix_cond false x xs ys = refl

values_of-more : (name : List ℕ) (lines : HeaderLines) (line : List ℕ × List ℕ)
    → values_of name (lines ++ line ∷ []) ≡ values_of name lines ++ one_value (is_named name line.0) line.1
values_of-more name [] line = refl
values_of-more name (l ∷ lines) line =
    ap (λ vs. cond (is_named name l.0) (l.1 ∷ vs) vs) (values_of-more name lines line)
    ∙ prefix_cond (is_named name l.0) l.1 (values_of name lines) (one_value (is_named name line.0) line.1)

module _ (name : List ℕ) (lines : HeaderLines) (line : List ℕ × List ℕ) where
  pub line_hit : is_named name line.0 ≡ true → values_of name (lines ++ line ∷ []) ≡ values_of name lines ++ line.1 ∷ []
  line_hit hit = values_of-more name lines line ∙ ap (λ v. values_of name lines ++ one_value v line.1) hit

  pub line_missed : is_named name line.0 ≡ false → values_of name (lines ++ line ∷ []) ≡ values_of name lines
  line_missed miss =
      values_of-more name lines line ∙ ap (λ v. values_of name lines ++ one_value v line.1) miss
      ∙ append-nil (values_of name lines)

-- the lines of one header more
pub lines_more : (prefix : List ℕ) (headers : List HeaderSpan) (i : ℕ) (d : HeaderSpan) → i < length headers
    → map (header_bytes prefix) (take (i + 1) headers)
    ≡ map (header_bytes prefix) (take i headers) ++ header_bytes prefix (get_or headers i d) ∷ []
lines_more prefix headers i d h =
    ap (map (header_bytes prefix)) (take_more headers i d h)
    ∙ map-append (header_bytes prefix) (take i headers) (get_or headers i d ∷ [])
