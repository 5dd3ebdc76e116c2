-- The number that a text writes is the only one.
use Rattle.std.proofs.Common.{◌≡◌, ◌↔◌, ◌<◌, ◌^◌, ℕ, List, Option, None, Some, refl, sym, ap, subst, ◌∙◌}
use Rattle.std.proofs.lemmas.Fmt.{decimal_injective}
use Rattle.std.specs.Prelude.{decimal, IsSome, IfSome}
use Rattle.register_words.specs.Values.{ReadsValue}

-- so what is made of it, where it is in range, is the value that was given
pub reads_number : (P : ℕ → Type 0) → ((x : ℕ) → P x → x < 2 ^ 64) → (text : List ℕ) (made : Option ℕ) (n : ℕ)
    → n < 2 ^ 64 → text ≡ decimal n
    → (IsSome made ↔ P n) → IfSome made (λ m. m ≡ n) → ReadsValue (λ t m. (t ≡ decimal m) × P m) text made
reads_number P small text (Some m) n lt is in_range value =
    (is ∙ ap decimal (sym value), subst P (sym value) (in_range.0 refl))
reads_number P small text None n lt is in_range value =
    λ x given. let same : x ≡ n =
    decimal_injective x n (small x given.1) lt (sym given.0 ∙ is) in absurd (cc (in_range.1 (subst P same given.1)))
