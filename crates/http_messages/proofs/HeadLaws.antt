-- An input has one head, or none.
use Rattle.std.proofs.Common.{◌≡◌, ℕ, ◌+◌, ◌-◌, ◌⊎◌, inl, inr, List, [], ◌++◌, length, take, sym, ap, subst, ◌∙◌, arith}
use Rattle.std.proofs.Common.{◌≢◌, Bool, true, false, map, Option, Some, None, refl}
use Rattle.std.proofs.Math.Seq.{take-append-add}
use Rattle.std.proofs.lemmas.List.{append-nil}
use Rattle.std.proofs.lemmas.Slice.Eq.{bytes_eq-Decides}
use Rattle.httparse.specs.Grammar.{RequestHead, ReadsRequest, print_request, EndsInTarget}
use Rattle.httparse.specs.Spans.{IsRequestAt, header_bytes, span_bytes}
use Rattle.httparse.specs.{declared.spans.RequestSpans.RequestSpans, declared.spans.HeaderSpan.HeaderSpan}
use Rattle.httparse.proofs.GrammarLemmas.{request_unique}
use Rattle.http_messages.specs.Head.{prefix, max_head_length, HasHead, HasBadHead, HasLargeHead, HasManyLines}
use Rattle.http_messages.specs.Asked.{HasHost, lines_of, AsksAfter, no_host, no_path, no_method}
use Rattle.http_messages.specs.declared.asked.Asked.TheVariants.{Reject}
use Rattle.http_messages.specs.declared.asked.Rejection.TheVariants.{BadRequest, NoRoute, MethodNotAllowed}
use Rattle.http_messages.specs.{declared.route.Route.Route, Route.IsRouteOf, Route.method_of, HeaderFields.HeaderLines}
use Rattle.http_messages.specs.{Within.IsFor, declared.asked.Rejection.Rejection}
use Rattle.std.specs.{Prelude.not, Str.bytes_eq}

-- a head that is taken stands whole in the prefix
in_prefix : (input : List ℕ) (h : RequestHead) (rest : List ℕ) → HasHead input h rest
    → (q : List ℕ) × ReadsRequest (prefix input) h q
in_prefix input h rest head =
    let n = length (print_request h) in
    let whole : max_head_length ≡ n + (max_head_length - n) = omega (arith, head.within) in
    let here : prefix input ≡ print_request h ++ take (max_head_length - n) rest =
    ap prefix head.reads.1 ∙ ap (λ k. take k (print_request h ++ rest)) whole
    ∙ take-append-add (print_request h) rest (max_head_length - n) in
    (take (max_head_length - n) rest, (head.reads.0, here))

pub one_head : (input : List ℕ) (h k : RequestHead) (rest q : List ℕ) → HasHead input h rest
    → HasHead input k q → (h ≡ k) × (rest ≡ q)
one_head input h k rest q a b = request_unique input h k rest q a.reads b.reads

pub whole_not_bad : (input : List ℕ) (h : RequestHead) (rest : List ℕ) → HasHead input h rest → HasBadHead input → ⊥
whole_not_bad input h rest head bad =
    let (q, reads) = in_prefix input h rest head in
    let again : ReadsRequest (prefix input ++ []) h q =
    subst (λ b. ReadsRequest b h q) (sym (append-nil (prefix input))) reads in
    elim bad [
      | inl never ↦ never [] h q again
      | inr other ↦ elim other [
        | inl many ↦ (let over = many.over [] h q again in omega (arith, head.few, over))
        | inr cut ↦ cut.none h rest head.reads
      ]
    ]

pub whole_not_large : (input : List ℕ) (h : RequestHead) (rest : List ℕ) → HasHead input h rest → HasLargeHead input → ⊥
whole_not_large input h rest head large = let (q, reads) = in_prefix input h rest head in large.none h q reads

-- a refusal of the head is told by its bytes, but where these end within the target or hold too many header lines
pub bad_or_large : (input : List ℕ) → HasBadHead input → HasLargeHead input
    → EndsInTarget (prefix input) ⊎ HasManyLines (prefix input)
bad_or_large input bad large =
    elim bad [
      | inl never ↦ elim large.may [ inl (more, h, reads) ↦ absurd (never more h [] reads) | inr ends ↦ inl ends ]
      | inr other ↦ elim other [ inl many ↦ inr many | inr cut ↦ absurd (omega (arith, cut.short, large.long)) ]
    ]

-- ---- What is known of the parts of a head is known of the head.

differ : (xs ys : List ℕ) → true ≡ not (bytes_eq xs ys) → xs ≢ ys
differ xs ys other e = let hit : bytes_eq xs ys ≡ true = (bytes_eq-Decides xs ys).1 e in absurd (cc)

agree_by : (v : Bool) (P : Type 0) → (v ≡ true → P) → false ≡ not v → P
agree_by true P p e = p refl
agree_by false P p e = absurd (cc)

agree : (xs ys : List ℕ) → false ≡ not (bytes_eq xs ys) → xs ≡ ys
agree xs ys e = agree_by (bytes_eq xs ys) (xs ≡ ys) (bytes_eq-Decides xs ys).0 e

module _ (prefix : List ℕ) (headers : List HeaderSpan) (spans : RequestSpans) (h : RequestHead)
    (at : IsRequestAt prefix headers spans h) where
  abbrev lines : HeaderLines
  lines = map (header_bytes prefix) (take spans.headers headers)

  host_is : HasHost spans.version lines → HasHost h.minor (lines_of h)
  host_is p = subst (HasHost h.minor) at.fields (subst (λ v. HasHost v lines) at.version p)

  host_was : HasHost h.minor (lines_of h) → HasHost spans.version lines
  host_was p = subst (HasHost spans.version) (sym at.fields) (subst (λ v. HasHost v (lines_of h)) (sym at.version) p)

  route_is : (target : List ℕ) (o : Option Route) → target ≡ span_bytes prefix spans.path → IsRouteOf target o
      → IsRouteOf h.target o
  route_is target o e p = subst (λ t. IsRouteOf t o) (e ∙ at.path) p

  pub asks_no_host : (r : Rejection) (rest : List ℕ) → (r ≡ BadRequest) × (HasHost spans.version lines → ⊥)
      → AsksAfter h rest (Reject r)
  asks_no_host r rest (is, none) = subst (λ r. AsksAfter h rest (Reject r)) (sym is) (no_host (λ p. none (host_was p)))

  pub asks_no_path : (target : List ℕ) (rest : List ℕ) → HasHost spans.version lines
      → target ≡ span_bytes prefix spans.path → IsRouteOf target None → AsksAfter h rest (Reject NoRoute)
  asks_no_path target rest p e q = no_path (host_is p) (route_is target None e q)

  -- where the target spells a route
  module _ (target method text : List ℕ) (r : Route) (p : HasHost spans.version lines)
      (e : target ≡ span_bytes prefix spans.path) (q : IsRouteOf target (Some r))
      (f : method ≡ span_bytes prefix spans.method) (m : text ≡ method_of r) where
    pub asks_no_method : (rest : List ℕ) → true ≡ not (bytes_eq method text)
        → AsksAfter h rest (Reject (MethodNotAllowed r))
    asks_no_method rest other =
        no_method r (host_is p) (route_is target (Some r) e q)
        (λ same. differ method text other (f ∙ at.method ∙ same ∙ sym m))

    -- and the method is the route's
    module _ (same : false ≡ not (bytes_eq method text)) where
      method_is : h.method ≡ method_of r
      method_is = sym (f ∙ at.method) ∙ agree method text same ∙ m

      -- the head is for the route
      pub is_for : IsFor h r
      is_for = record { host = host_is p; target = route_is target (Some r) e q; method = method_is }
