-- The definition allows one answer to an input, but in the place that is left open.
use Rattle.std.proofs.Common.{◌≡◌, ℕ, ◌<◌, ◌≤◌, ◌^◌, ◌⊎◌, inl, inr, List, [], ◌∷◌, ◌++◌, take, Some, refl, sym, ap}
use Rattle.std.proofs.Common.{subst, ◌∙◌, arith, codes}
use Rattle.std.proofs.lemmas.List.{append_cancel_left, append_cancel_right}
use Rattle.std.proofs.lemmas.Fmt.{decimal_injective}
use Rattle.std.specs.{Prelude.decimal, Str.Parse.digits_value}
use Rattle.httparse.specs.Grammar.{RequestHead}
use Rattle.matchit.specs.{Seek.first, Router.RouteOf}
use Rattle.http_messages.specs.declared.route.RoutePattern.{RoutePattern}
use Rattle.http_messages.specs.declared.route.Route.TheVariants.{Requests, Show, Usage}
use Rattle.http_messages.specs.declared.asked.Asked.TheVariants.{Reject, Apply}
use Rattle.http_messages.specs.declared.asked.Rejection.TheVariants.{MethodNotAllowed}
use Rattle.http_messages.specs.Route.{IsRoute, IsRouteOf, route_text, method_of, routes}
use Rattle.http_messages.specs.Asked.{Announces, IsFrom, AsksSome, AsksAfter, AsksPost, AsksBody, bad_head, large_head}
use Rattle.http_messages.specs.Asked.{whole_head, no_host, no_path, no_method, show, usage, post, encoded, no_length}
use Rattle.http_messages.specs.Asked.{bad_length, large_body, no_sender, sent, cut_short, no_command, command, lines_of}
use Rattle.http_messages.specs.{declared.route.Route.Route, declared.asked.Asked.Asked, HeadLaws.IsLeftOpen}
use Rattle.http_messages.specs.{Within.pattern_of, CommandBody.IsBodyOf, HeaderFields.HeaderLines}
use Rattle.register_requests.specs.declared.request.Command.{Command}
use Rattle.http_messages.proofs.CommandValues.{one_command_data}
use Rattle.http_messages.proofs.Routing.{finds_route, value_is, row_of, fits_number}
use Rattle.http_messages.proofs.HeadLaws.{one_head, whole_not_bad, whole_not_large}

-- ---- routes

some_row : (a b : RouteOf RoutePattern) → Some a ≡ Some b → a ≡ b
some_row a b e = cc

one_place : (target : List ℕ) (r s : Route) → IsRoute r → IsRoute s → target ≡ route_text r
    → target ≡ route_text s → pattern_of r ≡ pattern_of s
one_place target r s p q e f =
    let both : Some (row_of r) ≡ Some (row_of s) =
    sym (finds_route r p) ∙ ap (first routes) (sym e ∙ f) ∙ finds_route s q in
    sym (value_is r) ∙ ap (λ (w : RouteOf RoutePattern). w.value) (some_row (row_of r) (row_of s) both) ∙ value_is s

one_number : (m n : ℕ) (back : List ℕ) → m < 2 ^ 64 → n < 2 ^ 64
    → codes "/keys/" ++ (decimal m ++ back) ≡ codes "/keys/" ++ (decimal n ++ back) → m ≡ n
one_number m n back p q e =
    let after = append_cancel_left (codes "/keys/") (decimal m ++ back) (decimal n ++ back) e in
    decimal_injective m n p q (append_cancel_right (decimal m) (decimal n) back after)

one_route : (target : List ℕ) (r s : Route) → IsRoute r → IsRoute s → target ≡ route_text r
    → target ≡ route_text s → r ≡ s
one_route target Requests Requests p q e f = refl
one_route target (Show k) (Show j) p q e f =
    ap (λ n. Show n) (one_number k j (codes "") (fits_number k p) (fits_number j q) (sym e ∙ f))
one_route target (Usage k) (Usage j) p q e f =
    ap (λ n. Usage n) (one_number k j (codes "/usage") (fits_number k p) (fits_number j q) (sym e ∙ f))
one_route target Requests (Show j) p q e f = let same = one_place target Requests (Show j) p q e f in absurd (cc)
one_route target Requests (Usage j) p q e f = let same = one_place target Requests (Usage j) p q e f in absurd (cc)
one_route target (Show k) Requests p q e f = let same = one_place target (Show k) Requests p q e f in absurd (cc)
one_route target (Show k) (Usage j) p q e f = let same = one_place target (Show k) (Usage j) p q e f in absurd (cc)
one_route target (Usage k) Requests p q e f = let same = one_place target (Usage k) Requests p q e f in absurd (cc)
one_route target (Usage k) (Show j) p q e f = let same = one_place target (Usage k) (Show j) p q e f in absurd (cc)

same_route : (target : List ℕ) (r s : Route) → IsRouteOf target (Some r) → IsRouteOf target (Some s) → r ≡ s
same_route target r s p q = one_route target r s p.0 q.0 p.1 q.1

-- ---- bodies

one_command : (body : List ℕ) (p q : Command) → IsBodyOf body p → IsBodyOf body q → p ≡ q
one_command body p q a b = let both = sym a.value ∙ b.value in one_command_data p q (cc)

same_body : (n : ℕ) (caller : List ℕ) (serial : ℕ) (rest : List ℕ) (a b : Asked)
    → AsksBody n caller serial rest a → AsksBody n caller serial rest b → a ≡ b
same_body n caller serial rest a b (cut_short p) (cut_short q) = refl
same_body n caller serial rest a b (cut_short p) (no_command q u) = refl
same_body n caller serial rest a b (cut_short p) (command x q u) = absurd (omega arith)
same_body n caller serial rest a b (no_command p v) (cut_short q) = refl
same_body n caller serial rest a b (no_command p v) (no_command q u) = refl
same_body n caller serial rest a b (no_command p v) (command x q u) = absurd (v x u)
same_body n caller serial rest a b (command y p v) (cut_short q) = absurd (omega arith)
same_body n caller serial rest a b (command y p v) (no_command q u) = absurd (u y v)
same_body n caller serial rest a b (command y p v) (command x q u) =
    ap (λ w. Apply (record { caller = caller; number = serial; command = w })) (one_command (take n rest) y x v u)

-- ---- header lines

one_is : (v w : List ℕ) → v ∷ [] ≡ w ∷ [] → v ≡ w
one_is v w e = cc

not_none : (vs : List (List ℕ)) (v : List ℕ) → vs ≡ [] → vs ≡ v ∷ [] → ⊥
not_none vs v e f = let both = sym e ∙ f in absurd (cc)

one_length : (lines : HeaderLines) (n m : ℕ) → Announces lines n → Announces lines m → n ≡ m
one_length lines n m (v, e, l) (w, f, k) = sym l.value ∙ ap (digits_value 10) (one_is v w (sym e ∙ f)) ∙ k.value

one_sender : (lines : HeaderLines) (c d : List ℕ) (n m : ℕ) → IsFrom lines c n → IsFrom lines d m → (c ≡ d) × (n ≡ m)
one_sender lines c d n m p q =
    let small : n < 2 ^ 64 = omega (arith, p.in_range.1) in
    let fits : m < 2 ^ 64 = omega (arith, q.in_range.1) in
    let text = one_is (decimal n) (decimal m) (sym p.number_is ∙ q.number_is) in
    (one_is c d (sym p.caller_is ∙ q.caller_is), decimal_injective n m small fits text)

module _ (lines : HeaderLines) (rest : List ℕ) where
  both_lengths : (n m : ℕ) (P : Type 0) → Announces lines n → Announces lines m → 65536 < n → m ≤ 65536 → P
  both_lengths n m P a b big small = let same = one_length lines n m a b in absurd (omega arith)

  same_post : (a b : Asked) → AsksPost lines rest a → AsksPost lines rest b → a ≡ b
  same_post a b (encoded p) (encoded q) = refl
  same_post a b (encoded p) (no_length q) = refl
  same_post a b (encoded p) (bad_length q u v) = absurd (p q)
  same_post a b (encoded p) (large_body n q u v) = absurd (p q)
  same_post a b (encoded p) (no_sender n q u v w) = absurd (p q)
  same_post a b (encoded p) (sent n s c x q u v w y) = absurd (p q)
  same_post a b (no_length p) (encoded q) = refl
  same_post a b (no_length p) (no_length q) = refl
  same_post a b (no_length p) (bad_length q u v) = absurd (u p)
  same_post a b (no_length p) (large_body n q u v) = absurd (not_none _ u.0 p u.1)
  same_post a b (no_length p) (no_sender n q u v w) = absurd (not_none _ u.0 p u.1)
  same_post a b (no_length p) (sent n s c x q u v w y) = absurd (not_none _ u.0 p u.1)
  same_post a b (bad_length p o i) (encoded q) = absurd (q p)
  same_post a b (bad_length p o i) (no_length q) = absurd (o q)
  same_post a b (bad_length p o i) (bad_length q u v) = refl
  same_post a b (bad_length p o i) (large_body n q u v) = absurd (i n u)
  same_post a b (bad_length p o i) (no_sender n q u v w) = absurd (i n u)
  same_post a b (bad_length p o i) (sent n s c x q u v w y) = absurd (i n u)
  same_post a b (large_body m p o i) (encoded q) = absurd (q p)
  same_post a b (large_body m p o i) (no_length q) = absurd (not_none _ o.0 q o.1)
  same_post a b (large_body m p o i) (bad_length q u v) = absurd (v m o)
  same_post a b (large_body m p o i) (large_body n q u v) = refl
  same_post a b (large_body m p o i) (no_sender n q u v w) = both_lengths m n _ o u i v
  same_post a b (large_body m p o i) (sent n s c x q u v w y) = both_lengths m n _ o u i v
  same_post a b (no_sender m p o i j) (encoded q) = absurd (q p)
  same_post a b (no_sender m p o i j) (no_length q) = absurd (not_none _ o.0 q o.1)
  same_post a b (no_sender m p o i j) (bad_length q u v) = absurd (v m o)
  same_post a b (no_sender m p o i j) (large_body n q u v) = both_lengths n m _ u o v i
  same_post a b (no_sender m p o i j) (no_sender n q u v w) = refl
  same_post a b (no_sender m p o i j) (sent n s c x q u v w y) = absurd (j c s w)
  same_post a b (sent m t d z p o i j k) (encoded q) = absurd (q p)
  same_post a b (sent m t d z p o i j k) (no_length q) = absurd (not_none _ o.0 q o.1)
  same_post a b (sent m t d z p o i j k) (bad_length q u v) = absurd (v m o)
  same_post a b (sent m t d z p o i j k) (large_body n q u v) = both_lengths n m _ u o v i
  same_post a b (sent m t d z p o i j k) (no_sender n q u v w) = absurd (w d t j)
  same_post a b (sent m t d z p o i j k) (sent n s c x q u v w y) =
      let same = one_sender lines d c t s j w in
      let long = subst (λ e. AsksBody e d t rest a) (one_length lines m n o u) k in
      let numbered = subst (λ e. AsksBody n d e rest a) same.1 long in
      same_body n c s rest a b (subst (λ e. AsksBody n e s rest a) same.0 numbered) y

-- ---- heads

module _ (h : RequestHead) (rest : List ℕ) where
  same_after : (a b : Asked) → AsksAfter h rest a → AsksAfter h rest b → a ≡ b
  same_after a b (no_host p) (no_host q) = refl
  same_after a b (no_host p) (no_path q u) = absurd (p q)
  same_after a b (no_host p) (no_method r q u v) = absurd (p q)
  same_after a b (no_host p) (show k q u v) = absurd (p q)
  same_after a b (no_host p) (usage k q u v) = absurd (p q)
  same_after a b (no_host p) (post x q u v w) = absurd (p q)
  same_after a b (no_path p o) (no_host q) = absurd (q p)
  same_after a b (no_path p o) (no_path q u) = refl
  same_after a b (no_path p o) (no_method r q u v) = absurd (o r u.0 u.1)
  same_after a b (no_path p o) (show k q u v) = absurd (o (Show k) u.0 u.1)
  same_after a b (no_path p o) (usage k q u v) = absurd (o (Usage k) u.0 u.1)
  same_after a b (no_path p o) (post x q u v w) = absurd (o Requests u.0 u.1)
  same_after a b (no_method s p o i) (no_host q) = absurd (q p)
  same_after a b (no_method s p o i) (no_path q u) = absurd (u s o.0 o.1)
  same_after a b (no_method s p o i) (no_method r q u v) =
      ap (λ w. Reject (MethodNotAllowed w)) (same_route h.target s r o u)
  same_after a b (no_method s p o i) (show k q u v) =
      absurd (i (v ∙ ap method_of (same_route h.target (Show k) s u o)))
  same_after a b (no_method s p o i) (usage k q u v) =
      absurd (i (v ∙ ap method_of (same_route h.target (Usage k) s u o)))
  same_after a b (no_method s p o i) (post x q u v w) =
      absurd (i (v ∙ ap method_of (same_route h.target Requests s u o)))
  same_after a b (show j p o i) (no_host q) = absurd (q p)
  same_after a b (show j p o i) (no_path q u) = absurd (u (Show j) o.0 o.1)
  same_after a b (show j p o i) (no_method r q u v) =
      absurd (v (i ∙ ap method_of (same_route h.target (Show j) r o u)))
  same_after a b (show j p o i) (show k q u v) = let same = same_route h.target (Show j) (Show k) o u in cc
  same_after a b (show j p o i) (usage k q u v) = let same = same_route h.target (Show j) (Usage k) o u in absurd (cc)
  same_after a b (show j p o i) (post x q u v w) = let same = same_route h.target (Show j) Requests o u in absurd (cc)
  same_after a b (usage j p o i) (no_host q) = absurd (q p)
  same_after a b (usage j p o i) (no_path q u) = absurd (u (Usage j) o.0 o.1)
  same_after a b (usage j p o i) (no_method r q u v) =
      absurd (v (i ∙ ap method_of (same_route h.target (Usage j) r o u)))
  same_after a b (usage j p o i) (show k q u v) = let same = same_route h.target (Usage j) (Show k) o u in absurd (cc)
  same_after a b (usage j p o i) (usage k q u v) = let same = same_route h.target (Usage j) (Usage k) o u in cc
  same_after a b (usage j p o i) (post x q u v w) =
      let same = same_route h.target (Usage j) Requests o u in absurd (cc)
  same_after a b (post z p o i e) (no_host q) = absurd (q p)
  same_after a b (post z p o i e) (no_path q u) = absurd (u Requests o.0 o.1)
  same_after a b (post z p o i e) (no_method r q u v) =
      absurd (v (i ∙ ap method_of (same_route h.target Requests r o u)))
  same_after a b (post z p o i e) (show k q u v) = let same = same_route h.target Requests (Show k) o u in absurd (cc)
  same_after a b (post z p o i e) (usage k q u v) =
      let same = same_route h.target Requests (Usage k) o u in absurd (cc)
  same_after a b (post z p o i e) (post x q u v w) = same_post (lines_of h) rest a b e w

pub one_answer : (input : List ℕ) (a b : Asked) → AsksSome input a → AsksSome input b
    → (a ≡ b) ⊎ IsLeftOpen input
one_answer input a b (bad_head p) (bad_head q) = inl refl
one_answer input a b (bad_head p) (large_head q) = inr (record { bad = p; large = q })
one_answer input a b (bad_head p) (whole_head h rest x q u) = absurd (whole_not_bad input h rest q p)
one_answer input a b (large_head p) (bad_head q) = inr (record { bad = q; large = p })
one_answer input a b (large_head p) (large_head q) = inl refl
one_answer input a b (large_head p) (whole_head h rest x q u) = absurd (whole_not_large input h rest q p)
one_answer input a b (whole_head h rest x p o) (bad_head q) = absurd (whole_not_bad input h rest p q)
one_answer input a b (whole_head h rest x p o) (large_head q) = absurd (whole_not_large input h rest p q)
one_answer input a b (whole_head h rest x p o) (whole_head k others y q u) =
    let same = one_head input h k rest others p q in
    inl (same_after k others a b (subst (λ r. AsksAfter k r a) same.1 (subst (λ e. AsksAfter e rest a) same.0 o)) u)
