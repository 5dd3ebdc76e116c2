-- The router finds each route by its text.
use Rattle.std.proofs.Common.{◌≡◌, ℕ, zero, suc, ◌+◌, ◌-◌, ◌<◌, ◌≤◌, ◌^◌, List, [], ◌∷◌, ◌++◌, Bool, true, false, cond}
use Rattle.std.proofs.Common.{◌&&◌, length, take, drop, Option, Some, None, refl, sym, ap, ◌∙◌, arith, codes}
use Rattle.std.proofs.Common.{length-append, take-append-drop, ◌/◌, ◌%◌, lit<}
use Rattle.std.proofs.lemmas.Slice.Eq.{bytes_eq-Decides}
use Rattle.std.proofs.lemmas.Str.{IsUtf8-append, IsUtf8-from_ascii}
use Rattle.std.proofs.lemmas.List.{drop_at, take_at, append-nil}
use Rattle.std.proofs.lemmas.Fmt.{decimal_by_steps, IsAscii-decimal}
use Rattle.std.specs.Prelude.{◌==◌, decimal, ltb, nat_eq, IsUtf8}
use Rattle.std.specs.{List.AllByRecursion, Str.bytes_eq, Cmp.Lexicographic.pointwise}
use Rattle.matchit.specs.Seek.{first, seek, step, own, or_else, param_step, longest_suffix, segment, has_slash, cuts}
use Rattle.matchit.specs.Seek.{better, with_suffix}
use Rattle.matchit.specs.{Rows.RowsOf, Router.RouteOf}
use Rattle.http_messages.specs.declared.route.Route.TheVariants.{Requests, Show, Usage}
use Rattle.http_messages.specs.declared.route.RoutePattern.{RoutePattern}
use Rattle.http_messages.specs.Route.{IsRoute, route_text, routes, key_route, usage_row, requests_row}
use Rattle.http_messages.specs.{declared.route.Route.Route, Within.pattern_of}
use Rattle.register_requests.specs.Request.{IsKeyNumber}

abbrev pub IsDigit : ℕ → Type 0
IsDigit b = (48 ≤ b) × (b < 58)

abbrev pub AreDigits : List ℕ → Type 0
AreDigits bytes = AllByRecursion IsDigit bytes

or_else-None : {K : Type 0} (x : Option K) → or_else x None ≡ x
or_else-None None = refl
or_else-None (Some x) = refl

-- what is found after what a parameter took
abbrev go_on : {K : Type 0} → ℕ × RowsOf K → List ℕ → Option K
go_on r path = seek (r.0 - 1) r.1 path

abbrev no_row_by : {K : Type 0} → Bool → ℕ → ℕ × RowsOf K
no_row_by {K} v m = cond {A = ℕ × RowsOf K} v (0, []) (m, [])

-- what follows a parameter where no row goes on
nothing : {K : Type 0} (path : List ℕ) (v : Bool) (m : ℕ) → ((n : ℕ) → seek {K = K} n [] path ≡ None)
    → or_else (go_on (no_row_by {K = K} v m) path) None ≡ None
nothing path true m none = ap (λ x. or_else x None) (none (0 - 1))
nothing path false m none = ap (λ x. or_else x None) (none (m - 1))

-- no row, no route
pub seek-nil : {K : Type 0} (n : ℕ) (path : List ℕ) → seek {K = K} n [] path ≡ None
unfolding seek param_step
seek-nil n [] = refl
seek-nil (suc n) (b ∷ path) = seek-nil n path
seek-nil {K} zero (b ∷ path) =
    let none = no_row_by {K = K} (has_slash (b ∷ path)) (suc (length path)) in
    ap (λ x. or_else x (or_else (go_on none path) None)) (seek-nil {K = K} zero path)
    ∙ nothing {K = K} path (has_slash (b ∷ path)) (suc (length path)) (λ n. seek-nil {K = K} n path)

-- a byte, where no parameter and no catch-all may stand
pub seek-byte : {K : Type 0} (rs : RowsOf K) (b : ℕ) (path : List ℕ) → step 256 rs ≡ [] → step 257 rs ≡ []
    → seek 0 rs (b ∷ path) ≡ seek 0 (step b rs) path
unfolding seek param_step
seek-byte {K} rs b path p q =
    let after = go_on (param_step (step 256 rs) (b ∷ path)) path in
    let after_none = go_on (param_step {K = K} [] (b ∷ path)) path in
    let none : or_else after (own (step 257 rs)) ≡ None =
    ap (λ w. or_else after (own w)) q ∙ or_else-None after
    ∙ ap (λ w. go_on (param_step w (b ∷ path)) path) p
    ∙ sym (ap (λ x. or_else x (or_else after_none None)) (seek-nil 0 path) ∙ or_else-None after_none)
    ∙ seek-nil {K = K} 0 (b ∷ path) in
    ap (or_else (seek 0 (step b rs) path)) none ∙ or_else-None (seek 0 (step b rs) path)

-- bytes that a parameter took
pub seek-skipped : {K : Type 0} (rs : RowsOf K) (s path : List ℕ) → seek (length s) rs (s ++ path) ≡ seek 0 rs path
unfolding seek
seek-skipped rs [] path = refl
seek-skipped rs (b ∷ s) path = seek-skipped rs s path

-- ---- a parameter of digits

no_slash : (b : ℕ) → IsDigit b → (b == 47) ≡ false
no_slash b p = grind arith

no_param : (b : ℕ) → IsDigit b → (256 == b) ≡ false
no_param b p = grind arith

no_last : (b : ℕ) → IsDigit b → nat_eq 47 b ≡ false
no_last b p = grind arith

-- digits have no slash
segment-digits : (y : List ℕ) → AreDigits y → segment y ≡ y
segment-digits [] p = refl
segment-digits (b ∷ y) p =
    ap (λ v. cond v (b ∷ []) (b ∷ segment y)) (no_slash b p.0) ∙ ap (λ l. b ∷ l) (segment-digits y p.1)

has_slash-digits : (y : List ℕ) → AreDigits y → has_slash y ≡ false
has_slash-digits [] p = refl
has_slash-digits (b ∷ y) p = ap (λ v. cond v true (has_slash y)) (no_slash b p.0) ∙ has_slash-digits y p.1

-- the segment of digits with a slash after them
segment-slash : (y z : List ℕ) → AreDigits y → segment (y ++ 47 ∷ z) ≡ y ++ 47 ∷ []
segment-slash [] z p = refl
segment-slash (b ∷ y) z p =
    ap (λ v. cond v (b ∷ []) (b ∷ segment (y ++ 47 ∷ z))) (no_slash b p.0)
    ∙ ap (λ l. b ∷ l) (segment-slash y z p.1)

-- digits do not end in a slash
last-digits : (y : List ℕ) (n : ℕ) → length y ≡ suc n → AreDigits y → pointwise nat_eq (47 ∷ []) (drop n y) ≡ false
last-digits [] n e p = absurd (omega arith)
last-digits (b ∷ []) zero e p = ap (λ v. v && true) (no_last b p.0)
last-digits (b ∷ c ∷ y) zero e p = absurd (omega arith)
last-digits (b ∷ y) (suc n) e p = last-digits y n (omega arith) p.1

-- ---- the three routes

and_false : (v : Bool) → (v && false) ≡ false
and_false true = refl
and_false false = refl

not_below_zero : (n : ℕ) → ltb n 0 ≡ false
not_below_zero n = grind arith

kept_suffix : (seg best : List ℕ) → better seg best [] ≡ best
kept_suffix seg best = ap (λ v. cond (v && cuts seg []) [] best) (not_below_zero (length best))

one_below : (n : ℕ) → 0 < n → ltb 1 (n + 1) ≡ true
one_below n some = grind arith

module _ {K : Type 0} (u k q : K) where
  -- what may follow a parameter
  abbrev pub after : RowsOf K
  after = (codes "/usage", u) ∷ ([], k) ∷ []

  abbrev pub at_param : RowsOf K
  at_param = (256 ∷ codes "/usage", u) ∷ (256 ∷ [], k) ∷ []

  abbrev pub rows : RowsOf K
  rows = (codes "/keys/" ++ 256 ∷ codes "/usage", u) ∷ (codes "/keys/" ++ 256 ∷ [], k) ∷ (codes "/requests", q) ∷ []

  -- the longest suffix of these rows, by whether the segment ends in a slash after another byte
  suffix_by : (seg : List ℕ) → longest_suffix seg after ≡ cond (cuts seg (47 ∷ [])) (47 ∷ []) []
  suffix_by seg = kept_suffix seg (cond (cuts seg (47 ∷ [])) (47 ∷ []) [])

  abbrev param_by : List ℕ → List ℕ → ℕ × RowsOf K
  param_by y ls =
      cond (ltb 0 (length ls)) (length (segment y) - length ls, with_suffix ls after)
      (cond (has_slash y) (0, []) (length y, after))

  param_step-digits : (y : List ℕ) → 0 < length y → AreDigits y → param_step after y ≡ (length y, after)
  unfolding param_step
  param_step-digits y some p =
      let long : length y ≡ suc (length y - 1) = omega arith in
      let uncut : cuts y (47 ∷ []) ≡ false =
      ap (λ v. ltb 1 (length y) && v) (last-digits y (length y - 1) long p) ∙ and_false (ltb 1 (length y)) in
      let none : longest_suffix (segment y) after ≡ [] =
      ap (λ seg. longest_suffix seg after) (segment-digits y p) ∙ suffix_by y
      ∙ ap (λ v. cond v (47 ∷ []) []) uncut in
      ap (param_by y) none ∙ ap (λ v. cond {A = ℕ × RowsOf K} v (0, []) (length y, after)) (has_slash-digits y p)

  param_step-slash : (y z : List ℕ) → 0 < length y → AreDigits y
      → param_step after (y ++ 47 ∷ z) ≡ (length y, (codes "/usage", u) ∷ [])
  unfolding param_step
  param_step-slash y z some p =
      let seg = y ++ 47 ∷ [] in
      let long : length seg ≡ length y + 1 = length-append y (47 ∷ []) in
      let place : length seg - 1 ≡ length y = omega arith in
      let ends : pointwise nat_eq (47 ∷ []) (drop (length seg - 1) seg) ≡ true =
      ap (λ n. pointwise nat_eq (47 ∷ []) (drop n seg)) place
      ∙ ap (pointwise nat_eq (47 ∷ [])) (drop_at y (47 ∷ []) (length y) refl) in
      let cut : cuts seg (47 ∷ []) ≡ true =
      ap (λ n. ltb 1 n && pointwise nat_eq (47 ∷ []) (drop (length seg - 1) seg)) long
      ∙ ap (λ v. v && pointwise nat_eq (47 ∷ []) (drop (length seg - 1) seg)) (one_below (length y) some) ∙ ends in
      let one : longest_suffix (segment (y ++ 47 ∷ z)) after ≡ 47 ∷ [] =
      ap (λ s. longest_suffix s after) (segment-slash y z p) ∙ suffix_by seg ∙ ap (λ v. cond v (47 ∷ []) []) cut in
      let taken : length (segment (y ++ 47 ∷ z)) - 1 ≡ length y =
      ap (λ s. length s - 1) (segment-slash y z p) ∙ place in
      ap (param_by (y ++ 47 ∷ z)) one ∙ ap (λ n. (n, (codes "/usage", u) ∷ [])) taken

  abbrev stepped : Bool → RowsOf K
  stepped v =
      let key_alone = cond {A = RowsOf K} v (([], k) ∷ []) [] in
      cond {A = RowsOf K} v ((codes "/usage", u) ∷ key_alone) key_alone

  -- a digit goes to the parameter
  to_param : (b : ℕ) (path : List ℕ) → IsDigit b
      → seek 0 at_param (b ∷ path) ≡ seek ((param_step after (b ∷ path)).0 - 1) (param_step after (b ∷ path)).1 path
  unfolding seek
  to_param b path p =
      let goes = seek ((param_step after (b ∷ path)).0 - 1) (param_step after (b ∷ path)).1 path in
      ap (λ v. or_else (seek 0 (stepped v) path) (or_else goes None)) (no_param b p)
      ∙ ap (λ x. or_else x (or_else goes None)) (seek-nil {K = K} 0 path) ∙ or_else-None goes

  ends_at_key : seek 0 after [] ≡ Some k
  unfolding seek
  ends_at_key = refl

  ends_at_usage : seek 0 ((codes "/usage", u) ∷ []) (codes "/usage") ≡ Some u
  unfolding seek param_step
  ends_at_usage = refl

  pub seek-key : (y : List ℕ) → 0 < length y → AreDigits y → seek 0 at_param y ≡ Some k
  seek-key [] some p = absurd (omega arith)
  seek-key (b ∷ y) some p =
      let left : suc (length y) - 1 ≡ length y = omega arith in
      to_param b y p.0 ∙ ap (λ (r : ℕ × RowsOf K). seek (r.0 - 1) r.1 y) (param_step-digits (b ∷ y) some p)
      ∙ ap (λ n. seek n after y) left ∙ ap (seek (length y) after) (sym (append-nil y)) ∙ seek-skipped after y []
      ∙ ends_at_key

  pub seek-usage : (y : List ℕ) → 0 < length y → AreDigits y → seek 0 at_param (y ++ codes "/usage") ≡ Some u
  seek-usage [] some p = absurd (omega arith)
  seek-usage (b ∷ y) some p =
      let left : suc (length y) - 1 ≡ length y = omega arith in
      to_param b (y ++ codes "/usage") p.0
      ∙ ap (λ (r : ℕ × RowsOf K). go_on r (y ++ codes "/usage")) (param_step-slash (b ∷ y) (codes "usage") some p)
      ∙ ap (λ n. seek n ((codes "/usage", u) ∷ []) (y ++ codes "/usage")) left
      ∙ seek-skipped ((codes "/usage", u) ∷ []) y (codes "/usage") ∙ ends_at_usage

  pub to_keys : (path : List ℕ) → seek 0 rows (codes "/keys/" ++ path) ≡ seek 0 at_param path
  to_keys path =
      let r1 = step 47 rows in
      let r2 = step 107 r1 in
      let r3 = step 101 r2 in
      let r4 = step 121 r3 in
      let r5 = step 115 r4 in
      seek-byte rows 47 (107 ∷ 101 ∷ 121 ∷ 115 ∷ 47 ∷ path) refl refl
      ∙ seek-byte r1 107 (101 ∷ 121 ∷ 115 ∷ 47 ∷ path) refl refl
      ∙ seek-byte r2 101 (121 ∷ 115 ∷ 47 ∷ path) refl refl
      ∙ seek-byte r3 121 (115 ∷ 47 ∷ path) refl refl
      ∙ seek-byte r4 115 (47 ∷ path) refl refl
      ∙ seek-byte r5 47 path refl refl

  pub seek-requests : seek 0 rows (codes "/requests") ≡ Some q
  unfolding seek param_step
  seek-requests = refl

-- ---- the text of a number

digits_more : (ds : List ℕ) (b : ℕ) → AreDigits ds → IsDigit b → AreDigits (ds ++ b ∷ [])
digits_more [] b p q = (q, tt)
digits_more (d ∷ ds) b p q = (p.0, digits_more ds b p.1 q)

abbrev IsText : ℕ → List ℕ → Type 0
IsText n ds = AreDigits ds × (0 < length ds)

one_digit : (n : ℕ) → n < 10 → IsText n ((48 + n) ∷ [])
one_digit n small = (((omega arith, omega arith), tt), lit< tt)

more_digits : (n : ℕ) (ds : List ℕ) → 10 ≤ n → IsText (n / 10) ds → IsText n (ds ++ ((48 + n % 10) ∷ []))
more_digits n ds big p =
    let long = length-append ds ((48 + n % 10) ∷ []) in
    (digits_more ds (48 + n % 10) p.0 (omega arith, omega arith), omega (arith, p.1, long))

pub decimal-digits : (n : ℕ) → n < 2 ^ 64 → AreDigits (decimal n) × (0 < length (decimal n))
decimal-digits n small = decimal_by_steps IsText one_digit more_digits n small

-- ---- what stands between a prefix and a back

pub cut_prefix : (prefix rest target : List ℕ) → target ≡ prefix ++ rest
    → bytes_eq (take (length prefix) target) prefix ≡ false → ⊥
cut_prefix prefix rest target e miss =
    let same : take (length prefix) target ≡ prefix =
    ap (take (length prefix)) e ∙ take_at prefix rest (length prefix) refl in
    let hit = (bytes_eq-Decides (take (length prefix) target) prefix).1 same in
    absurd (cc)

pub prefix_joins : (prefix rest target : List ℕ) → bytes_eq (take (length prefix) target) prefix ≡ true
    → rest ≡ drop (length prefix) target → target ≡ prefix ++ rest
prefix_joins prefix rest target hit e =
    sym (take-append-drop (length prefix) target)
    ∙ ap (λ l. l ++ drop (length prefix) target) ((bytes_eq-Decides (take (length prefix) target) prefix).0 hit)
    ∙ ap (λ l. prefix ++ l) (sym e)

pub rest_is : (prefix rest target more : List ℕ) → target ≡ prefix ++ more → rest ≡ drop (length prefix) target
    → rest ≡ more
rest_is prefix rest target more e r = r ∙ ap (drop (length prefix)) e ∙ drop_at prefix more (length prefix) refl

pub back_joins : (field back rest : List ℕ) → bytes_eq (drop (length rest - length back) rest) back ≡ true
    → field ≡ take (length rest - length back) rest → rest ≡ field ++ back
back_joins field back rest hit e =
    let n = length rest - length back in
    sym (take-append-drop n rest) ∙ ap (λ l. take n rest ++ l) ((bytes_eq-Decides (drop n rest) back).0 hit)
    ∙ ap (λ l. l ++ back) (sym e)

pub cut_back : (field back rest : List ℕ) → rest ≡ field ++ back
    → bytes_eq (drop (length rest - length back) rest) back ≡ false → ⊥
cut_back field back rest e miss =
    let long : length rest ≡ length field + length back = ap length e ∙ length-append field back in
    let here : length rest - length back ≡ length field = omega arith in
    let same : drop (length rest - length back) rest ≡ back =
    ap (λ n. drop n rest) here ∙ ap (drop (length field)) e ∙ drop_at field back (length field) refl in
    let hit = (bytes_eq-Decides (drop (length rest - length back) rest) back).1 same in
    absurd (cc)

-- ---- the routes of the router

-- the row of a route
abbrev pub row_of : Route → RouteOf RoutePattern
row_of Requests = requests_row
row_of (Show key) = key_route
row_of (Usage key) = usage_row

pub fits_number : (n : ℕ) → IsKeyNumber n → n < 2 ^ 64
fits_number n h = omega (arith, h.1)

-- the router finds each route by its text
pub finds_route : (r : Route) → IsRoute r → first routes (route_text r) ≡ Some (row_of r)
finds_route Requests p = seek-requests usage_row key_route requests_row
finds_route (Show key) p =
    let text = decimal-digits key (fits_number key p) in
    ap (λ l. first routes (codes "/keys/" ++ l)) (append-nil (decimal key))
    ∙ to_keys usage_row key_route requests_row (decimal key)
    ∙ seek-key usage_row key_route requests_row (decimal key) text.1 text.0
finds_route (Usage key) p =
    let text = decimal-digits key (fits_number key p) in
    to_keys usage_row key_route requests_row (decimal key ++ codes "/usage")
    ∙ seek-usage usage_row key_route requests_row (decimal key) text.1 text.0

pub value_is : (r : Route) → (row_of r).value ≡ pattern_of r
value_is Requests = refl
value_is (Show key) = refl
value_is (Usage key) = refl

digits_text : (key : ℕ) → IsKeyNumber key → IsUtf8 (decimal key)
digits_text key p = IsUtf8-from_ascii (decimal key) (IsAscii-decimal key (fits_number key p))

some_is : {A : Type 0} (a b : A) → Some a ≡ Some b → a ≡ b
some_is a b e = cc

-- the text of a route is UTF-8
pub utf8_of_route : (r : Route) → IsRoute r → IsUtf8 (route_text r)
unfolding lib.Utf8.encode
utf8_of_route Requests p = (codes "/requests", (refl, refl))
utf8_of_route (Show key) p =
    IsUtf8-append (codes "/keys/") (decimal key ++ codes "") (codes "/keys/", (refl, refl))
    (IsUtf8-append (decimal key) (codes "") (digits_text key p) ([], (refl, refl)))
utf8_of_route (Usage key) p =
    IsUtf8-append (codes "/keys/") (decimal key ++ codes "/usage") (codes "/keys/", (refl, refl))
    (IsUtf8-append (decimal key) (codes "/usage") (digits_text key p) (codes "/usage", (refl, refl)))

-- the row that is found for the text of a route has its place
pub place_found : (r : Route) (rs : RowsOf (RouteOf RoutePattern)) (text : List ℕ) (row : RouteOf RoutePattern)
    → IsRoute r
    → rs ≡ routes → text ≡ route_text r
    → first rs text ≡ Some row → row.value ≡ pattern_of r
place_found r rs text row p same e found =
    let wanted = finds_route r p in
    let here : first rs text ≡ first routes (route_text r) = ap (λ w. first w text) same ∙ ap (first routes) e in
    let one : row ≡ row_of r = some_is row (row_of r) (sym found ∙ here ∙ wanted) in
    ap (λ (w : RouteOf RoutePattern). w.value) one ∙ value_is r

-- some row is found for the text of a route
pub some_found : (r : Route) (rs : RowsOf (RouteOf RoutePattern)) (text : List ℕ) → IsRoute r → rs ≡ routes
    → text ≡ route_text r → first rs text ≡ None → ⊥
some_found r rs text p same e none =
    let wanted = finds_route r p in
    let here : first rs text ≡ first routes (route_text r) = ap (λ w. first w text) same ∙ ap (first routes) e in
    let both : None ≡ Some (row_of r) = sym none ∙ here ∙ wanted in
    cc
