-- The routes, by the text of each.
use Rattle.std.specs.Prelude.{◌≡◌, ◌≢◌, ℕ, List, [], ◌∷◌, ◌++◌, Option, Some, None, codes, decimal}
use Rattle.matchit.specs.{Rows.RowsOf, Router.RouteOf}
use Rattle.register_requests.specs.Request.{IsKeyNumber}
use Rattle.http_messages.specs.declared.route.Route.TheVariants.{Requests, Show, Usage}
use Rattle.http_messages.specs.{declared.route.Route.Route, declared.route.RoutePattern.RoutePattern}
use Rattle.http_messages.specs.declared.route.RoutePattern.TheVariants as kept

-- the target that a route is spelled by
abbrev pub route_text : Route → List ℕ
route_text Requests = codes "/requests"
route_text (Show key) = codes "/keys/" ++ (decimal key ++ codes "")
route_text (Usage key) = codes "/keys/" ++ (decimal key ++ codes "/usage")

-- the number of the key that the route names, if it names one, is that of a key
abbrev pub IsRoute : Route → Type 0
IsRoute Requests = Unit {0}
IsRoute (Show key) = IsKeyNumber key
IsRoute (Usage key) = IsKeyNumber key

-- the route that the target spells, or none where it spells none
abbrev pub IsRouteOf : List ℕ → Option Route → Type 0
IsRouteOf target None = (r : Route) → IsRoute r → target ≢ route_text r
IsRouteOf target (Some r) = IsRoute r × (target ≡ route_text r)

-- the method that a route takes
abbrev pub method_of : Route → List ℕ
method_of Requests = codes "POST"
method_of (Show key) = codes "GET"
method_of (Usage key) = codes "GET"

-- the row of a key: what the router matches, the text that it is made of, where the number stands, and what is kept
abbrev pub key_route : RouteOf RoutePattern
key_route =
    record { pattern = codes "/keys/" ++ 256 ∷ []; text = codes "/keys/{n}"; names = (7, 8) ∷ []; value = kept.Key }

-- the row of what a key may be used for
abbrev pub usage_row : RouteOf RoutePattern
usage_row =
    record {
      pattern = codes "/keys/" ++ 256 ∷ codes "/usage";
      text = codes "/keys/{n}/usage";
      names = (7, 8) ∷ [];
      value = kept.Usage;
    }

-- the row of requests
abbrev pub requests_row : RouteOf RoutePattern
requests_row = record { pattern = codes "/requests"; text = codes "/requests"; names = []; value = kept.Requests }

-- the rows of the router, each under its pattern
abbrev pub routes : RowsOf (RouteOf RoutePattern)
routes = (usage_row.pattern, usage_row) ∷ (key_route.pattern, key_route) ∷ (requests_row.pattern, requests_row) ∷ []
