-- The bytes of a reply.
use Rattle.std.specs.Prelude.{ℕ, List, [], ◌∷◌, ◌++◌, length, Option, Some, None, codes, decimal}
use Rattle.http.specs.StatusCode.{status_text}

-- a reply: its status, the method that it names as allowed, if any, and its body
pub record HttpReply : Type 0 where
  pub status : ℕ
  pub allow : Option (List ℕ)
  pub body : List ℕ

-- the end of a line in a head (RFC 9112)
abbrev pub crlf : List ℕ
crlf = 13 ∷ 10 ∷ []

-- the line that names the method of the route, in a refusal of another method alone
abbrev pub allow_line : Option (List ℕ) → List ℕ
allow_line None = []
allow_line (Some method) = codes "Allow: " ++ (method ++ crlf)

-- status_text gives the code and its phrase, as `http` spells it
abbrev pub reply_bytes : HttpReply → List ℕ
reply_bytes r =
    codes "HTTP/1.1 " ++ (status_text r.status
    ++ (codes "\r\nContent-Type: application/json\r\nContent-Length: " ++ (decimal (length r.body)
    ++ (crlf ++ (allow_line r.allow ++ (codes "Connection: close\r\n\r\n" ++ r.body))))))

-- 400 Bad Request: the input is no request of the register
abbrev pub bad_request : HttpReply
bad_request = record { status = 400; allow = None; body = codes "{\"name\":\"BadLine\",\"refused\":1}" }

-- 404 Not Found: no route has this target
abbrev pub no_route : HttpReply
no_route = record { status = 404; allow = None; body = codes "{\"name\":\"NoRoute\"}" }

-- 405 Method Not Allowed: the route takes this method
abbrev pub not_allowed : List ℕ → HttpReply
not_allowed method = record { status = 405; allow = Some method; body = codes "{\"name\":\"MethodNotAllowed\"}" }

-- 411 Length Required: no length of the body is announced
abbrev pub length_required : HttpReply
length_required = record { status = 411; allow = None; body = codes "{\"name\":\"LengthRequired\"}" }

-- 413 Content Too Large: the head or the body is longer than what is taken
abbrev pub too_large : HttpReply
too_large = record { status = 413; allow = None; body = codes "{\"name\":\"TooLarge\"}" }
