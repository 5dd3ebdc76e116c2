-- What an exchange writes.
use Rattle.std.specs.Prelude.{◌≡◌, ◌⊎◌, ℕ, List, [], codes, length, Option, String, string_bytes, Result, Ok, Err}
use Rattle.std.specs.{declared.alloc.Global.Global, Io.KnownBytes.Appends}
use Rattle.register_desk.specs.declared.end.End.TheVariants.{Memory, Store, Broken, ReadFault, WriteFault, BadHeader}
use Rattle.register_desk.specs.{declared.end.End.End, Run.IsPrefixOf}

-- The replies to ends, which are fixed bytes: 503 where memory gave out, 500 where the database refused or the desk is
-- broken. After the ends of a stream nothing is written.
abbrev pub end_reply : End → List ℕ
end_reply Memory =
    codes "HTTP/1.1 503 Service Unavailable\r\nContent-Type: application/json\r\nContent-Length: 26\r\nConnection: close\r\n\r\n{\"end\":30,\"name\":\"Memory\"}"
end_reply Store =
    codes "HTTP/1.1 500 Internal Server Error\r\nContent-Type: application/json\r\nContent-Length: 25\r\nConnection: close\r\n\r\n{\"end\":31,\"name\":\"Store\"}"
end_reply Broken =
    codes "HTTP/1.1 500 Internal Server Error\r\nContent-Type: application/json\r\nContent-Length: 26\r\nConnection: close\r\n\r\n{\"end\":32,\"name\":\"Broken\"}"
end_reply ReadFault = []
end_reply WriteFault = []
end_reply BadHeader = []

-- the bytes that are to be written
abbrev pub sent_text : Result (String Global) End → List ℕ
sent_text (Ok text) = string_bytes text
sent_text (Err end) = end_reply end

-- a prefix of the reply was written, each byte counted, and the whole where a reply is counted
pub record Sends (reply : List ℕ) (old new : Option (List ℕ)) (written replies : ℕ) : Type 0 where
  pub part : List ℕ
  pub prefix : IsPrefixOf part reply
  pub wrote : Appends old new part
  pub counted : written ≡ length part
  pub whole : ((replies ≡ 1) × (part ≡ reply)) ⊎ (replies ≡ 0)
