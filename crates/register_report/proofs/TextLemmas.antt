-- What is written one piece after another.
use Rattle.std.proofs.Common.{◌≡◌, ◌≢◌, ℕ, Bool, inl, inr, List, [], ◌++◌, length, Option, Result, Ok, Err, IfOk, OnOk}
use Rattle.std.proofs.Common.{refl, sym, ap, subst, ◌∙◌, append_assoc, length-append, arith}
use Rattle.std.proofs.lemmas.List.{append-nil}
use Rattle.std.specs.Prelude.{IsErrAnd}
use Rattle.streams.specs.declared.watched.Watched.{Watched}
use Rattle.register_desk.specs.declared.end.End.TheVariants.{WriteFault}
use Rattle.register_desk.specs.Run.{AreFlushed, IsPrefixOf}
use Rattle.register_desk.specs.declared.end.End.{End}
use Rattle.register_desk.proofs.Appended.{appends_none, appends_then}
use Rattle.register_report.specs.Within.TextWriter.{Puts, PutsText}

-- a prefix of the prefix, and of what it begins
pub prefix_of_first : (part text more : List ℕ) → IsPrefixOf part text → IsPrefixOf part (text ++ more)
prefix_of_first part text more prefix = (
  prefix.0 ++ more,
  sym (append_assoc part prefix.0 more)
      ∙ ap (λ bytes. bytes ++ more) prefix.1,
)

pub prefix_after : (first part text : List ℕ) → IsPrefixOf part text
    → IsPrefixOf (first ++ part) (first ++ text)
prefix_after first part text prefix =
    (prefix.0, append_assoc first part prefix.0 ∙ ap (λ bytes. first ++ bytes) prefix.1)

pub prefix_whole : (text : List ℕ) → IsPrefixOf text text
prefix_whole text = ([], append-nil text)

-- a call that went well met no fault
pub no_fault : {T : Type 0} (x : T) → ◌≢◌ {A = Result T End} (Ok x) (Err WriteFault)
no_fault x is = cc

-- a failure that was passed on is the same
pub passed_on : {A : Type 0} (P : Result A End → Type 0) (e : End) (r : Result A End) → IsErrAnd r (λ x. x ≡ e)
    → P (Err e) → P r
passed_on P e (Ok x) failed fails = absurd failed
passed_on P e (Err f) same fails = subst (λ (x : End). P (Err x)) (sym same) fails

-- what is flushed after a piece and then another
flushed_then : (xs ys : List ℕ) {a b c : Bool} → AreFlushed (length xs) a b → AreFlushed (length ys) b c
    → AreFlushed (length (xs ++ ys)) a c
flushed_then xs ys one (inl flushed) = inl flushed
flushed_then xs ys (inl flushed) (inr none) = inl (none.1 ∙ flushed)
flushed_then xs ys (inr first) (inr none) =
    inr (let more = length-append xs ys in omega (arith, more, first.0, none.0), none.1 ∙ first.1)

module _ {W : Type 0} (contents : W → Option (List ℕ)) where
  -- nothing was written
  pub puts_nothing : {T : Type 0} (writer : Watched W) (count : ℕ) (result : Result T End)
      → result ≢ Err WriteFault → Puts contents writer writer count count [] result
  puts_nothing writer count result sound = record {
    written = appends_none (contents writer.inner);
    counted = omega arith;
    flushed = λ other. inr (refl, refl);
    fault = λ is. absurd (sound is);
    bounded = λ bounded. bounded;
  }

  pub text_nothing : {T : Type 0} (writer : Watched W) (count : ℕ) (text : List ℕ) (e : End)
      → ◌≢◌ {A = Result T End} (Err e) (Err WriteFault)
      → PutsText {T = T} contents writer writer count count text (Err e)
  text_nothing writer count text e sound = record {
    bytes = [];
    puts = puts_nothing writer count (Err e) sound;
    prefix = (text, refl);
    whole = tt;
  }

module _ {W : Type 0} {contents : W → Option (List ℕ)} {a b : Watched W} {i j : ℕ} where
  -- what a failed call put, whatever it would have given
  pub puts_failed : {T U : Type 0} {bytes : List ℕ} {e : End}
      → Puts {T = T} contents a b i j bytes (Err e) → Puts {T = U} contents a b i j bytes (Err e)
  puts_failed {T} {U} {bytes} {e} puts = record {
    written = puts.written;
    counted = puts.counted;
    flushed = λ other. puts.flushed (λ is. other (let same : e ≡ WriteFault = cc in ap Err same));
    fault = λ is. puts.fault (let same : e ≡ WriteFault = cc in ap Err same);
    bounded = puts.bounded;
  }

  -- what a call put that went well, whatever it gave
  pub puts_well : {T U : Type 0} {bytes : List ℕ} {x : T} (y : U)
      → Puts {T = T} contents a b i j bytes (Ok x) → Puts {T = U} contents a b i j bytes (Ok y)
  puts_well {T} {U} {bytes} {x} y puts = record {
    written = puts.written;
    counted = puts.counted;
    flushed = λ other. puts.flushed (no_fault x);
    fault = λ is. absurd (no_fault y is);
    bounded = puts.bounded;
  }

  pub text_failed : {T U : Type 0} {text : List ℕ} {e : End}
      → PutsText {T = T} contents a b i j text (Err e)
      → PutsText {T = U} contents a b i j text (Err e)
  text_failed {T} {U} {text} {e} one = record {
    bytes = one.bytes;
    puts = puts_failed one.puts;
    prefix = one.prefix;
    whole = tt;
  }

  -- a text that was not written whole is a prefix of a longer one
  pub text_longer : {T : Type 0} {text : List ℕ} (more : List ℕ) {e : End}
      → PutsText {T = T} contents a b i j text (Err e)
      → PutsText {T = T} contents a b i j (text ++ more) (Err e)
  text_longer {T} {text} more {e} one = record {
    bytes = one.bytes;
    puts = one.puts;
    prefix = prefix_of_first one.bytes text more one.prefix;
    whole = tt;
  }

  -- the same of a text that is equal
  pub text_same : {T : Type 0} {put text : List ℕ} {r : Result T End} → put ≡ text
      → PutsText contents a b i j put r → PutsText contents a b i j text r
  text_same {T} {put} {text} {r} same one =
      subst (λ (t : List ℕ). PutsText {T = T} contents a b i j t r) same one

  module _ {c : Watched W} {k : ℕ} where
    -- what went well, and what came after it
    pub puts_then : {T U : Type 0} {xs ys : List ℕ} {x : T} {r : Result U End}
        → Puts {T = T} contents a b i j xs (Ok x) → Puts contents b c j k ys r
        → Puts contents a c i k (xs ++ ys) r
    puts_then {T} {U} {xs} {ys} {x} {r} one two = record {
      written =
          appends_then (contents a.inner) (contents b.inner) (contents c.inner) xs ys
          one.written two.written;
      counted = let more = length-append xs ys in omega (arith, one.counted, two.counted, more);
      flushed = λ other. flushed_then xs ys (one.flushed (no_fault x)) (two.flushed other);
      fault = two.fault;
      bounded = λ bounded. two.bounded (one.bounded bounded);
    }

    pub text_then : {T U : Type 0} {first next : List ℕ} {x : T} {r : Result U End}
        → PutsText {T = T} contents a b i j first (Ok x) → PutsText contents b c j k next r
        → PutsText contents a c i k (first ++ next) r
    text_then {T} {U} {first} {next} {x} {r} one two =
        let same : one.bytes ≡ first = one.whole in
        let prefix = prefix_after first two.bytes next two.prefix in
        record {
          bytes = one.bytes ++ two.bytes;
          puts = puts_then one.puts two.puts;
          prefix = subst (λ bytes. IsPrefixOf (bytes ++ two.bytes) (first ++ next)) (sym same) prefix;
          whole = both r two.whole;
        }
      where
        both : (r : Result U End) → OnOk r (two.bytes ≡ next)
            → OnOk r (one.bytes ++ two.bytes ≡ first ++ next)
        both (Ok y) is =
            ap (λ bytes. bytes ++ two.bytes) one.whole ∙ ap (λ bytes. first ++ bytes) is
        both (Err e) is = tt

-- what holds of a result's value
pub value_so : {V E : Type 0} {r : Result V E} {v : V} → r ≡ Ok v → (P : V → Type 0) → IfOk r P
    → P v
value_so {V} {E} {r} {v} is P holds = subst (λ (x : Result V E). IfOk x P) is holds
