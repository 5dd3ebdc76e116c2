-- Natural numbers and texts in cells are compared as they are.
use Rattle.std.proofs.Common.{◌≡◌, ◌==◌, ◌&&◌, ◌||◌, not, ℕ, nat_le, pos, List, Bool, Some, ap, ◌∙◌, arith}
use Rattle.std.proofs.lemmas.Bool.Decides.{eqb_tells, leb_tells}
use Rattle.std.proofs.lemmas.Int.{ints}
use Rattle.std.proofs.lemmas.Map.Text.{is_eq-slice_cmp}
use Rattle.std.specs.Ordering.{is_eq, is_ge, is_gt, is_le, int_cmp}
use Rattle.std.specs.{Str.bytes_eq, declared.cmp.Ordering.Ordering}
use Rattle.sqlite.specs.declared.types.Value.TheVariants.{Int, Text}
use Rattle.sqlite.specs.Collation.TheVariants.{Binary}
use Rattle.sqlite.specs.Ops.{binary, unary, from_truth, is_true}
use Rattle.sqlite_sql.specs.declared.ops.BinaryOp.TheVariants.{And, Compare, Or}
use Rattle.sqlite_sql.specs.declared.ops.UnaryOp.TheVariants.{Not}
use Rattle.sqlite_sql.specs.declared.ops.CompareOp.TheVariants.{Eq, Ge, Gt, Le}
use Rattle.sqlite_value.proofs.OrderLemmas.{value_cmp-Int, value_cmp-Text}
use Rattle.sql_steps.proofs.Queries.{compares}

same_integer : (m n : ℕ) → is_eq (int_cmp (pos m) (pos n)) ≡ (m == n)
same_integer m n = search (arith, eqb_tells, ints)

pub equal_numbers : (m n : ℕ) → is_true (binary (Compare Eq Binary) (Int (pos m)) (Int (pos n))) ≡ (m == n)
equal_numbers m n = compares Eq (pos m) (pos n) ∙ same_integer m n

at_most : (m n : ℕ) → is_le (int_cmp (pos m) (pos n)) ≡ nat_le m n
at_most m n = search (arith, nat_le, leb_tells, ints)

pub most_numbers : (m n : ℕ) → is_true (binary (Compare Le Binary) (Int (pos m)) (Int (pos n))) ≡ nat_le m n
most_numbers m n = compares Le (pos m) (pos n) ∙ at_most m n

at_least : (m n : ℕ) → is_ge (int_cmp (pos m) (pos n)) ≡ nat_le n m
at_least m n = search (arith, nat_le, leb_tells, ints)

pub least_numbers : (m n : ℕ) → is_true (binary (Compare Ge Binary) (Int (pos m)) (Int (pos n))) ≡ nat_le n m
least_numbers m n = compares Ge (pos m) (pos n) ∙ at_least m n

turned : (o : Ordering) → is_gt o ≡ not (is_le o)
turned o = search arith

-- the one is more where it is not at most the other
pub more_numbers : (m n : ℕ) → is_true (binary (Compare Gt Binary) (Int (pos m)) (Int (pos n))) ≡ not (nat_le m n)
more_numbers m n = compares Gt (pos m) (pos n) ∙ turned (int_cmp (pos m) (pos n)) ∙ ap not (at_most m n)

pub equal_words : (a b : List ℕ) → is_true (binary (Compare Eq Binary) (Text a) (Text b)) ≡ bytes_eq a b
unfolding binary
equal_words a b = search (arith, value_cmp-Text, is_eq-slice_cmp)

-- ---- conditions of more than one part

-- what a comparison gives, as a value
pub equal_integers : (m n : ℕ) → binary (Compare Eq Binary) (Int (pos m)) (Int (pos n)) ≡ from_truth (Some (m == n))
unfolding binary
equal_integers m n = search (arith, value_cmp-Int, same_integer)

pub more_integers : (m n : ℕ)
    → binary (Compare Gt Binary) (Int (pos m)) (Int (pos n)) ≡ from_truth (Some (not (nat_le m n)))
unfolding binary
more_integers m n = search (arith, value_cmp-Int, turned, not, at_most)

pub equal_texts : (a b : List ℕ) → binary (Compare Eq Binary) (Text a) (Text b) ≡ from_truth (Some (bytes_eq a b))
unfolding binary
equal_texts a b = search (arith, value_cmp-Text, is_eq-slice_cmp)

pub both : (a b : Bool) → binary And (from_truth (Some a)) (from_truth (Some b)) ≡ from_truth (Some (a && b))
unfolding binary
both a b = search arith

pub one_of : (a b : Bool) → is_true (binary Or (from_truth (Some a)) (from_truth (Some b))) ≡ (a || b)
unfolding binary
one_of a b = search arith

pub opposite : (a : Bool) → is_true (unary Not (from_truth (Some a))) ≡ not a
unfolding unary
opposite a = search arith
