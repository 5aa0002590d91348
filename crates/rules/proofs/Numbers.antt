-- A Result is decided by the number and the values that it stands for: two answers with the same of these are the same.
-- Assumes nothing.
use Prim.Native.Nat.{ℕ}
use native.Mathlib.Omega.{arith}
use mathlib.Core.Path.{◌≡◌, refl, sym, ap}
use mathlib.Core.Bool.{Bool}
use Rattle.std.specs.Prelude.{Result, Ok, Err}
use Rattle.rules.specs.Numbers.{code, number_of, value_of, yes_of, kind_code}
use Rattle.rules.specs.declared.Refusal.{Refusal}
use Rattle.rules.specs.declared.Kind.{Kind}

pub code_unique : (r q : Refusal) → code r ≡ code q → r ≡ q
code_unique r q e = grind arith

-- no refusal has the number of done
pub code_some : (r : Refusal) → ¬ (code r ≡ 0)
code_some r = grind arith

pub kind_unique : (k l : Kind) → kind_code k ≡ kind_code l → k ≡ l
kind_unique k l e = grind arith

-- answers of the same number and the same value are the same
pub same_answer : {A B : Type 0} (value : Result A Refusal → B) (r q : Result A Refusal) → ((a b : A) → value (Ok a) ≡ value (Ok b) → a ≡ b) → number_of r ≡ number_of q → value r ≡ value q → r ≡ q
same_answer value (Ok a) (Ok b) f n v = ap Ok (f a b v)
same_answer value (Ok a) (Err q) f n v = absurd (code_some q (sym n))
same_answer value (Err r) (Ok b) f n v = absurd (code_some r n)
same_answer value (Err r) (Err q) f n v = ap Err (code_unique r q n)

pub same_count : (r q : Result ℕ Refusal) → number_of r ≡ number_of q → value_of r ≡ value_of q → r ≡ q
same_count r q = same_answer value_of r q (λ a b e. e)

pub same_yes : (r q : Result Bool Refusal) → number_of r ≡ number_of q → yes_of r ≡ yes_of q → r ≡ q
same_yes r q = same_answer yes_of r q (λ a b e. e)

pub same_done : (r q : Result (Unit {0}) Refusal) → number_of r ≡ number_of q → r ≡ q
same_done r q n = same_answer (λ x. tt {0}) r q (λ a b e. refl) n refl
