-- What `any` and `all` answer over the numbers below n, where the closure tests P.
-- Assumes nothing.
use Prim.Native.Nat.{ℕ, ◌<◌}
use native.Mathlib.Omega.{arith}
use native.Mathlib.Nat.{zero-add}
use mathlib.Core.Path.{◌≡◌, refl, ◌∙◌, subst}
use mathlib.Core.Bool.{Bool, true, false}
use mathlib.Core.List.{List}
use lib.ListN.{length}
use denote.Param.Members.{Mut}
use Rattle.std.proofs.iter.Yields.{nat_range_steps}
use Rattle.std.proofs.lemmas.Iterator.{YieldsList-from_range, cases_from_any, cases_from_all}
use Rattle.std.proofs.lemmas.List.FromFn.{length-range_with_len, get_or-range_with_len}
use Rattle.std.specs.declared.ops.Range.{Range}
use Rattle.std.specs.declared.option.Option.{Option}
use Rattle.std.specs.Bool.{MatchBool}
use Rattle.std.specs.Fn.{Called}
use Rattle.std.specs.Iterator.{YieldsThen}
use Rattle.std.specs.List.{range_with_len, FoldsTo, AllWithin, HoldsAt}
use Rattle.std.specs.Option.{MatchOption}
use Rattle.rules.specs.Answers.{Says}

module _ (P : ℕ → Type 0) (n : ℕ) where
  at : (Q : ℕ → Type 0) (k : ℕ) → k < n → HoldsAt Q (range_with_len 0 n) k → Q k
  at Q k l h = subst Q (get_or-range_with_len 0 n k 0 l ∙ zero-add k) (h 0)

  some_of : (r : Bool) → MatchBool r ((k : ℕ) × (k < length (range_with_len 0 n)) × HoldsAt P (range_with_len 0 n) k) (AllWithin (λ k. ¬ P k) (range_with_len 0 n) 0 (length (range_with_len 0 n))) → Says r ((k : ℕ) × (k < n) × P k)
  some_of true x = let l : x.0 < n = omega (arith, x.1, length-range_with_len 0 n) in (x.0, l, at P x.0 l x.2)
  some_of false a = λ x. at (λ k. ¬ P k) x.0 x.1 (λ d. a x.0 d (omega arith) (omega (arith, x.1, length-range_with_len 0 n))) x.2

  each_of : (r : Bool) → MatchBool r (AllWithin P (range_with_len 0 n) 0 (length (range_with_len 0 n))) ((k : ℕ) × (k < length (range_with_len 0 n)) × HoldsAt (λ k. ¬ P k) (range_with_len 0 n) k) → Says r ((k : ℕ) → k < n → P k)
  each_of true a = λ k l. at P k l (λ d. a k d (omega arith) (omega (arith, l, length-range_with_len 0 n)))
  each_of false x = let l : x.0 < n = omega (arith, x.1, length-range_with_len 0 n) in λ a. at (λ k. ¬ P k) x.0 l x.2 (a x.0 l)

  module _ {F : Type 0} {g : Mut F (ℕ × Unit {0}) Bool} (u : Range ℕ) (f : F) (r : Bool) where
    pub says_any : (xs : List ℕ) × (o : Option ℕ) × (j : F) × YieldsThen nat_range_steps (record { start = 0; end = n }) xs o u × FoldsTo (λ p x q. Called g p (x, tt) false q) f xs j × MatchOption o (r ≡ false) (λ x. (r ≡ true) × ((h : F) × Called g j (x, tt) true h)) → ((x : ℕ) (q : F) → Called g f (x, tt) true q → P x) → ((x : ℕ) (q : F) → Called g f (x, tt) false q → (q ≡ f) × ¬ P x) → Says r ((k : ℕ) × (k < n) × P k)
    says_any c on off = some_of r (cases_from_any u f r P (λ k. ¬ P k) c (YieldsList-from_range 0 n n refl (omega arith)) on off)

    pub says_all : (xs : List ℕ) × (o : Option ℕ) × (j : F) × YieldsThen nat_range_steps (record { start = 0; end = n }) xs o u × FoldsTo (λ p x q. Called g p (x, tt) true q) f xs j × MatchOption o (r ≡ true) (λ x. (r ≡ false) × ((h : F) × Called g j (x, tt) false h)) → ((x : ℕ) (q : F) → Called g f (x, tt) true q → (q ≡ f) × P x) → ((x : ℕ) (q : F) → Called g f (x, tt) false q → ¬ P x) → Says r ((k : ℕ) → k < n → P k)
    says_all c on off = each_of r (cases_from_all u f r P (λ k. ¬ P k) c (YieldsList-from_range 0 n n refl (omega arith)) on off)
