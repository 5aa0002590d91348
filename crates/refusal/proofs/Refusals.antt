-- What a test answers, what one that refuses nothing gives, and the refusals of a digest that must be held.
-- Assumes nothing.
use Prim.Native.Nat.{ℕ}
use native.Mathlib.Omega.{arith}
use mathlib.Core.Path.{◌≡◌, refl, sym, ◌∙◌, ap, subst}
use mathlib.Core.Logic.{◌⊎◌, inl, inr, ⊎_elim}
use mathlib.Core.List.{List, [], ◌∷◌}
use Rattle.std.specs.Prelude.{Option, Some, None, Result, Ok, Err, IsErrAnd}
use Rattle.std.specs.Option.{ok_or}
use Rattle.std.proofs.lemmas.Result.{err_from_is_err_and}
use Rattle.rules.specs.Answers.{Listed, Valued}
use Rattle.rules.specs.Bytes.{digest_of}
use Rattle.rules.specs.First.{First}
use Rattle.rules.specs.Graph.{Held}
use Rattle.rules.specs.Small.{store_refusals, digest_refusals, held_refusals, member_refusals}
use Rattle.rules.specs.Table.{OneDigest}
use Rattle.rules.specs.declared.Refusal.{Refusal}
use Rattle.rules.specs.Numbers.{code, number_of, value_of}
use Rattle.rules.proofs.Answers.{first_none, listed_refused, valued_refused}
use Rattle.rules.proofs.Numbers.{code_some}
use Rattle.rules.proofs.First as first
use Rattle.rules.proofs.First.{first_done, first_here, first_next, first_moves, first_past, first_stays, iff}
use Rattle.store.specs.Layout.{ops_of}
use Rattle.refusal.specs.Damage.{Damaged, Tested}

-- a refusal that holds is answered
pub tested_refused : {A : Type 0} {rs : List (ℕ × Type 0)} {P : A → Type 0} {e : Refusal} → First rs (code e) → Tested rs P (Err e)
tested_refused f = record { number = f; passed = tt }

-- a refusal that doesn't hold stands before those that are tested
pub tested_next : {A : Type 0} {rs : List (ℕ × Type 0)} {P : A → Type 0} {m : ℕ} {C : Type 0} {r : Result A Refusal} → ¬ C → Tested rs P r → Tested ((m, C) ∷ rs) P r
tested_next n t = record { number = first_next _ _ _ _ n t.number; passed = t.passed }

-- the first part of what a test hands on
pub tested_part : {A B : Type 0} {rs : List (ℕ × Type 0)} {P : A → Type 0} {Q : A × B → Type 0} {a : A} {b : B} → Tested rs (λ p. P p.0 × Q p) (Ok (a, b)) → Tested rs P (Ok a)
tested_part t = record { number = t.number; passed = t.passed.0 }

-- what a `?` returns where it is refused: the refusal itself
pub handed_on : {A : Type 0} {e : Refusal} (r : Result A Refusal) → IsErrAnd r (λ y. y ≡ e) → r ≡ Err e
handed_on r h = let p = err_from_is_err_and r h in p.1 ∙ ap Err p.2

-- so it is answered
pub tested_on : {A : Type 0} {rs : List (ℕ × Type 0)} {P : A → Type 0} {r : Result A Refusal} (e : Refusal) → IsErrAnd r (λ y. y ≡ e) → First rs (code e) → Tested rs P r
tested_on {r = r} e h f = rw (handed_on r h) (tested_refused f)

-- what holds of an option where `ok_or` hands on its value, and where it refuses
module _ (P : Option ℕ → Type 0) where
  pub some_on : (o : Option ℕ) (e : Refusal) {i : ℕ} → Ok i ≡ ok_or o e → P o → P (Some i)
  some_on (Some j) e q p = subst (λ x. P (Some x)) (sym (ap value_of q)) p
  some_on None e q p = absurd (code_some e (sym (ap number_of q)))

  pub none_on : (o : Option ℕ) (e : Refusal) {f : Refusal} → Err f ≡ ok_or o e → P o → P None × (code f ≡ code e)
  none_on (Some j) e {f = f} q p = absurd (code_some f (ap number_of q))
  none_on None e q p = (p, ap number_of q)

-- what is answered where a test refuses
module _ {rs : List (ℕ × Type 0)} where
  pub refuses_list : {P : ℕ → Type 0} {o : List ℕ} (e : Refusal) (r : Result ℕ Refusal) → IsErrAnd r (λ y. y ≡ e) → First rs (code e) → Listed rs P o o (number_of r) (value_of r)
  refuses_list e r h f = rw (handed_on r h) (listed_refused (code_some e) f)

  pub refuses_value : {P : ℕ → Type 0} (e : Refusal) (r : Result ℕ Refusal) → IsErrAnd r (λ y. y ≡ e) → First rs (code e) → Valued rs P (number_of r) (value_of r)
  refuses_value e r h f = rw (handed_on r h) (valued_refused (code_some e) f)

-- the refusals of a digest and two stores, where the first store is refused, and where it isn't
pub two_first : (A B : Type 0) (d : List ℕ) (e : Refusal) → First (digest_refusals A d) (code e) → First (digest_refusals (A ⊎ B) d) (code e)
unfolding First
two_first A B d e (inl p) = inl p
two_first A B d e (inr (n, inl q)) = inr (n, inl (inl q.0, q.1))
two_first A B d e (inr (n, inr q)) = absurd (code_some e q.1)

pub two_second : (A B : Type 0) (d : List ℕ) (n : ℕ) → First (digest_refusals A d) 0 → First (store_refusals B) n → First (digest_refusals (A ⊎ B) d) n
two_second A B d n f g = let m = first_none _ 0 (omega arith) f in first_next _ _ _ _ m.0 (first_moves _ _ _ (refl, (inr, ⊎_elim (λ x. absurd (m.1.0 x)) (λ x. x)), λ x. tt) g)

-- the one refusal of a test comes first among more, and under a condition that it implies
pub first_wider : {P Q : Type 0} (n : ℕ) (rs : List (ℕ × Type 0)) → (P → Q) → (e : Refusal) → First ((n, P) ∷ []) (code e) → First ((n, Q) ∷ rs) (code e)
unfolding First
first_wider n rs f e (inl p) = inl (f p.0, p.1)
first_wider n rs f e (inr p) = absurd (code_some e p.1)

-- the refusals of a member and a digest, where the member isn't refused
pub member_second : (damaged : Type 0) (m d : List ℕ) (n : ℕ) → First ((1, ¬ OneDigest m) ∷ []) 0 → First (digest_refusals damaged d) n → First (member_refusals damaged m d) n
member_second damaged m d n f g =
    let w = (first_none _ 0 (omega arith) f).0 in
    first_moves _ _ _ (refl, (inr, ⊎_elim (λ x. absurd (w x)) (λ x. x)), λ x. (refl, iff, λ y. tt)) g

-- a digest that must be held is refused as any digest is, and then where it isn't held
module _ (s d : List ℕ) where
  pub held_refused : (e : Refusal) → First (digest_refusals (Damaged s) d) (code e) → First (held_refusals (Damaged s) (ops_of s) d) (code e)
  held_refused e f = first_stays (digest_refusals (Damaged s) d) ((7, ¬ Held (ops_of s) (digest_of d)) ∷ []) (code e) (code_some e) f

  module _ (f : First (digest_refusals (Damaged s) d) 0) where
    none : first.None (digest_refusals (Damaged s) d)
    none = first_none _ 0 (omega arith) f

    pub held_lacking : ¬ Held (ops_of s) (digest_of d) → First (held_refusals (Damaged s) (ops_of s) d) 7
    held_lacking n = first_past (digest_refusals (Damaged s) d) ((7, ¬ Held (ops_of s) (digest_of d)) ∷ []) 7 none (first_here 7 (¬ Held (ops_of s) (digest_of d)) [] n)

    pub held_done : Held (ops_of s) (digest_of d) → First (held_refusals (Damaged s) (ops_of s) d) 0
    held_done h = first_past (digest_refusals (Damaged s) d) ((7, ¬ Held (ops_of s) (digest_of d)) ∷ []) 0 none (first_next 7 (¬ Held (ops_of s) (digest_of d)) [] 0 (λ n. n h) first_done)

    pub held_none : Held (ops_of s) (digest_of d) → first.None (held_refusals (Damaged s) (ops_of s) d)
    held_none h = (none.0, (none.1.0, ((λ z. z h), tt)))
