-- Making fresh and admission have one outcome; sound stores stay sound; stores with the same operations answer the same and hold the
-- same operations after it.
-- Assumes nothing.
use Prim.Native.Nat.{ℕ}
use native.Mathlib.Omega.{arith}
use native.Mathlib.Decide.{ℕ_discrete}
use mathlib.Core.Path.{◌≡◌, refl, sym, ◌∙◌, ap, subst}
use mathlib.Core.Bool.{Bool, true≢false}
use Rattle.std.specs.Prelude.{Result, Ok, Option, Some, None}
use mathlib.Core.Logic.{inl}
use mathlib.Core.List.{List}
use lib.ListN.{length}
use lib.Seq.{ext_get_or}
use Rattle.rules.specs.Answers.{Put}
use Rattle.rules.specs.Bytes.{Bytes}
use Rattle.rules.specs.Lists.{Alike}
use Rattle.rules.specs.Numbers.{number_of}
use Rattle.rules.specs.Table.{limits}
use Rattle.rules.specs.declared.Refusal.{Refusal}
use Rattle.rules.proofs.Admission.{admits_unique, admits_same, add_op_matched}
use Rattle.rules.proofs.Answers.{put_unique}
use Rattle.rules.proofs.Calls.{Twins}
use Rattle.rules.proofs.First.{first_unique}
use Rattle.rules.proofs.Numbers.{same_answer}
use Rattle.store.specs.Layout.{ops_of}
use Rattle.store.specs.Sound.{Roomy, Sound, fresh, Freshened}
use Rattle.store.proofs.Ops.{sound_formed}
use Rattle.store.proofs.Unique.{store_unique}
use Rattle.refusal.specs.Damage.{Damaged}
use Rattle.admission.specs.Adds.{AddsOp, passed_of}
use Rattle.admission.specs.Offers.{known_of}

roomy : Roomy limits
roomy = record { operations = omega arith; predecessors = omega arith }

pub fresh_unique : {s t u : List ℕ} {n i : ℕ} → Freshened 512 s t n → Freshened 512 s u i → (n ≡ i) × (t ≡ u)
fresh_unique {s} {t} {u} {n} {i} p q = (number, go (ℕ_discrete n 0))
  where
    number : n ≡ i
    number = first_unique _ p.number q.number

    go : Dec (n ≡ 0) → t ≡ u
    go (yes z) = let a = p.done z in let b = q.done (sym number ∙ z) in ext_get_or 0 t u (a.size ∙ sym b.size) (λ j l. a.zeros j ∙ sym (b.zeros j))
    go (no z) = p.refused z ∙ sym (q.refused (λ e. z (number ∙ e)))

pub fresh_sound : {s t : List ℕ} → Freshened 512 s t 0 → Sound limits t
fresh_sound p = fresh (p.done refl)

-- an answer of `add_op` is decided by what it stands for
pub add_op_answer : (r q : Result (Option ℕ) Refusal) → number_of r ≡ number_of q → known_of r ≡ known_of q → passed_of r ≡ passed_of q → r ≡ q
add_op_answer r q n b c = same_answer (λ x. (known_of x, passed_of x)) r q alike n (ap2 b c)
  where
    ap2 : known_of r ≡ known_of q → passed_of r ≡ passed_of q → ◌≡◌ {A = Bool × ℕ} (known_of r, passed_of r) (known_of q, passed_of q)
    ap2 e f = rw (e, f) refl

    alike : (x y : Option ℕ) → ◌≡◌ {A = Bool × ℕ} (known_of (Ok x), passed_of (Ok x)) (known_of (Ok y), passed_of (Ok y)) → x ≡ y
    alike None None e = refl
    alike None (Some v) e = absurd (true≢false (ap (λ (p : Bool × ℕ). p.0) e))
    alike (Some v) None e = absurd (true≢false (sym (ap (λ (p : Bool × ℕ). p.0) e)))
    alike (Some v) (Some w) e = ap Some (ap (λ (p : Bool × ℕ). p.1) e)

module _ {s d m l o t u : List ℕ} {k n c : ℕ} {b : Bool} (A : AddsOp s d k m l o t u n b c) where
  -- a sound store stays sound
  pub add_op_sound : Sound limits s → Sound limits t
  add_op_sound S = go (ℕ_discrete n 0)
    where
      go : Dec (n ≡ 0) → Sound limits t
      go (yes z) = A.sound z
      go (no z) = subst (Sound limits) (sym (A.untouched (inl z))) S

  -- two outcomes coincide
  pub add_op_unique : {t' u' : List ℕ} {n' c' : ℕ} {b' : Bool} → Bytes u → Bytes u' → AddsOp s d k m l o t' u' n' b' c' → (n ≡ n') × (b ≡ b') × (c ≡ c') × (t ≡ t') × (u ≡ u')
  add_op_unique {t'} {u'} {n'} {c'} {b'} x y B =
      let e = admits_unique A.admits B.admits in
      (e.1, e.2, A.counted ∙ ap length e.3 ∙ sym B.counted, go (ℕ_discrete n 0) e.1 e.0, put_unique x y A.put (subst (λ us. Put us o u') (sym e.3) B.put))
    where
      go : Dec (n ≡ 0) → n ≡ n' → ops_of t ≡ ops_of t' → t ≡ t'
      go (yes z) e f = store_unique roomy (A.sound z) (B.sound (sym e ∙ z)) f
      go (no z) e f = A.untouched (inl z) ∙ sym (B.untouched (inl (λ q. z (e ∙ q))))

  -- another store, sound if this one is, with the same operations: the same answer, and the same operations after it
  pub add_op_same : {s' t' u' : List ℕ} {n' c' : ℕ} {b' : Bool} → Bytes u → Bytes u' → Sound limits s → Sound limits s' → Alike (ops_of s) (ops_of s') → AddsOp s' d k m l o t' u' n' b' c' → (n ≡ n') × (b ≡ b') × (c ≡ c') × (u ≡ u') × Alike (ops_of t) (ops_of t')
  add_op_same {s'} {t'} {u'} x y S S' e B =
      let w : Twins (Damaged s) (Damaged s') (ops_of s) (ops_of s') = record { damage = ((λ n. absurd (n S)), (λ n. absurd (n S'))); same = λ n. e } in
      let r = admits_same (add_op_matched w (λ n. (sound_formed S, sound_formed S')) limits d k m l o) e A.admits in
      let f = admits_unique r.1 B.admits in
      (f.1, f.2, A.counted ∙ ap length f.3 ∙ sym B.counted, put_unique x y A.put (subst (λ us. Put us o u') (sym f.3) B.put), subst (Alike (ops_of t)) f.0 r.2)
