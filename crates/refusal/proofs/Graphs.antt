-- What the graph that a test answers says of the store: which digests it holds.
-- Assumes nothing.
use Prim.Native.Nat.{ℕ, ◌<◌}
use native.Mathlib.Omega.{arith}
use mathlib.Core.Path.{◌≡◌, ◌∙◌, ap, sym, subst}
use mathlib.Core.List.{List}
use Rattle.std.specs.Prelude.{Option, Some, None, Ok, Err}
use Rattle.std.specs.Option.{is_some, ok_or}
use Rattle.rules.specs.Answers.{Says}
use Rattle.rules.specs.Graph.{Held}
use Rattle.rules.specs.Lists.{◌∈◌}
use Rattle.rules.specs.Numbers.{code}
use Rattle.rules.specs.declared.Refusal.{Refusal}
use Rattle.rules.proofs.Formed.{no_op}
use Rattle.rules.proofs.Lists.{at_in, in_at}
use Rattle.store.specs.Answers.{Looked}
use Rattle.store.specs.Layout.{count_of, digest_at, op_of, ops_of}
use Rattle.store.specs.declared.graph.Graph.{Graph}
use Rattle.store.proofs.Ops.{ops_length, ops_at}
use Rattle.refusal.specs.Damage.{GraphOf}
use Rattle.refusal.proofs.Refusals.{some_on, none_on}

module _ {s : List ℕ} {g : Graph} (p : GraphOf s g) {d : ℕ} where
  -- a digest that a record has is held
  pub held : {i : ℕ} → i < count_of g.bytes.now → digest_at g.bytes.now i ≡ d → Held (ops_of s) d
  held {i} l e =
      let h : i < count_of s = rw p.bytes at l in
      let m = at_in no_op (ops_of s) i (omega (arith, ops_length s)) in
      record { op = op_of s i; stands = subst (λ o. o ∈ ops_of s) (ops_at s i h) m; named = rw p.bytes at e }

  -- one that no record has isn't
  pub unheld : ((i : ℕ) → i < count_of g.bytes.now → ¬ (digest_at g.bytes.now i ≡ d)) → ¬ Held (ops_of s) d
  unheld n h =
      let a = in_at no_op h.stands in
      let l : a.0 < count_of s = omega (arith, a.1, ops_length s) in
      (rw p.bytes at n) a.0 l (ap (λ o. o.digest) (sym (ops_at s a.0 l) ∙ a.2) ∙ h.named)

-- whether a record has a digest says whether it is held
pub says_held : {s : List ℕ} {g : Graph} → GraphOf s g → (d : ℕ) (o : Option ℕ) → Looked o g.bytes.now (count_of g.bytes.now) d → Says (is_some o) (Held (ops_of s) d)
says_held p d (Some i) l = held p l.0 l.1
says_held p d None l = unheld p l

-- what a look-up found where `ok_or` hands on its place, and where it refuses
pub found_on : (o : Option ℕ) (e : Refusal) (s : List ℕ) (n d : ℕ) {i : ℕ} → Ok i ≡ ok_or o e → Looked o s n d → Looked (Some i) s n d
found_on o e s n d q l = some_on (λ x. Looked x s n d) o e q l

pub lacking_on : (o : Option ℕ) (e : Refusal) (s : List ℕ) (n d : ℕ) {f : Refusal} → Err f ≡ ok_or o e → Looked o s n d → Looked None s n d × (code f ≡ code e)
lacking_on o e s n d q l = none_on (λ x. Looked x s n d) o e q l
