-- All heads stand in a list exactly if the marked ones do, where the marks tell the heads.
-- Assumes nothing.
use Prim.Native.Nat.{ℕ, ◌<◌}
use mathlib.Core.Bool.{Bool}
use mathlib.Core.Path.{◌≡◌, ap, sym, ◌∙◌, subst}
use mathlib.Core.List.{List}
use Rattle.rules.specs.Answers.{Says}
use Rattle.rules.specs.Bytes.{digests_of}
use Rattle.rules.specs.Graph.{Head, AllHeads}
use Rattle.rules.specs.Lists.{◌∈◌}
use Rattle.rules.proofs.Answers.{says_same}
use Rattle.store.specs.Layout.{count_of, digest_at, op_of, ops_of}
use Rattle.walk.specs.Marks.{Ready, Tells}
use Rattle.walk.proofs.Places.{place_of}
use Rattle.walk.proofs.Told.{mark_on, on_mark}
use Rattle.named.specs.Marked.{MarkedListed}

module _ {s : List ℕ} {r : ℕ} (R : Ready s r) {m : List ℕ} (T : Tells s (Head (ops_of s)) m) (l : List ℕ) where
  into : MarkedListed s m l (count_of s) → AllHeads (ops_of s) (digests_of l)
  into M = record { each = λ h x. go h x (place_of R x.held.stands) }
    where
      go : (h : ℕ) (x : Head (ops_of s) h) → (i : ℕ) × (i < count_of s) × (op_of s i ≡ x.held.op) → h ∈ digests_of l
      go h x p =
          let e : digest_at s p.0 ≡ h = ap (λ o. o.digest) p.2 ∙ x.held.named in
          subst (λ d. d ∈ digests_of l) e (M.each p.0 p.1 (on_mark (T.each p.0 p.1) (subst (Head (ops_of s)) (sym e) x)))

  back : AllHeads (ops_of s) (digests_of l) → MarkedListed s m l (count_of s)
  back A = record { each = λ j b e. A.each (digest_at s j) (mark_on (T.each j b) e) }

  pub heads_listed : (b : Bool) → Says b (MarkedListed s m l (count_of s)) → Says b (AllHeads (ops_of s) (digests_of l))
  heads_listed b = says_same b into back
