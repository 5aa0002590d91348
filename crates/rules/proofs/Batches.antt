-- The order by depth, then digest, holds one way only, and the answer of batches is one.
-- Assumes nothing.
use Prim.Native.Nat.{ℕ, ◌<◌}
use native.Mathlib.Omega.{arith}
use mathlib.Core.Path.{◌≡◌, sym, ◌∙◌, ap, subst}
use mathlib.Core.Logic.{◌⊎◌, inl, inr}
use mathlib.Core.List.{List}
use lib.ListN.{length}
use lib.Seq.{ext_get_or}
use Rattle.rules.specs.Batches.{Sooner, Begins, Mark, marked, unmarked, Batches}
use Rattle.rules.specs.Graph.{Op}
use Rattle.rules.proofs.Depths.{depth_unique}
use Rattle.rules.proofs.Formed.{Formed}
use Rattle.rules.proofs.Lists.{ordered_unique}

pub sooner_one_way : {G : List Op} → Formed G → (a b : ℕ) → Sooner G a b → Sooner G b a → ⊥
sooner_one_way F a b p q = go p.order q.order
  where
    low : p.low ≡ q.high
    low = depth_unique F p.depth_a q.depth_b

    high : p.high ≡ q.low
    high = depth_unique F p.depth_b q.depth_a

    go : (p.low < p.high) ⊎ ((p.low ≡ p.high) × (a < b)) → (q.low < q.high) ⊎ ((q.low ≡ q.high) × (b < a)) → ⊥
    go (inl x) (inl y) = omega (arith, low, high)
    go (inl x) (inr y) = omega (arith, low, high)
    go (inr x) (inl y) = omega (arith, low, high)
    go (inr x) (inr y) = omega (arith, low, high)

mark_unique : {P Q : Type 0} {m n : ℕ} → (P → Q) → (Q → P) → Mark P m → Mark Q n → m ≡ n
mark_unique f g (marked i p) (marked j q) = i ∙ sym j
mark_unique f g (marked i p) (unmarked j n) = absurd (n (f p))
mark_unique f g (unmarked i n) (marked j q) = absurd (n (g q))
mark_unique f g (unmarked i n) (unmarked j m) = i ∙ sym j

pub batches_unique : {G : List Op} {hs ds es ms ns : List ℕ} → Formed G → Batches G hs ds ms → Batches G hs es ns → (ds ≡ es) × (ms ≡ ns)
batches_unique {G} {hs} {ds} {es} {ms} {ns} F p q = (same, ext_get_or 0 ms ns (p.sized ∙ ap length same ∙ sym q.sized) (λ i h. let k : i < length ds = omega (arith, p.sized) in mark_unique (λ b. subst (λ l. Begins G hs l i) same b) (λ b. subst (λ l. Begins G hs l i) (sym same) b) (p.begins i k) (q.begins i (omega (arith, ap length same)))))
  where
    same : ds ≡ es
    same = ordered_unique (sooner_one_way F) ds es p.ordered q.ordered (record { into = λ x m. q.back x (p.into x m); back = λ x m. p.back x (q.into x m) })
