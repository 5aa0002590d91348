-- The starred graphs of document 01, the whole set under one theorem, each proved by computing the decision.
-- Assumes nothing.
use Prim.Native.Nat.{ℕ, ◌*◌, ◌/◌, ◌-◌, ◌^◌}
use native.Mathlib.Decide.{ℕ_discrete, dec_le, dec_lt}
use mathlib.Core.Path.{◌≡◌, refl, subst}
use mathlib.Core.Bool.{Bool, true, false}
use mathlib.Core.Logic.{◌⊎◌}
use mathlib.Core.List.{List, [], ◌∷◌, ◌++◌}
use lib.ListN.{replicate}
use Rattle.rules.specs.Admission.{AsOffered, admission_refusals, MadeChainable, Admits}
use Rattle.rules.specs.Answers.{Says}
use Rattle.rules.specs.Batches.{Boundary, Batches, batches_refusals}
use Rattle.rules.specs.Bytes.{number_at, digest_of, row, digests_of}
use Rattle.rules.specs.Calls.{BatchHasListed}
use Rattle.rules.specs.Filter.{Observed, unchecked, observed, filter_refusals}
use Rattle.rules.specs.First.{First}
use Rattle.rules.specs.Graph.{Op, Held, Head, InPast, Depth}
use Rattle.rules.specs.Layers.{Layer}
use Rattle.rules.specs.Lists.{◌∈◌, SetOf}
use Rattle.rules.specs.Question.{listed, SameBatch, listed_refusals}
use Rattle.rules.specs.Small.{AllHeld}
use Rattle.rules.specs.Table.{limits, most_listed}
use Rattle.rules.specs.Updates.{Latest}
use Rattle.rules.proofs.Admission.{new_admits, known_admits}
use Rattle.rules.proofs.Decide.{and?, or?, not?, implies?, via?, fields2?, fields3?, fields4?, fields5?, nil?, each?, any?, all<?, ordered?, cases3?, mark?, set_of?, first?, held_here, unheld?, child?, head?, all_heads?, shaped?, proper?, some<?, formed?, digests_in, held_in_digests}
use Rattle.rules.proofs.DecideGraph.{depth?, each_depth?, sooner?, each_inside?, each_sooner?, each_later?, no_child?, inside?, child_inside?, layer?, waist?, first_waist?, matches?, same_batch?, met?, update?, nearest?, latest?, observed?, made?, boundary?, begins?, batches?}
use Rattle.rules.proofs.Depths.{greatest, depth_of}
use Rattle.rules.proofs.Formed.{Formed, closed, down, by_preds, up, by_children}
use Rattle.rules.proofs.Heads.{below}
use Rattle.rules.proofs.Lists.{some?, ◌∈?◌, at_in, in_at}
use Rattle.rules.proofs.Past.{held?, reach_step, reach?, past_under, reach_past, first_step, past_held, past?}

abbrev IsYes : {P : Type 0} → Dec P → Type 0
IsYes (yes p) = Unit {0}
IsYes (no n) = ⊥

from_yes : {P : Type 0} (d : Dec P) → IsYes d → P
from_yes (yes p) u = p
from_yes (no n) u = absurd u

-- the store is sound
unfoldable never? : Dec ⊥
never? = no (λ x. x)

-- 32 bytes of value n, and their number
abbrev bytes : ℕ → List ℕ
bytes n = replicate 32 n

abbrev all : ℕ → ℕ
all n = n * ((256 ^ 32 - 1) / 255)

-- the operation n with the kind k; members are zero
abbrev op : ℕ → ℕ → List ℕ → Op
op k n ps = record { digest = all n; kind = k; member = 0; preds = ps }

-- adds, removes, updates
abbrev a : ℕ → List ℕ → Op
a n ps = op 0 n ps

abbrev r : ℕ → List ℕ → Op
r n ps = op 1 n ps

abbrev u : ℕ → List ℕ → Op
u n ps = op 2 n ps

-- the batches of the heads hs
record BatchesOf (G : List Op) (hs ds ms : List ℕ) : Type 0 where
  formed : Formed G
  held : AllHeld G hs
  answer : Batches G hs ds ms

unfoldable batches_of? : (G : List Op) (hs ds ms : List ℕ) → Dec (BatchesOf G hs ds ms)
batches_of? G hs ds ms = go (formed? G) (each? (Held G) hs (λ h m. held? G h))
  where
    go : Dec (Formed G) → Dec ((h : ℕ) → h ∈ hs → Held G h) → Dec (BatchesOf G hs ds ms)
    go (yes F) (yes f) = via? (λ b. record { formed = F; held = record { each = f }; answer = b }) (λ s. s.answer) (batches? F hs f ds ms)
    go (yes F) (no n) = no (λ s. n s.held.each)
    go (no n) f = no (λ s. n s.formed)

-- hs are all heads
record AllBatchesOf (G : List Op) (hs ds ms : List ℕ) : Type 0 where
  heads : SetOf (Head G) hs
  number : First (batches_refusals ⊥ hs) 0
  batches : BatchesOf G hs ds ms

-- a set of held digests
unfoldable held_set? : (G : List Op) (P : ℕ → Type 0) (ds : List ℕ) → ((d : ℕ) → P d → Held G d) → ((d : ℕ) → Dec (P d)) → Dec (SetOf P ds)
held_set? G P ds h d = set_of? P ds (digests_in G) (λ x p. held_in_digests (h x p)) d

unfoldable all_batches_of? : (G : List Op) (hs ds ms : List ℕ) → Dec (AllBatchesOf G hs ds ms)
all_batches_of? G hs ds ms = fields3? (λ x y z. record { heads = x; number = y; batches = z }) (λ s. s.heads) (λ s. s.number) (λ s. s.batches) (held_set? G (Head G) hs (λ d h. h.held) (head? G)) (first? (batches_refusals ⊥ hs) 0 (never?, (nil? hs, tt))) (batches_of? G hs ds ms)

-- what a list of lent digests decides of the refusals
ruleset deciding = (never?, and?, or?, not?, implies?, ℕ_discrete, dec_le, dec_lt, nil?, held?, unheld?, all_heads?, shaped?)

-- a refusal list of seven conditions
unfoldable admission_number? : (G : List Op) (d : List ℕ) (k : ℕ) (m l : List ℕ) (n : ℕ) → Dec (First (admission_refusals limits ⊥ G d k m l) n)
admission_number? G d k m l n = first? (admission_refusals limits ⊥ G d k m l) n (search deciding, (search deciding, (search deciding, (search deciding, (search deciding, (search deciding, (search deciding, tt)))))))

unfoldable offered? : (d : List ℕ) (k : ℕ) (m l : List ℕ) (o : Op) → Dec (AsOffered d k m l o)
offered? d k m l o = fields4? (λ x y z w. record { digest = x; kind = y; member = z; preds = w }) (λ s. s.digest) (λ s. s.kind) (λ s. s.member) (λ s. s.preds) (ℕ_discrete o.digest (digest_of d)) (ℕ_discrete o.kind k) (ℕ_discrete o.member (digest_of m)) (set_of? (λ p. p ∈ digests_of l) o.preds (digests_of l) (λ p i. i) (λ p. p ∈? digests_of l))

-- o is admitted to G, with the updates us that this makes chainable
record New (G : List Op) (d : List ℕ) (k : ℕ) (m l : List ℕ) (o : Op) (us : List ℕ) : Type 0 where
  number : First (admission_refusals limits ⊥ G d k m l) 0
  unheld : ¬ Held G (digest_of d)
  offered : AsOffered d k m l o
  made : SetOf (MadeChainable G o) us

abbrev Admitting : List Op → List ℕ → ℕ → List ℕ → List ℕ → List Op → Bool → List ℕ → Type 0
Admitting G d k m l K b us = Admits (admission_refusals limits ⊥ G d k m l) G d k m l K 0 b us

admitting : {G : List Op} {d m l us : List ℕ} {k : ℕ} {o : Op} → New G d k m l o us → Admitting G d k m l (G ++ (o ∷ [])) false us
admitting n = new_admits n.number n.unheld n.offered n.made

unfoldable new? : (G : List Op) (d : List ℕ) (k : ℕ) (m l : List ℕ) (o : Op) (us : List ℕ) → Formed G → Formed (G ++ (o ∷ [])) → Dec (New G d k m l o us)
new? G d k m l o us F F' = fields4? (λ x y z w. record { number = x; unheld = y; offered = z; made = w }) (λ s. s.number) (λ s. s.unheld) (λ s. s.offered) (λ s. s.made) (admission_number? G d k m l 0) (not? (held? G (digest_of d))) (offered? d k m l o) (held_set? G (MadeChainable G o) us (λ x y. y.was.update.held) (made? o F F'))

-- the filter's answer
record Filters (G : List Op) (p q ds : List ℕ) : Type 0 where
  formed : Formed G
  number : First (filter_refusals most_listed ⊥ G p q) 0
  answer : SetOf (Observed G (digests_of p) (digests_of q)) ds

unfoldable filter_number? : (G : List Op) (p q : List ℕ) (n : ℕ) → Dec (First (filter_refusals most_listed ⊥ G p q) n)
filter_number? G p q n = first? (filter_refusals most_listed ⊥ G p q) n (search deciding, (search deciding, (search deciding, (search deciding, (search deciding, tt)))))

unfoldable filters? : (G : List Op) (p q ds : List ℕ) → Dec (Filters G p q ds)
filters? G p q ds = go (formed? G)
  where
    in_targets : (d : ℕ) → Observed G (digests_of p) (digests_of q) d → d ∈ digests_of q
    in_targets d (unchecked m x) = m
    in_targets d (observed m x) = m

    go : Dec (Formed G) → Dec (Filters G p q ds)
    go (yes F) = fields2? (λ x y. record { formed = F; number = x; answer = y }) (λ s. s.number) (λ s. s.answer) (filter_number? G p q 0) (set_of? (Observed G (digests_of p) (digests_of q)) ds (digests_of q) in_targets (observed? F (digests_of p) (digests_of q)))
    go (no n) = no (λ s. n s.formed)

-- the batch question with a list
unfoldable question_number? : (G : List Op) (p l : List ℕ) (n : ℕ) → Dec (First (listed_refusals most_listed ⊥ G p l) n)
question_number? G p l n = first? (listed_refusals most_listed ⊥ G p l) n (search deciding, (search deciding, (search deciding, (search deciding, (search deciding, tt)))))

answers : (G : List Op) (p l : List ℕ) (b : Bool) → First (listed_refusals most_listed ⊥ G p l) 0 → Says b (SameBatch G (digests_of p) (listed (digests_of l))) → BatchHasListed most_listed ⊥ G p l 0 b
answers G p l b f s = record { number = f; done = λ z. s; refused = λ n. absurd (n refl) }

-- x is alone at its depth; x is comparable with every operation
record Alone (G : List Op) (x : ℕ) : Type 0 where
  alone : (k : ℕ) → Depth G x k → (y : ℕ) → Held G y → Depth G y k → y ≡ x

record Comparable (G : List Op) (x : ℕ) : Type 0 where
  comparable : (y : ℕ) → Held G y → InPast G (x ∷ []) y ⊎ InPast G (y ∷ []) x

unfoldable each_held? : (G : List Op) (P : ℕ → Type 0) → ((y : ℕ) → Dec (P y)) → Dec ((y : ℕ) → Held G y → P y)
each_held? G P d = via? (λ f y h. subst P h.named (f h.op h.stands)) (λ f o m. f o.digest (held_here o m)) (each? (λ o. P o.digest) G (λ o m. d o.digest))

unfoldable alone? : {G : List Op} → Formed G → (x : ℕ) → Dec (Alone G x)
alone? {G} F x = via? (λ f. record { alone = f }) (λ s. s.alone) (each_depth? F x (λ k. (y : ℕ) → Held G y → Depth G y k → y ≡ x) (λ k. each_held? G (λ y. Depth G y k → y ≡ x) (λ y. implies? (depth? F y k) (ℕ_discrete y x))))

unfoldable comparable? : {G : List Op} → Formed G → (x : ℕ) → Dec (Comparable G x)
comparable? {G} F x = via? (λ f. record { comparable = f }) (λ s. s.comparable) (each_held? G (λ y. InPast G (x ∷ []) y ⊎ InPast G (y ∷ []) x) (λ y. or? (past? F (x ∷ []) y) (past? F (y ∷ []) x)))

-- the graphs
abbrev three : List Op
three = a 1 [] ∷ r 2 (all 1 ∷ []) ∷ r 3 (all 1 ∷ all 2 ∷ []) ∷ []

abbrev four : List Op
four = a 1 [] ∷ r 2 (all 1 ∷ []) ∷ r 3 (all 2 ∷ []) ∷ r 4 (all 1 ∷ all 3 ∷ []) ∷ []

abbrev K : List Op
K = a 1 [] ∷ r 2 (all 1 ∷ []) ∷ r 3 (all 1 ∷ []) ∷ r 4 (all 3 ∷ []) ∷ []

abbrev five : List Op
five = a 1 [] ∷ r 5 (all 1 ∷ []) ∷ r 2 (all 5 ∷ []) ∷ []

abbrev adds : List Op
adds = a 1 [] ∷ a 2 [] ∷ []

-- 1, 2(1), 3(2), 4(2): 2 is the first waist for {3}, and is not asked itself
abbrev bottleneck : List Op
bottleneck = a 1 [] ∷ r 2 (all 1 ∷ []) ∷ r 3 (all 2 ∷ []) ∷ r 4 (all 2 ∷ []) ∷ []

-- 1, 2u(1), 3u(2), 4u(2), one admission after the other
abbrev two_ops : List Op
two_ops = a 1 [] ∷ u 2 (all 1 ∷ []) ∷ []

abbrev three_ops : List Op
three_ops = two_ops ++ (u 3 (all 2 ∷ []) ∷ [])

abbrev four_ops : List Op
four_ops = three_ops ++ (u 4 (all 2 ∷ []) ∷ [])

record Starred : Type 0 where
  empty : First (batches_refusals ⊥ []) 8
  one : AllBatchesOf (a 1 [] ∷ []) (all 1 ∷ []) (all 1 ∷ []) (1 ∷ [])
  skips : AllBatchesOf three (all 3 ∷ []) (all 1 ∷ all 2 ∷ all 3 ∷ []) (1 ∷ 1 ∷ 1 ∷ [])
  no_boundary : ¬ Boundary three (all 3 ∷ []) (all 2)
  spans : AllBatchesOf four (all 4 ∷ []) (all 1 ∷ all 2 ∷ all 3 ∷ all 4 ∷ []) (1 ∷ 1 ∷ 0 ∷ 1 ∷ [])
  forks : AllBatchesOf K (all 2 ∷ all 4 ∷ []) (all 1 ∷ all 2 ∷ all 3 ∷ all 4 ∷ []) (1 ∷ 1 ∷ 0 ∷ 0 ∷ [])
  forks_for_three : BatchesOf K (all 3 ∷ []) (all 1 ∷ all 3 ∷ []) (1 ∷ 1 ∷ [])
  descends : AllBatchesOf five (all 2 ∷ []) (all 1 ∷ all 5 ∷ all 2 ∷ []) (1 ∷ 1 ∷ 1 ∷ [])
  two_starts : AllBatchesOf adds (all 1 ∷ all 2 ∷ []) (all 1 ∷ all 2 ∷ []) (1 ∷ 0 ∷ [])
  has_two : BatchHasListed most_listed ⊥ adds (bytes 1) (bytes 2) 0 true
  has_not_one : BatchHasListed most_listed ⊥ adds (bytes 1) (bytes 1) 0 false
  has_four : BatchHasListed most_listed ⊥ bottleneck (bytes 3) (bytes 4) 0 true
  has_not_two : BatchHasListed most_listed ⊥ bottleneck (bytes 3) (bytes 2) 0 false
  admits_three : Admitting two_ops (bytes 3) 2 (bytes 0) (bytes 2) three_ops false (all 2 ∷ [])
  admits_four : Admitting three_ops (bytes 4) 2 (bytes 0) (bytes 2) four_ops false []
  latest : SetOf (Latest four_ops) (all 3 ∷ all 4 ∷ [])
  filters_past : Filters K (bytes 3) (bytes 1 ++ bytes 2 ++ bytes 3) (all 1 ∷ all 3 ∷ [])
  filter_lacks : First (filter_refusals most_listed ⊥ K (bytes 3) (bytes 1 ++ bytes 9)) 7
  filters_all : Filters K (bytes 2 ++ bytes 4) (bytes 9) (all 9 ∷ [])
  -- the errors that document 01 expects: a held digest comes before InvalidOperation; in 1, 2(1), 3(2), 4(3,1) the operation 2
  -- is alone at its depth and comparable with all, and is no boundary
  knows_one : Admitting two_ops (bytes 1) 1 (bytes 0) [] two_ops true []
  alone : Alone four (all 2)
  comparable : Comparable four (all 2)
  shut_out : ¬ Boundary four (all 4 ∷ []) (all 2)
  -- the Rust's layer test finds 3 in 1, 2(1), 3(1,2)
  layer : Layer three (InPast three (all 3 ∷ [])) (all 3) 2

starred : Starred
unfolding batches_of? all_batches_of? digests_in held_set? set_of? first? fields2? fields3? fields4? fields5? cases3? via? and? or? not? implies? nil? each? any? all<? some<? ordered? mark? formed? proper? held? head? child? some? ◌∈?◌ ℕ_discrete dec_le dec_lt in_at at_in closed below up by_children down by_preds greatest depth_of reach_step reach? reach_past past_under past_held past? first_step depth? each_depth? sooner? each_inside? inside? child_inside? layer? boundary? begins? batches? from_yes First never? new? filters? filter_number? admission_number? offered? question_number? each_held? alone? comparable? held_here unheld? all_heads? shaped? each_sooner? each_later? no_child? waist? first_waist? matches? same_batch? met? update? nearest? latest? observed? made? row number_at
starred =
    record {
      empty = from_yes (first? (batches_refusals ⊥ []) 8 (never?, (nil? [], tt))) tt;
      one = from_yes (all_batches_of? (a 1 [] ∷ []) (all 1 ∷ []) (all 1 ∷ []) (1 ∷ [])) tt;
      skips = from_yes (all_batches_of? three (all 3 ∷ []) (all 1 ∷ all 2 ∷ all 3 ∷ []) (1 ∷ 1 ∷ 1 ∷ [])) tt;
      no_boundary = from_yes (not? (boundary? F3 (all 3 ∷ []) H3 (all 2))) tt;
      spans = from_yes (all_batches_of? four (all 4 ∷ []) (all 1 ∷ all 2 ∷ all 3 ∷ all 4 ∷ []) (1 ∷ 1 ∷ 0 ∷ 1 ∷ [])) tt;
      forks = from_yes (all_batches_of? K (all 2 ∷ all 4 ∷ []) (all 1 ∷ all 2 ∷ all 3 ∷ all 4 ∷ []) (1 ∷ 1 ∷ 0 ∷ 0 ∷ [])) tt;
      forks_for_three = from_yes (batches_of? K (all 3 ∷ []) (all 1 ∷ all 3 ∷ []) (1 ∷ 1 ∷ [])) tt;
      descends = from_yes (all_batches_of? five (all 2 ∷ []) (all 1 ∷ all 5 ∷ all 2 ∷ []) (1 ∷ 1 ∷ 1 ∷ [])) tt;
      two_starts = from_yes (all_batches_of? adds (all 1 ∷ all 2 ∷ []) (all 1 ∷ all 2 ∷ []) (1 ∷ 0 ∷ [])) tt;
      has_two = answers adds (bytes 1) (bytes 2) true (from_yes (question_number? adds (bytes 1) (bytes 2) 0) tt) (from_yes (same_batch? A2 (digests_of (bytes 1)) (listed (digests_of (bytes 2)))) tt);
      has_not_one = answers adds (bytes 1) (bytes 1) false (from_yes (question_number? adds (bytes 1) (bytes 1) 0) tt) (from_yes (not? (same_batch? A2 (digests_of (bytes 1)) (listed (digests_of (bytes 1))))) tt);
      has_four = answers bottleneck (bytes 3) (bytes 4) true (from_yes (question_number? bottleneck (bytes 3) (bytes 4) 0) tt) (from_yes (same_batch? B4 (digests_of (bytes 3)) (listed (digests_of (bytes 4)))) tt);
      has_not_two = answers bottleneck (bytes 3) (bytes 2) false (from_yes (question_number? bottleneck (bytes 3) (bytes 2) 0) tt) (from_yes (not? (same_batch? B4 (digests_of (bytes 3)) (listed (digests_of (bytes 2))))) tt);
      admits_three = admitting (from_yes (new? two_ops (bytes 3) 2 (bytes 0) (bytes 2) (u 3 (all 2 ∷ [])) (all 2 ∷ []) U2 U3) tt);
      admits_four = admitting (from_yes (new? three_ops (bytes 4) 2 (bytes 0) (bytes 2) (u 4 (all 2 ∷ [])) [] U3 U4) tt);
      latest = from_yes (held_set? four_ops (Latest four_ops) (all 3 ∷ all 4 ∷ []) (λ d l. l.update.held) (latest? U4)) tt;
      filters_past = from_yes (filters? K (bytes 3) (bytes 1 ++ bytes 2 ++ bytes 3) (all 1 ∷ all 3 ∷ [])) tt;
      filter_lacks = from_yes (filter_number? K (bytes 3) (bytes 1 ++ bytes 9) 7) tt;
      filters_all = from_yes (filters? K (bytes 2 ++ bytes 4) (bytes 9) (all 9 ∷ [])) tt;
      knows_one = known_admits (from_yes (admission_number? two_ops (bytes 1) 1 (bytes 0) [] 0) tt) (from_yes (held? two_ops (digest_of (bytes 1))) tt);
      alone = from_yes (alone? F4 (all 2)) tt;
      comparable = from_yes (comparable? F4 (all 2)) tt;
      shut_out = from_yes (not? (boundary? F4 (all 4 ∷ []) H4 (all 2))) tt;
      layer = from_yes (layer? F3 (InPast three (all 3 ∷ [])) (past? F3 (all 3 ∷ [])) (past_held F3 (all 3 ∷ []) H3) (all 3) 2) tt;
    }
  where
    F3 : Formed three
    F3 = from_yes (formed? three) tt

    H3 : (h : ℕ) → h ∈ all 3 ∷ [] → Held three h
    H3 = from_yes (each? (Held three) (all 3 ∷ []) (λ h m. held? three h)) tt

    F4 : Formed four
    F4 = from_yes (formed? four) tt

    H4 : (h : ℕ) → h ∈ all 4 ∷ [] → Held four h
    H4 = from_yes (each? (Held four) (all 4 ∷ []) (λ h m. held? four h)) tt

    A2 : Formed adds
    A2 = from_yes (formed? adds) tt

    B4 : Formed bottleneck
    B4 = from_yes (formed? bottleneck) tt

    U2 : Formed two_ops
    U2 = from_yes (formed? two_ops) tt

    U3 : Formed three_ops
    U3 = from_yes (formed? three_ops) tt

    U4 : Formed four_ops
    U4 = from_yes (formed? four_ops) tt
