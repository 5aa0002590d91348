-- The words about a graph depend on its set of operations alone, and on the set of the digests named.
-- Assumes nothing.
use Prim.Native.Nat.{ℕ}
use native.Mathlib.Omega.{arith}
use mathlib.Core.Path.{◌≡◌, ap}
use mathlib.Core.Logic.{◌⊎◌, inl, inr}
use mathlib.Core.List.Memᴰ
use mathlib.Core.List.{List, [], ◌∷◌, ◌++◌}
use lib.ListN.{length}
use Rattle.rules.specs.Admission.{MadeChainable}
use Rattle.rules.specs.Batches.{Run, ends, goes, Chain, Boundary, Sooner, Begins, at_first, at_boundary, past_boundary, Mark, marked, unmarked, Batches}
use Rattle.rules.specs.Filter.{Observed, unchecked, observed}
use Rattle.rules.specs.Graph.{Op, Held, Unheld, Child, Head, AllHeads, Ancestor, near, far, InPast, itself, before, Depth, bottom, above}
use Rattle.rules.specs.Lists.{◌∈◌, Alike, Ordered, none, more}
use Rattle.rules.specs.Question.{Question, Waist, FirstWaist, SameBatch}
use Rattle.rules.specs.Small.{AllHeld, SingleHead, AddBefore, Added}
use Rattle.rules.specs.Updates.{Met, from_list, behind, Update, Nearest, Latest, Chainable}
use Rattle.rules.proofs.Formed.{no_op, Formed}
use Rattle.rules.proofs.Lists.{alike_sym, at_ordered, sub_length}

-- what needs that each operation of G is one of H
module _ {G H : List Op} (sub : (o : Op) → o ∈ G → o ∈ H) where
  abbrev pub held_in : {d : ℕ} → Held G d → Held H d
  held_in h = record { op = h.op; stands = sub h.op h.stands; named = h.named }

  pub child_in : {d c : ℕ} → Child G d c → Child H d c
  child_in h = record { op = h.op; stands = sub h.op h.stands; named = h.named; lists = h.lists }

  pub ancestor_in : {a d : ℕ} → Ancestor G a d → Ancestor H a d
  ancestor_in (near c) = near (child_in c)
  ancestor_in (far c r) = far (child_in c) (ancestor_in r)

  pub depth_in : {d k : ℕ} → Depth G d k → Depth H d k
  depth_in (bottom h e) = bottom (held_in h) e
  depth_in (above h m r f le g) = above (held_in h) m (depth_in r) f le (λ q n. depth_in (g q n))

  pub sooner_in : {x y : ℕ} → Sooner G x y → Sooner H x y
  sooner_in s = record { low = s.low; high = s.high; depth_a = depth_in s.depth_a; depth_b = depth_in s.depth_b; order = s.order }

  pub past_in : {hs ks : List ℕ} {d : ℕ} → ((x : ℕ) → x ∈ hs → x ∈ ks) → InPast G hs d → InPast H ks d
  past_in {d = d} i (itself m) = itself (i d m)
  past_in i (before {h = h} m a) = before (i h m) (ancestor_in a)

  pub met_in : {ls : List ℕ} {d : ℕ} → Met G ls d → Met H ls d
  met_in (from_list m) = from_list m
  met_in (behind r h n m) = behind (met_in r) (held_in h) n m

  abbrev pub update_in : {u : ℕ} → Update G u → Update H u
  update_in w = record { held = held_in w.held; kind = w.kind }

  pub nearest_in : {ls : List ℕ} {u : ℕ} → Nearest G ls u → Nearest H ls u
  nearest_in n = record { update = update_in n.update; met = met_in n.met }

  pub add_before_in : {m d : ℕ} → AddBefore G m d → AddBefore H m d
  add_before_in a = record { op = a.op; stands = sub a.op a.stands; add = a.add; adds = a.adds; past = past_in (λ x i. i) a.past }

  pub added_in : {d m : ℕ} → Added G d m → Added H d m
  added_in a = record { held = held_in a.held; add = a.add; adds = a.adds }

  pub all_held_in : {ds : List ℕ} → AllHeld G ds → AllHeld H ds
  all_held_in a = record { each = λ d m. held_in (a.each d m) }

-- what needs that the two have the same operations
module _ {G H : List Op} (e : Alike G H) where
  pub unheld_same : {ds : List ℕ} → Unheld G ds → Unheld H ds
  unheld_same u = record { which = u.which; stands = u.stands; lacks = λ h. u.lacks (held_in e.back h) }

  pub head_same : {d : ℕ} → Head G d → Head H d
  head_same h = record { held = held_in e.into h.held; childless = λ c k. h.childless c (child_in e.back k) }

  pub run_same : {S T : ℕ → Type 0} {d : ℕ} {ds : List ℕ} → ((x : ℕ) → S x → T x) → ((x : ℕ) → T x → S x) → Run G S d ds → Run H T d ds
  run_same i b (ends {d = d} s f) = ends (i d s) (λ c t k. f c (b c t) (child_in e.back k))
  run_same i b (goes {d = d} s c r) = goes (i d s) (child_in e.into c) (run_same i b r)

  pub chain_same : {S T : ℕ → Type 0} {d : ℕ} {ds : List ℕ} → ((x : ℕ) → S x → T x) → ((x : ℕ) → T x → S x) → Chain G S d ds → Chain H T d ds
  chain_same i b c = record { held = held_in e.into c.held; bare = c.bare; run = run_same i b c.run }

  pub latest_same : {u : ℕ} → Latest G u → Latest H u
  latest_same l = record { update = update_in e.into l.update; last = λ v w n r. l.last v (update_in e.back w) n (nearest_in e.back r) }

  pub append_same : (o : Op) → Alike (G ++ (o ∷ [])) (H ++ (o ∷ []))
  append_same o = record { into = λ x m. go e.into x (Memᴰ.append_cases G m); back = λ x m. go e.back x (Memᴰ.append_cases H m) }
    where
      go : {K M : List Op} → ((x : Op) → x ∈ K → x ∈ M) → (x : Op) → (x ∈ K) ⊎ (x ∈ o ∷ []) → x ∈ M ++ (o ∷ [])
      go f x (inl m) = Memᴰ.append_left (o ∷ []) (f x m)
      go {M = M} f x (inr m) = Memᴰ.append_right M m

-- both ways at once
module _ {G H : List Op} (e : Alike G H) where
  pub all_heads_same : {ds : List ℕ} → AllHeads G ds → AllHeads H ds
  all_heads_same a = record { each = λ h k. a.each h (head_same (alike_sym e) k) }

  pub chainable_same : {u : ℕ} → Chainable G u → Chainable H u
  chainable_same c = record { update = update_in e.into c.update; passed = λ l. c.passed (latest_same (alike_sym e) l) }

  pub made_same : {o : Op} {u : ℕ} → MadeChainable G o u → MadeChainable H o u
  made_same {o} m = record { update = m.update; was = latest_same e m.was; passed = λ l. m.passed (latest_same (alike_sym (append_same e o)) l) }

  pub boundary_same : {hs ks : List ℕ} {x : ℕ} → Alike hs ks → Boundary G hs x → Boundary H ks x
  boundary_same a b =
      record {
        inside = past_in e.into a.into b.inside;
        through = λ f r c. b.through f r (chain_same (alike_sym e) (λ x p. past_in e.back a.back p) (λ x p. past_in e.into a.into p) c);
      }

  pub begins_same : {hs ks ds : List ℕ} {i : ℕ} → Alike hs ks → Begins G hs ds i → Begins H ks ds i
  begins_same a (at_first z) = at_first z
  begins_same a (at_boundary b) = at_boundary (boundary_same a b)
  begins_same a (past_boundary b) = past_boundary (boundary_same a b)

  pub waist_same : {ps : List ℕ} {x : ℕ} → Waist G ps x → Waist H ps x
  waist_same w =
      record {
        held = held_in e.into w.held;
        unnamed = λ y s. w.unnamed y (sooner_in e.back s);
        no_head = λ y s h. w.no_head y (sooner_in e.back s) (head_same (alike_sym e) h);
        unlisted = λ y s z t c. w.unlisted y (sooner_in e.back s) z (search (sooner_in {G = G} {H = H} e.into, sooner_in {G = H} {H = G} e.back)) (child_in e.back c);
      }

  pub observed_same : {ps ts : List ℕ} {d : ℕ} → Observed G ps ts d → Observed H ps ts d
  observed_same (unchecked m a) = unchecked m (all_heads_same a)
  observed_same (observed m i) = observed m (past_in e.into (λ x n. n) i)

  pub single_same : SingleHead G → SingleHead H
  single_same s = record { only = s.only; head = head_same e s.head; other = λ h k. s.other h (head_same (alike_sym e) k) }

module _ {G H : List Op} (e : Alike G H) where
  mark_same : {P Q : Type 0} {m : ℕ} → (P → Q) → (Q → P) → Mark P m → Mark Q m
  mark_same f g (marked i p) = marked i (f p)
  mark_same f g (unmarked i n) = unmarked i (λ q. n (g q))

  ordered_same : {ds : List ℕ} → Ordered (Sooner G) ds → Ordered (Sooner H) ds
  ordered_same none = none
  ordered_same (more f s) = more (λ y m. sooner_in e.into (f y m)) (ordered_same s)

  pub batches_same : {hs ks ds ms : List ℕ} → Alike hs ks → Batches G hs ds ms → Batches H ks ds ms
  batches_same a p =
      record {
        into = λ d m. past_in e.into a.into (p.into d m);
        back = λ d i. p.back d (past_in e.back a.back i);
        ordered = ordered_same p.ordered;
        sized = p.sized;
        begins = λ i h. mark_same (begins_same e a) (begins_same (alike_sym e) (alike_sym a)) (p.begins i h);
      }

  pub first_waist_same : {ps : List ℕ} {x : ℕ} → FirstWaist G ps x → FirstWaist H ps x
  first_waist_same f = record { waist = waist_same e f.waist; first = λ y s w. f.first y (sooner_in e.back s) (waist_same (alike_sym e) w) }

  pub same_batch_same : {ps : List ℕ} {q : Question} → SameBatch G ps q → SameBatch H ps q
  same_batch_same s =
      record {
        apart = λ a. s.apart (all_heads_same (alike_sym e) a);
        waist = s.waist;
        is = first_waist_same s.is;
        op = s.op;
        stands = e.into s.op s.stands;
        above = sooner_in e.into s.above;
        matches = s.matches;
      }

-- graphs with the same operations are of one length
pub formed_apart : {G : List Op} → Formed G → Ordered (λ o p. ¬ (o ≡ p)) G
formed_apart {G} F = at_ordered no_op G (λ i j l k q. let e : i ≡ j = F.distinct i j (omega arith) k (ap (λ o. o.digest) q) in omega arith)

pub length_same : {G H : List Op} → Formed G → Formed H → Alike G H → length G ≡ length H
length_same {G} {H} F F' e = omega (arith, sub_length G H (formed_apart F) e.into, sub_length H G (formed_apart F') e.back)
