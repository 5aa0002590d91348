-- Merge has one outcome; the union's operations are those of the first and what it lacks of the second.
-- Assumes nothing.
use Prim.Native.Nat.{ℕ, ◌<◌}
use native.Mathlib.Omega.{arith}
use native.Mathlib.Decide.{ℕ_discrete}
use mathlib.Core.Path.{◌≡◌, refl, sym, ◌∙◌, ap, subst}
use mathlib.Core.Logic.{◌⊎◌, inl, inr, ◌↔◌}
use mathlib.Core.List.Memᴰ
use mathlib.Core.List.{List, [], ◌∷◌, ◌++◌, append_assoc, append-nil}
use lib.ListN.{length, length-append, get_or-append}
use lib.Seq.{get_or_at}
use Rattle.rules.specs.Admission.{Admissible}
use Rattle.rules.specs.First.{First}
use Rattle.rules.specs.Graph.{Op, Proper, Held}
use Rattle.rules.specs.Lists.{◌∈◌, Alike}
use Rattle.rules.specs.Merge.{Clash, Missing, no_more, has, lacks, Union, Overfull, merge_refusals, Merges}
use Rattle.rules.specs.Table.{Limits}
use Rattle.rules.proofs.First.{first_unique, first_moves}
use Rattle.rules.proofs.Formed.{no_op, op_at, Formed}
use Rattle.rules.proofs.Growth.{formed_more}
use Rattle.rules.proofs.Heads.{one_across}
use Rattle.rules.proofs.Lists.{alike_sym, at_in, in_at}
use Rattle.rules.proofs.Past.{held?}
use Rattle.rules.proofs.Same.{held_in, length_same}

pub missing_unique : {G H M N : List Op} → Missing G H M → Missing G H N → M ≡ N
missing_unique no_more no_more = refl
missing_unique (has h a) (has k b) = missing_unique a b
missing_unique (has h a) (lacks k b) = absurd (k h)
missing_unique (lacks h a) (has k b) = absurd (h k)
missing_unique (lacks {o = o} h a) (lacks k b) = ap (λ M. o ∷ M) (missing_unique a b)

-- one operation more of the second
pub missing_has : {G H M : List Op} (o : Op) → Missing G H M → Held G o.digest → Missing G (H ++ (o ∷ [])) M
missing_has o no_more h = has h no_more
missing_has o (has x m) h = has x (missing_has o m h)
missing_has o (lacks x m) h = lacks x (missing_has o m h)

pub missing_lacks : {G H M : List Op} (o : Op) → Missing G H M → ¬ Held G o.digest → Missing G (H ++ (o ∷ [])) (M ++ (o ∷ []))
missing_lacks o no_more n = lacks n no_more
missing_lacks o (has x m) n = has x (missing_lacks o m n)
missing_lacks o (lacks x m) n = lacks x (missing_lacks o m n)

pub union_unique : {G H K M : List Op} → Union G H K → Union G H M → K ≡ M
union_unique {G} p q = p.joined ∙ ap (λ M. G ++ M) (missing_unique p.missing q.missing) ∙ sym q.joined

pub merges_unique : {rs : List (ℕ × Type 0)} {G H K M : List Op} {n m : ℕ} → Merges rs G H K n → Merges rs G H M m → (K ≡ M) × (n ≡ m)
merges_unique {rs} {G} {H} {K} {M} {n} {m} p q = (go (ℕ_discrete n 0), number)
  where
    number : n ≡ m
    number = first_unique rs p.number q.number

    go : Dec (n ≡ 0) → K ≡ M
    go (yes z) = union_unique (p.done z) (q.done (sym number ∙ z))
    go (no z) = p.refused z ∙ sym (q.refused (λ y. z (number ∙ y)))

-- what is missing stands in the second and isn't held in the first
missing_in : {G H M : List Op} → Missing G H M → (o : Op) → o ∈ M → (o ∈ H) × (¬ Held G o.digest)
missing_in no_more o m = absurd (Memᴰ.not-nil m)
missing_in (has h a) o m = let r = missing_in a o m in (Memᴰ.tail r.0, r.1)
missing_in {G} {H} (lacks {o = p} h a) o m = go (missing_in a o) (Memᴰ.cases_cons m)
  where
    go : {N J : List Op} → (o ∈ N → (o ∈ J) × (¬ Held G o.digest)) → (o ≡ p) ⊎ (o ∈ N) → (o ∈ p ∷ J) × (¬ Held G o.digest)
    go f (inl e) = (Memᴰ.head e, λ k. h (subst (λ x. Held G x.digest) e k))
    go f (inr t) = (Memᴰ.tail (f t).0, (f t).1)

in_missing : {G H M : List Op} → Missing G H M → (o : Op) → o ∈ H → ¬ Held G o.digest → o ∈ M
in_missing no_more o m n = absurd (Memᴰ.not-nil m)
in_missing {G} (has {o = p} h a) o m n = go (λ t. in_missing a o t n) (Memᴰ.cases_cons m)
  where
    go : {N J : List Op} → (o ∈ J → o ∈ N) → (o ≡ p) ⊎ (o ∈ J) → o ∈ N
    go f (inl e) = absurd (n (subst (λ x. Held G x.digest) (sym e) h))
    go f (inr t) = f t
in_missing (lacks {o = p} h a) o m n = go (λ t. in_missing a o t n) (Memᴰ.cases_cons m)
  where
    go : {N J : List Op} → (o ∈ J → o ∈ N) → (o ≡ p) ⊎ (o ∈ J) → o ∈ p ∷ N
    go f (inl e) = Memᴰ.head e
    go f (inr t) = Memᴰ.tail (f t)

-- each member of the union
pub union_into : {G H K : List Op} → Union G H K → (o : Op) → o ∈ K → (o ∈ G) ⊎ ((o ∈ H) × (¬ Held G o.digest))
union_into {G} {H} p o m = go (Memᴰ.append_cases G (subst (λ l. o ∈ l) p.joined m))
  where
    go : (o ∈ G) ⊎ (o ∈ p.more) → (o ∈ G) ⊎ ((o ∈ H) × (¬ Held G o.digest))
    go (inl a) = inl a
    go (inr b) = inr (missing_in p.missing o b)

pub union_back : {G H K : List Op} → Union G H K → (o : Op) → (o ∈ G) ⊎ ((o ∈ H) × (¬ Held G o.digest)) → o ∈ K
union_back {G} p o (inl a) = subst (λ l. o ∈ l) (sym p.joined) (Memᴰ.append_left p.more a)
union_back {G} p o (inr b) = subst (λ l. o ∈ l) (sym p.joined) (Memᴰ.append_right G (in_missing p.missing o b.0 b.1))

-- where nothing clashes: exactly the operations of both
pub union_both : {G H K : List Op} → ¬ Clash G H → Union G H K → (o : Op) → o ∈ H → o ∈ K
union_both {G} {H} {K} n p o m = go (held? G o.digest)
  where
    go : Dec (Held G o.digest) → o ∈ K
    go (yes h) = union_back p o (inl (Memᴰ.cast (sym (one_across n h.op o h.stands m h.named)) h.stands))
    go (no x) = union_back p o (inr (m, x))

-- a union there always is
pub union_is : (G H : List Op) → (K : List Op) × Union G H K
union_is G H = let r = missing H in (G ++ r.0, record { more = r.0; missing = r.1; joined = refl })
  where
    step : (o : Op) (H : List Op) → (M : List Op) × Missing G H M → Dec (Held G o.digest) → (M : List Op) × Missing G (o ∷ H) M
    step o H r (yes h) = (r.0, has h r.1)
    step o H r (no n) = (o ∷ r.0, lacks n r.1)

    missing : (H : List Op) → (M : List Op) × Missing G H M
    missing [] = ([], no_more)
    missing (o ∷ H) = step o H (missing H) (held? G o.digest)

-- the union depends on the two sets of operations
module _ {G H A B : List Op} (e : Alike G A) (f : Alike H B) where
  union_sub : {K M : List Op} → Union G H K → Union A B M → (o : Op) → o ∈ K → o ∈ M
  union_sub p q o m = union_back q o (go (union_into p o m))
    where
      go : (o ∈ G) ⊎ ((o ∈ H) × (¬ Held G o.digest)) → (o ∈ A) ⊎ ((o ∈ B) × (¬ Held A o.digest))
      go (inl a) = inl (e.into o a)
      go (inr b) = inr (f.into o b.0, λ h. b.1 (held_in e.back h))

pub union_same : {G H A B K M : List Op} → Alike G A → Alike H B → Union G H K → Union A B M → Alike K M
union_same e f p q = record { into = union_sub e f p q; back = union_sub (alike_sym e) (alike_sym f) q p }

snoc_held : {K : List Op} {x : ℕ} (o : Op) → Held (K ++ (o ∷ [])) x → Held K x ⊎ (o.digest ≡ x)
snoc_held {K} {x} o h = go (Memᴰ.append_cases K h.stands)
  where
    go : (h.op ∈ K) ⊎ (h.op ∈ o ∷ []) → Held K x ⊎ (o.digest ≡ x)
    go (inl m) = inl (record { op = h.op; stands = m; named = h.named })
    go (inr m) = inr (ap (λ p. p.digest) (sym (Memᴰ.eq_of_singleton m)) ∙ h.named)

last_held : (K : List Op) (o : Op) → Held (K ++ (o ∷ [])) o.digest
last_held K o = record { op = o; stands = Memᴰ.append_right K (Memᴰ.head refl); named = refl }

front_held : {K : List Op} {x : ℕ} (o : Op) → Held K x → Held (K ++ (o ∷ [])) x
front_held o h = record { op = h.op; stands = Memᴰ.append_left (o ∷ []) h.stands; named = h.named }

-- Admitting what is missing, one after the other. `pre` are the second's operations so far, all of them held in K by now,
-- and what K holds is held in the first or among them.
module _ {G H : List Op} (F : Formed H) where
  -- the next operation may be admitted
  next_fits : (pre rest K : List Op) (o : Op) → H ≡ pre ++ (o ∷ rest) → ¬ Held G o.digest → ((p : Op) → p ∈ pre → Held K p.digest) → ((x : ℕ) → Held K x → Held G x ⊎ Held pre x) → Admissible K o
  next_fits pre rest K o e n all from =
      record {
        proper = subst Proper there (F.proper at inside);
        fresh = λ h. go (from o.digest h);
        rooted = λ z. subst (λ p. p.preds ≡ [] → p.kind ≡ 0) there (F.rooted at inside) z;
        known = λ p m. let r = F.earlier at p inside (subst (λ q. p ∈ q.preds) (sym there) m) in subst (Held K) (ap (λ q. q.digest) (sym (before r.0 r.1)) ∙ r.2) (all (op_at pre r.0) (at_in no_op pre r.0 r.1));
      }
    where
      at : ℕ
      at = length pre

      inside : at < length H
      inside = omega (arith, ap length e, length-append pre (o ∷ rest))

      there : op_at H at ≡ o
      there = ap (λ l. op_at l at) e ∙ get_or_at pre o rest no_op at refl

      before : (j : ℕ) → j < at → op_at H j ≡ op_at pre j
      before j h = ap (λ l. op_at l j) e ∙ get_or-append pre (o ∷ rest) no_op j h

      go : Held G o.digest ⊎ Held pre o.digest → ⊥
      go (inl h) = n h
      go (inr h) =
          let r = in_at no_op h.stands in
          let q : r.0 ≡ at = F.distinct r.0 at (omega (arith, ap length e, length-append pre (o ∷ rest))) inside (ap (λ p. p.digest) (before r.0 r.1 ∙ r.2) ∙ h.named ∙ ap (λ p. p.digest) (sym there)) in
          omega arith

  more_formed : (pre : List Op) {rest M : List Op} (K : List Op) → Missing G rest M → H ≡ pre ++ rest → Formed K → ((x : ℕ) → Held G x → Held K x) → ((p : Op) → p ∈ pre → Held K p.digest) → ((x : ℕ) → Held K x → Held G x ⊎ Held pre x) → Formed (K ++ M)
  more_formed pre K no_more e f sub all from = rw append-nil f
  more_formed pre K (has {o = o} {H = rest} h a) e f sub all from = more_formed (pre ++ (o ∷ [])) K a (e ∙ sym (append_assoc pre (o ∷ []) rest)) f sub (λ p m. seen p (Memᴰ.append_cases pre m)) (λ x k. elim (from x k) [ inl g ↦ inl g | inr g ↦ inr (front_held o g) ])
    where
      seen : (p : Op) → (p ∈ pre) ⊎ (p ∈ o ∷ []) → Held K p.digest
      seen p (inl m) = all p m
      seen p (inr m) = subst (λ q. Held K q.digest) (sym (Memᴰ.eq_of_singleton m)) (sub o.digest h)
  more_formed pre K (lacks {o = o} {H = rest} {M = M} n a) e f sub all from =
      subst Formed (append_assoc K (o ∷ []) M)
      (more_formed (pre ++ (o ∷ [])) (K ++ (o ∷ [])) a (e ∙ sym (append_assoc pre (o ∷ []) rest)) (formed_more f (next_fits pre rest K o e n all from)) (λ x g. front_held o (sub x g)) (λ p m. seen p (Memᴰ.append_cases pre m)) (λ x k. known x (snoc_held o k)))
    where
      seen : (p : Op) → (p ∈ pre) ⊎ (p ∈ o ∷ []) → Held (K ++ (o ∷ [])) p.digest
      seen p (inl m) = front_held o (all p m)
      seen p (inr m) = subst (λ q. Held (K ++ (o ∷ [])) q.digest) (sym (Memᴰ.eq_of_singleton m)) (last_held K o)

      known : (x : ℕ) → Held K x ⊎ (o.digest ≡ x) → Held G x ⊎ Held (pre ++ (o ∷ [])) x
      known x (inl k) = elim (from x k) [ inl g ↦ inl g | inr g ↦ inr (front_held o g) ]
      known x (inr q) = inr (subst (Held (pre ++ (o ∷ []))) q (last_held pre o))

-- a union of well-formed graphs is well-formed
pub union_formed : {G H K : List Op} → Formed G → Formed H → Union G H K → Formed K
union_formed {G} F F' p = subst Formed (sym p.joined) (more_formed F' [] G p.missing refl F (λ x h. h) (λ q m. absurd (Memᴰ.not-nil m)) (λ x h. inl h))

-- the answer of merge is the same for stores with the same operations, and leaves such stores
clash_same : {G H A B : List Op} → Alike G A → Alike H B → Clash G H → Clash A B
clash_same e f c = record { one = c.one; other = c.other; here = e.into c.one c.here; there = f.into c.other c.there; named = c.named; differ = c.differ }

module _ {L : Limits} {G H A B : List Op} (FG : Formed G) (FH : Formed H) (FA : Formed A) (FB : Formed B) (e : Alike G A) (f : Alike H B) where
  overfull_same : Overfull L G H → Overfull L A B
  overfull_same o =
      let r = union_is A B in
      record { union = r.0; is = r.1; over = omega (arith, o.over, length_same (union_formed FG FH o.is) (union_formed FA FB r.1) (union_same e f o.is r.1)) }

pub merges_same : {D D' : Type 0} {G H A B K : List Op} {n : ℕ} (L : Limits) → D ↔ D' → (¬ D → Formed G × Formed H × Formed A × Formed B) → Alike G A → Alike H B → Merges (merge_refusals L D G H) G H K n → (M : List Op) × Merges (merge_refusals L D' A B) A B M n × Alike K M
merges_same {D} {D'} {G} {H} {A} {B} {K} {n} L w F e f p = go (ℕ_discrete n 0)
  where
    number : First (merge_refusals L D' A B) n
    number = first_moves (merge_refusals L D G H) (merge_refusals L D' A B) n (refl, w, λ d. (refl, (clash_same e f, clash_same (alike_sym e) (alike_sym f)), λ c. let k = F d in (refl, (overfull_same k.0 k.1 k.2 k.3 e f, overfull_same k.2 k.3 k.0 k.1 (alike_sym e) (alike_sym f)), λ x. tt))) p.number

    go : Dec (n ≡ 0) → (M : List Op) × Merges (merge_refusals L D' A B) A B M n × Alike K M
    go (yes z) = let r = union_is A B in (r.0, record { number = number; done = λ y. r.1; refused = λ y. absurd (y z) }, union_same e f (p.done z) r.1)
    go (no z) = (A, record { number = number; done = λ y. absurd (z y); refused = λ y. refl }, subst (λ x. Alike x A) (sym (p.refused z)) e)
