-- Admission has one outcome, the same for graphs with the same operations, and leaves a graph that admissions leave.
-- Assumes nothing.
use Prim.Native.Nat.{ℕ, ◌*◌, ◌/◌, ◌≤◌, ◌<◌}
use native.Mathlib.Omega.{arith}
use native.Mathlib.Decide.{ℕ_discrete, dec_le}
use mathlib.Core.Path.{◌≡◌, refl, sym, ◌∙◌, ap, subst}
use mathlib.Core.Bool.{Bool, true, false}
use mathlib.Core.Logic.{◌⊎◌, inl, inr, ◌↔◌}
use mathlib.Core.List.Memᴰ
use mathlib.Core.List.{List, [], ◌∷◌, ◌++◌}
use lib.ListN.{length}
use Rattle.rules.specs.Admission.{AsOffered, admission_refusals, MadeChainable, NewlyChainable, add_op_refusals, Joined, Admits, Admissible, Grown, admit}
use Rattle.rules.specs.Answers.{Says}
use Rattle.rules.specs.Bytes.{Bytes, number_at, digest_of, digests_of}
use Rattle.rules.specs.First.{First}
use Rattle.rules.specs.Graph.{Op, Held, Unheld}
use Rattle.rules.specs.Lists.{◌∈◌, Alike, SetOf}
use Rattle.rules.specs.Table.{Limits, Over, Shaped}
use Rattle.rules.proofs.Answers.{says_unique, says_same, no_room_same, last_matched}
use Rattle.rules.proofs.Bytes.{row_length, number_below}
use Rattle.rules.proofs.Calls.{Twins, matching}
use Rattle.rules.proofs.First.{first_unique, Matched, first_moves, first_clear}
use Rattle.rules.proofs.Formed.{Formed}
use Rattle.rules.proofs.Heads.{op_same}
use Rattle.rules.proofs.Lists.{ascending_apart, set_unique, set_same, alike_sym, sub_length}
use Rattle.rules.proofs.Past.{held?}
use Rattle.rules.proofs.Same.{held_in, append_same, made_same, length_same}

pub as_offered_unique : {d m l : List ℕ} {k : ℕ} {o p : Op} → AsOffered d k m l o → AsOffered d k m l p → o ≡ p
as_offered_unique {o = o} {p = p} a b = op_same o p (a.digest ∙ sym b.digest) (a.kind ∙ sym b.kind) (a.member ∙ sym b.member) (set_unique a.preds b.preds)

-- a new operation, and a held digest
pub new_admits : {rs : List (ℕ × Type 0)} {G : List Op} {d m l us : List ℕ} {k : ℕ} {o : Op} → First rs 0 → ¬ Held G (digest_of d) → AsOffered d k m l o → SetOf (MadeChainable G o) us → Admits rs G d k m l (G ++ (o ∷ [])) 0 false us
new_admits {o = o} f n a s =
    record {
      number = f;
      known = λ r. n r.1;
      new = λ z g. record { op = o; offered = a; held = refl; answers = s };
      same = λ t. elim t [ inl x ↦ absurd (x refl) | inr x ↦ absurd (let z : ◌≡◌ {A = ℕ} 0 1 = cc x in omega arith) ];
    }

pub known_admits : {rs : List (ℕ × Type 0)} {G : List Op} {d m l : List ℕ} {k : ℕ} → First rs 0 → Held G (digest_of d) → Admits rs G d k m l G 0 true []
known_admits f h = record { number = f; known = (refl, h); new = λ z g. absurd (let z : ◌≡◌ {A = ℕ} 0 1 = cc g in omega arith); same = λ s. (refl, refl) }

module _ {rs : List (ℕ × Type 0)} {G : List Op} {d m l : List ℕ} {k : ℕ} where
  pub admits_unique : {K M : List Op} {n i : ℕ} {b c : Bool} {us vs : List ℕ} → Admits rs G d k m l K n b us → Admits rs G d k m l M i c vs → (K ≡ M) × (n ≡ i) × (b ≡ c) × (us ≡ vs)
  admits_unique {K} {M} {n} {i} {b} {c} {us} {vs} p q = let r = go (ℕ_discrete n 0) b refl in (r.0, number, known, r.1)
    where
      number : n ≡ i
      number = first_unique rs p.number q.number

      known : b ≡ c
      known = says_unique b c (λ r. (sym number ∙ r.0, r.1)) (λ r. (number ∙ r.0, r.1)) p.known q.known

      join : (x : Joined G d k m l K us) (y : Joined G d k m l M vs) → (K ≡ M) × (us ≡ vs)
      join x y =
          let e : x.op ≡ y.op = as_offered_unique x.offered y.offered in
          (x.held ∙ ap (λ o. G ++ (o ∷ [])) e ∙ sym y.held, set_unique x.answers (subst (λ o. SetOf (MadeChainable G o) vs) (sym e) y.answers))

      stay : (¬ (n ≡ 0)) ⊎ (b ≡ true) → (¬ (i ≡ 0)) ⊎ (c ≡ true) → (K ≡ M) × (us ≡ vs)
      stay x y = let a = p.same x in let z = q.same y in (a.0 ∙ sym z.0, a.1 ∙ sym z.1)

      go : Dec (n ≡ 0) → (x : Bool) → b ≡ x → (K ≡ M) × (us ≡ vs)
      go (no z) x e = stay (inl z) (inl (λ y. z (number ∙ y)))
      go (yes z) true e = stay (inr e) (inr (sym known ∙ e))
      go (yes z) false e = join (p.new z e) (q.new (sym number ∙ z) (sym known ∙ e))

  -- moved to a graph with the same operations
  pub admits_same : {qs : List (ℕ × Type 0)} {H K : List Op} {n : ℕ} {b : Bool} {us : List ℕ} → Matched rs qs → Alike G H → Admits rs G d k m l K n b us → (M : List Op) × Admits qs H d k m l M n b us × Alike K M
  admits_same {qs} {H} {K} {n} {b} {us} w e p = go (ℕ_discrete n 0) b refl
    where
      known : Says b ((n ≡ 0) × Held H (digest_of d))
      known = says_same b (λ r. (r.0, held_in e.into r.1)) (λ r. (r.0, held_in e.back r.1)) p.known

      number : First qs n
      number = first_moves rs qs n w p.number

      Moved : Type 0
      Moved = (M : List Op) × Admits qs H d k m l M n b us × Alike K M

      stay : (¬ (n ≡ 0)) ⊎ (b ≡ true) → ¬ ((n ≡ 0) × (b ≡ false)) → Moved
      stay x y = (H, record { number = number; known = known; new = λ z f. absurd (y (z, f)); same = λ t. (refl, (p.same x).1) }, subst (λ A. Alike A H) (sym (p.same x).0) e)

      join : Joined G d k m l K us → n ≡ 0 → b ≡ false → Moved
      join j z f = (
        H ++ (j.op ∷ []),
        record {
          number = number;
          known = known;
          new = λ y g. record { op = j.op; offered = j.offered; held = refl; answers = set_same (λ u. (made_same e, made_same (alike_sym e))) j.answers };
          same = λ t. elim t [ inl y ↦ absurd (y z) | inr y ↦ absurd (let q : ◌≡◌ {A = Bool} false true = sym f ∙ y in true_apart q) ];
        },
        subst (λ A. Alike A (H ++ (j.op ∷ []))) (sym j.held) (append_same e j.op),
      )
        where
          true_apart : ◌≡◌ {A = Bool} false true → ⊥
          true_apart q = let z : ◌≡◌ {A = ℕ} 0 1 = cc in omega arith

      go : Dec (n ≡ 0) → (x : Bool) → b ≡ x → Moved
      go (no z) x f = stay (inl z) (λ r. z r.0)
      go (yes z) true f = stay (inr f) (λ r. let q : ◌≡◌ {A = ℕ} 0 1 = cc r.1 in omega arith)
      go (yes z) false f = join (p.new z f) z f

-- the refusals of admission match for stores with the same operations
module _ {D D' : Type 0} {G H : List Op} (w : Twins D D' G H) (F : ¬ D → Formed G × Formed H) (L : Limits) (d : List ℕ) (k : ℕ) (m l : List ℕ) where
  full_iff : ¬ D → (L.operations ≤ length G) ↔ (L.operations ≤ length H)
  full_iff n = let e : length G ≡ length H = length_same (F n).0 (F n).1 (w.same n) in ((λ h. omega arith), (λ h. omega arith))

  pub admission_matched : Matched (admission_refusals L D G d k m l) (admission_refusals L D' H d k m l)
  admission_matched = search (matching, full_iff, w.damage, w.same) depth 20

  newly_same : {A B : List Op} → Alike A B → (u : ℕ) → NewlyChainable A d k m l u → NewlyChainable B d k m l u
  newly_same e u r = record { op = r.op; offered = r.offered; made = made_same e r.made }

  pub add_op_matched : (s : List ℕ) → Matched (add_op_refusals L D G d k m l s) (add_op_refusals L D' H d k m l s)
  add_op_matched s = last_matched (admission_refusals L D G d k m l) (admission_refusals L D' H d k m l) 9 admission_matched (λ z. let e = w.same z.1.1.0 in (no_room_same (λ u. (newly_same e u, newly_same (alike_sym e) u)), no_room_same (λ u. (newly_same (alike_sym e) u, newly_same e u))))

-- what an offer meets that is not refused
record Unrefused (L : Limits) (G : List Op) (d : List ℕ) (k : ℕ) (m l : List ℕ) : Type 0 where
  shape : ¬ (¬ Shaped d k m l)
  few : ¬ Over L.predecessors l
  rooted : ¬ ((digests_of l ≡ []) × (¬ (k ≡ 0)))
  held : ¬ Unheld G (digests_of l)
  room : ¬ (L.operations ≤ length G)

-- what admission leaves, admissions leave
module _ (L : Limits) (D : Type 0) (G : List Op) (d : List ℕ) (k : ℕ) (m l : List ℕ) (es : List (ℕ × Type 0)) where
  -- the operation as offered, where it is neither refused nor known
  module _ {o : Op} (bd : Bytes d) (bm : Bytes m) (new : ¬ Held G (digest_of d)) (f : First (admission_refusals L D G d k m l ++ es) 0) (a : AsOffered d k m l o) where
    fine : Unrefused L G d k m l
    fine =
        let x = first_clear (admission_refusals L D G d k m l) es (search new) f in
        search (x.0, x.1.0, x.1.1.0, x.1.1.1.0, x.1.1.1.1.0, x.1.1.1.1.1.0, x.1.1.1.1.1.1.0)

    decided : {P : Type 0} → Dec P → (Shaped d k m l → P) → P
    decided (yes p) g = p
    decided (no n) g = absurd (fine.shape (λ s. n (g s)))

    none_offered : o.preds ≡ [] → digests_of l ≡ []
    none_offered e = go (digests_of l) refl
      where
        go : (ps : List ℕ) → digests_of l ≡ ps → digests_of l ≡ []
        go [] q = q
        go (p ∷ ps) q = absurd (Memᴰ.not-nil (subst (λ x. p ∈ x) e (a.preds.back p (subst (λ x. p ∈ x) (sym q) (Memᴰ.head refl)))))

    pub offered_admissible : Admissible G o
    offered_admissible =
        record {
          proper = record {
            digest = rw a.digest (number_below d 0 32 bd);
            kind = rw a.kind (decided (dec_le k 2) (λ s. s.kind));
            member = rw a.member (number_below m 0 32 bm);
            zero = λ n. rw a.member (decided (ℕ_discrete (digest_of m) 0) (λ s. s.zero (λ z. n (a.kind ∙ z))));
            preds = a.preds.ascending;
          };
          fresh = λ h. new (subst (Held G) a.digest h);
          rooted = λ e. a.kind ∙ add (none_offered e) (ℕ_discrete k 0);
          known = λ p i. held p i (held? G p);
        }
      where
        add : digests_of l ≡ [] → Dec (k ≡ 0) → k ≡ 0
        add e (yes z) = z
        add e (no n) = absurd (fine.rooted (e, n))

        held : (p : ℕ) → p ∈ o.preds → Dec (Held G p) → Held G p
        held p i (yes h) = h
        held p i (no n) = absurd (fine.held (record { which = p; stands = a.preds.into p i; lacks = n }))

    pub offered_few : length o.preds ≤ L.predecessors
    offered_few = omega (arith, fine.few, sub_length o.preds (digests_of l) (ascending_apart a.preds.ascending) a.preds.into, row_length (length l / 32) (λ i. number_at l (32 * i) 32))

    pub offered_room : length G < L.operations
    offered_room = omega (arith, fine.room)

  pub admits_grown : {K : List Op} {n : ℕ} {b : Bool} {us : List ℕ} → Grown L G → Bytes d → Bytes m → Admits (admission_refusals L D G d k m l ++ es) G d k m l K n b us → Grown L K
  admits_grown {K} {n} {b} {us} g bd bm p = go (ℕ_discrete n 0) b refl
    where
      stay : (¬ (n ≡ 0)) ⊎ (b ≡ true) → Grown L K
      stay x = subst (Grown L) (sym (p.same x).0) g

      go : Dec (n ≡ 0) → (x : Bool) → b ≡ x → Grown L K
      go (no z) x e = stay (inl z)
      go (yes z) true e = stay (inr e)
      go (yes z) false e =
          let j = p.new z e in
          let f : First (admission_refusals L D G d k m l ++ es) 0 = subst (First (admission_refusals L D G d k m l ++ es)) z p.number in
          let n : ¬ Held G (digest_of d) = λ h. subst (λ x. Says x ((n ≡ 0) × Held G (digest_of d))) e p.known (z, h) in
          subst (Grown L) (sym j.held) (admit g (offered_admissible bd bm n f j.offered) (offered_few bd bm n f j.offered) (offered_room bd bm n f j.offered))
