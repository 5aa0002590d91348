-- Deciders that compute: of numbers, lists and the words about a well-formed graph.
-- Assumes nothing.
use Prim.Native.Nat.{ℕ, zero, suc, ◌%◌, ◌^◌, ◌<◌}
use native.Mathlib.Omega.{arith}
use native.Mathlib.Decide.{ℕ_discrete, dec_le, dec_lt}
use mathlib.Core.Path.{◌≡◌, refl, sym, ap, subst}
use mathlib.Core.Logic.{◌⊎◌, inl, inr}
use mathlib.Core.List.Memᴰ
use mathlib.Core.List.{List, [], ◌∷◌, cons≢nil}
use lib.ListN.{length}
use Rattle.rules.specs.Batches.{Mark, marked, unmarked}
use Rattle.rules.specs.Bytes.{digest_of}
use Rattle.rules.specs.First.{First}
use Rattle.rules.specs.Graph.{Op, Proper, Held, Unheld, Child, Head, AllHeads}
use Rattle.rules.specs.Lists.{◌∈◌, Ordered, none, more, Ascending, SetOf}
use Rattle.rules.specs.Table.{Shaped}
use Rattle.rules.proofs.Formed.{op_at, Formed}
use Rattle.rules.proofs.Lists.{ordered_head, ordered_tail, some?, ◌∈?◌}
use Rattle.rules.proofs.Past.{held?}

unfoldable pub and? : {A B : Type 0} → Dec A → Dec B → Dec (A × B)
and? (yes a) (yes b) = yes (a, b)
and? (yes a) (no n) = no (λ p. n p.1)
and? (no n) b = no (λ p. n p.0)

unfoldable pub or? : {A B : Type 0} → Dec A → Dec B → Dec (A ⊎ B)
or? (yes a) b = yes (inl a)
or? (no n) (yes b) = yes (inr b)
or? (no n) (no m) = no (λ s. elim s [ inl a ↦ n a | inr b ↦ m b ])

unfoldable pub not? : {A : Type 0} → Dec A → Dec (¬ A)
not? (yes a) = no (λ n. n a)
not? (no n) = yes n

unfoldable pub implies? : {A B : Type 0} → Dec A → Dec B → Dec (A → B)
implies? (no n) b = yes (λ a. absurd (n a))
implies? (yes a) (yes b) = yes (λ x. b)
implies? (yes a) (no n) = no (λ f. n (f a))

-- by statements that hold together
unfoldable pub via? : {A B : Type 0} → (A → B) → (B → A) → Dec A → Dec B
via? f g (yes a) = yes (f a)
via? f g (no n) = no (λ b. n (g b))

-- a record by its fields
unfoldable pub fields2? : {R A B : Type 0} → (A → B → R) → (R → A) → (R → B) → Dec A → Dec B → Dec R
fields2? f a b x y = via? (λ p. f p.0 p.1) (λ r. (a r, b r)) (and? x y)

unfoldable pub fields3? : {R A B C : Type 0} → (A → B → C → R) → (R → A) → (R → B) → (R → C) → Dec A → Dec B → Dec C → Dec R
fields3? f a b c x y z = fields2? (λ u p. f u p.0 p.1) a (λ r. (b r, c r)) x (and? y z)

unfoldable pub fields4? : {R A B C D : Type 0} → (A → B → C → D → R) → (R → A) → (R → B) → (R → C) → (R → D) → Dec A → Dec B → Dec C → Dec D → Dec R
fields4? f a b c d x y z w = fields3? (λ u v p. f u v p.0 p.1) a b (λ r. (c r, d r)) x y (and? z w)

unfoldable pub fields5? : {R A B C D E : Type 0} → (A → B → C → D → E → R) → (R → A) → (R → B) → (R → C) → (R → D) → (R → E) → Dec A → Dec B → Dec C → Dec D → Dec E → Dec R
fields5? f a b c d e x y z w v = fields4? (λ u i j p. f u i j p.0 p.1) a b c (λ r. (d r, e r)) x y z (and? w v)

unfoldable pub nil? : (l : List ℕ) → Dec (l ≡ [])
nil? [] = yes refl
nil? (x ∷ xs) = no cons≢nil

-- for all members, for some member
unfoldable pub each? : {A : Type 0} (P : A → Type 0) (xs : List A) → ((x : A) → x ∈ xs → Dec (P x)) → Dec ((x : A) → x ∈ xs → P x)
each? {A} P xs d = go (some? (λ x. ¬ P x) xs (λ x m. not? (d x m)))
  where
    keep : (x : A) → ¬ (¬ P x) → Dec (P x) → P x
    keep x n (yes p) = p
    keep x n (no q) = absurd (n q)

    go : ((x : A) × (x ∈ xs) × (¬ P x)) ⊎ ((x : A) → x ∈ xs → ¬ (¬ P x)) → Dec ((x : A) → x ∈ xs → P x)
    go (inl r) = no (λ f. r.2 (f r.0 r.1))
    go (inr f) = yes (λ x m. keep x (f x m) (d x m))

unfoldable pub any? : {A : Type 0} (P : A → Type 0) (xs : List A) → ((x : A) → x ∈ xs → Dec (P x)) → Dec ((x : A) × (x ∈ xs) × P x)
any? {A} P xs d = go (some? P xs d)
  where
    go : ((x : A) × (x ∈ xs) × P x) ⊎ ((x : A) → x ∈ xs → ¬ P x) → Dec ((x : A) × (x ∈ xs) × P x)
    go (inl r) = yes r
    go (inr f) = no (λ r. f r.0 r.1 r.2)

-- below a bound
unfoldable pub all<? : (n : ℕ) (P : ℕ → Type 0) → ((i : ℕ) → Dec (P i)) → Dec ((i : ℕ) → i < n → P i)
all<? zero P d = yes (λ i h. absurd (omega arith))
all<? (suc n) P d = go (d n) (all<? n P d)
  where
    put : P n → ((i : ℕ) → i < n → P i) → (i : ℕ) → i < suc n → Dec (i ≡ n) → P i
    put p f i h (yes e) = subst P (sym e) p
    put p f i h (no x) = f i (omega arith)

    go : Dec (P n) → Dec ((i : ℕ) → i < n → P i) → Dec ((i : ℕ) → i < suc n → P i)
    go (yes p) (yes f) = yes (λ i h. put p f i h (ℕ_discrete i n))
    go (yes p) (no x) = no (λ f. x (λ i h. f i (omega arith)))
    go (no x) r = no (λ f. x (f n (omega arith)))

unfoldable pub ordered? : {A : Type 0} (R : A → A → Type 0) (xs : List A) → ((x y : A) → x ∈ xs → y ∈ xs → Dec (R x y)) → Dec (Ordered R xs)
ordered? R [] d = yes none
ordered? {A} R (x ∷ xs) d = go (each? (R x) xs (λ y m. d x y (Memᴰ.head refl) (Memᴰ.tail m))) (ordered? R xs (λ y z m n. d y z (Memᴰ.tail m) (Memᴰ.tail n)))
  where
    go : Dec ((y : A) → y ∈ xs → R x y) → Dec (Ordered R xs) → Dec (Ordered R (x ∷ xs))
    go (yes a) (yes s) = yes (more a s)
    go (yes a) (no n) = no (λ s. n (ordered_tail s))
    go (no n) s = no (λ t. n (ordered_head t))

-- one of three cases
unfoldable pub cases3? : {R A B C : Type 0} → (A → R) → (B → R) → (C → R) → (R → (A ⊎ B) ⊎ C) → Dec A → Dec B → Dec C → Dec R
cases3? f g h r a b c = via? (λ s. elim s [ inl x ↦ elim x [ inl y ↦ f y | inr y ↦ g y ] | inr x ↦ h x ]) r (or? (or? a b) c)

unfoldable pub mark? : {P : Type 0} → Dec P → (m : ℕ) → Dec (Mark P m)
mark? (yes p) m = via? (λ e. marked e p) (λ k. elim k [ marked e q ↦ e | unmarked e n ↦ absurd (n p) ]) (ℕ_discrete m 1)
mark? (no n) m = via? (λ e. unmarked e n) (λ k. elim k [ marked e q ↦ absurd (n q) | unmarked e x ↦ e ]) (ℕ_discrete m 0)

-- a set whose members all stand in a list
unfoldable pub set_of? : (P : ℕ → Type 0) (ds : List ℕ) (from : List ℕ) → ((d : ℕ) → P d → d ∈ from) → ((d : ℕ) → Dec (P d)) → Dec (SetOf P ds)
set_of? P ds from b d = go (ordered? ◌<◌ ds (λ x y m n. dec_lt x y)) (each? P ds (λ x m. d x)) (each? (λ x. P x → x ∈ ds) from (λ x m. implies? (d x) (x ∈? ds)))
  where
    go : Dec (Ascending ds) → Dec ((x : ℕ) → x ∈ ds → P x) → Dec ((x : ℕ) → x ∈ from → P x → x ∈ ds) → Dec (SetOf P ds)
    go (yes a) (yes i) (yes k) = yes (record { ascending = a; into = i; back = λ x p. k x (b x p) p })
    go (yes a) (yes i) (no n) = no (λ s. n (λ x m p. s.back x p))
    go (yes a) (no n) k = no (λ s. n s.into)
    go (no n) i k = no (λ s. n s.ascending)

-- a table, each of whose conditions is decided
abbrev pub Decided : List (ℕ × Type 0) → Type 0
Decided [] = Unit {0}
Decided (c ∷ cs) = Dec c.1 × Decided cs

unfoldable pub first? : (cs : List (ℕ × Type 0)) (n : ℕ) → Decided cs → Dec (First cs n)
unfolding First
first? [] n d = ℕ_discrete n 0
first? (c ∷ cs) n d = or? (and? d.0 (ℕ_discrete n c.0)) (and? (not? d.0) (first? cs n d.1))

-- the words about a graph
unfoldable pub held_here : {G : List Op} (o : Op) → o ∈ G → Held G o.digest
held_here o m = record { op = o; stands = m; named = refl }

unfoldable pub unheld? : (G : List Op) (ds : List ℕ) → Dec (Unheld G ds)
unheld? G ds = via? (λ r. record { which = r.0; stands = r.1; lacks = r.2 }) (λ u. (u.which, u.stands, u.lacks)) (any? (λ d. ¬ Held G d) ds (λ d m. not? (held? G d)))

unfoldable pub child? : (G : List Op) (d c : ℕ) → Dec (Child G d c)
child? G d c = via? (λ r. record { op = r.0; stands = r.1; named = r.2.0; lists = r.2.1 }) (λ k. (k.op, k.stands, (k.named, k.lists))) (any? (λ o. (o.digest ≡ c) × (d ∈ o.preds)) G (λ o m. and? (ℕ_discrete o.digest c) (d ∈? o.preds)))

unfoldable pub head? : (G : List Op) (d : ℕ) → Dec (Head G d)
head? G d = via? (λ r. record { held = r.0; childless = λ c k. r.1 k.op k.stands k.lists }) (λ h. (h.held, λ o m l. h.childless o.digest (record { op = o; stands = m; named = refl; lists = l }))) (and? (held? G d) (each? (λ o. ¬ (d ∈ o.preds)) G (λ o m. not? (d ∈? o.preds))))

unfoldable pub all_heads? : (G : List Op) (ds : List ℕ) → Dec (AllHeads G ds)
all_heads? G ds = via? (λ f. record { each = λ h k. subst (λ x. x ∈ ds) k.held.named (f k.held.op k.held.stands (subst (Head G) (sym k.held.named) k)) }) (λ a o m k. a.each o.digest k) (each? (λ o. Head G o.digest → o.digest ∈ ds) G (λ o m. implies? (head? G o.digest) (o.digest ∈? ds)))

unfoldable pub shaped? : (d : List ℕ) (k : ℕ) (m l : List ℕ) → Dec (Shaped d k m l)
shaped? d k m l = fields5? (λ a b c e f. record { digest = a; member = b; list = c; kind = e; zero = f }) (λ s. s.digest) (λ s. s.member) (λ s. s.list) (λ s. s.kind) (λ s. s.zero) (ℕ_discrete (length d) 32) (ℕ_discrete (length m) 32) (ℕ_discrete (length l % 32) 0) (dec_le k 2) (implies? (not? (ℕ_discrete k 0)) (ℕ_discrete (digest_of m) 0))

unfoldable pub proper? : (o : Op) → Dec (Proper o)
proper? o = fields5? (λ a b c e f. record { digest = a; kind = b; member = c; zero = e; preds = f }) (λ p. p.digest) (λ p. p.kind) (λ p. p.member) (λ p. p.zero) (λ p. p.preds) (dec_lt o.digest (256 ^ 32)) (dec_le o.kind 2) (dec_lt o.member (256 ^ 32)) (implies? (not? (ℕ_discrete o.kind 0)) (ℕ_discrete o.member 0)) (ordered? ◌<◌ o.preds (λ x y m n. dec_lt x y))

unfoldable pub some<? : (n : ℕ) (P : ℕ → Type 0) → ((i : ℕ) → Dec (P i)) → Dec ((i : ℕ) × (i < n) × P i)
some<? zero P d = no (λ r. omega (arith, r.1))
some<? (suc n) P d = go (d n) (some<? n P d)
  where
    pick : ¬ P n → ¬ ((i : ℕ) × (i < n) × P i) → (r : (i : ℕ) × (i < suc n) × P i) → Dec (r.0 ≡ n) → ⊥
    pick x y r (yes e) = x (subst P e r.2)
    pick x y r (no z) = y (r.0, omega (arith, r.1), r.2)

    go : Dec (P n) → Dec ((i : ℕ) × (i < n) × P i) → Dec ((i : ℕ) × (i < suc n) × P i)
    go (yes p) r = yes (n, omega arith, p)
    go (no x) (yes r) = yes (r.0, omega (arith, r.1), r.2)
    go (no x) (no y) = no (λ r. pick x y r (ℕ_discrete r.0 n))

unfoldable pub formed? : (G : List Op) → Dec (Formed G)
formed? G =
    fields4? (λ a b c d. record { distinct = λ i j h k e. a i h j k e; earlier = λ i p h m. b i h p m; rooted = c; proper = d }) (λ F i h j k e. F.distinct i j h k e) (λ F i h p m. F.earlier i p h m) (λ F. F.rooted) (λ F. F.proper)
    (all<? (length G) (λ i. (j : ℕ) → j < length G → (op_at G i).digest ≡ (op_at G j).digest → i ≡ j) (λ i. all<? (length G) (λ j. (op_at G i).digest ≡ (op_at G j).digest → i ≡ j) (λ j. implies? (ℕ_discrete (op_at G i).digest (op_at G j).digest) (ℕ_discrete i j))))
    (all<? (length G) (λ i. (p : ℕ) → p ∈ (op_at G i).preds → (j : ℕ) × (j < i) × ((op_at G j).digest ≡ p)) (λ i. each? (λ p. (j : ℕ) × (j < i) × ((op_at G j).digest ≡ p)) (op_at G i).preds (λ p m. some<? i (λ j. (op_at G j).digest ≡ p) (λ j. ℕ_discrete (op_at G j).digest p))))
    (all<? (length G) (λ i. (op_at G i).preds ≡ [] → (op_at G i).kind ≡ 0) (λ i. implies? (nil? (op_at G i).preds) (ℕ_discrete (op_at G i).kind 0)))
    (all<? (length G) (λ i. Proper (op_at G i)) (λ i. proper? (op_at G i)))

-- the digests that a graph holds
unfoldable pub digests_in : List Op → List ℕ
digests_in [] = []
digests_in (o ∷ os) = o.digest ∷ digests_in os

pub held_in_digests : {G : List Op} {d : ℕ} → Held G d → d ∈ digests_in G
unfolding digests_in
held_in_digests {G} h = subst (λ x. x ∈ digests_in G) h.named (go h.stands)
  where
    go : {o : Op} {G : List Op} → o ∈ G → o.digest ∈ digests_in G
    go (Memᴰ.head e) = Memᴰ.head (ap (λ o. o.digest) e)
    go (Memᴰ.tail m) = Memᴰ.tail (go m)
