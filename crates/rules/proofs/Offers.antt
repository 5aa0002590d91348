-- Each operation that may be admitted can be offered: there are bytes with which admission is done and leaves it last.
-- Assumes nothing.
use Prim.Native.Nat.{ℕ, zero, suc, ◌+◌, ◌*◌, ◌/◌, ◌%◌, ◌-◌, ◌^◌, ◌≤◌, ◌<◌}
use native.Mathlib.Omega.{arith}
use native.Mathlib.Decide.{dec_lt}
use native.Mathlib.Nat.{pow-suc}
use mathlib.Core.Path.{◌≡◌, refl, sym, ◌∙◌, subst}
use mathlib.Core.Bool.{false}
use mathlib.Core.Logic.{inr}
use mathlib.Core.List.Memᴰ
use mathlib.Core.List.{List, [], ◌∷◌, ◌++◌}
use lib.ListN.{length, get_or, length-append, get_or-append}
use lib.Seq.{ext_get_or, get_or-append-add, get_or_at}
use Rattle.rules.specs.Admission.{AsOffered, admission_refusals, MadeChainable, Admits, Admissible}
use Rattle.rules.specs.Bytes.{Bytes, number_at, digest_of, digests_of}
use Rattle.rules.specs.First.{First}
use Rattle.rules.specs.Graph.{Op, Held}
use Rattle.rules.specs.Lists.{◌∈◌}
use Rattle.rules.specs.Table.{Limits, Shaped}
use Rattle.rules.proofs.Admission.{new_admits}
use Rattle.rules.proofs.Bytes.{number_same, row_length, row_at}
use Rattle.rules.proofs.Decide.{digests_in, held_in_digests}
use Rattle.rules.proofs.DecideGraph.{made?}
use Rattle.rules.proofs.First.{None}
use Rattle.rules.proofs.Formed.{no_op, Formed}
use Rattle.rules.proofs.Growth.{formed_more}
use Rattle.rules.proofs.Lists.{in_at, set_is}

-- the last k bytes of a number, the first the highest
unfoldable pub bytes_of : ℕ → ℕ → List ℕ
bytes_of zero n = []
bytes_of (suc k) n = bytes_of k (n / 256) ++ ((n % 256) ∷ [])

pub bytes_length : (k n : ℕ) → length (bytes_of k n) ≡ k
unfolding bytes_of
bytes_length zero n = refl
bytes_length (suc k) n = omega (arith, length-append (bytes_of k (n / 256)) ((n % 256) ∷ []), bytes_length k (n / 256))

append_bytes : {s t : List ℕ} → Bytes s → Bytes t → Bytes (s ++ t)
append_bytes {s} {t} a b = record { small = λ j. go j (dec_lt j (length s)) }
  where
    go : (j : ℕ) → Dec (j < length s) → get_or (s ++ t) j 0 < 256
    go j (yes h) = rw (get_or-append s t 0 j h) (a.small j)
    go j (no n) = let e : length s + (j - length s) ≡ j = omega arith in rw (← e, get_or-append-add s t (j - length s) 0) (b.small (j - length s))

one_byte : (b : ℕ) → b < 256 → Bytes (b ∷ [])
one_byte b h = record { small = go }
  where
    go : (j : ℕ) → get_or (b ∷ []) j 0 < 256
    go zero = h
    go (suc j) = omega arith

pub bytes_are : (k n : ℕ) → Bytes (bytes_of k n)
unfolding bytes_of
bytes_are zero n = record { small = λ j. omega arith }
bytes_are (suc k) n = append_bytes (bytes_are k (n / 256)) (one_byte (n % 256) (omega arith))

-- a part of a longer list has the same number
number_front : (s t : List ℕ) (k : ℕ) → k ≤ length s → number_at (s ++ t) 0 k ≡ number_at s 0 k
number_front s t k h = number_same (s ++ t) s 0 0 k (λ j l. get_or-append s t 0 (0 + j) (omega arith))

pub bytes_number : (k n : ℕ) → n < 256 ^ k → number_at (bytes_of k n) 0 k ≡ n
unfolding bytes_of number_at
bytes_number zero n h = omega arith
bytes_number (suc k) n h =
    let p : n < 256 ^ k * 256 = rw pow-suc at h in
    let a = number_front (bytes_of k (n / 256)) ((n % 256) ∷ []) k (omega (arith, bytes_length k (n / 256))) in
    let b = bytes_number k (n / 256) (omega arith) in
    let c = get_or_at (bytes_of k (n / 256)) (n % 256) [] 0 (0 + k) (omega (arith, bytes_length k (n / 256))) in
    omega (arith, a, b, c)

-- the bytes of a list of digests
unfoldable pub list_of : List ℕ → List ℕ
list_of [] = []
list_of (p ∷ ps) = bytes_of 32 p ++ list_of ps

list_length : (ps : List ℕ) → length (list_of ps) ≡ 32 * length ps
unfolding list_of
list_length [] = refl
list_length (p ∷ ps) = omega (arith, length-append (bytes_of 32 p) (list_of ps), bytes_length 32 p, list_length ps)

list_are : (ps : List ℕ) → Bytes (list_of ps)
unfolding list_of
list_are [] = record { small = λ j. omega arith }
list_are (p ∷ ps) = append_bytes (bytes_are 32 p) (list_are ps)

list_number : (ps : List ℕ) → ((p : ℕ) → p ∈ ps → p < 256 ^ 32) → (k : ℕ) → k < length ps → number_at (list_of ps) (32 * k) 32 ≡ get_or ps k 0
unfolding list_of
list_number [] b k h = absurd (omega arith)
list_number (p ∷ ps) b zero h = number_front (bytes_of 32 p) (list_of ps) 32 (omega (arith, bytes_length 32 p)) ∙ bytes_number 32 p (b p (Memᴰ.head refl))
list_number (p ∷ ps) b (suc k) h =
    number_same (bytes_of 32 p ++ list_of ps) (list_of ps) (32 * suc k) (32 * k) 32 (λ j l.
    let e : length (bytes_of 32 p) + (32 * k + j) ≡ 32 * suc k + j = omega (arith, bytes_length 32 p) in
    rw (← e) (get_or-append-add (bytes_of 32 p) (list_of ps) (32 * k + j) 0))
    ∙ list_number ps (λ q m. b q (Memᴰ.tail m)) k (omega arith)

list_digests : (ps : List ℕ) → ((p : ℕ) → p ∈ ps → p < 256 ^ 32) → digests_of (list_of ps) ≡ ps
list_digests ps b =
    let e : length (list_of ps) / 32 ≡ length ps = omega (arith, list_length ps) in
    ext_get_or 0 (digests_of (list_of ps)) ps (row_length (length (list_of ps) / 32) (λ k. number_at (list_of ps) (32 * k) 32) ∙ e) (λ i h.
    let l : i < length (list_of ps) / 32 = omega (arith, row_length (length (list_of ps) / 32) (λ k. number_at (list_of ps) (32 * k) 32)) in
    row_at 0 (length (list_of ps) / 32) (λ k. number_at (list_of ps) (32 * k) 32) i l ∙ list_number ps b i (omega arith))

pub none_first : (cs : List (ℕ × Type 0)) → None cs → First cs 0
unfolding First
none_first [] n = refl
none_first (c ∷ cs) n = inr (n.0, none_first cs n.1)

-- o is offered to G by these bytes, and admission is done
pub record Offered (L : Limits) (G : List Op) (o : Op) : Type 0 where
  pub d : List ℕ
  pub m : List ℕ
  pub l : List ℕ
  pub bytes_d : Bytes d
  pub bytes_m : Bytes m
  pub bytes_l : Bytes l
  pub offered : AsOffered d o.kind m l o
  pub unheld : ¬ Held G (digest_of d)
  pub number : First (admission_refusals L ⊥ G d o.kind m l) 0

pub offer : (L : Limits) {G : List Op} {o : Op} → Formed G → Admissible G o → length o.preds ≤ L.predecessors → length G < L.operations → Offered L G o
offer L {G} {o} F A few room =
    record {
      d = bytes_of 32 o.digest;
      m = bytes_of 32 o.member;
      l = list_of o.preds;
      bytes_d = bytes_are 32 o.digest;
      bytes_m = bytes_are 32 o.member;
      bytes_l = list_are o.preds;
      offered = record { digest = sym digest; kind = refl; member = sym member; preds = record { ascending = A.proper.preds; into = λ p i. subst (λ x. p ∈ x) (sym list) i; back = λ p i. subst (λ x. p ∈ x) list i } };
      unheld = unheld;
      number = none_first (admission_refusals L ⊥ G (bytes_of 32 o.digest) o.kind (bytes_of 32 o.member) (list_of o.preds)) (
        (λ n. n shaped),
        ((λ h. omega (arith, list_length o.preds)), ((λ x. x), (unheld, ((λ r. r.1 (A.rooted (sym list ∙ r.0))), ((λ u. u.lacks (A.known u.which (subst (λ x. u.which ∈ x) list u.stands))), ((λ h. omega arith), tt)))))),
      );
    }
  where
    digest : digest_of (bytes_of 32 o.digest) ≡ o.digest
    digest = bytes_number 32 o.digest A.proper.digest

    member : digest_of (bytes_of 32 o.member) ≡ o.member
    member = bytes_number 32 o.member A.proper.member

    small : (p : ℕ) → p ∈ o.preds → p < 256 ^ 32
    small p i = let h = A.known p i in let t = in_at no_op h.stands in rw (← h.named, ← t.2) (F.proper t.0 t.1).digest

    list : digests_of (list_of o.preds) ≡ o.preds
    list = list_digests o.preds small

    unheld : ¬ Held G (digest_of (bytes_of 32 o.digest))
    unheld h = A.fresh (subst (Held G) digest h)

    shaped : Shaped (bytes_of 32 o.digest) o.kind (bytes_of 32 o.member) (list_of o.preds)
    shaped = record { digest = bytes_length 32 o.digest; member = bytes_length 32 o.member; list = omega (arith, list_length o.preds); kind = A.proper.kind; zero = λ n. member ∙ A.proper.zero n }

-- admission of such an offer is done, and leaves o last
pub offer_admits : (L : Limits) {G : List Op} {o : Op} → Formed G → Admissible G o → (w : Offered L G o) → (us : List ℕ) × Admits (admission_refusals L ⊥ G w.d o.kind w.m w.l) G w.d o.kind w.m w.l (G ++ (o ∷ [])) 0 false us
offer_admits L {G} {o} F A w =
    let r = set_is (MadeChainable G o) (made? o F (formed_more F A)) (digests_in G) (λ u m. held_in_digests m.was.update.held) in
    (r.0, new_admits w.number w.unheld w.offered r.1)
