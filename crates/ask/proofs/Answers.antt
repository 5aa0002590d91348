-- The questions answered by the places of a store, and the parts of it that are given.
-- Assumes nothing.
use Prim.Native.Nat.{ℕ, ◌/◌, ◌<◌}
use native.Mathlib.Omega.{arith}
use mathlib.Core.Path.{◌≡◌, refl, sym, ◌∙◌, ap, subst}
use mathlib.Core.Logic.{◌⊎◌, inl, inr}
use mathlib.Core.List.Memᴰ
use mathlib.Core.List.{List, [], ◌∷◌}
use lib.ListN.{length}
use lib.Dec.{eqb}
use Rattle.rules.specs.Answers.{Says, Parted}
use Rattle.rules.specs.Bytes.{digest_of, digests_of}
use Rattle.rules.specs.First.{First}
use Rattle.rules.specs.Graph.{Op, Held, Ancestor, near, far, InPast, itself, before}
use Rattle.rules.specs.Lists.{◌∈◌}
use Rattle.rules.specs.Small.{AllHeld, AddBefore, Added}
use Rattle.rules.proofs.Answers.{says_same, says_equal}
use Rattle.rules.proofs.Bytes.{row_in, in_row}
use Rattle.rules.proofs.First.{first_unique}
use Rattle.rules.proofs.Past.{held?}
use Rattle.store.specs.Layout.{count_of, digest_at, member_at, kind_at, op_of, ops_of}
use Rattle.store.specs.declared.graph.Graph.{Graph}
use Rattle.digest.specs.Lists.{nth}
use Rattle.refusal.specs.Damage.{GraphOf}
use Rattle.rules.proofs.Numbers.{code_some}
use Rattle.rules.specs.Numbers.{code}
use Rattle.rules.specs.declared.Refusal.{Refusal}
use Rattle.walk.specs.Held.{Sized, UnheldAmong}
use Rattle.walk.proofs.Painting.{large_ready}
use Rattle.walk.proofs.Places.{held_at, op_here}

-- what has an ancestor is held
ancestor_held : {G : List Op} {a d : ℕ} → Ancestor G a d → Held G d
ancestor_held (near k) = record { op = k.op; stands = k.stands; named = k.named }
ancestor_held (far k a) = record { op = k.op; stands = k.stands; named = k.named }

pub add_before_held : {G : List Op} {member d : ℕ} → AddBefore G member d → Held G d
add_before_held {G} {member} {d} a = go a.past
  where
    only : {x : ℕ} → x ∈ d ∷ [] → x ≡ d
    only {x} m = first (Memᴰ.cases_cons m)
      where
        first : (x ≡ d) ⊎ (x ∈ []) → x ≡ d
        first (inl e) = e
        first (inr n) = absurd (Memᴰ.not-nil n)

    go : InPast G (d ∷ []) a.op.digest → Held G d
    go (itself m) = record { op = a.op; stands = a.stands; named = only m }
    go (before m p) = subst (Held G) (only m) (ancestor_held p)

-- none missing, all held
pub missing_says : {s l : List ℕ} {r : ℕ} → Sized (UnheldAmong s l (length l / 32)) r → Says (eqb r 0) (AllHeld (ops_of s) (digests_of l))
missing_says {s} {l} {r} w = says_same (eqb r 0) into (λ a. back a w.members w.all.into w.counted) (says_equal r 0)
  where
    none : r ≡ 0 → (xs : List ℕ) → length xs ≡ r → (d : ℕ) → ¬ (d ∈ xs)
    none e [] q d m = Memᴰ.not-nil m
    none e (x ∷ xs) q d m = omega arith

    into : r ≡ 0 → AllHeld (ops_of s) (digests_of l)
    into e = record { each = λ d m. go d m (held? (ops_of s) d) }
      where
        go : (d : ℕ) → d ∈ digests_of l → Dec (Held (ops_of s) d) → Held (ops_of s) d
        go d m (yes h) = h
        go d m (no n) =
            let t = in_row 0 (length l / 32) (nth l) d m in
            absurd (none e w.members w.counted d (w.all.back d (record { among = record { place = t.0; within = t.1; there = t.2 }; lacks = n })))

    back : AllHeld (ops_of s) (digests_of l) → (xs : List ℕ) → ((d : ℕ) → d ∈ xs → UnheldAmong s l (length l / 32) d) → length xs ≡ r → r ≡ 0
    back a [] f q = sym q
    back a (x ∷ xs) f q =
        let k = f x (Memᴰ.head refl) in
        absurd (k.lacks (a.each x (subst (λ d. d ∈ digests_of l) k.among.there (row_in 0 (length l / 32) (nth l) k.among.place k.among.within))))

-- a held add, where its place in the store's graph is known
module _ {s : List ℕ} {g : Graph} (p : GraphOf s g) {d i : ℕ} (l : i < count_of g.bytes.now) (e : digest_at g.bytes.now i ≡ d) where
  here : i < count_of s
  here = rw p.bytes at l

  named : digest_at s i ≡ d
  named = rw p.bytes at e

  pub added_here : kind_at g.bytes.now i ≡ 0 → Added (ops_of s) d (member_at s i)
  added_here k = subst (λ x. Added (ops_of s) x (member_at s i)) named (record { held = held_at (large_ready p.sound) i here; add = rw p.bytes at k; adds = refl })

  stands_here : {m : ℕ} (a : Added (ops_of s) d m) → op_of s i ≡ a.held.op
  stands_here a = sym (op_here (large_ready p.sound) i here a.held.stands (a.held.named ∙ sym named))

  pub added_kind : {m : ℕ} → Added (ops_of s) d m → kind_at g.bytes.now i ≡ 0
  added_kind a = rw p.bytes (ap (λ o. o.kind) (stands_here a) ∙ a.add)

  pub added_member : {m : ℕ} → Added (ops_of s) d m → member_at s i ≡ m
  added_member a = ap (λ o. o.member) (stands_here a) ∙ a.adds

-- the empty part, and a part that is given
pub parted_none : {rs : List (ℕ × Type 0)} {P : ℕ → Type 0} → (First rs 0 → (x : ℕ) → ¬ P x) → Parted rs P []
parted_none n = record { given = λ f x p. absurd (n f x p); lacking = λ f x. refl; refused = λ f. refl }

pub parted_refused : {rs : List (ℕ × Type 0)} {P : ℕ → Type 0} (e : Refusal) → First rs (code e) → Parted rs P []
parted_refused {rs} e f = parted_none (λ g x p. code_some e (first_unique rs f g))

pub parted_some : {rs : List (ℕ × Type 0)} {P : ℕ → Type 0} {t : List ℕ} {y : ℕ} → First rs 0 → (length t ≡ 32) × (digest_of t ≡ y) → P y → ((x : ℕ) → P x → y ≡ x) → Parted rs P t
parted_some {y = y} f t p only = record { given = λ g x q. (t.0, t.1 ∙ only x q); lacking = λ g n. absurd (n y p); refused = λ n. absurd (n f) }
