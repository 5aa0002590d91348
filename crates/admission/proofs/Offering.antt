-- The tests of an offer, put together.
-- Assumes nothing.
use Prim.Native.Nat.{ℕ, ◌*◌, ◌/◌, ◌%◌, ◌≤◌, ◌<◌}
use native.Mathlib.Omega.{arith}
use mathlib.Core.Path.{◌≡◌, refl, ◌∙◌, ap, subst}
use mathlib.Core.List.{List, [], ◌∷◌}
use lib.ListN.{length, get_or}
use Rattle.rules.specs.Bytes.{number_at, digests_of}
use Rattle.rules.specs.Graph.{Held, Unheld}
use Rattle.rules.proofs.Bytes.{row_length, row_in, in_row}
use Rattle.rules.proofs.First.{first_done, first_here, first_next}
use Rattle.store.specs.Layout.{count_of, ops_of}
use Rattle.store.specs.Slots.{Slotted, Gathering, Lacking}
use Rattle.store.proofs.Ops.{ops_length}
use Rattle.store.proofs.Slots.{gathering_none}
use Rattle.walk.specs.Marks.{Ready}
use Rattle.walk.proofs.Places.{held_at, place_of}
use Rattle.admission.specs.Offers.{Begun, Fits}

digests_length : (l : List ℕ) → length (digests_of l) ≡ length l / 32
digests_length l = row_length (length l / 32) (λ k. number_at l (32 * k) 32)

empty : (xs : List ℕ) → length xs ≡ 0 → xs ≡ []
empty [] e = refl
empty (x ∷ xs) e = absurd (omega arith)

-- a list without bytes has no digests, and the other way round
pub no_bytes : (l : List ℕ) → length l ≡ 0 → digests_of l ≡ []
no_bytes l e = empty (digests_of l) (omega (arith, digests_length l))

pub no_digests : (l : List ℕ) → length l % 32 ≡ 0 → digests_of l ≡ [] → length l ≡ 0
no_digests l z e = omega (arith, digests_length l, ap length e)

pub begun_none : (s l p : List ℕ) → Begun s l p p
begun_none s l p = record { digests = 0; slots = 0; gathering = gathering_none s (count_of s) l p }

-- only an add has no predecessors
pub fits_rootless : {s l p : List ℕ} {k : ℕ} → (digests_of l ≡ []) × (¬ (k ≡ 0)) → Fits s k l p p 4 0
fits_rootless {s} {l} {p} x = record { number = first_here _ _ _ x; begun = begun_none s l p; gathered = λ e. absurd (omega arith) }

module _ {s : List ℕ} {r : ℕ} (R : Ready s r) {l : List ℕ} where
  -- digests that have their slots are held
  slotted_held : {q : List ℕ} {c : ℕ} → Slotted s (count_of s) l q (length l / 32) c → ¬ Unheld (ops_of s) (digests_of l)
  slotted_held {q} S u =
      let a = in_row 0 (length l / 32) (λ k. number_at l (32 * k) 32) u.which u.stands in
      let x = S.back a.0 a.1 in
      u.lacks (subst (Held (ops_of s)) (x.2 ∙ a.2) (held_at R (get_or q x.0 0) (S.within x.0 x.1)))

  lacking_unheld : {p q : List ℕ} → Lacking s (count_of s) l p q → Unheld (ops_of s) (digests_of l)
  lacking_unheld L =
      record {
        which = number_at l (32 * L.nth) 32;
        stands = row_in 0 (length l / 32) (λ k. number_at l (32 * k) 32) L.nth L.within;
        lacks = λ h. let a = place_of R h.stands in L.lacks a.0 a.1 (ap (λ o. o.digest) a.2 ∙ h.named);
      }

  -- a new operation with predecessors, or an add, is tested
  module _ {p q : List ℕ} {k : ℕ} (n : ¬ ((digests_of l ≡ []) × (¬ (k ≡ 0)))) where
    pub fits_lacking : Lacking s (count_of s) l p q → Fits s k l p q 5 0
    fits_lacking L =
        record {
          number = first_next _ _ _ _ n (first_here _ _ _ (lacking_unheld L));
          begun = record { digests = L.nth; slots = L.slots; gathering = L.before };
          gathered = λ e. absurd (omega arith);
        }

    module _ {c : ℕ} (G : Gathering s (count_of s) l p q (length l / 32) c) where
      held : ¬ Unheld (ops_of s) (digests_of l)
      held = slotted_held G.slots

      pub fits_full : 512 ≤ count_of s → Fits s k l p q 6 0
      fits_full f =
          record {
            number = first_next _ _ _ _ n (first_next _ _ _ _ held (first_here _ _ _ (omega (arith, ops_length s))));
            begun = record { digests = length l / 32; slots = c; gathering = G };
            gathered = λ e. absurd (omega arith);
          }

      pub fits_done : count_of s < 512 → Fits s k l p q 0 c
      fits_done f =
          record {
            number = first_next _ _ _ _ n (first_next _ _ _ _ held (first_next _ _ _ _ (λ x. omega (arith, x, ops_length s)) first_done));
            begun = record { digests = length l / 32; slots = c; gathering = G };
            gathered = λ e. G;
          }
