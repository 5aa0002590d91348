-- From a trial to admission: refused, known, or written.
-- Assumes nothing.
use Prim.Native.Nat.{ℕ, ◌/◌, ◌≤◌, ◌<◌}
use native.Mathlib.Omega.{arith}
use mathlib.Core.Path.{◌≡◌, refl, sym, ◌∙◌, subst}
use mathlib.Core.Bool.{Bool, true, false, true≢false}
use mathlib.Core.Logic.{◌⊎◌, ⊎_elim}
use mathlib.Core.List.{List, [], ◌∷◌}
use lib.ListN.{length, take}
use Rattle.rules.specs.Admission.{AsOffered, NewlyChainable, MadeChainable, Admits, admission_refusals, add_op_refusals}
use Rattle.rules.specs.Answers.{NoRoom}
use Rattle.rules.specs.Bytes.{Bytes, digest_of}
use Rattle.rules.specs.Graph.{Op, Held}
use Rattle.rules.specs.Table.{limits}
use Rattle.rules.proofs.Admission.{as_offered_unique, new_admits, offered_admissible, offered_few, offered_room}
use Rattle.rules.proofs.First.{None, first_clear}
use Rattle.rules.proofs.Lists.{set_same}
use Rattle.store.specs.Layout.{count_of, ops_of}
use Rattle.store.specs.Slots.{Gathering}
use Rattle.store.specs.Sound.{admit, Admitted}
use Rattle.store.specs.Writes.{offered}
use Rattle.store.proofs.Ops.{ops_length}
use Rattle.store.proofs.Slots.{slotted_set}
use Rattle.order.proofs.Sorting.{digests_front}
use Rattle.refusal.specs.Damage.{Damaged}
use Rattle.admission.specs.Adds.{AddsOp}
use Rattle.admission.specs.Offers.{Tries}
use Rattle.admission.proofs.Trying.{set_offered}

module _ {s d m l p q o t : List ℕ} {k : ℕ} where
  -- a trial that refuses, or finds the digest known, is all of the admission
  pub adds_nothing : {n c u : ℕ} {b : Bool} → Tries s d k m l p q o t n b c u → (¬ (n ≡ 0)) ⊎ (b ≡ true) → AddsOp s d k m l o s t n b u
  adds_nothing T x =
      record {
        updates = T.us;
        admits = record { number = T.number; known = T.known; new = λ z f. absurd (⊎_elim (λ n. n z) (λ e. true≢false (sym e ∙ f)) x); same = λ y. (refl, T.none y) };
        counted = T.counted;
        put = T.put;
        untouched = λ y. refl;
        sound = T.sound;
        admitted = λ z f. absurd (⊎_elim (λ n. n z) (λ e. true≢false (sym e ∙ f)) x);
      }

  module _ {c u : ℕ} (T : Tries s d k m l p q o t 0 false c u) where
    unheld : ¬ Held (ops_of s) (digest_of d)
    unheld h = T.known (refl, h)

    none : None (admission_refusals limits (Damaged s) (ops_of s) d k m l)
    none = first_clear (admission_refusals limits (Damaged s) (ops_of s) d k m l) ((9, NoRoom (NewlyChainable (ops_of s) d k m l) o) ∷ []) (search unheld) T.number

    slots : Gathering s (count_of s) l p q (length l / 32) c
    slots = T.gathered refl refl

    -- there is room
    pub add_room : count_of s < 512
    add_room = omega (arith, none.1.1.1.1.1.1.0, ops_length s)

    add_few : c ≤ 16
    add_few = omega (arith, slots.slots.few, none.1.0)

    module _ (room : 16 ≤ length p) where
      add_within : c ≤ length q
      add_within = omega (arith, add_few, slots.size)

      op : Op
      op = offered s d k m (take c q)

      new_op : AsOffered d k m l op
      unfolding op
      new_op = set_offered d k m (rw (digests_front s q c add_within) (slotted_set slots.slots))

      pub adds_new : {s' : List ℕ} → Bytes d → Bytes m → Admitted limits s (offered s d k m (take c q)) s' → AddsOp s d k m l o s' t 0 false u
      unfolding op
      adds_new {s'} bd bm A =
          record {
            updates = T.us;
            admits = subst (λ K. Admits (add_op_refusals limits (Damaged s) (ops_of s) d k m l o) (ops_of s) d k m l K 0 false T.us) (sym A.ops) (new_admits T.number unheld new_op (set_same (λ x. (into x, back x)) (T.answers refl refl)));
            counted = T.counted;
            put = T.put;
            untouched = ⊎_elim (λ z. absurd (z refl)) (λ e. absurd (true≢false (sym e)));
            sound = λ e. admit (T.sound refl) (offered_admissible limits (Damaged s) (ops_of s) d k m l ((9, NoRoom (NewlyChainable (ops_of s) d k m l) o) ∷ []) bd bm unheld T.number new_op) (offered_few limits (Damaged s) (ops_of s) d k m l ((9, NoRoom (NewlyChainable (ops_of s) d k m l) o) ∷ []) bd bm unheld T.number new_op) (offered_room limits (Damaged s) (ops_of s) d k m l ((9, NoRoom (NewlyChainable (ops_of s) d k m l) o) ∷ []) bd bm unheld T.number new_op) A;
            admitted = λ e f x a. subst (λ y. Admitted limits s y s') (as_offered_unique new_op a) A;
          }
        where
          into : (x : ℕ) → NewlyChainable (ops_of s) d k m l x → MadeChainable (ops_of s) op x
          into x y = subst (λ z. MadeChainable (ops_of s) z x) (as_offered_unique y.offered new_op) y.made

          back : (x : ℕ) → MadeChainable (ops_of s) op x → NewlyChainable (ops_of s) d k m l x
          back x y = record { op = op; offered = new_op; made = y }
