-- An offer that is tested, with the list of the updates that it makes chainable.
-- Assumes nothing.
use Prim.Native.Nat.{ℕ, ◌/◌, ◌≤◌}
use native.Mathlib.Omega.{arith}
use mathlib.Core.Path.{◌≡◌, refl, sym, subst}
use mathlib.Core.Bool.{true, false, true≢false}
use mathlib.Core.Logic.{◌↔◌, ⊎_elim}
use mathlib.Core.List.{List, [], ◌∷◌}
use lib.ListN.{length}
use Rattle.std.specs.Prelude.{Result, Ok, Option, IsErrAnd}
use Rattle.rules.specs.Admission.{AsOffered, Admissible, MadeChainable, NewlyChainable, admission_refusals}
use Rattle.rules.specs.Answers.{NoRoom, Listed}
use Rattle.rules.specs.Bytes.{Bytes, digest_of, digests_of}
use Rattle.rules.specs.First.{First}
use Rattle.rules.specs.Graph.{Op, Held}
use Rattle.rules.specs.Lists.{◌∈◌, SetOf}
use Rattle.rules.specs.Numbers.{code, number_of}
use Rattle.rules.specs.declared.Refusal.{Refusal}
use Rattle.rules.specs.Small.{store_refusals}
use Rattle.rules.specs.Table.{limits, Shaped}
use Rattle.rules.proofs.Admission.{as_offered_unique, offered_admissible}
use Rattle.rules.proofs.Answers.{first_none, put_nothing, no_room_same}
use Rattle.rules.proofs.Chainable.{not_chainable, made_nearest, nearest_made}
use Rattle.rules.proofs.Formed.{Formed}
use Rattle.rules.proofs.First.{None, first_unique, first_here, first_next, first_past, first_stays, first_clear, first_moves}
use Rattle.rules.proofs.Lists.{set_same, set_unique}
use Rattle.store.specs.Layout.{count_of, ops_of}
use Rattle.store.specs.Slots.{Gathering}
use Rattle.store.specs.Sound.{Sound}
use Rattle.store.proofs.Ops.{sound_formed}
use Rattle.store.proofs.Slots.{slotted_set}
use Rattle.order.specs.Sorted.{digests_at}
use Rattle.refusal.specs.Damage.{Damaged, Tested}
use Rattle.admission.specs.Marks.{Made, Worked}
use Rattle.rules.proofs.Numbers.{code_some}
use Rattle.refusal.proofs.Refusals.{handed_on, tested_next}
use Rattle.admission.specs.Offers.{input_refusals, new_refusals, known_of, Begun, Fits, slots_of, listed_of, Tries, WorkedFor}
use Rattle.admission.specs.declared.tried.Tried.{Tried}
use Rattle.admission.proofs.Offering.{begun_none}

-- an operation with these predecessors is the one that is offered, where they are the set of the digests of the list
pub set_offered : {l ds : List ℕ} (d : List ℕ) (k : ℕ) (m : List ℕ) → SetOf (λ p. p ∈ digests_of l) ds → AsOffered d k m l (record { digest = digest_of d; kind = k; member = digest_of m; preds = ds })
set_offered d k m D = record { digest = refl; kind = refl; member = refl; preds = D }

module _ {s d m l p q : List ℕ} {k : ℕ} where
  pub tries : {o : List ℕ} (e : Refusal) → First (admission_refusals limits (Damaged s) (ops_of s) d k m l) (code e) → Begun s l p q → Tries s d k m l p q o o (code e) false 0 0
  tries {o} e f b =
      record {
        number = first_stays (admission_refusals limits (Damaged s) (ops_of s) d k m l) ((9, NoRoom (NewlyChainable (ops_of s) d k m l) o) ∷ []) (code e) (code_some e) f;
        known = λ x. code_some e x.0;
        begun = b;
        sound = λ x. absurd (code_some e x);
        gathered = λ x. absurd (code_some e x);
        us = [];
        answers = λ x. absurd (code_some e x);
        none = λ x. refl;
        counted = refl;
        put = put_nothing;
      }

  -- the offer is refused, and nothing is listed
  pub refused : {w h z o : List ℕ} (e : Refusal) (r : Result (Option Tried) Refusal) → IsErrAnd r (λ y. y ≡ e) → First (admission_refusals limits (Damaged s) (ops_of s) d k m l) (code e) → Begun s l p q → Tries s d k m l p q o o (number_of r) (known_of r) (slots_of r) (listed_of r) × WorkedFor s d k m l (known_of r) w w h h z z
  refused e r x f b = rw (handed_on r x) (tries e f b, record { new = λ g. absurd (code_some e (first_unique _ f g)); other = λ y. (refl, refl, refl) })

-- the arguments or the store are
pub refused_input : {s d m l p w h z o : List ℕ} {k : ℕ} (e : Refusal) (r : Result (Option Tried) Refusal) → IsErrAnd r (λ y. y ≡ e) → First (input_refusals s d k m l) (code e) → Tries s d k m l p p o o (number_of r) (known_of r) (slots_of r) (listed_of r) × WorkedFor s d k m l (known_of r) w w h h z z
refused_input {s} {d} {m} {l} {p} {k = k} e r x f = refused e r x (first_stays (input_refusals s d k m l) ((0, Held (ops_of s) (digest_of d)) ∷ new_refusals s k l) (code e) (code_some e) f) (begun_none s l p)

-- an offer of the right shape is refused by the store alone
pub shaped_input : {A : Type 0} {P : A → Type 0} {s d m l : List ℕ} {k : ℕ} {r : Result A Refusal} → Shaped d k m l × (length l / 32 ≤ 16) → Tested (store_refusals (Damaged s)) P r → Tested (input_refusals s d k m l) P r
shaped_input S t = tested_next (λ n. n S.0) (tested_next (λ n. omega (arith, n, S.1)) t)

-- the arguments and the store are not refused
module _ {A : Type 0} {P : A → Type 0} {x : A} {s d m l : List ℕ} {k : ℕ} (T : Tested (input_refusals s d k m l) P (Ok x)) (S : Sound limits s) where
  input : None (input_refusals s d k m l)
  input = first_none _ 0 (omega arith) T.number

  pub known : {p o w h z : List ℕ} → Held (ops_of s) (digest_of d) → Tries s d k m l p p o o 0 true 0 0 × WorkedFor s d k m l true w w h h z z
  known {p} held = (
    record {
      number = first_past (input_refusals s d k m l) _ 0 input (first_here 0 _ _ held);
      known = (refl, held);
      begun = begun_none s l p;
      sound = λ e. S;
      gathered = λ e f. absurd (true≢false f);
      us = [];
      answers = λ e f. absurd (true≢false f);
      none = λ x. refl;
      counted = refl;
      put = put_nothing;
    },
    record { new = λ f e. absurd (true≢false e); other = λ y. (refl, refl, refl) },
  )

  -- the digest is new
  module _ (unheld : ¬ Held (ops_of s) (digest_of d)) where
    new_number : (n : ℕ) → First (new_refusals s k l) n → First (admission_refusals limits (Damaged s) (ops_of s) d k m l) n
    new_number n f = first_past (input_refusals s d k m l) _ n input (first_next 0 _ _ n unheld f)

    pub refused_new : {p q w h z o : List ℕ} {c : ℕ} (e : Refusal) (r : Result (Option Tried) Refusal) → IsErrAnd r (λ y. y ≡ e) → Fits s k l p q (code e) c → Tries s d k m l p q o o (number_of r) (known_of r) (slots_of r) (listed_of r) × WorkedFor s d k m l (known_of r) w w h h z z
    refused_new e r x F = refused e r x (new_number (code e) F.number) F.begun

    module _ {p q : List ℕ} {c : ℕ} (F : Fits s k l p q 0 c) where
      number : First (admission_refusals limits (Damaged s) (ops_of s) d k m l) 0
      number = new_number 0 F.number

      none : None (admission_refusals limits (Damaged s) (ops_of s) d k m l)
      none = first_clear (admission_refusals limits (Damaged s) (ops_of s) d k m l) [] (search unheld) number

      slots : Gathering s (count_of s) l p q (length l / 32) c
      slots = F.gathered refl

      worked_new : {w w' h h' z z' : List ℕ} → Worked s (digests_at s q c) k w w' h h' z z' → WorkedFor s d k m l false w w' h h' z z'
      worked_new {w} {w'} {h} {h'} {z} {z'} W = record { new = λ f e xs D. subst (λ x. Worked s x k w w' h h' z z') (set_unique (slotted_set slots.slots) D) W; other = ⊎_elim (λ n. absurd (n number)) (λ e. absurd (true≢false (sym e))) }

      module _ (bd : Bytes d) (bm : Bytes m) where
        op : Op
        op = record { digest = digest_of d; kind = k; member = digest_of m; preds = digests_at s q c }

        new_op : AsOffered d k m l op
        unfolding op
        new_op = set_offered d k m (slotted_set slots.slots)

        admissible : Admissible (ops_of s) op
        admissible = offered_admissible limits (Damaged s) (ops_of s) d k m l [] bd bm unheld number new_op

        -- the nearest updates of the predecessors that were latest are those made chainable
        made_newly : (u : ℕ) → Made s (digests_at s q c) k u ↔ NewlyChainable (ops_of s) d k m l u
        unfolding op
        made_newly u = (into, back)
          where
            F' : Formed (ops_of s)
            F' = sound_formed S

            into : Made s (digests_at s q c) k u → NewlyChainable (ops_of s) d k m l u
            into x = record { op = op; offered = new_op; made = nearest_made F' admissible x.update x.passed.nearest (not_chainable F' x.passed.nearest.update x.passed.latest) }

            back : NewlyChainable (ops_of s) d k m l u → Made s (digests_at s q c) k u
            back y =
                let z = subst (λ o. MadeChainable (ops_of s) o u) (as_offered_unique y.offered new_op) y.made in
                record { update = z.update; passed = record { nearest = made_nearest F' admissible z; latest = λ x. x.passed z.was } }

        -- c' places are answered where the list is written
        tries_new : {o t : List ℕ} {n c' u : ℕ} → Listed [] (Made s (digests_at s q c) k) o t n u → (n ≡ 0 → Gathering s (count_of s) l p q (length l / 32) c') → Tries s d k m l p q o t n false c' u
        tries_new {o} {t} {n} {c'} {u} L G =
            record {
              number = first_past (admission_refusals limits (Damaged s) (ops_of s) d k m l) _ n none (first_moves ((9, NoRoom (Made s (digests_at s q c) k) o) ∷ []) ((9, NoRoom (NewlyChainable (ops_of s) d k m l) o) ∷ []) n (refl, (no_room_same made_newly, no_room_same (λ x. ((made_newly x).1, (made_newly x).0))), λ x. tt) L.number);
              known = λ x. unheld x.1;
              begun = F.begun;
              sound = λ e. S;
              gathered = λ e f. G e;
              us = L.ds;
              answers = λ e f. set_same made_newly (L.done e);
              none = ⊎_elim L.refused (λ e. absurd (true≢false (sym e)));
              counted = L.counted;
              put = L.put;
            }

        -- the list is written, or there is no room for it
        module _ {o t w w' h h' z z' : List ℕ} (W : Worked s (digests_at s q c) k w w' h h' z z') where
          pub written : {u : ℕ} → Listed [] (Made s (digests_at s q c) k) o t 0 u → Tries s d k m l p q o t 0 false c u × WorkedFor s d k m l false w w' h h' z z'
          written L = (tries_new L (λ e. slots), worked_new W)

          pub unwritten : (e : Refusal) (r : Result (Option Tried) Refusal) → IsErrAnd r (λ y. y ≡ e) → Listed [] (Made s (digests_at s q c) k) o t (code e) 0 → Tries s d k m l p q o t (number_of r) (known_of r) (slots_of r) (listed_of r) × WorkedFor s d k m l (known_of r) w w' h h' z z'
          unwritten e r x L = rw (handed_on r x) (tries_new L (λ y. absurd (code_some e y)), worked_new W)
