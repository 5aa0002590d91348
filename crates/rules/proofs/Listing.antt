-- The replay program's text is one, and the same for graphs with the same operations.
-- Assumes nothing.
use Prim.Native.Nat.{ℕ, suc, ◌+◌, ◌<◌}
use native.Mathlib.Omega.{arith}
use native.Mathlib.Decide.{dec_lt}
use mathlib.Core.Path.{◌≡◌, refl, sym, ◌∙◌, ap, subst}
use mathlib.Core.List.{List, [], ◌++◌}
use lib.ListN.{length, get_or, drop, length-take, get_or-eq_default}
use lib.Seq.{get_or-take, get_or-drop}
use Rattle.rules.specs.Admission.{Grown, fresh}
use Rattle.rules.specs.Batches.{Batches, batch_count}
use Rattle.rules.specs.Bytes.{Bytes, part}
use Rattle.rules.specs.Graph.{Op}
use Rattle.rules.specs.Listing.{record_line, ops_line, op_line, OpLines, no_lines, one_line, Listing, AllAdmitted, no_records, next_record, Replayed, bad_log, good_log}
use Rattle.rules.specs.Lists.{Alike}
use Rattle.rules.specs.Log.{record_digest, record_kind, record_member, record_preds}
use Rattle.rules.specs.Table.{Limits}
use Rattle.rules.proofs.Admission.{admits_unique, admits_grown}
use Rattle.rules.proofs.Batches.{batches_unique}
use Rattle.rules.proofs.Depths.{depth_unique}
use Rattle.rules.proofs.Formed.{Formed, one_op}
use Rattle.rules.proofs.Growth.{grown_formed}
use Rattle.rules.proofs.Lists.{set_unique, set_same, alike_refl, alike_sym}
use Rattle.rules.proofs.Log.{good_unique}
use Rattle.rules.proofs.Same.{held_in, depth_in, head_same, batches_same, length_same}

pub part_bytes : (s : List ℕ) (p k : ℕ) → Bytes s → Bytes (part s p k)
part_bytes s p k a = record { small = λ j. go j (dec_lt j k) }
  where
    go : (j : ℕ) → Dec (j < k) → get_or (part s p k) j 0 < 256
    go j (yes h) = rw (get_or-take k (drop p s) j 0 h, get_or-drop p s j 0) (a.small (p + j))
    go j (no n) = rw (get_or-eq_default (part s p k) 0 {n = j} (omega (arith, length-take k (drop p s)))) (omega arith)

lines_unique : {G : List Op} {b : ℕ} {ds ms t u : List ℕ} → Formed G → OpLines G b ds ms t → OpLines G b ds ms u → t ≡ u
lines_unique F no_lines no_lines = refl
lines_unique {b = b} F (one_line {m = m} {d = d} {t = t} h k r) (one_line {t = u} h' k' r') = go (depth_unique F k k') (one_op F h.stands h'.stands (h.named ∙ sym h'.named)) (lines_unique F r r')
  where
    go : {i j : ℕ} → i ≡ j → h.op ≡ h'.op → t ≡ u → op_line (b + m) i h.op.kind d ++ t ≡ op_line (b + m) j h'.op.kind d ++ u
    go e o l = cc

lines_in : {G H : List Op} {b : ℕ} {ds ms t : List ℕ} → Alike G H → OpLines G b ds ms t → OpLines H b ds ms t
lines_in e no_lines = no_lines
lines_in e (one_line h k r) = one_line (held_in e.into h) (depth_in e.into k) (lines_in e r)

pub listing_unique : {G : List Op} {t u : List ℕ} → Formed G → Listing G t → Listing G u → t ≡ u
listing_unique {G} {t} {u} F p q =
    let h : p.heads ≡ q.heads = set_unique p.all q.all in
    let b = batches_unique F p.batches (subst (λ x. Batches G x q.ds q.marks) (sym h) q.batches) in
    let l : p.lines ≡ q.lines = lines_unique F p.each (subst (λ x. OpLines G 0 x p.marks q.lines) (sym b.0) (subst (λ x. OpLines G 0 q.ds x q.lines) (sym b.1) q.each)) in
    p.whole ∙ ap (λ x. ops_line (length G) (length x) (batch_count p.marks) ++ p.lines) h ∙ ap (λ x. ops_line (length G) (length q.heads) (batch_count x) ++ p.lines) b.1 ∙ ap (λ x. ops_line (length G) (length q.heads) (batch_count q.marks) ++ x) l ∙ sym q.whole

pub listing_same : {G H : List Op} {t : List ℕ} → Formed G → Formed H → Alike G H → Listing G t → Listing H t
listing_same {G} {H} F F' e p =
    record {
      heads = p.heads;
      all = set_same (λ d. (head_same e, head_same (alike_sym e))) p.all;
      ds = p.ds;
      marks = p.marks;
      batches = batches_same e (alike_refl p.heads) p.batches;
      lines = p.lines;
      each = lines_in e p.each;
      whole = p.whole ∙ ap (λ n. ops_line n (length p.heads) (batch_count p.marks) ++ p.lines) (length_same F F' e);
    }

all_admitted_unique : {L : Limits} {s : List ℕ} {n : ℕ} {ps t u : List ℕ} {G K M : List Op} → AllAdmitted L s n ps G K t → AllAdmitted L s n ps G M u → (K ≡ M) × (t ≡ u)
all_admitted_unique no_records no_records = (refl, refl)
all_admitted_unique {L} {s} {n} (next_record {r = r} {ps = ps} {t = t} {H = H} a x) (next_record {r = r'} {t = u} {H = H'} {K = M} b y) =
    let e = admits_unique a.admits b.admits in
    let z = all_admitted_unique x (subst (λ A. AllAdmitted L s (suc n) ps A M u) (sym e.0) y) in
    (z.0, ap (λ i. record_line n i ++ t) e.1 ∙ ap (λ l. record_line n r' ++ l) z.1)

pub all_admitted_grown : {L : Limits} {s : List ℕ} {n : ℕ} {ps t : List ℕ} {G K : List Op} → Bytes s → Grown L G → AllAdmitted L s n ps G K t → Grown L K
all_admitted_grown b g no_records = g
all_admitted_grown {L} {s} b g (next_record {p = p} {G = G} a x) = all_admitted_grown b (admits_grown L ⊥ G (record_digest s p) (record_kind s p) (record_member s p) (record_preds s p) [] g (part_bytes s p 32 b) (part_bytes s (p + 33) 32 b) a.admits) x

pub replayed_unique : {L : Limits} {s t u : List ℕ} → Bytes s → Replayed L s t → Replayed L s u → t ≡ u
replayed_unique b (bad_log x) (bad_log y) = refl
replayed_unique b (bad_log x) (good_log {ps = ps} g y z) = absurd (x.bad ps g)
replayed_unique b (good_log {ps = ps} g y z) (bad_log x) = absurd (x.bad ps g)
replayed_unique {L} {s} b (good_log {t = t} {u = u} {G = G} g x y) (good_log {t = t'} {u = u'} {G = H} g' x' y') =
    let r = all_admitted_unique x (subst (λ l. AllAdmitted L s 1 l [] H t') (sym (good_unique g g')) x') in
    let F : Formed G = grown_formed (all_admitted_grown b fresh x) in
    ap (λ l. l ++ u) r.1 ∙ ap (λ l. t' ++ l) (listing_unique F y (subst (λ A. Listing A u') (sym r.0) y'))
