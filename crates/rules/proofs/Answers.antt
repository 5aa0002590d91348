-- Each shape of answer is met by one outcome, and moves along equal refusals and an equal meaning.
-- Assumes nothing.
use Prim.Native.Nat.{ℕ, ◌+◌, ◌*◌, ◌/◌, ◌%◌, ◌≤◌, ◌<◌}
use native.Mathlib.Omega.{arith}
use native.Mathlib.Decide.{ℕ_discrete, dec_lt}
use native.Mathlib.Nat.{zero-add}
use mathlib.Core.Path.{◌≡◌, refl, sym, ◌∙◌, ap, subst}
use mathlib.Core.Bool.{Bool, true, false}
use mathlib.Core.Logic.{◌⊎◌, inl, inr, ◌↔◌}
use mathlib.Core.List.Memᴰ
use mathlib.Core.List.{List, [], ◌∷◌, ◌++◌, append-nil}
use lib.ListN.{length, get_or}
use lib.Seq.{ext_get_or}
use lib.Dec.{eqb}
use borrow.Author.Tests.{eq-eqb, ne_eqb}
use Rattle.rules.specs.Answers.{Says, Put, PutMarks, NoRoom, Listed, Answered, Valued, Parted}
use Rattle.rules.specs.Batches.{batch_count, NoBatchRoom, BatchesAnswered}
use Rattle.rules.specs.Bytes.{Bytes, number_at, digest_of}
use Rattle.rules.specs.First.{First}
use Rattle.rules.specs.Graph.{Op}
use Rattle.rules.specs.Lists.{none, Alike, SetOf}
use Rattle.rules.proofs.Batches.{batches_unique}
use Rattle.rules.proofs.Bytes.{number_bytes}
use Rattle.rules.proofs.First.{first_unique, Matched, first_moves, None, Apart, first_skips, first_done, first_here, first_next, first_past, first_stays, matched_append}
use Rattle.rules.proofs.Formed.{Formed}
use Rattle.rules.proofs.Lists.{set_unique, set_same, alike_sym}
use Rattle.rules.proofs.Same.{batches_same}

pub first_none : (cs : List (ℕ × Type 0)) (n : ℕ) → Apart n cs → First cs n → None cs
first_none cs n a p = (first_skips cs [] n a (rw append-nil p)).0

pub says_yes : {P : Type 0} (b : Bool) → Says b P → b ≡ true → P
says_yes {P} b h e = subst (λ x. Says x P) e h

pub says_no : {P : Type 0} (b : Bool) → Says b P → b ≡ false → ¬ P
says_no {P} b h e = subst (λ x. Says x P) e h

pub says_equal : (a b : ℕ) → Says (eqb a b) (a ≡ b)
says_equal a b = go (ℕ_discrete a b)
  where
    go : Dec (a ≡ b) → Says (eqb a b) (a ≡ b)
    go (yes e) = rw (eq-eqb a b e) e
    go (no n) = rw (ne_eqb a b n) n

pub says_unique : {P Q : Type 0} (b c : Bool) → (P → Q) → (Q → P) → Says b P → Says c Q → b ≡ c
says_unique true true f g p q = refl
says_unique true false f g p q = absurd (q (f p))
says_unique false true f g p q = absurd (p (g q))
says_unique false false f g p q = refl

pub says_same : {P Q : Type 0} (b : Bool) → (P → Q) → (Q → P) → Says b P → Says b Q
says_same true f g p = f p
says_same false f g p = λ q. p (g q)

-- bytes of equal digests
digest_bytes : (s t : List ℕ) (p q : ℕ) → Bytes s → Bytes t → number_at s p 32 ≡ number_at t q 32 → (j : ℕ) → j < 32 → get_or s (p + j) 0 ≡ get_or t (q + j) 0
digest_bytes s t p q a b = number_bytes s t p q 32 a.small b.small

pub digest_unique : (s t : List ℕ) → Bytes s → Bytes t → length s ≡ 32 → length t ≡ 32 → digest_of s ≡ digest_of t → s ≡ t
digest_unique s t a b h k e = ext_get_or 0 s t (h ∙ sym k) (λ i l. let q : 0 + i ≡ i = zero-add i in rw q at (digest_bytes s t 0 0 a b e i (omega arith)))

pub put_unique : {ds s t u : List ℕ} → Bytes t → Bytes u → Put ds s t → Put ds s u → t ≡ u
put_unique {ds} {s} {t} {u} a b p q = ext_get_or 0 t u (p.size ∙ sym q.size) (λ j l. go j (dec_lt j (32 * length ds)))
  where
    go : (j : ℕ) → Dec (j < 32 * length ds) → get_or t j 0 ≡ get_or u j 0
    go j (yes h) =
        let i : j / 32 < length ds = omega arith in
        let e : 32 * (j / 32) + j % 32 ≡ j = omega arith in
        rw e at (digest_bytes t u (32 * (j / 32)) (32 * (j / 32)) a b (p.there (j / 32) i ∙ sym (q.there (j / 32) i)) (j % 32) (omega arith))
    go j (no h) = p.past j (omega arith) ∙ sym (q.past j (omega arith))

pub put_marks_unique : {ms s t u : List ℕ} → PutMarks ms s t → PutMarks ms s u → t ≡ u
put_marks_unique {ms} {s} {t} {u} p q = ext_get_or 0 t u (p.size ∙ sym q.size) (λ j l. go j (dec_lt j (length ms)))
  where
    go : (j : ℕ) → Dec (j < length ms) → get_or t j 0 ≡ get_or u j 0
    go j (yes h) = p.there j h ∙ sym (q.there j h)
    go j (no h) = p.past j (omega arith) ∙ sym (q.past j (omega arith))

-- nothing put, nothing changed
pub put_none : {s t : List ℕ} → Put [] s t → t ≡ s
put_none {s} {t} p = ext_get_or 0 t s p.size (λ j l. p.past j (omega arith))

pub put_marks_none : {s t : List ℕ} → PutMarks [] s t → t ≡ s
put_marks_none {s} {t} p = ext_get_or 0 t s p.size (λ j l. p.past j (omega arith))

pub put_nothing : {o : List ℕ} → Put [] o o
put_nothing = record { size = refl; there = λ i b. absurd (omega arith); past = λ j b. refl }

-- what is refused, and what is answered where nothing is
pub listed_refused : {rs : List (ℕ × Type 0)} {P : ℕ → Type 0} {s : List ℕ} {n : ℕ} → ¬ (n ≡ 0) → First rs n → Listed rs P s s n 0
listed_refused {rs} {n = n} z f =
    record {
      number = first_stays rs _ n z f;
      ds = [];
      done = λ e. absurd (z e);
      refused = λ e. refl;
      counted = refl;
      put = put_nothing;
    }

pub listed_past : {rs : List (ℕ × Type 0)} {P : ℕ → Type 0} {s t : List ℕ} {n c : ℕ} → None rs → Listed [] P s t n c → Listed rs P s t n c
listed_past {rs} {n = n} a p = record { number = first_past rs _ n a p.number; ds = p.ds; done = p.done; refused = p.refused; counted = p.counted; put = p.put }

-- a set that is written whole, one that there is no room for, and one without members
pub listed_whole : {P : ℕ → Type 0} {ds o o' : List ℕ} → SetOf P ds → 32 * length ds ≤ length o → Put ds o o' → Listed [] P o o' 0 (length ds)
listed_whole {ds = ds} S l p =
    record {
      number = first_next _ _ _ _ (λ n. omega (arith, n.short, ap length (set_unique n.all S))) first_done;
      ds = ds;
      done = λ e. S;
      refused = λ n. absurd (n refl);
      counted = refl;
      put = p;
    }

pub listed_short : {P : ℕ → Type 0} {ds o : List ℕ} → SetOf P ds → length o < 32 * length ds → Listed [] P o o 9 0
listed_short {ds = ds} S l =
    record {
      number = first_here _ _ _ (record { ds = ds; all = S; short = l });
      ds = [];
      done = λ e. absurd (omega arith);
      refused = λ n. refl;
      counted = refl;
      put = put_nothing;
    }

pub listed_none : {P : ℕ → Type 0} {o : List ℕ} → ((x : ℕ) → ¬ P x) → Listed [] P o o 0 0
listed_none n = listed_whole (record { ascending = none; into = λ x m. absurd (Memᴰ.not-nil m); back = λ x p. absurd (n x p) }) (omega arith) put_nothing

pub answered_done : {rs : List (ℕ × Type 0)} {P : Type 0} {b : Bool} → First rs 0 → Says b P → Answered rs P 0 b
answered_done f p = record { number = f; done = λ e. p; refused = λ z. absurd (z refl) }

pub valued_refused : {rs : List (ℕ × Type 0)} {P : ℕ → Type 0} {n : ℕ} → ¬ (n ≡ 0) → First rs n → Valued rs P n 0
valued_refused z f = record { number = f; done = λ e. absurd (z e); refused = λ e. refl }

pub valued_done : {rs : List (ℕ × Type 0)} {P : ℕ → Type 0} {v : ℕ} → First rs 0 → P v → Valued rs P 0 v
valued_done f p = record { number = f; done = λ e. p; refused = λ z. absurd (z refl) }

pub listed_unique : {rs : List (ℕ × Type 0)} {P : ℕ → Type 0} {s t u : List ℕ} {n m c e : ℕ} → Bytes t → Bytes u → Listed rs P s t n c → Listed rs P s u m e → (n ≡ m) × (c ≡ e) × (t ≡ u)
listed_unique {rs} {P} {s} {t} {u} {n} {m} a b p q = (number, p.counted ∙ ap length list ∙ sym q.counted, put_unique a b p.put (subst (λ l. Put l s u) (sym list) q.put))
  where
    number : n ≡ m
    number = first_unique (rs ++ ((9, NoRoom P s) ∷ [])) p.number q.number

    go : Dec (n ≡ 0) → p.ds ≡ q.ds
    go (yes z) = set_unique (p.done z) (q.done (sym number ∙ z))
    go (no z) = p.refused z ∙ sym (q.refused (λ y. z (number ∙ y)))

    list : p.ds ≡ q.ds
    list = go (ℕ_discrete n 0)

pub no_room_same : {P Q : ℕ → Type 0} {s : List ℕ} → ((d : ℕ) → P d ↔ Q d) → NoRoom P s → NoRoom Q s
no_room_same e r = record { ds = r.ds; all = set_same e r.all; short = r.short }

turn : {P Q : ℕ → Type 0} → ((d : ℕ) → P d ↔ Q d) → (d : ℕ) → Q d ↔ P d
turn e d = ((e d).1, (e d).0)

-- a last refusal beside others that match
pub last_matched : (rs qs : List (ℕ × Type 0)) {A B : Type 0} (n : ℕ) → Matched rs qs → (None rs → A ↔ B) → Matched (rs ++ ((n, A) ∷ [])) (qs ++ ((n, B) ∷ []))
last_matched rs qs n w f = matched_append rs qs _ _ w (λ z. (refl, f z, λ x. tt))

pub listed_same : {rs qs : List (ℕ × Type 0)} {P Q : ℕ → Type 0} {s t : List ℕ} {n c : ℕ} → Apart 0 rs → Matched rs qs → (None rs → (d : ℕ) → P d ↔ Q d) → Listed rs P s t n c → Listed qs Q s t n c
listed_same {rs} {qs} {P} {Q} {s} {t} {n} a w e p =
    record {
      number = first_moves (rs ++ ((9, NoRoom P s) ∷ [])) (qs ++ ((9, NoRoom Q s) ∷ [])) n (last_matched rs qs 9 w (λ z. (no_room_same (e z), no_room_same (turn (e z))))) p.number;
      ds = p.ds;
      done = λ z. set_same (e (first_skips rs ((9, NoRoom P s) ∷ []) 0 a (subst (First (rs ++ ((9, NoRoom P s) ∷ []))) z p.number)).0) (p.done z);
      refused = p.refused;
      counted = p.counted;
      put = p.put;
    }

pub answered_unique : {rs : List (ℕ × Type 0)} {P : Type 0} {n m : ℕ} {b c : Bool} → Answered rs P n b → Answered rs P m c → (n ≡ m) × (b ≡ c)
answered_unique {rs} {P} {n} {m} {b} {c} p q = (number, go (ℕ_discrete n 0))
  where
    number : n ≡ m
    number = first_unique rs p.number q.number

    go : Dec (n ≡ 0) → b ≡ c
    go (yes z) = says_unique b c (λ x. x) (λ x. x) (p.done z) (q.done (sym number ∙ z))
    go (no z) = p.refused z ∙ sym (q.refused (λ y. z (number ∙ y)))

pub answered_same : {rs qs : List (ℕ × Type 0)} {P Q : Type 0} {n : ℕ} {b : Bool} → Apart 0 rs → Matched rs qs → (None rs → P ↔ Q) → Answered rs P n b → Answered qs Q n b
answered_same {rs} {qs} {P} {Q} {n} {b} a w e p =
    record {
      number = first_moves rs qs n w p.number;
      done = λ z. let f = e (first_none rs 0 a (subst (First rs) z p.number)) in says_same b f.0 f.1 (p.done z);
      refused = p.refused;
    }

pub valued_unique : {rs : List (ℕ × Type 0)} {P : ℕ → Type 0} {n m v w : ℕ} → Apart 0 rs → (None rs → (x y : ℕ) → P x → P y → x ≡ y) → Valued rs P n v → Valued rs P m w → (n ≡ m) × (v ≡ w)
valued_unique {rs} {P} {n} {m} {v} {w} a f p q = (number, go (ℕ_discrete n 0))
  where
    number : n ≡ m
    number = first_unique rs p.number q.number

    go : Dec (n ≡ 0) → v ≡ w
    go (yes z) = f (first_none rs 0 a (subst (First rs) z p.number)) v w (p.done z) (q.done (sym number ∙ z))
    go (no z) = p.refused z ∙ sym (q.refused (λ y. z (number ∙ y)))

pub valued_same : {rs qs : List (ℕ × Type 0)} {P Q : ℕ → Type 0} {n v : ℕ} → Apart 0 rs → Matched rs qs → (None rs → (x : ℕ) → P x → Q x) → Valued rs P n v → Valued qs Q n v
valued_same {rs} {qs} {P} {Q} {n} {v} a w e p =
    record {
      number = first_moves rs qs n w p.number;
      done = λ z. e (first_none rs 0 a (subst (First rs) z p.number)) v (p.done z);
      refused = p.refused;
    }

-- a part is decided where the call's number is, and whether there is such a part
pub parted_unique : {rs : List (ℕ × Type 0)} {P : ℕ → Type 0} {s t : List ℕ} (n : ℕ) → Apart 0 rs → First rs n → (None rs → ((x : ℕ) × P x) ⊎ ((x : ℕ) → ¬ P x)) → Bytes s → Bytes t → Parted rs P s → Parted rs P t → s ≡ t
parted_unique {rs} {P} {s} {t} n a f e b c p q = go (ℕ_discrete n 0)
  where
    found : First rs 0 → ((x : ℕ) × P x) ⊎ ((x : ℕ) → ¬ P x) → s ≡ t
    found g (inl r) = let u = p.given g r.0 r.1 in let v = q.given g r.0 r.1 in digest_unique s t b c u.0 v.0 (u.1 ∙ sym v.1)
    found g (inr r) = p.lacking g r ∙ sym (q.lacking g r)

    go : Dec (n ≡ 0) → s ≡ t
    go (yes z) = let g : First rs 0 = subst (First rs) z f in found g (e (first_none rs 0 a g))
    go (no z) = let g : ¬ First rs 0 = λ h. z (first_unique rs f h) in p.refused g ∙ sym (q.refused g)

pub parted_same : {rs qs : List (ℕ × Type 0)} {P Q : ℕ → Type 0} {s : List ℕ} → Apart 0 qs → Matched rs qs → Matched qs rs → (None qs → (x : ℕ) → P x ↔ Q x) → Parted rs P s → Parted qs Q s
parted_same {rs} {qs} a w v e p =
    record {
      given = λ g x r. p.given (first_moves qs rs 0 v g) x ((e (first_none qs 0 a g) x).1 r);
      lacking = λ g r. p.lacking (first_moves qs rs 0 v g) (λ x y. r x ((e (first_none qs 0 a g) x).0 y));
      refused = λ g. p.refused (λ h. g (first_moves rs qs 0 w h));
    }

-- batches: where they are answered, the graph is well-formed
pub batches_answered_unique : {rs : List (ℕ × Type 0)} {G : List Op} {hs s t t' u v v' : List ℕ} {n n' o o' b b' : ℕ} → Apart 0 rs → (None rs → Formed G) → Bytes t → Bytes t' → BatchesAnswered rs G hs s t u v n o b → BatchesAnswered rs G hs s t' u v' n' o' b' → (n ≡ n') × (o ≡ o') × (b ≡ b') × (t ≡ t') × (v ≡ v')
batches_answered_unique {rs} {G} {hs} {s} {t} {t'} {u} {v} {v'} {n} {n'} a f x y p q =
    let e = go (ℕ_discrete n 0) in
    (number, p.counted ∙ ap length e.0 ∙ sym q.counted, p.parted ∙ ap batch_count e.1 ∙ sym q.parted, put_unique x y p.put (subst (λ l. Put l s t') (sym e.0) q.put), put_marks_unique p.put_marks (subst (λ l. PutMarks l u v') (sym e.1) q.put_marks))
  where
    number : n ≡ n'
    number = first_unique (rs ++ ((9, NoBatchRoom G hs s u) ∷ [])) p.number q.number

    go : Dec (n ≡ 0) → (p.ds ≡ q.ds) × (p.marks ≡ q.marks)
    go (yes z) = batches_unique (f (first_skips rs ((9, NoBatchRoom G hs s u) ∷ []) 0 a (subst (First (rs ++ ((9, NoBatchRoom G hs s u) ∷ []))) z p.number)).0) (p.done z) (q.done (sym number ∙ z))
    go (no z) = let g : ¬ (n' ≡ 0) = λ y. z (number ∙ y) in ((p.refused z).0 ∙ sym (q.refused g).0, (p.refused z).1 ∙ sym (q.refused g).1)

no_batch_room_same : {G H : List Op} {hs ks s u : List ℕ} → Alike G H → Alike hs ks → NoBatchRoom G hs s u → NoBatchRoom H ks s u
no_batch_room_same e a r = record { ds = r.ds; marks = r.marks; all = batches_same e a r.all; short = r.short }

pub batches_answered_same : {rs qs : List (ℕ × Type 0)} {G H : List Op} {hs ks s t u v : List ℕ} {n o b : ℕ} → Apart 0 rs → Matched rs qs → (None rs → Alike G H × Alike hs ks) → BatchesAnswered rs G hs s t u v n o b → BatchesAnswered qs H ks s t u v n o b
batches_answered_same {rs} {qs} {G} {H} {hs} {ks} {s} {t} {u} {v} {n} a w e p =
    record {
      number = first_moves (rs ++ ((9, NoBatchRoom G hs s u) ∷ [])) (qs ++ ((9, NoBatchRoom H ks s u) ∷ [])) n (last_matched rs qs 9 w (λ z. (no_batch_room_same (e z).0 (e z).1, no_batch_room_same (alike_sym (e z).0) (alike_sym (e z).1)))) p.number;
      ds = p.ds;
      marks = p.marks;
      done = λ z. let f = e (first_skips rs ((9, NoBatchRoom G hs s u) ∷ []) 0 a (subst (First (rs ++ ((9, NoBatchRoom G hs s u) ∷ []))) z p.number)).0 in batches_same f.0 f.1 (p.done z);
      refused = p.refused;
      counted = p.counted;
      parted = p.parted;
      put = p.put;
      put_marks = p.put_marks;
    }
