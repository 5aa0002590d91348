-- A list cut into arrays of 32 bytes has its digests in them.
-- Assumes nothing.
use Prim.Native.Nat.{ℕ, zero, suc, ◌+◌, ◌*◌, ◌/◌, ◌<◌}
use native.Mathlib.Omega.{arith}
use native.Mathlib.Nat.{mul-zero, mul-suc}
use mathlib.Core.Path.{◌≡◌, refl, sym, ◌∙◌, ap, subst}
use mathlib.Core.Bool.{Bool}
use mathlib.Core.List.{List}
use lib.ListN.{length, get_or, take, drop}
use Rattle.std.specs.Bool.{Decides}
use Rattle.std.specs.List.{Contains, IsAnyAnswer}
use Rattle.std.specs.Int.{from_be_bytes}
use Rattle.std.specs.Simd.{first_chunks}
use Rattle.std.specs.Str.{bytes_eq}
use Rattle.std.proofs.Common.{w64}
use Rattle.std.proofs.lemmas.Bool.Decides.{Decides-like}
use Rattle.std.proofs.lemmas.List.{drop-drop, get_or-drop, get_or-take, length-drop, length-take, length-take-le}
use Rattle.std.proofs.lemmas.List.Elements.{contains_decides, Decides-contains}
use Rattle.std.proofs.lemmas.Slice.Eq.{bytes_eq-Decides}
use Rattle.rules.specs.Bytes.{Bytes, number_at, digest_of, digests_of}
use Rattle.rules.specs.Lists.{◌∈◌}
use Rattle.rules.proofs.Answers.{digest_unique}
use Rattle.rules.proofs.Bytes.{row_in, in_row, digest_part, small_take}
use Rattle.digest.specs.Lists.{nth, Among}

-- the i-th of the first k chunks of n elements
pub chunk_at : {X : Type 0} (n k : ℕ) (xs : List X) (i : ℕ) (d : List X) → i < k → get_or (first_chunks n k xs) i d ≡ take n (drop (n * i) xs)
chunk_at n zero xs i d h = absurd (omega arith)
chunk_at n (suc k) xs zero d h = rw mul-zero refl
chunk_at n (suc k) xs (suc i) d h =
    let e : n + n * i ≡ n * suc i = omega (arith, mul-suc n i) in
    chunk_at n k (drop n xs) i d (omega arith) ∙ rw drop-drop (ap (λ j. take n (drop j xs)) e)

-- what 8 bytes spell is their number
pub spelled : (b : List ℕ) → from_be_bytes w64 b ≡ number_at b 0 8
unfolding number_at
spelled b = omega arith

-- the digests of s are those that its arrays cs are
module _ (s : List ℕ) {cs : List (List ℕ)} (cut : cs ≡ first_chunks 32 (length s / 32) s) (many : length cs ≡ length s / 32) where
  cut_at : (i : ℕ) (d : List ℕ) → i < length s / 32 → get_or cs i d ≡ take 32 (drop (32 * i) s)
  cut_at i d h = ap (λ x. get_or x i d) cut ∙ chunk_at 32 (length s / 32) s i d h

  -- the i-th array is the i-th digest
  pub cut_digest : (i : ℕ) (d : List ℕ) → i < length s / 32 → digest_of (get_or cs i d) ≡ nth s i
  cut_digest i d h = rw (cut_at i d h) (digest_part s (32 * i) 32 (omega arith))

  -- and has 32 bytes
  cut_whole : Bytes s → (i : ℕ) (d : List ℕ) → i < length s / 32 → Bytes (get_or cs i d) × (length (get_or cs i d) ≡ 32)
  cut_whole a i d h =
      let t = drop (32 * i) s in
      rw (cut_at i d h) (record { small = small_take t 32 (λ j. rw get_or-drop (a.small (32 * i + j))) }, length-take-le 32 t (omega (arith, length-drop (32 * i) s)))

  module _ (d : List ℕ) where
    pub chunk_into : Contains cs d → digest_of d ∈ digests_of s
    chunk_into m =
        let l : m.0 < length s / 32 = omega (arith, m.1) in
        subst (λ x. digest_of x ∈ digests_of s) m.2 (rw (cut_digest m.0 d l) (row_in 0 (length s / 32) (nth s) m.0 l))

    pub chunk_back : Bytes s → Bytes d → length d ≡ 32 → digest_of d ∈ digests_of s → Contains cs d
    chunk_back a b l m =
        let r = in_row 0 (length s / 32) (nth s) (digest_of d) m in
        let w = cut_whole a r.0 d r.1 in
        (r.0, omega (arith, r.1), digest_unique (get_or cs r.0 d) d w.0 b w.1 l (cut_digest r.0 d r.1 ∙ r.2))

    -- the k-th array is one of those before it exactly if its digest is one of the first k
    module _ (k : ℕ) (h : k < length s / 32) where
      before_into : Contains (take k cs) (get_or cs k d) → Among s k (nth s k)
      before_into m =
          let x = get_or cs k d in
          let l : m.0 < k = omega (arith, length-take k cs, m.1) in
          record {
            place = m.0;
            within = l;
            there = sym (cut_digest m.0 x (omega arith)) ∙ ap (λ y. digest_of y) (sym (get_or-take k cs m.0 x l) ∙ m.2) ∙ cut_digest k d h;
          }

      before_back : Bytes s → Among s k (nth s k) → Contains (take k cs) (get_or cs k d)
      before_back a m =
          let x = get_or cs k d in
          let l : m.place < length s / 32 = omega (arith, m.within) in
          let v = cut_whole a m.place x l in
          let w = cut_whole a k d h in
          let e : get_or cs m.place x ≡ x = digest_unique (get_or cs m.place x) x v.0 w.0 v.1 w.1 (cut_digest m.place x l ∙ m.there ∙ sym (cut_digest k d h)) in
          (m.place, omega (arith, length-take k cs, m.within), get_or-take k cs m.place x m.within ∙ e)

      pub before_decides : Bytes s → (r : Bool) → IsAnyAnswer (λ y t. bytes_eq y (get_or cs k d) ≡ t) (take k cs) r → Decides r (Among s k (nth s k))
      before_decides a r m = Decides-like r before_into (before_back a) (Decides-contains (take k cs) (get_or cs k d) r (contains_decides bytes_eq bytes_eq-Decides (take k cs) (get_or cs k d) r m))
