-- The refusal of every family's check names the first broken rule. Proved once for any format that is read whole under any limit: each prefix of the
-- bytes is cut short or gives the result of the whole, so the shortest prefix that is not cut short settles the answer. Assumes nothing.
use mathlib.Core.Path.{◌≡◌, refl, sym, ap, ◌∙◌, subst}
use mathlib.Core.Logic.{◌↔◌, ◌⊎◌, inl, inr, ⊎_elim}
use mathlib.Core.Bool.{Bool, true, false}
use mathlib.Core.List.{List, [], ◌++◌, append-nil}
use Prim.Native.Nat.{ℕ, zero, suc, ◌≤◌, ◌<◌}
use native.Mathlib.Omega.{arith}
use native.Mathlib.Nat.{not-suc-le-zero, zero-add}
use lib.ListN.{length, take, drop, length-take, take-append-drop}
use lib.Seq.{take-length, take-take, length-take-le}
use lib.Dec.{leb, eqb}
use borrow.Author.Tests.{le-leb, lt-leb, leb-true, leb-false, eqb-false, eq-eqb, ne_eqb}
use Rattle.wire.specs.Bytes.{Bytes, pick}
use Rattle.wire.specs.laws.Bytes.{bytes_take}
use Rattle.wire.specs.Format.{Format, Parsed, took, refused, on_result, read}
use Rattle.wire.proofs.Format.{read-complete, local}
use Rattle.wire.specs.laws.Format.{kept, took-refused, stands-inside}
use Rattle.wire.specs.declared.Rule.{Rule}
use Rattle.wire.specs.Numbers.{refusal, number_of, rule_of, cut_short, too_long, bytes_after_end}
use Rattle.wire.proofs.Numbers.{ruled-range}
use Rattle.wire.proofs.Refusing.{cut-or-other}
use Rattle.wire.specs.Whole.{whole}
use Rattle.wire.proofs.Whole.{whole-sound}
use Rattle.wire.specs.declared.Refusal.{Refusal}
use Rattle.transaction.specs.Signed.{most_bytes, taken}
use Rattle.transaction.specs.Signed as AnySigned
use Rattle.transaction.specs.Family.{Family, signed}
use Rattle.transaction.specs.FirstBroken.{Refuses, Moment, FirstBroken}
use Rattle.transaction.proofs.Signed.{taken-inv}

abbrev place_of : Refusal → ℕ
place_of e = e.place

abbrev broken_by : Refusal → Rule
broken_by e = e.rule

length-beginning : (k : ℕ) (s : List ℕ) → length (take k s) ≤ length s
length-beginning k s = simp length-take (omega arith)

module _ {A : Type 0} (G : Format A) where
  -- s is refused as cut short, at some place
  abbrev ReadCut : List ℕ → Type 0
  ReadCut s = (p : ℕ) × (read G s 0 ≡ refused (refusal (rule_of cut_short) p))

  -- a prefix of s is cut short, or gives the result of the whole
  beginning : (s : List ℕ) (k : ℕ) → Bytes s → ReadCut (take k s) ⊎ (read G (take k s) 0 ≡ read G s 0)
  beginning s k b = judge (read G (take k s) 0) refl
    where
      whole_of : {o : Parsed A} → read G (take k s ++ drop k s) 0 ≡ o → o ≡ read G s 0
      whole_of e = sym e ∙ ap (λ (t : List ℕ). read G t 0) (take-append-drop k s)

      judge : (o : Parsed A) → read G (take k s) 0 ≡ o → ReadCut (take k s) ⊎ (read G (take k s) 0 ≡ read G s 0)
      judge (took v n) r = inr (r ∙ whole_of (kept G (take k s) (drop k s) 0 v n (bytes_take k s b) r))
      judge (refused e) r =
          ⊎_elim
          (λ q. inl (e.place, r ∙ ap (λ (x : Rule). refused (refusal x e.place)) q))
          (λ ne. inr (r ∙ whole_of (G.stable (take k s) (drop k s) 0 e (bytes_take k s b) ne r)))
          (cut-or-other e.rule (G.ruled (take k s) 0 e r))

  -- if s is cut short, so is every prefix of s
  cut-beginning : (s : List ℕ) (k : ℕ) → Bytes s → ReadCut s → ReadCut (take k s)
  cut-beginning s k b (p, r) = ⊎_elim (λ c. c) (λ z. (p, z ∙ r)) (beginning s k b)

  -- the shortest prefix, of at most j bytes, that gives the result of the whole
  abbrev Shortest : List ℕ → ℕ → Type 0
  Shortest s j = (m : ℕ) × (m ≤ j) × ((k : ℕ) → k < m → ReadCut (take k s)) × (read G (take m s) 0 ≡ read G s 0)

  shortest-up-to : (s : List ℕ) → Bytes s → (j : ℕ) → read G (take j s) 0 ≡ read G s 0 → Shortest s j
  shortest-up-to s b zero r = (zero, omega arith, λ k h. absurd (not-suc-le-zero h), r)
  shortest-up-to s b (suc j) r =
      ⊎_elim (λ c. (suc j, omega arith, earlier c, r)) (λ q. let (m, h, f, w) = shortest-up-to s b j q in (m, omega arith, f, w)) (beginning s j b)
    where
      earlier : ReadCut (take j s) → (k : ℕ) → k < suc j → ReadCut (take k s)
      earlier c k h = subst ReadCut (take-take k j s (omega arith)) (cut-beginning (take j s) k (bytes_take j s b) c)

  shortest : (s : List ℕ) → Bytes s → Shortest s (length s)
  shortest s b = shortest-up-to s b (length s) (ap (λ (t : List ℕ). read G t 0) (take-length s))

  took-inside : (s : List ℕ) (v : A) (n : ℕ) → Bytes s → read G s 0 ≡ took v n → n ≤ length s
  took-inside s v n b r = stands-inside s 0 (G.write v) n (G.sound s 0 v n b r).1 (omega arith)

module _ {A : Type 0} (G : Format A) (most : ℕ) where
  -- the answer of the check, and what it makes of the result of a parse: all bytes must be read
  abbrev answer : List ℕ → Parsed A
  answer s = whole G most s refused took

  abbrev to_end : List ℕ → Parsed A → Parsed A
  to_end s o = on_result o refused (λ v n. pick (eqb n (length s)) (took v n) (refused (refusal bytes_after_end n)))

  answer-short : (s : List ℕ) → length s ≤ most → answer s ≡ to_end s (read G s 0)
  answer-short s h = rw (le-leb (length s) most h) (G.same s 0 refused _)

  answer-refused : (s : List ℕ) (e : Refusal) → length s ≤ most → read G s 0 ≡ refused e → answer s ≡ refused e
  answer-refused s e h r = answer-short s h ∙ ap (to_end s) r

  answer-after : (s : List ℕ) (v : A) (n : ℕ) → length s ≤ most → n < length s → read G s 0 ≡ took v n → answer s ≡ refused (refusal bytes_after_end n)
  answer-after s v n h l r = answer-short s h ∙ ap (to_end s) r ∙ rw (ne_eqb n (length s) (λ e. omega arith))

  answer-taken : (s : List ℕ) (v : A) → length s ≤ most → read G s 0 ≡ took v (length s) → answer s ≡ took v (length s)
  answer-taken s v h r = answer-short s h ∙ ap (to_end s) r ∙ rw (eq-eqb (length s) (length s) refl)

  answer-long : (s : List ℕ) → most < length s → answer s ≡ refused (refusal too_long 0)
  answer-long s h = rw (lt-leb (length s) most h)

  -- why s is refused with e
  data Cause (s : List ℕ) (e : Refusal) : Type 0 where
    long : most < length s → refusal too_long 0 ≡ e → Cause s e
    rule : length s ≤ most → read G s 0 ≡ refused e → Cause s e
    after : length s ≤ most → (v : A) (n : ℕ) → read G s 0 ≡ took v n → (n ≡ length s → ⊥) → refusal bytes_after_end n ≡ e → Cause s e

  cause : (s : List ℕ) (e : Refusal) → answer s ≡ refused e → Cause s e
  cause s e q = fits (leb (length s) most) refl
    where
      ended : length s ≤ most → (v : A) (n : ℕ) → read G s 0 ≡ took v n → (t : Bool) → eqb n (length s) ≡ t
          → pick (eqb n (length s)) (took v n) (refused (refusal bytes_after_end n)) ≡ refused e → Cause s e
      ended h v n r true w z = let z' : took v n ≡ refused e = rw w at z in took-refused v n e z'
      ended h v n r false w z =
          let z' : ◌≡◌ {A = Parsed A} (refused (refusal bytes_after_end n)) (refused e) = rw w at z in
          after h v n r (eqb-false n (length s) w) cc

      inside : length s ≤ most → (o : Parsed A) → read G s 0 ≡ o → to_end s o ≡ refused e → Cause s e
      inside h (took v n) r z = ended h v n r (eqb n (length s)) refl z
      inside h (refused d) r z = rule h (r ∙ z)

      fits : (t : Bool) → leb (length s) most ≡ t → Cause s e
      fits true t = let h = leb-true (length s) most t in inside h (read G s 0) refl (sym (answer-short s h) ∙ q)
      fits false t =
          let h : most < length s = leb-false (length s) most t in
          let z : ◌≡◌ {A = Parsed A} (refused (refusal too_long 0)) (refused e) = sym (answer-long s h) ∙ q in
          long h cc

  -- if the check accepts s, the format reads s up to its end
  taken-read : (s : List ℕ) → Bytes s → taken (answer s) ≡ true → (v : A) × (length s ≤ most) × (read G s 0 ≡ took v (length s))
  taken-read s b a =
      let (v, n, e) = taken-inv (answer s) a in
      let (g, w, m, h) = whole-sound G most s v n b e in
      (v, h, read-complete G s 0 v [] g (sym (ap (λ (t : List ℕ). t ++ []) w ∙ append-nil s)) ∙ ap (took v) (zero-add (length (G.write v)) ∙ ap length w))

  -- s is refused with 2, at some place
  abbrev AnswerCut : List ℕ → Type 0
  AnswerCut s = (p : ℕ) × (answer s ≡ refused (refusal (rule_of cut_short) p))

  beginning-cut : (s : List ℕ) (k : ℕ) → length s ≤ most → ReadCut G (take k s) → AnswerCut (take k s)
  beginning-cut s k h (p, r) = (p, answer-refused (take k s) (refusal (rule_of cut_short) p) (omega (arith, length-beginning k s)) r)

  -- ---- the fields of `FirstBroken`, one law for each

  long-exactly : (s : List ℕ) (p : ℕ) → (answer s ≡ refused (refusal too_long p)) ↔ ((most < length s) × (p ≡ 0))
  long-exactly s p = (λ q. from (cause s (refusal too_long p) q), λ (h, z). answer-long s h ∙ ap (λ (i : ℕ). refused (refusal too_long i)) (sym z))
    where
      from : Cause s (refusal too_long p) → (most < length s) × (p ≡ 0)
      from (long h e) = (h, sym (ap place_of e))
      from (rule h r) = let (a, z) = ruled-range too_long (G.ruled s 0 (refusal too_long p) r) in absurd (omega arith)
      from (after h v n r ne e) = absurd (let z = ap number_of e in omega arith)

  after-exactly : (s : List ℕ) (n : ℕ) → Bytes s
      → (answer s ≡ refused (refusal bytes_after_end n)) ↔ ((length s ≤ most) × (n < length s) × (taken (answer (take n s)) ≡ true))
  after-exactly s n b = (λ q. from (cause s (refusal bytes_after_end n) q), λ (h, l, a). to h l a)
    where
      at-end : (v : A) → length s ≤ most → n < length s → read G s 0 ≡ took v n → taken (answer (take n s)) ≡ true
      at-end v h l r =
          let w : length (take n s) ≡ n = length-take-le n s (omega arith) in
          ap taken
          (answer-taken (take n s) v (omega arith)
          (local G s (take n s) v n b r (take-take n n s (omega arith)) ∙ ap (took v) (sym w)))

      from : Cause s (refusal bytes_after_end n) → (length s ≤ most) × (n < length s) × (taken (answer (take n s)) ≡ true)
      from (long h e) = absurd (let z = ap number_of e in omega arith)
      from (rule h r) = let (z, a) = ruled-range bytes_after_end (G.ruled s 0 (refusal bytes_after_end n) r) in absurd (omega arith)
      from (after h v m r ne e) =
          let z : m ≡ n = ap place_of e in
          let i : m ≤ length s = took-inside G s v m b r in
          let l : n < length s = omega arith in
          (h, l, at-end v h l (r ∙ ap (took v) z))

      to : length s ≤ most → n < length s → taken (answer (take n s)) ≡ true → answer s ≡ refused (refusal bytes_after_end n)
      to h l a =
          let (v, i, r) = taken-read (take n s) (bytes_take n s b) a in
          answer-after s v n h l
          (ap (λ (t : List ℕ). read G t 0) (sym (take-append-drop n s))
          ∙ kept G (take n s) (drop n s) 0 v (length (take n s)) (bytes_take n s b) r
          ∙ ap (took v) (length-take-le n s (omega arith)))

  cut-throughout : (s : List ℕ) (p : ℕ) → Bytes s → answer s ≡ refused (refusal (rule_of cut_short) p) → (k : ℕ) → AnswerCut (take k s)
  cut-throughout s p b q k = from (cause s (refusal (rule_of cut_short) p) q)
    where
      from : Cause s (refusal (rule_of cut_short) p) → AnswerCut (take k s)
      from (long h e) = absurd (let z = ap number_of e in omega arith)
      from (after h v n r ne e) = absurd (let z = ap number_of e in omega arith)
      from (rule h r) = beginning-cut s k h (cut-beginning G s k b (p, r))

  taken-last : (s : List ℕ) → Bytes s → taken (answer s) ≡ true → (k : ℕ) → k < length s → AnswerCut (take k s)
  taken-last s b a k l =
      let (v, h, r) = taken-read s b a in
      ⊎_elim (beginning-cut s k h)
      (λ z. absurd (omega (arith, length-take-le k s (omega arith), took-inside G (take k s) v (length s) (bytes_take k s b) (z ∙ r))))
      (beginning G s k b)

  -- if the first m bytes are refused with e, so is every byte string that starts with them
  settled : (s : List ℕ) (e : Refusal) (m : ℕ) → Bytes s → (e.rule ≡ rule_of cut_short → ⊥) → read G (take m s) 0 ≡ refused e
      → (t : List ℕ) → length t ≤ most → take m t ≡ take m s → answer t ≡ refused e
  settled s e m b ne r t h q =
      answer-refused t e h
      (ap (λ (u : List ℕ). read G u 0) (sym (take-append-drop m t) ∙ ap (λ (u : List ℕ). u ++ drop m t) q)
      ∙ G.stable (take m s) (drop m t) 0 e (bytes_take m s b) ne r)

  -- a refusal by another rule than too many bytes or bytes after the end is that of the parse
  rule-read : (s : List ℕ) (e : Refusal) → (e.rule ≡ too_long → ⊥) → (e.rule ≡ bytes_after_end → ⊥) → answer s ≡ refused e
      → (length s ≤ most) × (read G s 0 ≡ refused e)
  rule-read s e n₁ n₁₃ q = from (cause s e q)
    where
      from : Cause s e → (length s ≤ most) × (read G s 0 ≡ refused e)
      from (long h z) = absurd (n₁ (sym (ap broken_by z)))
      from (rule h r) = (h, r)
      from (after h v n r ne z) = absurd (n₁₃ (sym (ap broken_by z)))

module _ (F : Family) where
  moment : (s : List ℕ) (x : Rule) (p : ℕ) → Bytes s → (x ≡ too_long → ⊥) → (x ≡ rule_of cut_short → ⊥) → (x ≡ bytes_after_end → ⊥)
      → Refuses F s x p → (m : ℕ) × Moment F s x p m
  unfolding AnySigned.check
  moment s x p b n₁ n₂ n₁₃ q =
      let (h, r) = rule-read (signed F) most_bytes s (refusal x p) n₁ n₁₃ q in
      let (m, i, f, w) = shortest (signed F) s b in
      let all = settled (signed F) most_bytes s (refusal x p) m b n₂ (w ∙ r) in (
        m,
        record {
          inside = i;
          before = λ k l. beginning-cut (signed F) most_bytes s k h (f k l);
          since = λ k l. all (take k s) (omega (arith, length-beginning k s)) (take-take m k s l);
          whatever-follows = all;
        },
      )

  pub first-broken : FirstBroken F
  unfolding AnySigned.check
  first-broken =
      record {
        above_most = long-exactly (signed F) most_bytes;
        after-end = after-exactly (signed F) most_bytes;
        cut_throughout = cut-throughout (signed F) most_bytes;
        broken = moment;
        accepted = taken-last (signed F) most_bytes;
      }
