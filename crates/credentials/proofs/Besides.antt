-- Laws of the credentials, each read together with what wants it, after an unsigned part that was read. Assumes nothing.
use Rattle.std.specs.Prelude.{Ok, Err, Option, Result, None, Some}
use Prim.Native.Nat.{ℕ, ◌+◌, ◌-◌, ◌≤◌, ◌<◌}
use mathlib.Core.Path.{◌≡◌, refl, sym, ap, ap₂, ◌∙◌, subst, subst₂}
use mathlib.Core.List.{List, [], ◌∷◌, ◌++◌}
use native.Mathlib.Omega.{arith}
use lib.ListN.{length}
use Rattle.wire.specs.declared.Refusal.{Refusal}
use Rattle.wire.specs.Numbers.{by, wrong_count}
use Rattle.wire.specs.Format.{took, read}
use Rattle.wire.specs.laws.Format.{parse-inv}
use Rattle.wire.specs.Fields.{integer, constant}
use Rattle.wire.specs.code.Answer.{ended, valued}
use Rattle.wire.proofs.Bytes.{Slice}
use Rattle.wire.proofs.Reading as W
use Rattle.wire.proofs.Trying.{passed-on}
use Rattle.transaction.specs.Credentials as Credentials
use Rattle.transaction.specs.Credentials.{credential_pieces, Want, each, pieces, credentials}
use Rattle.transaction.specs.Plan.{Plan, plan, type_of-id}
use Rattle.transaction.specs.Form.{list_of, Value, form, element_asks, asked, wanted}
use Rattle.transaction.specs.Avm.{avm}
use Rattle.transaction.specs.Family.{Head, head, Unsigned, unsigned, wants}
use Rattle.transaction.specs.Answer.{layout}
use Rattle.transaction.specs.code.Answer.{CredentialsAt}
use Rattle.transaction.specs.declared.TransactionType.{TransactionType}
use Rattle.transaction.specs.declared.Layout.{Layout}
use Rattle.transaction.specs.declared.ListName.TheVariants as L
use Rattle.transaction.proofs.CredentialLaws.{each-then}
use Rattle.transaction.proofs.Reading.{written_next}
use Rattle.transaction.proofs.Verdicts.{layout-credentials}
use Rattle.plan.specs.Due.{tail}
use Rattle.credentials.specs.declared.Wanting.{Wanting}
use Rattle.credentials.specs.declared.Wanted.{Wanted}
use Rattle.credentials.specs.code.Wanted.{Wants, First, Nexts, NextWants, Beside, first_wanting}
use Rattle.credentials.proofs.Asked.{none-asked}
use Rattle.credentials.proofs.Ahead.{front_of, list_over}

-- ---- the loop: n credentials are left, from `at` on, beside what is wanted from c on

module _ (s : List ℕ) (type_id : ℕ) (c : Wanting) (n at : ℕ) (x : Option Wanted) (h : NextWants type_id s c x) where
  beside_end : (r : Result ℕ Refusal) → 0 < n → x ≡ None → Beside type_id s c n at r
  beside_end r o q most ws w e =
      let empty : ws ≡ [] = subst (λ (x : Option Wanted). Nexts most s type_id ws x) q (h most ws w) in
      absurd (omega (arith, ap length empty))

  module _ (v : Wanted) (q : x ≡ Some v) (y : Result ℕ Refusal) (g : y ≡ ended (pieces (credential_pieces v.credential v.signatures [])) s at) where
    abbrev d : Wanting
    d = v.next

    abbrev t : ℕ
    t = v.credential

    abbrev k : ℕ
    k = v.signatures

    first : (most : ℕ) (ws : List Want) → Wants most s type_id c ws → First most s t k (Wants most s type_id d) ws
    first most ws w = subst (λ (x : Option Wanted). Nexts most s type_id ws x) q (h most ws w)

    split : (most : ℕ) (ws : List Want) (f : First most s t k (Wants most s type_id d) ws)
        → ended (pieces (each ws)) s at ≡ (pieces (credential_pieces t k [])).parse s at Err (λ b m. ended (pieces (each f.others)) s m)
    split most ws f =
        ap (λ (ws : List Want). ended (pieces (each ws)) s at) f.all
        ∙ each-then s Err Ok f.want f.others at
        ∙ ap₂ (λ (i j : ℕ). (pieces (credential_pieces i j [])).parse s at Err (λ b m. ended (pieces (each f.others)) s m)) (sym f.type)
        (sym f.signatures)

    beside-refused : (e : Refusal) → y ≡ Err e → Beside type_id s c n at (Err e)
    beside-refused e i most ws w l =
        let f = first most ws w in
        W.stops (pieces (credential_pieces t k [])) (Result ℕ Refusal) s at (Err e) Err _ y e g i refl ∙ sym (split most ws f)

    beside-past : (r : Result ℕ Refusal) (m : ℕ) → y ≡ Ok m → Beside type_id s d (n - 1) m r → Beside type_id s c n at r
    beside-past r m i b most ws w l =
        let f = first most ws w in
        let left : length f.others ≡ n - 1 = omega (arith, ap length f.all) in
        W.ends (pieces (credential_pieces t k [])) (Result ℕ Refusal) s at r Err _ y m g i (λ v. b most f.others f.after left) ∙ sym (split most ws f)

beside-done : (s : List ℕ) (type_id : ℕ) (c : Wanting) (n at : ℕ) → n ≤ 0 → Beside type_id s c n at (Ok at)
unfolding each pieces
beside-done s type_id c n at h most [] w l = refl
beside-done s type_id c n at h most (d ∷ ws) w l = absurd (omega arith)

-- an answer for the credentials from the i-th on is one for all: `count` from `start` on, beside what is wanted from `from` on
module _ (s : List ℕ) (type_id : ℕ) (from : Wanting) (count start : ℕ) where
  unfoldable pub BesideOnward : Wanting → ℕ → ℕ → Type 0
  BesideOnward c i at = (r : Result ℕ Refusal) → Beside type_id s c (count - i) at r → Beside type_id s from count start r

  pub onward-start : BesideOnward from 0 start
  unfolding BesideOnward
  onward-start r h = let e : count - 0 ≡ count = omega arith in subst (λ (n : ℕ). Beside type_id s from n start r) e h

  module _ (c : Wanting) (i at : ℕ) (o : BesideOnward c i at) where
    pub onward-done : count ≤ i → Beside type_id s from count start (Ok at)
    unfolding BesideOnward
    onward-done h = o (Ok at) (beside-done s type_id c (count - i) at (omega arith))

    module _ (x : Option Wanted) (h : NextWants type_id s c x) where
      pub onward-end : (r : Result ℕ Refusal) → i < count → x ≡ None → Beside type_id s from count start r
      unfolding BesideOnward
      onward-end r l q = o r (beside_end s type_id c (count - i) at x h r (omega arith) q)

      module _ (v : Wanted) (q : x ≡ Some v) (y : Result ℕ Refusal) (g : y ≡ ended (pieces (credential_pieces v.credential v.signatures [])) s at) where
        pub onward-refused : (e : Refusal) → y ≡ Err e → (r : Result ℕ Refusal) → r ≡ Err e → Beside type_id s from count start r
        unfolding BesideOnward
        onward-refused e t r u =
            subst (λ (r : Result ℕ Refusal). Beside type_id s from count start r) (sym u)
            (o (Err e) (beside-refused s type_id c (count - i) at x h v q y g e t))

        pub onward-past : (m : ℕ) → y ≡ Ok m → (d : Wanting) → d ≡ v.next → BesideOnward d (i + 1) m
        unfolding BesideOnward
        onward-past m t d e r b =
            let k : count - (i + 1) ≡ (count - i) - 1 = omega arith in
            o r (beside-past s type_id c (count - i) at x h v q y g r m t (subst₂ (λ (d : Wanting) (n : ℕ). Beside type_id s d n m r) e k b))

pub ruleset onward = (onward-start, onward-done, onward-end, onward-refused, onward-past, passed-on)

-- ---- all credentials

-- the outputs ask for no credential and are skipped
body : (most : ℕ) (s : List ℕ) → Slice s → (d : Head TransactionType) (v : Value (plan d.type)) (a k : ℕ) → a ≡ length ((head (avm most)).write d)
    → read (form most (plan d.type)) s a ≡ took v k
    → Wants most s (layout most (d, v)).type_id (first_wanting (layout most (d, v))) (wants (avm most) (d, v))
unfolding form wants wanted
body most s b d v a k ha e =
    let o : Plan = tail (plan d.type) in
    let f = front_of most (list_of L.Output 0) o s a v k e in
    let ws : asked (element_asks L.Output) v.0 ++ wanted o v.1 ≡ wanted o v.1 =
    ap (λ (l : List Want). l ++ wanted o v.1) (none-asked None (λ v. 0) 0 refl refl v.0) in
    let others : f.others ≡ v.1 = sym (ap (λ (w : Value (plan d.type)). w.1) f.all) in
    let outs : f.between ≡ v.0 = sym (ap (λ (w : Value (plan d.type)). w.0) f.all) in
    let place : f.next ≡ length ((head (avm most)).write d) + length ((list_of L.Output 0).write v.0) =
    written_next (list_of L.Output 0) s a f.between f.next b f.first
    ∙ ap₂ (λ (i : ℕ) (l : List _). i + length ((list_of L.Output 0).write l)) ha outs in
    rw (type_of-id d.type)
    (list_over most s 0 o _ _
    (record {
      value = v.1;
      next = k;
      stands = subst₂ (λ (j : ℕ) (w : Value o). read (form most o) s j ≡ took w k) place others f.rest;
      wants = ws;
    }))

pub first-wants : (most : ℕ) (s : List ℕ) (u : Unsigned (avm most)) (n : ℕ) → Slice s → read (unsigned (avm most)) s 0 ≡ took u n
    → Wants most s (layout most u).type_id (first_wanting (layout most u)) (wants (avm most) u)
unfolding unsigned
first-wants most s u n b e =
    let (d, a, ed, e₁) = parse-inv (head (avm most)) s 0 (λ d a. (form most (plan d.type)).parse s a _ (λ v k. took (d, v) k)) u n e in
    let (v, k, ev, e₂) = parse-inv (form most (plan d.type)) s a (λ v k. took (d, v) k) u n e₁ in
    let same : (d, v) ≡ u = cc in
    subst (λ (u : Unsigned (avm most)). Wants most s (layout most u).type_id (first_wanting (layout most u)) (wants (avm most) u)) same
    (body most s b d v a k (omega (arith, written_next (head (avm most)) s 0 d a b ed)) ev)

-- the credentials' count starts where the unsigned part ends
pub credentials-stand : (most : ℕ) (s : List ℕ) (u : Unsigned (avm most)) (at : ℕ) (w : Layout) → Slice s → read (unsigned (avm most)) s 0 ≡ took u at
    → w ≡ layout most u → at ≡ w.credentials_at
credentials-stand most s u at w b e h =
    omega (arith, written_next (unsigned (avm most)) s 0 u at b e, layout-credentials most u, ap (λ (v : Layout). v.credentials_at) h)

module _ (w : Layout) (s : List ℕ) (b : Slice s) (x : Result (ℕ × ℕ) Refusal) (p : x ≡ valued (integer 4) s w.credentials_at) where
  on-place : (r : Result ℕ Refusal)
      → ((most : ℕ) (u : Unsigned (avm most)) → read (unsigned (avm most)) s 0 ≡ took u w.credentials_at → w ≡ layout most u
      → r ≡ ended (credentials (wants (avm most) u)) s w.credentials_at)
      → CredentialsAt w s r
  on-place r g most u at e h =
      let i = credentials-stand most s u at w b e h in
      subst (λ (j : ℕ). r ≡ ended (credentials (wants (avm most) u)) s j) (sym i) (g most u (e ∙ ap (took u) i) h)

module _ (most : ℕ) (w : Layout) (s : List ℕ) (at : ℕ) (u : Unsigned (avm most)) (e : read (unsigned (avm most)) s 0 ≡ took u at) (h : w ≡ layout most u)
    (x : Result (ℕ × ℕ) Refusal) (p : x ≡ valued (integer 4) s at) where
  abbrev Wanting-here : List Want
  Wanting-here = wants (avm most) u

  count-short : (d : Refusal) (z : Result ℕ Refusal) → x ≡ Err d → z ≡ Err d → z ≡ ended (credentials Wanting-here) s at
  unfolding credentials Credentials.layout pieces constant
  count-short d z q g = W.on-integer-refused 4 s at z Err _ x d p q g

  count-other : (c i : ℕ) → x ≡ Ok (c, i) → (c ≡ w.credentials_count → ⊥) → Err (by wrong_count at) ≡ ended (credentials Wanting-here) s at
  unfolding credentials Credentials.layout pieces constant wants
  count-other c i q o =
      W.on_value 4 s at _ Err _ x c i p q
      (W.if-ne c (length Wanting-here) _ _ _ (λ j. o (j ∙ sym (ap (λ (v : Layout). v.credentials_count) h))) refl)

  count_same : (c i : ℕ) (r : Result ℕ Refusal) → x ≡ Ok (c, i) → c ≡ w.credentials_count → Slice s → Beside w.type_id s (first_wanting w) c i r
      → r ≡ ended (credentials Wanting-here) s at
  unfolding credentials Credentials.layout pieces constant wants
  count_same c i r q o b d =
      let counts : c ≡ length Wanting-here = o ∙ ap (λ (v : Layout). v.credentials_count) h in
      let here : Wants most s w.type_id (first_wanting w) Wanting-here =
      subst (λ (v : Layout). Wants most s v.type_id (first_wanting v) Wanting-here) (sym h) (first-wants most s u at b e) in
      W.on_value 4 s at _ Err _ x c i p q (W.if-eq c (length Wanting-here) _ _ _ counts (d most Wanting-here here (sym counts)))

-- for any unsigned part that was read with this layout
module _ (w : Layout) (s : List ℕ) (b : Slice s) (x : Result (ℕ × ℕ) Refusal) (p : x ≡ valued (integer 4) s w.credentials_at) where
  pub counted-short : (d : Refusal) (z : Result ℕ Refusal) → x ≡ Err d → z ≡ Err d → CredentialsAt w s z
  counted-short d z q g = on-place w s b x p z (λ most u e h. count-short most w s _ u e h x p d z q g)

  pub counted-other : (c i : ℕ) → x ≡ Ok (c, i) → (c ≡ w.credentials_count → ⊥) → (f : Refusal) → f ≡ by wrong_count w.credentials_at
      → CredentialsAt w s (Err f)
  counted-other c i q o f g =
      subst (λ (e : Refusal). CredentialsAt w s (Err e)) (sym g) (on-place w s b x p _ (λ most u e h. count-other most w s _ u e h x p c i q o))

  pub counted_same : (c i : ℕ) (r : Result ℕ Refusal) → x ≡ Ok (c, i) → c ≡ w.credentials_count → (from : Wanting) → from ≡ first_wanting w
      → Beside w.type_id s from c i r → CredentialsAt w s r
  counted_same c i r q o from f d =
      on-place w s b x p r (λ most u e h. count_same most w s _ u e h x p c i r q o b (subst (λ (from : Wanting). Beside w.type_id s from c i r) f d))
