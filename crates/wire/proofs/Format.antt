-- Laws of any format: two continuations that agree, the part that a value is, and that what is read is unique
use mathlib.Core.Path.{◌≡◌, refl, sym, ap, ◌∙◌}
use Prim.Native.Nat.{ℕ, ◌+◌, ◌-◌}
use native.Mathlib.Omega.{arith}
use native.Mathlib.Nat.{zero-add}
use mathlib.Core.List.{List, [], ◌++◌, append-nil}
use lib.ListN.{length, take, drop, take-append-drop}
use lib.Seq.{take_at}
use Rattle.wire.specs.declared.Refusal.{Refusal}
use Rattle.wire.specs.Bytes.{Bytes, between}
use Rattle.wire.specs.Format.{Format, Parsed, took, refused, on_result, Stands, read}

result-alike : {A R : Type 0} (o : Parsed A) (stop : Refusal → R) (go on : A → ℕ → R) → ((a : A) (m : ℕ) → o ≡ took a m → go a m ≡ on a m)
    → on_result o stop go ≡ on_result o stop on
result-alike (took a m) stop go on q = q a m refl
result-alike (refused e) stop go on q = refl

-- two continuations that agree on what is read give the same result
pub parse-alike-read : {A R : Type 0} (F : Format A) (s : List ℕ) (at : ℕ) (stop : Refusal → R) (go on : A → ℕ → R)
    → ((a : A) (m : ℕ) → read F s at ≡ took a m → go a m ≡ on a m) → F.parse s at stop go ≡ F.parse s at stop on
parse-alike-read F s at stop go on q = F.same s at stop go ∙ result-alike (read F s at) stop go on q ∙ sym (F.same s at stop on)

pub parse-alike : {A R : Type 0} (F : Format A) (s : List ℕ) (at : ℕ) (stop : Refusal → R) (go on : A → ℕ → R)
    → ((a : A) (m : ℕ) → go a m ≡ on a m) → F.parse s at stop go ≡ F.parse s at stop on
parse-alike F s at stop go on q = parse-alike-read F s at stop go on (λ a m e. q a m)

-- the written bytes of a value are the part of s where it stands
pub stands-part : (s : List ℕ) (at : ℕ) (w : List ℕ) (next : ℕ) → Stands s at w next → w ≡ between at next s
stands-part s at w next h = rw h.there (sym (take_at w (drop next s) (next - at) (omega arith)))

-- ---- what is read is unique

-- a value of a format is read wherever its written bytes stand
pub read-complete : {A : Type 0} (F : Format A) (s : List ℕ) (at : ℕ) (v : A) (t : List ℕ) → F.Good v → drop at s ≡ F.write v ++ t
    → read F s at ≡ took v (at + length (F.write v))
read-complete F s at v t = F.complete s at v t refused took

-- no two values have the same written bytes
pub write-inj : {A : Type 0} (F : Format A) (u v : A) → F.Good u → F.Good v → F.write u ≡ F.write v → u ≡ v
write-inj F u v gu gv e =
    let a = read-complete F (F.write u) 0 u [] gu (sym (append-nil (F.write u))) in
    let b = read-complete F (F.write u) 0 v [] gv (e ∙ sym (append-nil (F.write v))) in
    cc

-- a value is read in the same way from any bytes with the same first n
pub local : {A : Type 0} (F : Format A) (s t : List ℕ) (v : A) (n : ℕ) → Bytes s → read F s 0 ≡ took v n → take n t ≡ take n s → read F t 0 ≡ took v n
local F s t v n bs e h =
    let (g, w) = F.sound s 0 v n bs e in
    let len : length (F.write v) ≡ n = sym (w.ends ∙ zero-add (length (F.write v))) in
    let alike : take n t ≡ F.write v = h ∙ ap (take n) w.there ∙ take_at (F.write v) (drop n s) n len in
    read-complete F t 0 v (drop n t) g (sym (take-append-drop n t) ∙ ap (λ (r : List ℕ). r ++ drop n t) alike)
    ∙ ap (took v) (zero-add (length (F.write v)) ∙ len)
