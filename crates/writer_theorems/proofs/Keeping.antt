-- The invariant of the buffer between the steps of a run, which every step keeps. Assumes nothing.
use Prim.Native.Nat.{ℕ, ◌+◌, ◌-◌, ◌≤◌, ◌<◌, ◌^◌}
use mathlib.Core.Path.{◌≡◌, refl, sym, ap, ◌∙◌, subst}
use mathlib.Core.Bool.{false}
use mathlib.Core.List.{List, [], ◌∷◌, ◌++◌, append_assoc, append-nil}
use native.Mathlib.Omega.{arith}
use lib.ListN.{length, take, drop, length-append}
use lib.Seq.{length-take-le, take_at, drop_at}
use lib.Dec.{eqb}
use borrow.Author.Tests.{le-leb, leb-true, ne_eqb}
use Rattle.wire.specs.Bytes.{digits}
use Rattle.wire.specs.laws.Bytes.{length_digits}
use Rattle.wire.specs.Format.{Format}
use Rattle.wire.specs.Fields.{integer}
use Rattle.wire.specs.Sequence.{guard, named, and_then, only, items}
use Rattle.wire.specs.Series.{left, count_prefixed}
use Rattle.wire.specs.Parsers.{Chain, list_write}
use Rattle.transaction.specs.Signed.{most_bytes}
use Rattle.transaction.specs.Plan.{Elements, Content, content_of, elements_of, Plan, shut, end, field, many}
use Rattle.transaction.specs.Form.{at_least, list_of, Value, form}
use Rattle.transaction.specs.declared.FieldName.{FieldName}
use Rattle.transaction.specs.declared.ListName.{ListName}
use Rattle.writer_buffer.specs.Stores.{overwrite}
use Rattle.writer_buffer.proofs.Stores.{take-overwrite, length-overwrite, overwrite-middle}
use Rattle.writer.specs.declared.Writer.{Writer}
use Rattle.writer.specs.Steps.{prev, grown, appended, opening, opened}

-- ---- lists that grow at their end

module _ {A : Type 0} (E : List ℕ → Format A) where
  -- the bytes of the last element, or p if there is none
  abbrev pub leaves : List ℕ → List A → List ℕ
  leaves p [] = p
  leaves p (a ∷ l) = leaves ((E p).write a) l

  pub chain_snoc : (p : List ℕ) (l : List A) (a : A) → Chain E (left E) p l → (E (leaves p l)).Good a → Chain E (left E) p (l ++ (a ∷ []))
  chain_snoc p [] a h g = (g, tt)
  chain_snoc p (x ∷ l) a (h, hs) g = (h, chain_snoc ((E p).write x) l a hs g)

  pub write-snoc : (p : List ℕ) (l : List A) (a : A) → list_write E (left E) p (l ++ (a ∷ [])) ≡ list_write E (left E) p l ++ (E (leaves p l)).write a
  unfolding list_write
  write-snoc p [] a = append-nil ((E p).write a)
  write-snoc p (x ∷ l) a =
      let w : List ℕ = (E p).write x in
      ap (λ r. w ++ r) (write-snoc w l a) ∙ sym (append_assoc w (list_write E (left E) w l) ((E (leaves w l)).write a))

  pub leaves-snoc : (p : List ℕ) (l : List A) (a : A) → leaves p (l ++ (a ∷ [])) ≡ (E (leaves p l)).write a
  leaves-snoc p [] a = refl
  leaves-snoc p (x ∷ l) a = leaves-snoc ((E p).write x) l a

abbrev pub listed : (E : Elements) → List E.Element → List ℕ
listed E l = list_write E.element (left E.element) [] l

-- a list may be closed exactly if it is a value of its format
module _ (E : Elements) (least : ℕ) (l : List E.Element) where
  pub list-good : Chain E.element (left E.element) [] l → length l < 256 ^ 4 → least ≤ length l → (at_least least E.element).Good l
  unfolding at_least count_prefixed named and_then guard items integer
  list-good c f n = ((f, le-leb least (length l) n), (refl, c))

  pub list-inv : (at_least least E.element).Good l → Chain E.element (left E.element) [] l × (least ≤ length l)
  unfolding at_least count_prefixed named and_then guard items integer
  list-inv g = (g.1.1, leb-true least (length l) g.0.1)

  pub list-write : (at_least least E.element).write l ≡ digits 4 (length l) ++ listed E l
  unfolding at_least count_prefixed named and_then guard items integer
  list-write = refl

-- a list has at most as many elements as bytes
pub elements-le : (E : Elements) (p : List ℕ) (l : List E.Element) → Chain E.element (left E.element) p l
    → length l ≤ length (list_write E.element (left E.element) p l)
unfolding list_write
elements-le E p [] h = omega arith
elements-le E p (a ∷ l) (h, hs) =
    let w : List ℕ = (E.element p).write a in
    omega (arith, elements-le E w l hs, E.non_empty p a h, length-append w (list_write E.element (left E.element) w l))

-- ---- the bytes written

-- the bytes written are b
pub record Here (w : Writer) (s b : List ℕ) : Type 0 where
  pub fits : w.at ≤ length s
  pub small : w.at ≤ most_bytes
  pub stands : take w.at s ≡ b

pub here-at : (w : Writer) (s b : List ℕ) → Here w s b → w.at ≡ length b
here-at w s b h = sym (length-take-le w.at s h.fits) ∙ ap length h.stands

-- the bytes written are b, then the count and the elements of the open list
pub record Open (E : Elements) (w : Writer) (s b : List ℕ) (l : List E.Element) : Type 0 where
  pub here : Here w s (b ++ (digits 4 w.count ++ listed E l))
  pub place : w.list ≡ length b
  pub number : w.count ≡ length l
  pub chain : Chain E.element (left E.element) [] l
  pub before : prev w s ≡ leaves E.element [] l
  pub inside : w.last ≤ w.at

-- b is what is done; if a list is due, its count and its elements so far follow
abbrev pub Stays : Plan → Writer → List ℕ → List ℕ → Type 0
Stays shut w s b = Unit {0}
Stays end w s b = Here w s b
Stays (field f q) w s b = Here w s b
Stays (many l least q) w s b = (es : List (elements_of l).Element) × Open (elements_of l) w s b es

-- nothing is written yet of the segment that is due, except an open list's count of 0
abbrev pub Begun : Plan → Writer → List ℕ → List ℕ → Type 0
Begun shut w s b = Unit {0}
Begun end w s b = Here w s b
Begun (field f q) w s b = Here w s b
Begun (many l least q) w s b = Open (elements_of l) w s b []

pub begun-stays : (q : Plan) (w : Writer) (s b : List ℕ) → Begun q w s b → Stays q w s b
begun-stays shut w s b h = tt
begun-stays end w s b h = h
begun-stays (field f q) w s b h = h
begun-stays (many l least q) w s b h = ([], h)

-- ---- one more element

module _ (E : Elements) (w : Writer) (s b : List ℕ) (es : List E.Element) (h : Open E w s b es) where
  pub open_at : w.at ≡ length b + (4 + length (listed E es))
  open_at =
      omega (
        arith,
        here-at w s (b ++ (digits 4 w.count ++ listed E es)) h.here,
        length-append b (digits 4 w.count ++ listed E es),
        length-append (digits 4 w.count) (listed E es),
        length_digits 4 w.count,
      )

  pub open-few : length es + (4 + length b) ≤ w.at
  open-few = omega (arith, elements-le E [] es h.chain, open_at)

  module _ (v : E.Element) (g : (E.element (leaves E.element [] es)).Good v)
      (ys : List ℕ) (e : (E.element (leaves E.element [] es)).write v ≡ ys)
      (f : w.at + length ys ≤ length s) (k : w.at + length ys ≤ most_bytes) where
    beyond : List ℕ
    beyond = drop (length ys) (drop w.at s)

    appended-is : appended w s ys ≡ b ++ (digits 4 (w.count + 1) ++ (listed E es ++ (ys ++ beyond)))
    unfolding appended overwrite beyond
    appended-is =
        let C : List ℕ = digits 4 w.count in
        let D : List ℕ = digits 4 (w.count + 1) in
        let L : List ℕ = listed E es in
        let rest : List ℕ = ys ++ drop (length ys) (drop w.at s) in
        let whole : overwrite s w.at ys ≡ b ++ (C ++ (L ++ rest)) =
        ap (λ x. x ++ rest) h.here.stands ∙ append_assoc b (C ++ L) rest ∙ ap (λ x. b ++ x) (append_assoc C L rest) in
        ap (λ x. overwrite x w.list D) whole
        ∙ overwrite-middle b C D (L ++ rest) w.list (sym h.place) (length_digits 4 w.count ∙ sym (length_digits 4 (w.count + 1)))

    pub open_more : Open E (grown w (length ys)) (appended w s ys) b (es ++ (v ∷ []))
    unfolding grown prev
    open_more =
        let D : List ℕ = digits 4 (w.count + 1) in
        let L : List ℕ = listed E es in
        let o = open_at in
        let d = length_digits 4 (w.count + 1) in
        let front : length (b ++ (D ++ L)) ≡ w.at = omega (arith, length-append b (D ++ L), length-append D L) in
        let shape : appended w s ys ≡ (b ++ (D ++ L)) ++ (ys ++ beyond) =
        appended-is ∙ sym (append_assoc b (D ++ L) (ys ++ beyond) ∙ ap (λ x. b ++ x) (append_assoc D L (ys ++ beyond))) in
        let grew : listed E (es ++ (v ∷ [])) ≡ L ++ ys = write-snoc E.element [] es v ∙ ap (λ z. L ++ z) e in
        let shape₂ : appended w s ys ≡ (b ++ (D ++ listed E (es ++ (v ∷ [])))) ++ beyond =
        appended-is ∙ ap (λ z. b ++ (D ++ z)) (sym (append_assoc L ys beyond)) ∙ ap (λ z. b ++ z) (sym (append_assoc D (L ++ ys) beyond))
        ∙ sym (append_assoc b (D ++ (L ++ ys)) beyond)
        ∙ ap (λ z. (b ++ (D ++ z)) ++ beyond) (sym grew) in
        let all : length (b ++ (D ++ listed E (es ++ (v ∷ [])))) ≡ w.at + length ys =
        omega (arith, length-append b (D ++ listed E (es ++ (v ∷ []))), length-append D (listed E (es ++ (v ∷ []))), ap length grew, length-append L ys) in
        let some : eqb (w.count + 1) 0 ≡ false = ne_eqb (w.count + 1) 0 (λ z. omega arith) in
        let long : w.at + length ys - w.at ≡ length ys = omega arith in
        record {
          here = record {
            fits = omega (arith, ap length shape₂, length-append (b ++ (D ++ listed E (es ++ (v ∷ [])))) beyond);
            small = k;
            stands = ap (take (w.at + length ys)) shape₂ ∙ take_at (b ++ (D ++ listed E (es ++ (v ∷ [])))) beyond (w.at + length ys) all;
          };
          place = h.place;
          number = omega (arith, h.number, length-append es (v ∷ []));
          chain = chain_snoc E.element [] es v h.chain g;
          before =
              rw (some, long, shape, drop_at (b ++ (D ++ L)) (ys ++ beyond) w.at front, take_at ys beyond (length ys) refl)
              (sym (leaves-snoc E.element [] es v ∙ e));
          inside = omega arith;
        }

  -- a list that is closed is a good value, and its bytes are written
  pub closed : (least : ℕ) → least ≤ w.count → (at_least least E.element).Good es × Here w s (b ++ (at_least least E.element).write es)
  closed least n =
      let same : digits 4 w.count ++ listed E es ≡ (at_least least E.element).write es =
      ap (λ (k : ℕ). digits 4 k ++ listed E es) h.number ∙ sym (list-write E least es) in
      let good : (at_least least E.element).Good es =
      list-good E least es h.chain (omega (arith, open-few, h.here.small, h.number)) (omega (arith, h.number)) in
      (good, subst (λ (z : List ℕ). Here w s (b ++ z)) same h.here)

-- ---- the next segment becomes due

module _ (type phase : ℕ) (w : Writer) (s b : List ℕ) (h : Here w s b) (ys : List ℕ) where
  begin-here : (q : Plan) → w.at + length (ys ++ opening q) ≤ length s → w.at + length (ys ++ opening q) ≤ most_bytes
      → Here (opened type phase (w.at + length ys) q) (overwrite s w.at (ys ++ opening q)) (b ++ (ys ++ opening q))
  begin-here q f k =
      let n = length-append ys (opening q) in
      let there : w.at + length ys + length (opening q) ≡ w.at + length (ys ++ opening q) = omega arith in
      record {
        fits = omega (arith, length-overwrite s (ys ++ opening q) w.at f);
        small = omega arith;
        stands =
            ap (λ (i : ℕ). take i (overwrite s w.at (ys ++ opening q))) there
            ∙ take-overwrite s (ys ++ opening q) w.at h.fits
            ∙ ap (λ (z : List ℕ). z ++ (ys ++ opening q)) h.stands;
      }

  pub begin : (q : Plan) → w.at + length (ys ++ opening q) ≤ length s → w.at + length (ys ++ opening q) ≤ most_bytes
      → Begun q (opened type phase (w.at + length ys) q) (overwrite s w.at (ys ++ opening q)) (b ++ ys)
  unfolding prev list_write
  begin shut f k = tt
  begin end f k =
      subst (λ (z : List ℕ). Here (opened type phase (w.at + length ys) end) (overwrite s w.at (ys ++ [])) (b ++ z)) (append-nil ys) (begin-here end f k)
  begin (field i q) f k =
      subst (λ (z : List ℕ). Here (opened type phase (w.at + length ys) (field i q)) (overwrite s w.at (ys ++ [])) (b ++ z)) (append-nil ys)
      (begin-here (field i q) f k)
  begin (many l least q) f k =
      let same : b ++ (ys ++ digits 4 0) ≡ (b ++ ys) ++ (digits 4 0 ++ []) =
      sym (append_assoc b ys (digits 4 0)) ∙ ap (λ (z : List ℕ). (b ++ ys) ++ z) (sym (append-nil (digits 4 0))) in
      record {
        here =
            subst (Here (opened type phase (w.at + length ys) (many l least q)) (overwrite s w.at (ys ++ digits 4 0))) same
            (begin-here (many l least q) f k);
        place = omega (arith, here-at w s b h, length-append b ys);
        number = refl;
        chain = tt;
        before = refl;
        inside = omega arith;
      }

-- ---- from a value of the segments still to come to a value of all segments, with memos of at most `most` bytes

module _ (most : ℕ) where
  abbrev pub Reach : Plan → List ℕ → Plan → List ℕ → Type 0
  Reach p H q b = (v : Value q) → (form most q).Good v → (u : Value p) × (form most p).Good u × (H ++ (form most p).write u ≡ b ++ (form most q).write v)

  module _ (p : Plan) (H b : List ℕ) where
    pub reach-field : (f : FieldName) (q : Plan) → Reach p H (field f q) b → (x : Content f) → (content_of most f).Good x
        → Reach p H q (b ++ (content_of most f).write x)
    unfolding form and_then
    reach-field f q r x g v gv =
        let (u, gu, e) = r (x, v) (g, gv) in
        (u, gu, e ∙ sym (append_assoc b ((content_of most f).write x) ((form most q).write v)))

    pub reach-list : (l : ListName) (least : ℕ) (q : Plan) → Reach p H (many l least q) b → (x : List (elements_of l).Element) → (list_of l least).Good x
        → Reach p H q (b ++ (list_of l least).write x)
    unfolding form and_then
    reach-list l least q r x g v gv =
        let (u, gu, e) = r (x, v) (g, gv) in
        (u, gu, e ∙ sym (append_assoc b ((list_of l least).write x) ((form most q).write v)))

    pub reach-shut : Reach p H end b → Reach p H shut b
    unfolding form only
    reach-shut r v g = r v g
