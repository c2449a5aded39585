-- The credentials that are still wanted ahead of a cursor, in an unsigned part that was read, and what the steps from one to the next return.
-- Assumes nothing.
use Rattle.wire.specs.declared.Refusal.{Refusal}
use Rattle.std.specs.Prelude.{◌≡◌, ℕ, ◌<◌, List, [], ◌∷◌, ◌++◌, length, Result, Option, None, Some}
use Rattle.wire.specs.Format.{took, read}
use Rattle.wire.specs.Series.{series_from}
use Rattle.wire.specs.code.Answer.{ended}
use Rattle.transaction.specs.Credentials.{credential_code, Want, each, pieces}
use Rattle.transaction.specs.Plan.{elements_of, Plan, many, plan_of}
use Rattle.transaction.specs.Form.{Value, form, element_asks, asked, wanted}
use Rattle.transaction.specs.declared.Layout.{Layout}
use Rattle.transaction.specs.declared.ListName.{ListName}
use Rattle.plan.specs.Due.{tail, due}
use Rattle.plan.specs.code.Rows.{Live, credential_asked}
use Rattle.credentials.specs.declared.Wanting.{Wanting}
use Rattle.credentials.specs.declared.Begun.{Begun}
use Rattle.credentials.specs.declared.Begun.TheVariants as B
use Rattle.credentials.specs.declared.Wanted.{Wanted}

module _ (most : ℕ) (s : List ℕ) where
  -- the segments of p stand from `at` on and want ws
  pub record WantsFrom (p : Plan) (at : ℕ) (ws : List Want) : Type 0 where
    pub value : Value p
    pub next : ℕ
    pub stands : read (form most p) s at ≡ took value next
    pub wants : ws ≡ wanted p value

  -- from `at` on stand c elements of a list, each asking for a credential of type `asks`, then the segments of p; together they want ws
  pub record WantsIn (asks c : ℕ) (p : Plan) (at : ℕ) (ws : List Want) : Type 0 where
    pub list : ListName
    pub type : 0 < c → asks ≡ credential_asked (elements_of list).credential
    pub asking : 0 < c → asks ≡ 0 → ⊥
    pub prev : List ℕ
    pub elements : List (elements_of list).Element
    pub next : ℕ
    pub later : List Want
    pub stands : read (series_from (elements_of list).element prev c) s at ≡ took elements next
    pub after : WantsFrom p next later
    pub wants : ws ≡ asked (element_asks list) elements ++ later

  -- the first of ws is wanted by what was just passed and has type t and n signatures; `others-are` holds of the others
  pub record First (t n : ℕ) (others-are : List Want → Type 0) (ws : List Want) : Type 0 where
    pub want : Want
    pub others : List Want
    pub all : ws ≡ want ∷ others
    pub type : t ≡ credential_code want.type
    pub signatures : n ≡ want.signatures
    pub after : others-are others

  -- what r says of ws, if it enters a segment that p follows
  abbrev pub BegunAs : Plan → List Want → Option Begun → Type 0
  BegunAs p ws None = ws ≡ []
  BegunAs p ws (Some (B.Into asks c m)) = WantsIn asks c p m ws
  BegunAs p ws (Some (B.Asks t n m)) = First t n (WantsFrom p m) ws

  module _ (type_id : ℕ) where
    -- ws are wanted ahead of a cursor, in a transaction of this type
    abbrev pub Wants : Wanting → List Want → Type 0
    Wants c ws = WantsIn c.asks c.left (due c.phase (plan_of type_id)) c.at ws

    abbrev pub Nexts : List Want → Option Wanted → Type 0
    Nexts ws None = ws ≡ []
    Nexts ws (Some w) = First w.credential w.signatures (Wants w.next) ws

abbrev pub ListBegins : ListName → List ℕ → ℕ → Option Begun → Type 0
ListBegins l s at r = (most least : ℕ) (p : Plan) (ws : List Want) → WantsFrom most s (many l least p) at ws → BegunAs most s p ws r

-- r enters the first segment of p
abbrev pub Begins : Plan → List ℕ → ℕ → Option Begun → Type 0
Begins p s at r = (most : ℕ) (ws : List Want) → WantsFrom most s p at ws → BegunAs most s (tail p) ws r

-- a segment is entered only if one is due, so that the steps end on any bytes
abbrev pub BegunLive : Plan → Option Begun → Type 0
BegunLive p None = Unit {0}
BegunLive p (Some (B.Into asks c m)) = Live p
BegunLive p (Some (B.Asks t n m)) = Live p

abbrev pub NextWants : ℕ → List ℕ → Wanting → Option Wanted → Type 0
NextWants type_id s c r = (most : ℕ) (ws : List Want) → Wants most s type_id c ws → Nexts most s type_id ws r

-- the step inside a list does not depend on the type
abbrev pub ElementWants : List ℕ → Wanting → Option Wanted → Type 0
ElementWants s c r = (type_id : ℕ) → NextWants type_id s c r

-- the cursor just past the outputs, which ask for nothing
abbrev pub first_wanting : Layout → Wanting
first_wanting l = record { phase = 2; asks = 0; at = l.inputs_at; left = 0 }

-- if `count` credentials are wanted ahead of the cursor, r is the offset just past the credentials from `at` on, or their refusal
abbrev pub Beside : ℕ → List ℕ → Wanting → ℕ → ℕ → Result ℕ Refusal → Type 0
Beside type_id s c count at r = (most : ℕ) (ws : List Want) → Wants most s type_id c ws → length ws ≡ count → r ≡ ended (pieces (each ws)) s at
