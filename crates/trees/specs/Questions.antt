-- 01's questions on two labels, by their codes alone. Entries are of any type, with a start, an end and a parent start.
-- Assumes nothing.
use Rattle.std.specs.Prelude.{◌≡◌, ◌≢◌, []}
use Rattle.digits.specs.Order.{Digits, Below}

-- 01, Order: by start
abbrev pub OrderCodes : {A : Type 0} → (st : A → Digits) → A → A → Type 0
OrderCodes st u v = Below (st u) (st v)

-- 01, Above: u's start below v's and v's end below u's
abbrev pub AboveCodes : {A : Type 0} → (st en : A → Digits) → A → A → Type 0
AboveCodes st en u v = Below (st u) (st v) × Below (en v) (en u)

module _ {A : Type 0} (st ps : A → Digits) where
  -- 01, Parent: v's parent start is not empty and equals u's start
  abbrev pub ParentCodes : A → A → Type 0
  ParentCodes u v = (ps v ≢ []) × (ps v ≡ st u)

  -- 01, Sibling: both parent starts non-empty and equal, starts different
  pub record SiblingCodes (u v : A) : Type 0 where
    pub left : ps u ≢ []
    pub right : ps v ≢ []
    pub equal : ps u ≡ ps v
    pub different : st u ≢ st v
