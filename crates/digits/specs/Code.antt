-- Codes over an alphabet: a least digit and a number of symbols. 01's codes have the least digit 1 and three symbols.
-- Assumes nothing.
use Rattle.std.specs.Prelude.{Bool, false, ◌&&◌, List, [], ◌∷◌, ℕ, ◌+◌, ◌^◌, ◌≤◌, ◌<◌, leb, ltb, length}
use Rattle.digits.specs.Order.{Digits, Below}

-- 01, Code, without its largest length: every digit is a symbol, and the last is not the least one
abbrev pub Formed : (least symbols : ℕ) → Digits → Type 0
Formed least symbols [] = ⊥
Formed least symbols (x ∷ []) = (least < x) × (x < least + symbols)
Formed least symbols (x ∷ y ∷ ys) = (least ≤ x) × (x < least + symbols) × Formed least symbols (y ∷ ys)

-- the form as a test that computes
abbrev pub is_formed : (least symbols : ℕ) → Digits → Bool
is_formed least symbols [] = false
is_formed least symbols (x ∷ []) = ltb least x && ltb x (least + symbols)
is_formed least symbols (x ∷ y ∷ ys) = leb least x && ltb x (least + symbols) && is_formed least symbols (y ∷ ys)

-- a code of at most h digits
pub record Within (least symbols h : ℕ) (x : Digits) : Type 0 where
  pub formed : Formed least symbols x
  pub fits : length x ≤ h

abbrev pub is_within : (least symbols h : ℕ) → Digits → Bool
is_within least symbols h x = is_formed least symbols x && leb (length x) h

-- a code's form, or nothing at all: an open side
abbrev pub Side : (least symbols : ℕ) → Digits → Type 0
Side least symbols [] = Unit {0}
Side least symbols (x ∷ xs) = Formed least symbols (x ∷ xs)

-- below a right side; everything is below an open one
abbrev pub Under : Digits → Digits → Type 0
Under x [] = Unit {0}
Under x (b ∷ y) = Below x (b ∷ y)

-- strictly rising from a left side to a right side
abbrev pub Rising : Digits → List Digits → Digits → Type 0
Rising l [] r = Under l r
Rising l (x ∷ xs) r = Below l x × Rising x xs r

-- demand 3: m is the least number of digits whose power of the number of symbols is above n
pub record Enough (symbols n m : ℕ) : Type 0 where
  pub above : n < symbols ^ m
  pub least : (h : ℕ) → n < symbols ^ h → m ≤ h
