-- The check of entries in document order: an entry is sound when its row of children is, and a row when each entry in it is.
-- Entries are of any type, with a start and an end; what is asked of one entry in its place is a test.
-- Assumes nothing.
use Rattle.std.specs.Prelude.{◌≡◌, Bool, true, false, cond, ◌&&◌, List, [], ◌∷◌, ℕ, zero, suc, pred, ◌<◌, length}
use Rattle.digits.specs.Order.{Digits, Below, is_below}
use Rattle.digits.specs.Code.{Under}

-- below a right side as a test; everything is below an open one
abbrev pub is_under : Digits → Digits → Bool
is_under x [] = true
is_under x (b ∷ y) = is_below x (b ∷ y)

-- the entries behind a row that is sound, or a fault
pub data Rest (A : Type 0) : Type 0 where
  rest : List A → Rest A
  fault : Rest A

abbrev pub then_from : {A : Type 0} → Rest A → (List A → Rest A) → Rest A
then_from (rest xs) k = k xs
then_from fault k = fault

-- nothing is left
abbrev pub is_whole : {A : Type 0} → Rest A → Bool
is_whole (rest []) = true
is_whole (rest (x ∷ xs)) = false
is_whole fault = false

-- 01, Register, of one entry in its place: k levels left, parent start p, strictly between the sides l and r
pub record InPlace {A : Type 0} (Code : Digits → Type 0) (st en ps : A → Digits) (k : ℕ) (p l r : Digits) (x : A) : Type 0 where
  pub deep : 0 < k
  pub start_code : Code (st x)
  pub end_code : Code (en x)
  pub above : Below l (st x)
  pub inner : Below (st x) (en x)
  pub under : Under (en x) r
  pub parented : ps x ≡ p

module _ {A : Type 0} (st en : A → Digits) (ok : ℕ → Digits → Digits → Digits → A → Bool) where
  -- a row of k levels, parent start p, between the sides l and r, at most n entries deep and long: an entry that does not start below r
  -- ends the row; any other has to be in its place, with a sound row of children between its start and its end
  unfoldable pub walk_row : ℕ → ℕ → Digits → Digits → Digits → List A → Rest A
  walk_row zero k p l r xs = fault
  walk_row (suc n) k p l r [] = rest []
  walk_row (suc n) k p l r (x ∷ xs) =
      cond (is_under (st x) r)
      (cond (ok k p l r x)
      (then_from (walk_row n (pred k) (st x) (st x) (en x) xs) (λ ys. walk_row n k p (en x) r ys))
      fault)
      (rest (x ∷ xs))

  -- as many steps as there are entries are enough
  abbrev pub row_walk : ℕ → Digits → Digits → Digits → List A → Rest A
  row_walk k p l r xs = walk_row (suc (length xs)) k p l r xs

  -- 01, Register: one root, with nothing in front of it, and all entries used up
  abbrev pub is_tree_walk : ℕ → List A → Bool
  is_tree_walk k [] = false
  is_tree_walk k (x ∷ xs) = ok k [] [] [] x && is_whole (row_walk (pred k) (st x) (st x) (en x) xs)
