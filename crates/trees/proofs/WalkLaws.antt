-- Laws of the walk along a row of entries: its steps, the forest it reads, what is left, that more fuel makes no difference.
-- Assumes nothing.
use mathlib.Core.Path.{◌≡◌, refl, sym, ap, subst, ◌∙◌}
use mathlib.Core.Logic.{◌⊎◌, inl, inr}
use mathlib.Core.Bool.{Bool, true, false, cond}
use mathlib.Core.List.{List, [], ◌∷◌, ◌++◌, append_assoc}
use Prim.Native.Nat.{ℕ, zero, suc, pred, ◌-◌, ◌≤◌, ◌<◌}
use native.Mathlib.Omega.{arith}
use lib.Dec.{T}
use lib.ListN.{length, drop, length-append}
use lib.Seq.{drop_at}
use Rattle.digits.specs.Order.{Digits}
use Rattle.digits.specs.Code.{Under}
use Rattle.digits.proofs.OrderLaws.{is_below_gives, is_below_true, is_below_false}
use Rattle.trees.specs.Forest.{Forest, nil, node, preorder}
use Rattle.trees.specs.Check.{is_under, Rest, rest, fault, then_from, is_whole, walk_row, row_walk}

-- the test of a right side
pub is_under_gives : (x y : Digits) → is_under x y ≡ true → Under x y
is_under_gives x [] e = tt
is_under_gives x (b ∷ y) e = is_below_gives x (b ∷ y) (subst T (sym e) tt)

pub gives_is_under : (x y : Digits) → Under x y → is_under x y ≡ true
gives_is_under x [] h = refl
gives_is_under x (b ∷ y) h = is_below_true x (b ∷ y) h

pub gives_is_beyond : (x y : Digits) → (Under x y → ⊥) → is_under x y ≡ false
gives_is_beyond x [] h = absurd (h tt)
gives_is_beyond x (b ∷ y) h = is_below_false x (b ∷ y) h

module _ {A : Type 0} where
  fault≢rest : {xs : List A} → fault ≡ rest xs → ⊥
  fault≢rest e = let z : ◌≡◌ {A = ℕ} 0 1 = cc in omega arith

  -- where an answer of a step that is no fault comes from: the row ended, or its first entry was taken, and zs left by its children
  step_rest : (u o : Bool) (m : Rest A) (g : List A → Rest A) (xs ys : List A) → cond u (cond o (then_from m g) fault) (rest xs) ≡ rest ys
      → (xs ≡ ys) ⊎ ((o ≡ true) × (zs : List A) × (m ≡ rest zs) × (g zs ≡ rest ys))
  step_rest false o m g xs ys e = inl cc
  step_rest true false m g xs ys e = absurd (fault≢rest e)
  step_rest true true fault g xs ys e = absurd (fault≢rest e)
  step_rest true true (rest zs) g xs ys e = inr (refl, zs, refl, e)

  then_same : (m : Rest A) (g h : List A → Rest A) → ((ys : List A) → m ≡ rest ys → g ys ≡ h ys) → then_from m g ≡ then_from m h
  then_same (rest ys) g h e = e ys refl
  then_same fault g h e = refl

  pub is_whole_gives : (m : Rest A) → is_whole m ≡ true → m ≡ rest []
  is_whole_gives (rest []) e = refl
  is_whole_gives (rest (x ∷ xs)) e = cc
  is_whole_gives fault e = cc

module _ {A : Type 0} (st en : A → Digits) (ok : ℕ → Digits → Digits → Digits → A → Bool) where
  -- a forest whose entries the test takes, each in its place
  abbrev pub Good : ℕ → Digits → Digits → Digits → Forest A → Type 0
  Good k p l r nil = Unit {0}
  Good k p l r (node x c s) = (ok k p l r x ≡ true) × Good (pred k) (st x) (st x) (en x) c × Good k p (en x) r s

  -- the entries xs are those of such a forest, and then ys
  pub record Read (k : ℕ) (p l r : Digits) (xs ys : List A) : Type 0 where
    pub row : Forest A
    pub entries : preorder row ++ ys ≡ xs
    pub good : Good k p l r row

  read_on : (k : ℕ) (p l r : Digits) (x : A) (xs ys zs : List A) → ok k p l r x ≡ true → Read (pred k) (st x) (st x) (en x) xs zs
      → Read k p (en x) r zs ys
      → Read k p l r (x ∷ xs) ys
  read_on k p l r x xs ys zs e c s =
      let f = c.row in
      let g = s.row in
      let q : (preorder f ++ preorder g) ++ ys ≡ xs =
      append_assoc (preorder f) (preorder g) ys ∙ ap (λ us. preorder f ++ us) s.entries ∙ c.entries
      in
      record { row = node x f g; entries = cc q; good = (e, c.good, s.good) }

  -- what the walk reads
  pub walk_read : (n k : ℕ) (p l r : Digits) (xs ys : List A) → walk_row st en ok n k p l r xs ≡ rest ys → Read k p l r xs ys
  unfolding walk_row
  walk_read zero k p l r xs ys e = absurd (fault≢rest e)
  walk_read (suc n) k p l r [] ys e = record { row = nil; entries = cc e; good = tt }
  walk_read (suc n) k p l r (x ∷ xs) ys e = go (walk_read n) (step_rest (is_under (st x) r) (ok k p l r x) _ _ (x ∷ xs) ys e)
    where
      go : ((k : ℕ) (p l r : Digits) (xs ys : List A) → walk_row st en ok n k p l r xs ≡ rest ys → Read k p l r xs ys)
          → (x ∷ xs ≡ ys)
          ⊎ ((ok k p l r x ≡ true)
          × (zs : List A)
          × (walk_row st en ok n (pred k) (st x) (st x) (en x) xs ≡ rest zs)
          × (walk_row st en ok n k p (en x) r zs ≡ rest ys))
          → Read k p l r (x ∷ xs) ys
      go read (inl q) = record { row = nil; entries = sym q; good = tt }
      go read (inr (o, zs, c, s)) =
          read_on k p l r x xs ys zs o (read (pred k) (st x) (st x) (en x) xs zs c) (read k p (en x) r zs ys s)

  -- what is left is an end of the list
  walk_rest : (n k : ℕ) (p l r : Digits) (xs ys : List A) → walk_row st en ok n k p l r xs ≡ rest ys
      → (length ys ≤ length xs) × (drop (length xs - length ys) xs ≡ ys)
  walk_rest n k p l r xs ys e =
      let t = walk_read n k p l r xs ys e in
      let us = preorder t.row in
      let q = ap length (sym t.entries) ∙ length-append us ys in
      (omega arith, subst (λ zs. drop (length xs - length ys) zs ≡ ys) t.entries (drop_at us ys (length xs - length ys) (omega arith)))

  pub row_rest : (k : ℕ) (p l r : Digits) (xs ys : List A) → row_walk st en ok k p l r xs ≡ rest ys
      → (length ys ≤ length xs) × (drop (length xs - length ys) xs ≡ ys)
  row_rest k p l r xs = walk_rest (suc (length xs)) k p l r xs

  -- more steps than entries are enough
  walk_enough : (n m k : ℕ) (p l r : Digits) (xs : List A) → length xs < n → length xs < m
      → walk_row st en ok n k p l r xs ≡ walk_row st en ok m k p l r xs
  unfolding walk_row
  walk_enough zero m k p l r xs h i = absurd (omega arith)
  walk_enough (suc n) zero k p l r xs h i = absurd (omega arith)
  walk_enough (suc n) (suc m) k p l r [] h i = refl
  walk_enough (suc n) (suc m) k p l r (x ∷ xs) h i =
      let c = walk_enough n m (pred k) (st x) (st x) (en x) xs (omega arith) (omega arith) in
      let s =
      then_same (walk_row st en ok m (pred k) (st x) (st x) (en x) xs) (walk_row st en ok n k p (en x) r) (walk_row st en ok m k p (en x) r)
      (λ ys e. let q = walk_rest m (pred k) (st x) (st x) (en x) xs ys e in
      walk_enough n m k p (en x) r ys (omega arith) (omega arith))
      in
      ap (λ t. cond (is_under (st x) r) (cond (ok k p l r x) t fault) (rest (x ∷ xs)))
      (ap (λ t. then_from t (walk_row st en ok n k p (en x) r)) c ∙ s)

  -- the steps with no count of steps
  pub row_none : (k : ℕ) (p l r : Digits) → row_walk st en ok k p l r [] ≡ rest []
  unfolding walk_row
  row_none k p l r = refl

  module _ (k : ℕ) (p l r : Digits) (x : A) (xs : List A) where
    pub row_out : is_under (st x) r ≡ false → row_walk st en ok k p l r (x ∷ xs) ≡ rest (x ∷ xs)
    unfolding walk_row
    row_out u = rw u refl

    pub row_bad : is_under (st x) r ≡ true → ok k p l r x ≡ false → row_walk st en ok k p l r (x ∷ xs) ≡ fault
    unfolding walk_row
    row_bad u o = rw (u, o) refl

    step_on : (n : ℕ) → is_under (st x) r ≡ true → ok k p l r x ≡ true
        → walk_row st en ok (suc n) k p l r (x ∷ xs)
        ≡ then_from (walk_row st en ok n (pred k) (st x) (st x) (en x) xs) (λ ys. walk_row st en ok n k p (en x) r ys)
    unfolding walk_row
    step_on n u o = rw (u, o) refl

    pub row_on : is_under (st x) r ≡ true → ok k p l r x ≡ true
        → row_walk st en ok k p l r (x ∷ xs)
        ≡ then_from (row_walk st en ok (pred k) (st x) (st x) (en x) xs) (λ ys. row_walk st en ok k p (en x) r ys)
    row_on u o =
        let n = length (x ∷ xs) in
        step_on n u o
        ∙ then_same (row_walk st en ok (pred k) (st x) (st x) (en x) xs) (walk_row st en ok n k p (en x) r) (row_walk st en ok k p (en x) r)
        (λ ys e. let q = row_rest (pred k) (st x) (st x) (en x) xs ys e in
        walk_enough n (suc (length ys)) k p (en x) r ys (omega arith) (omega arith))
