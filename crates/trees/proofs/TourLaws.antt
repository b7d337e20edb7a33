-- Laws of rising lists and rising tours: cutting a list at a code, all pairs, what a rising tour says at one node and of one entry.
-- Assumes nothing.
use mathlib.Core.Path.{◌≡◌, refl}
use mathlib.Core.Logic.{inl, inr}
use mathlib.Core.List.{List, [], ◌∷◌, ◌++◌}
use Prim.Native.Nat.{◌*◌}
use native.Mathlib.Omega.{arith}
use lib.ListN.{length, length-append}
use Rattle.digits.specs.Lists.{All}
use Rattle.digits.specs.Order.{Digits, Below}
use Rattle.digits.specs.Code.{Under, Rising}
use Rattle.digits.proofs.OrderLaws.{below_trans, below_nil, below_some}
use Rattle.digits.proofs.CodeLaws.{under_some, under_trans}
use Rattle.trees.specs.Lists.{Pairs}
use Rattle.trees.specs.Forest.{Forest, nil, node, size}
use Rattle.trees.specs.Axes.{Has}
use Rattle.trees.specs.Tour.{tour}

-- what stands above something is no open side
pub under_real : (z x y : Digits) → Below z y → Under x y → Below x y
under_real z x y b u = under_some x y (below_some z y b) u

-- a rising list is below its right side, and cut at one of its codes it rises to it and from it
pub rising_under : (l : Digits) (xs : List Digits) (r : Digits) → Rising l xs r → Under l r
rising_under l [] r h = h
rising_under l (x ∷ xs) r h = under_trans l x r h.0 (rising_under x xs r h.1)

rising_below : (l x r : Digits) (xs ys : List Digits) → Rising l (xs ++ (x ∷ ys)) r → Below l x
rising_below l x r [] ys h = h.0
rising_below l x r (z ∷ xs) ys h = below_trans l z x h.0 (rising_below z x r xs ys h.1)

rising_left : (l x r : Digits) (xs ys : List Digits) → Rising l (xs ++ (x ∷ ys)) r → Rising l xs x
rising_left l [] r [] ys h = absurd (below_nil l h.0)
rising_left l (a ∷ x) r [] ys h = h.0
rising_left l x r (z ∷ xs) ys h = (h.0, rising_left z x r xs ys h.1)

rising_right : (l x r : Digits) (xs ys : List Digits) → Rising l (xs ++ (x ∷ ys)) r → Rising x ys r
rising_right l x r [] ys h = h.1
rising_right l x r (z ∷ xs) ys h = rising_right z x r xs ys h.1

-- from link by link to all pairs
rising_all : (z l : Digits) (xs : List Digits) (r : Digits) → Below z l → Rising l xs r → All (Below z) xs
rising_all z l [] r b h = tt
rising_all z l (x ∷ xs) r b h =
    let c = below_trans z l x b h.0 in
    (c, rising_all z x xs r c h.1)

rising_first : (l : Digits) (xs : List Digits) (r : Digits) → Rising l xs r → All (Below l) xs
rising_first l [] r h = tt
rising_first l (x ∷ xs) r h = (h.0, rising_all l x xs r h.0 h.1)

pub rising_pairs : (l : Digits) (xs : List Digits) (r : Digits) → Rising l xs r → Pairs Below xs
rising_pairs l [] r h = tt
rising_pairs l (x ∷ xs) r h = (rising_first x xs r h.1, rising_pairs x xs r h.1)

module _ {A : Type 0} (st en : A → Digits) where
  -- 01: the 2N starts and ends
  pub length_tour : (f : Forest A) → length (tour st en f) ≡ 2 * size f
  length_tour nil = refl
  length_tour (node a c s) = simp length-append (omega (arith, length_tour c, length_tour s))

  -- what a tour that rises from l to r says at its first node
  pub record At (l r : Digits) (a : A) (c s : Forest A) : Type 0 where
    pub outer : Below l (st a)
    pub inner : Below (st a) (en a)
    pub children : Rising (st a) (tour st en c) (en a)
    pub next : Rising (en a) (tour st en s) r

  pub at : (l r : Digits) (a : A) (c s : Forest A) → Rising l (tour st en (node a c s)) r → At l r a c s
  at l r a c s h = record {
    outer = h.0;
    inner = rising_below (st a) (en a) r (tour st en c) (tour st en s) h.1;
    children = rising_left (st a) (en a) r (tour st en c) (tour st en s) h.1;
    next = rising_right (st a) (en a) r (tour st en c) (tour st en s) h.1;
  }

  -- what it says of one entry
  pub record Inside (l r : Digits) (v : A) : Type 0 where
    pub above : Below l (st v)
    pub inner : Below (st v) (en v)
    pub under : Under (en v) r

  pub inside : (f : Forest A) (l r : Digits) → Rising l (tour st en f) r → (v : A) → Has v f → Inside l r v
  inside nil l r h v k = absurd k
  inside (node a c s) l r h v (inl e) =
      let t = at l r a c s h in
      rw e (record { above = t.outer; inner = t.inner; under = rising_under (en a) (tour st en s) r t.next })
  inside (node a c s) l r h v (inr (inl k)) =
      let t = at l r a c s h in
      let i = inside c (st a) (en a) t.children v k in
      let u = under_real (st a) (en v) (en a) t.inner i.under in
      record {
        above = below_trans l (st a) (st v) t.outer i.above;
        inner = i.inner;
        under = under_trans (en v) (en a) r u (rising_under (en a) (tour st en s) r t.next);
      }
  inside (node a c s) l r h v (inr (inr k)) =
      let t = at l r a c s h in
      let i = inside s (en a) r t.next v k in
      let b = below_trans l (st a) (en a) t.outer t.inner in
      record { above = below_trans l (en a) (st v) b i.above; inner = i.inner; under = i.under }
