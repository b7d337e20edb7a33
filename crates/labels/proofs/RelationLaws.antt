-- The questions as relations on labels: order is total and antisymmetric, above a strict order, sibling symmetric and irreflexive.
-- Assumes nothing.
use mathlib.Core.Path.{◌≡◌, refl, sym, ap, ◌∙◌}
use mathlib.Core.Logic.{◌⊎◌, inl, inr}
use mathlib.Core.Bool.{Bool, true, false, not, ◌&&◌, and-eq-true_iff, and-false, false≢true}
use mathlib.Core.List.{List, []}
use Prim.Native.Nat.{ℕ}
use native.Mathlib.Omega.{arith}
use lib.IntN.{ℤ, pos, negsuc, neg_ℤ}
use Rattle.digits.specs.Order.{Digits, Below, is_below, order_by}
use Rattle.digits.proofs.OrderLaws.{below_irrefl, below_trans, below_asym, below_three, Three, lower, equal, upper, is_below_true, is_below_false}
use Rattle.codes.specs.Reading.{is_same}
use Rattle.codes.proofs.ReadingLaws.{is_same_true, is_same_refl}
use Rattle.labels.specs.Label.{Label}
use Rattle.labels.specs.Questions.{order, is_above, is_orphan, is_parent, is_sibling}
use Rattle.labels.proofs.LabelLaws.{Sound, is_below_holds}

-- which of the three answers order gives, and when
pub data Ordered (x y : Digits) : ℤ → Type 0 where
  before : Below x y → Ordered x y (negsuc 0)
  same : x ≡ y → Ordered x y (pos 0)
  behind : Below y x → Ordered x y (pos 1)

pub ordered : (x y : Digits) → Ordered x y (order_by x y)
ordered x y = go (below_three x y)
  where
    go : Three (Below x y) (x ≡ y) (Below y x) → Ordered x y (order_by x y)
    go (lower h) = rw (is_below_true x y h) (before h)
    go (equal e) = rw (e, is_below_false y y (below_irrefl y)) (same refl)
    go (upper h) = rw (is_below_false x y (λ k. below_asym x y k h), is_below_true y x h) (behind h)

-- total: the answer is one of three, and it is 0 only where the starts are equal
order_total : (u v : Label) → Ordered u.start v.start (order u v)
order_total u v = ordered u.start v.start

one_order : (x y : Digits) (i j : ℤ) → Ordered x y i → Ordered x y j → i ≡ j
one_order x y i j (before h) (before k) = refl
one_order x y i j (before h) (same e) = absurd (below_irrefl y (rw e at h))
one_order x y i j (before h) (behind k) = absurd (below_asym x y h k)
one_order x y i j (same e) (before k) = absurd (below_irrefl y (rw e at k))
one_order x y i j (same e) (same f) = refl
one_order x y i j (same e) (behind k) = absurd (below_irrefl y (rw e at k))
one_order x y i j (behind h) (before k) = absurd (below_asym x y k h)
one_order x y i j (behind h) (same e) = absurd (below_irrefl y (rw e at h))
one_order x y i j (behind h) (behind k) = refl

turned : (x y : Digits) (i : ℤ) → Ordered x y i → Ordered y x (neg_ℤ i)
turned x y i (before h) = behind h
turned x y i (same e) = same (sym e)
turned x y i (behind h) = before h

-- antisymmetric: the other way round the answer is the opposite number
pub order_antisym : (u v : Label) → order v u ≡ neg_ℤ (order u v)
order_antisym u v =
    one_order v.start u.start _ _ (order_total v u) (turned u.start v.start (order u v) (order_total u v))

pub order_trans : (u v w : Label) → order u v ≡ negsuc 0 → order v w ≡ negsuc 0 → order u w ≡ negsuc 0
order_trans u v w e f =
    one_order u.start w.start _ _ (order_total u w)
    (before (below_trans u.start v.start w.start (first u v e) (first v w f)))
  where
    first : (u v : Label) → order u v ≡ negsuc 0 → Below u.start v.start
    first u v e = go (order u v) (order_total u v) e
      where
        go : (i : ℤ) → Ordered u.start v.start i → i ≡ negsuc 0 → Below u.start v.start
        go i (before h) p = h
        go i (same h) p = let z : ◌≡◌ {A = ℕ} 0 1 = cc in absurd (omega arith)
        go i (behind h) p = let z : ◌≡◌ {A = ℕ} 0 1 = cc in absurd (omega arith)

-- what above says
pub above_gives : (u v : Label) → is_above u v ≡ true → Below u.start v.start × Below v.end u.end
above_gives u v h =
    let t = (and-eq-true_iff (is_below u.start v.start) (is_below v.end u.end)).0 h in
    (is_below_holds u.start v.start t.0, is_below_holds v.end u.end t.1)

pub gives_above : (u v : Label) → Below u.start v.start → Below v.end u.end → is_above u v ≡ true
gives_above u v h k = rw (is_below_true u.start v.start h, is_below_true v.end u.end k) refl

pub above_irrefl : (u : Label) → is_above u u ≡ false
above_irrefl u = rw (is_below_false u.start u.start (below_irrefl u.start)) refl

pub above_trans : (u v w : Label) → is_above u v ≡ true → is_above v w ≡ true → is_above u w ≡ true
above_trans u v w h k =
    let p = above_gives u v h in
    let q = above_gives v w k in
    gives_above u w (below_trans u.start v.start w.start p.0 q.0) (below_trans w.end v.end u.end q.1 p.1)

-- an ancestor is before its descendants
pub above_order : (u v : Label) → is_above u v ≡ true → order u v ≡ negsuc 0
above_order u v h = one_order u.start v.start _ _ (order_total u v) (before (above_gives u v h).0)

-- a parent is before its children, and an entry without a parent start has none
pub parent_order : (b : List ℕ) (u v : Label) → Sound b v → is_parent u v ≡ true → order u v ≡ negsuc 0
parent_order b u v s h =
    let t = (and-eq-true_iff (not (is_orphan v)) (is_same v.parent u.start)).0 h in
    let e = is_same_true v.parent u.start t.1 in
    go e t.0 s.under
  where
    go : v.parent ≡ u.start → not (is_orphan v) ≡ true → (v.parent ≡ []) ⊎ Below v.parent v.start → order u v ≡ negsuc 0
    go e n (inl z) = absurd (false≢true (ap (λ (x : Digits). not (is_same x [])) (sym z) ∙ n))
    go e n (inr k) = one_order u.start v.start _ _ (order_total u v) (before (rw e at k))

pub orphan_parent : (u v : Label) → is_orphan v ≡ true → is_parent u v ≡ false
orphan_parent u v e = rw e refl

pub orphan_sibling : (u v : Label) → is_orphan u ≡ true → is_sibling u v ≡ false
orphan_sibling u v e = rw e refl

is_same_sym : (x y : List ℕ) → is_same x y ≡ is_same y x
is_same_sym x y = go (is_same x y) (is_same y x) refl refl
  where
    go : (a b : Bool) → is_same x y ≡ a → is_same y x ≡ b → a ≡ b
    go true true p q = refl
    go false false p q = refl
    go true false p q = absurd (false≢true (sym q ∙ ap (is_same y) (is_same_true x y p) ∙ is_same_refl y))
    go false true p q = absurd (false≢true (sym p ∙ ap (is_same x) (is_same_true y x q) ∙ is_same_refl x))

and_turned : (a b c d : Bool) → (a && b && c && d) ≡ (b && a && c && d)
and_turned true true c d = refl
and_turned true false c d = refl
and_turned false true c d = refl
and_turned false false c d = refl

pub sibling_sym : (u v : Label) → is_sibling u v ≡ is_sibling v u
sibling_sym u v =
    and_turned (not (is_orphan u)) (not (is_orphan v)) (is_same u.parent v.parent) (not (is_same u.start v.start))
    ∙ rw (is_same_sym u.parent v.parent, is_same_sym u.start v.start) refl

-- an entry is never its own sibling
pub sibling_irrefl : (u : Label) → is_sibling u u ≡ false
sibling_irrefl u = rw (is_same_refl u.start) (and-false (not (is_orphan u) && not (is_orphan u) && is_same u.parent u.parent))

-- nor is a label with the same start, whatever else it holds
pub sibling_start : (u v : Label) → u.start ≡ v.start → is_sibling u v ≡ false
sibling_start u v e =
    rw (ap (λ (x : Digits). is_same x v.start) e ∙ is_same_refl v.start)
    (and-false (not (is_orphan u) && not (is_orphan v) && is_same u.parent v.parent))
