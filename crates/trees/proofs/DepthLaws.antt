-- Laws of depth: the depths of the table's rows are those of the forest, and bounded by its levels.
-- Assumes nothing.
use mathlib.Core.Path.{◌≡◌, refl, ap}
use mathlib.Core.Logic.{◌⊎◌, inl, inr}
use Prim.Native.Nat.{ℕ, zero, suc, ◌+◌, ◌≤◌, ◌<◌}
use native.Mathlib.Omega.{arith}
use Rattle.digits.specs.Lists.{Distinct}
use Rattle.trees.specs.Lists.{Member}
use Rattle.trees.specs.Forest.{Forest, nil, node, preorder, Height}
use Rattle.trees.specs.Axes.{Has, Depth}
use Rattle.trees.specs.Table.{rows}
use Rattle.trees.proofs.ListLaws.{all_gives, gives_all, member_left, member_right, member_append}
use Rattle.trees.proofs.ForestLaws.{row_has, parent_has}
use Rattle.trees.proofs.DistinctLaws.{one_depth}
use Rattle.trees.proofs.TableLaws.{height_rows, rows_height}

module _ {A : Type 0} where
  depth_children : (a : A) (c s : Forest A) (n : ℕ) (v : A) → Depth v n c → Depth v (suc n) (node a c s)
  depth_children a c s zero v h = (a, inl (refl, h), inl refl)
  depth_children a c s (suc n) v (u, h, k) = (u, inr (inl h), depth_children a c s n u k)

  depth_next : (a : A) (c s : Forest A) (n : ℕ) (v : A) → Depth v n s → Depth v n (node a c s)
  depth_next a c s zero v h = inr h
  depth_next a c s (suc n) v (u, h, k) = (u, inr (inr h), depth_next a c s n u k)

  -- n is d and v's depth in f
  abbrev pub depth_from : ℕ → A → ℕ → Forest A → Type 0
  depth_from d v n f = (m : ℕ) × (n ≡ d + m) × Depth v m f

  rows_gives_depth : (d : ℕ) (f : Forest A) (v : A) (n : ℕ) → Member (v, n) (rows d f) → depth_from d v n f
  rows_gives_depth d nil v n h = absurd h
  rows_gives_depth d (node a c s) v n (inl e) =
      let i : n ≡ d = ap (λ (q : A × ℕ). q.1) e in
      (zero, omega arith, inl (ap (λ (q : A × ℕ). q.0) e))
  rows_gives_depth d (node a c s) v n (inr h) =
      go (rows_gives_depth (suc d) c v n) (rows_gives_depth d s v n) (member_append (rows (suc d) c) (rows d s) (v, n) h)
    where
      go : (Member (v, n) (rows (suc d) c) → depth_from (suc d) v n c) → (Member (v, n) (rows d s) → depth_from d v n s)
          → Member (v, n) (rows (suc d) c) ⊎ Member (v, n) (rows d s) → depth_from d v n (node a c s)
      go p q (inl k) = let r = p k in (suc r.0, omega arith, depth_children a c s r.0 v r.2)
      go p q (inr k) = let r = q k in (r.0, r.1, depth_next a c s r.0 v r.2)

  has_row : (d : ℕ) (f : Forest A) (v : A) → Has v f → (n : ℕ) × Member (v, n) (rows d f)
  has_row d nil v h = absurd h
  has_row d (node a c s) v (inl e) = (d, inl (ap (λ (u : A). (u, d)) e))
  has_row d (node a c s) v (inr (inl h)) =
      let r = has_row (suc d) c v h in
      (r.0, inr (member_left (rows (suc d) c) (rows d s) (v, r.0) r.1))
  has_row d (node a c s) v (inr (inr h)) =
      let r = has_row d s v h in
      (r.0, inr (member_right (rows (suc d) c) (rows d s) (v, r.0) r.1))

  pub depth_has : (f : Forest A) (v : A) (n : ℕ) → Depth v n f → Has v f
  depth_has f v zero h = row_has f v h
  depth_has f v (suc n) (u, h, k) = (parent_has f u v h).1

  pub row_depth : (f : Forest A) (v : A) (n : ℕ) → Member (v, n) (rows 0 f) → Depth v n f
  row_depth f v n h =
      let r = rows_gives_depth 0 f v n h in
      let e : n ≡ r.0 = omega arith in
      rw e r.2

  -- every entry has a depth
  pub has_depth : (f : Forest A) (v : A) → Has v f → (n : ℕ) × Depth v n f
  has_depth f v h = let r = has_row 0 f v h in (r.0, row_depth f v r.0 r.1)

  pub depth_row : (f : Forest A) → Distinct (preorder f) → (v : A) (n : ℕ) → Depth v n f → Member (v, n) (rows 0 f)
  depth_row f d v n h =
      let r = has_row 0 f v (depth_has f v n h) in
      let e : r.0 ≡ n = one_depth f d r.0 n v (row_depth f v r.0 r.1) h in
      rw e at r.1

  -- 01, Register: at most k levels is the same as depths below k
  pub height_depth : (k : ℕ) (f : Forest A) → Distinct (preorder f) → Height k f → (v : A) (n : ℕ) → Depth v n f → n < k
  height_depth k f d h v n i =
      let b = all_gives (λ (p : A × ℕ). (0 ≤ p.1) × (p.1 < 0 + k)) (rows 0 f) (height_rows k 0 f h) (v, n) (depth_row f d v n i) in
      omega arith

  pub depth_height : (k : ℕ) (f : Forest A) → ((v : A) (n : ℕ) → Depth v n f → n < k) → Height k f
  depth_height k f h = rows_height k f (gives_all (λ (p : A × ℕ). p.1 < k) (rows 0 f) (λ p m. h p.0 p.1 (row_depth f p.0 p.1 m)))
