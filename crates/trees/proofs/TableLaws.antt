-- Laws of tables: a forest comes back from its rows and the rows from their forest; depths; 01's rule is one root and bounded depths.
-- Assumes nothing.
use mathlib.Core.Path.{◌≡◌, refl, sym, ap, ◌∙◌}
use mathlib.Core.List.{List, [], ◌∷◌, ◌++◌, append_assoc, append-nil, map}
use Prim.Native.Nat.{ℕ, suc, pred, ◌+◌, ◌-◌, ◌≤◌, ◌<◌, compare, Ordering}
use native.Mathlib.Nat.{sub-zero}
use native.Mathlib.Omega.{arith}
use lib.ListN.{length, length-append}
use Rattle.digits.specs.Lists.{All}
use Rattle.digits.proofs.ListLaws.{all_map}
use Rattle.digits.proofs.OrderLaws.{Compared, compared, lt, eq, gt, compare_is}
use Rattle.trees.specs.Forest.{Forest, nil, node, size, preorder, Rooted, Height}
use Rattle.trees.specs.Table.{Follow, Ruled, Steps, rows, grow, forest_at, forest}
use Rattle.trees.proofs.ListLaws.{all_append, map_append}

module _ {A : Type 0} where
  -- nothing of depth d or deeper comes first
  abbrev Low : ℕ → List (A × ℕ) → Type 0
  Low d [] = Unit {0}
  Low d (p ∷ t) = p.1 < d

  at_low : (d : ℕ) (t : List (A × ℕ)) → Low d t → forest_at d t ≡ nil
  at_low d [] h = refl
  at_low d (p ∷ t) h = rw (compare_is p.1 d Ordering.lt (lt h))

  skip : (d e : ℕ) (c : Forest A) (t : List (A × ℕ)) → d < e → forest_at d (rows e c ++ t) ≡ forest_at d t
  skip d e nil t h = refl
  skip d e (node a c s) t h =
      rw (compare_is e d Ordering.gt (gt h), append_assoc (rows (suc e) c) (rows e s) t)
      (skip d (suc e) c (rows e s ++ t) (omega arith) ∙ skip d e s t h)

  low_rows : (d : ℕ) (s : Forest A) (t : List (A × ℕ)) → Low d t → Low (suc d) (rows d s ++ t)
  low_rows d nil [] h = tt
  low_rows d nil (p ∷ t) h = omega arith
  low_rows d (node a c s) t h = omega arith

  forest_rows_at : (d : ℕ) (f : Forest A) (t : List (A × ℕ)) → Low d t → forest_at d (rows d f ++ t) ≡ f
  forest_rows_at d nil t h = at_low d t h
  forest_rows_at d (node a c s) t h =
      rw (compare_is d d Ordering.eq (eq refl), append_assoc (rows (suc d) c) (rows d s) t)
      (let p = forest_rows_at (suc d) c (rows d s ++ t) (low_rows d s t h) in
      let q = skip d (suc d) c (rows d s ++ t) (omega arith) in
      let r = forest_rows_at d s t h in
      cc (p, q, r))

  -- a forest comes back from its rows
  pub forest_rows : (f : Forest A) → forest (rows 0 f) ≡ f
  forest_rows f = rw append-nil at (forest_rows_at 0 f [] tt)

  -- so a table is the rows of no other forest
  pub one_table : (t : List (A × ℕ)) (f : Forest A) → rows 0 f ≡ t → f ≡ forest t
  one_table t f e = sym (forest_rows f) ∙ ap forest e

  -- 01, Table: the rows stand in document order
  pub preorder_rows : (d : ℕ) (f : Forest A) → map (λ p. p.0) (rows d f) ≡ preorder f
  preorder_rows d nil = refl
  preorder_rows d (node a c s) =
      let m = map_append (λ (p : A × ℕ). p.0) (rows (suc d) c) (rows d s) in
      cc (m, preorder_rows (suc d) c, preorder_rows d s)

  pub length_rows : (d : ℕ) (f : Forest A) → length (rows d f) ≡ size f
  length_rows d nil = refl
  length_rows d (node a c s) = simp length-append (omega (arith, length_rows (suc d) c, length_rows d s))

  -- what comes behind the rows of depth d and deeper
  abbrev pub keep : Ordering → A × ℕ → List (A × ℕ) → List (A × ℕ) → List (A × ℕ)
  keep Ordering.lt p t r = p ∷ t
  keep Ordering.eq p t r = r
  keep Ordering.gt p t r = r

  abbrev pub rest : ℕ → List (A × ℕ) → List (A × ℕ)
  rest d [] = []
  rest d (p ∷ t) = let r = rest d t in keep (compare p.1 d) p t r

  rest_low : (d : ℕ) (t : List (A × ℕ)) → Low d t → rest d t ≡ t
  rest_low d [] h = refl
  rest_low d (p ∷ t) h = rw (compare_is p.1 d Ordering.lt (lt h))

  rest_high : (d : ℕ) (p : A × ℕ) (t : List (A × ℕ)) → d ≤ p.1 → rest d (p ∷ t) ≡ rest d t
  rest_high d p t h = go (compare p.1 d) (compared p.1 d)
    where
      go : (o : Ordering) → Compared p.1 d o → keep o p t (rest d t) ≡ rest d t
      go Ordering.lt (lt k) = absurd (omega arith)
      go Ordering.eq (eq k) = refl
      go Ordering.gt (gt k) = refl

  rest_zero : (t : List (A × ℕ)) → rest 0 t ≡ []
  rest_zero [] = refl
  rest_zero (p ∷ t) = rest_high 0 p t (omega arith) ∙ rest_zero t

  low_steps : (k d : ℕ) (t : List (A × ℕ)) → k < d → Steps k t → Low d t
  low_steps k d [] h s = tt
  low_steps k d (p ∷ t) h s = omega arith

  -- what is behind the deeper rows is the row of depth d, and what is behind that
  layer : (d k : ℕ) (t : List (A × ℕ)) → Steps k t → rest (suc d) t ≡ rows d (forest_at d t) ++ rest d t
  layer d k [] s = refl
  layer d k (p ∷ t) s =
      go (compare p.1 d) (compared p.1 d) (layer d (suc p.1) t s.1) (layer (suc d) (suc p.1) t s.1)
    where
      go : (o : Ordering) → Compared p.1 d o
          → rest (suc d) t ≡ rows d (forest_at d t) ++ rest d t
          → rest (suc (suc d)) t ≡ rows (suc d) (forest_at (suc d) t) ++ rest (suc d) t
          → rest (suc d) (p ∷ t) ≡ rows d (grow o p.0 (forest_at (suc d) t) (forest_at d t)) ++ keep o p t (rest d t)
      go Ordering.lt (lt h) a b = rest_low (suc d) (p ∷ t) (omega arith)
      go Ordering.eq (eq h) a b =
          let n = rest_low (suc (suc d)) t (low_steps (suc p.1) (suc (suc d)) t (omega arith) s.1) in
          let m = append_assoc (rows (suc d) (forest_at (suc d) t)) (rows d (forest_at d t)) (rest d t) in
          rw (rest_low (suc d) (p ∷ t) (omega arith), m, ← a, ← b, n) (rw h)
      go Ordering.gt (gt h) a b = rest_high (suc d) p t h ∙ a

  -- the rows come back from their forest
  rows_forest : (t : List (A × ℕ)) → Steps 0 t → rows 0 (forest t) ≡ t
  rows_forest t s =
      let a = layer 0 0 t s in
      let b = rest_zero t in
      let c = rest_low 1 t (low_steps 0 1 t (omega arith) s) in
      let e = append-nil (rows 0 (forest t)) in
      cc (a, b, c, e)

  steps_append : (d k : ℕ) (f : Forest A) (t : List (A × ℕ)) → d ≤ k → ((j : ℕ) → d ≤ j → Steps j t) → Steps k (rows d f ++ t)
  steps_append d k nil t h s = s k h
  steps_append d k (node a c n) t h s =
      rw (append_assoc (rows (suc d) c) (rows d n) t)
      (h, steps_append (suc d) (suc d) c (rows d n ++ t) (omega arith) (λ j i. steps_append d j n t (omega arith) s))

  steps_rows : (d : ℕ) (f : Forest A) → Steps d (rows d f)
  steps_rows d f = rw append-nil at (steps_append d d f [] (omega arith) (λ j i. tt))

  -- every depth of a forest of k levels, counted from d
  pub height_rows : (k d : ℕ) (f : Forest A) → Height k f → All (λ p. (d ≤ p.1) × (p.1 < d + k)) (rows d f)
  height_rows k d nil h = tt
  height_rows k d (node a c s) h =
      let z = h.0 in
      let q =
      all_map (λ (p : A × ℕ). (suc d ≤ p.1) × (p.1 < suc d + pred k)) (λ p. (d ≤ p.1) × (p.1 < d + k)) (λ p i. omega arith)
      (rows (suc d) c) (height_rows (pred k) (suc d) c h.1)
      in
      (omega arith, all_append (λ p. (d ≤ p.1) × (p.1 < d + k)) (rows (suc d) c) (rows d s) q (height_rows k d s h.2))

  -- and a table of depths below k has at most k levels
  table_height : (k d : ℕ) (t : List (A × ℕ)) → All (λ p. p.1 < k) t → Height (k - d) (forest_at d t)
  table_height k d [] a = tt
  table_height k d (p ∷ t) a = go (compare p.1 d) (compared p.1 d) (table_height k (suc d) t a.1) (table_height k d t a.1)
    where
      go : (o : Ordering) → Compared p.1 d o → Height (k - suc d) (forest_at (suc d) t) → Height (k - d) (forest_at d t)
          → Height (k - d) (grow o p.0 (forest_at (suc d) t) (forest_at d t))
      go Ordering.lt (lt h) b c = tt
      go Ordering.eq (eq h) b c =
          let e : k - suc d ≡ pred (k - d) = omega arith in
          (omega arith, rw e at b, c)
      go Ordering.gt (gt h) b c = c

  pub rows_height : (k : ℕ) (f : Forest A) → All (λ p. p.1 < k) (rows 0 f) → Height k f
  rows_height k f a = rw (forest_rows f, sub-zero) at (table_height k 0 (rows 0 f) a)

  -- a later row's depth, whatever the row before it
  abbrev Inner : ℕ → A × ℕ → Type 0
  Inner deepest p = (1 ≤ p.1) × (p.1 < 1 + deepest)

  -- 01's rule for the later rows is steps and inner depths
  follow_steps : (deepest k : ℕ) (t : List (A × ℕ)) → Follow deepest k t → Steps (suc k) t × All (Inner deepest) t
  follow_steps deepest k [] h = (tt, tt)
  follow_steps deepest k (p ∷ t) h =
      let r = follow_steps deepest p.1 t h.1 in
      let l = h.0 in
      ((omega arith, r.0), (omega arith, r.1))

  steps_follow : (deepest k : ℕ) (t : List (A × ℕ)) → Steps (suc k) t → All (Inner deepest) t → Follow deepest k t
  steps_follow deepest k [] s a = tt
  steps_follow deepest k (p ∷ t) s a =
      (record { inner = omega arith; step = omega arith; bounded = omega arith }, steps_follow deepest p.1 t s.1 a.1)

  -- no row of depth 0, no root
  inner_forest : (deepest : ℕ) (t : List (A × ℕ)) → All (Inner deepest) t → forest t ≡ nil
  inner_forest deepest [] h = refl
  inner_forest deepest (p ∷ t) h = rw (compare_is p.1 0 Ordering.gt (gt h.0.0)) (inner_forest deepest t h.1)

  -- 01, Table: what meets the rule are the rows of its forest, ..
  pub ruled_rows : (deepest : ℕ) (t : List (A × ℕ)) → Ruled deepest t → rows 0 (forest t) ≡ t
  ruled_rows deepest [] h = refl
  ruled_rows deepest (p ∷ t) h = rows_forest (p ∷ t) (omega arith, (follow_steps deepest p.1 t h.1).0)

  -- .. which has one root ..
  pub ruled_forest : (deepest : ℕ) (p : A × ℕ) (t : List (A × ℕ)) → Ruled deepest (p ∷ t)
      → forest (p ∷ t) ≡ node p.0 (forest_at 1 t) nil
  ruled_forest deepest p t h =
      rw (compare_is p.1 0 Ordering.eq (eq h.0), inner_forest deepest t (follow_steps deepest p.1 t h.1).1)

  -- .. and at most deepest + 1 levels
  pub ruled_bounded : (deepest : ℕ) (t : List (A × ℕ)) → Ruled deepest t → All (λ q. q.1 < suc deepest) t
  ruled_bounded deepest [] h = tt
  ruled_bounded deepest (p ∷ t) h =
      (omega arith, all_map (Inner deepest) (λ q. q.1 < suc deepest) (λ q i. omega arith) t (follow_steps deepest p.1 t h.1).1)

  pub ruled_height : (deepest : ℕ) (t : List (A × ℕ)) → Ruled deepest t → Height (suc deepest) (forest t)
  ruled_height deepest t h = rw sub-zero at (table_height (suc deepest) 0 t (ruled_bounded deepest t h))

  -- the other way round: the rows of a tree of so many levels meet the rule
  pub rows_ruled : (deepest : ℕ) (f : Forest A) → Rooted f → Height (suc deepest) f → Ruled deepest (rows 0 f)
  rows_ruled deepest nil r h = tt
  rows_ruled deepest (node a c (node b d s)) r h = absurd r
  rows_ruled deepest (node a c nil) r h =
      (refl, rw append-nil (steps_follow deepest 0 (rows 1 c) (steps_rows 1 c) (height_rows deepest 1 c h.1)))
