-- Laws of the place at an entry: the target's own code beside it, its parent start and its level.
-- Assumes nothing.
use mathlib.Core.Path.{◌≡◌, refl, sym, ap, ◌∙◌}
use mathlib.Core.Logic.{◌⊎◌, inl, inr}
use mathlib.Core.Bool.{Bool, true, false}
use mathlib.Core.List.{[], ◌++◌}
use Prim.Native.Nat.{ℕ, zero, suc, ◌+◌, ◌<◌}
use native.Mathlib.Omega.{arith}
use lib.ListN.{length, get_or, get_or-append}
use lib.Seq.{get_or-append-add}
use Rattle.digits.specs.Order.{Digits}
use Rattle.trees.specs.Forest.{Forest, nil, node, size, Rooted}
use Rattle.trees.specs.Table.{rows}
use Rattle.trees.specs.Tour.{tour, Parents}
use Rattle.trees.specs.Labelled.{Entry, starts, ends, parents}
use Rattle.trees.specs.Edit.{Where, first_child, last_child, before, after, is_inside, level_beside, Spot, level_at, front_spot, end_spot, spot_here, spot_of}
use Rattle.trees.specs.Neighbours.{last_or, head_or, codes_ahead, codes_behind, parent_at}
use Rattle.trees.specs.Search.{is_upward, own_code, parent_beside}
use Rattle.trees.proofs.TableLaws.{length_rows}
use Rattle.trees.proofs.EditLaws.{number_cases, spot_down, spot_on}
use Rattle.trees.proofs.NeighbourLaws.{last_append, head_append}

-- x is the left neighbour where the way to the other one goes upward, else the right one
abbrev pub Own : Bool → Digits → Digits → Digits → Type 0
Own true x l r = l ≡ x
Own false x l r = r ≡ x

with_left : (up : Bool) (x l m r : Digits) → l ≡ m → Own up x m r → Own up x l r
with_left up x l m r e h = rw e h

with_right : (up : Bool) (x l r s : Digits) → r ≡ s → Own up x l s → Own up x l r
with_right up x l r s e h = rw e h

module _ {A : Type 0} where
  -- in front of a row and at its end there is nothing before and nothing behind
  front_ahead : (f : Forest (Entry A)) → codes_ahead starts ends f (front_spot f) ≡ []
  front_ahead nil = refl
  front_ahead (node u c s) = refl

  end_behind : (f : Forest (Entry A)) → codes_behind starts ends f (end_spot f) ≡ []
  end_behind nil = refl
  end_behind (node u c s) = end_behind s

  front_parent : (p : Digits) (f : Forest (Entry A)) → parent_at p f (front_spot f) ≡ p
  front_parent p nil = refl
  front_parent p (node u c s) = refl

  end_parent : (p : Digits) (f : Forest (Entry A)) → parent_at p f (end_spot f) ≡ p
  end_parent p nil = refl
  end_parent p (node u c s) = end_parent p s

  front_level : (f : Forest (Entry A)) → level_at f (front_spot f) ≡ 0
  front_level nil = refl
  front_level (node u c s) = refl

  end_level : (f : Forest (Entry A)) → level_at f (end_spot f) ≡ 0
  end_level nil = refl
  end_level (node u c s) = end_level s

  -- the gap q between the sides l and r, with the parent start p and d levels above, is the place at u, whose depth is n
  pub record Beside (w : Where) (u : Entry A) (n : ℕ) (l r p : Digits) (d : ℕ) (f : Forest (Entry A)) (q : Spot f) : Type 0 where
    pub own : Own (is_upward w) (own_code w u) (last_or l (codes_ahead starts ends f q)) (head_or r (codes_behind starts ends f q))
    pub parented : parent_at p f q ≡ parent_beside w u
    pub level : d + level_at f q ≡ level_beside w n

  beside_here : (w : Where) (u : Entry A) (c s : Forest (Entry A)) (l r p : Digits) (d : ℕ) → u.parent ≡ p
      → Beside w u d l r p d (node u c s) (spot_here w u c s)
  beside_here first_child u c s l r p d e = record {
    own = rw (front_ahead c) refl;
    parented = front_parent u.start c;
    level = omega (arith, front_level c);
  }
  beside_here last_child u c s l r p d e = record {
    own = rw (end_behind c) refl;
    parented = end_parent u.start c;
    level = omega (arith, end_level c);
  }
  beside_here before u c s l r p d e = record { own = refl; parented = sym e; level = omega arith }
  beside_here after u c s l r p d e = record {
    own = rw (front_ahead s) (last_append u.start u.end (tour starts ends c) []);
    parented = front_parent p s ∙ sym e;
    level = omega (arith, front_level s);
  }

  abbrev row_at : ℕ → Forest (Entry A) → ℕ → Entry A × ℕ → Entry A × ℕ
  row_at d f i z = get_or (rows d f) i z

  abbrev Placed : Where → Forest (Entry A) → ℕ → Type 0
  Placed w f i =
      (z : Entry A × ℕ) (l r p : Digits) (d : ℕ) → Parents starts parents p f
      → Beside w (row_at d f i z).0 (row_at d f i z).1 l r p d f (spot_of w i f)

  beside_down : (w : Where) (u : Entry A) (c s : Forest (Entry A)) (i : ℕ) → i < size c → Placed w c i → Placed w (node u c s) (suc i)
  beside_down w u c s i h t z l r p d k =
      let b = t z u.start u.end u.start (suc d) k.1 in
      let m : i < length (rows (suc d) c) = rw (length_rows (suc d) c) h in
      let e : get_or (rows (suc d) c ++ rows d s) i z ≡ get_or (rows (suc d) c) i z =
      get_or-append (rows (suc d) c) (rows d s) z i m in
      rw (e, spot_down u c s i h w)
      (record {
        own = with_right (is_upward w) (own_code w _) _ _ _
            (head_append r u.end (codes_behind starts ends c (spot_of w i c)) (tour starts ends s)) b.own;
        parented = b.parented;
        level = omega (arith, b.level);
      })

  beside_on : (w : Where) (u : Entry A) (c s : Forest (Entry A)) (i : ℕ) → i < size s → Placed w s i → Placed w (node u c s)
      (suc (size c + i))
  beside_on w u c s i h t z l r p d k =
      let b = t z u.end r p d k.2 in
      let e : get_or (rows (suc d) c ++ rows d s) (size c + i) z ≡ get_or (rows d s) i z =
      ap (λ (n : ℕ). get_or (rows (suc d) c ++ rows d s) (n + i) z) (sym (length_rows (suc d) c))
      ∙ get_or-append-add (rows (suc d) c) (rows d s) i z in
      rw (e, spot_on u c s i w)
      (record {
        own = with_left (is_upward w) (own_code w _) _ _ _
            (last_append u.start u.end (tour starts ends c) (codes_ahead starts ends s (spot_of w i s))) b.own;
        parented = b.parented;
        level = b.level;
      })

  pub beside : (w : Where) (f : Forest (Entry A)) (i : ℕ) → i < size f → Placed w f i
  beside w = number_cases (Placed w) (λ u c s z l r p d k. beside_here w u c s l r p d k.0) (beside_down w) (beside_on w)

  -- in a tree with one root only a place beside the root has level 0
  pub level_inner : (w : Where) (i : ℕ) (f : Forest (Entry A)) → Rooted f → i < size f → (is_inside w ≡ true) ⊎ (0 < i)
      → 0 < level_at f (spot_of w i f)
  level_inner w i nil r h l = absurd r
  level_inner w i (node u c (node v d s)) r h l = absurd r
  level_inner first_child zero (node u c nil) r h l = omega arith
  level_inner last_child zero (node u c nil) r h l = omega arith
  level_inner before zero (node u c nil) r h (inl e) = let z : ◌≡◌ {A = ℕ} 0 1 = cc in absurd (omega arith)
  level_inner before zero (node u c nil) r h (inr e) = absurd (omega arith)
  level_inner after zero (node u c nil) r h (inl e) = let z : ◌≡◌ {A = ℕ} 0 1 = cc in absurd (omega arith)
  level_inner after zero (node u c nil) r h (inr e) = absurd (omega arith)
  level_inner w (suc i) (node u c nil) r h l = rw (spot_down u c nil i (omega arith) w) (omega arith)
