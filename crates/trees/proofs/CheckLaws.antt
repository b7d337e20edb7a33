-- Laws of the check of entries: it passes exactly the entries of a tree whose codes rise, with parent starts and levels as they have to be.
-- The walk itself is in WalkLaws, the labelled entries of a register in EntryLaws.
-- Assumes nothing.
use mathlib.Core.Path.{◌≡◌, ap, ◌∙◌}
use mathlib.Core.Bool.{Bool, true, false≢true, and-eq-true_iff}
use mathlib.Core.List.{List, [], ◌∷◌, ◌++◌, append_assoc}
use Prim.Native.Nat.{ℕ, pred}
use Rattle.digits.specs.Lists.{All}
use Rattle.digits.specs.Order.{Digits}
use Rattle.digits.specs.Code.{Under, Rising}
use Rattle.digits.proofs.ListLaws.{all_part, all_join}
use Rattle.digits.proofs.OrderLaws.{below_asym, below_some}
use Rattle.digits.proofs.CodeLaws.{below_under, under_trans, rising_join}
use Rattle.trees.specs.Forest.{Forest, nil, node, preorder, Rooted, Height}
use Rattle.trees.specs.Tour.{tour, Parents}
use Rattle.trees.specs.Check.{InPlace, rest, then_from, is_whole, row_walk, is_tree_walk}
use Rattle.trees.proofs.ListLaws.{all_left, all_right}
use Rattle.trees.proofs.TourLaws.{under_real, rising_under, at}
use Rattle.trees.proofs.WalkLaws.{gives_is_under, gives_is_beyond, is_whole_gives, Good, walk_read, row_none, row_out, row_on}

module _ {A : Type 0} (Code : Digits → Type 0) (st en ps : A → Digits) where
  -- 01, Register, of a row with its children: at most k levels, parent start p, strictly between the sides l and r
  pub record Facts (k : ℕ) (p l r : Digits) (f : Forest A) : Type 0 where
    pub rising : Rising l (tour st en f) r
    pub coded : All Code (tour st en f)
    pub parented : Parents st ps p f
    pub height : Height k f

  -- what they say at the first entry, and the other way round
  pub record FactsAt (k : ℕ) (p l r : Digits) (x : A) (c s : Forest A) : Type 0 where
    pub place : InPlace Code st en ps k p l r x
    pub children : Facts (pred k) (st x) (st x) (en x) c
    pub next : Facts k p (en x) r s

  module _ (k : ℕ) (p l r : Digits) where
    facts_nil : Under l r → Facts k p l r nil
    facts_nil u = record { rising = u; coded = tt; parented = tt; height = tt }

    pub facts_node : (x : A) (c s : Forest A) → FactsAt k p l r x c s → Facts k p l r (node x c s)
    facts_node x c s h =
        let i = h.place in
        let a = h.children in
        let b = h.next in
        record {
          rising = (
            i.above,
            rising_join (st x) (en x) r (tour st en c) (tour st en s) (below_some (st x) (en x) i.inner) a.rising b.rising,
          );
          coded = (i.start_code, all_join Code (tour st en c) (tour st en s) (en x) a.coded i.end_code b.coded);
          parented = (i.parented, a.parented, b.parented);
          height = (i.deep, a.height, b.height);
        }

    pub facts_at : (x : A) (c s : Forest A) → Facts k p l r (node x c s) → FactsAt k p l r x c s
    facts_at x c s h =
        let t = at st en l r x c s h.rising in
        let q = all_part Code (tour st en c) (tour st en s) (en x) h.coded.1 in
        record {
          place =
              record {
                deep = h.height.0;
                start_code = h.coded.0;
                end_code = q.1;
                above = t.outer;
                inner = t.inner;
                under = rising_under (en x) (tour st en s) r t.next;
                parented = h.parented.0;
              };
          children = record { rising = t.children; coded = q.0; parented = h.parented.1; height = h.height.1 };
          next = record { rising = t.next; coded = q.2; parented = h.parented.2; height = h.height.2 };
        }

  -- what follows a row does not start below its right side
  abbrev Beyond : Digits → List A → Type 0
  Beyond r [] = Unit {0}
  Beyond r (y ∷ ys) = Under (st y) r → ⊥

  beyond_end : (k : ℕ) (p l r : Digits) (x : A) (c s : Forest A) → FactsAt k p l r x c s → (ys : List A) → Beyond r ys
      → Beyond (en x) (preorder s ++ ys)
  beyond_end k p l r x c nil h [] b = tt
  beyond_end k p l r x c nil h (y ∷ ys) b =
      let i = h.place in
      λ u. b (under_trans (st y) (en x) r (under_real (st x) (st y) (en x) i.inner u) i.under)
  beyond_end k p l r x c (node y d s) h ys b =
      λ u. below_asym (en x) (st y) h.next.rising.0 (under_real (st x) (st y) (en x) h.place.inner u)

  -- a tree with these entries in document order
  pub record TreeOf (k : ℕ) (xs : List A) : Type 0 where
    pub tree : Forest A
    pub rooted : Rooted tree
    pub entries : preorder tree ≡ xs
    pub facts : Facts k [] [] [] tree

  module _ (ok : ℕ → Digits → Digits → Digits → A → Bool) where
    -- where the test takes only what is in its place, the entries that pass are those of a tree
    module _ (told : (k : ℕ) (p l r : Digits) (x : A) → ok k p l r x ≡ true → InPlace Code st en ps k p l r x) where
      good_facts : (k : ℕ) (p l r : Digits) (f : Forest A) → Under l r → Good st en ok k p l r f → Facts k p l r f
      good_facts k p l r nil u g = facts_nil k p l r u
      good_facts k p l r (node x c s) u g =
          let i = told k p l r x g.0 in
          facts_node k p l r x c s
          (record {
            place = i;
            children = good_facts (pred k) (st x) (st x) (en x) c (below_under (st x) (en x) i.inner) g.1;
            next = good_facts k p (en x) r s i.under g.2;
          })

      pub tree_of : (k : ℕ) (xs : List A) → is_tree_walk st en ok k xs ≡ true → TreeOf k xs
      tree_of k [] e = absurd (false≢true e)
      tree_of k (x ∷ xs) e =
          let q = (and-eq-true_iff (ok k [] [] [] x) _).0 e in
          let t = walk_read st en ok _ (pred k) (st x) (st x) (en x) xs [] (is_whole_gives _ q.1) in
          record {
            tree = node x t.row nil;
            rooted = tt;
            entries = cc t.entries;
            facts = good_facts k [] [] [] (node x t.row nil) tt (q.0, t.good, tt);
          }

    -- where the test takes entries of P that are in their place, the entries of a tree pass
    module _ (P : A → Type 0) (tell : (k : ℕ) (p l r : Digits) (x : A) → P x → InPlace Code st en ps k p l r x → ok k p l r x ≡ true) where
      row_passes : (k : ℕ) (p l r : Digits) (f : Forest A) (ys : List A) → Facts k p l r f → All P (preorder f) → Beyond r ys
          → row_walk st en ok k p l r (preorder f ++ ys) ≡ rest ys
      row_passes k p l r nil [] h a b = row_none st en ok k p l r
      row_passes k p l r nil (y ∷ ys) h a b = row_out st en ok k p l r y ys (gives_is_beyond (st y) r b)
      row_passes k p l r (node x c s) ys h a b =
          let t = facts_at k p l r x c s h in
          let i = t.place in
          let u = gives_is_under (st x) r (under_trans (st x) (en x) r i.inner i.under) in
          let m =
          row_passes (pred k) (st x) (st x) (en x) c (preorder s ++ ys) t.children (all_left P (preorder c) (preorder s) a.1)
          (beyond_end k p l r x c s t ys b)
          in
          let n = row_passes k p (en x) r s ys t.next (all_right P (preorder c) (preorder s) a.1) b in
          row_on st en ok k p l r x ((preorder c ++ preorder s) ++ ys) u (tell k p l r x a.0 i)
          ∙ ap (λ us. then_from (row_walk st en ok (pred k) (st x) (st x) (en x) us) (row_walk st en ok k p (en x) r))
          (append_assoc (preorder c) (preorder s) ys)
          ∙ ap (λ v. then_from v (row_walk st en ok k p (en x) r)) m
          ∙ n

      pub tree_passes : (k : ℕ) (tree : Forest A) → Rooted tree → Facts k [] [] [] tree → All P (preorder tree)
          → is_tree_walk st en ok k (preorder tree) ≡ true
      tree_passes k nil d h a = absurd d
      tree_passes k (node x c (node y e s)) d h a = absurd d
      tree_passes k (node x c nil) d h a =
          let t = facts_at k [] [] [] x c nil h in
          let m = row_passes (pred k) (st x) (st x) (en x) c [] t.children (all_left P (preorder c) [] a.1) tt in
          (and-eq-true_iff (ok k [] [] [] x) _).1 (tell k [] [] [] x a.0 t.place, ap is_whole m)
