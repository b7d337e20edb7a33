-- Laws of edits without codes: document order, levels and the tree without its labels, for a row put in and a leaf taken out.
-- Assumes nothing.
use mathlib.Core.Path.{◌≡◌, refl, sym, ap, ◌∙◌, subst}
use mathlib.Core.Logic.{inl, inr}
use mathlib.Core.Bool.{Bool, true, false, cond}
use mathlib.Core.List.{List, [], ◌∷◌, ◌++◌, append-nil, append_assoc}
use Prim.Native.Nat.{ℕ, zero, suc, pred, ◌+◌, ◌-◌, ◌<◌}
use native.Mathlib.Omega.{arith}
use lib.Dec.{ltb}
use lib.ListN.{length, length-append}
use borrow.Author.Tests.{lt-ltb, le-ltb, ltb-true, ltb-false}
use Rattle.trees.specs.Forest.{Forest, nil, node, size, preorder, Rooted, Height, image}
use Rattle.trees.specs.Edit.{Where, first_child, last_child, before, after, Spot, leaf, join, put, ahead, behind, level_at, front_spot, end_spot, spot_here, spot_of, inserted, is_nothing, is_leaf, without}
use Rattle.trees.proofs.ForestLaws.{length_preorder}
use Rattle.trees.proofs.ImageLaws.{size_image}

module _ {A : Type 0} where
  preorder_join : (f g : Forest A) → preorder (join f g) ≡ preorder f ++ preorder g
  preorder_join nil g = refl
  preorder_join (node a c s) g = rw (preorder_join s g) (ap (λ (l : List A). a ∷ l)
      (sym (append_assoc (preorder c) (preorder s) (preorder g))))

  -- document order is cut at a gap, and what is put in stands there: later entries move up, and nothing else
  pub order_spot : (f : Forest A) (q : Spot f) → preorder f ≡ ahead f q ++ behind f q
  order_spot nil q = refl
  order_spot (node a c s) (inl q) = refl
  order_spot (node a c s) (inr (inl q)) =
      rw (order_spot c q) (ap (λ (l : List A). a ∷ l) (append_assoc (ahead c q) (behind c q) (preorder s)))
  order_spot (node a c s) (inr (inr q)) =
      rw (order_spot s q) (ap (λ (l : List A). a ∷ l) (sym (append_assoc (preorder c) (ahead s q) (behind s q))))

  pub order_put : (g f : Forest A) (q : Spot f) → preorder (put g f q) ≡ ahead f q ++ (preorder g ++ behind f q)
  order_put g nil q = sym (append-nil (preorder g))
  order_put g (node a c s) (inl q) = preorder_join g (node a c s)
  order_put g (node a c s) (inr (inl q)) =
      rw (order_put g c q)
      (ap (λ (l : List A). a ∷ l)
      (append_assoc (ahead c q) (preorder g ++ behind c q) (preorder s)
      ∙ ap (λ (l : List A). ahead c q ++ l) (append_assoc (preorder g) (behind c q) (preorder s))))
  order_put g (node a c s) (inr (inr q)) =
      rw (order_put g s q) (ap (λ (l : List A). a ∷ l) (sym (append_assoc (preorder c) (ahead s q) (preorder g ++ behind s q))))

  pub size_put : (g f : Forest A) (q : Spot f) → size (put g f q) ≡ size g + size f
  size_put g f q =
      let a = length-append (ahead f q) (preorder g ++ behind f q) in
      let b = length-append (preorder g) (behind f q) in
      let c = length-append (ahead f q) (behind f q) in
      omega (
        arith,
        length_preorder (put g f q),
        length_preorder g,
        length_preorder f,
        ap length (order_put g f q),
        ap length (order_spot f q),
      )

  -- a row put in front of a row, and nothing before it
  pub put_front : (g f : Forest A) → put g f (front_spot f) ≡ join g f
  put_front g nil = sym (join_nil g)
    where
      join_nil : (g : Forest A) → join g nil ≡ g
      join_nil nil = refl
      join_nil (node a c s) = ap (node a c) (join_nil s)
  put_front g (node a c s) = refl

  ahead_front : (f : Forest A) → ahead f (front_spot f) ≡ []
  ahead_front nil = refl
  ahead_front (node a c s) = refl

  -- levels: a row put in under as many entries as the gap is, and taken out again
  height_join : (k : ℕ) (g f : Forest A) → Height k g → Height k f → Height k (join g f)
  height_join k nil f h i = i
  height_join k (node a c s) f h i = (h.0, h.1, height_join k s f h.2 i)

  join_height : (k : ℕ) (g f : Forest A) → Height k (join g f) → Height k f
  join_height k nil f h = h
  join_height k (node a c s) f h = join_height k s f h.2

  pub height_put : (k : ℕ) (g f : Forest A) (q : Spot f) → Height (k - level_at f q) g → Height k f → Height k (put g f q)
  height_put k g nil q h i = subst (λ (n : ℕ). Height n g) (let e : k - 0 ≡ k = omega arith in e) h
  height_put k g (node a c s) (inl q) h i =
      height_join k g (node a c s) (subst (λ (n : ℕ). Height n g) (let e : k - 0 ≡ k = omega arith in e) h) i
  height_put k g (node a c s) (inr (inl q)) h i =
      let e : k - suc (level_at c q) ≡ pred k - level_at c q = omega arith in
      (i.0, height_put (pred k) g c q (subst (λ (n : ℕ). Height n g) e h) i.1, i.2)
  height_put k g (node a c s) (inr (inr q)) h i = (i.0, i.1, height_put k g s q h i.2)

  pub height_cut : (k : ℕ) (g f : Forest A) (q : Spot f) → Height k (put g f q) → Height k f
  height_cut k g nil q h = tt
  height_cut k g (node a c s) (inl q) h = join_height k g (node a c s) h
  height_cut k g (node a c s) (inr (inl q)) h = (h.0, height_cut (pred k) g c q h.1, h.2)
  height_cut k g (node a c s) (inr (inr q)) h = (h.0, h.1, height_cut k g s q h.2)

  -- what holds of entry number i: of the first entry, of one of its children and what is beneath them, of one further on
  pub number_cases : (P : Forest A → ℕ → Type 0)
      → ((a : A) (c s : Forest A) → P (node a c s) zero)
      → ((a : A) (c s : Forest A) (i : ℕ) → i < size c → P c i → P (node a c s) (suc i))
      → ((a : A) (c s : Forest A) (i : ℕ) → i < size s → P s i → P (node a c s) (suc (size c + i)))
      → (f : Forest A) (i : ℕ) → i < size f → P f i
  number_cases P here down on nil i h = absurd (omega arith)
  number_cases P here down on (node a c s) zero h = here a c s
  number_cases P here down on (node a c s) (suc i) h =
      go (ltb i (size c)) refl (number_cases P here down on c i) (number_cases P here down on s (i - size c))
    where
      go : (t : Bool) → ltb i (size c) ≡ t → (i < size c → P c i) → (i - size c < size s → P s (i - size c)) → P (node a c s) (suc i)
      go true e p q = let k = ltb-true i (size c) e in down a c s i k (p k)
      go false e p q =
          let k = ltb-false i (size c) e in
          let m : i - size c < size s = omega arith in
          let n : size c + (i - size c) ≡ i = omega arith in
          subst (λ (j : ℕ). P (node a c s) (suc j)) n (on a c s (i - size c) m (q m))

  -- the definitions by number, at one of the children and further on
  module _ (a : A) (c s : Forest A) where
    module _ (i : ℕ) (h : i < size c) where
      pub spot_down : (w : Where) → spot_of w (suc i) (node a c s) ≡ inr (inl (spot_of w i c))
      spot_down w = rw (lt-ltb i (size c) h) refl

      pub leaf_down : is_leaf (suc i) (node a c s) ≡ is_leaf i c
      leaf_down = rw (lt-ltb i (size c) h) refl

      without_down : without (suc i) (node a c s) ≡ node a (without i c) s
      without_down = rw (lt-ltb i (size c) h) refl

    module _ (i : ℕ) where
      past : ltb (size c + i) (size c) ≡ false
      past = le-ltb (size c + i) (size c) (omega arith)

      left_over : size c + i - size c ≡ i
      left_over = omega arith

      pub spot_on : (w : Where) → spot_of w (suc (size c + i)) (node a c s) ≡ inr (inr (spot_of w i s))
      spot_on w = rw (past, left_over) refl

      pub leaf_on : is_leaf (suc (size c + i)) (node a c s) ≡ is_leaf i s
      leaf_on = rw (past, left_over) refl

      without_on : without (suc (size c + i)) (node a c s) ≡ node a c (without i s)
      without_on = rw (past, left_over) refl

  -- a leaf that is taken out is put back at its place
  pub record Taken (i : ℕ) (f : Forest A) : Type 0 where
    pub rest : Forest A
    pub spot : Spot rest
    pub entry : A
    pub taken_out : without i f ≡ rest
    pub put_back : put (leaf entry) rest spot ≡ f
    pub place : length (ahead rest spot) ≡ i

  none_nil : (f : Forest A) → is_nothing f ≡ true → f ≡ nil
  none_nil nil e = refl
  none_nil (node a c s) e = let z : ◌≡◌ {A = ℕ} 0 1 = cc in absurd (omega arith)

  pub taken : (f : Forest A) (i : ℕ) → i < size f → is_leaf i f ≡ true → Taken i f
  taken =
      number_cases (λ f i. is_leaf i f ≡ true → Taken i f)
      (λ a c s e. record {
        rest = s;
        spot = front_spot s;
        entry = a;
        taken_out = refl;
        put_back = put_front (leaf a) s ∙ ap (λ (z : Forest A). node a z s) (sym (none_nil c e));
        place = ap length (ahead_front s);
      })
      (λ a c s i h t e. let r = t (sym (leaf_down a c s i h) ∙ e) in
      record {
        rest = node a r.rest s;
        spot = inr (inl r.spot);
        entry = r.entry;
        taken_out = without_down a c s i h ∙ ap (λ (z : Forest A). node a z s) r.taken_out;
        put_back = ap (λ (z : Forest A). node a z s) r.put_back;
        place = ap suc r.place;
      })
      (λ a c s i h t e. let r = t (sym (leaf_on a c s i) ∙ e) in
      let l = length-append (preorder c) (ahead r.rest r.spot) in
      record {
        rest = node a c r.rest;
        spot = inr (inr r.spot);
        entry = r.entry;
        taken_out = without_on a c s i ∙ ap (node a c) r.taken_out;
        put_back = ap (node a c) r.put_back;
        place = omega (arith, r.place, length_preorder c);
      })

  -- the root stays: under it a row is put in, or a leaf taken out
  pub rooted_inserted : (w : Where) (i : ℕ) (g f : Forest A) → Rooted f → i < size f → 0 < level_at f (spot_of w i f)
      → Rooted (put g f (spot_of w i f))
  rooted_inserted w i g nil r h l = absurd r
  rooted_inserted w i g (node a c (node b d s)) r h l = absurd r
  rooted_inserted first_child zero g (node a c nil) r h l = tt
  rooted_inserted last_child zero g (node a c nil) r h l = tt
  rooted_inserted before zero g (node a c nil) r h l = absurd (omega arith)
  rooted_inserted after zero g (node a c nil) r h l = absurd (omega arith)
  rooted_inserted w (suc i) g (node a c nil) r h l = rw (spot_down a c nil i (omega arith) w) tt

  pub rooted_without : (i : ℕ) (f : Forest A) → Rooted f → i < size f → 0 < i → Rooted (without i f)
  rooted_without i nil r h l = absurd r
  rooted_without i (node a c (node b d s)) r h l = absurd r
  rooted_without zero (node a c nil) r h l = absurd (omega arith)
  rooted_without (suc i) (node a c nil) r h l = rw (without_down a c nil i (omega arith)) tt

-- a function of a choice
choice : {A B : Type 0} (g : A → B) (t : Bool) (x y : A) → g (cond t x y) ≡ cond t (g x) (g y)
choice g true x y = refl
choice g false x y = refl

-- edits go with the names of entries: a tree without its labels is edited as the tree is
module _ {A B : Type 0} (g : A → B) where
  spot_image : (f : Forest A) → Spot f → Spot (image g f)
  spot_image nil q = tt
  spot_image (node a c s) (inl q) = inl tt
  spot_image (node a c s) (inr (inl q)) = inr (inl (spot_image c q))
  spot_image (node a c s) (inr (inr q)) = inr (inr (spot_image s q))

  join_image : (h f : Forest A) → image g (join h f) ≡ join (image g h) (image g f)
  join_image nil f = refl
  join_image (node a c s) f = ap (node (g a) (image g c)) (join_image s f)

  put_image : (h f : Forest A) (q : Spot f) → image g (put h f q) ≡ put (image g h) (image g f) (spot_image f q)
  unfolding spot_image
  put_image h nil q = refl
  put_image h (node a c s) (inl q) = join_image h (node a c s)
  put_image h (node a c s) (inr (inl q)) = ap (λ (z : Forest B). node (g a) z (image g s)) (put_image h c q)
  put_image h (node a c s) (inr (inr q)) = ap (node (g a) (image g c)) (put_image h s q)

  front_image : (f : Forest A) → front_spot (image g f) ≡ spot_image f (front_spot f)
  unfolding spot_image
  front_image nil = refl
  front_image (node a c s) = refl

  end_image : (f : Forest A) → end_spot (image g f) ≡ spot_image f (end_spot f)
  unfolding spot_image
  end_image nil = refl
  end_image (node a c s) = rw (end_image s) refl

  here_image : (w : Where) (a : A) (c s : Forest A)
      → spot_here w (g a) (image g c) (image g s) ≡ spot_image (node a c s) (spot_here w a c s)
  unfolding spot_image
  here_image first_child a c s = rw (front_image c) refl
  here_image last_child a c s = rw (end_image c) refl
  here_image before a c s = refl
  here_image after a c s = rw (front_image s) refl

  spot_image_lem : (w : Where) (i : ℕ) (f : Forest A) → spot_of w i (image g f) ≡ spot_image f (spot_of w i f)
  unfolding spot_image
  spot_image_lem w i nil = refl
  spot_image_lem w zero (node a c s) = here_image w a c s
  spot_image_lem w (suc i) (node a c s) =
      rw (size_image g c, spot_image_lem w i c, spot_image_lem w (i - size c) s)
      (sym (choice (spot_image (node a c s)) (ltb i (size c)) (inr (inl (spot_of w i c))) (inr (inr (spot_of w (i - size c) s)))))

  pub inserted_image : (w : Where) (i : ℕ) (a : A) (f : Forest A) → image g (inserted w i a f) ≡ inserted w i (g a) (image g f)
  inserted_image w i a f =
      put_image (leaf a) f (spot_of w i f) ∙ ap (put (leaf (g a)) (image g f)) (sym (spot_image_lem w i f))

  pub without_image : (i : ℕ) (f : Forest A) → image g (without i f) ≡ without i (image g f)
  without_image i nil = refl
  without_image zero (node a c s) = refl
  without_image (suc i) (node a c s) =
      rw (size_image g c, sym (without_image i c), sym (without_image (i - size c) s))
      (choice (image g) (ltb i (size c)) (node a (without i c) s) (node a c (without (i - size c) s)))
