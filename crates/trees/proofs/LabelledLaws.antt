-- Laws of labelled forests: the codes put along the tour are its codes, the forest stays, first labelling is sound and shortest.
-- Assumes nothing.
use mathlib.Core.Path.{◌≡◌, refl, sym, ap, ◌∙◌}
use mathlib.Core.List.{List, [], ◌∷◌, ◌++◌}
use Prim.Native.Nat.{ℕ, suc, ◌+◌, ◌*◌, ◌≤◌, ◌<◌}
use native.Mathlib.Numerals.{add-one}
use native.Mathlib.Omega.{arith}
use lib.ListN.{length, take, drop, get_or, length-drop}
use lib.Seq.{take-add, drop-cons, take_all}
use Rattle.digits.specs.Lists.{All}
use Rattle.digits.specs.Order.{Digits, Below}
use Rattle.digits.specs.Code.{Within, Enough}
use Rattle.digits.specs.Thirds.{thirds}
use Rattle.digits.proofs.OrderLaws.{below_irrefl}
use Rattle.digits.proofs.ThirdsLaws.{open_gap, thirds_rising, thirds_length, first_within}
use Rattle.digits.proofs.CountLaws.{no_better}
use Rattle.trees.specs.Forest.{Forest, nil, node, size, preorder, Rooted, Height}
use Rattle.trees.specs.Table.{Ruled, forest}
use Rattle.trees.specs.Tour.{tour, Rises, Parents}
use Rattle.trees.specs.Labelled.{starts, ends, parents, plain, codes, fill, labelled, Sound, Tree, names}
use Rattle.trees.proofs.ListLaws.{pairs_distinct}
use Rattle.trees.proofs.ImageLaws.{size_image, height_image, rooted_image}
use Rattle.trees.proofs.TableLaws.{length_rows, ruled_rows, ruled_forest, ruled_height}
use Rattle.trees.proofs.TourLaws.{rising_pairs, length_tour}

-- a list cut at one of its elements
cut_take : (n m : ℕ) (xs : List Digits) → n + suc m ≤ length xs
    → take (n + suc m) xs ≡ take n xs ++ (get_or xs n [] ∷ take m (drop (suc n) xs))
cut_take n m xs h =
    let k : n < length xs = omega arith in
    rw (take-add n (suc m) xs, drop-cons xs n [])

module _ {A : Type 0} where
  -- whatever the codes, the tree is the one labelled, and each parent start the parent's start
  plain_fill : (p : Digits) (f : Forest A) (xs : List Digits) → plain (fill p f xs) ≡ f
  plain_fill p nil xs = refl
  plain_fill p (node a c s) xs = cc (plain_fill (get_or xs 0 []) c (drop 1 xs), plain_fill p s (drop (suc (suc (2 * size c))) xs))

  pub parents_fill : (p : Digits) (f : Forest A) (xs : List Digits) → Parents starts parents p (fill p f xs)
  parents_fill p nil xs = tt
  parents_fill p (node a c s) xs =
      (refl, parents_fill (get_or xs 0 []) c (drop 1 xs), parents_fill p s (drop (suc (suc (2 * size c))) xs))

  -- the codes along the tour are those of the list
  codes_fill : (p : Digits) (f : Forest A) (xs : List Digits) → 2 * size f ≤ length xs → codes (fill p f xs) ≡ take (2 * size f) xs
  codes_fill p nil xs h = refl
  codes_fill p (node a c s) [] h = absurd (omega arith)
  codes_fill p (node a c s) (x ∷ xs) h =
      let n : 2 * suc (size c + size s) ≡ suc (2 * size c + suc (2 * size s)) = omega arith in
      let i = codes_fill x c xs (omega arith) in
      let j = codes_fill p s (drop (suc (2 * size c)) xs) (simp length-drop (omega arith)) in
      rw n (cc (i, j, cut_take (2 * size c) (2 * size s) xs (omega arith)))

  -- first labelling: 01's thirds along the tour
  pub codes_labelled : (f : Forest A) → codes (labelled f) ≡ thirds [] [] (2 * size f + 1)
  codes_labelled f =
      let xs = thirds [] [] (2 * size f + 1) in
      let k = thirds_length [] [] (2 * size f + 1) (omega arith) in
      codes_fill [] f xs (omega arith) ∙ take_all (2 * size f) xs (omega arith)

  pub plain_labelled : (f : Forest A) → plain (labelled f) ≡ f
  plain_labelled f = plain_fill [] f (thirds [] [] (2 * size f + 1))

  pub size_labelled : (f : Forest A) → size (labelled f) ≡ size f
  size_labelled f = sym (size_image names (labelled f)) ∙ ap size (plain_labelled f)

  rises_labelled : (f : Forest A) → Rises starts ends (labelled f)
  rises_labelled f = rw (codes_labelled f) (thirds_rising [] [] (2 * size f + 1) open_gap)

  -- demand 3: at most m digits, m least such that 3 ^ m > 2N
  pub within_labelled : (f : Forest A) (m : ℕ) → Enough 3 (2 * size f) m → All (Within 1 3 m) (codes (labelled f))
  within_labelled f m e = rw (codes_labelled f, add-one) (first_within (2 * size f) m e)

  -- sound, whatever is asked of a code, where the first codes are codes
  pub labelled_sound : (Code : Digits → Type 0) (k : ℕ) (f : Forest A) → Height k f → All Code (codes (labelled f))
      → Sound Code k [] [] [] (labelled f)
  labelled_sound Code k f h c = record {
    rising = rises_labelled f;
    coded = c;
    parented = parents_fill [] f (thirds [] [] (2 * size f + 1));
    height = height_image names k (labelled f) (rw (plain_labelled f) h);
  }

  sound_labelled : (k m : ℕ) (f : Forest A) → Height k f → Enough 3 (2 * size f) m → Sound (Within 1 3 m) k [] [] [] (labelled f)
  sound_labelled k m f h e = labelled_sound (Within 1 3 m) k f h (within_labelled f m e)

  pub rooted_labelled : (deepest : ℕ) (p : A × ℕ) (t : List (A × ℕ)) → Ruled deepest (p ∷ t) → Rooted (labelled (forest (p ∷ t)))
  rooted_labelled deepest p t h =
      let f = forest (p ∷ t) in
      let r : Rooted f = rw (ruled_forest deepest p t h) tt in
      rooted_image names (labelled f) (rw (plain_labelled f) r)

  -- the labelled tree of a table that meets the rule, for its entries
  pub tree_labelled : (deepest m : ℕ) (p : A × ℕ) (t : List (A × ℕ)) → Ruled deepest (p ∷ t) → Enough 3 (2 * length (p ∷ t)) m
      → Tree (Within 1 3 m) deepest (preorder (labelled (forest (p ∷ t))))
  tree_labelled deepest m p t h e =
      let f = forest (p ∷ t) in
      let n : size f ≡ length (p ∷ t) = sym (length_rows 0 f) ∙ ap length (ruled_rows deepest (p ∷ t) h) in
      record {
        tree = labelled f;
        rooted = rooted_labelled deepest p t h;
        entries = refl;
        sound = sound_labelled (suc deepest) m f (ruled_height deepest (p ∷ t) h) (rw n e);
      }

-- demand 3, the other half: the 2N codes of any rising tour cannot all be shorter than m
pub rises_need : {A : Type 0} (st en : A → Digits) (f : Forest A) → Rises st en f → (least symbols m h : ℕ)
    → 0 < symbols
    → Enough symbols (2 * size f) m
    → All (Within least symbols h) (tour st en f)
    → m ≤ h
rises_need st en f r least symbols m h z e w =
    no_better least symbols z m h (tour st en f) (rw (length_tour st en f) e) w
    (pairs_distinct Below below_irrefl (tour st en f) (rising_pairs [] (tour st en f) [] r))
