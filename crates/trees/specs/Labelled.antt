-- Labelled forests: the codes of a list put along the tour, first labelling, and what a sound labelled forest is.
-- Assumes nothing.
use Rattle.std.specs.Prelude.{◌≡◌, List, [], ℕ, suc, ◌+◌, ◌*◌, drop, get_or}
use Rattle.digits.specs.Lists.{All}
use Rattle.digits.specs.Order.{Digits}
use Rattle.digits.specs.Code.{Rising}
use Rattle.digits.specs.Thirds.{thirds}
use Rattle.trees.specs.Forest.{Forest, nil, node, size, preorder, Rooted, Height, image}
use Rattle.trees.specs.Tour.{tour, Parents}

-- 01, Register: what an entry has besides its label
pub record Name : Type 0 where
  pub identity : ℕ
  pub tag : ℕ

-- 01, Register: an entry is a name and a label; 01, Label: start, end, parent start. An empty parent start has no digits
pub record Entry (A : Type 0) : Type 0 where
  pub name : A
  pub start : Digits
  pub end : Digits
  pub parent : Digits

module _ {A : Type 0} where
  -- the name of an entry, and the three codes of its label
  abbrev pub names : Entry A → A
  names u = u.name

  abbrev pub starts : Entry A → Digits
  starts u = u.start

  abbrev pub ends : Entry A → Digits
  ends u = u.end

  abbrev pub parents : Entry A → Digits
  parents u = u.parent

  -- the tree without its labels
  abbrev pub plain : Forest (Entry A) → Forest A
  plain f = image names f

  -- the codes along the tour
  abbrev pub codes : Forest (Entry A) → List Digits
  codes f = tour starts ends f

  -- the codes of a list along the tour: a start, two for each child and what is beneath it, an end; p is the first row's parent start
  abbrev pub fill : Digits → Forest A → List Digits → Forest (Entry A)
  fill p nil xs = nil
  fill p (node a c s) xs =
      let x = get_or xs 0 [] in
      let y = get_or xs (suc (2 * size c)) [] in
      node (record { name = a; start = x; end = y; parent = p }) (fill x c (drop 1 xs)) (fill p s (drop (suc (suc (2 * size c))) xs))

  -- 01, first labelling: the 2N starts and ends along the tour are numbered 1 to 2N; 0 and 2N + 1 are open sides
  abbrev pub labelled : Forest A → Forest (Entry A)
  labelled f = fill [] f (thirds [] [] (2 * size f + 1))

  -- 01, Register: a row of entries, with their children, of at most k levels, parent start p, strictly between the sides l and r
  pub record Sound (Code : Digits → Type 0) (k : ℕ) (p l r : Digits) (f : Forest (Entry A)) : Type 0 where
    pub rising : Rising l (codes f) r
    pub coded : All Code (codes f)
    pub parented : Parents starts parents p f
    pub height : Height k f

  -- 01, Register: some ordered tree with depths 0 to `deepest` has exactly these entries in document order; the root's parent start: empty
  pub record Tree (Code : Digits → Type 0) (deepest : ℕ) (us : List (Entry A)) : Type 0 where
    pub tree : Forest (Entry A)
    pub rooted : Rooted tree
    pub entries : preorder tree ≡ us
    pub sound : Sound Code (suc deepest) [] [] [] tree
