-- What a sound register is: the bytes of a sound labelled tree. Assumes nothing.
use Rattle.std.specs.Prelude.{◌≡◌, ◌≢◌, List, [], map, ℕ, suc, ◌≤◌, length, take}
use Rattle.digits.specs.Lists.{All, Distinct}
use Rattle.codes.specs.Code.{IsCode}
use Rattle.trees.specs.Forest.{Forest, size, preorder, Rooted}
use Rattle.trees.specs.Labelled.{Name, Entry, Sound}
use Rattle.registers.specs.Layout.{most_entries, deepest}
use Rattle.registers.specs.Entries.{register_bytes}

-- the identities of entries
abbrev pub identities : List (Entry Name) → List ℕ
identities us = map (λ u. u.name.identity) us

-- 01, Register: an ordered tree of 1 to 4,096 entries with depths 0 to 63, identities not 0 and all different, codes that rise along
-- the tour, each parent start the parent's start, the root's empty
pub record Whole (tree : Forest (Entry Name)) : Type 0 where
  pub rooted : Rooted tree
  pub most : size tree ≤ most_entries
  pub real : All (λ x. x ≢ 0) (identities (preorder tree))
  pub distinct : Distinct (identities (preorder tree))
  pub sound : Sound IsCode (suc deepest) [] [] [] tree

-- the buffer begins with the bytes of a sound tree; bytes past the counted entries are not looked at
pub record Holds (buffer : List ℕ) (tree : Forest (Entry Name)) : Type 0 where
  pub whole : Whole tree
  pub bytes : take (length (register_bytes (preorder tree))) buffer ≡ register_bytes (preorder tree)
