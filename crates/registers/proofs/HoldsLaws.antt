-- A buffer is a sound register exactly where it holds a sound tree, and it holds one at most. Assumes nothing.
use mathlib.Core.Path.{◌≡◌, refl, sym, ap, ◌∙◌, subst}
use mathlib.Core.Logic.{◌≢◌}
use mathlib.Core.Bool.{true}
use mathlib.Core.List.{List}
use Prim.Native.Nat.{ℕ, ◌*◌, ◌≤◌}
use native.Mathlib.Omega.{arith}
use lib.ListN.{length, take, drop, length-take}
use lib.Seq.{take_all}
use Rattle.digits.specs.Lists.{All, Distinct}
use borrow.Author.Tests.{eq-eqb}
use Rattle.codes.specs.Code.{IsCode}
use Rattle.identities.specs.Rows.{is_all_new}
use Rattle.identities.proofs.RowLaws.{all_new_gives, gives_all_new}
use Rattle.numbers.specs.Bytes.{number_at}
use Rattle.trees.specs.Forest.{Forest, nil, node, size, preorder, Rooted}
use Rattle.trees.specs.Labelled.{Name, Entry, Tree}
use Rattle.trees.proofs.ForestLaws.{length_preorder}
use Rattle.trees.proofs.UniqueLaws.{one_tree}
use Rattle.trees.proofs.SearchLaws.{starts_all}
use Rattle.registers.specs.Layout.{deepest, entry_size, entry_place, zero_at}
use Rattle.registers.specs.Entries.{entries_bytes, register_bytes}
use Rattle.registers.specs.Holds.{identities, Holds}
use Rattle.registers.specs.Sound.{lines_from, is_tree}
use Rattle.registers.specs.Questions.{count_of, lines_of, is_sized, is_register_sound}
use Rattle.registers.proofs.SoundLaws.{part_of}
use Rattle.registers.proofs.RowLaws.{lines_length}
use Rattle.registers.proofs.EntryLaws.{entries_length, register_length}
use Rattle.registers.proofs.BytesLaws.{Bytes, register_bytes_lem}
use Rattle.registers.proofs.TreeLaws.{tree_lined, lined_tree, tree_labels}
use Rattle.registers.proofs.ReadLaws.{number_of, lines_read}
use Rattle.registers.proofs.QuestionLaws.{sized_gives, sized_entries, parts_of, by_zero, by_tree}

-- some tree is held
pub record Held (b : List ℕ) : Type 0 where
  pub tree : Forest (Entry Name)
  pub holds : Holds b tree

pub sound_holds : (b : List ℕ) → Bytes b → is_register_sound b ≡ true → Held b
sound_holds b y e =
    let p = parts_of b e in
    let s = sized_gives b p.sized in
    let n : ℕ = count_of b in
    let t = tree_lined b n p.tree in
    let us : List (Entry Name) = lines_of b in
    let q : preorder t.tree ≡ us = t.entries in
    let i = all_new_gives (identities us) p.new in
    let l : length us ≡ n = lines_length b 0 n in
    let c = subst (All (λ (u : Entry Name). IsCode u.start)) q (starts_all IsCode t.tree t.sound.coded) in
    let r : register_bytes us ≡ take (entry_place n) b = register_bytes_lem b n y (sized_entries b s) refl s.zeroed c in
    let w : length (register_bytes us) ≡ entry_place n = register_length us ∙ ap entry_place l in
    record {
      tree = t.tree;
      holds = record {
        whole = record {
          rooted = t.rooted;
          most = omega (arith, sym (length_preorder t.tree) ∙ ap length q, l, s.most);
          real = subst (λ z. All (λ x. x ≢ 0) (identities z)) (sym q) i.0;
          distinct = subst (λ z. Distinct (identities z)) (sym q) i.1;
          sound = t.sound;
        };
        bytes = subst (λ z. take (length (register_bytes z)) b ≡ register_bytes z) (sym q) (ap (λ (k : ℕ). take k b) w ∙ sym r);
      };
    }

-- the other way round
module _ (b : List ℕ) (f : Forest (Entry Name)) (h : Holds b f) where
  abbrev us : List (Entry Name)
  us = preorder f

  abbrev n : ℕ
  n = length us

  pub whole_bytes : take (entry_place n) (drop 0 b) ≡ register_bytes us
  whole_bytes = ap (λ (k : ℕ). take k b) (sym (register_length us)) ∙ h.bytes

  room : entry_place n ≤ length b
  room = omega (arith, sym (length-take (entry_place n) b) ∙ ap length whole_bytes ∙ register_length us)

  pub count_is : count_of b ≡ n
  count_is = number_of b (register_bytes us) 0 (entry_place n) 0 whole_bytes (omega arith) ∙ omega arith

  pub count_size : count_of b ≡ size f
  count_size = count_is ∙ length_preorder f

  zero_is : number_at b zero_at ≡ 0
  zero_is = number_of b (register_bytes us) 0 (entry_place n) 4 whole_bytes (omega arith) ∙ omega arith

  lines_are : lines_from b 0 n ≡ us
  lines_are =
      lines_read b us 0
      (part_of b (register_bytes us) 0 (entry_place n) 8 (entry_size * n) whole_bytes (omega arith)
      ∙ take_all (entry_size * n) (entries_bytes us) (omega (arith, entries_length us)))
      (tree_labels f h.whole.sound)

  some : 1 ≤ n
  some = go f h.whole.rooted
    where
      go : (g : Forest (Entry Name)) → Rooted g → 1 ≤ length (preorder g)
      go nil r = absurd r
      go (node u c s) r = omega arith

  holds_sized : is_sized b ≡ true
  holds_sized =
      let m = length_preorder f in
      let k = count_is in
      sym (by_zero b (omega (arith, room)) (omega (arith, some)) (omega (arith, h.whole.most)) (omega (arith, room)))
      ∙ eq-eqb (number_at b zero_at) 0 zero_is

  pub lines_held : lines_of b ≡ us
  lines_held = ap (lines_from b 0) count_is ∙ lines_are

  pub holds_sound : is_register_sound b ≡ true
  holds_sound =
      let t : is_tree b n ≡ true = lined_tree b n (record {
        tree = f;
        rooted = h.whole.rooted;
        entries = sym lines_are;
        sound = h.whole.sound;
      }) in
      let i : is_all_new (identities us) ≡ true = gives_all_new (identities us) h.whole.real h.whole.distinct in
      sym (by_tree b holds_sized (ap (λ z. is_all_new (identities z)) lines_held ∙ i)) ∙ ap (is_tree b) count_is ∙ t

  abbrev tree_held : Tree IsCode deepest (lines_of b)
  tree_held = record { tree = f; rooted = h.whole.rooted; entries = sym lines_held; sound = h.whole.sound }

-- at most one tree
pub one_held : (b : List ℕ) (f g : Forest (Entry Name)) → Holds b f → Holds b g → f ≡ g
one_held b f g h k = one_tree IsCode deepest (lines_of b) (tree_held b f h) (tree_held b g k)
