-- A register that holds a tree answers rightly: order, above, parent, sibling, distance, place and depth are those of the plain tree.
-- Assumes nothing.
use mathlib.Core.Path.{◌≡◌, refl, sym, ap, ◌∙◌, subst}
use mathlib.Core.Logic.{◌≢◌}
use mathlib.Core.Bool.{Bool, true, false, not, ◌&&◌, and-eq-true_iff, false≢true}
use mathlib.Core.List.{List, [], ◌∷◌}
use Prim.Native.Nat.{ℕ, suc, ◌+◌, ◌<◌}
use native.Mathlib.Omega.{arith}
use lib.IntN.{ℤ}
use lib.ListN.{length, get_or, get_or-map}
use Rattle.digits.specs.Order.{Digits, order_by}
use Rattle.answers.specs.Signed.{yes_no}
use Rattle.codes.specs.Reading.{is_same}
use Rattle.codes.proofs.ReadingLaws.{is_same_true, is_same_refl}
use Rattle.labels.specs.Questions.{order, is_above, is_parent, is_sibling, order_answer, above_answer, parent_answer, sibling_answer}
use Rattle.labels.proofs.QuestionLaws.{signed_answered}
use Rattle.labels.proofs.RelationLaws.{Ordered, before, same, behind, ordered, above_gives, gives_above}
use Rattle.trees.specs.Lists.{Member}
use Rattle.trees.specs.Forest.{Forest, size, preorder}
use Rattle.trees.specs.Axes.{Has, Parent, Ancestor, Sibling, Before}
use Rattle.trees.specs.Questions.{ParentCodes, SiblingCodes}
use Rattle.trees.specs.Labelled.{Name, Entry, starts, ends, parents, plain, names}
use Rattle.trees.proofs.ListLaws.{member_at}
use Rattle.trees.proofs.ForestLaws.{length_preorder, member_gives_has, has_gives_member}
use Rattle.trees.proofs.ImageLaws.{size_image, preorder_image, depth_image, map_one, ancestor_image, parent_image, sibling_image, before_image}
use Rattle.trees.proofs.KinLaws.{order_codes, above_codes, parent_codes, sibling_codes, one_start}
use Rattle.registers.specs.declared.Found.TheVariants.{At}
use Rattle.registers.specs.Holds.{identities, Holds}
use Rattle.registers.specs.Sound.{label_bytes, line_at}
use Rattle.registers.specs.Questions.{count_of, lines_of, is_register_sound, found_from, found_in, depth_in}
use Rattle.registers.proofs.QuestionLaws.{line_at_lem, place_found, depth_found, distance_found}
use Rattle.registers.proofs.HoldsLaws.{lines_held, count_size, holds_sound}
use Rattle.registers.proofs.AnswerLaws.{label_in, asked_lines, depth_held, found_at}
use Rattle.demands.specs.Answers.{Says, rightly_yes, rightly_no, SaysOrder, minus_one, zero_one, plus_one, entry, AllRight}

-- a test that holds exactly where P does answers rightly
says : (P : Type 0) (t : Bool) → (t ≡ true → P) → (P → t ≡ true) → Says P (yes_no t)
says P true h k = rightly_yes (h refl)
says P false h k = rightly_no (λ p. false≢true (k p))

-- the parent and sibling tests say what 01 says of the codes
not_empty : (x : Digits) → not (is_same x []) ≡ true → x ≢ []
not_empty x e n = false≢true (ap (λ (z : Digits). not (is_same z [])) (sym n) ∙ e)

empty_not : (x : Digits) → x ≢ [] → not (is_same x []) ≡ true
empty_not [] n = absurd (n refl)
empty_not (a ∷ x) n = refl

apart : (x y : Digits) → x ≢ y → not (is_same x y) ≡ true
apart x y n = go (is_same x y) refl
  where
    go : (t : Bool) → is_same x y ≡ t → not t ≡ true
    go true e = absurd (n (is_same_true x y e))
    go false e = refl

apart_gives : (x y : Digits) → not (is_same x y) ≡ true → x ≢ y
apart_gives x y e i = false≢true (sym (ap not (ap (is_same x) (sym i) ∙ is_same_refl x)) ∙ e)

module _ (u v : Entry Name) where
  parent_gives : is_parent (label_in u) (label_in v) ≡ true → ParentCodes starts parents u v
  parent_gives e =
      let t = (and-eq-true_iff (not (is_same v.parent [])) (is_same v.parent u.start)).0 e in
      (not_empty v.parent t.0, is_same_true v.parent u.start t.1)

  gives_parent : ParentCodes starts parents u v → is_parent (label_in u) (label_in v) ≡ true
  gives_parent c = rw (empty_not v.parent c.0, c.1) (is_same_refl u.start)

  sibling_gives : is_sibling (label_in u) (label_in v) ≡ true → SiblingCodes starts parents u v
  sibling_gives e =
      let a = (and-eq-true_iff (not (is_same u.parent []) && not (is_same v.parent []) && is_same u.parent v.parent)
      (not (is_same u.start v.start))).0 e in
      let b = (and-eq-true_iff (not (is_same u.parent []) && not (is_same v.parent [])) (is_same u.parent v.parent)).0 a.0 in
      let c = (and-eq-true_iff (not (is_same u.parent [])) (not (is_same v.parent []))).0 b.0 in
      record {
        left = not_empty u.parent c.0;
        right = not_empty v.parent c.1;
        equal = is_same_true u.parent v.parent b.1;
        different = apart_gives u.start v.start a.1;
      }

  gives_sibling : SiblingCodes starts parents u v → is_sibling (label_in u) (label_in v) ≡ true
  gives_sibling c =
      let s : is_same u.parent v.parent ≡ true = ap (is_same u.parent) (sym c.equal) ∙ is_same_refl u.parent in
      rw (empty_not u.parent c.left, empty_not v.parent c.right, s, apart u.start v.start c.different) refl

abbrev nothing : Entry Name
nothing = record { name = record { identity = 0; tag = 0 }; start = []; end = []; parent = [] }

module _ (b : List ℕ) (f : Forest (Entry Name)) (h : Holds b f) where
  abbrev t : Forest Name
  t = plain f

  sound : is_register_sound b ≡ true
  sound = holds_sound b f h

  pub count_tree : count_of b ≡ size t
  count_tree = count_size b f h ∙ sym (size_image names f)

  line : (i : ℕ) → i < size t → line_at b i ≡ get_or (preorder f) i nothing
  line i k =
      let z : 0 + i ≡ i = omega arith in
      sym (ap (λ us. get_or us i nothing) (sym (lines_held b f h)) ∙ line_at_lem b (count_of b) 0 i nothing (omega (arith, count_tree))
      ∙ ap (line_at b) z)

  pub name_at : (i : ℕ) → i < size t → entry t i ≡ (line_at b i).name
  name_at i k =
      ap (λ (ns : List Name). get_or ns i nothing.name) (preorder_image names f) ∙ get_or-map names (preorder f) i nothing
      ∙ ap names (sym (line i k))

  pub present : (i : ℕ) → i < size t → Has (line_at b i) f
  present i k =
      member_gives_has f (line_at b i)
      (subst (λ (u : Entry Name). Member u (preorder f)) (sym (line i k))
      (member_at (preorder f) i nothing (omega (arith, length_preorder f, size_image names f))))

  one_name : (u v : Entry Name) → Has u f → Has v f → u.name ≡ v.name → u ≡ v
  one_name u v i j e =
      map_one (λ (w : Entry Name). w.name.identity) (preorder f) h.whole.distinct u v (has_gives_member f u i) (has_gives_member f v j)
      (ap (λ (n : Name). n.identity) e)

  -- two entries by their places
  module _ (i j : ℕ) (k : i < size t) (l : j < size t) where
    abbrev u : Entry Name
    u = line_at b i

    abbrev v : Entry Name
    v = line_at b j

    hu : Has u f
    hu = present i k

    hv : Has v f
    hv = present j l

    in_i : i < count_of b
    in_i = omega (arith, count_tree)

    in_j : j < count_of b
    in_j = omega (arith, count_tree)

    says_order : SaysOrder (Before u.name v.name t) (u.name ≡ v.name) (Before v.name u.name t)
        (order_answer (label_bytes b i) (label_bytes b j))
    says_order =
        subst (SaysOrder (Before u.name v.name t) (u.name ≡ v.name) (Before v.name u.name t))
        (sym (signed_answered (λ z. z) _ _ _ ∙ asked_lines b i j sound in_i in_j order))
        (go (order_by u.start v.start) (ordered u.start v.start))
      where
        go : (a : ℤ) → Ordered u.start v.start a
            → SaysOrder (Before u.name v.name t) (u.name ≡ v.name) (Before v.name u.name t) a
        go a (before c) = minus_one ((before_image names f one_name u v hu hv).0
            ((order_codes starts ends f h.whole.sound.rising u v hu hv).0 c))
        go a (same e) = zero_one (ap names (one_start starts ends f h.whole.sound.rising u v hu hv e))
        go a (behind c) = plus_one ((before_image names f one_name v u hv hu).0
            ((order_codes starts ends f h.whole.sound.rising v u hv hu).0 c))

    says_above : Says (Ancestor u.name v.name t) (above_answer (label_bytes b i) (label_bytes b j))
    says_above =
        let c = above_codes starts ends f h.whole.sound.rising u v hu hv in
        let g = ancestor_image names f one_name u v hu hv in
        subst (Says (Ancestor u.name v.name t))
        (sym (signed_answered yes_no _ _ _ ∙ asked_lines b i j sound in_i in_j (λ x y. yes_no (is_above x y))))
        (says _ (is_above (label_in u) (label_in v)) (λ e. g.0 (c.0 (above_gives (label_in u) (label_in v) e)))
        (λ a. let d = c.1 (g.1 a) in gives_above (label_in u) (label_in v) d.0 d.1))

    says_parent : Says (Parent u.name v.name t) (parent_answer (label_bytes b i) (label_bytes b j))
    says_parent =
        let c = parent_codes starts ends parents f h.whole.sound.rising h.whole.sound.parented u v hu hv in
        let g = parent_image names f one_name u v hu hv in
        subst (Says (Parent u.name v.name t))
        (sym (signed_answered yes_no _ _ _ ∙ asked_lines b i j sound in_i in_j (λ x y. yes_no (is_parent x y))))
        (says _ (is_parent (label_in u) (label_in v)) (λ e. g.0 (c.0 (parent_gives u v e))) (λ a. gives_parent u v (c.1 (g.1 a))))

    says_sibling : Says (Sibling u.name v.name t) (sibling_answer (label_bytes b i) (label_bytes b j))
    says_sibling =
        let c = sibling_codes starts ends parents f h.whole.sound.rising h.whole.sound.parented u v hu hv in
        let g = sibling_image names f one_name u v hu hv in
        subst (Says (Sibling u.name v.name t))
        (sym (signed_answered yes_no _ _ _ ∙ asked_lines b i j sound in_i in_j (λ x y. yes_no (is_sibling x y))))
        (says _ (is_sibling (label_in u) (label_in v)) (λ e. g.0 (c.0 (sibling_gives u v e))) (λ a. gives_sibling u v (c.1 (g.1 a))))

  found : (i : ℕ) → i < size t → found_in b (line_at b i).name.identity ≡ At i
  found i k =
      let ys = identities (preorder f) in
      let n : length ys ≡ size t = ids_length (preorder f) ∙ length_preorder f ∙ sym (size_image names f) in
      let e : get_or ys i 0 ≡ (line_at b i).name.identity =
      get_or-map (λ (u : Entry Name). u.name.identity) (preorder f) i nothing ∙ ap (λ (u : Entry Name). u.name.identity)
      (sym (line i k)) in
      let z : 0 + i ≡ i = omega arith in
      ap (λ us. found_from 0 (line_at b i).name.identity (identities us)) (lines_held b f h)
      ∙ ap (λ (x : ℕ). found_from 0 x ys) (sym e) ∙ found_at ys 0 i h.whole.distinct (omega arith) ∙ ap At z
    where
      ids_length : (us : List (Entry Name)) → length (identities us) ≡ length us
      ids_length [] = refl
      ids_length (u ∷ us) = ap suc (ids_length us)

  pub all_right : AllRight b t
  all_right i j k l =
      let x = (line_at b i).name.identity in
      let y = (line_at b j).name.identity in
      let n = name_at i k in
      let m = name_at j l in
      record {
        order = rw (n, m) (says_order i j k l);
        above = rw (n, m) (says_above i j k l);
        parent = rw (n, m) (says_parent i j k l);
        sibling = rw (n, m) (says_sibling i j k l);
        distance = rw (n, m) (sym (distance_found b x y sound (At i) (At j) (sym (found i k)) (sym (found j l))));
        place = rw n (sym (place_found b x sound (At i) (sym (found i k))));
        depth = rw n (
          depth_in (line_at b i) (lines_of b),
          sym (depth_found b x sound (At i) (sym (found i k))),
          depth_image names f (depth_in (line_at b i) (lines_of b)) (line_at b i) (depth_held b f h (line_at b i) (present i k)),
        );
      }
