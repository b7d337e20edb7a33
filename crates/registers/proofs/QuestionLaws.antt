-- Laws of the size of a register, of its identities, and of the loops that look for one or count what is above one. Assumes nothing.
use Rattle.std.specs.Prelude.{Result, Ok, Err, IfOk, IfErr}
use mathlib.Core.Path.{◌≡◌, refl, sym, ap, ◌∙◌, subst}
use mathlib.Core.Bool.{Bool, true, false, cond, ◌&&◌, and-eq-true_iff}
use mathlib.Core.List.{List, [], ◌∷◌, ◌++◌}
use Prim.Native.Nat.{ℕ, zero, suc, ◌+◌, ◌-◌, ◌≤◌, ◌<◌}
use native.Mathlib.Numerals.{add-one}
use native.Mathlib.Omega.{arith}
use lib.Dec.{eqb, leb, ltb}
use lib.IntN.{ℤ, pos, negsuc, ◌-ℤ◌}
use lib.ListN.{length, take, get_or, set, length-map}
use lib.Seq.{take-suc-set}
use lib.Signed.{mag}
use mir.Syntax.{w32}
use mir.Val.{SFits, to_z, of_z}
use mir.Facts.{to_z_pos, to_z-of_z}
use borrow.Author.Tests.{leb-true, eqb-true, le-leb, eq-eqb, ne_eqb}
use Rattle.digits.specs.Lists.{All}
use Rattle.digits.specs.Order.{is_below}
use Rattle.digits.proofs.ListLaws.{all_at}
use Rattle.numbers.specs.Bytes.{number_at}
use Rattle.codes.specs.Code.{IsCode}
use Rattle.answers.specs.declared.Refusal.{Refusal}
use Rattle.answers.specs.declared.Refusal.TheVariants.{Register, Target}
use Rattle.answers.specs.Signed.{signed_as, Signable}
use Rattle.identities.specs.Identities.{is_among}
use Rattle.identities.specs.Rows.{is_all_new}
use Rattle.trees.specs.Labelled.{Name, Entry}
use Rattle.registers.specs.declared.Found.{Found}
use Rattle.registers.specs.declared.Found.TheVariants.{At, Nothing}
use Rattle.trees.proofs.SearchLaws.{starts_all}
use Rattle.registers.specs.Layout.{most_entries, zero_at, header_size, entry_place, identity_at, start_place, end_place, parent_place}
use Rattle.registers.specs.Entries.{entry_at, code_at}
use Rattle.registers.specs.Holds.{identities}
use Rattle.registers.specs.Sound.{is_sound_label, is_sound_labels, line_at, lines_from, is_tree, HasEntries}
use Rattle.registers.specs.Questions.{count_of, lines_of, is_sized, is_register_sound, found_from, found_in, is_above_entry, depth_in, place_as, place_answer, depth_as, depth_result, depth_answer, distance_as, distance_result, distance_answer}
use Rattle.registers.proofs.SoundLaws.{SoundAt, sound_at, has_place, labels_all}
use Rattle.registers.proofs.RowLaws.{line_start, line_end, line_parent, lines_length, lines_next}
use Rattle.registers.proofs.BytesLaws.{coded_sound}
use Rattle.registers.proofs.TreeLaws.{tree_lined}

-- the identity of a line, whatever its label
blank_name : (t : Bool) (u v : Entry Name) → v.name ≡ u.name → (cond t u v).name ≡ u.name
blank_name true u v e = refl
blank_name false u v e = e

pub line_identity : (b : List ℕ) (i : ℕ) → (line_at b i).name.identity ≡ number_at b (entry_place i + identity_at)
unfolding line_at entry_at
line_identity b i = ap (λ (n : Name). n.identity) (blank_name (is_sound_label b i) (entry_at b i) _ refl)

-- the size of a register, test by test
pub record Sized (b : List ℕ) : Type 0 where
  pub header : header_size ≤ length b
  pub some : 1 ≤ count_of b
  pub most : count_of b ≤ most_entries
  pub room : entry_place (count_of b) ≤ length b
  pub zeroed : number_at b zero_at ≡ 0

pub sized_gives : (b : List ℕ) → is_sized b ≡ true → Sized b
sized_gives b e =
    let a = (and-eq-true_iff (leb header_size (length b)) _).0 e in
    let c = (and-eq-true_iff (leb 1 (count_of b)) _).0 a.1 in
    let d = (and-eq-true_iff (leb (count_of b) most_entries) _).0 c.1 in
    let f = (and-eq-true_iff (leb (entry_place (count_of b)) (length b)) _).0 d.1 in
    record {
      header = leb-true header_size (length b) a.0;
      some = leb-true 1 (count_of b) c.0;
      most = leb-true (count_of b) most_entries d.0;
      room = leb-true (entry_place (count_of b)) (length b) f.0;
      zeroed = eqb-true (number_at b zero_at) 0 f.1;
    }

-- a buffer in which all counted entries stand has a register's size exactly where the second number is zero
pub by_zero : (b : List ℕ) → header_size ≤ length b → 1 ≤ count_of b → count_of b ≤ most_entries → entry_place (count_of b) ≤ length b
    → eqb (number_at b zero_at) 0 ≡ is_sized b
by_zero b h k m r =
    rw (
      le-leb header_size (length b) h,
      le-leb 1 (count_of b) k,
      le-leb (count_of b) most_entries m,
      le-leb (entry_place (count_of b)) (length b) r,
    ) refl

pub sized_entries : (b : List ℕ) → Sized b → HasEntries b (count_of b)
sized_entries b s = (s.most, s.room)

-- the whole test, part by part
module _ (b : List ℕ) where
  pub not_sized : is_sized b ≡ false → false ≡ is_register_sound b
  unfolding is_register_sound
  not_sized e = rw e refl

  pub not_new : is_sized b ≡ true → is_all_new (identities (lines_of b)) ≡ false → false ≡ is_register_sound b
  unfolding is_register_sound
  not_new e f = rw (e, f) refl

  pub by_tree : is_sized b ≡ true → is_all_new (identities (lines_of b)) ≡ true → is_tree b (count_of b) ≡ is_register_sound b
  unfolding is_register_sound
  by_tree e f = rw (e, f) refl

  pub record Parts : Type 0 where
    pub sized : is_sized b ≡ true
    pub new : is_all_new (identities (lines_of b)) ≡ true
    pub tree : is_tree b (count_of b) ≡ true

  pub parts_of : is_register_sound b ≡ true → Parts
  unfolding is_register_sound
  parts_of e =
      let a = (and-eq-true_iff (is_sized b) _).0 e in
      let c = (and-eq-true_iff (is_all_new (identities (lines_of b))) (is_tree b (count_of b))).0 a.1 in
      record { sized = a.0; new = c.0; tree = c.1 }

-- a line by its number, and one line more
pub line_at_lem : (b : List ℕ) (m i j : ℕ) (d : Entry Name) → j < m → get_or (lines_from b i m) j d ≡ line_at b (i + j)
line_at_lem b zero i j d h = absurd (omega arith)
line_at_lem b (suc m) i zero d h = let e : i + 0 ≡ i = omega arith in ap (line_at b) (sym e)
line_at_lem b (suc m) i (suc j) d h =
    let e : suc i + j ≡ i + suc j = omega arith in line_at_lem b m (suc i) j d (omega arith) ∙ ap (line_at b) e

identities_more : (b : List ℕ) (m i : ℕ)
    → identities (lines_from b i (suc m)) ≡ identities (lines_from b i m) ++ ((line_at b (i + m)).name.identity ∷ [])
identities_more b zero i = let e : i + 0 ≡ i = omega arith in ap (λ (k : ℕ). (line_at b k).name.identity ∷ []) (sym e)
identities_more b (suc m) i =
    let e : suc i + m ≡ i + suc m = omega arith in
    ap (λ (l : List ℕ). (line_at b i).name.identity ∷ l)
    (identities_more b m (suc i) ∙ ap (λ (k : ℕ). identities (lines_from b (suc i) m) ++ ((line_at b k).name.identity ∷ [])) e)

pub identity_next : (b all : List ℕ) (i v : ℕ) → i < length all → v ≡ (line_at b i).name.identity
    → take i all ≡ identities (lines_from b 0 i)
    → take (i + 1) (set all i v) ≡ identities (lines_from b 0 (i + 1))
identity_next b all i v h e f =
    let z : 0 + i ≡ i = omega arith in
    rw (add-one i, take-suc-set all i v h, f, e)
    (sym (identities_more b i 0 ∙ ap (λ (k : ℕ). identities (lines_from b 0 i) ++ ((line_at b k).name.identity ∷ [])) z))

-- every label of a tree is sound
tree_sound : (b : List ℕ) (n i : ℕ) → is_tree b n ≡ true → i < n → is_sound_label b i ≡ true
tree_sound b n i e h =
    let t = tree_lined b n e in
    let a = subst (All (λ (u : Entry Name). IsCode u.start)) t.entries (starts_all IsCode t.tree t.sound.coded) in
    let d : Entry Name = line_at b 0 in
    let z : 0 + i ≡ i = omega arith in
    coded_sound b i
    (subst (λ (u : Entry Name). IsCode u.start) (line_at_lem b n 0 i d h ∙ ap (line_at b) z)
    (all_at (λ (u : Entry Name). IsCode u.start) (lines_from b 0 n) i d a (rw (lines_length b 0 n) h)))

pub labels_sound : (b : List ℕ) (i : ℕ) → is_register_sound b ≡ true → i < count_of b → is_sound_label b i ≡ true
labels_sound b i e h = tree_sound b (count_of b) i (parts_of b e).tree h

-- what a sound register says of its size and of line i
pub sized_of : (b : List ℕ) → is_register_sound b ≡ true → Sized b
sized_of b e = sized_gives b (parts_of b e).sized

module _ (b : List ℕ) (e : is_register_sound b ≡ true) (i : ℕ) (h : i < count_of b) where
  pub codes_at : SoundAt b i
  codes_at = sound_at b i (has_place b (count_of b) i (sized_entries b (sized_of b e)) h) (labels_sound b i e h)

  pub start_of : (line_at b i).start ≡ code_at b (start_place i)
  start_of = line_start b i (labels_sound b i e h)

  pub end_of : (line_at b i).end ≡ code_at b (end_place i)
  end_of = line_end b i (labels_sound b i e h)

  pub parent_of : (line_at b i).parent ≡ code_at b (parent_place i)
  parent_of = line_parent b i (labels_sound b i e h)

-- lines whose labels are not all sound are no tree's
pub unsound_tree : (b : List ℕ) (n : ℕ) → is_sound_labels b n ≡ false → false ≡ is_tree b n
unsound_tree b n e = go (is_tree b n) refl
  where
    go : (t : Bool) → is_tree b n ≡ t → false ≡ t
    go true g = sym e ∙ labels_all b n (λ i h. tree_sound b n i g h)
    go false g = refl

-- looking for an identity
abbrev pub found_at : List ℕ → ℕ → ℕ → Found
found_at b x i = found_from i x (identities (lines_from b i (count_of b - i)))

pub found_all : (b : List ℕ) (x : ℕ) → found_in b x ≡ found_at b x 0
found_all b x = let z : count_of b - 0 ≡ count_of b = omega arith in rw z refl

module _ (b : List ℕ) (x i : ℕ) (h : i < count_of b) where
  found_step : found_at b x i ≡ cond (eqb x (line_at b i).name.identity) (At i) (found_at b x (suc i))
  found_step = ap (λ us. found_from i x (identities us)) (lines_next b (count_of b) i h)

  pub found_here : (line_at b i).name.identity ≡ x → At i ≡ found_at b x i
  found_here e = sym (found_step ∙ ap (λ (t : Bool). cond t (At i) (found_at b x (suc i))) (eq-eqb x (line_at b i).name.identity (sym e)))

  pub found_later : ((line_at b i).name.identity ≡ x → ⊥) → found_at b x i ≡ found_at b x (i + 1)
  found_later e =
      found_step ∙ ap (λ (t : Bool). cond t (At i) (found_at b x (suc i))) (ne_eqb x (line_at b i).name.identity (λ z. e (sym z)))
      ∙ ap (found_at b x) (sym (add-one i))

pub found_none : (b : List ℕ) (x i : ℕ) → i ≡ count_of b → Nothing ≡ found_at b x i
found_none b x i e = let z : count_of b - count_of b ≡ 0 = omega arith in rw (e, z) refl

pub ruleset finds = (found_all, found_here, found_later, found_none)

pub at_is : {i j : ℕ} → At i ≡ At j → i ≡ j
at_is e = cc

pub nothing_at : {A : Type 0} {i : ℕ} → Nothing ≡ At i → A
nothing_at e = let z : ◌≡◌ {A = ℕ} 0 1 = cc in absurd (omega arith)

-- an identity that is found is among the others, and one that is not is not
pub found_among : (x i : ℕ) (ys : List ℕ) → found_from i x ys ≡ Nothing → is_among x ys ≡ false
found_among x i [] e = refl
found_among x i (y ∷ ys) e = go (eqb x y) (λ k. found_among x (suc i) ys k) e
  where
    go : (t : Bool) → (found_from (suc i) x ys ≡ Nothing → is_among x ys ≡ false)
        → cond t (At i) (found_from (suc i) x ys) ≡ Nothing → cond t true (is_among x ys) ≡ false
    go true more k = nothing_at (sym k)
    go false more k = more k

pub among_found : (x i j : ℕ) (ys : List ℕ) → found_from i x ys ≡ At j → is_among x ys ≡ true
among_found x i j [] e = nothing_at e
among_found x i j (y ∷ ys) e = go (eqb x y) (λ k. among_found x (suc i) j ys k) e
  where
    go : (t : Bool) → (found_from (suc i) x ys ≡ At j → is_among x ys ≡ true)
        → cond t (At i) (found_from (suc i) x ys) ≡ At j → cond t true (is_among x ys) ≡ true
    go true more k = refl
    go false more k = more k

found_bound : (ys : List ℕ) (x i j : ℕ) → found_from i x ys ≡ At j → j < i + length ys
found_bound [] x i j e = nothing_at e
found_bound (y ∷ ys) x i j e = go (eqb x y) (λ f. found_bound ys x (suc i) j f) e
  where
    go : (t : Bool) → (found_from (suc i) x ys ≡ At j → j < suc i + length ys) → cond t (At i) (found_from (suc i) x ys) ≡ At j
        → j < i + suc (length ys)
    go true more e = omega (arith, at_is e)
    go false more e = omega (arith, more e)

pub found_from_lem : (ys : List ℕ) (x i j : ℕ) → found_from i x ys ≡ At j → i ≤ j
found_from_lem [] x i j e = nothing_at e
found_from_lem (y ∷ ys) x i j e = go (eqb x y) (λ f. found_from_lem ys x (suc i) j f) e
  where
    go : (t : Bool) → (found_from (suc i) x ys ≡ At j → suc i ≤ j) → cond t (At i) (found_from (suc i) x ys) ≡ At j → i ≤ j
    go true more e = omega (arith, at_is e)
    go false more e = omega (arith, more e)

pub found_inside : (b : List ℕ) (x j : ℕ) → found_in b x ≡ At j → j < count_of b
found_inside b x j e =
    omega (
      arith,
      found_bound (identities (lines_of b)) x 0 j e,
      length-map (lines_of b) (λ (u : Entry Name). u.name.identity),
      lines_length b 0 (count_of b),
    )

-- counting what is above
abbrev pub depth_from : List ℕ → ℕ → ℕ → ℕ
depth_from b j i = depth_in (line_at b j) (lines_from b i (count_of b - i))

pub depth_next : (b : List ℕ) (j i : ℕ) (t : Bool) → i < count_of b → t ≡ is_above_entry (line_at b i) (line_at b j)
    → depth_from b j i ≡ cond t 1 0 + depth_from b j (i + 1)
depth_next b j i t h e =
    ap (depth_in (line_at b j)) (lines_next b (count_of b) i h) ∙ ap (λ (z : Bool). cond z 1 0 + depth_from b j (suc i)) (sym e)
    ∙ ap (λ (k : ℕ). cond t 1 0 + depth_from b j k) (sym (add-one i))

depth_few : (v : Entry Name) (us : List (Entry Name)) → depth_in v us ≤ length us
depth_few v [] = omega arith
depth_few v (u ∷ us) = go (is_above_entry u v) (depth_few v us)
  where
    go : (t : Bool) → depth_in v us ≤ length us → cond t 1 0 + depth_in v us ≤ suc (length us)
    go true h = omega arith
    go false h = omega arith

pub depth_bound : (b : List ℕ) (j : ℕ) → depth_in (line_at b j) (lines_of b) ≤ count_of b
depth_bound b j = omega (arith, depth_few (line_at b j) (lines_of b), lines_length b 0 (count_of b))

-- above, by the fields of two sound labels
pub above_is : (b : List ℕ) (i j : ℕ) → is_sound_label b i ≡ true → is_sound_label b j ≡ true
    → is_above_entry (line_at b i) (line_at b j)
    ≡ (is_below (code_at b (start_place i)) (code_at b (start_place j)) && is_below (code_at b (end_place j)) (code_at b (end_place i)))
above_is b i j s t = rw (line_start b i s, line_start b j t, line_end b i s, line_end b j t) refl

-- the difference of two places as a signed number
sub_small : (i j : ℕ) → i < 4096 → j < 4096 → mag (pos j -ℤ pos i) < 4096
sub_small zero j h k = omega arith
sub_small (suc i) j h k = go (ltb j (suc i))
  where
    go : (t : Bool) → mag (cond t (negsuc (suc i - suc j)) (pos (j - suc i))) < 4096
    go true = omega arith
    go false = omega arith

module _ (i j : ℕ) (h : i < 4096) (k : j < 4096) where
  difference : to_z w32 j -ℤ to_z w32 i ≡ pos j -ℤ pos i
  difference = ap (λ (z : ℤ). z -ℤ to_z w32 i) (to_z_pos w32 {n = j} (omega arith)) ∙ ap (λ (z : ℤ). pos j -ℤ z)
      (to_z_pos w32 {n = i} (omega arith))

  pub difference_fits : SFits w32 (to_z w32 j -ℤ to_z w32 i)
  difference_fits = subst (SFits w32) (sym difference) (record { sfits = omega (arith, sub_small i j h k) })

  pub difference_is : to_z w32 (of_z w32 (to_z w32 j -ℤ to_z w32 i)) ≡ pos j -ℤ pos i
  difference_is = to_z-of_z difference_fits ∙ difference

-- what the questions answer
module _ (b : List ℕ) (x : ℕ) where
  pub place_unsound : is_register_sound b ≡ false → Err Register ≡ place_answer b x
  unfolding place_answer
  place_unsound e = rw e refl

  pub place_found : is_register_sound b ≡ true → (f : Found) → f ≡ found_in b x → place_as f ≡ place_answer b x
  unfolding place_answer
  place_found e f g = rw (e, g) refl

  -- what is answered where it is there and where it is not
  pub placed : (r : Result ℕ Refusal) → IfOk r (λ i. (found_in b x ≡ At i) × (i < count_of b))
      → IfErr r (λ e. (e ≡ Target) × (found_in b x ≡ Nothing)) → r ≡ place_as (found_in b x)
  placed (Ok i) h k = ap place_as (sym h.0)
  placed (Err e) h k = ap Err k.0 ∙ ap place_as (sym k.1)

  pub depth_unsound : is_register_sound b ≡ false → Err Register ≡ depth_result b x
  unfolding depth_result
  depth_unsound e = rw e refl

  pub depth_result_found : is_register_sound b ≡ true → (f : Found) → f ≡ found_in b x → depth_as b f ≡ depth_result b x
  unfolding depth_result
  depth_result_found e f g = rw (e, g) refl

  pub depth_found : is_register_sound b ≡ true → (f : Found) → f ≡ found_in b x → signed_as pos (depth_as b f) ≡ depth_answer b x
  depth_found e f g = ap (signed_as pos) (depth_result_found e f g)

  pub distance_unsound : (y : ℕ) → is_register_sound b ≡ false → Err Register ≡ distance_result b x y
  unfolding distance_result
  distance_unsound y e = rw e refl

  pub distance_result_found : (y : ℕ) → is_register_sound b ≡ true → (f g : Found) → f ≡ found_in b x → g ≡ found_in b y
      → distance_as f g ≡ distance_result b x y
  unfolding distance_result
  distance_result_found y e f g p q = rw (e, p, q) refl

  pub distance_found : (y : ℕ) → is_register_sound b ≡ true → (f g : Found) → f ≡ found_in b x → g ≡ found_in b y
      → signed_as (λ z. z) (distance_as f g) ≡ distance_answer b x y
  distance_found y e f g p q = ap (signed_as (λ z. z)) (distance_result_found y e f g p q)

  pub distance_none : (y : ℕ) → is_register_sound b ≡ true → Nothing ≡ found_in b x → Err Target ≡ distance_result b x y
  unfolding distance_result
  distance_none y e p = rw (e, ← p) refl

-- a place fits a signed number of 32 bits
pub place_signable : (b : List ℕ) (x : ℕ) → Signable (place_answer b x)
unfolding place_answer
place_signable b x = go (is_register_sound b) refl (found_in b x) refl
  where
    go : (t : Bool) → is_register_sound b ≡ t → (f : Found) → found_in b x ≡ f → Signable (cond t (place_as f) (Err Register))
    go false e f g = tt
    go true e (At i) g = omega (arith, found_inside b x i g, (sized_of b e).most)
    go true e Nothing g = tt

-- and so does a depth
pub depth_signable : (b : List ℕ) (x : ℕ) → Signable (depth_result b x)
unfolding depth_result
depth_signable b x = go (is_register_sound b) refl (found_in b x) refl
  where
    go : (t : Bool) → is_register_sound b ≡ t → (f : Found) → found_in b x ≡ f → Signable (cond t (depth_as b f) (Err Register))
    go false e f g = tt
    go true e (At i) g = omega (arith, depth_bound b i, (sized_of b e).most)
    go true e Nothing g = tt
