-- The walk along the codes of a labelled forest, over the rows of its plain forest, leaves the forest's entries. Assumes nothing.
use mathlib.Core.Path.{◌≡◌, refl, sym, ap, ◌∙◌, subst}
use mathlib.Core.Bool.{Bool, true, false}
use mathlib.Core.List.{List, [], ◌∷◌, ◌++◌, map, append_assoc, append-nil}
use Prim.Native.Nat.{ℕ, zero, suc, ◌+◌, ◌-◌, ◌≤◌, ◌<◌}
use native.Mathlib.Numerals.{add-one}
use native.Mathlib.Omega.{arith}
use lib.Dec.{eqb, ltb}
use lib.ListN.{length, take, drop, get_or, set, length-append, length-map, drop_of_length-le}
use lib.Seq.{get_or-take, get_or-set_same, take-take, take-set-le}
use borrow.Author.Tests.{ltb-true, ltb-false, ne_eqb, eq-eqb}
use Rattle.digits.specs.Order.{Digits}
use Rattle.numbers.specs.Bytes.{put, le4}
use Rattle.numbers.proofs.PutLaws.{put_put}
use Rattle.codes.specs.Field.{field_of}
use Rattle.labels.specs.Label.{field_at}
use Rattle.trees.specs.Forest.{Forest, nil, node, preorder}
use Rattle.trees.specs.Table.{rows}
use Rattle.trees.specs.Tour.{Parents}
use Rattle.trees.specs.Labelled.{Name, Entry, starts, parents, plain, codes}
use Rattle.registers.specs.Layout.{entry_place, start_place, end_place}
use Rattle.registers.specs.Entries.{entry_bytes, entries_bytes}
use Rattle.registers.proofs.EntryLaws.{entries_append, entries_length, start_found, end_put}
use Rattle.tables.specs.declared.Row.{Row}
use Rattle.tables.specs.Table.{rows_of}
use Rattle.tables.specs.Rows.{identity_of, tag_of, depth_of}
use Rattle.tables.specs.Accepted.{named}
use Rattle.tables.specs.Walk.{Walk, row_count, is_start, innermost, parent_field, begun_bytes, entered, stepped, walked, Ready}
use Rattle.tables.proofs.RowLaws.{rows_length, rows_next}
use Rattle.tables.proofs.WalkLaws.{starts_inside, starts_behind, stepped_start, stepped_end, walked_cut, parent_none, parent_some, ready_entered, ready_left}

drop_map : {A B : Type 0} (f : A → B) (i : ℕ) (xs : List A) → drop i (map f xs) ≡ map f (drop i xs)
drop_map f zero xs = refl
drop_map f (suc i) [] = refl
drop_map f (suc i) (x ∷ xs) = drop_map f i xs

abbrev pub name_of : List ℕ → ℕ → Name
name_of t i = record { identity = identity_of t i; tag = tag_of t i }

abbrev pub naming : Row → Name × ℕ
naming r = (record { identity = r.identity; tag = r.tag }, r.depth)

-- row i as a name with its depth, and the rows behind it
pub named_next : (t : List ℕ) (i : ℕ) → i < row_count t
    → drop i (named (rows_of t)) ≡ (name_of t i, depth_of t i) ∷ drop (suc i) (named (rows_of t))
named_next t i h =
    drop_map naming i (rows_of t) ∙ ap (map naming) (rows_next t i (omega arith))
    ∙ ap (λ (l : List (Name × ℕ)). (name_of t i, depth_of t i) ∷ l) (sym (drop_map naming (suc i) (rows_of t)))

pub named_length : (t : List ℕ) → length (named (rows_of t)) ≡ row_count t
named_length t = length-map (rows_of t) naming ∙ rows_length t

named_end : (t : List ℕ) (i : ℕ) → (i < row_count t → ⊥) → drop i (named (rows_of t)) ≡ []
named_end t i h =
    let l = named_length t in
    drop_of_length-le (named (rows_of t)) {i = i} (omega arith)

-- what stands behind a row of depth d ends it: nothing, or a row less deep
abbrev Higher : ℕ → List (Name × ℕ) → Type 0
Higher d [] = Unit {0}
Higher d (row ∷ rest) = row.1 < d

-- the next row as a list with a first element
record Next (t : List ℕ) (i : ℕ) (row : Name × ℕ) (rest : List (Name × ℕ)) : Type 0 where
  inside : i < row_count t
  name : name_of t i ≡ row.0
  depth : depth_of t i ≡ row.1
  behind : drop (suc i) (named (rows_of t)) ≡ rest

next : (t : List ℕ) (i : ℕ) (row : Name × ℕ) (rest : List (Name × ℕ)) → drop i (named (rows_of t)) ≡ row ∷ rest → Next t i row rest
next t i row rest e = go (ltb i (row_count t)) refl
  where
    go : (s : Bool) → ltb i (row_count t) ≡ s → Next t i row rest
    go true h =
        let inside : i < row_count t = ltb-true i (row_count t) h in
        let f : (name_of t i, depth_of t i) ∷ drop (suc i) (named (rows_of t)) ≡ row ∷ rest = sym (named_next t i inside) ∙ e in
        let g : ◌≡◌ {A = Name × ℕ} (name_of t i, depth_of t i) row = ap (λ (l : List (Name × ℕ)). get_or l 0 row) f in
        record {
          inside = inside;
          name = ap (λ (r : Name × ℕ). r.0) g;
          depth = ap (λ (r : Name × ℕ). r.1) g;
          behind = ap (λ (l : List (Name × ℕ)). drop 1 l) f;
        }
    go false h =
        let k : row_count t ≤ i = ltb-false i (row_count t) h in
        let n : 0 ≡ suc (length rest) = ap length (sym (named_end t i (λ j. omega arith)) ∙ e) in
        absurd (omega arith)

-- where what comes next is less deep no row starts
no_start : (t : List ℕ) (i d : ℕ) → Higher d (drop i (named (rows_of t))) → is_start t i d ≡ false
no_start t i d h = go (ltb i (row_count t)) refl
  where
    go : (s : Bool) → ltb i (row_count t) ≡ s → is_start t i d ≡ false
    go true e =
        let k : i < row_count t = ltb-true i (row_count t) e in
        let l : depth_of t i < d = subst (Higher d) (named_next t i k) h in
        starts_inside t i d k ∙ ne_eqb (depth_of t i) d (λ q. omega arith)
    go false e = let k : row_count t ≤ i = ltb-false i (row_count t) e in starts_behind t i d (λ j. omega arith)

-- an entry before its end is known
abbrev begun : Entry Name → Entry Name
begun u = record { name = u.name; start = u.start; end = []; parent = u.parent }

-- the parent start of a row of depth d: the root's is empty, any other is the start of the entry open on the level above
abbrev pub Under : ℕ → List ℕ → List (Entry Name) → Digits → Type 0
Under zero path us p = p ≡ []
Under (suc d) path us p =
    (ps : List (Entry Name)) × (q : Entry Name) × (bs : List (Entry Name)) × (us ≡ ps ++ (q ∷ bs)) × (get_or path d 0 ≡ length ps) ×
    (q.start ≡ p)

-- lists alike in their first elements
same_level : (d : ℕ) (l m : List ℕ) → take (suc d) l ≡ take (suc d) m → get_or l d 0 ≡ get_or m d 0
same_level d l m e =
    let h : d < suc d = omega arith in
    sym (get_or-take (suc d) l d 0 h) ∙ ap (λ (z : List ℕ). get_or z d 0) e ∙ get_or-take (suc d) m d 0 h

levels_above : (d : ℕ) (l m : List ℕ) → take (suc d) l ≡ take (suc d) m → take d l ≡ take d m
levels_above d l m e =
    let h : d ≤ suc d = omega arith in
    sym (take-take d (suc d) l h) ∙ ap (take d) e ∙ take-take d (suc d) m h

-- it stays where the levels above stay and entries are put behind
under_more : (d : ℕ) (path path' : List ℕ) (us vs : List (Entry Name)) (p : Digits) → take d path' ≡ take d path → Under d path us p
    → Under d path' (us ++ vs) p
under_more zero path path' us vs p e h = h
under_more (suc d) path path' us vs p e (ps, q, bs, f, g, k) =
    (ps, q, bs ++ vs, ap (λ (l : List (Entry Name)). l ++ vs) f ∙ append_assoc ps (q ∷ bs) vs, same_level d path' path e ∙ g, k)

module _ (t b h : List ℕ) (eight : length h ≡ 8) (room : entry_place (row_count t) ≤ length b) where
  -- the walk has left the entries us, d entries are open, and these rows are to come
  pub record At (us : List (Entry Name)) (d : ℕ) (rest : List (Name × ℕ)) (w : Walk) : Type 0 where
    pub bytes : w.bytes ≡ put b 0 (h ++ entries_bytes us)
    pub row : w.row ≡ length us
    pub level : w.level ≡ d
    pub rows_left : drop w.row (named (rows_of t)) ≡ rest
    pub ready : Ready t w

  -- the parent start is copied from where the parent's start was written
  parent_is : (us : List (Entry Name)) (d : ℕ) (w : Walk) (p : Digits) → w.bytes ≡ put b 0 (h ++ entries_bytes us)
      → Under d w.path us p
      → parent_field w.bytes w.path d ≡ field_of p
  parent_is us zero w p e u = parent_none w.bytes w.path 0 refl ∙ ap field_of (sym u)
  parent_is us (suc d) w p e (ps, q, bs, f, g, k) =
      let s = start_found h eight ps bs q.name q.start q.end q.parent b in
      let n : suc d - 1 ≡ d = omega arith in
      parent_some w.bytes w.path (suc d) (λ z. omega arith)
      ∙ ap (λ (j : ℕ). field_at (start_place (get_or w.path j 0)) w.bytes) n
      ∙ ap (λ (j : ℕ). field_at (start_place j) w.bytes) g
      ∙ ap (field_at (start_place (length ps))) (e ∙ ap (λ (l : List (Entry Name)). put b 0 (h ++ entries_bytes l)) f)
      ∙ s ∙ ap field_of k

  -- the start of an entry
  start_bytes : (us : List (Entry Name)) (d : ℕ) (u : Entry Name) (rest : List (Name × ℕ)) (w : Walk) → At us d ((u.name, d) ∷ rest) w
      → Under d w.path us u.parent → (entered t u.start w).bytes ≡ put b 0 (h ++ entries_bytes (us ++ (begun u ∷ [])))
  unfolding entry_bytes
  start_bytes us d u rest w a k =
      let n = next t w.row (u.name, d) rest a.rows_left in
      let m₀ : length (h ++ entries_bytes us) ≡ length h + length (entries_bytes us) = length-append h (entries_bytes us) in
      let l : 0 + length (h ++ entries_bytes us) ≡ entry_place w.row = let e = entries_length us in omega (arith, a.row) in
      let p : parent_field w.bytes w.path w.level ≡ field_of u.parent =
      ap (parent_field w.bytes w.path) a.level ∙ parent_is us d w u.parent a.bytes k in
      let m : begun_bytes t w.row u.start (parent_field w.bytes w.path w.level) ≡ entry_bytes (begun u) =
      ap (begun_bytes t w.row u.start) p
      ∙ ap (λ (i : Name). le4 i.identity ++ (le4 i.tag ++ (field_of u.start ++ (field_of [] ++ field_of u.parent)))) n.name in
      let q : h ++ entries_bytes (us ++ (begun u ∷ [])) ≡ (h ++ entries_bytes us) ++ entry_bytes (begun u) =
      ap (λ (z : List ℕ). h ++ z) (entries_append us (begun u ∷ []) ∙ ap (λ (z : List ℕ). entries_bytes us ++ z)
      (append-nil (entry_bytes (begun u))))
      ∙ sym (append_assoc h (entries_bytes us) (entry_bytes (begun u))) in
      ap (λ (z : List ℕ). put w.bytes (entry_place w.row) z) m
      ∙ ap (λ (z : List ℕ). put z (entry_place w.row) (entry_bytes (begun u))) a.bytes
      ∙ ap (λ (j : ℕ). put (put b 0 (h ++ entries_bytes us)) j (entry_bytes (begun u))) (sym l)
      ∙ put_put b 0 (h ++ entries_bytes us) (omega arith) (entry_bytes (begun u))
      ∙ ap (put b 0) (sym q)

  -- a step, and the open entries after it
  record Went (us : List (Entry Name)) (d : ℕ) (rest : List (Name × ℕ)) (path : List ℕ) (w : Walk) : Type 0 where
    at : At us d rest w
    path_is : w.path ≡ path

  went_is : (us : List (Entry Name)) (d : ℕ) (rest : List (Name × ℕ)) (path : List ℕ) (v w : Walk) → v ≡ w → Went us d rest path w
      → Went us d rest path v
  went_is us d rest path v w e a = subst (Went us d rest path) (sym e) a

  start_at_lem : (us : List (Entry Name)) (d : ℕ) (u : Entry Name) (rest : List (Name × ℕ)) (w : Walk) → At us d ((u.name, d) ∷ rest) w
      → Under d w.path us u.parent
      → Went (us ++ (begun u ∷ [])) (suc d) rest (set w.path d (length us)) (stepped t u.start w)
  start_at_lem us d u rest w a k =
      let n = next t w.row (u.name, d) rest a.rows_left in
      let s : is_start t w.row w.level ≡ true =
      starts_inside t w.row w.level n.inside ∙ eq-eqb (depth_of t w.row) w.level (n.depth ∙ sym a.level) in
      let l : length (us ++ (begun u ∷ [])) ≡ length us + 1 = length-append us (begun u ∷ []) in
      went_is _ _ _ _ _ _ (stepped_start t u.start w s)
      (record {
        at = record {
          bytes = start_bytes us d u rest w a k;
          row = omega (arith, a.row, l);
          level = omega (arith, a.level);
          rows_left = rw (add-one w.row) n.behind;
          ready = ready_entered a.ready u.start s;
        };
        path_is = ap (λ (i : ℕ). set w.path i w.row) a.level ∙ ap (set w.path d) a.row;
      })

  end_at_lem : (us vs : List (Entry Name)) (d : ℕ) (u : Entry Name) (rest : List (Name × ℕ)) (w : Walk)
      → At (us ++ (begun u ∷ vs)) (suc d) rest w → Higher (suc d) rest → get_or w.path d 0 ≡ length us
      → Went (us ++ (u ∷ vs)) d rest w.path (stepped t u.end w)
  end_at_lem us vs d u rest w a k g =
      let s : is_start t w.row w.level ≡ false =
      ap (is_start t w.row) a.level ∙ no_start t w.row (suc d) (subst (Higher (suc d)) (sym a.rows_left) k) in
      let z : eqb w.level 0 ≡ false = ne_eqb w.level 0 (λ e. omega (arith, a.level)) in
      let i : innermost w.path w.level ≡ length us =
      ap (λ (j : ℕ). get_or w.path j 0) (let e : w.level - 1 ≡ d = omega (arith, a.level) in e) ∙ g in
      let l : length (us ++ (u ∷ vs)) ≡ length us + suc (length vs) = length-append us (u ∷ vs) in
      let m : length (us ++ (begun u ∷ vs)) ≡ length us + suc (length vs) = length-append us (begun u ∷ vs) in
      went_is _ _ _ _ _ _ (stepped_end t u.end w s z)
      (record {
        at = record {
          bytes = ap (λ (j : ℕ). put w.bytes (end_place j) (field_of u.end)) i
              ∙ ap (λ (x : List ℕ). put x (end_place (length us)) (field_of u.end)) a.bytes
              ∙ end_put h eight us vs u.name u.start [] u.parent b u.end;
          row = omega (arith, a.row, l, m);
          level = omega (arith, a.level);
          rows_left = a.rows_left;
          ready = ready_left a.ready u.end (omega (arith, a.level));
        };
        path_is = refl;
      })

  -- what a whole forest does: its entries are left, its rows are used up, and the levels above it stay
  pub record Toured (us : List (Entry Name)) (d : ℕ) (rest : List (Name × ℕ)) (path : List ℕ) (w : Walk) : Type 0 where
    pub at : At us d rest w
    pub above : take d w.path ≡ take d path

  higher_next : (d : ℕ) (f : Forest Name) (rest : List (Name × ℕ)) → Higher d rest → Higher (suc d) (rows d f ++ rest)
  higher_next d nil [] k = tt
  higher_next d nil (row ∷ rest) k = omega arith
  higher_next d (node a c s) rest k = omega arith

  pub tour_at : (f : Forest (Entry Name)) (us : List (Entry Name)) (d : ℕ) (rest : List (Name × ℕ)) (p : Digits) (w : Walk)
      → At us d (rows d (plain f) ++ rest) w → Higher d rest → Under d w.path us p → Parents starts parents p f
      → Toured (us ++ preorder f) d rest w.path (walked t (codes f) w)
  tour_at nil us d rest p w a k g q = record { at = rw (append-nil us) a; above = refl }
  tour_at (node u c s) us d rest p w a k g q =
      let later : List (Name × ℕ) = rows d (plain s) ++ rest in
      let e : rows d (plain (node u c s)) ++ rest ≡ (u.name, d) ∷ (rows (suc d) (plain c) ++ later) =
      ap (λ (l : List (Name × ℕ)). (u.name, d) ∷ l) (append_assoc (rows (suc d) (plain c)) (rows d (plain s)) rest) in
      let v₁ : Walk = stepped t u.start w in
      let w₁ = start_at_lem us d u (rows (suc d) (plain c) ++ later) w (subst (λ l. At us d l w) e a)
      (subst (Under d w.path us) (sym q.0) g) in
      let r₁ = w₁.at.ready in
      let deep : d < length w.path = omega (arith, r₁.level, w₁.at.level, a.ready.levels) in
      let i₁ : get_or v₁.path d 0 ≡ length us =
      ap (λ (l : List ℕ). get_or l d 0) w₁.path_is ∙ get_or-set_same w.path d (length us) 0 deep in
      let w₂ = tour_at c (us ++ (begun u ∷ [])) (suc d) later u.start v₁ w₁.at (higher_next d (plain s) rest k)
      (us, begun u, [], refl, i₁, refl) q.1 in
      let v₂ : Walk = walked t (codes c) v₁ in
      let i₂ : get_or v₂.path d 0 ≡ length us = same_level d v₂.path v₁.path w₂.above ∙ i₁ in
      let w₃ = end_at_lem us (preorder c) d u later v₂
      (subst (λ l. At l (suc d) later v₂) (append_assoc us (begun u ∷ []) (preorder c)) w₂.at) (higher_next d (plain s) rest k) i₂ in
      let v₃ : Walk = stepped t u.end v₂ in
      let above : take d v₃.path ≡ take d w.path =
      ap (take d) w₃.path_is ∙ levels_above d v₂.path v₁.path w₂.above ∙ ap (take d) w₁.path_is
      ∙ take-set-le d w.path d (length us) (omega arith) in
      let w₄ = tour_at s (us ++ (u ∷ preorder c)) d rest p v₃ w₃.at k
      (under_more d w.path v₃.path us (u ∷ preorder c) p above g) q.2 in
      subst (Toured (us ++ (u ∷ (preorder c ++ preorder s))) d rest w.path) (sym (walked_cut t (codes c) u.end (codes s) v₁))
      (record {
        at = subst (λ l. At l d rest (walked t (codes s) v₃)) (append_assoc us (u ∷ preorder c) (preorder s)) w₄.at;
        above = w₄.above ∙ above;
      })
