-- Laws of the walk along the tour: what it keeps, its parts, and the bytes of an entry that is begun.
-- Assumes nothing.
use mathlib.Core.Path.{◌≡◌, refl, ap, ◌∙◌}
use mathlib.Core.Bool.{Bool, true, false, cond, and-eq-true_iff}
use mathlib.Core.List.{List, [], ◌∷◌, ◌++◌, append_assoc}
use Prim.Native.Nat.{ℕ, ◌+◌, ◌-◌, ◌≤◌, ◌<◌}
use native.Mathlib.Omega.{arith}
use lib.Dec.{eqb, ltb}
use lib.ListN.{length, set, length-append, length-set}
use borrow.Author.Tests.{ltb-true, eqb-true, eqb-false, ne_eqb, lt-ltb, le-ltb}
use Rattle.digits.specs.Order.{Digits}
use Rattle.digits.proofs.ListLaws.{all_map, all_at, all_set}
use Rattle.numbers.specs.Bytes.{put, le4}
use Rattle.numbers.proofs.PutLaws.{put_grows, put_under}
use Rattle.codes.specs.Field.{field_of}
use Rattle.codes.proofs.FieldLaws.{field_length}
use Rattle.labels.specs.Label.{field_at}
use Rattle.registers.specs.Layout.{deepest, entry_place, start_place, parent_place, end_place, HasPlace}
use Rattle.tables.specs.declared.Row.{Row}
use Rattle.tables.specs.Rows.{identity_of, tag_of, depth_of, row_at}
use Rattle.tables.specs.Walk.{Walk, row_count, is_start, innermost, parent_field, parent_written, begun_bytes, entered, left, stepped, walked, Ready}

-- what the test of a start says
pub starts_true : (t : List ℕ) (row level : ℕ) → is_start t row level ≡ true → (row < row_count t) × (depth_of t row ≡ level)
starts_true t row level h =
    let a = (and-eq-true_iff (ltb row (row_count t)) (eqb (depth_of t row) level)).0 h in
    (ltb-true row (row_count t) a.0, eqb-true (depth_of t row) level a.1)

pub starts_inside : (t : List ℕ) (row level : ℕ) → row < row_count t → is_start t row level ≡ eqb (depth_of t row) level
starts_inside t row level h = rw (lt-ltb row (row_count t) h) refl

pub starts_behind : (t : List ℕ) (row level : ℕ) → (row < row_count t → ⊥) → is_start t row level ≡ false
starts_behind t row level h = rw (le-ltb row (row_count t) (omega arith)) refl

-- two ways of a step
pub stepped_start : (t : List ℕ) (x : Digits) (w : Walk) → is_start t w.row w.level ≡ true → stepped t x w ≡ entered t x w
stepped_start t x w e = rw e refl

pub stepped_end : (t : List ℕ) (x : Digits) (w : Walk) → is_start t w.row w.level ≡ false → eqb w.level 0 ≡ false
    → stepped t x w ≡ left x w
stepped_end t x w e z = rw (e, z) refl

-- the parent start by the number of open entries
pub parent_none : (b path : List ℕ) (level : ℕ) → level ≡ 0 → parent_field b path level ≡ field_of []
parent_none b path level e = rw e refl

pub parent_some : (b path : List ℕ) (level : ℕ) → (level ≡ 0 → ⊥)
    → parent_field b path level ≡ field_at (start_place (innermost path level)) b
parent_some b path level h = rw (ne_eqb level 0 h) refl

-- two lists of codes, one after the other, with a code between
pub walked_cut : (t : List ℕ) (xs : List Digits) (x : Digits) (ys : List Digits) (w : Walk)
    → walked t (xs ++ (x ∷ ys)) w ≡ walked t ys (stepped t x (walked t xs w))
walked_cut t [] x ys w = refl
walked_cut t (y ∷ xs) x ys w = walked_cut t xs x ys (stepped t y w)

module _ {t : List ℕ} {w : Walk} (r : Ready t w) where
  -- a begun row by its level
  pub level_begun : 0 < w.level → (innermost w.path w.level ≤ w.row) × (innermost w.path w.level < row_count t)
  level_begun h =
      all_at (λ j. (j ≤ w.row) × (j < row_count t)) w.path (w.level - 1) 0 r.begun (omega (arith, r.level, r.levels))

  -- an entry of the table has its place in the register
  pub row_place : (i : ℕ) → i < row_count t → HasPlace w.bytes i
  row_place i h = (omega (arith, r.most), omega (arith, r.room))

  pub ready_entered : (x : Digits) → is_start t w.row w.level ≡ true → Ready t (entered t x w)
  ready_entered x e =
      let s = starts_true t w.row w.level e in
      let d : depth_of t w.row ≤ deepest = r.shallow w.row s.0 in
      let b = begun_bytes t w.row x (parent_field w.bytes w.path w.level) in
      let g : length w.bytes ≤ length (put w.bytes (entry_place w.row) b) =
      put_grows w.bytes (entry_place w.row) b (omega (arith, r.room, s.0)) in
      record {
        most = r.most;
        some = r.some;
        shallow = r.shallow;
        room = omega (arith, r.room, g);
        row = omega (arith, s.0);
        level = omega (arith, s.1, d);
        levels = length-set w.path w.level w.row ∙ r.levels;
        begun = all_set (λ j. (j ≤ w.row + 1) × (j < row_count t)) w.path w.level w.row
            (all_map (λ j. (j ≤ w.row) × (j < row_count t)) (λ j. (j ≤ w.row + 1) × (j < row_count t))
            (λ j p. (omega (arith, p.0), p.1)) w.path r.begun)
            (omega arith, s.0);
      }

  pub ready_left : (x : Digits) → 0 < w.level → Ready t (left x w)
  ready_left x h =
      let p = level_begun h in
      let at = end_place (innermost w.path w.level) in
      let g : length w.bytes ≤ length (put w.bytes at (field_of x)) =
      put_grows w.bytes at (field_of x) (omega (arith, r.room, p.1)) in
      record {
        most = r.most;
        some = r.some;
        shallow = r.shallow;
        room = omega (arith, r.room, g);
        row = r.row;
        level = omega (arith, r.level);
        levels = r.levels;
        begun = r.begun;
      }

  -- a code keeps what the walk keeps
  pub ready_stepped : (x : Digits) → Ready t (stepped t x w)
  ready_stepped x = go (is_start t w.row w.level) refl (eqb w.level 0) refl
    where
      go : (s : Bool) → is_start t w.row w.level ≡ s → (z : Bool) → eqb w.level 0 ≡ z
          → Ready t (cond s (entered t x w) (cond z w (left x w)))
      go true e z f = ready_entered x e
      go false e true f = r
      go false e false f = ready_left x (let n = eqb-false w.level 0 f in omega (arith, n))

pub ready_walked : (t : List ℕ) (xs : List Digits) (w : Walk) → Ready t w → Ready t (walked t xs w)
ready_walked t [] w r = r
ready_walked t (x ∷ xs) w r = ready_walked t xs (stepped t x w) (ready_stepped r x)

-- the parent start and then the rest of an entry that is begun are its bytes
pub begun_bytes_lem : (t : List ℕ) (row i g : ℕ) (x : Digits) (b p b₁ b₂ : List ℕ) → HasPlace b row → i ≡ identity_of t row
    → g ≡ tag_of t row
    → b₁ ≡ put b (parent_place row) p → b₂ ≡ put b₁ (entry_place row) (le4 i ++ (le4 g ++ (field_of x ++ field_of [])))
    → b₂ ≡ put b (entry_place row) (begun_bytes t row x p)
begun_bytes_lem t row i g x b p b₁ b₂ h ei eg e f =
    let vs : List ℕ = le4 i ++ (le4 g ++ (field_of x ++ field_of [])) in
    let l : length (field_of x ++ field_of []) ≡ 64 = rw (length-append, field_length x, field_length []) refl in
    let n : length vs ≡ 72 = omega (arith, l) in
    let at : parent_place row ≡ entry_place row + length vs = omega (arith, n) in
    f ∙ ap (λ (z : List ℕ). put z (entry_place row) vs) (e ∙ ap (λ (k : ℕ). put b k p) at)
    ∙ put_under b (entry_place row) vs p (omega (arith, n, h.1))
    ∙ ap (put b (entry_place row)) (ap (λ (z : List ℕ). le4 i ++ (le4 g ++ z)) (append_assoc (field_of x) (field_of []) p) ∙ rw (ei, eg)
    refl)

-- the same after the parent start was written
pub begun_entered : (t : List ℕ) (w : Walk) (r : Row) (x : Digits) (b vb vp : List ℕ) (vr vl : ℕ) → Ready t w
    → is_start t w.row w.level ≡ true → r ≡ row_at t w.row → record { bytes = vb; path = vp; row = vr; level = vl } ≡ parent_written w
    → b ≡ put vb (entry_place vr) (le4 r.identity ++ (le4 r.tag ++ (field_of x ++ field_of [])))
    → record { bytes = b; path = set vp vl vr; row = vr + 1; level = vl + 1 } ≡ entered t x w
begun_entered t w r x b vb vp vr vl h s e p f =
    let eb = ap (λ (u : Walk). u.bytes) p in
    let ep = ap (λ (u : Walk). u.path) p in
    let er : vr ≡ w.row = ap (λ (u : Walk). u.row) p in
    let el = ap (λ (u : Walk). u.level) p in
    let g : b ≡ put vb (entry_place w.row) (le4 r.identity ++ (le4 r.tag ++ (field_of x ++ field_of []))) =
    f ∙ ap (λ (k : ℕ). put vb (entry_place k) (le4 r.identity ++ (le4 r.tag ++ (field_of x ++ field_of [])))) er in
    let a = begun_bytes_lem t w.row r.identity r.tag x w.bytes _ vb b (row_place h w.row (starts_true t w.row w.level s).0)
    (ap (λ (q : Row). q.identity) e) (ap (λ (q : Row). q.tag) e) eb g in
    rw (a, ep, er, el) refl

pub starts_row : (t : List ℕ) (row level : ℕ) → is_start t row level ≡ true → row < row_count t
starts_row t row level h = (starts_true t row level h).0

-- what the walk keeps, for the table that it had
pub entered_ready : (t s : List ℕ) (w v : Walk) (x : Digits) → v ≡ entered t x w → s ≡ t → is_start t w.row w.level ≡ true → Ready t w
    → Ready s v
entered_ready t s w v x e f k r = rw (e, f) (ready_entered r x k)

pub left_ready : (t s : List ℕ) (w v : Walk) (x : Digits) → v ≡ left x w → s ≡ t → 0 < w.level → Ready t w → Ready s v
left_ready t s w v x e f k r = rw (e, f) (ready_left r x k)
