-- What is read from the bytes of entries: the entries, where their labels are as 01 asks. Assumes nothing.
use mathlib.Core.Path.{◌≡◌, refl, sym, ap, ◌∙◌}
use mathlib.Core.Logic.{◌⊎◌, inl, inr}
use mathlib.Core.Bool.{true}
use mathlib.Core.List.{List, [], ◌∷◌, ◌++◌}
use Prim.Native.Nat.{ℕ, suc, ◌+◌, ◌*◌, ◌≤◌, ◌<◌}
use native.Mathlib.Omega.{arith}
use lib.ListN.{length, take, drop, get_or, length-append}
use lib.Seq.{take_at, take_all, drop_at, drop-drop, take-take, get_or-take, get_or-drop}
use borrow.Author.Tests.{eq-eqb}
use Rattle.digits.specs.Lists.{All}
use Rattle.digits.specs.Order.{Digits, Below}
use Rattle.digits.proofs.OrderLaws.{is_below_true}
use Rattle.numbers.specs.Bytes.{number_at}
use Rattle.numbers.proofs.PutLaws.{take_drop}
use Rattle.codes.specs.Code.{field_size, IsCode}
use Rattle.codes.specs.Field.{field_of}
use Rattle.codes.specs.Reading.{empty, read, side_of}
use Rattle.codes.proofs.FieldLaws.{field_length}
use Rattle.codes.proofs.ReadingLaws.{read_field, read_nothing}
use Rattle.labels.specs.Label.{label_size, start_at, end_at, parent_at, field_at, is_sound}
use Rattle.trees.specs.Labelled.{Name, Entry}
use Rattle.registers.specs.Layout.{entry_size, entry_place, label_at}
use Rattle.registers.specs.Entries.{entry_bytes, entries_bytes, entry_at}
use Rattle.registers.specs.Sound.{label_bytes, is_sound_label, line_at, lines_from}
use Rattle.registers.proofs.SoundLaws.{part_of}
use Rattle.registers.proofs.RowLaws.{line_sound}
use Rattle.registers.proofs.EntryLaws.{entry_length}
use Rattle.registers.proofs.TreeLaws.{Label}

-- a number in a part of a list
byte_of : (b x : List ℕ) (p n j : ℕ) → take n (drop p b) ≡ x → j < n → get_or b (p + j) 0 ≡ get_or x j 0
byte_of b x p n j e h = sym (get_or-drop p b j 0) ∙ sym (get_or-take n (drop p b) j 0 h) ∙ ap (λ (z : List ℕ). get_or z j 0) e

pub number_of : (b x : List ℕ) (p n k : ℕ) → take n (drop p b) ≡ x → k + 4 ≤ n → number_at b (p + k) ≡ number_at x k
number_of b x p n k e h =
    let one : p + k + 1 ≡ p + (k + 1) = omega arith in
    let two : p + k + 2 ≡ p + (k + 2) = omega arith in
    let three : p + k + 3 ≡ p + (k + 3) = omega arith in
    rw (
      one,
      two,
      three,
      byte_of b x p n k e (omega arith),
      byte_of b x p n (k + 1) e (omega arith),
      byte_of b x p n (k + 2) e (omega arith),
      byte_of b x p n (k + 3) e (omega arith),
    ) refl

-- the fields of an entry's bytes
module _ (u : Entry Name) where
  abbrev fields : List ℕ
  fields = field_of u.start ++ (field_of u.end ++ field_of u.parent)

  fields_length : length fields ≡ label_size
  fields_length =
      let s = field_length u.start in
      let e = field_length u.end in
      let p = field_length u.parent in
      simp length-append (omega arith)

  field_start : take field_size (drop 0 fields) ≡ field_of u.start
  field_start = take_at (field_of u.start) _ 32 (field_length u.start)

  field_end : take field_size (drop 32 fields) ≡ field_of u.end
  field_end =
      ap (take 32) (drop_at (field_of u.start) (field_of u.end ++ field_of u.parent) 32 (field_length u.start))
      ∙ take_at (field_of u.end) (field_of u.parent) 32 (field_length u.end)

  field_parent : take field_size (drop 64 fields) ≡ field_of u.parent
  field_parent =
      let s = field_length u.start in
      let e = field_length u.end in
      ap (take 32) (sym (drop_two (field_of u.start) (field_of u.end) (field_of u.parent) s e)) ∙ take_all 32
      (field_of u.parent) (omega (arith, field_length u.parent))
    where
      drop_two : (x y z : List ℕ) → length x ≡ 32 → length y ≡ 32 → z ≡ drop 64 (x ++ (y ++ z))
      drop_two x y z s e =
          sym (drop_at y z 32 e) ∙ ap (drop 32) (sym (drop_at x (y ++ z) 32 s)) ∙ drop-drop 32 32 (x ++ (y ++ z))

  label_sound : Label u → is_sound fields ≡ true
  unfolding is_sound
  label_sound l = go l.parent
    where
      go : (u.parent ≡ []) ⊎ (IsCode u.parent × Below u.parent u.start) → is_sound fields ≡ true
      go (inl e) =
          let p : read (field_of u.parent) ≡ empty = ap (λ z. read (field_of z)) e ∙ read_nothing in
          rw (
            eq-eqb (length fields) label_size fields_length,
            field_start,
            field_end,
            field_parent,
            read_field u.start l.start_code,
            read_field u.end l.end_code,
            p,
            is_below_true u.start u.end l.inner,
          ) refl
      go (inr (c, d)) =
          rw (
            eq-eqb (length fields) label_size fields_length,
            field_start,
            field_end,
            field_parent,
            read_field u.start l.start_code,
            read_field u.end l.end_code,
            read_field u.parent c,
            is_below_true u.start u.end l.inner,
            is_below_true u.parent u.start d,
          ) refl

-- a side read back from its field
side_read : (x : Digits) → (x ≡ []) ⊎ IsCode x → side_of (read (field_of x)) ≡ x
side_read x (inl e) = ap (λ z. side_of (read (field_of z))) e ∙ ap side_of read_nothing ∙ sym e
side_read x (inr c) = ap side_of (read_field x c)

parent_side : (u : Entry Name) → Label u → (u.parent ≡ []) ⊎ IsCode u.parent
parent_side u l = go l.parent
  where
    go : (u.parent ≡ []) ⊎ (IsCode u.parent × Below u.parent u.start) → (u.parent ≡ []) ⊎ IsCode u.parent
    go (inl e) = inl e
    go (inr (c, d)) = inr c

same_entry : (i j g h : ℕ) (s s' e e' p p' : Digits) → i ≡ j → g ≡ h → s ≡ s' → e ≡ e' → p ≡ p'
    → ◌≡◌ {A = Entry Name} (record { name = record { identity = i; tag = g }; start = s; end = e; parent = p })
    (record { name = record { identity = j; tag = h }; start = s'; end = e'; parent = p' })
same_entry i j g h s s' e e' p p' a b c d f = rw (a, b, c, d, f) refl

-- an entry is read back from its bytes
module _ (b : List ℕ) (i : ℕ) (u : Entry Name) (e : take entry_size (drop (entry_place i) b) ≡ entry_bytes u) (l : Label u) where
  label_is : label_bytes b i ≡ fields u
  unfolding entry_bytes
  label_is = part_of b (entry_bytes u) (entry_place i) entry_size label_at label_size e (omega arith) ∙ take_all label_size (fields u)
      (omega (arith, fields_length u))

  field_is : (at : ℕ) → at + field_size ≤ label_size → field_at (entry_place i + label_at + at) b ≡ take field_size (drop at (fields u))
  field_is at h = part_of b (fields u) (entry_place i + label_at) label_size at field_size label_is h

  label_read : is_sound_label b i ≡ true
  label_read = ap is_sound label_is ∙ label_sound u l

  entry_read : line_at b i ≡ u
  unfolding entry_at entry_bytes
  entry_read =
      let x : List ℕ = entry_bytes u in
      line_sound b i label_read
      ∙ same_entry _ u.name.identity _ u.name.tag _ u.start _ u.end _ u.parent
      (number_of b x (entry_place i) entry_size 0 e (omega arith) ∙ omega arith)
      (number_of b x (entry_place i) entry_size 4 e (omega arith) ∙ omega arith)
      (ap (λ z. side_of (read z)) (field_is start_at (omega arith) ∙ field_start u) ∙ side_read u.start (inr l.start_code))
      (ap (λ z. side_of (read z)) (field_is end_at (omega arith) ∙ field_end u) ∙ side_read u.end (inr l.end_code))
      (ap (λ z. side_of (read z)) (field_is parent_at (omega arith) ∙ field_parent u) ∙ side_read u.parent (parent_side u l))

-- entries are read back from theirs
pub lines_read : (b : List ℕ) (us : List (Entry Name)) (i : ℕ)
    → take (entry_size * length us) (drop (entry_place i) b) ≡ entries_bytes us → All Label us
    → lines_from b i (length us) ≡ us
lines_read b [] i e a = refl
lines_read b (u ∷ us) i e a =
    let d : List ℕ = drop (entry_place i) b in
    let m : ℕ = entry_size * length us in
    let q : entry_size * suc (length us) ≡ entry_size + m = omega arith in
    let w : take (entry_size + m) d ≡ entry_bytes u ++ entries_bytes us = ap (λ (z : ℕ). take z d) (sym q) ∙ e in
    let f : take entry_size d ≡ entry_bytes u =
    sym (take-take entry_size (entry_size + m) d (omega arith)) ∙ ap (take entry_size) w ∙ take_at (entry_bytes u) (entries_bytes us)
    entry_size (entry_length u) in
    let p : entry_place i + entry_size ≡ entry_place (suc i) = omega arith in
    let g : take m (drop (entry_place (suc i)) b) ≡ entries_bytes us =
    ap (λ (k : ℕ). take m (drop k b)) (sym p) ∙ ap (take m) (sym (drop-drop entry_size (entry_place i) b)) ∙ take_drop entry_size m d ∙ ap
    (drop entry_size) w
    ∙ drop_at (entry_bytes u) (entries_bytes us) entry_size (entry_length u) in
    rw (entry_read b i u f a.0, lines_read b us (suc i) g a.1) refl
