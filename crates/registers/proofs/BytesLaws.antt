-- The bytes of a register and the lines that are read from them: a line whose label is sound has the bytes of its entry.
-- Assumes nothing.
use mathlib.Core.Path.{◌≡◌, refl, sym, ap, ◌∙◌, subst}
use mathlib.Core.Bool.{Bool, true, false}
use mathlib.Core.List.{List, ◌++◌}
use Prim.Native.Nat.{ℕ, zero, suc, ◌+◌, ◌*◌, ◌≤◌, ◌<◌}
use native.Mathlib.Omega.{arith}
use lib.ListN.{take, drop, get_or}
use lib.Seq.{take-add, drop-drop}
use Rattle.digits.specs.Lists.{All}
use Rattle.numbers.specs.Bytes.{le4, number_at}
use Rattle.numbers.proofs.NumberLaws.{le4_number}
use Rattle.codes.specs.Code.{IsCode}
use Rattle.codes.specs.Field.{field_of}
use Rattle.labels.specs.Label.{field_at}
use Rattle.trees.specs.Labelled.{Name, Entry}
use Rattle.registers.specs.Layout.{count_at, zero_at, label_at, entry_size, entry_place, start_place, end_place, parent_place, HasPlace}
use Rattle.registers.specs.Entries.{entry_bytes, entries_bytes, register_bytes, entry_at, code_at}
use Rattle.registers.specs.Sound.{label_bytes, is_sound_label, line_at, lines_from, HasEntries}
use Rattle.registers.proofs.SoundLaws.{sound_at, has_place}
use Rattle.registers.proofs.RowLaws.{line_sound, line_start, line_end, line_parent, line_blank, lines_length}

-- every element is a byte
abbrev pub Bytes : List ℕ → Type 0
Bytes b = (i : ℕ) → get_or b i 0 < 256

-- parts of a list that follow one another
next_part : (b : List ℕ) (at n m : ℕ) → take (n + m) (drop at b) ≡ take n (drop at b) ++ take m (drop (at + n) b)
next_part b at n m = take-add n m (drop at b) ∙ ap (λ (z : List ℕ). take n (drop at b) ++ take m z) (drop-drop n at b)

five_parts : (b : List ℕ) (at : ℕ)
    → take 104 (drop at b)
    ≡ take 4 (drop at b)
    ++ (take 4 (drop (at + 4) b) ++ (take 32 (drop (at + 8) b) ++ (take 32 (drop (at + 40) b) ++ take 32 (drop (at + 72) b))))
five_parts b at =
    let p : at + 4 + 4 ≡ at + 8 = omega arith in
    let q : at + 8 + 32 ≡ at + 40 = omega arith in
    let r : at + 40 + 32 ≡ at + 72 = omega arith in
    next_part b at 4 100
    ∙ ap (λ (z : List ℕ). take 4 (drop at b) ++ z) (next_part b (at + 4) 4 96 ∙ ap
    (λ (k : ℕ). take 4 (drop (at + 4) b) ++ take 96 (drop k b)) p
    ∙ ap (λ (z : List ℕ). take 4 (drop (at + 4) b) ++ z) (next_part b (at + 8) 32 64 ∙ ap
    (λ (k : ℕ). take 32 (drop (at + 8) b) ++ take 64 (drop k b)) q
    ∙ ap (λ (z : List ℕ). take 32 (drop (at + 8) b) ++ z) (next_part b (at + 40) 32 32 ∙ ap
    (λ (k : ℕ). take 32 (drop (at + 40) b) ++ take 32 (drop k b)) r)))

same_five : (v v' w w' x x' y y' z z' : List ℕ) → v ≡ v' → w ≡ w' → x ≡ x' → y ≡ y' → z ≡ z'
    → v ++ (w ++ (x ++ (y ++ z))) ≡ v' ++ (w' ++ (x' ++ (y' ++ z')))
same_five v v' w w' x x' y y' z z' a b c d e = rw (a, b, c, d, e) refl

-- the bytes of an entry whose label is sound
entry_bytes_lem : (b : List ℕ) (i : ℕ) → Bytes b → HasPlace b i → is_sound_label b i ≡ true
    → entry_bytes (entry_at b i) ≡ take entry_size (drop (entry_place i) b)
unfolding entry_bytes entry_at
entry_bytes_lem b i y h t =
    let s = sound_at b i h t in
    let at : ℕ = entry_place i in
    let z : at + 0 ≡ at = omega arith in
    let a : le4 (number_at b (at + 0)) ≡ take 4 (drop at b) = ap (λ (k : ℕ). le4 (number_at b k)) z ∙ le4_number b at y (omega arith) in
    let c : le4 (number_at b (at + 4)) ≡ take 4 (drop (at + 4) b) = le4_number b (at + 4) y (omega arith) in
    let p : start_place i ≡ at + 8 = omega arith in
    let q : end_place i ≡ at + 40 = omega arith in
    let r : parent_place i ≡ at + 72 = omega arith in
    let d : field_of (code_at b (start_place i)) ≡ take 32 (drop (at + 8) b) = sym s.start_side.field ∙ ap (λ (k : ℕ). field_at k b) p in
    let e : field_of (code_at b (end_place i)) ≡ take 32 (drop (at + 40) b) = sym s.end_side.field ∙ ap (λ (k : ℕ). field_at k b) q in
    let f : field_of (code_at b (parent_place i)) ≡ take 32 (drop (at + 72) b) =
    sym s.parent_side.field ∙ ap (λ (k : ℕ). field_at k b) r in
    same_five _ _ _ _ _ _ _ _ _ _ a c d e f ∙ sym (five_parts b at)

-- the bytes of a label that is sound are the fields of its line
pub label_parts : (b : List ℕ) (i : ℕ) → HasPlace b i → is_sound_label b i ≡ true
    → label_bytes b i ≡ field_of (line_at b i).start ++ (field_of (line_at b i).end ++ field_of (line_at b i).parent)
label_parts b i h t =
    let s = sound_at b i h t in
    let at : ℕ = entry_place i + label_at in
    let p : start_place i ≡ at = omega arith in
    let q : end_place i ≡ at + 32 = omega arith in
    let r : parent_place i ≡ at + 32 + 32 = omega arith in
    next_part b at 32 64
    ∙ ap (λ (z : List ℕ). take 32 (drop at b) ++ z) (next_part b (at + 32) 32 32)
    ∙ sym (rw (
      line_start b i t,
      line_end b i t,
      line_parent b i t,
      sym s.start_side.field,
      sym s.end_side.field,
      sym
          s.parent_side.field,
      p,
      q,
      r,
    ) refl)

-- a line that starts with a code has a sound label
pub coded_sound : (b : List ℕ) (i : ℕ) → IsCode (line_at b i).start → is_sound_label b i ≡ true
coded_sound b i c = go (is_sound_label b i) refl
  where
    go : (t : Bool) → is_sound_label b i ≡ t → is_sound_label b i ≡ true
    go true e = e
    go false e = absurd (subst IsCode (line_blank b i e) c).formed

-- the bytes of lines that all start with codes
lines_bytes : (b : List ℕ) (m i n : ℕ) → Bytes b → HasEntries b n → i + m ≤ n
    → All (λ (u : Entry Name). IsCode u.start) (lines_from b i m)
    → entries_bytes (lines_from b i m) ≡ take (entry_size * m) (drop (entry_place i) b)
lines_bytes b zero i n y h k a = refl
lines_bytes b (suc m) i n y h k a =
    let t = coded_sound b i a.0 in
    let e : entry_bytes (line_at b i) ≡ take entry_size (drop (entry_place i) b) =
    ap entry_bytes (line_sound b i t) ∙ entry_bytes_lem b i y (has_place b n i h (omega arith)) t in
    let f : entries_bytes (lines_from b (suc i) m) ≡ take (entry_size * m) (drop (entry_place (suc i)) b) =
    lines_bytes b m (suc i) n y h (omega arith) a.1 in
    let p : entry_place i + entry_size ≡ entry_place (suc i) = omega arith in
    let q : entry_size * suc m ≡ entry_size + entry_size * m = omega arith in
    rw (e, f, q) (sym (next_part b (entry_place i) entry_size (entry_size * m) ∙ ap
    (λ (j : ℕ). take entry_size (drop (entry_place i) b) ++ take (entry_size * m) (drop j b)) p))

-- the whole register
pub register_bytes_lem : (b : List ℕ) (n : ℕ) → Bytes b → HasEntries b n → number_at b count_at ≡ n → number_at b zero_at ≡ 0
    → All (λ (u : Entry Name). IsCode u.start) (lines_from b 0 n) → register_bytes (lines_from b 0 n) ≡ take (entry_place n) b
register_bytes_lem b n y h c z a =
    let l = lines_length b 0 n in
    let d : le4 n ≡ take 4 (drop 0 b) = ap le4 (sym c) ∙ le4_number b 0 y (omega arith) in
    let e : le4 0 ≡ take 4 (drop 4 b) = ap le4 (sym z) ∙ le4_number b 4 y (omega arith) in
    let f = lines_bytes b n 0 n y h (omega arith) a in
    let q : entry_place n ≡ 4 + (4 + entry_size * n) = omega arith in
    ap (λ (k : ℕ). le4 k ++ (le4 0 ++ entries_bytes (lines_from b 0 n))) l
    ∙ ap (λ (x : List ℕ). x ++ (le4 0 ++ entries_bytes (lines_from b 0 n))) d
    ∙ ap (λ (x : List ℕ). take 4 b ++ (x ++ entries_bytes (lines_from b 0 n))) e
    ∙ ap (λ (x : List ℕ). take 4 b ++ (take 4 (drop 4 b) ++ x)) f
    ∙ sym (ap (λ (k : ℕ). take k b) q ∙ next_part b 0 4 (4 + entry_size * n) ∙ ap (λ (x : List ℕ). take 4 b ++ x)
    (next_part b 4 4 (entry_size * n)))
