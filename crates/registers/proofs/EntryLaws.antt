-- Laws of the bytes of entries: how many they are, those of two lists, and an entry's start, found, and end, put in. Assumes nothing.
use mathlib.Core.Path.{◌≡◌, refl, sym, ap, ◌∙◌}
use mathlib.Core.List.{List, [], ◌∷◌, ◌++◌, append_assoc}
use Prim.Native.Nat.{ℕ, ◌*◌}
use native.Mathlib.Omega.{arith}
use lib.ListN.{length, length-append}
use Rattle.digits.specs.Order.{Digits}
use Rattle.numbers.specs.Bytes.{put, le4}
use Rattle.numbers.proofs.PutLaws.{run_inside, put_inside}
use Rattle.codes.specs.Field.{field_of}
use Rattle.codes.proofs.FieldLaws.{field_length}
use Rattle.labels.specs.Label.{field_at}
use Rattle.trees.specs.Labelled.{Name, Entry}
use Rattle.registers.specs.Layout.{entry_size, entry_place, start_place, end_place}
use Rattle.registers.specs.Entries.{entry_bytes, entries_bytes, register_bytes}

pub entry_length : (u : Entry Name) → length (entry_bytes u) ≡ entry_size
unfolding entry_bytes
entry_length u =
    let s = field_length u.start in
    let e = field_length u.end in
    let p = field_length u.parent in
    simp length-append (omega arith)

pub entries_length : (us : List (Entry Name)) → length (entries_bytes us) ≡ entry_size * length us
entries_length [] = refl
entries_length (u ∷ us) =
    let a = entry_length u in
    let b = entries_length us in
    simp length-append (omega arith)

pub entries_append : (us vs : List (Entry Name)) → entries_bytes (us ++ vs) ≡ entries_bytes us ++ entries_bytes vs
entries_append [] vs = refl
entries_append (u ∷ us) vs =
    ap (λ (b : List ℕ). entry_bytes u ++ b) (entries_append us vs)
    ∙ sym (append_assoc (entry_bytes u) (entries_bytes us) (entries_bytes vs))

pub register_length : (us : List (Entry Name)) → length (register_bytes us) ≡ entry_place (length us)
register_length us = let e = entries_length us in omega arith

-- eight bytes in front of the entries
module _ (h : List ℕ) (eight : length h ≡ 8) (us vs : List (Entry Name)) (n : Name) (x y p : Digits) where
  abbrev entry : Digits → Entry Name
  entry z = record { name = n; start = x; end = z; parent = p }

  abbrev front : List ℕ
  front = h ++ (entries_bytes us ++ (le4 n.identity ++ le4 n.tag))

  front_length : length front ≡ start_place (length us)
  front_length = let e = entries_length us in simp length-append (omega arith)

  bytes_start : h ++ entries_bytes (us ++ (entry y ∷ vs)) ≡ front ++ (field_of x ++ (field_of y ++ (field_of p ++ entries_bytes vs)))
  unfolding entry_bytes
  bytes_start = rw (entries_append us (entry y ∷ vs)) (simp append_assoc)

  bytes_end : (z : Digits)
      → h ++ entries_bytes (us ++ (entry z ∷ vs)) ≡ (front ++ field_of x) ++ (field_of z ++ (field_of p ++ entries_bytes vs))
  unfolding entry_bytes
  bytes_end z = rw (entries_append us (entry z ∷ vs)) (simp append_assoc)

  -- the start of an entry is found in its place
  pub start_found : (b : List ℕ) → field_at (start_place (length us)) (put b 0 (h ++ entries_bytes (us ++ (entry y ∷ vs)))) ≡ field_of x
  start_found b =
      let r = run_inside b front (field_of x) (field_of y ++ (field_of p ++ entries_bytes vs)) in
      rw bytes_start (rw (field_length x, front_length) at r)

  -- another end put in its place makes the entry with that end
  pub end_put : (b : List ℕ) (z : Digits)
      → put (put b 0 (h ++ entries_bytes (us ++ (entry y ∷ vs)))) (end_place (length us)) (field_of z)
      ≡ put b 0 (h ++ entries_bytes (us ++ (entry z ∷ vs)))
  end_put b z =
      let l : length (front ++ field_of x) ≡ end_place (length us) =
      length-append front (field_of x) ∙ (let e = front_length in let f = field_length x in omega arith) in
      let r = put_inside b (front ++ field_of x) (field_of y) (field_of p ++ entries_bytes vs) (field_of z)
      (field_length y ∙ sym (field_length z)) in
      rw (bytes_end y, bytes_end z) (rw l at r)
