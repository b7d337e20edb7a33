-- Laws of a planned insertion: its codes are those of the tree's new entry, and its place is that entry's. Assumes nothing.
use mathlib.Core.Path.{◌≡◌, sym, ap, ◌∙◌, subst}
use mathlib.Core.Bool.{true}
use mathlib.Core.List.{List}
use Prim.Native.Nat.{ℕ, ◌≤◌, ◌<◌}
use native.Mathlib.Omega.{arith}
use Rattle.digits.specs.Order.{Digits}
use Rattle.digits.specs.Between.{between, start_of, end_of}
use Rattle.answers.specs.Outcome.{accepted}
use Rattle.codes.specs.declared.spread.Code.{Code}
use Rattle.codes.specs.Code.{longest, IsCode}
use Rattle.codes.specs.Spread.{digits_of, Held}
use Rattle.trees.specs.Forest.{Forest}
use Rattle.trees.specs.Labelled.{Name, Entry, starts, ends}
use Rattle.trees.specs.Edit.{Where, Spot, spot_of}
use Rattle.trees.specs.Neighbours.{left_of, right_of}
use Rattle.trees.specs.Search.{leading}
use Rattle.registers.specs.Entries.{code_at}
use Rattle.registers.specs.Questions.{count_of, lines_of, is_register_sound, tree_in}
use Rattle.edits.specs.Search.{parent_from}
use Rattle.edits.specs.Splice.{inserted_bytes}
use Rattle.edits.specs.Edits.{is_parented, put_outcome}
use Rattle.edits.proofs.SpliceLaws.{same_inserted}
use Rattle.edits.proofs.PlaceLaws.{found_place, parent_found, new_codes, held_step, held_code}
use Rattle.edits.proofs.OutcomeLaws.{put_done}

module _ (b : List ℕ) (e : is_register_sound b ≡ true) (w : Where) (i : ℕ) (h : i < count_of b) (p : is_parented w i ≡ true) where
  abbrev f : Forest (Entry Name)
  f = tree_in b

  abbrev q : Spot f
  q = spot_of w i f

  abbrev left : Digits
  left = left_of starts ends f q

  abbrev right : Digits
  right = right_of starts ends f q

  -- codes that were made between the neighbours, one behind the other
  module _ (x y s t u : Code) (l : digits_of x ≡ left) (r : digits_of y ≡ right) (first : Held s (between (digits_of x) (digits_of y)))
      (last : Held t (between (digits_of s) (digits_of y))) (short : s.count ≤ longest) (short_end : t.count ≤ longest)
      (from : ℕ) (g : from ≡ parent_from w i) (k : digits_of u ≡ code_at b from) where
    started : Held s (start_of left right)
    started = held_step x y s left right l r first

    ended : Held t (end_of left right)
    ended = held_step s y t (start_of left right) right started.digits r last

    pub planned_codes : IsCode (digits_of s) × IsCode (digits_of t) × IsCode (digits_of u)
    planned_codes =
        let n = new_codes b e (record { identity = 0; tag = 0 }) q in (
          held_code s (start_of left right) started n.0 short,
          held_code t (end_of left right) ended n.1 short_end,
          subst IsCode (sym k) (parent_found b e w i h p from g).1,
        )

    pub planned : (m : Name) (n : ℕ) → n ≡ leading right (lines_of b)
        → put_outcome b m f q
        ≡ accepted n (inserted_bytes b n (record { name = m; start = digits_of s; end = digits_of t; parent = digits_of u }))
    planned m n o =
        let a = o ∙ found_place b e w i h p in
        let x : Entry Name = record { name = m; start = digits_of s; end = digits_of t; parent = digits_of u } in
        put_done b m f q (omega (arith, started.count, short)) (omega (arith, ended.count, short_end))
        ∙ sym
        (ap (λ (j : ℕ). accepted j (inserted_bytes b n x)) a
        ∙ ap (accepted _) (same_inserted b n _ m _ _ _ _ _ _ a started.digits ended.digits (k ∙ (parent_found b e w i h p from g).2)))
