-- Laws of the loops that look for a neighbour and count the starts below a code, and what they find in a sound register.
-- Assumes nothing.
use mathlib.Core.Path.{◌≡◌, refl, sym, ap, ◌∙◌, subst}
use mathlib.Core.Bool.{Bool, true, false, cond}
use mathlib.Core.List.{List}
use Prim.Native.Nat.{ℕ, suc, ◌+◌, ◌-◌, ◌<◌}
use native.Mathlib.Numerals.{add-one}
use native.Mathlib.Omega.{arith}
use Rattle.digits.specs.Order.{Digits, is_below}
use Rattle.trees.specs.Labelled.{Name, Entry}
use Rattle.trees.specs.Search.{closer, outermost, nearest, leading}
use Rattle.registers.specs.Layout.{start_place, end_place}
use Rattle.registers.specs.Entries.{code_at}
use Rattle.registers.specs.Sound.{line_at, lines_from, CodeAt}
use Rattle.registers.specs.Questions.{count_of, lines_of, is_register_sound}
use Rattle.edits.specs.Search.{outer_place}
use Rattle.registers.proofs.RowLaws.{lines_next}
use Rattle.registers.proofs.QuestionLaws.{sized_of, codes_at, start_of, end_of}

-- the codes of entry i, over the place that the code has read
module _ (b : List ℕ) (e : is_register_sound b ≡ true) (i : ℕ) (h : i < count_of b) (at : ℕ) where
  pub start_read : at ≡ start_place i → CodeAt b at
  start_read k = subst (CodeAt b) (sym k) (codes_at b e i h).start_at_lem

  pub end_read : at ≡ end_place i → CodeAt b at
  end_read k = subst (CodeAt b) (sym k) (codes_at b e i h).end_at_lem

-- where the search begins
module _ (b : List ℕ) (e : is_register_sound b ≡ true) where
  some : 0 < count_of b
  some = let s = sized_of b e in omega (arith, s.some)

  pub outer_code : (up : Bool) → CodeAt b (outer_place up)
  outer_code true = (codes_at b e 0 some).end_at_lem
  outer_code false = (codes_at b e 0 some).start_at_lem

  pub outer_is : (up : Bool) → outermost up (line_at b 0) ≡ code_at b (outer_place up)
  outer_is true = end_of b e 0 some
  outer_is false = start_of b e 0 some

-- the search from line i on
abbrev pub nearest_from : List ℕ → Bool → Digits → Digits → ℕ → Digits
nearest_from b up x best i = nearest up x best (lines_from b i (count_of b - i))

all_lines : (b : List ℕ) → lines_from b 0 (count_of b - 0) ≡ lines_of b
all_lines b = let z : count_of b - 0 ≡ count_of b = omega arith in rw z refl

module _ (b : List ℕ) (up : Bool) (x : Digits) where
  pub nearest_all : (best : Digits) → nearest up x best (lines_of b) ≡ nearest_from b up x best 0
  nearest_all best = ap (nearest up x best) (sym (all_lines b))

  pub nearest_next : is_register_sound b ≡ true → (i : ℕ) → i < count_of b → (best next last : Digits)
      → next ≡ closer up x best (code_at b (start_place i))
      → last ≡ closer up x next (code_at b (end_place i))
      → nearest_from b up x best i ≡ nearest_from b up x last (i + 1)
  nearest_next e i h best next last p q =
      let u : Entry Name = line_at b i in
      let r : closer up x (closer up x best u.start) u.end ≡ last =
      ap (λ (z : Digits). closer up x (closer up x best z) u.end) (start_of b e i h) ∙ ap (λ (z : Digits). closer up x z u.end)
      (sym p)
      ∙ ap (closer up x next) (end_of b e i h) ∙ sym q in
      ap (nearest up x best) (lines_next b (count_of b) i h) ∙ ap
      (λ (z : Digits). nearest up x z (lines_from b (suc i) (count_of b - suc i))) r
      ∙ ap (λ (k : ℕ). nearest up x last (lines_from b k (count_of b - k))) (sym (add-one i))

-- the count from line i on
abbrev pub leading_from : List ℕ → Digits → ℕ → ℕ
leading_from b r i = leading r (lines_from b i (count_of b - i))

module _ (b : List ℕ) (r : Digits) where
  module _ (e : is_register_sound b ≡ true) (i : ℕ) (h : i < count_of b) where
    leading_step : leading_from b r i ≡ cond (is_below (code_at b (start_place i)) r) (suc (leading_from b r (suc i))) 0
    leading_step = ap (leading r) (lines_next b (count_of b) i h) ∙ rw (start_of b e i h) refl

    pub leading_next : is_below (code_at b (start_place i)) r ≡ true → i + leading_from b r i ≡ i + 1 + leading_from b r (i + 1)
    leading_next k =
        let s : leading_from b r i ≡ suc (leading_from b r (suc i)) =
        leading_step ∙ ap (λ (t : Bool). cond t (suc (leading_from b r (suc i))) 0) k in
        rw (add-one i) (omega (arith, s))

    pub leading_stop : is_below (code_at b (start_place i)) r ≡ false → leading_from b r i ≡ 0
    leading_stop k = leading_step ∙ ap (λ (t : Bool). cond t (suc (leading_from b r (suc i))) 0) k
