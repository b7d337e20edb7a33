-- Reading a text is exactly the inverse of printing a table; how long a text is. Assumes nothing.
use Rattle.std.specs.Prelude.{Result, Ok, Err}
use mathlib.Core.Path.{◌≡◌, refl, ap, subst, ◌∙◌}
use mathlib.Core.Bool.{Bool, true, false, cond}
use mathlib.Core.List.{List, [], ◌∷◌, ◌++◌}
use Prim.Native.Nat.{ℕ, zero, suc, ◌+◌, ◌-◌, ◌*◌, ◌/◌, ◌≤◌, ◌<◌}
use native.Mathlib.Omega.{arith}
use lib.ListN.{length, length-append}
use Rattle.texts.specs.declared.Unreadable.{Unreadable}
use Rattle.texts.specs.Printed.{row_text, table_text}
use Rattle.texts.specs.Reading.{most_lines, number_limit, Table, Line, line, no_line, read_line, Text, read_as, unreadable, behind_line, read_lines, read_text}
use Rattle.texts.specs.Answers.{lines_of}
use Rattle.texts.proofs.DecimalLaws.{ten_digits}
use Rattle.texts.proofs.TableLaws.{behind, lines_next}
use Rattle.texts.proofs.NumberTextLaws.{line_printed, line_read}

-- the rows behind the first
table_rest : (most a b c : ℕ) (ns : List ℕ) → Table (suc most) (a ∷ b ∷ c ∷ ns) → Table most ns
table_rest most a b c ns t =
    record { rows = t.rows - 1; whole = omega (arith, t.whole); few = omega (arith, t.whole, t.few); small = t.small.1.1.1 }

table_first : (most a b c : ℕ) (ns : List ℕ) → a < number_limit → b < number_limit → c < number_limit → Table most ns
    → Table (suc most) (a ∷ b ∷ c ∷ ns)
table_first most a b c ns ha hb hc t =
    record { rows = t.rows + 1; whole = omega (arith, t.whole); few = omega (arith, t.few); small = (ha, (hb, (hc, t.small))) }

lines_printed : (most : ℕ) (ns : List ℕ) → Table most ns → read_lines most (table_text ns) ≡ read_as ns
lines_printed zero [] t = refl
lines_printed zero (a ∷ ns) t = absurd (omega (arith, t.whole, t.few))
lines_printed (suc most) [] t = refl
lines_printed (suc most) (a ∷ []) t = absurd (omega (arith, t.whole))
lines_printed (suc most) (a ∷ b ∷ []) t = absurd (omega (arith, t.whole))
lines_printed (suc most) (a ∷ b ∷ c ∷ ns) t =
    lines_next most (row_text a b c ++ table_text ns) a b c (table_text ns)
    (line_printed a b c (table_text ns) t.small.0 t.small.1.0 t.small.1.1.0)
    ∙ ap (behind (a ∷ b ∷ c ∷ [])) (lines_printed most ns (table_rest most a b c ns t))

-- the text of a table is read as the numbers of that table
pub read_printed : (ns : List ℕ) → Table most_lines ns → read_text (table_text ns) ≡ read_as ns
unfolding read_text
read_printed ns t = lines_printed most_lines ns t

no_lines : (most : ℕ) (ns : List ℕ) → read_as [] ≡ read_as ns → ([] ≡ table_text ns) × Table most ns
no_lines most [] e = (refl, record { rows = 0; whole = refl; few = omega arith; small = tt })
no_lines most (a ∷ ns) e =
    let f : [] ≡ a ∷ ns = ap (λ (t : Text). t.numbers) e in
    let z : ◌≡◌ {A = ℕ} 0 1 = cc in
    absurd (omega arith)

not_readable : (t : Text) (ns : List ℕ) → t.readable ≡ false → t ≡ read_as ns → ⊥
not_readable t ns e f =
    let g : t.readable ≡ true = ap (λ (s : Text). s.readable) f in
    let z : ◌≡◌ {A = ℕ} 0 1 = cc in
    omega arith

-- a text that is readable is read as its numbers
read_as_lem : (t : Text) → t.readable ≡ true → t ≡ read_as t.numbers
read_as_lem t e = ap (λ (s : Bool). record { numbers = t.numbers; readable = s }) e

lines_read : (most : ℕ) (text ns : List ℕ) → read_lines most text ≡ read_as ns → (text ≡ table_text ns) × Table most ns
lines_read zero [] ns e = no_lines zero ns e
lines_read zero (x ∷ text) ns e = absurd (not_readable unreadable ns refl e)
lines_read (suc most) [] ns e = no_lines (suc most) ns e
lines_read (suc most) (x ∷ text) ns e = go (read_line (x ∷ text)) refl e (λ rest ms q. lines_read most rest ms q)
  where
    go : (l : Line) → read_line (x ∷ text) ≡ l → behind_line l (λ rest. read_lines most rest) ≡ read_as ns
        → ((rest ms : List ℕ) → read_lines most rest ≡ read_as ms → (rest ≡ table_text ms) × Table most ms)
        → (x ∷ text ≡ table_text ns) × Table (suc most) ns
    go no_line p q rest = absurd (not_readable unreadable ns refl q)
    go (line a b c t) p q rest =
        let ms : List ℕ = (read_lines most t).numbers in
        let f : a ∷ b ∷ c ∷ ms ≡ ns = ap (λ (s : Text). s.numbers) q in
        let r = rest t ms (read_as_lem (read_lines most t) (ap (λ (s : Text). s.readable) q)) in
        let l = line_read (x ∷ text) a b c t p in (
          l.printed ∙ ap (λ (u : List ℕ). row_text a b c ++ u) r.0 ∙ ap table_text f,
          subst (λ (n : List ℕ). Table (suc most) n) f (table_first most a b c ms l.first l.second l.third r.1),
        )

-- what a text is read as is a table, and the text is the text of that table
pub printed_read : (text ns : List ℕ) → read_text text ≡ read_as ns → (text ≡ table_text ns) × Table most_lines ns
unfolding read_text
printed_read text ns e = lines_read most_lines text ns e

-- an unreadable text is the text of no table
pub unreadable_unprinted : (text : List ℕ) → (read_text text).readable ≡ false → (ns : List ℕ) → Table most_lines ns
    → text ≡ table_text ns → ⊥
unreadable_unprinted text e ns t p = not_readable (read_text text) ns e (ap read_text p ∙ read_printed ns t)

rows_known : (t : Text) (n : ℕ) → Ok n ≡ lines_of t → (t ≡ read_as t.numbers) × (n ≡ length t.numbers / 3)
rows_known t n e = go t.readable refl e
  where
    go : (s : Bool) → t.readable ≡ s → ◌≡◌ {A = Result ℕ Unreadable} (Ok n) (cond s (Ok (length t.numbers / 3)) (Err (record {})))
        → (t ≡ read_as t.numbers) × (n ≡ length t.numbers / 3)
    go true p q = (read_as_lem t p, cc)
    go false p q = let z : ◌≡◌ {A = ℕ} 0 1 = cc in absurd (omega arith)

-- a text that is answered with a number of rows is the text of a table with so many rows
pub rows_read : (text : List ℕ) (n : ℕ) → Ok n ≡ lines_of (read_text text) →
    let ns = (read_text text).numbers in
    (text ≡ table_text ns) × (length ns ≡ 3 * n) × (n ≤ most_lines)
rows_read text n e =
    let k = rows_known (read_text text) n e in
    let p = printed_read text (read_text text).numbers k.0 in
    (p.0, omega (arith, p.1.whole, k.1), omega (arith, p.1.whole, p.1.few, k.1))

-- three decimals of at most ten digits, each with a byte behind it
row_length : (a b c : ℕ) → a < number_limit → b < number_limit → c < number_limit → length (row_text a b c) ≤ 33
unfolding row_text
row_length a b c ha hb hc = simp length-append (omega (arith, ten_digits a ha, ten_digits b hb, ten_digits c hc))

table_length : (most : ℕ) (ns : List ℕ) → Table most ns → length (table_text ns) ≤ 33 * most
table_length zero [] t = omega arith
table_length zero (a ∷ ns) t = absurd (omega (arith, t.whole, t.few))
table_length (suc most) [] t = omega arith
table_length (suc most) (a ∷ []) t = omega arith
table_length (suc most) (a ∷ b ∷ []) t = omega arith
table_length (suc most) (a ∷ b ∷ c ∷ ns) t =
    let l = table_length most ns (table_rest most a b c ns t) in
    let r = row_length a b c t.small.0 t.small.1.0 t.small.1.1.0 in
    omega (arith, length-append (row_text a b c) (table_text ns))

-- a text of more than 16,500 bytes is unreadable
pub long_unreadable : (text : List ℕ) → 33 * most_lines < length text → (read_text text).readable ≡ false
long_unreadable text h = go (read_text text).readable refl
  where
    go : (s : Bool) → (read_text text).readable ≡ s → s ≡ false
    go false e = refl
    go true e =
        let ns : List ℕ = (read_text text).numbers in
        let p = printed_read text ns (read_as_lem (read_text text) e) in
        absurd (omega (arith, ap length p.0, table_length most_lines ns p.1))
