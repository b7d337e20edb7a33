-- Laws of the lines that are read: a line by its numbers, and how far a table's text has been read. Assumes nothing.
use Rattle.std.specs.Prelude.{Ok, Err}
use mathlib.Core.Path.{◌≡◌, refl, sym, ap, ◌∙◌}
use mathlib.Core.Bool.{false}
use mathlib.Core.List.{List, [], ◌∷◌, ◌++◌, append_assoc, append-nil}
use Prim.Native.Nat.{ℕ, zero, suc, ◌+◌, ◌-◌, ◌*◌, ◌/◌, ◌<◌}
use native.Mathlib.Omega.{arith}
use lib.ListN.{length, length-append}
use Rattle.numbers.specs.Bytes.{put}
use Rattle.numbers.proofs.PutLaws.{put_nil}
use Rattle.texts.specs.Printed.{space, newline}
use Rattle.texts.specs.Reading.{most_lines, number, no_number, read_number, line, no_line, read_line, Text, read_as, unreadable, read_lines, read_text}
use Rattle.texts.specs.Answers.{lines_of}
use Rattle.texts.proofs.LineLaws.{put_behind}

-- a line by its numbers
module _ (bytes : List ℕ) where
  no_first : read_number space bytes ≡ no_number → read_line bytes ≡ no_line
  unfolding read_line
  no_first e = rw e

  pub all_three : {a : ℕ} {t : List ℕ} {b : ℕ} {u : List ℕ} {c : ℕ} {v : List ℕ} → read_number space bytes ≡ number a t
      → read_number space t ≡ number b u → read_number newline u ≡ number c v → read_line bytes ≡ line a b c v
  unfolding read_line
  all_three e f g = rw (e, f, g)

-- numbers in front of what is read
abbrev pub behind : List ℕ → Text → Text
behind front t = record { numbers = front ++ t.numbers; readable = t.readable }

-- a line more, no such line, no line left, and the end
pub lines_next : (k : ℕ) (bytes : List ℕ) (a b c : ℕ) (t : List ℕ) → read_line bytes ≡ line a b c t
    → read_lines (suc k) bytes ≡ behind (a ∷ b ∷ c ∷ []) (read_lines k t)
lines_next k [] a b c t e = let z : ◌≡◌ {A = ℕ} 0 1 = cc (no_first [] refl) in absurd (omega arith)
lines_next k (x ∷ bytes) a b c t e = rw e

lines_broken : (k : ℕ) (bytes : List ℕ) → 0 < length bytes → read_line bytes ≡ no_line → read_lines (suc k) bytes ≡ unreadable
lines_broken k [] h e = absurd (omega arith)
lines_broken k (x ∷ bytes) h e = rw e

lines_full : (bytes : List ℕ) → 0 < length bytes → read_lines zero bytes ≡ unreadable
lines_full [] h = absurd (omega arith)
lines_full (x ∷ bytes) h = refl

lines_end : (k : ℕ) → read_lines k [] ≡ read_as []
lines_end zero = refl
lines_end (suc k) = refl

-- n lines have been read, up to the bytes `left`
pub record Reached (text table₀ table : List ℕ) (n : ℕ) (left : List ℕ) : Type 0 where
  pub front : List ℕ
  pub count : length front ≡ 3 * n
  pub stored : table ≡ put table₀ 0 front
  pub rest : read_text text ≡ behind front (read_lines (most_lines - n) left)

pub reached_start : (text table : List ℕ) → Reached text table table 0 text
unfolding read_text
reached_start text table = record { front = []; count = refl; stored = sym (put_nil table 0); rest = refl }

module _ {text table₀ table : List ℕ} {n : ℕ} {left : List ℕ} (r : Reached text table₀ table n left) where
  pub reached_next : {a b c : ℕ} {next table₁ : List ℕ} → n < most_lines
      → read_line left ≡ line a b c next → table₁ ≡ put table (3 * n) (a ∷ b ∷ c ∷ [])
      → Reached text table₀ table₁ (n + 1) next
  reached_next {a} {b} {c} {next} h e f =
      let m : most_lines - n ≡ suc (most_lines - (n + 1)) = omega arith in
      let l = lines_next (most_lines - (n + 1)) left a b c next e in
      record {
        front = r.front ++ (a ∷ b ∷ c ∷ []);
        count = omega (arith, length-append r.front (a ∷ b ∷ c ∷ []), r.count);
        stored = f ∙ rw (r.stored, ← r.count) (put_behind table₀ r.front (a ∷ b ∷ c ∷ []));
        rest = r.rest ∙ rw (m, l) (rw append_assoc);
      }

  -- what is answered where reading ends: at the end of the text, behind the last line that is taken, at a line that is none
  pub reached_end : left ≡ [] → (Ok n ≡ lines_of (read_text text)) × (table ≡ put table₀ 0 (read_text text).numbers)
  reached_end d =
      let e : read_text text ≡ read_as r.front = r.rest ∙ rw (d, lines_end, append-nil) in
      let q : n ≡ length r.front / 3 = omega (arith, r.count) in
      (rw e (ap Ok q), rw e r.stored)

  stopped : read_lines (most_lines - n) left ≡ unreadable
      → (Err (record {}) ≡ lines_of (read_text text)) × (table ≡ put table₀ 0 (read_text text).numbers)
  stopped u =
      let e : read_text text ≡ record { numbers = r.front; readable = false } = r.rest ∙ rw (u, append-nil) in
      (rw e refl, rw e r.stored)

  pub reached_full : n ≡ most_lines → 0 < length left
      → (Err (record {}) ≡ lines_of (read_text text)) × (table ≡ put table₀ 0 (read_text text).numbers)
  reached_full h k =
      let m : most_lines - n ≡ 0 = omega arith in
      stopped (rw m (lines_full left k))

  pub reached_broken : n < most_lines → 0 < length left → read_line left ≡ no_line
      → (Err (record {}) ≡ lines_of (read_text text)) × (table ≡ put table₀ 0 (read_text text).numbers)
  reached_broken h k e =
      let m : most_lines - n ≡ suc (most_lines - (n + 1)) = omega arith in
      stopped (rw m (lines_broken (most_lines - (n + 1)) left k e))

pub ruleset reached = (reached_start, reached_next, reached_end, reached_full, reached_broken)
