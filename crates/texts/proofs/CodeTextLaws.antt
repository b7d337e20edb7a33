-- Laws of a code's text: what unpacking a field leaves, what is printed of it, and how many bytes that has. Assumes nothing.
use Rattle.std.specs.Prelude.{Result, Ok, Err, ℕ}
use mathlib.Core.Path.{◌≡◌, refl, sym, ap, ◌∙◌}
use mathlib.Core.List.{List, [], ◌∷◌, ◌++◌, map}
use Prim.Native.Nat.{ℕ, ◌+◌, ◌≤◌, ◌<◌}
use native.Mathlib.Numerals.{add-one}
use native.Mathlib.Omega.{arith}
use lib.ListN.{length, take, get_or, length-map}
use lib.Seq.{take-suc, length-take-le}
use Rattle.digits.specs.Lists.{All}
use Rattle.digits.specs.Order.{Digits}
use Rattle.answers.specs.declared.Refusal.{Refusal}
use Rattle.numbers.specs.Bytes.{put}
use Rattle.numbers.proofs.PutLaws.{put_run, put_length}
use Rattle.codes.specs.Code.{longest, IsCode}
use Rattle.codes.specs.Reading.{Reading, code, empty, unsound, read, is_code_held, side_of}
use Rattle.codes.specs.Calls.{unpack_outcome}
use Rattle.codes.proofs.FieldLaws.{formed_quaternary}
use Rattle.codes.proofs.ReadingLaws.{read_code}
use Rattle.codes.proofs.CallLaws.{known_code, unpack_written, unpack_none}
use Rattle.trees.proofs.ListLaws.{map_append}
use Rattle.texts.specs.Printed.{dash, digit_byte, code_text}

-- a code is printed as its digits, no code as `-`
code_digits : (x : Digits) → IsCode x → code_text x ≡ map digit_byte x
code_digits [] c = absurd c.formed
code_digits (d ∷ x) c = refl

pub no_digits : (x : Digits) → x ≡ [] → code_text x ≡ dash ∷ []
no_digits x e = ap code_text e

code_length : (x : Digits) → length x ≤ longest → length (code_text x) ≤ longest
code_length [] h = omega arith
code_length (d ∷ x) h = omega (arith, length-map (d ∷ x) digit_byte)

-- a field's text is no longer than the longest code
pub side_length : (field : List ℕ) → length (code_text (side_of (read field))) ≤ longest
side_length field = go (read field) refl
  where
    go : (k : Reading) → read field ≡ k → length (code_text (side_of k)) ≤ longest
    go (code x) h = code_length x (known_code field x h).fits
    go empty h = omega arith
    go unsound h = omega arith

-- what a field that was unpacked holds
pub record Unpacked (field : List ℕ) (n : ℕ) (left : List ℕ) : Type 0 where
  pub coded : IsCode (side_of (read field))
  pub digits : take n left ≡ side_of (read field)
  pub fits : n ≤ length left

module _ (field lent : List ℕ) (room : longest ≤ length lent)
    (answer : Result ℕ Refusal) (e : answer ≡ (unpack_outcome field lent).answer) where
  pub refused_side : (why : Refusal) → answer ≡ Err why → side_of (read field) ≡ []
  refused_side why r = go (read field) refl
    where
      go : (k : Reading) → read field ≡ k → side_of k ≡ []
      go (code x) h =
          let w = unpack_written field lent x h (omega (arith, (known_code field x h).fits)) in
          let z : ◌≡◌ {A = ℕ} 0 1 = cc in
          absurd (omega arith)
      go empty h = refl
      go unsound h = refl

  pub accepted_side : (n : ℕ) (left : List ℕ) → left ≡ (unpack_outcome field lent).bytes → answer ≡ Ok n → Unpacked field n left
  accepted_side n left f a = go (read field) refl
    where
      go : (k : Reading) → read field ≡ k → Unpacked field n left
      go (code x) h =
          let fits = (known_code field x h).fits in
          let w = unpack_written field lent x h (omega arith) in
          let s : side_of (read field) ≡ x = ap side_of h in
          let m : n ≡ length x = cc in
          let l : left ≡ put lent 0 x = cc in
          record {
            coded = rw s (read_code field x h).0;
            digits = rw (m, l, s) (put_run lent 0 x (omega arith));
            fits = omega (arith, ap length l, put_length lent 0 x (omega arith));
          }
      go empty h = let w = unpack_none field lent (ap is_code_held h) in let z : ◌≡◌ {A = ℕ} 0 1 = cc in absurd (omega arith)
      go unsound h = let w = unpack_none field lent (ap is_code_held h) in let z : ◌≡◌ {A = ℕ} 0 1 = cc in absurd (omega arith)

-- the digits that were unpacked, as text
pub unpacked_text : (field : List ℕ) (n : ℕ) (left : List ℕ) → Unpacked field n left
    → map digit_byte (take n left) ≡ code_text (side_of (read field))
unpacked_text field n left u = rw u.digits (sym (code_digits (side_of (read field)) u.coded))

pub unpacked_small : (field : List ℕ) (n : ℕ) (left : List ℕ) → Unpacked field n left → All (λ d. d < 4) (take n left)
unpacked_small field n left u = rw u.digits (formed_quaternary (side_of (read field)) u.coded.formed)

pub unpacked_length : (field : List ℕ) (n : ℕ) (left : List ℕ) → Unpacked field n left
    → length (take n left) ≡ length (code_text (side_of (read field)))
unpacked_length field n left u = sym (length-map (take n left) digit_byte) ∙ ap length (unpacked_text field n left u)

-- one digit more
pub digits_more : (x : List ℕ) (j : ℕ) → j < length x
    → map digit_byte (take (j + 1) x) ≡ map digit_byte (take j x) ++ (digit_byte (get_or x j 0) ∷ [])
digits_more x j h =
    ap (λ (y : List ℕ). map digit_byte y) (ap (λ (n : ℕ). take n x) (add-one j) ∙ take-suc x j 0 h) ∙ map_append digit_byte (take j x) _

pub digits_length : (x : List ℕ) (j : ℕ) → j ≤ length x → length (map digit_byte (take j x)) ≡ j
digits_length x j h = length-map (take j x) digit_byte ∙ length-take-le j x h
