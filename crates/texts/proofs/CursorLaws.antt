-- Laws of what is written at a cursor: a byte, a part, one text behind another, and the room that is left. Assumes nothing.
use mathlib.Core.Path.{◌≡◌, refl, ap, ◌∙◌}
use mathlib.Core.List.{List, [], ◌∷◌, ◌++◌}
use Prim.Native.Nat.{ℕ, ◌+◌, ◌/◌, ◌%◌, ◌≤◌, ◌<◌}
use native.Mathlib.Nat.{add_assoc, add-zero}
use native.Mathlib.Omega.{arith}
use lib.ListN.{length, take, drop, set, length-append}
use Rattle.numbers.specs.Bytes.{put}
use Rattle.numbers.proofs.PutLaws.{put_copied, put_nil, put_one, put_put, put_length}
use Rattle.texts.specs.declared.Cursor.{Cursor}
use Rattle.texts.specs.Cursor.{written, HasRoom, Within}
use Rattle.texts.specs.Printed.{decimal, digit_byte}
use Rattle.texts.proofs.DecimalLaws.{decimal_one, decimal_last}

-- the cursor with other bytes and another place
abbrev pub moved : Cursor → List ℕ → ℕ → Cursor
moved c bytes at = record c { out = record c.out { now = bytes }; at = at }

-- one byte, and a run of bytes
pub byte_written : (c : Cursor) (b : ℕ) → HasRoom c 1 → moved c (set c.out.now c.at b) (c.at + 1) ≡ written c (b ∷ [])
unfolding written
byte_written c b room = rw (put_one c.out.now c.at b (omega arith)) refl

pub part_written : (c : Cursor) (n : ℕ) {ys : List ℕ} (xs : List ℕ) → ys ≡ xs → n ≡ length xs
    → moved c (take c.at c.out.now ++ (ys ++ drop n (drop c.at c.out.now))) (c.at + length xs) ≡ written c xs
unfolding written
part_written c n {ys} xs f e = ap (λ (bytes : List ℕ). moved c bytes (c.at + length xs)) (put_copied c.out.now c.at n ys xs e f)

-- where a text ends, what it leaves, and the room behind it
module _ (c : Cursor) {d : Cursor} (xs : List ℕ) (e : d ≡ written c xs) where
  pub written_end : d.at ≡ c.at + length xs
  unfolding written
  written_end = ap (λ (d : Cursor). d.at) e

  pub written_bytes : d.out.now ≡ put c.out.now c.at xs
  unfolding written
  written_bytes = ap (λ (d : Cursor). d.out.now) e

  pub room_left : (n : ℕ) → HasRoom c (length xs + n) → HasRoom d n
  room_left n room = let l = put_length c.out.now c.at xs (omega arith) in omega (arith, written_end, ap length written_bytes, l)

  -- a text behind another
  pub more_written : {f : Cursor} (ys : List ℕ) → f ≡ written d ys → HasRoom c 0 → f ≡ written c (xs ++ ys)
  unfolding written
  more_written ys g room =
      g ∙ rw (e, put_put c.out.now c.at xs (omega arith) ys, length-append xs ys, add_assoc) refl

  written_same : d.out.ghost_name ≡ c.out.ghost_name
  unfolding written
  written_same = ap (λ (d : Cursor). d.out.ghost_name) e

  -- so many bytes at most
  pub few_written : (n : ℕ) → length xs ≤ n → HasRoom c n → Within c n d
  few_written n h room =
      let l = put_length c.out.now c.at xs (omega arith) in
      (omega (arith, written_end), omega (arith, ap length written_bytes, l), written_same)

pub nothing_written : (c : Cursor) → c ≡ written c []
unfolding written
nothing_written c = rw (put_nil c.out.now c.at, add-zero) refl

-- a decimal is its last digit behind the others
pub digit_written : (c : Cursor) {d : Cursor} (x : ℕ) → d ≡ written c (digit_byte (x % 10) ∷ []) → x < 10 → d ≡ written c (decimal x)
digit_written c x e h = let r : x % 10 ≡ x = omega arith in e ∙ rw (decimal_one x h, r) refl

pub last_written : (c : Cursor) {d f : Cursor} (x : ℕ) → d ≡ written c (decimal (x / 10))
    → f ≡ written d (digit_byte (x % 10) ∷ []) → 10 ≤ x → HasRoom c 0 → f ≡ written c (decimal x)
last_written c x e f h room = more_written c (decimal (x / 10)) e (digit_byte (x % 10) ∷ []) f room ∙ rw (decimal_last x h) refl

pub ruleset cursor = (byte_written, part_written, nothing_written, more_written, few_written)
