-- Reading a decimal and a line is the inverse of printing it. Assumes nothing.
use mathlib.Core.Path.{◌≡◌, refl, sym, ap, ◌∙◌}
use mathlib.Core.Bool.{Bool, true, false, cond}
use mathlib.Core.List.{List, [], ◌∷◌, ◌++◌, append_assoc}
use Prim.Native.Nat.{ℕ, zero, suc, ◌-◌, ◌/◌, ◌%◌, ◌≤◌, ◌<◌}
use native.Mathlib.Omega.{arith}
use lib.Dec.{ltb, eqb}
use borrow.Author.Tests.{ltb-true, ltb-false, eq-eqb, ne_eqb, eqb-true}
use Rattle.texts.specs.Printed.{space, newline, digit_byte, decimal, row_text}
use Rattle.texts.specs.Reading.{number_limit, Number, number, no_number, is_digit, longer, is_following, read_more, read_number, line, no_line, with_third, with_second, with_first, read_line}
use Rattle.texts.proofs.DecimalLaws.{decimal_one, decimal_last, decimal_longer}
use Rattle.texts.proofs.ReadingLaws.{Byte, digit_byte_lem, byte_digit, Follows, follows_gives, gives_follows}
use Rattle.texts.proofs.TableLaws.{all_three}

-- a decimal is read to its end
module _ (stop : ℕ) (apart : is_digit stop ≡ false) where
  other_byte : (d : ℕ) → d < 10 → digit_byte d ≡ stop → ⊥
  other_byte d h e =
      let z : true ≡ false = sym (digit_byte_lem (digit_byte d) (omega arith) (omega arith)) ∙ ap is_digit e ∙ apart in
      let w : ◌≡◌ {A = ℕ} 0 1 = cc in
      omega arith

  -- the last digit of a longer decimal
  last_read : (x : ℕ) (u : List ℕ) → 10 ≤ x → x < number_limit → read_more stop (x / 10) (digit_byte (x % 10) ∷ u) ≡ read_more stop x u
  last_read x u h k =
      let e : longer (x / 10) (digit_byte (x % 10)) ≡ x = omega arith in
      let f : Follows (x / 10) (digit_byte (x % 10)) =
      record { byte = record { low = omega arith; high = omega arith }; some = omega arith; fits = omega arith } in
      rw (ne_eqb (digit_byte (x % 10)) stop (other_byte (x % 10) (omega arith)), gives_follows (x / 10) (digit_byte (x % 10)) f, e)

  one_read : (x : ℕ) (u : List ℕ) → x < 10 → read_number stop (digit_byte x ∷ u) ≡ read_more stop x u
  one_read x u h =
      let e : digit_byte x - 48 ≡ x = omega arith in
      rw (digit_byte_lem (digit_byte x) (omega arith) (omega arith), e)

  digits_read : (n x : ℕ) (u : List ℕ) → x ≤ n → x < number_limit → read_number stop (decimal x ++ u) ≡ read_more stop x u
  digits_read zero x u h k = rw (decimal_one x (omega arith)) (one_read x u (omega arith))
  digits_read (suc n) x u h k = go (ltb x 10) refl (λ v i j. digits_read n (x / 10) v i j)
    where
      go : (s : Bool) → ltb x 10 ≡ s
          → ((v : List ℕ) → x / 10 ≤ n → x / 10 < number_limit → read_number stop (decimal (x / 10) ++ v) ≡ read_more stop (x / 10) v)
          → read_number stop (decimal x ++ u) ≡ read_more stop x u
      go true e shorter = rw (decimal_one x (ltb-true x 10 e)) (one_read x u (ltb-true x 10 e))
      go false e shorter =
          let l = ltb-false x 10 e in
          rw (decimal_last x l, append_assoc) (shorter (digit_byte (x % 10) ∷ u) (omega arith) (omega arith) ∙ last_read x u l k)

  number_printed : (x : ℕ) (t : List ℕ) → x < number_limit → read_number stop (decimal x ++ (stop ∷ t)) ≡ number x t
  number_printed x t h = digits_read x x (stop ∷ t) (omega arith) h ∙ rw (eq-eqb stop stop refl)

-- a line is read as its three numbers
pub line_printed : (a b c : ℕ) (t : List ℕ) → a < number_limit → b < number_limit → c < number_limit
    → read_line (row_text a b c ++ t) ≡ line a b c t
unfolding row_text
line_printed a b c t ha hb hc =
    rw (append_assoc, append_assoc, append_assoc)
    (all_three _ (number_printed space refl a _ ha) (number_printed space refl b _ hb) (number_printed newline refl c t hc))

-- what is read as a number is that number's decimal and the byte behind it
pub record ReadFrom (stop : ℕ) (bytes : List ℕ) (y : ℕ) (t : List ℕ) : Type 0 where
  pub printed : bytes ≡ decimal y ++ (stop ∷ t)
  pub small : y < number_limit

no_number_lem : {y : ℕ} {t : List ℕ} → no_number ≡ number y t → ⊥
no_number_lem e = let z : ◌≡◌ {A = ℕ} 0 1 = cc in omega arith

digit_back : (b : ℕ) → Byte b → digit_byte (b - 48) ≡ b
digit_back b h = omega (arith, h.low)

module _ (stop y : ℕ) (t : List ℕ) where
  -- the byte behind the number, and a digit more
  stop_read : (x b : ℕ) (u : List ℕ) → x < number_limit → b ≡ stop → number x u ≡ number y t → ReadFrom stop (decimal x ++ (b ∷ u)) y t
  stop_read x b u h k e =
      let m : x ≡ y = cc in
      let n : u ≡ t = cc in
      record { printed = rw (k, m, n); small = omega arith }

  digit_read : (x b : ℕ) (u : List ℕ) → Follows x b → ReadFrom stop (decimal (longer x b) ++ u) y t
      → ReadFrom stop (decimal x ++ (b ∷ u)) y t
  digit_read x b u k r =
      let d : decimal (longer x b) ≡ decimal x ++ (b ∷ []) =
      decimal_longer x (b - 48) k.some (omega (arith, k.byte.high)) ∙ rw (digit_back b k.byte) in
      let l : decimal x ++ (b ∷ u) ≡ decimal (longer x b) ++ u = rw (d, append_assoc) in
      record { printed = l ∙ r.printed; small = r.small }

  more_read : (x : ℕ) (u : List ℕ) → x < number_limit → read_more stop x u ≡ number y t → ReadFrom stop (decimal x ++ u) y t
  more_read x [] h e = absurd (no_number_lem e)
  more_read x (b ∷ u) h e = go (eqb b stop) refl (is_following x b) refl e (λ i j. more_read (longer x b) u i j)
    where
      go : (s : Bool) → eqb b stop ≡ s → (f : Bool) → is_following x b ≡ f
          → cond s (number x u) (cond f (read_more stop (longer x b) u) no_number) ≡ number y t
          → (longer x b < number_limit → read_more stop (longer x b) u ≡ number y t → ReadFrom stop (decimal (longer x b) ++ u) y t)
          → ReadFrom stop (decimal x ++ (b ∷ u)) y t
      go true p f q e rest = stop_read x b u h (eqb-true b stop p) e
      go false p false q e rest = absurd (no_number_lem e)
      go false p true q e rest = let k = follows_gives x b q in digit_read x b u k (rest k.fits e)

  number_read : (bytes : List ℕ) → read_number stop bytes ≡ number y t → ReadFrom stop bytes y t
  number_read [] e = absurd (no_number_lem e)
  number_read (b ∷ u) e = go (is_digit b) refl e
    where
      go : (s : Bool) → is_digit b ≡ s → cond s (read_more stop (b - 48) u) no_number ≡ number y t → ReadFrom stop (b ∷ u) y t
      go true p e =
          let k = byte_digit b p in
          let r = more_read (b - 48) u (omega (arith, k.high)) e in
          let d : decimal (b - 48) ≡ b ∷ [] = decimal_one (b - 48) (omega (arith, k.high)) ∙ rw (digit_back b k) in
          record { printed = (let l : b ∷ u ≡ decimal (b - 48) ++ u = rw d in l ∙ r.printed); small = r.small }
      go false p e = absurd (no_number_lem e)

-- what is read as a line is that line
pub record LineFrom (bytes : List ℕ) (a b c : ℕ) (t : List ℕ) : Type 0 where
  pub printed : bytes ≡ row_text a b c ++ t
  pub first : a < number_limit
  pub second : b < number_limit
  pub third : c < number_limit

no_line_lem : {a b c : ℕ} {t : List ℕ} → no_line ≡ line a b c t → ⊥
no_line_lem e = let z : ◌≡◌ {A = ℕ} 0 1 = cc in omega arith

-- the three numbers of a line that is read
three_read : (bytes : List ℕ) (a b c : ℕ) (t u v : List ℕ) → read_number space bytes ≡ number a u → read_number space u ≡ number b v
    → read_number newline v ≡ number c t → LineFrom bytes a b c t
unfolding row_text
three_read bytes a b c t u v e f g =
    let p = number_read space a u bytes e in
    let q = number_read space b v u f in
    let r = number_read newline c t v g in
    record {
      printed = p.printed ∙ rw (q.printed, r.printed) (simp append_assoc);
      first = p.small;
      second = q.small;
      third = r.small;
    }

module _ (bytes : List ℕ) (a b c : ℕ) (t : List ℕ) where
  third_read : (x : ℕ) (u : List ℕ) (y : ℕ) (v : List ℕ) → read_number space bytes ≡ number x u → read_number space u ≡ number y v
      → (n : Number) → read_number newline v ≡ n → with_third x y n ≡ line a b c t → LineFrom bytes a b c t
  third_read x u y v p q no_number r e = absurd (no_line_lem e)
  third_read x u y v p q (number z w) r e =
      let i : x ≡ a = cc in
      let j : y ≡ b = cc in
      let k : z ≡ c = cc in
      let l : w ≡ t = cc in
      three_read bytes a b c t u v (cc) (cc) (cc)

  second_read : (x : ℕ) (u : List ℕ) → read_number space bytes ≡ number x u
      → (n : Number) → read_number space u ≡ n → with_second x n ≡ line a b c t → LineFrom bytes a b c t
  second_read x u p no_number q e = absurd (no_line_lem e)
  second_read x u p (number y v) q e = third_read x u y v p q (read_number newline v) refl e

  first_read : (n : Number) → read_number space bytes ≡ n → with_first n ≡ line a b c t → LineFrom bytes a b c t
  first_read no_number p e = absurd (no_line_lem e)
  first_read (number x u) p e = second_read x u p (read_number space u) refl e

  pub line_read : read_line bytes ≡ line a b c t → LineFrom bytes a b c t
  unfolding read_line
  line_read e = first_read (read_number space bytes) refl e
