-- Laws of codes over any alphabet: the tests, sides, one code behind another, rising lists.
-- Assumes nothing.
use mathlib.Core.Path.{◌≡◌, refl}
use mathlib.Core.Bool.{Bool, true, false, ◌&&◌}
use mathlib.Core.List.{List, [], ◌∷◌, ◌++◌}
use Prim.Native.Nat.{ℕ, suc, ◌+◌, ◌≤◌, ◌<◌}
use native.Mathlib.Numerals.{add-one}
use native.Mathlib.Omega.{arith}
use lib.Dec.{T, leb, ltb, leb→le, le→leb, ltb→lt, lt→ltb}
use lib.ListN.{length, drop, get_or, drop_of_length-le}
use lib.Seq.{drop-cons}
use Rattle.digits.specs.Order.{Digits, Below}
use Rattle.digits.specs.Code.{Formed, is_formed, Within, is_within, Side, Under, Rising}
use Rattle.digits.proofs.OrderLaws.{below_trans}

and_gives : (a b : Bool) → T (a && b) → T a × T b
and_gives true true t = (tt, tt)
and_gives true false t = absurd t
and_gives false b t = absurd t

gives_and : (a b : Bool) → T a → T b → T (a && b)
gives_and true b t u = u
gives_and false b t u = absurd t

-- what is below a side with digits
pub under_some : (x y : Digits) → 0 < length y → Under x y → Below x y
under_some x [] n h = absurd (omega arith)
under_some x (b ∷ y) n h = h

module _ (least symbols : ℕ) where
  is_formed_gives : (x : Digits) → T (is_formed least symbols x) → Formed least symbols x
  is_formed_gives [] t = t
  is_formed_gives (a ∷ []) t =
      let p = and_gives (ltb least a) (ltb a (least + symbols)) t in
      (ltb→lt least a p.0, ltb→lt a (least + symbols) p.1)
  is_formed_gives (a ∷ b ∷ x) t =
      let p = and_gives (leb least a && ltb a (least + symbols)) (is_formed least symbols (b ∷ x)) t in
      let q = and_gives (leb least a) (ltb a (least + symbols)) p.0 in
      (leb→le least a q.0, ltb→lt a (least + symbols) q.1, is_formed_gives (b ∷ x) p.1)

  gives_is_formed : (x : Digits) → Formed least symbols x → T (is_formed least symbols x)
  gives_is_formed [] s = s
  gives_is_formed (a ∷ []) s = gives_and (ltb least a) (ltb a (least + symbols)) (lt→ltb least a s.0) (lt→ltb a (least + symbols) s.1)
  gives_is_formed (a ∷ b ∷ x) s =
      gives_and (leb least a && ltb a (least + symbols)) (is_formed least symbols (b ∷ x))
      (gives_and (leb least a) (ltb a (least + symbols)) (le→leb least a s.0) (lt→ltb a (least + symbols) s.1))
      (gives_is_formed (b ∷ x) s.2)

  -- the test, digit by digit from the front
  pub is_formed_step : (x : Digits) (i : ℕ) → i + 1 < length x
      → is_formed least symbols (drop i x)
      ≡ (leb least (get_or x i 0) && ltb (get_or x i 0) (least + symbols) && is_formed least symbols (drop (i + 1) x))
  is_formed_step x i h = rw (add-one, drop-cons x i 0 (omega arith), drop-cons x (suc i) 0 (omega arith)) refl

  pub is_formed_last : (x : Digits) (i : ℕ) → i + 1 ≡ length x
      → is_formed least symbols (drop i x) ≡ (ltb least (get_or x i 0) && ltb (get_or x i 0) (least + symbols))
  is_formed_last x i h = rw (drop-cons x i 0 (omega arith), drop_of_length-le x {i = suc i} (omega arith)) refl

  pub is_within_gives : (h : ℕ) (x : Digits) → T (is_within least symbols h x) → Within least symbols h x
  is_within_gives h x t =
      let p = and_gives (is_formed least symbols x) (leb (length x) h) t in
      record { formed = is_formed_gives x p.0; fits = leb→le (length x) h p.1 }

  pub gives_is_within : (h : ℕ) (x : Digits) → Within least symbols h x → T (is_within least symbols h x)
  gives_is_within h x w = gives_and (is_formed least symbols x) (leb (length x) h) (gives_is_formed x w.formed) (le→leb (length x) h w.fits)

  pub formed_length : (x : Digits) → Formed least symbols x → 0 < length x
  formed_length [] s = absurd s
  formed_length (a ∷ x) s = omega arith

  pub formed_side : (x : Digits) → Formed least symbols x → Side least symbols x
  formed_side [] s = absurd s
  formed_side (a ∷ x) s = s

  pub side_formed : (x : Digits) → 0 < length x → Side least symbols x → Formed least symbols x
  side_formed [] h s = absurd (omega arith)
  side_formed (a ∷ x) h s = s

  pub formed_first : (a : ℕ) (x : Digits) → Formed least symbols (a ∷ x) → (least ≤ a) × (a < least + symbols)
  formed_first a [] s = omega arith
  formed_first a (b ∷ x) s = (s.0, s.1)

  pub formed_rest : (a : ℕ) (x : Digits) → Formed least symbols (a ∷ x) → Side least symbols x
  formed_rest a [] s = tt
  formed_rest a (b ∷ x) s = s.2

  -- a symbol in front of a code, and a code or nothing in front of a code
  pub formed_cons : (a : ℕ) (x : Digits) → least ≤ a → a < least + symbols → Formed least symbols x → Formed least symbols (a ∷ x)
  formed_cons a [] p q s = absurd s
  formed_cons a (b ∷ x) p q s = (p, q, s)

  pub formed_append : (x y : Digits) → Side least symbols x → Formed least symbols y → Formed least symbols (x ++ y)
  formed_append [] y s t = t
  formed_append (a ∷ x) y s t =
      let f = formed_first a x s in
      formed_cons a (x ++ y) f.0 f.1 (formed_append x y (formed_rest a x s) t)

  pub under_below : (x y : Digits) → Formed least symbols y → Under x y → Below x y
  under_below x y s h = under_some x y (formed_length y s) h

-- two rising lists with a code between them
pub rising_join : (l a r : Digits) (xs ys : List Digits) → 0 < length a → Rising l xs a → Rising a ys r → Rising l (xs ++ (a ∷ ys)) r
rising_join l a r [] ys n h k = (under_some l a n h, k)
rising_join l a r (x ∷ xs) ys n h k = (h.0, rising_join x a r xs ys n h.1 k)

pub below_under : (x y : Digits) → Below x y → Under x y
below_under x [] h = tt
below_under x (b ∷ y) h = h

pub under_trans : (x y r : Digits) → Below x y → Under y r → Under x r
under_trans x y [] h k = tt
under_trans x y (b ∷ r) h k = below_trans x y (b ∷ r) h k
