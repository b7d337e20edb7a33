-- Laws of the one reading of a field: which fields hold a code, nothing, or neither; and what the tests by words say of it.
-- Assumes nothing.
use mathlib.Core.Path.{◌≡◌, refl, sym, ap, ◌∙◌, subst}
use mathlib.Core.Logic.{◌⊎◌, inl, inr}
use mathlib.Core.Bool.{Bool, true, false, not, cond, ◌&&◌, and-eq-true_iff, false≢true}
use mathlib.Core.List.{List, [], ◌∷◌}
use Prim.Native.Nat.{ℕ, zero, suc, ◌≤◌, ◌<◌}
use native.Mathlib.Omega.{arith}
use lib.Dec.{eqb, leb}
use lib.ListN.{length, get_or}
use borrow.Author.Tests.{eq-eqb, ne_eqb, eqb-true, eqb-false, le-leb, leb-true, not-true}
use Rattle.digits.specs.Order.{Digits}
use Rattle.digits.specs.Code.{Formed}
use Rattle.digits.proofs.CodeLaws.{formed_cons, formed_first}
use Rattle.codes.specs.Code.{longest, field_size, IsCode, is_code}
use Rattle.codes.specs.Field.{field_of, gather, spread, lead}
use Rattle.codes.specs.Reading.{Reading, code, empty, unsound, is_same, read, is_code_held, is_empty_held, side_of}
use Rattle.codes.specs.Words.{word_at, is_packed}
use Rattle.codes.proofs.FieldLaws.{Quaternary, Bytes, pad, gather_spread, gather_bytes, formed_quaternary, field_length, spread_field, lead_field}
use Rattle.codes.proofs.TestLaws.{is_code_true, true_is_code}
use Rattle.codes.proofs.WordLaws.{is_same_words}
use Rattle.codes.proofs.ClosedLaws.{is_zeros, is_closed, zeros_open, spread_four, spread_quaternary, is_packed_closed}

-- Two lists that are the same.

pub is_same_true : (x y : List ℕ) → is_same x y ≡ true → x ≡ y
is_same_true [] [] h = refl
is_same_true [] (b ∷ y) h = absurd (false≢true h)
is_same_true (a ∷ x) [] h = absurd (false≢true h)
is_same_true (a ∷ x) (b ∷ y) h =
    let p = (and-eq-true_iff (eqb a b) (is_same x y)).0 h in
    cc (eqb-true a b p.0, is_same_true x y p.1)

pub is_same_refl : (x : List ℕ) → is_same x x ≡ true
is_same_refl [] = refl
is_same_refl (a ∷ x) = rw (eq-eqb a a refl, is_same_refl x) refl

-- The three cases of a reading.

-- a packed code reads as itself
pub read_field : (x : Digits) → IsCode x → read (field_of x) ≡ code x
unfolding read
read_field x c = rw (lead_field x c, is_same_refl (field_of x), true_is_code x c) refl

pub read_nothing : read (field_of []) ≡ empty
unfolding read field_of
read_nothing = refl

-- what a reading says of the field
abbrev Told : List ℕ → Reading → Type 0
Told b (code x) = IsCode x × (b ≡ field_of x)
Told b empty = b ≡ field_of []
Told b unsound = Unit {0}

told : (b : List ℕ) → Told b (read b)
unfolding read
told b =
    go (lead (spread b)) (is_same b (field_of (lead (spread b)))) refl (is_code (lead (spread b))) refl (is_same (lead (spread b)) []) refl
  where
    go : (x : Digits) (s : Bool) → is_same b (field_of x) ≡ s → (t : Bool) → is_code x ≡ t → (u : Bool) → is_same x [] ≡ u
        → Told b (cond s (cond t (code x) (cond u empty unsound)) unsound)
    go x true e true f u g = (is_code_true x f, is_same_true b (field_of x) e)
    go x true e false f true g = is_same_true b (field_of x) e ∙ ap field_of (is_same_true x [] g)
    go x true e false f false g = tt
    go x false e t f u g = tt

-- a field that reads as a code is that code, packed, to the last byte
pub read_code : (b : List ℕ) (x : Digits) → read b ≡ code x → IsCode x × (b ≡ field_of x)
read_code b x e = subst (Told b) e (told b)

pub read_empty : (b : List ℕ) → read b ≡ empty → b ≡ field_of []
read_empty b e = subst (Told b) e (told b)

-- a code or nothing, as a side or a parent start is
abbrev pub Sided : Digits → Type 0
Sided x = (x ≡ []) ⊎ IsCode x

-- packed, the two are told apart by their bytes and by their first byte
lead_side : (x : Digits) → Sided x → lead (spread (field_of x)) ≡ x
unfolding field_of
lead_side x (inl e) = rw e refl
lead_side x (inr c) = lead_field x c

pub is_same_field : (x y : Digits) → Sided x → Sided y → is_same (field_of x) (field_of y) ≡ is_same x y
is_same_field x y s t = go (is_same (field_of x) (field_of y)) (is_same x y) refl refl
  where
    go : (a b : Bool) → is_same (field_of x) (field_of y) ≡ a → is_same x y ≡ b → a ≡ b
    go true true p q = refl
    go false false p q = refl
    go true false p q =
        let e = sym (lead_side x s) ∙ ap (λ (z : List ℕ). lead (spread z)) (is_same_true (field_of x) (field_of y) p) ∙ lead_side y t in
        absurd (false≢true (sym q ∙ ap (is_same x) (sym e) ∙ is_same_refl x))
    go false true p q =
        absurd (false≢true
        (sym p ∙ ap (λ (z : Digits). is_same (field_of x) (field_of z)) (sym (is_same_true x y q)) ∙ is_same_refl (field_of x)))

pub first_zero : (x : Digits) → Sided x → get_or (field_of x) 0 0 ≡ 0 → x ≡ []
unfolding field_of
first_zero x (inl e) h = e
first_zero [] (inr c) h = refl
first_zero (a ∷ x) (inr c) h = absurd (omega (arith, (formed_first 1 3 a x c.formed).0))

pub first_none : (x : Digits) → x ≡ [] → get_or (field_of x) 0 0 ≡ 0
unfolding field_of
first_none x e = rw e refl

-- a field of another size is unsound
pub read_size : (b : List ℕ) → (length b ≡ field_size → ⊥) → read b ≡ unsound
read_size b n = go (read b) (told b)
  where
    go : (r : Reading) → Told b r → r ≡ unsound
    go (code x) h = absurd (n (ap length h.1 ∙ field_length x))
    go empty h = absurd (n (ap length h ∙ field_length []))
    go unsound h = refl

-- Digits that a packed code has.

zeros_lead : (x : Digits) → is_zeros x ≡ true → lead x ≡ []
zeros_lead [] h = refl
zeros_lead (zero ∷ x) h = refl
zeros_lead (suc d ∷ x) h = absurd (omega (arith, eqb-true (suc d) 0 ((and-eq-true_iff (eqb (suc d) 0) (is_zeros x)).0 h).0))

zeros_pad : (x : Digits) → is_zeros x ≡ true → x ≡ pad (length x) []
zeros_pad [] h = refl
zeros_pad (d ∷ x) h =
    let p = (and-eq-true_iff (eqb d 0) (is_zeros x)).0 h in
    cc (eqb-true d 0 p.0, zeros_pad x p.1)

pad_zeros : (n : ℕ) → is_zeros (pad n []) ≡ true
pad_zeros zero = refl
pad_zeros (suc n) = pad_zeros n

-- the last digit, or one before it
abbrev Last : ℕ → Digits → Type 0
Last d x = ((is_zeros x ≡ true) × (2 ≤ d)) ⊎ ((is_closed x ≡ true) × (0 < d))

closed_last : (d : ℕ) (x : Digits) → is_closed (d ∷ x) ≡ true → Last d x
closed_last d x h = go (is_zeros x) refl h
  where
    go : (s : Bool) → is_zeros x ≡ s → cond s (leb 2 d) (is_closed x && not (eqb d 0)) ≡ true → Last d x
    go true e h = inl (e, leb-true 2 d h)
    go false e h =
        let p = (and-eq-true_iff (is_closed x) (not (eqb d 0))).0 h in
        inr (p.0, omega (arith, eqb-false d 0 (not-true (eqb d 0) p.1)))

closed_pad : (x : Digits) → is_closed x ≡ true → x ≡ pad (length x) (lead x)
closed_pad [] h = absurd (false≢true h)
closed_pad (d ∷ x) h = go d (λ k. closed_pad x k) (closed_last d x h)
  where
    go : (d : ℕ) → (is_closed x ≡ true → x ≡ pad (length x) (lead x)) → Last d x → d ∷ x ≡ pad (length (d ∷ x)) (lead (d ∷ x))
    go zero r (inl p) = absurd (omega arith)
    go zero r (inr p) = absurd (omega arith)
    go (suc d) r (inl p) = ap {B = Digits} (λ l. suc d ∷ l) (zeros_pad x p.0 ∙ ap (pad (length x)) (sym (zeros_lead x p.0)))
    go (suc d) r (inr p) = ap {B = Digits} (λ l. suc d ∷ l) (r p.0)

closed_formed : (x : Digits) → Quaternary x → is_closed x ≡ true → Formed 1 3 (lead x)
closed_formed [] q h = absurd (false≢true h)
closed_formed (d ∷ x) q h = go d q.0 (λ k. closed_formed x q.1 k) (closed_last d x h)
  where
    go : (d : ℕ) → d < 4 → (is_closed x ≡ true → Formed 1 3 (lead x)) → Last d x → Formed 1 3 (lead (d ∷ x))
    go zero k r (inl p) = absurd (omega arith)
    go zero k r (inr p) = absurd (omega arith)
    go (suc d) k r (inl p) = rw (zeros_lead x p.0) (omega arith)
    go (suc d) k r (inr p) = formed_cons 1 3 (suc d) (lead x) (omega arith) k (r p.0)

closed_some : (x : Digits) → is_closed x ≡ true → is_zeros x ≡ false
closed_some x h = go (is_zeros x) refl
  where
    go : (s : Bool) → is_zeros x ≡ s → s ≡ false
    go true e = absurd (false≢true (sym (zeros_open x e) ∙ h))
    go false e = refl

pad_closed : (n : ℕ) (x : Digits) → Formed 1 3 x → length x ≤ n → is_closed (pad n x) ≡ true
pad_closed n [] f h = absurd f
pad_closed zero (a ∷ x) f h = absurd (omega arith)
pad_closed (suc n) (a ∷ []) f h = rw (pad_zeros n) (le-leb 2 a (omega arith))
pad_closed (suc n) (a ∷ b ∷ x) f h =
    let e = pad_closed n (b ∷ x) f.2 (omega arith) in
    rw (closed_some (pad n (b ∷ x)) e, e, ne_eqb a 0 (λ z. omega arith)) refl

lead_short : (x : Digits) (i : ℕ) → get_or x i 0 ≡ 0 → length (lead x) ≤ i
lead_short [] i h = omega arith
lead_short (zero ∷ x) i h = omega arith
lead_short (suc d ∷ x) zero h = absurd (omega arith)
lead_short (suc d ∷ x) (suc i) h = omega (arith, lead_short x i h)

pad_past : (n : ℕ) (x : Digits) (i : ℕ) → length x ≤ i → get_or (pad n x) i 0 ≡ 0
pad_past zero x i h = refl
pad_past (suc n) [] zero h = refl
pad_past (suc n) [] (suc i) h = pad_past n [] i (omega arith)
pad_past (suc n) (a ∷ x) zero h = absurd (omega arith)
pad_past (suc n) (a ∷ x) (suc i) h = pad_past n x i (omega arith)

-- a code filled up to more than n digits, the n-th of them zero
abbrev is_whole : ℕ → Digits → Bool
is_whole n x = eqb (get_or x n 0) 0 && is_closed x

pad_whole : (n : ℕ) (x : Digits) → Formed 1 3 x → length x ≤ n → is_whole n (pad (suc n) x) ≡ true
pad_whole n x f h = rw (pad_past (suc n) x n h, pad_closed (suc n) x f (omega arith)) refl

-- What a field reads as by its four words.

abbrev is_packed_field : List ℕ → Bool
is_packed_field b = is_packed (word_at b 0) (word_at b 8) (word_at b 16) (word_at b 24)

abbrev is_blank_field : List ℕ → Bool
is_blank_field b = eqb (word_at b 0) 0 && (eqb (word_at b 8) 0 && (eqb (word_at b 16) 0 && eqb (word_at b 24) 0))

module _ (b : List ℕ) (size : length b ≡ field_size) (bytes : Bytes b) where
  whole_read : is_whole longest (spread b) ≡ true → read b ≡ code (lead (spread b))
  unfolding field_of
  whole_read h =
      let p = (and-eq-true_iff (eqb (get_or (spread b) longest 0) 0) (is_closed (spread b))).0 h in
      let x = lead (spread b) in
      let c : IsCode x = record {
        formed = closed_formed (spread b) (spread_quaternary b bytes) p.1;
        fits = lead_short (spread b) longest (eqb-true (get_or (spread b) longest 0) 0 p.0);
      } in
      let e : spread b ≡ pad 128 x = rw (spread_four b, size) at (closed_pad (spread b) p.1) in
      let g : gather field_size (spread b) ≡ b = rw size at (gather_spread b bytes) in
      let k = gather_spread (field_of x) (gather_bytes field_size x (formed_quaternary x c.formed)) in
      let f = sym g ∙ ap (gather field_size) (e ∙ sym (spread_field x c)) ∙ k in
      ap read f ∙ read_field x c

  -- the words are a packed code exactly where the field reads as a code, and all zero exactly where it reads as empty
  packed_read : is_packed_field b ≡ true → read b ≡ code (lead (spread b))
  packed_read h = whole_read (sym (is_packed_closed b size bytes) ∙ h)

  read_packed : (x : Digits) → read b ≡ code x → is_packed_field b ≡ true
  read_packed x e =
      let t = read_code b x e in
      is_packed_closed b size bytes ∙ ap (is_whole longest) (ap spread t.1 ∙ spread_field x t.0)
      ∙ pad_whole longest x t.0.formed t.0.fits

  blank_same : is_same b (field_of []) ≡ is_blank_field b
  unfolding field_of
  blank_same = is_same_words b (field_of []) size refl bytes (gather_bytes field_size [] tt)

  blank_read : is_blank_field b ≡ true → read b ≡ empty
  blank_read h = ap read (is_same_true b (field_of []) (blank_same ∙ h)) ∙ read_nothing

  read_blank : read b ≡ empty → is_blank_field b ≡ true
  read_blank e = sym blank_same ∙ rw (read_empty b e) (is_same_refl (field_of []))

  pub words_code : is_packed_field b ≡ is_code_held (read b)
  words_code = go (is_packed_field b) refl
    where
      none : (r : Reading) → read b ≡ r → is_packed_field b ≡ false → false ≡ is_code_held r
      none (code x) e h = sym h ∙ read_packed x e
      none empty e h = refl
      none unsound e h = refl

      go : (t : Bool) → is_packed_field b ≡ t → t ≡ is_code_held (read b)
      go true h = sym (ap is_code_held (packed_read h))
      go false h = none (read b) refl h

  pub words_empty : is_blank_field b ≡ is_empty_held (read b)
  words_empty = go (is_blank_field b) refl
    where
      none : (r : Reading) → read b ≡ r → is_blank_field b ≡ false → false ≡ is_empty_held r
      none (code x) e h = refl
      none empty e h = sym h ∙ read_blank e
      none unsound e h = refl

      go : (t : Bool) → is_blank_field b ≡ t → t ≡ is_empty_held (read b)
      go true h = sym (ap is_empty_held (blank_read h))
      go false h = none (read b) refl h

-- a field that holds a code reads as it
pub held_code : (r : Reading) → is_code_held r ≡ true → r ≡ code (side_of r)
held_code (code x) h = refl
held_code empty h = absurd (false≢true h)
held_code unsound h = absurd (false≢true h)

-- a field that holds a code or is empty has 32 bytes
pub code_size : (b : List ℕ) → is_code_held (read b) ≡ true → length b ≡ 32
code_size b h = ap length (read_code b _ (held_code (read b) h)).1 ∙ field_length (side_of (read b))

pub empty_size : (b : List ℕ) → is_empty_held (read b) ≡ true → length b ≡ 32
empty_size b h = go (read b) refl h
  where
    go : (r : Reading) → read b ≡ r → is_empty_held r ≡ true → length b ≡ 32
    go (code x) e k = absurd (false≢true k)
    go empty e k = ap length (read_empty b e) ∙ field_length []
    go unsound e k = absurd (false≢true k)

pub no_code_size : (b : List ℕ) → (length b ≡ 32 → ⊥) → is_code_held (read b) ≡ false
no_code_size b n = ap is_code_held (read_size b n)

pub not_empty_size : (b : List ℕ) → (length b ≡ 32 → ⊥) → is_empty_held (read b) ≡ false
not_empty_size b n = ap is_empty_held (read_size b n)

pub ruleset sizes = (code_size, empty_size)
