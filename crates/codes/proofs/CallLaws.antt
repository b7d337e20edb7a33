-- Laws of the three calls: what each outcome is in each case, and what is known of two sides that are in order.
-- Assumes nothing.
use mathlib.Core.Path.{◌≡◌, refl, sym, ap, ◌∙◌}
use mathlib.Core.Logic.{◌⊎◌, inl, inr}
use mathlib.Core.Bool.{Bool, true, false, cond, false≢true}
use mathlib.Core.List.{List, [], ◌∷◌}
use Prim.Native.Nat.{ℕ, ◌≤◌, ◌<◌}
use native.Mathlib.Omega.{arith}
use lib.Dec.{T, leb}
use lib.ListN.{length}
use borrow.Author.Tests.{le-leb, lt-leb}
use Rattle.digits.specs.Order.{Digits, is_below}
use Rattle.digits.specs.Code.{Side, Under}
use Rattle.digits.specs.Between.{Gap, between}
use Rattle.digits.proofs.OrderLaws.{is_below_gives}
use Rattle.digits.proofs.CodeLaws.{formed_side, below_under}
use Rattle.digits.proofs.BetweenLaws.{between_inside}
use Rattle.std.specs.Prelude.{⊤, Result, Ok, Err, is_ok}
use Rattle.answers.specs.declared.Refusal.{Refusal}
use Rattle.answers.specs.declared.Refusal.TheVariants.{Room, CodeLength, NoCode, Order}
use Rattle.answers.specs.Outcome.{accepted, refused, Unaltered}
use Rattle.answers.proofs.OutcomeLaws.{keeps_unless, keeps_accepted}
use Rattle.numbers.specs.Bytes.{put}
use Rattle.codes.specs.Code.{field_size, longest, is_code}
use Rattle.codes.specs.Field.{field_of, spread, lead, Slots}
use Rattle.codes.specs.Reading.{Reading, code, empty, unsound, read, is_code_held, is_empty_held, side_of}
use Rattle.codes.specs.declared.spread.Code.{Code}
use Rattle.codes.specs.Spread.{digits_of, Held}
use Rattle.codes.specs.Calls.{written, pack_outcome, unpack_as, unpack_outcome, sides_of, between_as, between_outcome}
use Rattle.codes.proofs.FieldLaws.{field_length, lead_field, formed_quaternary, is_below_field}
use Rattle.codes.proofs.ReadingLaws.{read_code, read_empty, held_code}
use Rattle.codes.proofs.SpreadLaws.{held_is}

module _ (x : Digits) (lent : List ℕ) where
  pub pack_no_code : is_code x ≡ false → pack_outcome x lent ≡ refused NoCode lent
  unfolding pack_outcome
  pack_no_code e = rw e

  pub pack_short : is_code x ≡ true → length lent < field_size → pack_outcome x lent ≡ refused Room lent
  unfolding pack_outcome
  pack_short e h = rw (e, lt-leb field_size (length lent) h)

  pub pack_written : is_code x ≡ true → field_size ≤ length lent → pack_outcome x lent ≡ written x lent
  unfolding pack_outcome
  pack_written e h = rw (e, le-leb field_size (length lent) h)

-- what is known of a field that is a side: its size, and that its digits up to the separator are the side's
pub record Known (field : List ℕ) (x : Digits) : Type 0 where
  pub size : length field ≡ field_size
  pub digits : lead (spread field) ≡ x
  pub side : Side 1 3 x
  pub fits : length x ≤ longest

pub known_code : (field : List ℕ) (x : Digits) → read field ≡ code x → Known field x
known_code field x e =
    let k = read_code field x e in
    record {
      size = ap length k.1 ∙ field_length x;
      digits = ap (λ (b : List ℕ). lead (spread b)) k.1 ∙ lead_field x k.0;
      side = formed_side 1 3 x k.0.formed;
      fits = k.0.fits;
    }

known_empty : (field : List ℕ) → read field ≡ empty → Known field []
unfolding field_of
known_empty field e =
    let k = read_empty field e in
    record {
      size = ap length k ∙ field_length [];
      digits = ap (λ (b : List ℕ). lead (spread b)) k;
      side = tt;
      fits = omega arith;
    }

-- the step on two spread sides is the step on the sides
pub held_between : (left right : List ℕ) (x y : Digits) (a b made : Code) → Known left x → Known right y → Held a (lead (spread left))
    → Held b (lead (spread right)) → Held made (between (digits_of a) (digits_of b)) → Held made (between x y)
held_between left right x y a b made k m h i j =
    held_is made _ _ (rw (h.digits, i.digits, k.digits, m.digits) refl) j

pub known_count : (field : List ℕ) (x : Digits) (c : Code) → Known field x → Held c (lead (spread field)) → c.count ≤ longest
known_count field x c k h = omega (arith, h.count, ap length k.digits, k.fits)

-- a field that holds a code
pub held_known : (field : List ℕ) → is_code_held (read field) ≡ true → Known field (side_of (read field))
held_known field h = known_code field _ (held_code (read field) h)

pub full_size : (field : List ℕ) → is_code_held (read field) ≡ true → length field ≡ field_size
full_size field h = (held_known field h).size

module _ (field lent : List ℕ) where
  pub unpack_none : is_code_held (read field) ≡ false → unpack_outcome field lent ≡ refused NoCode lent
  unfolding unpack_outcome
  unpack_none h = go (read field) refl
    where
      go : (r : Reading) → read field ≡ r → unpack_outcome field lent ≡ refused NoCode lent
      go (code x) e = absurd (false≢true (sym h ∙ ap is_code_held e))
      go empty e = rw e
      go unsound e = rw e

  pub unpack_short : (x : Digits) → read field ≡ code x → length lent < length x → unpack_outcome field lent ≡ refused Room lent
  unfolding unpack_outcome
  unpack_short x e h = rw (e, lt-leb (length x) (length lent) h)

  pub unpack_written : (x : Digits) → read field ≡ code x → length x ≤ length lent
      → unpack_outcome field lent ≡ accepted (length x) (put lent 0 x)
  unfolding unpack_outcome
  unpack_written x e h = rw (e, le-leb (length x) (length lent) h)

-- the order of two full fields is that of their codes
pub full_below : (left right : List ℕ) (x y : Digits) → read left ≡ code x → read right ≡ code y → is_below left right ≡ is_below x y
full_below left right x y p q =
    let a = read_code left x p in
    let b = read_code right y q in
    rw (a.1, b.1) (is_below_field x y a.0 b.0)

-- two fields that hold codes compare as their digits
pub held_below : (left right : List ℕ) → is_code_held (read left) ≡ true → is_code_held (read right) ≡ true
    → is_below left right ≡ is_below (side_of (read left)) (side_of (read right))
held_below left right h k = full_below left right _ _ (held_code (read left) h) (held_code (read right) k)

-- how two sides stand to each other, by the tests of each and by their bytes where both hold codes
module _ (left right : List ℕ) where
  no_left : (r s : Reading) → is_code_held r ≡ false → is_empty_held r ≡ false → sides_of r s ≡ Err NoCode
  no_left (code x) s h k = absurd (false≢true (sym h))
  no_left empty s h k = absurd (false≢true (sym k))
  no_left unsound s h k = refl

  no_right : (r s : Reading) → (is_code_held r ≡ true) ⊎ (is_empty_held r ≡ true) → is_code_held s ≡ false → is_empty_held s ≡ false
      → sides_of r s ≡ Err NoCode
  no_right r (code y) o h k = absurd (false≢true (sym h))
  no_right r empty o h k = absurd (false≢true (sym k))
  no_right (code x) unsound o h k = refl
  no_right empty unsound o h k = refl
  no_right unsound unsound (inl o) h k = absurd (false≢true o)
  no_right unsound unsound (inr o) h k = absurd (false≢true o)

  pub left_refused : is_code_held (read left) ≡ false → is_empty_held (read left) ≡ false → sides_of (read left) (read right) ≡ Err NoCode
  left_refused h k = no_left (read left) (read right) h k

  pub right_refused : (is_code_held (read left) ≡ true) ⊎ (is_empty_held (read left) ≡ true) → is_code_held (read right) ≡ false
      → is_empty_held (read right) ≡ false → sides_of (read left) (read right) ≡ Err NoCode
  right_refused o h k = no_right (read left) (read right) o h k

  pub codes_sides : (b : Bool) → is_code_held (read left) ≡ true → is_code_held (read right) ≡ true → is_below left right ≡ b
      → sides_of (read left) (read right) ≡ cond b (Ok tt) (Err Order)
  codes_sides b h k e =
      rw (held_code (read left) h, held_code (read right) k)
      (ap (λ (t : Bool). cond t (Ok tt) (Err Order)) (sym (held_below left right h k) ∙ e))

  open_left : (r s : Reading) → is_empty_held r ≡ true → (is_code_held s ≡ true) ⊎ (is_empty_held s ≡ true) → sides_of r s ≡ Ok tt
  open_left (code x) s h o = absurd (false≢true h)
  open_left unsound s h o = absurd (false≢true h)
  open_left empty (code y) h o = refl
  open_left empty empty h o = refl
  open_left empty unsound h (inl k) = absurd (false≢true k)
  open_left empty unsound h (inr k) = absurd (false≢true k)

  open_right : (r s : Reading) → is_empty_held s ≡ true → (is_code_held r ≡ true) ⊎ (is_empty_held r ≡ true) → sides_of r s ≡ Ok tt
  open_right r (code y) h o = absurd (false≢true h)
  open_right r unsound h o = absurd (false≢true h)
  open_right (code x) empty h o = refl
  open_right empty empty h o = refl
  open_right unsound empty h (inl k) = absurd (false≢true k)
  open_right unsound empty h (inr k) = absurd (false≢true k)

  pub left_open : is_empty_held (read left) ≡ true → (is_code_held (read right) ≡ true) ⊎ (is_empty_held (read right) ≡ true)
      → sides_of (read left) (read right) ≡ Ok tt
  left_open h o = open_left (read left) (read right) h o

  pub right_open : is_empty_held (read right) ≡ true → (is_code_held (read left) ≡ true) ⊎ (is_empty_held (read left) ≡ true)
      → sides_of (read left) (read right) ≡ Ok tt
  right_open h o = open_right (read left) (read right) h o

-- what is known of two sides that are in order
pub record InOrder (left right : List ℕ) (x y : Digits) : Type 0 where
  pub left_known : Known left x
  pub right_known : Known right y
  pub gap : Gap x y

ordered_as : (left right : List ℕ) (x y : Digits) → Known left x → Known right y → Under x y → InOrder left right x y
ordered_as left right x y k m u =
    record { left_known = k; right_known = m; gap = record { left = k.side; right = m.side; order = u } }

open_below : (y : Digits) → Under [] y
open_below [] = tt
open_below (d ∷ y) = tt

-- a refusal accepts nothing
not_ordered : {r : Refusal} → ◌≡◌ {A = Result ⊤ Refusal} (Err r) (Ok tt) → ⊥
not_ordered e = false≢true (ap is_ok e)

ordered_below : (x y : Digits) → ◌≡◌ {A = Result ⊤ Refusal} (cond (is_below x y) (Ok tt) (Err Order)) (Ok tt) → Under x y
ordered_below x y h = below_under x y (is_below_gives x y (go (is_below x y) h))
  where
    go : (b : Bool) → ◌≡◌ {A = Result ⊤ Refusal} (cond b (Ok tt) (Err Order)) (Ok tt) → T b
    go true h = tt
    go false h = absurd (not_ordered h)

pub in_order : (left right : List ℕ) → sides_of (read left) (read right) ≡ Ok tt
    → InOrder left right (side_of (read left)) (side_of (read right))
in_order left right h = go (read left) (read right) refl refl h
  where
    go : (p q : Reading) → read left ≡ p → read right ≡ q → sides_of p q ≡ Ok tt → InOrder left right (side_of p) (side_of q)
    go (code x) (code y) e f h = ordered_as left right x y (known_code left x e) (known_code right y f) (ordered_below x y h)
    go (code x) empty e f h = ordered_as left right x [] (known_code left x e) (known_empty right f) tt
    go (code x) unsound e f h = absurd (not_ordered h)
    go empty (code y) e f h = ordered_as left right [] y (known_empty left e) (known_code right y f) (open_below y)
    go empty empty e f h = ordered_as left right [] [] (known_empty left e) (known_empty right f) tt
    go empty unsound e f h = absurd (not_ordered h)
    go unsound q e f h = absurd (not_ordered h)

module _ (left right lent : List ℕ) where
  abbrev between_code : Digits
  between_code = between (side_of (read left)) (side_of (read right))

  pub between_refused : (r : Refusal) → Err r ≡ sides_of (read left) (read right) → between_outcome left right lent ≡ refused r lent
  unfolding between_outcome
  between_refused r e = rw (← e)

  module _ (e : sides_of (read left) (read right) ≡ Ok tt) where
    pub between_short : length lent < field_size → between_outcome left right lent ≡ refused Room lent
    unfolding between_outcome
    between_short h = rw (e, lt-leb field_size (length lent) h)

    pub between_long : field_size ≤ length lent → longest < length between_code → between_outcome left right lent ≡ refused CodeLength lent
    unfolding between_outcome
    between_long h k = rw (e, le-leb field_size (length lent) h, lt-leb (length between_code) longest k)

    pub between_written : field_size ≤ length lent → length between_code ≤ longest
        → between_outcome left right lent ≡ written between_code lent
    unfolding between_outcome
    between_written h k = rw (e, le-leb field_size (length lent) h, le-leb (length between_code) longest k)

    -- the code between fits a field
    pub between_slots : length between_code ≤ longest → Slots between_code
    between_slots k =
        let i = between_inside _ _ (in_order left right e).gap in
        record { small = formed_quaternary between_code i.shape; fits = omega arith }

-- a refused call keeps the lent bytes
pub pack_keeps : (digits lent : List ℕ) → Unaltered lent (pack_outcome digits lent)
unfolding pack_outcome
pack_keeps digits lent =
    keeps_unless (is_code digits) NoCode lent _ (keeps_unless (leb field_size (length lent)) Room lent _ (keeps_accepted lent _ _))

pub unpack_keeps : (field lent : List ℕ) → Unaltered lent (unpack_outcome field lent)
unfolding unpack_outcome
unpack_keeps field lent = go (read field)
  where
    go : (r : Reading) → Unaltered lent (unpack_as r lent)
    go (code x) = keeps_unless (leb (length x) (length lent)) Room lent _ (keeps_accepted lent _ _)
    go empty = λ r e. refl
    go unsound = λ r e. refl

pub between_keeps : (left right lent : List ℕ) → Unaltered lent (between_outcome left right lent)
unfolding between_outcome
between_keeps left right lent = go (sides_of (read left) (read right)) (between (side_of (read left)) (side_of (read right)))
  where
    go : (s : Result ⊤ Refusal) (x : Digits) → Unaltered lent (between_as s x lent)
    go (Err refusal) x = λ r e. refl
    go (Ok ordered) x =
        keeps_unless (leb field_size (length lent)) Room lent _
        (keeps_unless (leb (length x) longest) CodeLength lent _ (keeps_accepted lent _ _))
