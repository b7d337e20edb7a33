-- Laws of sound labels in a register: what their fields hold, and how two fields compare. Assumes nothing.
use mathlib.Core.Path.{◌≡◌, refl, sym, ap, ◌∙◌, subst}
use mathlib.Core.Logic.{◌⊎◌, inl, inr}
use mathlib.Core.Bool.{Bool, true, false, ◌&&◌, and-eq-true_iff}
use mathlib.Core.List.{List, [], ◌∷◌}
use Prim.Native.Nat.{ℕ, zero, suc, ◌+◌, ◌-◌, ◌≤◌, ◌<◌, compare, Ordering}
use native.Mathlib.Omega.{arith}
use lib.ListN.{length, take, drop}
use lib.Seq.{take-take, drop-drop}
use Rattle.digits.specs.Order.{Digits, Below, is_below}
use Rattle.digits.proofs.OrderLaws.{Compared, lt, eq, gt, compared}
use Rattle.numbers.proofs.PutLaws.{take_drop}
use Rattle.codes.specs.Code.{field_size, IsCode}
use Rattle.codes.specs.Field.{field_of}
use Rattle.codes.specs.Reading.{read, side_of, is_code_held, is_empty_held, is_same}
use Rattle.codes.proofs.ReadingLaws.{read_field, read_nothing, is_same_field}
use Rattle.labels.specs.Label.{label_size, start_at, end_at, parent_at, field_at, label_of}
use Rattle.codes.proofs.CallLaws.{held_below}
use Rattle.labels.proofs.LabelLaws.{sound_gives}
use Rattle.registers.specs.Layout.{entry_place, label_at, start_place, end_place, parent_place, HasPlace}
use Rattle.registers.specs.Entries.{code_at}
use Rattle.registers.specs.Sound.{label_bytes, is_sound_label, is_sound_labels, CodeAt, SideAt, HasEntries, HasLabels}

-- a part of a part of a list
pub part_of : (b x : List ℕ) (p n k m : ℕ) → take n (drop p b) ≡ x → k + m ≤ n → take m (drop (p + k) b) ≡ take m (drop k x)
part_of b x p n k m e h =
    let w : k + (n - k) ≡ n = omega arith in
    let f : drop k (take n (drop p b)) ≡ take (n - k) (drop k (drop p b)) =
    ap (λ (z : ℕ). drop k (take z (drop p b))) (sym w) ∙ sym (take_drop k (n - k) (drop p b)) in
    let g : take m (drop k (take n (drop p b))) ≡ take m (drop (p + k) b) =
    ap (take m) f ∙ take-take m (n - k) (drop k (drop p b)) (omega arith) ∙ ap (take m) (drop-drop k p b) in
    sym g ∙ ap (λ (z : List ℕ). take m (drop k z)) e

-- a field of a label is a field of the register
pub label_field : (b : List ℕ) (i at : ℕ) → at + field_size ≤ label_size
    → field_at at (label_bytes b i) ≡ field_at (entry_place i + label_at + at) b
label_field b i at h = sym (part_of b (label_bytes b i) (entry_place i + label_at) label_size at field_size refl h)

-- a field that is that of a code holds it
code_held : (b : List ℕ) (at : ℕ) (x : Digits) → IsCode x → field_at at b ≡ field_of x → is_code_held (read (field_at at b)) ≡ true
code_held b at x c e = ap is_code_held (ap read e ∙ read_field x c)

-- what a sound label in the register says of its fields
pub record SoundAt (b : List ℕ) (i : ℕ) : Type 0 where
  pub start_code : IsCode (code_at b (start_place i))
  pub start_at_lem : CodeAt b (start_place i)
  pub start_side : SideAt b (start_place i)
  pub end_code : IsCode (code_at b (end_place i))
  pub end_at_lem : CodeAt b (end_place i)
  pub end_side : SideAt b (end_place i)
  pub parent_side : SideAt b (parent_place i)
  pub inner : Below (code_at b (start_place i)) (code_at b (end_place i))

pub sound_at : (b : List ℕ) (i : ℕ) → HasPlace b i → is_sound_label b i ≡ true → SoundAt b i
unfolding label_of
sound_at b i h t =
    let s = sound_gives (label_bytes b i) t in
    let es = label_field b i start_at (omega arith) in
    let ee = label_field b i end_at (omega arith) in
    let ep = label_field b i parent_at (omega arith) in
    let code : List ℕ → Digits = λ f. side_of (read f) in
    let cs : IsCode (code_at b (start_place i)) = subst (λ f. IsCode (code f)) es s.start_code in
    let ce : IsCode (code_at b (end_place i)) = subst (λ f. IsCode (code f)) ee s.end_code in
    let fs : field_at (start_place i) b ≡ field_of (code_at b (start_place i)) = subst (λ f. f ≡ field_of (code f)) es s.start_field in
    let fe : field_at (end_place i) b ≡ field_of (code_at b (end_place i)) = subst (λ f. f ≡ field_of (code f)) ee s.end_field in
    let fp : field_at (parent_place i) b ≡ field_of (code_at b (parent_place i)) = subst (λ f. f ≡ field_of (code f)) ep s.parent_field in
    let is : start_place i + field_size ≤ length b = omega arith in
    let ie : end_place i + field_size ≤ length b = omega arith in
    record {
      start_code = cs;
      start_at_lem = (is, code_held b (start_place i) _ cs fs);
      start_side = record { inside = is; field = fs; side = inr cs };
      end_code = ce;
      end_at_lem = (ie, code_held b (end_place i) _ ce fe);
      end_side = record { inside = ie; field = fe; side = inr ce };
      parent_side = record { inside = omega arith; field = fp; side = subst (λ f. (code f ≡ []) ⊎ IsCode (code f)) ep s.parent_side };
      inner = subst (λ f. Below (code f) (code_at b (end_place i))) es (subst
          (λ f. Below (code (field_at start_at (label_bytes b i))) (code f)) ee s.spans);
    }

-- a side that is a code is held as one
pub side_held : (b : List ℕ) (at : ℕ) → SideAt b at → IsCode (code_at b at) → CodeAt b at
side_held b at s c = (s.inside, code_held b at (code_at b at) c s.field)

-- two fields compare as their codes
pub codes_below : (b f g : List ℕ) (x y : ℕ) → CodeAt b x → CodeAt b y → f ≡ field_at x b → g ≡ field_at y b
    → is_below f g ≡ is_below (code_at b x) (code_at b y)
codes_below b f g x y h k d e = rw (d, e) (held_below (field_at x b) (field_at y b) h.1 k.1)

pub sides_same : (b f g : List ℕ) (x y : ℕ) → SideAt b x → SideAt b y → f ≡ field_at x b → g ≡ field_at y b
    → is_same f g ≡ is_same (code_at b x) (code_at b y)
sides_same b f g x y h k d e =
    ap (λ (z : List ℕ). is_same z g) (d ∙ h.field) ∙ ap (is_same (field_of (code_at b x))) (e ∙ k.field)
    ∙ is_same_field (code_at b x) (code_at b y) h.side k.side

-- a comparison of two fields by other names of their places
pub below_at : (b : List ℕ) (t : Bool) (x y x₁ y₁ : ℕ) → t ≡ is_below (code_at b x) (code_at b y) → x ≡ x₁ → y ≡ y₁
    → t ≡ is_below (code_at b x₁) (code_at b y₁)
below_at b t x y x₁ y₁ e f g = rw (← f, ← g) e

pub both_are : (a b r : Bool) → a ≡ true → r ≡ b → r ≡ (a && b)
both_are a b r d e = rw d e

pub first_fails : (a b : Bool) → a ≡ false → false ≡ (a && b)
first_fails a b d = rw d refl

-- a line among n has its place
pub has_place : (b : List ℕ) (n i : ℕ) → HasEntries b n → i < n → HasPlace b i
has_place b n i h k = (omega arith, omega arith)

-- all labels are sound exactly where each is
pub label_sound : (b : List ℕ) (n i : ℕ) → is_sound_labels b n ≡ true → i < n → is_sound_label b i ≡ true
label_sound b zero i e h = absurd (omega arith)
label_sound b (suc n) i e h =
    let both = (and-eq-true_iff (is_sound_labels b n) (is_sound_label b n)).0 e in
    go (λ k. label_sound b n i both.0 k) both.1 (compare i n) (compared i n)
  where
    go : (i < n → is_sound_label b i ≡ true) → is_sound_label b n ≡ true → (o : Ordering) → Compared i n o → is_sound_label b i ≡ true
    go before last Ordering.lt (lt k) = before k
    go before last Ordering.eq (eq k) = subst (λ j. is_sound_label b j ≡ true) (sym k) last
    go before last Ordering.gt (gt k) = absurd (omega arith)

pub labels_all : (b : List ℕ) (n : ℕ) → ((i : ℕ) → i < n → is_sound_label b i ≡ true) → is_sound_labels b n ≡ true
labels_all b zero h = refl
labels_all b (suc n) h = rw (labels_all b n (λ i k. h i (omega arith)), h n (omega arith)) refl

pub label_codes : (b : List ℕ) (n i : ℕ) → HasLabels b n → i < n → SoundAt b i
label_codes b n i h k = sound_at b i (has_place b n i h.0 k) (label_sound b n i h.1 k)

-- an empty field has no code
code_some : (x : Digits) → IsCode x → is_same x [] ≡ false
code_some [] c = absurd c.formed
code_some (d ∷ x) c = refl

pub side_empty : (b f : List ℕ) (at : ℕ) → SideAt b at → f ≡ field_at at b → is_empty_held (read f) ≡ is_same (code_at b at) []
side_empty b f at s e = ap (λ (z : List ℕ). is_empty_held (read z)) e ∙ go s.side
  where
    go : (code_at b at ≡ []) ⊎ IsCode (code_at b at) → is_empty_held (read (field_at at b)) ≡ is_same (code_at b at) []
    go (inl h) = ap is_empty_held (ap read (s.field ∙ ap field_of h) ∙ read_nothing) ∙ sym (ap (λ (x : Digits). is_same x []) h)
    go (inr c) = ap is_empty_held (ap read s.field ∙ read_field (code_at b at) c) ∙ sym (code_some (code_at b at) c)
