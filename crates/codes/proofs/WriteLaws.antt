-- Laws of writing a field digit by digit.
-- Assumes nothing.
use mathlib.Core.Path.{◌≡◌, sym, ap, ◌∙◌}
use mathlib.Core.List.{List, [], ◌∷◌, ◌++◌}
use Prim.Native.Nat.{ℕ, ◌+◌, ◌/◌, ◌<◌}
use native.Mathlib.Numerals.{add-one}
use native.Mathlib.Omega.{arith}
use lib.ListN.{length, take, get_or, set}
use lib.Seq.{take-suc, length-take-le}
use Rattle.digits.specs.Order.{Digits}
use Rattle.codes.specs.declared.packer.Packer.{Packer}
use Rattle.codes.specs.Field.{field_of, Slots}
use Rattle.codes.specs.Packer.{pushed, Pushable}
use Rattle.codes.proofs.FieldLaws.{quaternary_take, digit_lt}
use Rattle.codes.proofs.PackerLaws.{pushes, pushes_snoc, pushes_count, pushes_open, gather_push}

module _ (x : Digits) (i : ℕ) (s : Slots x) (h : i < length x) where
  -- what is pushed next can be
  pub next_pushable : (p : Packer) → p ≡ pushes (take i x) → Pushable p (get_or x i 0)
  next_pushable p e =
      let n = length-take-le i x (omega arith) in
      let c = pushes_count (take i x) in
      rw e
      (record {
        small = digit_lt x i s.small;
        room = omega (arith, s.fits);
        opened = pushes_open (take i x) (quaternary_take x i s.small);
      })

  pub next_pushes : (p q : Packer) → p ≡ pushes (take i x) → q ≡ pushed p (get_or x i 0) → q ≡ pushes (take (i + 1) x)
  next_pushes p q e f =
      rw (add-one, take-suc x i 0 h, pushes_snoc (take i x) (get_or x i 0), ← e) f

  -- the pending byte written at its place makes the field of one digit more
  pub next_field : (c : List ℕ) (p q : Packer) → c ≡ field_of (take i x) → p ≡ pushes (take i x)
      → q ≡ pushed p (get_or x i 0) → set c (i / 4) q.pending ≡ field_of (take (i + 1) x)
  unfolding field_of
  next_field c p q e f g =
      let n = length-take-le i x (omega arith) in
      let t : take (i + 1) x ≡ take i x ++ (get_or x i 0 ∷ []) = rw add-one (take-suc x i 0 h) in
      let w = gather_push 32 (take i x) (get_or x i 0) (omega (arith, s.fits)) in
      rw (e, g, f) (rw n at w ∙ ap field_of (sym t))
