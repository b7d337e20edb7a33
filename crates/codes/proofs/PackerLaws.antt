-- Laws of a push at the count modulo 4, and of the pushes of a list of digits. Assumes nothing.
use mathlib.Core.Path.{◌≡◌, refl, sym, ap, ◌∙◌}
use mathlib.Core.List.{[], ◌∷◌, ◌++◌}
use Prim.Native.Nat.{ℕ, zero, suc, ◌+◌, ◌-◌, ◌*◌, ◌^◌, ◌/◌, ◌%◌, ◌<◌}
use native.Mathlib.Omega.{arith}
use lib.ListN.{length, set}
use Rattle.digits.specs.Lists.{All}
use Rattle.digits.specs.Order.{Digits}
use Rattle.codes.specs.declared.packer.Packer.{Packer}
use Rattle.codes.specs.Field.{gather, byte_of}
use Rattle.codes.specs.Packer.{nothing, begun, pushed, Open}

-- what `Open` says at a number, and when it holds
open_at : (p : Packer) (k : ℕ) → p.count % 4 ≡ k → (k ≡ 0 → ⊥) → Open p → p.pending % 4 ^ (4 - k) ≡ 0
unfolding Open
open_at p k e not o = rw e at (o (λ z. not (sym e ∙ z)))

pub open_of : (p : Packer) (k : ℕ) → p.count % 4 ≡ k → p.pending % 4 ^ (4 - k) ≡ 0 → Open p
unfolding Open
open_of p k e h = λ _. rw e h

pub open_new : (p : Packer) → p.count % 4 ≡ 0 → Open p
unfolding Open
open_new p e = λ not. absurd (not e)

-- the packer that the code makes is the one that is asked
pub made : (p : Packer) (d k n : ℕ) → p.count % 4 ≡ k → n ≡ begun k p.pending + d * 4 ^ (3 - k)
    → ◌≡◌ {A = Packer} (record { pending = n; count = p.count + 1 }) (pushed p d)
made p d k n e h = rw (e, h)

-- what a push makes is open, in each of the four cases
module _ (p : Packer) (d n : ℕ) (small : d < 4) (o : Open p) where
  abbrev next : Packer
  next = record { pending = n; count = p.count + 1 }

  open_next : (k : ℕ) → k < 4 → p.count % 4 ≡ k → n ≡ begun k p.pending + d * 4 ^ (3 - k) → Open next
  open_next zero l e h = open_of next 1 (omega arith) (omega arith)
  open_next (suc zero) l e h = let a = open_at p 1 e (λ z. omega arith) o in open_of next 2 (omega arith) (omega arith)
  open_next (suc (suc zero)) l e h = let a = open_at p 2 e (λ z. omega arith) o in open_of next 3 (omega arith) (omega arith)
  open_next (suc (suc (suc k))) l e h = open_new next (omega arith)

  -- the packer that the code makes in the case k
  pub after : (k : ℕ) → k < 4 → p.count % 4 ≡ k → n ≡ begun k p.pending + d * 4 ^ (3 - k) → (next ≡ pushed p d) × Open next
  after k l e h = (made p d k n e h, open_next k l e h)

-- the byte that is gone on with, in either case of the test
pub begun_new : (k v n : ℕ) → k ≡ 0 → n ≡ 0 → n ≡ begun k v
begun_new k v n e h = rw e h

pub begun_on : (k v n : ℕ) → (k ≡ 0 → ⊥) → n ≡ v → n ≡ begun k v
begun_on zero v n e h = absurd (e refl)
begun_on (suc k) v n e h = h

-- a digit shifted to its place, and the sum that is stored
pub shifted : (d k : ℕ) → d < 4 → k < 4 → d * 2 ^ (6 - k * 2) % 256 ≡ d * 4 ^ (3 - k)
shifted d zero h l = omega arith
shifted d (suc zero) h l = omega arith
shifted d (suc (suc zero)) h l = omega arith
shifted d (suc (suc (suc zero))) h l = omega arith
shifted d (suc (suc (suc (suc k)))) h l = absurd (omega arith)

pub fits_byte : (p : Packer) (d k : ℕ) → d < 4 → k < 4 → p.pending < 256 → p.count % 4 ≡ k → Open p
    → begun k p.pending + d * 4 ^ (3 - k) < 256
fits_byte p d zero h l b e o = omega arith
fits_byte p d (suc zero) h l b e o = omega (arith, open_at p 1 e (λ z. omega arith) o)
fits_byte p d (suc (suc zero)) h l b e o = omega (arith, open_at p 2 e (λ z. omega arith) o)
fits_byte p d (suc (suc (suc zero))) h l b e o = omega (arith, open_at p 3 e (λ z. omega arith) o)
fits_byte p d (suc (suc (suc (suc k)))) h l b e o = absurd (omega arith)

-- the digits of a list pushed one after the other
unfoldable pub pushed_all : Packer → Digits → Packer
pushed_all p [] = p
pushed_all p (d ∷ x) = pushed_all (pushed p d) x

unfoldable pub pushes : Digits → Packer
pushes x = pushed_all nothing x

pub pushes_nil : pushes [] ≡ nothing
unfolding pushes pushed_all
pushes_nil = refl

all_snoc : (p : Packer) (x : Digits) (d : ℕ) → pushed_all p (x ++ (d ∷ [])) ≡ pushed (pushed_all p x) d
unfolding pushed_all
all_snoc p [] d = refl
all_snoc p (a ∷ x) d = all_snoc (pushed p a) x d

pub pushes_snoc : (x : Digits) (d : ℕ) → pushes (x ++ (d ∷ [])) ≡ pushed (pushes x) d
unfolding pushes
pushes_snoc x d = all_snoc nothing x d

all_count : (p : Packer) (x : Digits) → (pushed_all p x).count ≡ p.count + length x
unfolding pushed_all
all_count p [] = omega arith
all_count p (a ∷ x) = let e = all_count (pushed p a) x in omega arith

pub pushes_count : (x : Digits) → (pushes x).count ≡ length x
unfolding pushes
pushes_count x = let e = all_count nothing x in omega arith

all_open : (p : Packer) (x : Digits) → All (λ d. d < 4) x → Open p → Open (pushed_all p x)
unfolding pushed_all
all_open p [] h o = o
all_open p (a ∷ x) h o = all_open (pushed p a) x h.1 (open_next p a _ h.0 o (p.count % 4) (omega arith) refl refl)

pub pushes_open : (x : Digits) → All (λ d. d < 4) x → Open (pushes x)
unfolding pushes
pushes_open x h = all_open nothing x h (open_new nothing refl)

-- all that a push takes of a packer is the count modulo 4, and the byte where it is begun
all_same : (p q : Packer) (x : Digits) (d : ℕ) → p.count % 4 ≡ q.count % 4
    → begun (p.count % 4) p.pending ≡ begun (q.count % 4) q.pending
    → (pushed (pushed_all p x) d).pending ≡ (pushed (pushed_all q x) d).pending
unfolding pushed_all
all_same p q [] d k e = cc
all_same p q (a ∷ x) d k e =
    let l : (p.count + 1) % 4 ≡ (q.count + 1) % 4 = omega arith in
    let f : (pushed p a).pending ≡ (pushed q a).pending = cc in
    all_same (pushed p a) (pushed q a) x d l (cc)

-- behind four digits the byte is filled as from the start
behind_four : (a b c e : ℕ) (x : Digits) (d : ℕ) → (pushed (pushes (a ∷ b ∷ c ∷ e ∷ x)) d).pending ≡ (pushed (pushes x) d).pending
unfolding pushes pushed_all
behind_four a b c e x d = all_same (pushed (pushed (pushed (pushed nothing a) b) c) e) nothing x d refl refl

-- the byte that is being filled, written at its place after each digit, keeps the bytes those of the digits so far
pub gather_push : (n : ℕ) (x : Digits) (d : ℕ) → length x < 4 * n
    → set (gather n x) (length x / 4) (pushed (pushes x) d).pending ≡ gather n (x ++ (d ∷ []))
unfolding pushes pushed_all
gather_push zero x d h = absurd (omega arith)
gather_push (suc n) [] d h = ap (λ v. v ∷ gather n []) (omega arith)
gather_push (suc n) (a ∷ []) d h = ap (λ v. v ∷ gather n []) (omega arith)
gather_push (suc n) (a ∷ b ∷ []) d h = ap (λ v. v ∷ gather n []) (omega arith)
gather_push (suc n) (a ∷ b ∷ c ∷ []) d h = ap (λ v. v ∷ gather n []) (omega arith)
gather_push (suc n) (a ∷ b ∷ c ∷ e ∷ x) d h =
    let l : length (a ∷ b ∷ c ∷ e ∷ x) / 4 ≡ suc (length x / 4) = omega arith in
    rw (l, behind_four a b c e x d) (ap (λ t. byte_of a b c e ∷ t) (gather_push n x d (omega arith)))

-- for `begun`
pub begun_zero : (k v : ℕ) → k ≡ 0 → begun k v ≡ 0
begun_zero k v e = rw e refl

pub begun_more : (k v : ℕ) → (k ≡ 0 → ⊥) → begun k v ≡ v
begun_more k v n = sym (begun_on k v v n refl)

pub ruleset beginning = (begun_zero, begun_more)
