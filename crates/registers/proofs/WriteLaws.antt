-- Laws of an entry that is written part by part. Assumes nothing.
use mathlib.Core.Path.{◌≡◌, refl, ap, ◌∙◌}
use mathlib.Core.List.{List, [], ◌++◌, append_assoc}
use Prim.Native.Nat.{ℕ, ◌+◌, ◌≤◌}
use native.Mathlib.Omega.{arith}
use lib.ListN.{length, replicate, length-append}
use Rattle.numbers.specs.Bytes.{put, le4}
use Rattle.numbers.proofs.PutLaws.{put_put}
use Rattle.codes.specs.Field.{field_of}
use Rattle.codes.proofs.FieldLaws.{field_length}

-- the empty field is 32 zeros
pub field_empty : replicate {A = ℕ} 32 0 ≡ field_of []
unfolding field_of
field_empty = refl

-- a run behind another
pub run_after : (b : List ℕ) (a k : ℕ) (v w : List ℕ) → a ≤ length b → k ≡ a + length v → put (put b a v) k w ≡ put b a (v ++ w)
run_after b a k v w room e = ap (λ (z : ℕ). put (put b a v) z w) e ∙ put_put b a v room w

-- a run that is written behind one that was
pub run_behind : (b c d v w : List ℕ) (a k : ℕ) → a ≤ length b → c ≡ put b a v → k ≡ a + length v → d ≡ put c k w → d ≡ put b a (v ++ w)
run_behind b c d v w a k room e q f = f ∙ ap (λ (z : List ℕ). put z k w) e ∙ run_after b a k v w room q

-- three runs, one behind the other
pub three_runs : (b b₁ b₂ b₃ v₁ v₂ v₃ : List ℕ) (a a₁ a₂ a₃ : ℕ) → a ≤ length b
    → a₁ ≡ a → a₂ ≡ a + length v₁ → a₃ ≡ a₂ + length v₂
    → b₁ ≡ put b a₁ v₁ → b₂ ≡ put b₁ a₂ v₂ → b₃ ≡ put b₂ a₃ v₃
    → b₃ ≡ put b a (v₁ ++ (v₂ ++ v₃))
three_runs b b₁ b₂ b₃ v₁ v₂ v₃ a a₁ a₂ a₃ room p q r e f g =
    let l : length (v₁ ++ v₂) ≡ length v₁ + length v₂ = length-append v₁ v₂ in
    run_behind b b₂ b₃ (v₁ ++ v₂) v₃ a a₃ room
    (run_behind b b₁ b₂ v₁ v₂ a a₂ room (e ∙ ap (λ (z : ℕ). put b z v₁) p) q f) (omega arith) g
    ∙ ap (put b a) (append_assoc v₁ v₂ v₃)

-- the head of an entry has 40 bytes
pub head_length : (identity tag : ℕ) (x : List ℕ) → length (le4 identity ++ (le4 tag ++ field_of x)) ≡ 40
head_length identity tag x = length-append (le4 identity) (le4 tag ++ field_of x) ∙ omega (arith, length-append (le4 tag) (field_of x), field_length x)
