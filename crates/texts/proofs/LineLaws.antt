-- Laws of the text of an entry: a run behind one at the front, how long a piece is, and the five pieces. Assumes nothing.
use mathlib.Core.Path.{◌≡◌, ap, ◌∙◌}
use mathlib.Core.List.{List, [], ◌∷◌, ◌++◌, append_assoc}
use Prim.Native.Nat.{ℕ, ◌+◌}
use native.Mathlib.Nat.{zero-add}
use native.Mathlib.Omega.{arith}
use lib.ListN.{length}
use Rattle.numbers.specs.Bytes.{put, number_at}
use Rattle.numbers.proofs.PutLaws.{put_put}
use Rattle.labels.specs.Label.{start_at, end_at, parent_at}
use Rattle.registers.specs.Layout.{identity_at, tag_at, label_at, entry_place}
use Rattle.registers.specs.Entries.{code_at, entry_at}
use Rattle.texts.specs.declared.Cursor.{Cursor}
use Rattle.texts.specs.Cursor.{written, HasRoom}
use Rattle.texts.specs.Printed.{space, newline, decimal, code_text, entry_text, refusal_text}
use Rattle.texts.proofs.CursorLaws.{more_written}

-- a run behind one at the front
pub put_behind : (xs vs ws : List ℕ) → put (put xs 0 vs) (length vs) ws ≡ put xs 0 (vs ++ ws)
put_behind xs vs ws = rw zero-add at (put_put xs 0 vs (omega arith) ws)

-- the five pieces of an entry
pub entry_pieces : (bytes : List ℕ) (i x y : ℕ)
    → x ≡ number_at bytes (entry_place i + identity_at) → y ≡ number_at bytes (entry_place i + tag_at)
    → decimal x ++ (space ∷ [])
    ++ (decimal y ++ (space ∷ []))
    ++ (code_text (code_at bytes (entry_place i + label_at + start_at)) ++ (space ∷ []))
    ++ (code_text (code_at bytes (entry_place i + label_at + end_at)) ++ (space ∷ []))
    ++ (code_text (code_at bytes (entry_place i + label_at + parent_at)) ++ (newline ∷ []))
    ≡ entry_text (entry_at bytes i)
unfolding entry_text entry_at
entry_pieces bytes i x y e f = rw (e, f) (simp append_assoc)

-- the line of an entry, piece by piece
pub line_written : (c : Cursor) {d e f g h : Cursor} (bytes : List ℕ) (i : ℕ) {x y : ℕ}
    → x ≡ number_at bytes (entry_place i + identity_at) → y ≡ number_at bytes (entry_place i + tag_at)
    → d ≡ written c (decimal x ++ (space ∷ [])) → e ≡ written d (decimal y ++ (space ∷ []))
    → f ≡ written e (code_text (code_at bytes (entry_place i + label_at + start_at)) ++ (space ∷ []))
    → g ≡ written f (code_text (code_at bytes (entry_place i + label_at + end_at)) ++ (space ∷ []))
    → h ≡ written g (code_text (code_at bytes (entry_place i + label_at + parent_at)) ++ (newline ∷ []))
    → HasRoom c 0 → h ≡ written c (entry_text (entry_at bytes i))
line_written c bytes i p q d e f g h room =
    let v = more_written c _ d _ e room in
    let w = more_written c _ v _ f room in
    let x = more_written c _ w _ g room in
    more_written c _ x _ h room ∙ ap (written c) (entry_pieces bytes i _ _ p q)

-- the line of a refusal
pub refusal_written : (c : Cursor) {d e : Cursor} {x n : ℕ} → d ≡ written c (114 ∷ 101 ∷ 102 ∷ 117 ∷ 115 ∷ 101 ∷ 100 ∷ space ∷ [])
    → e ≡ written d (decimal x ++ (newline ∷ [])) → x ≡ n → HasRoom c 0 → e ≡ written c (refusal_text n)
unfolding refusal_text
refusal_written c {d} {e} {x} f g q room = more_written c _ f _ g room ∙ ap (λ (n : ℕ). written c (refusal_text n)) q
