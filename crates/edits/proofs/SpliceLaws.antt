-- Laws of an insertion's and a deletion's bytes: the runs that make them, the register they hold, and what is kept. Assumes nothing.
use mathlib.Core.Path.{◌≡◌, refl, sym, ap, ◌∙◌}
use mathlib.Core.List.{List, [], ◌∷◌, ◌++◌, append_assoc, append-nil}
use Prim.Native.Nat.{ℕ, suc, ◌+◌, ◌-◌, ◌*◌, ◌≤◌, ◌<◌}
use native.Mathlib.Nat.{zero-add}
use native.Mathlib.Omega.{arith}
use lib.ListN.{length, take, drop, replicate, length-append, length-drop, take-append-drop}
use lib.Seq.{length-take-le, take-add}
use Rattle.digits.specs.Order.{Digits}
use Rattle.numbers.specs.Bytes.{put, le4}
use Rattle.numbers.proofs.PutLaws.{put_under, put_length, drop_put, run_inside}
use Rattle.trees.specs.Labelled.{Name, Entry}
use Rattle.registers.specs.Layout.{header_size, entry_size, entry_place}
use Rattle.registers.specs.Entries.{entry_bytes, entries_bytes, register_bytes}
use Rattle.registers.specs.Questions.{count_of}
use Rattle.registers.proofs.WriteLaws.{run_after}
use Rattle.registers.proofs.EntryLaws.{entry_length, entries_length, entries_append, register_length}
use Rattle.edits.specs.Splice.{entries_at, inserted_bytes, deleted_bytes}

-- a run that takes the k elements in front of it along
put_kept : (b : List ℕ) (a k : ℕ) (w : List ℕ) → a + k ≤ length b → put b (a + k) w ≡ put b a (take k (drop a b) ++ w)
unfolding put
put_kept b a k w room =
    let d : length (drop a b) ≡ length b - a = length-drop a b in
    let l : length (take k (drop a b)) ≡ k = length-take-le k (drop a b) (omega arith) in
    let m : a + length (take k (drop a b) ++ w) ≡ a + k + length w = rw (length-append, l) (omega arith) in
    rw (m, take-add a k b) (simp append_assoc)

-- a run put in front of another, by its place
run_under : (b : List ℕ) (a k : ℕ) (v w : List ℕ) → k ≡ a + length v → k ≤ length b → put (put b k w) a v ≡ put b a (v ++ w)
run_under b a k v w e room = ap (λ (z : ℕ). put (put b z w) a v) e ∙ put_under b a v w (omega arith)

-- how many bytes some entries have
entries_at_length : (b : List ℕ) (i m : ℕ) → entry_place (i + m) ≤ length b → length (entries_at b i m) ≡ entry_size * m
entries_at_length b i m room =
    let d : length (drop (entry_place i) b) ≡ length b - entry_place i = length-drop (entry_place i) b in
    length-take-le (entry_size * m) (drop (entry_place i) b) (omega arith)

-- a header and a run from entry i on; the entries before it stay
head_run : (b h w : List ℕ) (i : ℕ) → entry_place i ≤ length b → length h ≡ header_size
    → put (put b (entry_place i) w) 0 h ≡ put b 0 (h ++ (entries_at b 0 i ++ w))
head_run b h w i room e =
    ap (λ (z : List ℕ). put z 0 h) (put_kept b header_size (entry_size * i) w room)
    ∙ run_under b 0 header_size h (entries_at b 0 i ++ w) (omega arith) (omega arith)

-- an insertion: the later entries one place up, then the entry, then the header
insert_runs : (b b₁ b₂ b₃ v h : List ℕ) (n i : ℕ) → i ≤ n → entry_place (n + 1) ≤ length b
    → length v ≡ entry_size → length h ≡ header_size
    → b₁ ≡ put b (entry_place (i + 1)) (entries_at b i (n - i)) → b₂ ≡ put b₁ (entry_place i) v → b₃ ≡ put b₂ 0 h
    → b₃ ≡ put b 0 (h ++ (entries_at b 0 i ++ (v ++ entries_at b i (n - i))))
insert_runs b b₁ b₂ b₃ v h n i k room l m e f g =
    rw (g, f, e, run_under b (entry_place i) (entry_place (i + 1)) v (entries_at b i (n - i)) (omega arith) (omega arith))
    (head_run b h (v ++ entries_at b i (n - i)) i (omega arith) m)

-- a deletion: the later entries one place down, then zeros, then the header
delete_runs : (b b₁ b₂ b₃ h : List ℕ) (n i : ℕ) → i < n → entry_place n ≤ length b → length h ≡ header_size
    → b₁ ≡ put b (entry_place i) (entries_at b (i + 1) (n - 1 - i))
    → b₂ ≡ put b₁ (entry_place (n - 1)) (replicate entry_size 0) → b₃ ≡ put b₂ 0 h
    → b₃ ≡ put b 0 (h ++ (entries_at b 0 i ++ (entries_at b (i + 1) (n - 1 - i) ++ replicate entry_size 0)))
delete_runs b b₁ b₂ b₃ h n i k room m e f g =
    let t : List ℕ = entries_at b (i + 1) (n - 1 - i) in
    let l : length t ≡ entry_size * (n - 1 - i) = entries_at_length b (i + 1) (n - 1 - i) (omega arith) in
    rw (g, f, e, run_after b (entry_place i) (entry_place (n - 1)) t (replicate entry_size 0) (omega arith) (omega arith))
    (head_run b h (t ++ replicate entry_size 0) i (omega arith) m)

-- a run that the buffer begins with, put over itself
put_held : (b w : List ℕ) → take (length w) b ≡ w → put b 0 w ≡ b
unfolding put
put_held b w e = rw zero-add (ap (λ (z : List ℕ). z ++ drop (length w) b) (sym e) ∙ take-append-drop (length w) b)

-- some of the entries that a register holds
entries_held : (b : List ℕ) (us vs ws xs : List (Entry Name)) (i m : ℕ) → take (entry_place (length us)) b ≡ register_bytes us
    → us ≡ vs ++ (ws ++ xs) → i ≡ length vs → m ≡ length ws → entries_at b i m ≡ entries_bytes ws
entries_held b us vs ws xs i m e q p k =
    let h : List ℕ = le4 (length us) ++ (le4 0 ++ entries_bytes vs) in
    let l : length h ≡ entry_place i = omega (arith, entries_length vs) in
    let n : length (entries_bytes ws) ≡ entry_size * m = omega (arith, entries_length ws) in
    let a : entries_bytes us ≡ entries_bytes vs ++ (entries_bytes ws ++ entries_bytes xs) =
    rw (q, entries_append vs (ws ++ xs), entries_append ws xs) refl in
    let f : b ≡ put b 0 (h ++ (entries_bytes ws ++ entries_bytes xs)) =
    sym (put_held b (register_bytes us) (ap (λ (z : ℕ). take z b) (register_length us) ∙ e))
    ∙ ap (λ (z : List ℕ). put b 0 (le4 (length us) ++ (le4 0 ++ z))) a in
    ap (λ (z : List ℕ). entries_at z i m) f ∙ (rw (n, l) at (run_inside b h (entries_bytes ws) (entries_bytes xs)))

-- a register in front of a run
front_holds : (b w es : List ℕ) (us : List (Entry Name)) (n : ℕ) → n ≡ length us → es ≡ entries_bytes us ++ w
    → take (length (register_bytes us)) (put b 0 (le4 n ++ (le4 0 ++ es))) ≡ register_bytes us
front_holds b w es us n e f = rw (e, f) (run_inside b [] (register_bytes us) w)

-- after an insertion the buffer begins with the register that has the entry too
pub inserted_holds : (b : List ℕ) (us vs ws : List (Entry Name)) (x : Entry Name) → count_of b ≡ length us
    → take (entry_place (length us)) b ≡ register_bytes us → us ≡ vs ++ ws
    → take (length (register_bytes (vs ++ (x ∷ ws)))) (inserted_bytes b (length vs) x) ≡ register_bytes (vs ++ (x ∷ ws))
unfolding inserted_bytes
inserted_holds b us vs ws x c e q =
    let n : length us ≡ length vs + length ws = ap length q ∙ length-append vs ws in
    let l : length (vs ++ (x ∷ ws)) ≡ length vs + suc (length ws) = length-append vs (x ∷ ws) in
    let w : us ≡ vs ++ (ws ++ []) = rw (append-nil ws) q in
    front_holds b [] _ (vs ++ (x ∷ ws)) (count_of b + 1) (omega arith)
    (rw (
      append-nil (entries_bytes (vs ++ (x ∷ ws))),
      entries_append vs (x ∷ ws),
      entries_held b us [] vs ws 0 (length vs) e q refl refl,
      entries_held b us vs ws [] (length vs) (count_of b - length vs) e w refl (omega arith),
    ) refl)

-- after a deletion it begins with the register that has all others
pub deleted_holds : (b : List ℕ) (us vs ws : List (Entry Name)) (u : Entry Name) → count_of b ≡ length us
    → take (entry_place (length us)) b ≡ register_bytes us → us ≡ vs ++ (u ∷ ws)
    → take (length (register_bytes (vs ++ ws))) (deleted_bytes b (length vs)) ≡ register_bytes (vs ++ ws)
unfolding deleted_bytes
deleted_holds b us vs ws u c e q =
    let n : length us ≡ length vs + suc (length ws) = ap length q ∙ length-append vs (u ∷ ws) in
    let l : length (vs ++ ws) ≡ length vs + length ws = length-append vs ws in
    let k : length (vs ++ (u ∷ [])) ≡ length vs + 1 = length-append vs (u ∷ []) in
    let w : us ≡ (vs ++ (u ∷ [])) ++ (ws ++ []) = rw (append-nil ws, append_assoc vs (u ∷ []) ws) q in
    front_holds b (replicate entry_size 0) _ (vs ++ ws) (count_of b - 1) (omega arith)
    (rw (
      entries_append vs ws,
      append_assoc (entries_bytes vs) (entries_bytes ws) (replicate entry_size 0),
      entries_held b us [] vs (u ∷ ws) 0 (length vs) e q refl refl,
      entries_held b us (vs ++ (u ∷ [])) ws [] (length vs + 1) (count_of b - 1 - length vs) e w (omega arith) (omega arith),
    ) refl)

-- an insertion alters no byte past the last entry, and no length
module _ (b : List ℕ) (i : ℕ) (x : Entry Name) (k : i ≤ count_of b) (room : entry_place (count_of b + 1) ≤ length b) where
  inserted_end : length (entries_at b 0 i ++ (entry_bytes x ++ entries_at b i (count_of b - i))) ≡ entry_size * (count_of b + 1)
  inserted_end =
      let f = entries_at_length b 0 i (omega arith) in
      let g = entries_at_length b i (count_of b - i) (omega arith) in
      let v = entry_length x in
      simp length-append (omega arith)

  pub inserted_rest : drop (entry_place (count_of b + 1)) (inserted_bytes b i x) ≡ drop (entry_place (count_of b + 1)) b
  unfolding inserted_bytes
  inserted_rest = let e = inserted_end in drop_put b 0 _ (omega arith) (entry_place (count_of b + 1)) (omega arith)

  pub inserted_length : length (inserted_bytes b i x) ≡ length b
  unfolding inserted_bytes
  inserted_length = let e = inserted_end in put_length b 0 _ (omega arith)

-- nor does a deletion
module _ (b : List ℕ) (i : ℕ) (k : i < count_of b) (room : entry_place (count_of b) ≤ length b) where
  deleted_end : length (entries_at b 0 i ++ (entries_at b (i + 1) (count_of b - 1 - i) ++ replicate entry_size 0)) ≡ entry_size * count_of b
  deleted_end =
      let f = entries_at_length b 0 i (omega arith) in
      let g = entries_at_length b (i + 1) (count_of b - 1 - i) (omega arith) in
      simp length-append (omega arith)

  pub deleted_rest : drop (entry_place (count_of b)) (deleted_bytes b i) ≡ drop (entry_place (count_of b)) b
  unfolding deleted_bytes
  deleted_rest = let e = deleted_end in drop_put b 0 _ (omega arith) (entry_place (count_of b)) (omega arith)

  pub deleted_length : length (deleted_bytes b i) ≡ length b
  unfolding deleted_bytes
  deleted_length = let e = deleted_end in put_length b 0 _ (omega arith)

-- the three writes of an insertion, and of a deletion
pub insert_writes : (b b₁ b₂ b₃ : List ℕ) (x : Entry Name) (n i to from width : ℕ) → n ≡ count_of b → i ≤ n
    → entry_place (n + 1) ≤ length b → to ≡ entry_place (i + 1) → from ≡ entry_place i → width ≡ entry_size * (n - i)
    → b₁ ≡ put b to (take width (drop from b)) → b₂ ≡ put b₁ (entry_place i) (entry_bytes x) → b₃ ≡ put b₂ 0 (le4 (n + 1) ++ le4 0)
    → b₃ ≡ inserted_bytes b i x
unfolding inserted_bytes
insert_writes b b₁ b₂ b₃ x n i to from width c k room p q r e f g =
    insert_runs b b₁ b₂ b₃ (entry_bytes x) (le4 (n + 1) ++ le4 0) n i k room (entry_length x) refl
    (e ∙ ap (λ (z : ℕ). put b z (take width (drop from b))) p ∙ ap (λ (z : ℕ). put b (entry_place (i + 1)) (take width (drop z b))) q
    ∙ ap (λ (z : ℕ). put b (entry_place (i + 1)) (take z (drop (entry_place i) b))) r)
    f g
    ∙ ap (λ (z : ℕ). put b 0 (le4 (z + 1) ++ (le4 0 ++ (entries_at b 0 i ++ (entry_bytes x ++ entries_at b i (z - i)))))) c

pub delete_writes : (b b₁ b₂ b₃ : List ℕ) (n i to from width last : ℕ) → n ≡ count_of b → i < n → entry_place n ≤ length b
    → to ≡ entry_place i → from ≡ entry_place (i + 1) → width ≡ entry_size * (n - 1 - i) → last ≡ entry_place (n - 1)
    → b₁ ≡ put b to (take width (drop from b)) → b₂ ≡ put b₁ last (replicate entry_size 0) → b₃ ≡ put b₂ 0 (le4 (n - 1) ++ le4 0)
    → b₃ ≡ deleted_bytes b i
unfolding deleted_bytes
delete_writes b b₁ b₂ b₃ n i to from width last c k room p q r s e f g =
    delete_runs b b₁ b₂ b₃ (le4 (n - 1) ++ le4 0) n i k room refl
    (e ∙ ap (λ (z : ℕ). put b z (take width (drop from b))) p ∙ ap (λ (z : ℕ). put b (entry_place i) (take width (drop z b))) q
    ∙ ap (λ (z : ℕ). put b (entry_place i) (take z (drop (entry_place (i + 1)) b))) r)
    (f ∙ ap (λ (z : ℕ). put b₁ z (replicate entry_size 0)) s) g
    ∙ ap
    (λ (z : ℕ). put b 0
    (le4 (z - 1) ++ (le4 0 ++ (entries_at b 0 i ++ (entries_at b (i + 1) (z - 1 - i) ++ replicate entry_size 0))))) c

-- the same place and the same parts
pub same_inserted : (b : List ℕ) (i j : ℕ) (m : Name) (s s' e e' p p' : Digits) → i ≡ j → s ≡ s' → e ≡ e' → p ≡ p'
    → inserted_bytes b i (record { name = m; start = s; end = e; parent = p })
    ≡ inserted_bytes b j (record { name = m; start = s'; end = e'; parent = p' })
same_inserted b i j m s s' e e' p p' a c d f = rw (a, c, d, f) refl
