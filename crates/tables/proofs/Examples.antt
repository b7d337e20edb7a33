-- Tables that the rules accept and refuse: the worked rows, each refusal, two reasons at once, both sides of the depth.
-- Assumes nothing.
use Rattle.std.specs.Prelude.{Result, Ok, Err}
use mathlib.Core.Path.{◌≡◌, refl}
use mathlib.Core.List.{List, [], ◌∷◌, ◌++◌}
use Prim.Native.Nat.{ℕ, zero, suc}
use Rattle.answers.specs.declared.Refusal.{Refusal}
use Rattle.answers.specs.declared.Refusal.TheVariants.{TableSize, RowDepth, RowIdentity}
use Rattle.tables.specs.Table.{rows_of}
use Rattle.tables.specs.Rules.{rows_from, checked_of}

-- n rows, each one deeper than the row above; the last has depth n - 1
abbrev pub chain : ℕ → List ℕ
chain zero = []
chain (suc n) = chain n ++ (suc n ∷ 7 ∷ n ∷ [])

abbrev pub tables : List (Result ℕ Refusal)
tables =
    checked_of (10 ∷ 1 ∷ 0 ∷ 11 ∷ 2 ∷ 1 ∷ 12 ∷ 2 ∷ 1 ∷ 13 ∷ 3 ∷ 2 ∷ [])
    ∷ checked_of []
    ∷ checked_of (10 ∷ 1 ∷ 0 ∷ 11 ∷ [])
    ∷ checked_of (10 ∷ 1 ∷ 1 ∷ [])
    ∷ checked_of (10 ∷ 1 ∷ 0 ∷ 11 ∷ 1 ∷ 0 ∷ [])
    ∷ checked_of (10 ∷ 1 ∷ 0 ∷ 11 ∷ 1 ∷ 2 ∷ [])
    ∷ checked_of (10 ∷ 1 ∷ 0 ∷ 10 ∷ 1 ∷ 1 ∷ [])
    ∷ checked_of (0 ∷ 1 ∷ 0 ∷ [])
    ∷ checked_of (0 ∷ 1 ∷ 1 ∷ [])
    ∷ checked_of (10 ∷ 1 ∷ 0 ∷ 10 ∷ 1 ∷ 1 ∷ 11 ∷ 1 ∷ 9 ∷ [])
    ∷ checked_of (chain 64)
    ∷ checked_of (chain 65)
    ∷ []

pub told : tables
    ≡ Ok 4
    ∷ Err TableSize
    ∷ Err TableSize
    ∷ Err (RowDepth 0)
    ∷ Err (RowDepth 1)
    ∷ Err (RowDepth 1)
    ∷ Err (RowIdentity 1)
    ∷ Err (RowIdentity 0)
    ∷ Err (RowDepth 0)
    ∷ Err (RowIdentity 1)
    ∷ Ok 64
    ∷ Err (RowDepth 64)
    ∷ []
unfolding checked_of rows_of rows_from
told = refl
