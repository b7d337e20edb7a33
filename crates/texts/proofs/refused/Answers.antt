-- `refused` meets its contract: the word, and the number behind it. Assumes nothing.
use native.Mathlib.Omega.{arith}
use Rattle.std.proofs.Common.{rules}
use Rattle.texts.proofs.CursorLaws.{written_end, written_bytes}
use Rattle.texts.proofs.LineLaws.{refusal_written}
use Rattle.texts.proofs.refused.Goals as goal

pub returns-clause-text : goal.returns-clause-text
returns-clause-text c =
    let t = refusal_written _ c.bytes.ensures.text c.number-2.ensures.text c.number.ensures.number (omega arith) in
    search (rules, written_bytes _ _ t)

pub returns-clause-length : goal.returns-clause-length
returns-clause-length c =
    let t = refusal_written _ c.bytes.ensures.text c.number-2.ensures.text c.number.ensures.number (omega arith) in
    omega (arith, written_end _ _ t)
