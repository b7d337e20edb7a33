-- `line` meets its contract: five pieces, each behind the one before. Assumes nothing.
use native.Mathlib.Omega.{arith}
use Rattle.std.proofs.Common.{rules}
use Rattle.texts.proofs.CursorLaws.{written_end, written_bytes}
use Rattle.texts.proofs.LineLaws.{line_written}
use Rattle.texts.proofs.line.Goals as goal

pub returns-clause-text : goal.returns-clause-text
returns-clause-text c =
    let t = line_written _ c.args.register.now c.args.i c.read_u32.ensures.number c.read_u32-2.ensures.number
    c.number.ensures.text c.number-2.ensures.text c.code.ensures.text c.code-2.ensures.text c.code-3.ensures.text (omega arith) in
    search (rules, written_bytes _ _ t)

pub returns-clause-length : goal.returns-clause-length
returns-clause-length c =
    let t = line_written _ c.args.register.now c.args.i c.read_u32.ensures.number c.read_u32-2.ensures.number
    c.number.ensures.text c.number-2.ensures.text c.code.ensures.text c.code-2.ensures.text c.code-3.ensures.text (omega arith) in
    omega (arith, written_end _ _ t)
