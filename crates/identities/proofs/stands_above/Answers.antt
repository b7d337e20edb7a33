-- The search through the rows above finds what stands among their identities.
use Rattle.std.proofs.Common.{◌∙◌, ◌*◌, refl, arith, rules, tests, get_or}
use lib.Dec.{eqb}
use Rattle.std.proofs.lemmas.Iterator.{YieldsList-from_range}
use Rattle.std.proofs.lemmas.Iterator.Search.{any_from_yields_List}
use Rattle.identities.proofs.RowLaws.{any_above}
use Rattle.identities.proofs.stands_above.Goals as goal

pub returns : goal.returns
returns c =
    let a = c.args in
    record {
      among = any_from_yields_List (λ k. eqb a.identity (get_or a.numbers.now (a.stride * k) 0)) _ _ _ c.any.ensures.ran
          (YieldsList-from_range 0 a.i a.i refl (omega arith)) (λ k b q h. search (rules, tests))
          ∙ any_above a.stride a.numbers.now a.identity a.i;
    }
