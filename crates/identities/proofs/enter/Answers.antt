-- Where each place is taken, no place is free.
use Rattle.std.proofs.Common.{arith, sym, subst, ◌<◌, List, ℕ}
use Rattle.identities.specs.Identities.{place_count, hash_of, Holds}
use Rattle.identities.proofs.IdentityLaws.{crowded, holds_full}
use Rattle.identities.proofs.enter.Goals as goal

pub returns : goal.returns
returns c = record {
  entered = λ used held. let t = c.loop-d.places in
      let x = c.args.identity in
      let s : hash_of x < place_count = rw c.hash-start.ensures.hash.0 at c.hash-start.ensures.hash.1 in
      holds_full t used x (subst (λ (l : List ℕ). Holds l used) (sym c.loop-d.invariant.0) held) c.requires.some
      (crowded t x c.loop-d.d s (omega arith) c.loop-d.invariant.1);
}
