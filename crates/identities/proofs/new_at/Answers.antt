-- A new identity is held behind those above.
use Rattle.identities.proofs.new_at.Goals as goal

pub returns-in-Some-clause-held : goal.returns-in-Some-clause-held
returns-in-Some-clause-held c = (c.in-Some.ensures.entered _ c.requires.held).1
