use Rattle.std.proofs.Common.{rules}
use Rattle.text_events.proofs.LanguageLemmas.{ran, found, refused, only, begun}
use Rattle.text_events.proofs.look.look_at.Goals as goal

pub returns-clause-found : goal.returns-clause-found
returns-clause-found c = found c.in_ok-refusal.refusal (ran _ _ c.args.words.now c.args.names.now c.requires c.in_ok-form.ensures.taken) (search rules)

pub returns-clause-refused : goal.returns-clause-refused
returns-clause-refused c = refused c.in_ok-refusal.refusal (ran _ _ c.args.words.now c.args.names.now c.requires c.in_ok-form.ensures.taken) (search rules)

pub returns-clause-only : goal.returns-clause-only
returns-clause-only c = λ ps reads. only c.in_ok-refusal.refusal (ran _ _ c.args.words.now c.args.names.now c.requires c.in_ok-form.ensures.taken) (search rules) ps reads

pub returns-clause-begun : goal.returns-clause-begun
returns-clause-begun c = begun c.in_ok-refusal.refusal (ran _ _ c.args.words.now c.args.names.now c.requires c.in_ok-form.ensures.taken) (search rules)
