use Rattle.std.proofs.Common.{ap}
use Rattle.text_scopes.specs.Names.{is_named}
use Rattle.text_scopes.proofs.LevelLemmas.{define_taken, open_taken}
use Rattle.text_scopes.proofs.scopes.take.Goals as goal

pub returns-in_ok-define-in-Defines : goal.returns-in_ok-define-in-Defines
returns-in_ok-define-in-Defines c = λ before e named counted h.
    define_taken c.args.outward c.args.step c.args.name c.args.place c.args.scopes.now c.define.new.scopes c.args.table.now c.define.new.table c.in-Defines.is (c.requires.known (ap is_named c.in-Defines.is))
    c.in_ok-define-in-Defines.ensures.log c.in_ok-define-in-Defines.ensures.table c.in_ok-define-in-Defines.ensures.start before e named counted h

pub returns-in_ok-open-in-Opens : goal.returns-in_ok-open-in-Opens
returns-in_ok-open-in-Opens c = λ before e named counted h.
    open_taken c.args.outward c.args.step c.args.place c.args.scopes.now c.open.new.scopes c.args.table.now c.in-Opens.is
    c.in_ok-open-in-Opens.ensures.log c.in_ok-open-in-Opens.ensures.start before e counted h
