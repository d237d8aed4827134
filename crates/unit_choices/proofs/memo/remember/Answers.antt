use Rattle.conversion_target.specs.Targets.{target_of}
use Rattle.unit_views.specs.Modes.{mode_of}
use Rattle.unit_choices.proofs.MemoLaws.{remembers_more}
use Rattle.unit_choices.proofs.memo.remember.Goals as goal

pub returns-then-len-lt-ROOM : goal.returns-then-len-lt-ROOM
returns-then-len-lt-ROOM g c =
    remembers_more c.args.pass.now.bits (target_of c.args.pass.now.target.now) (g.R.Rows.table c.args.pass.now.set.now) (mode_of c.args.mode) c.args.memo.now.items c.push.new.self.items (record { shape = c.args.shape; line = c.args.line })
    c.in_ok-push.ensures.items c.requires.line c.requires.memo
