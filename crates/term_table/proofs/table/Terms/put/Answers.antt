use Rattle.term_table.proofs.TableLaws.{put_holds, stored_is}
use Rattle.term_table.proofs.table.Terms.put.Goals as goal

pub invariant_of-self-clause-before : goal.invariant_of-self-clause-before
invariant_of-self-clause-before c = (put_holds c.insert_full.result _ _ c.args.node c.args.self.now.before c.args.self.now.one c.requires.left c.requires.right c.insert_full.ensures.keys c.insert_full.ensures.err).before

pub invariant_of-self-clause-one : goal.invariant_of-self-clause-one
invariant_of-self-clause-one c = (put_holds c.insert_full.result _ _ c.args.node c.args.self.now.before c.args.self.now.one c.requires.left c.requires.right c.insert_full.ensures.keys c.insert_full.ensures.err).one

pub returns-in-Ok-clause-grows : goal.returns-in-Ok-clause-grows
returns-in-Ok-clause-grows c = (put_holds c.insert_full.result _ _ c.args.node c.args.self.now.before c.args.self.now.one c.requires.left c.requires.right c.insert_full.ensures.keys c.insert_full.ensures.err).grows

pub returns-in-Ok-clause-is : goal.returns-in-Ok-clause-is
returns-in-Ok-clause-is c =
    let h = c.in-Ok.ensures.stored in
    stored_is _ _ c.args.node h.0 c.in-Ok.place
    (put_holds c.insert_full.result _ _ c.args.node c.args.self.now.before c.args.self.now.one c.requires.left c.requires.right c.insert_full.ensures.keys c.insert_full.ensures.err)
    c.requires.left c.requires.right h.1 h.2
