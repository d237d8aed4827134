use Rattle.unit_writer.proofs.NameLaws.{label_none, label_pushed}
use Rattle.unit_writer.proofs.line.Line.push_label.Goals as goal

pub returns-in_ok-push-in-Some : goal.returns-in_ok-push-in-Some
returns-in_ok-push-in-Some c =
    label_pushed c.args.self.now.labels.now c.args.list.now c.push.new.self c.args.place c.in-Some.label.now c.in-Some.ensures.lookup.3.0 (c.in-Some.ensures.lookup.3.1 c.in-Some.label.now) c.in_ok-push-in-Some.ensures.ok

pub returns-in-None : goal.returns-in-None
returns-in-None c = label_none c.args.self.now.labels.now c.args.list.now c.args.place c.in-None.ensures.lookup.3
