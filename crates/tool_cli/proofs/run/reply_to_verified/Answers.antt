use Rattle.tool_cli.proofs.Lowers.{all_lower}
use Rattle.tool_cli.proofs.run.reply_to_verified.Goals as goal

pub returns-in-None : goal.returns-in-None
returns-in-None c words asks =
    all_lower words c.args.text.now c.args.request.now c.args.source _ _ asks c.requires.short c.requires.read c.requires.keeps c.in-None.is c.printed.ensures

pub returns-in-Some : goal.returns-in-Some
returns-in-Some c words asks =
    all_lower words c.args.text.now c.args.request.now c.args.source _ _ asks c.requires.short c.requires.read c.requires.keeps c.in-Some.is c.run_twice.ensures
