use Rattle.meaning_model.proofs.Runs.{always_room}
use Rattle.meaning_model.proofs.laws.law_always_room.Goals as goal

pub returns : goal.returns
returns c = always_room
