use Rattle.spelled_reading.proofs.Modules.{read_is_in_bytes}
use Rattle.spelled_reading.proofs.laws.law_read_is_in_bytes.Goals as goal

pub returns : goal.returns
returns c = read_is_in_bytes
