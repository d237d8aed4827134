use Rattle.spelled_reading.proofs.WordBytes.{words_are_in_bytes}
use Rattle.spelled_reading.proofs.laws.law_words_are_in_bytes.Goals as goal

pub returns : goal.returns
returns c = words_are_in_bytes
