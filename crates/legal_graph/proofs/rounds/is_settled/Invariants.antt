use Rattle.std.proofs.Common.{◌≡◌, ◌<◌, ℕ, Some}
use Rattle.std.specs.Prelude.{slice_get}
use Rattle.std.specs.Str.{bytes_eq}
use Rattle.std.specs.HashMap.{get}
use Rattle.legal_graph.specs.declared.infos.PatternInfo.{PatternInfo}
use Rattle.legal_graph.proofs.rounds.is_settled.Given as goal

abbrev pub invariant-each : goal.invariant-each
invariant-each l = (k : ℕ) → k < l.info-index → (p : PatternInfo) → slice_get l.infos k ≡ Some p → get bytes_eq l.found p.root ≡ get bytes_eq l.next p.root
