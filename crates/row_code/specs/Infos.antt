-- What patterns say of themselves, from texts.
use Rattle.std.specs.Prelude.{ℕ, Bool, List, map}
use Rattle.std.specs.Borrow.{Bor}
use Rattle.legal_graph.specs.declared.infos.PatternInfo.{PatternInfo}

abbrev pub texts : List (Bor (List ℕ)) → List (List ℕ)
texts all = map (λ t. t.now) all

-- of benefit 1
abbrev pub says : List ℕ → List (List ℕ) → Bool → PatternInfo
says root products converted = record { root = root; benefit = 1; products = products; converted = converted }
