-- Kinds of rows.
use Rattle.std.specs.Prelude.{ℕ, Bool, true, false, List}
use Rattle.std.specs.List.{list_all}
use Rattle.conversion_model.specs.Rows.{Pattern, Row, Straight, Cutting, Framing}

abbrev pub frames_none : Row → Bool
frames_none (Straight row) = true
frames_none (Cutting row) = true
frames_none (Framing row) = false

abbrev pub cuts_none : Row → Bool
cuts_none (Straight row) = true
cuts_none (Cutting row) = false
cuts_none (Framing row) = true

-- whether no row frames
abbrev pub all_frame_none : ℕ → List Pattern → Bool
all_frame_none bits ps = list_all (λ p. frames_none (p.row bits)) ps

-- whether no row cuts
abbrev pub all_cut_none : ℕ → List Pattern → Bool
all_cut_none bits ps = list_all (λ p. cuts_none (p.row bits)) ps
