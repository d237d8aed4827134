-- What the parts of a form in code stand for.
use Rattle.std.specs.Prelude.{ℕ, ℤ, [], ◌∷◌, map, Option}
use Rattle.run_code.specs.declared.width.Width.{Width}
use Rattle.form_model.specs.Types as model
use Rattle.form_model.specs.Properties.{if_some, naturals, successor_counts}
use Rattle.form_code.specs.declared.types.Memref.{Memref}

-- the number of a width
abbrev pub bits_in : Width → ℕ
bits_in w = w.bits

-- a memref type as the definitions have it
abbrev pub memref_view : Memref → model.Memref
memref_view m = record { sizes = map model.fixed_size m.dims.now; element = m.element.now }

-- two numbers as the definitions have them
abbrev pub pair_view : record { 0 : ℕ; 1 : ℕ } → ℕ × ℕ
pair_view p = (p.0, p.1)

-- the counts of a branch with a condition, by three numbers
abbrev pub two_naturals : ℤ → ℤ → ℤ → Option (ℕ × ℕ)
two_naturals c a b = if_some (naturals (c ∷ a ∷ b ∷ [])) successor_counts
