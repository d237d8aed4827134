-- The widths of an index.
use Rattle.std.specs.Prelude.{◌≡◌, ◌⊎◌, ℕ}

-- the widths that an index may have
abbrev pub IsWidth : ℕ → Type 0
IsWidth bits = (bits ≡ 32) ⊎ (bits ≡ 64)
